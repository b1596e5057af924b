-- What a step at one end makes of its partner, and of the partition.
use Rattle.std.proofs.Common.{◌≡◌, ℕ, ◌<◌, ◌≢◌, Bool, List, [], refl, ap, sym, ◌∙◌, subst, Option}
use Rattle.std.specs.Prelude.{if◌then◌else◌, nat_eq}
use Rattle.std.proofs.lemmas.Bool.{eq-eqb, ne_eqb}
use Rattle.std.proofs.lemmas.List.{get_or-set_other}
use Rattle.xp_base.specs.declared.layout.TheConstants.{CHANNELS}
use Rattle.xp_base.specs.Places.{Entry, index_of}
use Rattle.xp_base.specs.declared.step.Answer.{Answer}
use Rattle.xp_base.specs.declared.step.Answer.TheVariants.{Word, Failed}
use Rattle.xp_base.specs.declared.step.CopyMark.{CopyMark}
use Rattle.xp_script.specs.declared.part.ScenarioPart.{ScenarioPart}
use Rattle.xp_protocol.specs.declared.rule.LinkRule.{LinkRule}
use Rattle.xp_protocol.specs.declared.rule.Rule.{Rule}
use Rattle.xp_protocol.specs.declared.rule.Rule.TheVariants.{Link}
use Rattle.xp_protocol.specs.Effects.{Effect, Note, with_notes}
use Rattle.xp_protocol.specs.State.{State, End, Peer, Clock, Copies, peer_of, end_of, set_link}
use Rattle.xp_protocol.specs.Linking.{link_row}
use Rattle.xp_protocol.specs.Peering.{with_reason, end_reason}
use Rattle.xp_protocol.specs.Rules.{mark_of, link_answered, numbered, place_for, noted_rule, puts_after, counted}
use Rattle.xp_engage.specs.Partner.{Partner as Standing, unmarked}
use Rattle.xp_channel.specs.Channel.{Channel, new_channel}
use Rattle.xp_channel.specs.Planned.{answered, rule_mark, place_of}
use Rattle.xp_partner.specs.Named.{AreNamed}
use Rattle.xp_partner.specs.Partner.{Partner, peer_seen, channel_of}
use Rattle.xp_partner.specs.Stepping.{link_made}
use Rattle.xp_partner.proofs.Linked.{link_known as link_defined}
use Rattle.xp_partition.specs.declared.keeping.Keeping.{Keeping}
use Rattle.xp_partition.specs.Partners.{Partners, partner_at}
use Rattle.xp_partition.specs.Opening.{IsStanding}
use Rattle.xp_partition.specs.Keeping.{state_of}
use Rattle.xp_partition.proofs.Roomy.{at_or}
use Rattle.xp_partition.proofs.Asking.{peer_is, end_is}
use Rattle.xp_steps.specs.Counting.{counted_by}
use Rattle.xp_steps.specs.Changing.{ChangesOne, IsLinkStepped}
use Rattle.xp_steps.specs.Stepping.{CanStep, IsStepped}
use Rattle.xp_steps.proofs.Counts.{counted_for, unmarked_for}
use Rattle.xp_steps.proofs.Becoming.{Becomes, becomes_stepped, one_becomes}
use Rattle.xp_steps.proofs.Allowed.{within, link_partner, link_channel, link_within, up_boots_not, copies_low, puts_low, may_link}

-- names by the numbers of the partition and of the partner
pub named_as : (s : ScenarioPart) (stamp mask q : ℕ) (x : Partner) → IsStanding s stamp mask q x.standing → AreNamed x.standing.own x.standing.partner x.channels → AreNamed s.part q x.channels
named_as s stamp mask q x k h = subst (λ (n : ℕ). AreNamed n q x.channels) k.own (subst (λ (n : ℕ). AreNamed x.standing.own n x.channels) k.partner h)

-- the effect at the end, in the words of the definitions
abbrev effect_at : ScenarioPart → State → ℕ → ℕ → LinkRule → Answer → Effect End (List Note)
effect_at s st q c m a = link_answered (mark_of s st (Link q c m)) (place_for s c) (end_of st q c) m a

abbrev peer_linked : ScenarioPart → State → ℕ → ℕ → LinkRule → Answer → Peer
peer_linked s st q c m a =
    with_reason (end_reason (peer_of st q).flags_seen (effect_at s st q c m a).reason)
    (set_link (numbered (mark_of s st (Link q c m)) c (peer_of st q)) c (effect_at s st q c m a).local)

notes_by : (mark : Option CopyMark) (other : Option CopyMark) (place : ℕ) (e : End) (m : LinkRule) (a : Answer) → (link_answered mark place e m a).notes ≡ (link_answered other place e m a).notes
notes_by mark other place e m (Word w) = refl
notes_by mark other place e m Failed = refl

module _ (x : Keeping) (q c : ℕ) (m : LinkRule) (mark : Option CopyMark) (a : Answer) (y : Partner) (h : CanStep x (Link q c m)) (e : mark ≡ mark_of x.part (state_of x) (Link q c m)) (k : IsLinkStepped c m mark a (partner_at x.partners.list q) y) where
  abbrev s : ScenarioPart
  s = x.part

  abbrev st : State
  st = state_of x

  abbrev old : Partner
  old = partner_at x.partners.list q

  stands : IsStanding s x.stamp x.beat.mask q old.standing
  stands = h.kept.standing q (link_partner x q c m h)

  names : AreNamed s.part q old.channels
  names = named_as s x.stamp x.beat.mask q old stands k.names

  low : c < CHANNELS
  low = link_channel x q c m h

  end_now : (channel_of old c).end ≡ end_of st q c
  end_now = end_is x q c

  marked : unmarked mark ≡ rule_mark (channel_of old c) m
  marked =
      let n = names.each c low in
      ap unmarked e ∙ unmarked_for st (Link q c m) (link_row s.part q c (end_of st q c) m).copy
      ∙ ap (λ (z : End). rule_mark (record (channel_of old c) { own = s.part; partner = q; channel = c; end = z }) m) (sym end_now)
      ∙ ap (λ (i : ℕ). rule_mark (record (channel_of old c) { own = i; partner = q; channel = c }) m) (sym n.own_number)
      ∙ ap (λ (i : ℕ). rule_mark (record (channel_of old c) { partner = i; channel = c }) m) (sym n.partner_number)
      ∙ ap (λ (i : ℕ). rule_mark (record (channel_of old c) { channel = i }) m) (sym n.channel_number)

  seen : peer_seen y ≡ peer_linked s st q c m a
  seen =
      ap peer_seen k.whole
      ∙ link_defined s.part q c mark m a (channel_of y c) old low names marked k.end
      ∙ ap (λ (p : Peer). link_made s.part c mark p m a) (peer_is x q)
      ∙ ap (λ (o : Option CopyMark). link_made s.part c o (peer_of st q) m a) e

  notes_at : (answered (channel_of old c) m a).notes ≡ (effect_at s st q c m a).notes
  notes_at =
      let n = names.each c low in
      notes_by (rule_mark (channel_of old c) m) (mark_of s st (Link q c m)) (place_of (channel_of old c)) (channel_of old c).end m a
      ∙ ap (λ (z : End). (link_answered (mark_of s st (Link q c m)) (place_of (channel_of old c)) z m a).notes) end_now
      ∙ ap (λ (i : ℕ). (link_answered (mark_of s st (Link q c m)) (index_of (Entry i (channel_of old c).channel 0)) (end_of st q c) m a).notes) n.own_number
      ∙ ap (λ (i : ℕ). (link_answered (mark_of s st (Link q c m)) (index_of (Entry s.part i 0)) (end_of st q c) m a).notes) n.channel_number

  here : (channel_of y c).records ≡ with_notes q c (effect_at s st q c m a).notes (channel_of old c).records
  here =
      let n = names.each c low in
      ap (λ (z : Channel). z.records) k.end
      ∙ ap (λ (i : ℕ). with_notes i (channel_of old c).channel (answered (channel_of old c) m a).notes (channel_of old c).records) n.partner_number
      ∙ ap (λ (i : ℕ). with_notes q i (answered (channel_of old c) m a).notes (channel_of old c).records) n.channel_number
      ∙ ap (λ (ns : List Note). with_notes q c ns (channel_of old c).records) notes_at

  other : (d : ℕ) → d ≢ c → (channel_of y d).records ≡ (channel_of old d).records
  other d n =
      ap (λ (z : Partner). (channel_of z d).records) k.whole
      ∙ ap (λ (z : Channel). z.records) (get_or-set_other old.channels c d (channel_of y c) (new_channel 0 0 0) n)

  noted_here : noted_rule s st (Link q c m) a q c ≡ (effect_at s st q c m a).notes
  noted_here =
      ap (λ (b : Bool). if b then (if nat_eq c c then (effect_at s st q c m a).notes else []) else []) (eq-eqb q q refl)
      ∙ ap (λ (b : Bool). if b then (effect_at s st q c m a).notes else []) (eq-eqb c c refl)

  noted_other : (d : ℕ) → d ≢ c → noted_rule s st (Link q c m) a q d ≡ []
  noted_other d n =
      ap (λ (b : Bool). if b then (if nat_eq c d then (effect_at s st q c m a).notes else []) else []) (eq-eqb q q refl)
      ∙ ap (λ (b : Bool). if b then (effect_at s st q c m a).notes else []) (ne_eqb c d (λ f. n (sym f)))

  becomes : Becomes s x.stamp x.beat.mask q (peer_linked s st q c m a) (λ d. noted_rule s st (Link q c m) a q d) old y
  becomes = record {
    seen = seen;
    records = at_or (λ d. d < CHANNELS → (channel_of y d).records ≡ with_notes q d (noted_rule s st (Link q c m) a q d) (channel_of old d).records) c
        (λ l. here ∙ ap (λ (ns : List Note). with_notes q c ns (channel_of old c).records) (sym noted_here))
        (λ d n l. other d n ∙ ap (λ (ns : List Note). with_notes q d ns (channel_of old d).records) (sym (noted_other d n)));
    standing = subst (λ (z : Standing). IsStanding s x.stamp x.beat.mask q z) (sym (ap (λ (z : Partner). z.standing) k.whole)) (record {
      own = stands.own;
      partner = stands.partner;
      version = stands.version;
      wait = stands.wait;
      checked = stands.checked;
      stamped = stands.stamped;
      masked = stands.masked;
    });
    left = k.left;
  }

  noted_apart : (i d : ℕ) → i ≢ q → noted_rule s st (Link q c m) a i d ≡ []
  noted_apart i d n = ap (λ (b : Bool). if b then (if nat_eq c d then (effect_at s st q c m a).notes else []) else []) (ne_eqb q i (λ f. n (sym f)))

clock_linked : (x : Keeping) (q c : ℕ) (m : LinkRule) (mark : Option CopyMark) (a : Answer) (mid clock : Clock) → mark ≡ mark_of x.part (state_of x) (Link q c m) → mid ≡ record x.clock { copies = counted_by mark x.clock.copies } → ((i d : ℕ) → clock ≡ record mid { puts = puts_after (Link i d m) a mid.puts })
    → clock ≡ record x.clock { puts = puts_after (Link q c m) a x.clock.puts; copies = counted (link_row x.part.part q c (end_of (state_of x) q c) m).copy x.clock.copies }
clock_linked x q c m mark a mid clock e f g =
    g q c
    ∙ ap (λ (z : Clock). record z { puts = puts_after (Link q c m) a z.puts }) f
    ∙ ap (λ (z : Copies). record x.clock { puts = puts_after (Link q c m) a x.clock.puts; copies = z })
    (ap (λ (o : Option CopyMark). counted_by o x.clock.copies) e ∙ counted_for (state_of x) (Link q c m) (link_row x.part.part q c (end_of (state_of x) q c) m).copy x.clock.copies)

pub link_followed : (x : Keeping) (q c : ℕ) (m : LinkRule) (mark : Option CopyMark) (a : Answer) (mid clock : Clock) (ps : Partners) → CanStep x (Link q c m) → mark ≡ mark_of x.part (state_of x) (Link q c m)
    → mid ≡ record x.clock { copies = counted_by mark x.clock.copies } → ((i d : ℕ) → clock ≡ record mid { puts = puts_after (Link i d m) a mid.puts })
    → ChangesOne q x.partners ps → IsLinkStepped c m mark a (partner_at x.partners.list q) (partner_at ps.list q)
    → IsStepped x (Link q c m) a (record x { clock = clock; partners = ps })
link_followed x q c m mark a mid clock ps h e f g one k =
    becomes_stepped x x.life x.boot x.stamp x.beat clock ps (Link q c m) a h.kept
    (one_becomes x.part x.stamp x.beat.mask x.partners.list ps.list q (peer_linked x.part (state_of x) q c m a) (noted_rule x.part (state_of x) (Link q c m) a) (link_within x q c m h) one.list
    (λ i l. h.kept.standing i (subst (λ (n : ℕ). i < n) h.kept.count l))
    (becomes x q c m mark a (partner_at ps.list q) h e k)
    (noted_apart x q c m mark a (partner_at ps.list q) h e k))
    (λ qs. ap (λ (z : Clock). record (state_of x) { clock = z; peers = qs }) (clock_linked x q c m mark a mid clock e f g))
    refl refl (λ i. absurd (up_boots_not x h.can.0 i)) one.untouched

puts_mid : (x : Keeping) (rule : Rule) (mark : Option CopyMark) (mid : Clock) → CanStep x rule → mid ≡ record x.clock { copies = counted_by mark x.clock.copies } → mid.puts ≡ x.clock.puts
puts_mid x rule mark mid h f = ap (λ (z : Clock). z.puts) f

pub ruleset stepping = (link_followed, copies_low, puts_low, may_link, link_within)
