-- What a step for a partner makes of it, and of the partition.
use Rattle.std.proofs.Common.{◌≡◌, ℕ, ◌+◌, ◌<◌, ◌≢◌, Bool, true, List, [], length, refl, ap, sym, ◌∙◌, subst, Option, Some, None}
use Rattle.std.specs.Prelude.{if◌then◌else◌}
use Rattle.std.proofs.lemmas.Bool.{eq-eqb, ne_eqb}
use Rattle.xp_base.specs.declared.step.Answer.{Answer}
use Rattle.xp_base.specs.declared.step.Answer.TheVariants.{Word, Failed}
use Rattle.xp_base.specs.declared.step.CopyMark.{CopyMark}
use Rattle.xp_script.specs.declared.part.ScenarioPart.{ScenarioPart}
use Rattle.xp_protocol.specs.declared.rule.PeerRule.{PeerRule}
use Rattle.xp_protocol.specs.declared.rule.PeerRule.TheVariants.{AskActivation, TakeFlags, CloseArea, ZeroMagic, ClearOldBit, Prepare, OpenArea, SetEngagementBit, ReadRecord, StoreEcho, StoreSecond, ClearEngagementBit, LookAtPage, CheckBeat, ClearDeactivationBit, TellPartner}
use Rattle.xp_protocol.specs.declared.rule.Rule.{Rule}
use Rattle.xp_protocol.specs.declared.rule.Rule.TheVariants.{Peer as ForPeer}
use Rattle.xp_protocol.specs.Effects.{Effect, Note, with_notes}
use Rattle.xp_protocol.specs.State.{State, Peer, Clock, Copies, Reading, peer_of}
use Rattle.xp_protocol.specs.Peering.{Here, peer_effect, peer_row, record_read, with_reason}
use Rattle.xp_protocol.specs.Rules.{here_of, mark_of, peer_answered, peer_numbered, noted_rule, counted}
use Rattle.xp_engage.specs.Partner.{Partner as Standing, here}
use Rattle.xp_partner.specs.Named.{AreNamed}
use Rattle.std.proofs.lemmas.List.{length-map}
use Rattle.xp_partner.specs.Partner.{Partner, peer_seen, end_seen, channel_of, rooms_of}
use Rattle.xp_partner.specs.Making.{known_as}
use Rattle.xp_partner.specs.Room.{KeepLeft, HaveNotes, HaveNotesLeft}
use Rattle.xp_partition.specs.declared.keeping.Keeping.{Keeping}
use Rattle.xp_partition.specs.declared.life.Life.TheVariants.{Up as KeptUp, Booting as KeptBooting}
use Rattle.xp_partition.specs.Partners.{Partners, partner_at}
use Rattle.xp_partition.specs.Opening.{IsStanding}
use Rattle.xp_partition.specs.Keeping.{state_of, IsKept}
use Rattle.xp_partition.proofs.Asking.{peer_is}
use Rattle.xp_partition.proofs.Opened.{seen_rooms}
use Rattle.xp_steps.specs.Counting.{counted_by}
use Rattle.xp_steps.specs.Changing.{ChangesOne, IsPeerStepped}
use Rattle.xp_steps.specs.Stepping.{CanStep, IsStepped}
use Rattle.xp_steps.proofs.Counts.{counted_for}
use Rattle.xp_steps.proofs.Links.{answered_four}
use Rattle.xp_steps.proofs.Becoming.{Becomes, becomes_stepped, one_becomes, left_as, seen_known, records_known, roomed_at}
use Rattle.xp_steps.proofs.LinkSteps.{named_as}
use Rattle.xp_steps.proofs.Allowed.{peer_partner, peer_within, copies_low, turns_low, may_follow}

-- no effect reads whether the stamp was read
read_same : (y : Here) (b : Bool) (p : Peer) (o : Option Reading) (w : ℕ) → record_read y p o w ≡ record_read (record y { read = b }) p o w
read_same y b p None w = refl
read_same y b p (Some r) w = refl

effect_same : (y : Here) (b : Bool) (p : Peer) (m : PeerRule) (w : ℕ) → peer_effect y p m w ≡ peer_effect (record y { read = b }) p m w
effect_same y b p AskActivation w = refl
effect_same y b p TakeFlags w = refl
effect_same y b p CloseArea w = refl
effect_same y b p ZeroMagic w = refl
effect_same y b p ClearOldBit w = refl
effect_same y b p (Prepare word) w = refl
effect_same y b p OpenArea w = refl
effect_same y b p SetEngagementBit w = refl
effect_same y b p ReadRecord w = read_same y b p p.engage.reading w
effect_same y b p StoreEcho w = refl
effect_same y b p StoreSecond w = refl
effect_same y b p ClearEngagementBit w = refl
effect_same y b p LookAtPage w = refl
effect_same y b p CheckBeat w = refl
effect_same y b p ClearDeactivationBit w = refl
effect_same y b p TellPartner w = refl

answered_same : (y : Here) (b : Bool) (mark : Option CopyMark) (p : Peer) (m : PeerRule) (a : Answer) → peer_answered y mark p m a ≡ peer_answered (record y { read = b }) mark p m a
answered_same y b mark p m (Word w) = effect_same y b (peer_numbered mark p) m w
answered_same y b mark p m Failed = refl

here_same : (part part' version version' turn turn' wait wait' check check' stamp stamp' : ℕ) (masked masked' read : Bool) → part ≡ part' → version ≡ version' → turn ≡ turn' → wait ≡ wait' → check ≡ check' → masked ≡ masked' → stamp ≡ stamp'
    → ◌≡◌ {A = Here} (record { part = part; version = version; turn = turn; wait = wait; check = check; masked = masked; stamp = stamp; read = read }) (record { part = part'; version = version'; turn = turn'; wait = wait'; check = check'; masked = masked'; stamp = stamp'; read = read })
here_same part part' version version' turn turn' wait wait' check check' stamp stamp' masked masked' read a b c d e f g = cc

pub here_is : (x : Keeping) (q turn : ℕ) (y : Standing) → turn ≡ x.clock.turns + 1 → IsStanding x.part x.stamp x.beat.mask q y → here turn y ≡ record (here_of x.part (state_of x) q) { read = true }
here_is x q turn y t k = here_same _ _ _ _ _ _ _ _ _ _ _ _ _ _ true k.own k.version t k.wait k.checked k.masked k.stamped

abbrev pub effect_for : ScenarioPart → State → ℕ → Option CopyMark → PeerRule → Answer → Effect Peer (ℕ → List Note)
effect_for s st q mark m a = peer_answered (here_of s st q) mark (peer_of st q) m a

pub left_kept : (x y : Partner) → KeepLeft x.channels y.channels → (n : ℕ) → HaveNotes (n + 1) x → HaveNotesLeft n y
left_kept x y h n k = λ c l. h n c l (left_as n x k c l)

module _ (x : Keeping) (q turn : ℕ) (m : PeerRule) (mark : Option CopyMark) (a : Answer) (y : Partner) (kept : IsKept x) (inside : q < x.part.count) (t : turn ≡ x.clock.turns + 1) (k : IsPeerStepped turn m mark a (partner_at x.partners.list q) y) where
  abbrev s : ScenarioPart
  s = x.part

  abbrev st : State
  st = state_of x

  abbrev old : Partner
  old = partner_at x.partners.list q

  stands : IsStanding s x.stamp x.beat.mask q old.standing
  stands = kept.standing q inside

  names : AreNamed s.part q old.channels
  names = named_as s x.stamp x.beat.mask q old stands k.names

  effect_is : peer_answered (here turn old.standing) mark (peer_seen old) m a ≡ effect_for s st q mark m a
  effect_is =
      ap (λ (h : Here). peer_answered h mark (peer_seen old) m a) (here_is x q turn old.standing t stands)
      ∙ sym (answered_same (here_of s st q) true mark (peer_seen old) m a)
      ∙ ap (λ (p : Peer). peer_answered (here_of s st q) mark p m a) (peer_is x q)

  four : length (effect_for s st q mark m a).local.links ≡ 4
  four = answered_four (here_of s st q) mark (peer_of st q) m a (subst (λ (p : Peer). length p.links ≡ 4) (peer_is x q) (length_seen old names.four)) where
    length_seen : (z : Partner) → length z.channels ≡ 4 → length (peer_seen z).links ≡ 4
    length_seen z n = length-map z.channels end_seen ∙ n

  abbrev made_now : Effect Peer (ℕ → List Note) → Partner
  made_now f = known_as (with_reason f.reason f.local) f.notes old

  made : y ≡ rooms_of (made_now (effect_for s st q mark m a)) y
  made = k.made ∙ ap (λ (f : Effect Peer (ℕ → List Note)). rooms_of (made_now f) y) effect_is

  becomes : Becomes s x.stamp x.beat.mask q (with_reason (effect_for s st q mark m a).reason (effect_for s st q mark m a).local) (effect_for s st q mark m a).notes old y
  becomes =
      let f = effect_for s st q mark m a in
      let p = with_reason f.reason f.local in
      record {
        seen = ap peer_seen made ∙ seen_rooms (made_now f) y ∙ seen_known p f.notes old names.four four;
        records = λ c l. ap (λ (z : Partner). (channel_of z c).records) made ∙ roomed_at (made_now f).channels y.channels c
            ∙ records_known p f.notes old q c names.four l (names.each c l).partner_number (names.each c l).channel_number;
        standing = subst (λ (z : Standing). IsStanding s x.stamp x.beat.mask q z) (sym (ap (λ (z : Partner). z.standing) made)) (record {
          own = stands.own;
          partner = stands.partner;
          version = stands.version;
          wait = stands.wait;
          checked = stands.checked;
          stamped = stands.stamped;
          masked = stands.masked;
        });
        left = left_kept old y k.left;
      }

noted_here : (s : ScenarioPart) (st : State) (q : ℕ) (m : PeerRule) (a : Answer) (c : ℕ) → noted_rule s st (ForPeer q m) a q c ≡ (effect_for s st q (mark_of s st (ForPeer q m)) m a).notes c
noted_here s st q m a c = ap (λ (b : Bool). if b then (effect_for s st q (mark_of s st (ForPeer q m)) m a).notes c else []) (eq-eqb q q refl)

noted_apart : (s : ScenarioPart) (st : State) (q : ℕ) (m : PeerRule) (a : Answer) (i c : ℕ) → i ≢ q → noted_rule s st (ForPeer q m) a i c ≡ []
noted_apart s st q m a i c n = ap (λ (b : Bool). if b then (effect_for s st q (mark_of s st (ForPeer q m)) m a).notes c else []) (ne_eqb q i (λ f. n (sym f)))

-- with the mark of the step
pub peer_becomes : (x : Keeping) (q turn : ℕ) (m : PeerRule) (mark : Option CopyMark) (a : Answer) (y : Partner) → IsKept x → q < x.part.count → turn ≡ x.clock.turns + 1 → mark ≡ mark_of x.part (state_of x) (ForPeer q m) → IsPeerStepped turn m mark a (partner_at x.partners.list q) y
    → (let f = effect_for x.part (state_of x) q (mark_of x.part (state_of x) (ForPeer q m)) m a in
    Becomes x.part x.stamp x.beat.mask q (with_reason f.reason f.local) (λ c. noted_rule x.part (state_of x) (ForPeer q m) a q c) (partner_at x.partners.list q) y)
peer_becomes x q turn m mark a y kept inside t e k =
    let mk = mark_of x.part (state_of x) (ForPeer q m) in
    let f = effect_for x.part (state_of x) q mk m a in
    let b : Becomes x.part x.stamp x.beat.mask q (with_reason f.reason f.local) f.notes (partner_at x.partners.list q) y = becomes x q turn m mk a y kept inside t (subst (λ (o : Option CopyMark). IsPeerStepped turn m o a (partner_at x.partners.list q) y) e k) in
    record {
      seen = b.seen;
      records = λ c l. b.records c l ∙ ap (λ (ns : List Note). with_notes q c ns (channel_of (partner_at x.partners.list q) c).records) (sym (noted_here x.part (state_of x) q m a c));
      standing = b.standing;
      left = b.left;
    }

pub noted_others : (x : Keeping) (q : ℕ) (m : PeerRule) (a : Answer) (i c : ℕ) → i ≢ q → noted_rule x.part (state_of x) (ForPeer q m) a i c ≡ []
noted_others x q m a i c n = noted_apart x.part (state_of x) q m a i c n

clock_peered : (x : Keeping) (q : ℕ) (m : PeerRule) (mark : Option CopyMark) (clock : Clock) → mark ≡ mark_of x.part (state_of x) (ForPeer q m) → clock ≡ record x.clock { copies = counted_by mark x.clock.copies }
    → clock ≡ record x.clock { copies = counted (peer_row x.part.part x.stamp q (peer_of (state_of x) q) m).copy x.clock.copies }
clock_peered x q m mark clock e f =
    f ∙ ap (λ (z : Copies). record x.clock { copies = z })
    (ap (λ (o : Option CopyMark). counted_by o x.clock.copies) e ∙ counted_for (state_of x) (ForPeer q m) (peer_row x.part.part x.stamp q (peer_of (state_of x) q) m).copy x.clock.copies)

-- the last step's turn is the present one
turn_now : (x : Keeping) (mark : Option CopyMark) (clock : Clock) (turns : ℕ) → clock ≡ record x.clock { copies = counted_by mark x.clock.copies } → turns ≡ clock.turns → turns + 1 ≡ x.clock.turns + 1
turn_now x mark clock turns f e = ap (λ (n : ℕ). n + 1) (e ∙ ap (λ (z : Clock). z.turns) f)

pub peer_followed : (x : Keeping) (q turns : ℕ) (m : PeerRule) (mark : Option CopyMark) (a : Answer) (clock : Clock) (ps : Partners) → CanStep x (ForPeer q m) → x.life ≡ KeptUp → mark ≡ mark_of x.part (state_of x) (ForPeer q m)
    → clock ≡ record x.clock { copies = counted_by mark x.clock.copies } → turns ≡ clock.turns
    → ChangesOne q x.partners ps → IsPeerStepped (turns + 1) m mark a (partner_at x.partners.list q) (partner_at ps.list q)
    → IsStepped x (ForPeer q m) a (record x { clock = clock; partners = ps })
peer_followed x q turns m mark a clock ps h up e f t one k =
    let mk = mark_of x.part (state_of x) (ForPeer q m) in
    let g = effect_for x.part (state_of x) q mk m a in
    becomes_stepped x x.life x.boot x.stamp x.beat clock ps (ForPeer q m) a h.kept
    (one_becomes x.part x.stamp x.beat.mask x.partners.list ps.list q (with_reason g.reason g.local) (noted_rule x.part (state_of x) (ForPeer q m) a) (peer_within x q m h) one.list
    (λ i l. h.kept.standing i (subst (λ (n : ℕ). i < n) h.kept.count l))
    (peer_becomes x q (turns + 1) m mark a (partner_at ps.list q) h.kept (peer_partner x q m h) (turn_now x mark clock turns f t) e k)
    (noted_others x q m a))
    (λ qs. ap (λ (z : Clock). record (state_of x) { clock = z; peers = qs }) (clock_peered x q m mark clock e f))
    refl refl (λ i. absurd (apart (sym up ∙ i))) one.untouched where
      apart : KeptUp ≡ KeptBooting → ⊥
      apart i = cc

turns_mid : (x : Keeping) (rule : Rule) (mark : Option CopyMark) (clock : Clock) (turns : ℕ) → CanStep x rule → clock ≡ record x.clock { copies = counted_by mark x.clock.copies } → turns ≡ clock.turns → turns ≡ x.clock.turns
turns_mid x rule mark clock turns h f e = e ∙ ap (λ (z : Clock). z.turns) f

pub ruleset stepping = (peer_followed, copies_low, turns_low, may_follow, peer_within)
