-- A word of the partition's own memory that concerns all partners, and what it makes of each.
use Rattle.std.proofs.Common.{◌≡◌, ℕ, ◌+◌, ◌<◌, ◌≤◌, ◌≢◌, Bool, true, false, List, [], length, map, refl, ap, sym, ◌∙◌, subst, arith, Option, None}
use Rattle.std.specs.Prelude.{if◌then◌else◌, ◌&&◌, not}
use Rattle.std.proofs.lemmas.List.{length-map, length-set}
use Rattle.xp_base.specs.declared.reason.Reason.{Reason}
use Rattle.xp_base.specs.Masks.{has}
use Rattle.xp_script.specs.declared.part.ScenarioPart.{ScenarioPart}
use Rattle.xp_protocol.specs.Effects.{Effect, Note, with_notes}
use Rattle.xp_protocol.specs.State.{Peer, Old, cold_peer, peer_at, each}
use Rattle.xp_protocol.specs.Linking.{link_finished}
use Rattle.xp_protocol.specs.Peering.{is_flagged, is_left, freed_engage, peer_read, area_off, same_peer, deactivation_heard, with_reason}
use Rattle.xp_protocol.proofs.Frames.{length-each}
use Rattle.xp_protocol.proofs.Slots.{at_each}
use Rattle.xp_engage.specs.Partner.{Partner as Standing}
use Rattle.xp_engage.proofs.Stepping.{links_none}
use Rattle.xp_partner.specs.Named.{AreNamed}
use Rattle.xp_partner.specs.Partner.{Partner, peer_seen, end_seen, channel_of, rooms_of}
use Rattle.xp_partner.specs.Making.{after_effect, known_as}
use Rattle.xp_partner.specs.Room.{HasNotesLeft, KeepLeft}
use Rattle.xp_partner.proofs.Making.{with_none, own_rooms}
use Rattle.xp_partition.specs.Partners.{Partners, partner_at, LeavesUntouched}
use Rattle.xp_partition.specs.Opening.{IsStanding}
use Rattle.xp_partition.proofs.Roomy.{other_at, at_or}
use Rattle.xp_partition.proofs.Opened.{seen_rooms, seen_at}
use Rattle.xp_steps.specs.declared.telling.OwnWord.{OwnWord}
use Rattle.xp_steps.specs.declared.telling.OwnWord.TheVariants.{Engaged, Deactivated, Mask, Stamp}
use Rattle.xp_steps.specs.Changing.{ChangesOne}
use Rattle.xp_steps.specs.Telling.{told_by, IsTold, AreToldBelow, AreTold}
use Rattle.xp_steps.proofs.Links.{engaged_four, heard_four}
use Rattle.xp_steps.proofs.Becoming.{Becomes, AllBecome, seen_known, records_known, roomed_at}
use Rattle.xp_steps.proofs.LinkSteps.{named_as}
use Rattle.xp_steps.proofs.PeerSteps.{left_kept}

-- one is told
pub told_engaged : (w q : ℕ) (x y : Partner) → x.standing.partner ≡ q → AreNamed x.standing.own x.standing.partner x.channels → y ≡ rooms_of (after_effect (peer_read w x.standing.partner (peer_seen x)) x) y → KeepLeft x.channels y.channels → IsTold (Engaged w) q x y
told_engaged w q x y e names made left = record {
  names = names;
  made = made ∙ ap (λ (n : ℕ). rooms_of (after_effect (peer_read w n (peer_seen x)) x) y) e;
  left = left;
}

pub told_deactivated : (w q : ℕ) (x y : Partner) → x.standing.partner ≡ q → AreNamed x.standing.own x.standing.partner x.channels → y ≡ after_effect (deactivation_heard w x.standing.partner (peer_seen x)) x → KeepLeft x.channels y.channels → IsTold (Deactivated w) q x y
told_deactivated w q x y e names made left = record {
  names = names;
  made = own_rooms y (told_by (Deactivated w) q x) (made ∙ ap (λ (n : ℕ). after_effect (deactivation_heard w n (peer_seen x)) x) e);
  left = left;
}

pub told_mask : (w q : ℕ) (x y : Partner) (b : Bool) → AreNamed x.standing.own x.standing.partner x.channels → b ≡ has w q → y ≡ record x { standing = record x.standing { masked = b } } → IsTold (Mask w) q x y
told_mask w q x y b names e made = record {
  names = names;
  made = own_rooms y (told_by (Mask w) q x) (made ∙ ap (λ (c : Bool). record x { standing = record x.standing { masked = c } }) e);
  left = λ n c l k. subst (λ (z : Partner). HasNotesLeft n (channel_of z c)) (sym made) k;
}

pub told_stamp : (w q : ℕ) (x y : Partner) → AreNamed x.standing.own x.standing.partner x.channels → y ≡ record x { standing = record x.standing { stamp = w } } → IsTold (Stamp w) q x y
told_stamp w q x y names made = record {
  names = names;
  made = own_rooms y (told_by (Stamp w) q x) made;
  left = λ n c l k. subst (λ (z : Partner). HasNotesLeft n (channel_of z c)) (sym made) k;
}

pub ruleset hearing = (told_engaged, told_deactivated, told_mask, told_stamp)

-- all are, one after the other
pub no_change : (x : Partners) → LeavesUntouched x x
no_change x = record { same = λ q l f. refl; still = λ q l f. f }

pub untouched_then : (x y z : Partners) → LeavesUntouched x y → LeavesUntouched y z → LeavesUntouched x z
untouched_then x y z h k = record {
  same = λ q l f. k.same q l f ∙ h.same q l (k.still q l f);
  still = λ q l f. h.still q l (k.still q l f);
}

pub told_none : (word : OwnWord) (x : Partners) → AreToldBelow 0 word x x
told_none word x = record { count = refl; told = λ q l. absurd (omega (arith, l)); rest = λ q l. refl; untouched = no_change x }

pub told_next : (n : ℕ) (word : OwnWord) (x y z : Partners) → n < length y.list → AreToldBelow n word x y → ChangesOne n y z → IsTold word n (partner_at y.list n) (partner_at z.list n) → AreToldBelow (n + 1) word x z
told_next n word x y z l h one k = record {
  count = ap (λ (ps : List Partner). length ps) one.list ∙ length-set y.list n (partner_at z.list n) ∙ h.count;
  told = at_or (λ q. q < n + 1 → IsTold word q (partner_at x.list q) (partner_at z.list q)) n
      (λ j. subst (λ (p : Partner). IsTold word n p (partner_at z.list n)) (h.rest n (omega arith)) k)
      (λ q d j. subst (IsTold word q (partner_at x.list q)) (sym (others q d)) (h.told q (grind (arith, d, j))));
  rest = λ q j. others q (λ e. absurd (omega (arith, e, j))) ∙ h.rest q (omega (arith, j));
  untouched = untouched_then x y z h.untouched one.untouched;
} where
  others : (q : ℕ) → q ≢ n → partner_at z.list q ≡ partner_at y.list q
  others q d = ap (λ (ps : List Partner). partner_at ps q) one.list ∙ other_at y.list n q (partner_at z.list n) d

pub told_all : (n : ℕ) (word : OwnWord) (x y : Partners) → length y.list ≤ n → AreToldBelow n word x y → AreTold word x y
told_all n word x y l h = record {
  count = h.count;
  told = λ q j. h.told q (let c = h.count in omega (arith, l, j, c));
  untouched = h.untouched;
}

-- those that come later are known by their numbers still
pub later_known : (n : ℕ) (word : OwnWord) (x y : Partners) → ((q : ℕ) → q < length x.list → (partner_at x.list q).standing.partner ≡ q) → n < length y.list → AreToldBelow n word x y → (partner_at y.list n).standing.partner ≡ n
later_known n word x y k l h =
    ap (λ (p : Partner). p.standing.partner) (h.rest n (omega arith))
    ∙ k n (let c = h.count in omega (arith, l, c))

pub count_told : (n : ℕ) (word : OwnWord) (x y : Partners) → AreToldBelow n word x y → length y.list ≡ length x.list
count_told n word x y h = h.count

pub ruleset telling = (told_none, told_next, told_all, later_known, count_told)

-- what is known of a partner then, and what is noted at its ends
abbrev pub stamp_by : OwnWord → ℕ → ℕ
stamp_by (Stamp w) stamp = w
stamp_by word stamp = stamp

abbrev pub mask_by : OwnWord → ℕ → ℕ
mask_by (Mask w) mask = w
mask_by word mask = mask

abbrev pub effect_by : OwnWord → ℕ → Peer → Effect Peer (ℕ → List Note)
effect_by (Engaged w) q p = peer_read w q p
effect_by (Deactivated w) q p = deactivation_heard w q p
effect_by (Mask w) q p = same_peer p
effect_by (Stamp w) q p = same_peer p

read_reason : (w q : ℕ) (p : Peer) → (peer_read w q p).reason ≡ None
read_reason w q p = by (is_left p.engage && not (is_flagged w q)) where
  by : (b : Bool) → (if b then area_off p else same_peer p).reason ≡ None
  by true = links_none (λ c e. link_finished e) (λ c e. refl) (record p { contact = None; engage = freed_engage p.engage })
  by false = refl

length_seen : (x : Partner) → length x.channels ≡ 4 → length (peer_seen x).links ≡ 4
length_seen x n = length-map x.channels end_seen ∙ n

-- where an effect that gives no reason is kept
abbrev kept_by : Effect Peer (ℕ → List Note) → Partner → Partner
kept_by f x = known_as f.local f.notes x

without_reason : (f : Effect Peer (ℕ → List Note)) (x : Partner) → f.reason ≡ None → after_effect f x ≡ kept_by f x
without_reason f x e =
    ap (λ (o : Option Reason). known_as (with_reason o f.local) f.notes x) e
    ∙ ap (λ (p : Peer). known_as p f.notes x) (with_none f.local)

effect_becomes : (s : ScenarioPart) (stamp mask q : ℕ) (f : Effect Peer (ℕ → List Note)) (x y : Partner) → IsStanding s stamp mask q x.standing → AreNamed x.standing.own x.standing.partner x.channels → f.reason ≡ None → length f.local.links ≡ 4 → y ≡ rooms_of (after_effect f x) y → KeepLeft x.channels y.channels
    → Becomes s stamp mask q f.local f.notes x y
effect_becomes s stamp mask q f x y k names none four made left =
    let now : y ≡ rooms_of (kept_by f x) y = made ∙ ap (λ (z : Partner). rooms_of z y) (without_reason f x none) in
    let n = named_as s stamp mask q x k names in
    record {
      seen = ap peer_seen now ∙ seen_rooms (kept_by f x) y ∙ seen_known f.local f.notes x names.four four;
      records = λ c l. ap (λ (z : Partner). (channel_of z c).records) now ∙ roomed_at (kept_by f x).channels y.channels c
          ∙ records_known f.local f.notes x q c names.four l (n.each c l).partner_number (n.each c l).channel_number;
      standing = subst (λ (z : Standing). IsStanding s stamp mask q z) (sym (ap (λ (z : Partner). z.standing) now)) (record {
        own = k.own;
        partner = k.partner;
        version = k.version;
        wait = k.wait;
        checked = k.checked;
        stamped = k.stamped;
        masked = k.masked;
      });
      left = left_kept x y left;
    }

-- where the standing alone changes
standing_becomes : (s : ScenarioPart) (stamp mask q : ℕ) (z : Standing) (x y : Partner) → IsStanding s stamp mask q z → peer_seen (record x { standing = z }) ≡ peer_seen x → y ≡ rooms_of (record x { standing = z }) y → KeepLeft x.channels y.channels
    → Becomes s stamp mask q (peer_seen x) (λ c. []) x y
standing_becomes s stamp mask q z x y k same made left = record {
  seen = ap peer_seen made ∙ seen_rooms (record x { standing = z }) y ∙ same;
  records = λ c l. ap (λ (v : Partner). (channel_of v c).records) made ∙ roomed_at x.channels y.channels c;
  standing = subst (λ (v : Standing). IsStanding s stamp mask q v) (sym (ap (λ (v : Partner). v.standing) made)) k;
  left = left_kept x y left;
}

told_becomes : (s : ScenarioPart) (stamp mask q : ℕ) (word : OwnWord) (x y : Partner) → IsStanding s stamp mask q x.standing → IsTold word q x y
    → Becomes s (stamp_by word stamp) (mask_by word mask) q (effect_by word q (peer_seen x)).local (effect_by word q (peer_seen x)).notes x y
told_becomes s stamp mask q (Engaged w) x y k h = effect_becomes s stamp mask q (peer_read w q (peer_seen x)) x y k h.names (read_reason w q (peer_seen x)) (engaged_four w q (peer_seen x) (length_seen x h.names.four)) h.made h.left
told_becomes s stamp mask q (Deactivated w) x y k h = effect_becomes s stamp mask q (deactivation_heard w q (peer_seen x)) x y k h.names refl (heard_four w q (peer_seen x) (length_seen x h.names.four)) h.made h.left
told_becomes s stamp mask q (Mask w) x y k h = standing_becomes s stamp w q (record x.standing { masked = is_flagged w q }) x y (record { own = k.own; partner = k.partner; version = k.version; wait = k.wait; checked = k.checked; stamped = k.stamped; masked = refl }) refl h.made h.left
told_becomes s stamp mask q (Stamp w) x y k h = standing_becomes s w mask q (record x.standing { stamp = w }) x y (record { own = k.own; partner = k.partner; version = k.version; wait = k.wait; checked = k.checked; stamped = refl; masked = k.masked }) refl h.made h.left

-- and of all of them
abbrev pub peers_by : OwnWord → List Peer → List Peer
peers_by (Engaged w) ps = each (λ q p. (peer_read w q p).local) 0 ps
peers_by (Deactivated w) ps = each (λ q p. (deactivation_heard w q p).local) 0 ps
peers_by (Mask w) ps = ps
peers_by (Stamp w) ps = ps

peers_count : (word : OwnWord) (ps : List Peer) → length (peers_by word ps) ≡ length ps
peers_count (Engaged w) ps = length-each _ 0 ps
peers_count (Deactivated w) ps = length-each _ 0 ps
peers_count (Mask w) ps = refl
peers_count (Stamp w) ps = refl

peers_at : (word : OwnWord) (ps : List Peer) (q : ℕ) → q < length ps → (effect_by word q (peer_at ps q)).local ≡ peer_at (peers_by word ps) q
peers_at (Engaged w) ps q l = at_each (λ (p : Peer). (peer_read w q (peer_at ps q)).local ≡ p) (λ i p. (peer_read w i p).local) ps q (cold_peer Old) refl (λ m. absurd (omega (arith, m, l)))
peers_at (Deactivated w) ps q l = at_each (λ (p : Peer). (deactivation_heard w q (peer_at ps q)).local ≡ p) (λ i p. (deactivation_heard w i p).local) ps q (cold_peer Old) refl (λ m. absurd (omega (arith, m, l)))
peers_at (Mask w) ps q l = refl
peers_at (Stamp w) ps q l = refl

pub all_told : (s : ScenarioPart) (stamp mask : ℕ) (word : OwnWord) (x y : Partners) → ((q : ℕ) → q < length x.list → IsStanding s stamp mask q (partner_at x.list q).standing) → AreTold word x y
    → AllBecome s (stamp_by word stamp) (mask_by word mask) (peers_by word (map peer_seen x.list)) (λ q. (effect_by word q (peer_at (map peer_seen x.list) q)).notes) x.list y.list
all_told s stamp mask word x y k h = record {
  count = h.count;
  known = peers_count word (map peer_seen x.list) ∙ length-map x.list peer_seen;
  each = λ q l.
      let old = partner_at x.list q in
      let b = told_becomes s stamp mask q word old (partner_at y.list q) (k q l) (h.told q l) in
      let low : q < length (map peer_seen x.list) = subst (λ (n : ℕ). q < n) (sym (length-map x.list peer_seen)) l in
      let is : peer_seen old ≡ peer_at (map peer_seen x.list) q = sym (seen_at x.list q) in
      record {
        seen = b.seen ∙ ap (λ (p : Peer). (effect_by word q p).local) is ∙ peers_at word (map peer_seen x.list) q low;
        records = λ c m. b.records c m ∙ ap (λ (p : Peer). with_notes q c ((effect_by word q p).notes c) (channel_of old c).records) is;
        standing = b.standing;
        left = b.left;
      };
}
