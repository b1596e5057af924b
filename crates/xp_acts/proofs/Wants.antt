-- Partners that are wanted again, or aren't wanted any more.
use Rattle.std.proofs.Common.{◌≡◌, ℕ, zero, suc, ◌+◌, ◌<◌, ◌≤◌, ◌≢◌, Bool, true, false, List, [], ◌∷◌, length, map, set, get_or, refl, ap, sym, ◌∙◌, subst, arith, ◌⊎◌, inl, inr}
use Rattle.std.proofs.lemmas.List.{map-set, length-set, length-map, set_past, ext_get_or, get_or-map as map_at}
use Rattle.std.proofs.lemmas.Bool.{cases_lt}
use Rattle.std.proofs.Math.ListN.{get_or-map}
use Rattle.xp_protocol.specs.State.{Peer, each, peer_at}
use Rattle.xp_protocol.specs.Acts.{unwanted}
use Rattle.xp_partner.specs.Named.{AreNamed}
use Rattle.xp_partner.specs.Partner.{Partner, peer_seen, channel_of}
use Rattle.xp_partner.specs.Making.{known_as}
use Rattle.xp_partner.specs.Room.{HaveNotes, HaveNotesLeft}
use Rattle.xp_partner.proofs.Telling.{unwanted_made, wanted_made}
use Rattle.xp_partition.specs.Partners.{Partners, no_partner, partner_at, LeavesUntouched}
use Rattle.xp_partition.proofs.Roomy.{same_at, other_at, at_or}
use Rattle.xp_partition.proofs.Opened.{seen_at}
use Rattle.xp_acts.specs.Becoming.{IsAlike, Becomes}
use Rattle.xp_acts.specs.Wanting.{wanting, peer_wanted}
use Rattle.xp_acts.proofs.Becoming.{Touches, leaves_others, unchanged, alike}

-- what a partner is then
pub turned_on : (p y : Partner) → AreNamed p.standing.own p.standing.partner p.channels → y ≡ known_as (peer_wanted true (peer_seen p)) (λ c. []) p → y ≡ wanting true p
turned_on p y h e = e ∙ sym (wanted_made p h.four)

pub turned_off : (p y : Partner) → AreNamed p.standing.own p.standing.partner p.channels → y ≡ known_as (peer_wanted false (peer_seen p)) (λ c. []) p → y ≡ wanting false p
turned_off p y h e = e ∙ sym (unwanted_made p h.four)

wanting_put : (xs ys : List Partner) (q : ℕ) (b : Bool) (p y : Partner) → ys ≡ xs → p ≡ partner_at ys q → y ≡ wanting b p → set ys q y ≡ set xs q (wanting b (partner_at xs q))
wanting_put xs ys q b p y e h k =
    ap (set ys q) (k ∙ ap (wanting b) (h ∙ ap (λ (zs : List Partner). partner_at zs q) e))
    ∙ ap (λ (zs : List Partner). set zs q (wanting b (partner_at xs q))) e

pub turns_on : (xs ys : List Partner) (q : ℕ) (b : Bool) (p y : Partner) → b ≡ true → ys ≡ xs → p ≡ partner_at ys q → AreNamed p.standing.own p.standing.partner p.channels
    → y ≡ known_as (peer_wanted true (peer_seen p)) (λ c. []) p → set ys q y ≡ set xs q (wanting b (partner_at xs q))
turns_on xs ys q b p y d e h names k = wanting_put xs ys q b p y e h (turned_on p y names k ∙ ap (λ (a : Bool). wanting a p) (sym d))

pub turns_off : (xs ys : List Partner) (q : ℕ) (b : Bool) (p y : Partner) → b ≡ false → ys ≡ xs → p ≡ partner_at ys q → AreNamed p.standing.own p.standing.partner p.channels
    → y ≡ known_as (peer_wanted false (peer_seen p)) (λ c. []) p → set ys q y ≡ set xs q (wanting b (partner_at xs q))
turns_off xs ys q b p y d e h names k = wanting_put xs ys q b p y e h (turned_off p y names k ∙ ap (λ (a : Bool). wanting a p) (sym d))

seen_wanting : (b : Bool) (p : Partner) → peer_seen (wanting b p) ≡ peer_wanted b (peer_seen p)
seen_wanting true p = refl
seen_wanting false p = refl

alike_wanting : (b : Bool) (p : Partner) → IsAlike p.standing (wanting b p).standing
alike_wanting true p = record { own = refl; partner = refl; version = refl; wait = refl; check = refl; stamp = refl; masked = refl; zeroed = refl; cleared = refl }
alike_wanting false p = record { own = refl; partner = refl; version = refl; wait = refl; check = refl; stamp = refl; masked = refl; zeroed = refl; cleared = refl }

-- some of the partners become so, and only those that are touched
pub record Turned (b : Bool) (x : Partners) (n m : ℕ) (y : Partners) : Type 0 where
  pub count : length y.list ≡ length x.list
  pub over : (q : ℕ) → n ≤ q → q < m → partner_at y.list q ≡ wanting b (partner_at x.list q)
  pub rest : (q : ℕ) → (n ≤ q → q < m → ⊥) → partner_at y.list q ≡ partner_at x.list q
  pub untouched : LeavesUntouched x y

-- what holds of each partner holds of it then, if it doesn't depend on whether it is wanted
stays : (P : Partner → Type 0) (b : Bool) (x : Partners) (n m : ℕ) (y : Partners) → Turned b x n m y → (q : ℕ) → (P (partner_at x.list q) → P (wanting b (partner_at x.list q))) → P (partner_at x.list q) → P (partner_at y.list q)
stays P b x n m y h q f k = from (cases_lt q m) (cases_lt q n) where
  from : (q < m) ⊎ (m ≤ q) → (q < n) ⊎ (n ≤ q) → P (partner_at y.list q)
  from (inl i) (inr j) = subst P (sym (h.over q j i)) (f k)
  from (inl i) (inl j) = subst P (sym (h.rest q (λ a d. omega (arith, a, j)))) k
  from (inr i) j = subst P (sym (h.rest q (λ a d. omega (arith, d, i)))) k

-- room is at the ends
notes_wanting : (b : Bool) (n : ℕ) (p : Partner) → HaveNotes n p → HaveNotes n (wanting b p)
notes_wanting b n p h = h

left_wanting : (b : Bool) (n : ℕ) (p : Partner) → HaveNotesLeft n p → HaveNotesLeft n (wanting b p)
left_wanting b n p h = h

turned_becomes : (b : Bool) (x : Partners) (n m : ℕ) (y : Partners) (peers : List Peer) → Turned b x n m y → map peer_seen y.list ≡ peers → Becomes 0 x peers (λ q c. []) y
turned_becomes b x n m y peers h e = record {
  known = e;
  count = h.count;
  records = λ q c l k. stays (λ p. (channel_of p c).records ≡ (channel_of (partner_at x.list q) c).records) b x n m y h q (λ i. i) refl;
  standing = λ q l. stays (λ p. IsAlike (partner_at x.list q).standing p.standing) b x n m y h q (λ i. alike_wanting b (partner_at x.list q)) (alike (partner_at x.list q).standing);
  untouched = h.untouched;
  room = λ k i q l. stays (HaveNotes k) b x n m y h q (notes_wanting b k (partner_at x.list q))
      (subst (λ (j : ℕ). HaveNotes j (partner_at x.list q)) (none_more k) (i q (subst (λ (j : ℕ). q < j) h.count l)));
  left = λ k i q l. stays (HaveNotesLeft k) b x n m y h q (left_wanting b k (partner_at x.list q))
      (subst (λ (j : ℕ). HaveNotesLeft j (partner_at x.list q)) (none_more k) (i q (subst (λ (j : ℕ). q < j) h.count l)));
} where
  none_more : (k : ℕ) → k + 0 ≡ k
  none_more k = omega arith

-- one of them
abbrev pub IsOneWanted : Bool → Partners → ℕ → Partners → Type 0
IsOneWanted b x q y = y.list ≡ set x.list q (wanting b (partner_at x.list q))

one_turned : (b : Bool) (x : Partners) (q t : ℕ) → q < length x.list → Touches x q t → Turned b x q (q + 1) (record { list = set x.list q (wanting b (partner_at x.list q)); touched = t })
one_turned b x q t l h = record {
  count = length-set x.list q (wanting b (partner_at x.list q));
  over = λ i a d. let e : i ≡ q = omega (arith, a, d) in
      subst (λ (j : ℕ). partner_at (set x.list q (wanting b (partner_at x.list q))) j ≡ wanting b (partner_at x.list j)) (sym e) (same_at x.list q (wanting b (partner_at x.list q)) l);
  rest = λ i f. other_at x.list q i (wanting b (partner_at x.list q)) (λ e. f (omega (arith, e)) (omega (arith, e)));
  untouched = leaves_others x q (wanting b (partner_at x.list q)) t h;
}

seen_turned : (b : Bool) (xs : List Partner) (q : ℕ) → map peer_seen (set xs q (wanting b (partner_at xs q))) ≡ set (map peer_seen xs) q (peer_wanted b (peer_at (map peer_seen xs) q))
seen_turned b xs q =
    map-set peer_seen xs q (wanting b (partner_at xs q))
    ∙ ap (set (map peer_seen xs) q) (seen_wanting b (partner_at xs q) ∙ ap (peer_wanted b) (sym (seen_at xs q)))

pub wants_one : (b : Bool) (x y : Partners) (q : ℕ) → q < length x.list → IsOneWanted b x q y → Touches x q y.touched
    → Becomes 0 x (set (map peer_seen x.list) q (peer_wanted b (peer_at (map peer_seen x.list) q))) (λ i c. []) y
wants_one b x y q l e h =
    subst (λ (xs : List Partner). Becomes 0 x (set (map peer_seen x.list) q (peer_wanted b (peer_at (map peer_seen x.list) q))) (λ i c. []) (record { list = xs; touched = y.touched })) (sym e)
    (turned_becomes b x q (q + 1) (record { list = set x.list q (wanting b (partner_at x.list q)); touched = y.touched }) _ (one_turned b x q y.touched l h) (seen_turned b x.list q))

-- or none, where there is no such partner
pub wants_none : (b : Bool) (x : Partners) (q : ℕ) → length x.list ≤ q
    → Becomes 0 x (set (map peer_seen x.list) q (peer_wanted b (peer_at (map peer_seen x.list) q))) (λ i c. []) x
wants_none b x q l =
    subst (λ (peers : List Peer). Becomes 0 x peers (λ i c. []) x)
    (sym (set_past (map peer_seen x.list) q (peer_wanted b (peer_at (map peer_seen x.list) q)) (subst (λ (n : ℕ). n ≤ q) (sym (length-map x.list peer_seen)) l)))
    (unchanged x)

-- all of them, one after the other
pub leaves_first : (x : Partners) → Turned false x 0 0 x
leaves_first x = record { count = refl; over = λ q a d. absurd (omega (arith, d)); rest = λ q f. refl; untouched = (unchanged x).untouched }

untouched_then : (x y z : Partners) → LeavesUntouched x y → LeavesUntouched y z → LeavesUntouched x z
untouched_then x y z a b = record {
  same = λ q l f. b.same q l f ∙ a.same q l (b.still q l f);
  still = λ q l f. a.still q l (b.still q l f);
}

pub leaves_next : (x y z : Partners) (n : ℕ) → n < length y.list → Turned false x 0 n y → IsOneWanted false y n z → Touches y n z.touched → Turned false x 0 (n + 1) z
leaves_next x y z n l h e t = record {
  count = ap (λ (xs : List Partner). length xs) e ∙ length-set y.list n (wanting false (partner_at y.list n)) ∙ h.count;
  over = λ q a d. at_or (λ i. i < n + 1 → partner_at z.list i ≡ wanting false (partner_at x.list i)) n
      (λ j. here ∙ ap (wanting false) (h.rest n (λ u v. omega (arith, v))))
      (λ i u j. others i u ∙ h.over i (omega arith) (below i u j)) q d;
  rest = λ q f. others q (λ u. f (omega arith) (omega (arith, u))) ∙ h.rest q (λ a d. f (omega arith) (omega (arith, d)));
  untouched = untouched_then x y z h.untouched last;
} where
  here : partner_at z.list n ≡ wanting false (partner_at y.list n)
  here = ap (λ (xs : List Partner). partner_at xs n) e ∙ same_at y.list n (wanting false (partner_at y.list n)) l

  others : (q : ℕ) → q ≢ n → partner_at z.list q ≡ partner_at y.list q
  others q d = ap (λ (xs : List Partner). partner_at xs q) e ∙ other_at y.list n q (wanting false (partner_at y.list n)) d

  below : (i : ℕ) → i ≢ n → i < n + 1 → i < n
  below i u j = grind (arith, u, j)

  last : LeavesUntouched y z
  last = subst (λ (xs : List Partner). LeavesUntouched y (record { list = xs; touched = z.touched })) (sym e) (leaves_others y n (wanting false (partner_at y.list n)) z.touched t)

each_length : (n : ℕ) (xs : List Peer) → length (each (λ q p. unwanted p) n xs) ≡ length xs
each_length n [] = refl
each_length n (x ∷ xs) = ap (λ (k : ℕ). suc k) (each_length (n + 1) xs)

each_at : (d : Peer) (n : ℕ) (xs : List Peer) (i : ℕ) → get_or (each (λ q p. unwanted p) n xs) i (unwanted d) ≡ unwanted (get_or xs i d)
each_at d n [] i = refl
each_at d n (x ∷ xs) zero = refl
each_at d n (x ∷ xs) (suc i) = each_at d (n + 1) xs i

all_unwanted : (x y : Partners) → Turned false x 0 (length x.list) y → map peer_seen y.list ≡ each (λ q p. unwanted p) 0 (map peer_seen x.list)
all_unwanted x y h =
    let d : Peer = unwanted (peer_seen no_partner) in
    ext_get_or d (map peer_seen y.list) (each (λ q p. unwanted p) 0 (map peer_seen x.list))
    (length-map y.list peer_seen ∙ h.count ∙ sym (length-map x.list peer_seen) ∙ sym (each_length 0 (map peer_seen x.list)))
    (λ i k. let j : i < length y.list = subst (λ (n : ℕ). i < n) (length-map y.list peer_seen) k in
    map_at peer_seen y.list i no_partner d j
    ∙ ap peer_seen (h.over i (omega arith) (subst (λ (n : ℕ). i < n) h.count j))
    ∙ ap unwanted (sym (get_or-map peer_seen x.list i no_partner))
    ∙ sym (each_at (peer_seen no_partner) 0 (map peer_seen x.list) i))

pub leaves_last : (x y : Partners) (n : ℕ) → n ≡ length x.list → Turned false x 0 n y → Becomes 0 x (each (λ q p. unwanted p) 0 (map peer_seen x.list)) (λ i c. []) y
leaves_last x y n e h = let k = subst (λ (m : ℕ). Turned false x 0 m y) e h in turned_becomes false x 0 (length x.list) y _ k (all_unwanted x y k)

pub ruleset leaving = (leaves_first, leaves_next, leaves_last)
