-- Partners that weren't touched keep their room.
use Rattle.std.proofs.Common.{◌≡◌, ℕ, ◌+◌, ◌<◌, ◌≤◌, ◌≢◌, Bool, true, false, true≢false, List, length, set, refl, ap, sym, ◌∙◌, subst, arith, ◌⊎◌, inl, inr}
use Rattle.std.proofs.lemmas.Bool.Decides.{eqb_tells}
use Rattle.std.proofs.Math.Dec.{eqb}
use Rattle.std.proofs.lemmas.List.{get_or-set_same, get_or-set_other, length-set}
use Rattle.xp_base.specs.Masks.{has}
use Rattle.xp_channel.specs.Channel.{Room}
use Rattle.xp_channel.specs.Room.{IsNoLess}
use Rattle.xp_partner.specs.Partner.{Partner, rooms_of}
use Rattle.xp_partner.specs.Room.{HaveTurnRoom, AreNoLess}
use Rattle.xp_partner.proofs.Making.{own_rooms}
use Rattle.xp_partition.specs.Partners.{Partners, no_partner, partner_at, AreRoomy, AreSameButRoom}

pub same_at : (xs : List Partner) (q : ℕ) (p : Partner) → q < length xs → partner_at (set xs q p) q ≡ p
same_at xs q p l = get_or-set_same xs q p no_partner l

pub other_at : (xs : List Partner) (q i : ℕ) (p : Partner) → i ≢ q → partner_at (set xs q p) i ≡ partner_at xs i
other_at xs q i p h = get_or-set_other xs q i p no_partner h

same_room : (x : Room) → IsNoLess x x
same_room x = record { ready = λ h. h; calls = omega arith; ends = omega arith; next = omega arith; ongoing = refl }

no_less : (x : Partner) → AreNoLess x x
no_less x = λ c l. same_room _

pub unchanged : (x : Partners) → AreSameButRoom x x
unchanged x = record {
  count = refl;
  each = λ q l. own_rooms (partner_at x.list q) (partner_at x.list q) refl;
  room = λ q l. no_less (partner_at x.list q);
}

-- where one of them has got room
pub one_reserved : (x : Partners) (q : ℕ) (p : Partner) → q < length x.list → p ≡ rooms_of (partner_at x.list q) p → AreNoLess (partner_at x.list q) p → AreSameButRoom x (record x { list = set x.list q p })
one_reserved x q p l same room = record {
  count = length-set x.list q p;
  each = λ i k. by i (λ z. z ≡ rooms_of (partner_at x.list i) z) (own_rooms (partner_at x.list i) (partner_at x.list i) refl) (λ e. subst (λ (j : ℕ). p ≡ rooms_of (partner_at x.list j) p) (sym e) same);
  room = λ i k. by i (λ z. AreNoLess (partner_at x.list i) z) (no_less (partner_at x.list i)) (λ e. subst (λ (j : ℕ). AreNoLess (partner_at x.list j) p) (sym e) room);
} where
  by : (i : ℕ) (P : Partner → Type 0) → P (partner_at x.list i) → (i ≡ q → P p) → P (partner_at (set x.list q p) i)
  by i P a b = from (eqb_tells i q) where
    from : ((eqb i q ≡ true) × (i ≡ q)) ⊎ ((eqb i q ≡ false) × (i ≢ q)) → P (partner_at (set x.list q p) i)
    from (inl e) = subst P (sym (ap (partner_at (set x.list q p)) e.1 ∙ same_at x.list q p l)) (b e.1)
    from (inr e) = subst P (sym (other_at x.list q i p e.1)) a

pub ruleset reserving = (unchanged, one_reserved, same_at, other_at)

-- some of them were gone through
pub record Reserving (x : Partners) (n : ℕ) (y : Partners) : Type 0 where
  pub same : AreSameButRoom x y
  pub touched : y.touched ≡ x.touched
  pub rest : (q : ℕ) → n ≤ q → partner_at y.list q ≡ partner_at x.list q
  pub roomy : AreRoomy y

pub reserving_first : (x : Partners) → AreRoomy x → Reserving x 0 x
reserving_first x h = record { same = unchanged x; touched = refl; rest = λ q l. refl; roomy = h }

-- one more
abbrev pub Others : Partners → ℕ → Partners → Type 0
Others y n z = (q : ℕ) → q ≢ n → partner_at z.list q ≡ partner_at y.list q

pub at_or : (P : ℕ → Type 0) (n : ℕ) → P n → ((q : ℕ) → q ≢ n → P q) → (q : ℕ) → P q
at_or P n a b q = from (eqb_tells q n) where
  from : ((eqb q n ≡ true) × (q ≡ n)) ⊎ ((eqb q n ≡ false) × (q ≢ n)) → P q
  from (inl e) = subst P (sym e.1) a
  from (inr e) = b q e.1

pub reserving_next : (x y z : Partners) (n : ℕ) → n < length y.list → Reserving x n y → AreSameButRoom y z → z.touched ≡ y.touched → Others y n z → (has y.touched n ≡ false → z ≡ y) → Reserving x (n + 1) z
reserving_next x y z n l h s t others stays = record {
  same = record {
    count = s.count ∙ h.same.count;
    each = at_or (λ q. q < length x.list → partner_at z.list q ≡ rooms_of (partner_at x.list q) (partner_at z.list q)) n
        (λ k. s.each n l ∙ ap (λ (p : Partner). rooms_of p (partner_at z.list n)) (h.rest n (omega arith)))
        (λ q o k. others q o ∙ h.same.each q k ∙ ap (λ (p : Partner). rooms_of (partner_at x.list q) p) (sym (others q o)));
    room = at_or (λ q. q < length x.list → AreNoLess (partner_at x.list q) (partner_at z.list q)) n
        (λ k. subst (λ (p : Partner). AreNoLess p (partner_at z.list n)) (h.rest n (omega arith)) (s.room n l))
        (λ q o k. subst (AreNoLess (partner_at x.list q)) (sym (others q o)) (h.same.room q k));
  };
  touched = t ∙ h.touched;
  rest = λ q k. others q (λ e. absurd (omega (arith, e, k))) ∙ h.rest q (omega arith);
  roomy = at_or (λ q. q < length z.list → has z.touched q ≡ false → HaveTurnRoom (partner_at z.list q)) n
      (λ k f. let f2 : has y.touched n ≡ false = ap (λ (m : ℕ). has m n) (sym t) ∙ f in
      subst (λ (w : Partners). HaveTurnRoom (partner_at w.list n)) (sym (stays f2)) (h.roomy n l f2))
      (λ q o k f. subst HaveTurnRoom (sym (others q o)) (h.roomy q (subst (λ (m : ℕ). q < m) s.count k) (ap (λ (m : ℕ). has m q) (sym t) ∙ f)));
}

abbrev pub HaveRoomBelow : ℕ → Partners → Type 0
HaveRoomBelow n y = (q : ℕ) → q < n → HaveTurnRoom (partner_at y.list q)

touched_or : (P : Type 0) (b : Bool) → (b ≡ true → P) → (b ≡ false → P) → P
touched_or P true f g = f refl
touched_or P false f g = g refl

pub below_next : (y z : Partners) (n : ℕ) → n < length y.list → AreRoomy y → Others y n z → (has y.touched n ≡ true → HaveTurnRoom (partner_at z.list n)) → (has y.touched n ≡ false → z ≡ y) → HaveRoomBelow n y → HaveRoomBelow (n + 1) z
below_next y z n l r others ok stays h = at_or (λ q. q < n + 1 → HaveTurnRoom (partner_at z.list q)) n
    (λ k. touched_or (HaveTurnRoom (partner_at z.list n)) (has y.touched n) ok (λ f. subst (λ (w : Partners). HaveTurnRoom (partner_at w.list n)) (sym (stays f)) (r n l f)))
    (λ q o k. subst HaveTurnRoom (sym (others q o)) (h q (lower q n o k))) where
      lower : (q n : ℕ) → q ≢ n → q < n + 1 → q < n
      lower q n o k = grind (arith, o, k)

pub ruleset reserving_all = (reserving_first, reserving_next, below_next)

-- a partner that is touched, and one that changes then
pub touched_roomy : (x y : Partners) (q : ℕ) → length x.list ≤ 64 → y.list ≡ x.list → has y.touched q ≡ true → ((i : ℕ) → i < 64 → i ≢ q → has y.touched i ≡ has x.touched i) → AreRoomy x → AreRoomy y
touched_roomy x y q few same here others h = at_or (λ i. i < length y.list → has y.touched i ≡ false → HaveTurnRoom (partner_at y.list i)) q
    (λ l f. absurd (true≢false (sym here ∙ f)))
    (λ i d l f. let k : i < length x.list = subst (λ (xs : List Partner). i < length xs) same l in
    subst (λ (xs : List Partner). HaveTurnRoom (partner_at xs i)) (sym same) (h i k (sym (others i (omega (arith, k, few)) d) ∙ f)))

pub changed_roomy : (x : Partners) (q : ℕ) (p : Partner) → has x.touched q ≡ true → AreRoomy x → AreRoomy (record x { list = set x.list q p })
changed_roomy x q p here h = at_or (λ i. i < length (set x.list q p) → has x.touched i ≡ false → HaveTurnRoom (partner_at (set x.list q p) i)) q
    (λ l f. absurd (true≢false (sym here ∙ f)))
    (λ i d l f. subst HaveTurnRoom (sym (other_at x.list q i p d)) (h i (subst (λ (n : ℕ). i < n) (length-set x.list q p) l) f))
