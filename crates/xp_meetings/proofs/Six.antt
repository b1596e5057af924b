-- The words that two partitions keep for each other's engagement, and what steps leave of them.
use Rattle.std.proofs.Common.{◌≡◌, ℕ, ◌^◌, ◌<◌, Bool, true, false, ◌&&◌, cond, eqb, refl, ap, sym, ◌∙◌, arith, bit_or, bit_and, inl, inr}
use Rattle.xp_base.specs.declared.layout.TheConstants.{PARTS, STAMP, ENGAGED}
use Rattle.std.specs.Int.{bit_at}
use Rattle.std.proofs.lemmas.Bool.{cases_eq, ne_eqb}
use Rattle.xp_base.specs.declared.step.OpKind.{OpKind}
use Rattle.xp_base.specs.declared.step.OpKind.TheVariants.{Store, Or, And}
use Rattle.xp_base.specs.Places.{Place, Open, Record}
use Rattle.xp_protocol.specs.Effects.{all_but}
use Rattle.xp_meetings.proofs.Words.{Words, write, does, self, far}
use Rattle.xp_meetings.proofs.Bits.{or_here, or_else, and_here, and_else}

-- the records of each for the other, and the bits of each at the other
pub record Six : Type 0 where
  pub magic : ℕ
  pub one : ℕ
  pub two : ℕ
  pub bit : ℕ
  pub their_magic : ℕ
  pub their_one : ℕ
  pub their_two : ℕ
  pub their_bit : ℕ
  pub stamp : ℕ  -- the own stamps
  pub their_stamp : ℕ

abbrev pub six : Words → ℕ → ℕ → Six
six w a q = record { magic = w a (Record q 0); one = w a (Record q 1); two = w a (Record q 2); bit = bit_at (w q (Open ENGAGED)) a; their_magic = w q (Record a 0); their_one = w q (Record a 1); their_two = w q (Record a 2); their_bit = bit_at (w a (Open ENGAGED)) q; stamp = w a (Open STAMP); their_stamp = w q (Open STAMP) }

-- words at another partition
pub six_away : (w : Words) (k : OpKind) (a : ℕ) (pl : Place) (p q : ℕ) → (p ≡ a → ⊥) → (q ≡ a → ⊥) → six (does k a pl w) p q ≡ six w p q
six_away w k a pl p q n o =
    let f : (x : Place) → does k a pl w p x ≡ w p x = λ x. far k a pl w p x (λ d. n (sym d)) in
    let g : (x : Place) → does k a pl w q x ≡ w q x = λ x. far k a pl w q x (λ d. o (sym d)) in
    λ i. record { magic = f (Record q 0) i; one = f (Record q 1) i; two = f (Record q 2) i; bit = bit_at (g (Open ENGAGED) i) p; their_magic = g (Record p 0) i; their_one = g (Record p 1) i; their_two = g (Record p 2) i; their_bit = bit_at (f (Open ENGAGED) i) q; stamp = f (Open STAMP) i; their_stamp = g (Open STAMP) i }

-- a store in the own record for a partner
same_no : (b : Bool) (v x : ℕ) → cond ((b && false) && true) v x ≡ x
same_no true v x = refl
same_no false v x = refl

record_else : (w : Words) (a k f v q g : ℕ) → (q ≡ k → ⊥) → write w a (Record k f) v a (Record q g) ≡ w a (Record q g)
record_else w a k f v q g n = rw (ne_eqb k q (λ e. n (sym e)), self a) (same_no (eqb f g) v (w a (Record q g)))

record_at : (w : Words) (a k f v g : ℕ) → write w a (Record k f) v a (Record k g) ≡ cond (eqb f g) v (w a (Record k g))
record_at w a k f v g = rw (self k, self a) (by (eqb f g)) where
  by : (b : Bool) → cond ((b && true) && true) v (w a (Record k g)) ≡ cond b v (w a (Record k g))
  by true = refl
  by false = refl

pub six_else : (w : Words) (a k f v q : ℕ) → (q ≡ a → ⊥) → (q ≡ k → ⊥) → six (write w a (Record k f) v) a q ≡ six w a q
six_else w a k f v q n o =
    let g : (x : Place) → write w a (Record k f) v q x ≡ w q x = λ x. far (Store v) a (Record k f) w q x (λ d. n (sym d)) in
    λ i. record { magic = record_else w a k f v q 0 o i; one = record_else w a k f v q 1 o i; two = record_else w a k f v q 2 o i; bit = bit_at (g (Open ENGAGED) i) a; their_magic = g (Record a 0) i; their_one = g (Record a 1) i; their_two = g (Record a 2) i; their_bit = bit_at (w a (Open ENGAGED)) q; stamp = w a (Open STAMP); their_stamp = g (Open STAMP) i }

pub six_here : (w : Words) (a k f v : ℕ) → (k ≡ a → ⊥) → six (write w a (Record k f) v) a k ≡ record (six w a k) { magic = cond (eqb f 0) v (w a (Record k 0)); one = cond (eqb f 1) v (w a (Record k 1)); two = cond (eqb f 2) v (w a (Record k 2)) }
six_here w a k f v n =
    let g : (x : Place) → write w a (Record k f) v k x ≡ w k x = λ x. far (Store v) a (Record k f) w k x (λ d. n (sym d)) in
    λ i. record { magic = record_at w a k f v 0 i; one = record_at w a k f v 1 i; two = record_at w a k f v 2 i; bit = bit_at (g (Open ENGAGED) i) a; their_magic = g (Record a 0) i; their_one = g (Record a 1) i; their_two = g (Record a 2) i; their_bit = bit_at (w a (Open ENGAGED)) q_bit; stamp = w a (Open STAMP); their_stamp = g (Open STAMP) i }
  where
    q_bit : ℕ
    q_bit = k

-- a store of the own stamp
pub stamp_at : (w : Words) (a v : ℕ) → write w a (Open STAMP) v a (Open STAMP) ≡ v
stamp_at w a v = rw (self a) refl

pub six_stamp : (w : Words) (a v q : ℕ) → (q ≡ a → ⊥) → six (write w a (Open STAMP) v) a q ≡ record (six w a q) { stamp = v }
six_stamp w a v q n =
    let g : (x : Place) → write w a (Open STAMP) v q x ≡ w q x = λ x. far (Store v) a (Open STAMP) w q x (λ d. n (sym d)) in
    λ i. record { magic = w a (Record q 0); one = w a (Record q 1); two = w a (Record q 2); bit = bit_at (g (Open ENGAGED) i) a; their_magic = g (Record a 0) i; their_one = g (Record a 1) i; their_two = g (Record a 2) i; their_bit = bit_at (w a (Open ENGAGED)) q; stamp = stamp_at w a v i; their_stamp = g (Open STAMP) i }

-- a step on the partner's engagement word: the bits of all but a are as they were
abbrev Bits : (w w' : Words) → ℕ → ℕ → Type 0
Bits w w' a k = (q i : ℕ) → i < PARTS → (i ≡ a → ⊥) → bit_at (w' q (Open ENGAGED)) i ≡ bit_at (w q (Open ENGAGED)) i

bit_far : (w : Words) (k : OpKind) (o q : ℕ) → (q ≡ o → ⊥) → does k o (Open ENGAGED) w q (Open ENGAGED) ≡ w q (Open ENGAGED)
bit_far w k o q n = far k o (Open ENGAGED) w q (Open ENGAGED) (λ d. n (sym d))

or_there : (w : Words) (o v : ℕ) → does (Or v) o (Open ENGAGED) w o (Open ENGAGED) ≡ bit_or (w o (Open ENGAGED)) v
or_there w o v = rw (self o) refl

and_there : (w : Words) (o v : ℕ) → does (And v) o (Open ENGAGED) w o (Open ENGAGED) ≡ bit_and (w o (Open ENGAGED)) v
and_there w o v = rw (self o) refl

pub or_bits : (w : Words) (a k q i : ℕ) → (i ≡ a → ⊥) → bit_at (does (Or (2 ^ a)) k (Open ENGAGED) w q (Open ENGAGED)) i ≡ bit_at (w q (Open ENGAGED)) i
or_bits w a k q i n = elim (cases_eq q k) [
  | inl e ↦ ap (λ (x : ℕ). bit_at (does (Or (2 ^ a)) k (Open ENGAGED) w x (Open ENGAGED)) i) e ∙ ap (λ (x : ℕ). bit_at x i) (or_there w k (2 ^ a)) ∙ or_else (w k (Open ENGAGED)) a i (λ d. n (sym d)) ∙ ap (λ (x : ℕ). bit_at (w x (Open ENGAGED)) i) (sym e)
  | inr d ↦ ap (λ (x : ℕ). bit_at x i) (bit_far w (Or (2 ^ a)) k q d)
]

pub and_bits : (w : Words) (a k q i : ℕ) → a < PARTS → i < PARTS → (i ≡ a → ⊥) → bit_at (does (And (all_but a)) k (Open ENGAGED) w q (Open ENGAGED)) i ≡ bit_at (w q (Open ENGAGED)) i
and_bits w a k q i la li n = elim (cases_eq q k) [
  | inl e ↦ ap (λ (x : ℕ). bit_at (does (And (all_but a)) k (Open ENGAGED) w x (Open ENGAGED)) i) e ∙ ap (λ (x : ℕ). bit_at x i) (and_there w k (all_but a)) ∙ and_else (w k (Open ENGAGED)) a i (omega (arith, la)) (omega (arith, li)) (λ d. n (sym d)) ∙ ap (λ (x : ℕ). bit_at (w x (Open ENGAGED)) i) (sym e)
  | inr d ↦ ap (λ (x : ℕ). bit_at x i) (bit_far w (And (all_but a)) k q d)
]

pub six_bits : (w : Words) (k : OpKind) (o p q : ℕ) → bit_at (does k o (Open ENGAGED) w q (Open ENGAGED)) p ≡ bit_at (w q (Open ENGAGED)) p → bit_at (does k o (Open ENGAGED) w p (Open ENGAGED)) q ≡ bit_at (w p (Open ENGAGED)) q → ((x f : ℕ) → does k o (Open ENGAGED) w x (Record p f) ≡ w x (Record p f)) → ((x f : ℕ) → does k o (Open ENGAGED) w x (Record q f) ≡ w x (Record q f)) → ((x : ℕ) → does k o (Open ENGAGED) w x (Open STAMP) ≡ w x (Open STAMP)) → six (does k o (Open ENGAGED) w) p q ≡ six w p q
six_bits w k o p q e f g h j = λ i. record { magic = h p 0 i; one = h p 1 i; two = h p 2 i; bit = e i; their_magic = g q 0 i; their_one = g q 1 i; their_two = g q 2 i; their_bit = f i; stamp = j p i; their_stamp = j q i }

pub six_set : (w : Words) (a k : ℕ) → (k ≡ a → ⊥) → six (does (Or (2 ^ a)) k (Open ENGAGED) w) a k ≡ record (six w a k) { bit = 1 }
six_set w a k n =
    let e : bit_at (does (Or (2 ^ a)) k (Open ENGAGED) w k (Open ENGAGED)) a ≡ 1 = ap (λ (x : ℕ). bit_at x a) (or_there w k (2 ^ a)) ∙ or_here (w k (Open ENGAGED)) a in
    λ i. record (six w a k) { bit = e i; their_bit = or_bits w a k a k n i }

pub six_clear : (w : Words) (a k : ℕ) → a < PARTS → k < PARTS → (k ≡ a → ⊥) → six (does (And (all_but a)) k (Open ENGAGED) w) a k ≡ record (six w a k) { bit = 0 }
six_clear w a k la lk n =
    let e : bit_at (does (And (all_but a)) k (Open ENGAGED) w k (Open ENGAGED)) a ≡ 0 = ap (λ (x : ℕ). bit_at x a) (and_there w k (all_but a)) ∙ and_here (w k (Open ENGAGED)) a (omega (arith, la)) in
    λ i. record (six w a k) { bit = e i; their_bit = and_bits w a k a k la lk n i }
