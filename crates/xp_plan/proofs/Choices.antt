-- What a choice between two steps says of the step that was chosen.
use Rattle.std.proofs.Common.{◌≡◌, ℕ, ◌<◌, ◌≤◌, Bool, true, false, refl, ◌⊎◌, inl, inr, Option, Some, None, arith}
use Rattle.std.specs.Prelude.{IsSome, if◌then◌else◌, not, is_some, nat_lt, nat_le, nat_eq}
use Rattle.std.proofs.lemmas.Bool.Decides.{nat_tests}
use Rattle.xp_plan.specs.EndSteps.{step_if, or_else}

pub step_is : {R : Type 0} (b : Bool) (r m : R) → step_if b r ≡ Some m → (b ≡ true) × (r ≡ m)
step_is true r m e = (refl, cc)
step_is false r m e = absurd (cc)

pub choice : {R : Type 0} (b : Bool) (x y : Option R) (m : R) → (if b then x else y) ≡ Some m → ((b ≡ true) × (x ≡ Some m)) ⊎ ((b ≡ false) × (y ≡ Some m))
choice true x y m e = inl (refl, e)
choice false x y m e = inr (refl, e)

pub first_is : {R : Type 0} (x y : Option R) (m : R) → or_else x y ≡ Some m → (x ≡ Some m) ⊎ (y ≡ Some m)
first_is None y m e = inr e
first_is (Some r) y m e = inl e

pub first_or : {R : Type 0} (x y : Option R) (m : R) → or_else x y ≡ Some m → (x ≡ Some m) ⊎ ((x ≡ None) × (y ≡ Some m))
first_or None y m e = inr (refl, e)
first_or (Some r) y m e = inl e

pub no_first : {R : Type 0} (x y : Option R) → or_else x y ≡ None → (x ≡ None) × (y ≡ None)
no_first None y e = (refl, e)
no_first (Some r) y e = absurd (cc)

pub no_step : {R : Type 0} (b : Bool) (r : R) → step_if b r ≡ None → b ≡ false
no_step true r e = absurd (cc)
no_step false r e = refl

pub some_is : {R : Type 0} (r m : R) → Some r ≡ Some m → r ≡ m
some_is r m e = cc

pub not_false : (b : Bool) → not b ≡ true → b ≡ false
not_false true e = absurd (cc)
not_false false e = refl

pub not_true : (b : Bool) → not b ≡ false → b ≡ true
not_true true e = refl
not_true false e = absurd (cc)

pub there : {A : Type 0} (o : Option A) → is_some o ≡ true → IsSome o
there o e = e

pub none_there : {A : Type 0} (o : Option A) → is_some o ≡ false → o ≡ None
none_there None e = refl
none_there (Some x) e = absurd (cc)

pub lt_is : (a b : ℕ) → nat_lt a b ≡ true → a < b
lt_is a b e = grind (arith, nat_tests)

pub ge_is : (a b : ℕ) → nat_lt a b ≡ false → b ≤ a
ge_is a b e = grind (arith, nat_tests)

pub le_is : (a b : ℕ) → nat_le a b ≡ true → a ≤ b
le_is a b e = grind (arith, nat_tests)

pub gt_is : (a b : ℕ) → nat_le a b ≡ false → b < a
gt_is a b e = grind (arith, nat_tests)

pub eq_is : (a b : ℕ) → nat_eq a b ≡ true → a ≡ b
eq_is a b e = grind (arith, nat_tests)
