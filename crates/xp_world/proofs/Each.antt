-- What holds of each element of a list holds of each after one is written, or after one more is appended.
use Rattle.std.proofs.Common.{◌≡◌, ℕ, zero, suc, List, [], ◌∷◌, ◌++◌, length, take, refl, ap, sym, ◌∙◌, subst, Some, set, slice_get, inl, inr, ◌⊎◌}
use Rattle.std.proofs.lemmas.Bool.{cases_eq}
use Rattle.std.proofs.lemmas.Option.{same_Some, none-some}

slice_get-set_same : {A : Type 0} (xs : List A) (i : ℕ) (x y : A) → slice_get xs i ≡ Some y → slice_get (set xs i x) i ≡ Some x
slice_get-set_same [] i x y h = absurd (cc)
slice_get-set_same (z ∷ xs) zero x y h = refl
slice_get-set_same (z ∷ xs) (suc i) x y h = slice_get-set_same xs i x y h

slice_get-set_other : {A : Type 0} (xs : List A) (i j : ℕ) (x : A) → (i ≡ j → ⊥) → slice_get (set xs i x) j ≡ slice_get xs j
slice_get-set_other [] i j x h = refl
slice_get-set_other (z ∷ xs) zero zero x h = absurd (h refl)
slice_get-set_other (z ∷ xs) zero (suc j) x h = refl
slice_get-set_other (z ∷ xs) (suc i) zero x h = refl
slice_get-set_other (z ∷ xs) (suc i) (suc j) x h = slice_get-set_other xs i j x (λ e. h (ap suc e))

each_by : {A : Type 0} (xs : List A) (P : ℕ → A → Type 0) (i : ℕ) (x y : A) → slice_get xs i ≡ Some y → P i x → ((k : ℕ) (z : A) → (i ≡ k → ⊥) → slice_get xs k ≡ Some z → P k z) → (k : ℕ) (z : A) → slice_get (set xs i x) k ≡ Some z → (i ≡ k) ⊎ (i ≡ k → ⊥) → P k z
each_by xs P i x y was here others k z is (inl e) =
    let found = sym (slice_get-set_same xs i x y was) ∙ ap (slice_get (set xs i x)) e ∙ is in
    subst (P k) (same_Some x z found) (subst (λ (j : ℕ). P j x) e here)
each_by xs P i x y was here others k z is (inr ne) = others k z ne (sym (slice_get-set_other xs i k x ne) ∙ is)

-- where the element at i was y and becomes x
pub each_after_set : {A : Type 0} (xs : List A) (P : ℕ → A → Type 0) (i : ℕ) (x y : A) → slice_get xs i ≡ Some y → P i x → ((k : ℕ) (z : A) → (i ≡ k → ⊥) → slice_get xs k ≡ Some z → P k z) → (k : ℕ) (z : A) → slice_get (set xs i x) k ≡ Some z → P k z
each_after_set xs P i x y was here others k z is = each_by xs P i x y was here others k z is (cases_eq i k)

pub each_after_push : {A : Type 0} (xs : List A) (P : ℕ → A → Type 0) (x : A) → ((k : ℕ) (z : A) → slice_get xs k ≡ Some z → P k z) → P (length xs) x → (k : ℕ) (z : A) → slice_get (xs ++ x ∷ []) k ≡ Some z → P k z
each_after_push [] P x each here zero z is = subst (P 0) (same_Some x z is) here
each_after_push [] P x each here (suc k) z is = absurd (none-some z is)
each_after_push (y ∷ xs) P x each here zero z is = each zero z is
each_after_push (y ∷ xs) P x each here (suc k) z is = each_after_push xs (λ j. P (suc j)) x (λ j. each (suc j)) here k z is

-- of a longer front, where it holds of the one element more
pub each_in_front : {A : Type 0} (xs : List A) (P : A → Type 0) (i : ℕ) (x : A) → slice_get xs i ≡ Some x → P x → ((k : ℕ) (z : A) → slice_get (take i xs) k ≡ Some z → P z) → (k : ℕ) (z : A) → slice_get (take (suc i) xs) k ≡ Some z → P z
each_in_front [] P i x was here front k z is = absurd (none-some x was)
each_in_front (y ∷ xs) P zero x was here front zero z is = subst P (same_Some x z (sym was ∙ is)) here
each_in_front (y ∷ xs) P zero x was here front (suc k) z is = absurd (none-some z is)
each_in_front (y ∷ xs) P (suc i) x was here front zero z is = front zero z is
each_in_front (y ∷ xs) P (suc i) x was here front (suc k) z is = each_in_front xs P i x was here (λ (j : ℕ). front (suc j)) k z is

-- a write of what stands there changes nothing
pub set_same : {A : Type 0} (xs : List A) (i : ℕ) (x : A) → slice_get xs i ≡ Some x → set xs i x ≡ xs
set_same [] i x h = refl
set_same (y ∷ xs) zero x h = ap (λ z. z ∷ xs) (sym (same_Some y x h))
set_same (y ∷ xs) (suc i) x h = ap (λ r. y ∷ r) (set_same xs i x h)
