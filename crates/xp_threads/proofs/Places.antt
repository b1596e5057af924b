-- Elements of lists by their places, where one is appended at the end.
use Rattle.std.proofs.Common.{◌≡◌, ◌⊎◌, ℕ, zero, suc, ◌<◌, ◌≤◌, List, [], ◌∷◌, ◌++◌, length, take, drop, Some, refl, ap, ◌∙◌, ⊎_elim, inl, inr, arith, take_all, append-nil}
use Rattle.std.specs.Prelude.{slice_get}
use Rattle.std.proofs.lemmas.Option.{same_Some, none-some}

module _ {A : Type 0} where
  pub at_push : (xs : List A) (x : A) (k : ℕ) (q : A) → slice_get (xs ++ x ∷ []) k ≡ Some q → (slice_get xs k ≡ Some q) ⊎ ((k ≡ length xs) × (x ≡ q))
  at_push [] x zero q e = inr (refl, same_Some x q e)
  at_push [] x (suc k) q e = absurd (none-some q e)
  at_push (y ∷ ys) x zero q e = inl e
  at_push (y ∷ ys) x (suc k) q e = ⊎_elim inl (λ (h : (k ≡ length ys) × (x ≡ q)). inr (ap suc h.0, h.1)) (at_push ys x k q e)

  pub get_last : (xs : List A) (x : A) → slice_get (xs ++ x ∷ []) (length xs) ≡ Some x
  get_last [] x = refl
  get_last (y ∷ ys) x = get_last ys x

  pub get_front : (xs ys : List A) (k : ℕ) (q : A) → slice_get xs k ≡ Some q → slice_get (xs ++ ys) k ≡ Some q
  get_front [] ys k q e = absurd (none-some q e)
  get_front (x ∷ xs) ys zero q e = e
  get_front (x ∷ xs) ys (suc k) q e = get_front xs ys k q e

  pub length-push : (xs : List A) (x : A) → length (xs ++ x ∷ []) ≡ suc (length xs)
  length-push [] x = refl
  length-push (y ∷ ys) x = ap suc (length-push ys x)

  pub there : (xs : List A) (k : ℕ) → k < length xs → (x : A) × (slice_get xs k ≡ Some x)
  there [] k low = absurd (omega arith)
  there (x ∷ xs) zero low = (x, refl)
  there (x ∷ xs) (suc k) low = there xs k (omega arith)

  drop_all : (k : ℕ) (xs : List A) → length xs ≤ k → drop k xs ≡ []
  drop_all zero [] low = refl
  drop_all zero (x ∷ xs) low = absurd (omega arith)
  drop_all (suc k) [] low = refl
  drop_all (suc k) (x ∷ xs) low = drop_all k xs (omega arith)

  -- a list that is written over another of its length
  pub taken_all : (k : ℕ) (xs ys : List A) → length xs ≡ length ys → length ys ≤ k → take k (xs ++ drop (length xs) ys) ≡ xs
  taken_all k xs ys same low =
      ap (λ (zs : List A). take k (xs ++ zs)) (drop_all (length xs) ys (omega arith)) ∙ (ap (take k) (append-nil xs) ∙ take_all k xs (omega arith))
