-- A list past its end.
use Rattle.std.proofs.Common.{◌≡◌, ℕ, zero, suc, List, [], ◌∷◌, refl, None}
use Rattle.std.specs.Prelude.{slice_get, slice_index_or}

pub past_get : {A : Type 0} (xs : List A) (i : ℕ) (d : A) → slice_get xs i ≡ None → slice_index_or xs i d ≡ d
past_get [] i d h = refl
past_get (x ∷ xs) zero d h = absurd (cc)
past_get (x ∷ xs) (suc i) d h = past_get xs i d h
