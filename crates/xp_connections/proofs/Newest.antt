-- The last item of a list is the first of the list from its end, and a change of it too.
use Rattle.std.proofs.Common.{◌≡◌, ℕ, zero, suc, ◌+◌, ◌-◌, ◌<◌, List, [], ◌∷◌, ◌++◌, length, get_or, take, set, reverse, refl, ap, sym, ◌∙◌, subst, arith}
use Rattle.std.proofs.lemmas.List.{reverse-append}
use Rattle.xp_connections.specs.Page.{Page}

split_last : (xs : List Page) (i : ℕ) (y : Page) → suc i ≡ length xs → y ≡ get_or xs i y → xs ≡ take i xs ++ y ∷ []
split_last [] i y h e = absurd (omega (arith, h))
split_last (x ∷ []) zero y h e = ap (λ (z : Page). z ∷ []) (sym e)
split_last (x ∷ z ∷ xs) zero y h e = absurd (omega (arith, h))
split_last (x ∷ xs) (suc i) y h e = ap (λ (zs : List Page). x ∷ zs) (split_last xs i y (omega (arith, h)) e)

split_set : (xs : List Page) (i : ℕ) (y : Page) → suc i ≡ length xs → set xs i y ≡ take i xs ++ y ∷ []
split_set [] i y h = absurd (omega (arith, h))
split_set (x ∷ []) zero y h = refl
split_set (x ∷ z ∷ xs) zero y h = absurd (omega (arith, h))
split_set (x ∷ xs) (suc i) y h = ap (λ (zs : List Page). x ∷ zs) (split_set xs i y (omega (arith, h)))

pub last_is : (xs : List Page) (i : ℕ) (y : Page) → suc i ≡ length xs → y ≡ get_or xs i y → reverse xs ≡ y ∷ reverse (take i xs)
last_is xs i y h e = ap reverse (split_last xs i y h e) ∙ reverse-append (take i xs) (y ∷ [])

pub last_set : (xs : List Page) (i : ℕ) (y : Page) → suc i ≡ length xs → reverse (set xs i y) ≡ y ∷ reverse (take i xs)
last_set xs i y h = ap reverse (split_set xs i y h) ∙ reverse-append (take i xs) (y ∷ [])
