-- The numbers that words of few digits spell.
use Rattle.std.proofs.Common.{◌≡◌, ℕ, ◌+◌, ◌-◌, ◌*◌, ◌<◌, ◌≤◌, ◌^◌, Bool, true, false, ◌&&◌, if◌then◌else◌, ◌⊎◌, inl, inr, zero, suc, List, [], ◌∷◌, length, Option, Some, None, refl, sym, subst, arith, leb}
use Rattle.std.proofs.lemmas.Bool.{leb-true}
use Rattle.std.specs.List.{list_all}
use Rattle.xp_text.specs.declared.numbers.Digits.{Digits}
use Rattle.xp_text.specs.declared.numbers.Digits.TheVariants.{Other, TooGreat}
use Rattle.xp_text.specs.Numbers.{is_digit, value_from, digits_of, Reads}
use Rattle.xp_tool.specs.declared.words.TheConstants.{NUMBER_DIGITS}
use Rattle.xp_tool.specs.Words.{number_of}

-- ten times as much for each of some digits
abbrev scaled : ℕ → ℕ → ℕ
scaled m zero = m
scaled m (suc k) = scaled (10 * m) k

scaled_grows : (m k : ℕ) → m ≤ scaled m k
scaled_grows m zero = omega arith
scaled_grows m (suc k) = let h = scaled_grows (10 * m) k in omega (arith, h)

and_first : (a b : Bool) → (a && b) ≡ true → a ≡ true
and_first true b e = refl
and_first false b e = absurd cc

and_second : (a b : Bool) → (a && b) ≡ true → b ≡ true
and_second true b e = e
and_second false b e = absurd cc

value_below : (k n m : ℕ) (ds : List ℕ) → list_all is_digit ds ≡ true → length ds ≤ k → n < m → value_from n ds < scaled m k
value_below k n m [] e l h = let g = scaled_grows m k in omega (arith, g, h)
value_below zero n m (d ∷ ds) e l h = absurd (omega (arith, l))
value_below (suc k) n m (d ∷ ds) e l h =
    let digit = leb-true d 57 (and_second (leb 48 d) (leb d 57) (and_first (is_digit d) (list_all is_digit ds) e)) in
    value_below k (10 * n + (d - 48)) (10 * m) ds (and_second (is_digit d) (list_all is_digit ds) e) (omega (arith, l)) (omega (arith, h, digit))

-- a word of few digits spells a number of 32 bits
pub fits : (word : List ℕ) (n : ℕ) → length word ≤ NUMBER_DIGITS → digits_of word ≡ Some n → n < 2 ^ 32
unfolding digits_of
fits word n l e = by (list_all is_digit word) refl e where
  by : (b : Bool) → list_all is_digit word ≡ b → (if b then Some (value_from 0 word) else None) ≡ Some n → n < 2 ^ 32
  by false all is = absurd cc
  by true all is = let h = value_below NUMBER_DIGITS 0 1 word all l (omega arith) in let v : value_from 0 word ≡ n = cc in omega (arith, h, v)

none_if : (b : Bool) (o : Option ℕ) → o ≡ None → (if b then o else None) ≡ None
none_if true o e = e
none_if false o e = refl

-- a word that isn't read as a number of 64 bits is no number of few digits
pub no_number : (word : List ℕ) (d : Digits) → length word ≤ NUMBER_DIGITS → Reads d (digits_of word) → (d ≡ Other) ⊎ (d ≡ TooGreat) → None ≡ number_of word
no_number word d l r (inl e) = sym (none_if _ (digits_of word) (subst (λ (x : Digits). Reads x (digits_of word)) e r))
no_number word d l r (inr e) =
    let t = subst (λ (x : Digits). Reads x (digits_of word)) e r in
    let small = fits word t.0 l t.1 in
    let great = t.2 in
    absurd (omega (arith, small, great))
