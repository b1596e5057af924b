-- The digits of a number, one after the other.
use Rattle.std.proofs.Common.{◌≡◌, ℕ, ◌+◌, ◌-◌, ◌*◌, ◌/◌, ◌<◌, ◌≤◌, List, [], ◌∷◌, length, get_or, drop, sym, ◌∙◌, arith, true, Some, refl}
use Rattle.std.proofs.lemmas.List.{at_drop_more}
use Rattle.std.specs.List.{list_all}
use Rattle.xp_text.specs.Numbers.{value_from, is_digit, digits_of}

value_grows : (n : ℕ) (ds : List ℕ) → n ≤ value_from n ds
value_grows n [] = omega arith
value_grows n (d ∷ ds) = let h = value_grows (10 * n + (d - 48)) ds in omega (arith, h)

pub too_great : (word : List ℕ) (i n digit : ℕ) → i < length word → value_from n (drop i word) ≡ value_from 0 word → digit ≡ get_or word i 0 - 48 → digit < 256 → (18446744073709551615 - digit) / 10 < n → 18446744073709551616 ≤ value_from 0 word
too_great word i n digit lt r is small h =
    let e : value_from (10 * n + (get_or word i 0 - 48)) (drop (i + 1) word) ≡ value_from 0 word = sym (at_drop_more (value_from n) word i 0 lt) ∙ r in
    let g = value_grows (10 * n + (get_or word i 0 - 48)) (drop (i + 1) word) in
    omega (arith, e, g, h, is, small)

pub all_digits : (word : List ℕ) (n : ℕ) → list_all is_digit word ≡ true → n ≡ value_from 0 word → digits_of word ≡ Some n
unfolding digits_of
all_digits word n e h = rw (e, h) refl
