-- The numbers that words of digits spell.
use Rattle.std.specs.Prelude.{◌≡◌, ℕ, ◌+◌, ◌-◌, ◌*◌, ◌^◌, ◌≤◌, Bool, ◌&&◌, if◌then◌else◌, nat_le, List, [], ◌∷◌, Option, Some, None}
use Rattle.std.specs.List.{list_all}
use Rattle.xp_text.specs.declared.numbers.Digits.{Digits}
use Rattle.xp_text.specs.declared.numbers.Digits.TheVariants.{Other, TooGreat, Number}

abbrev pub is_digit : ℕ → Bool
is_digit b = nat_le 48 b && nat_le b 57

-- the number of the digits, behind digits of number n
abbrev pub value_from : ℕ → List ℕ → ℕ
value_from n [] = n
value_from n (d ∷ ds) = value_from (10 * n + (d - 48)) ds

-- the number that a word spells, where it is digits; leading zeros may stand
unfoldable pub digits_of : List ℕ → Option ℕ
digits_of word = if list_all is_digit word then Some (value_from 0 word) else None

-- what a reader of 64 bits finds
abbrev pub Reads : Digits → Option ℕ → Type 0
Reads Other o = o ≡ None
Reads TooGreat o = (n : ℕ) × (o ≡ Some n) × (2 ^ 64 ≤ n)
Reads (Number n) o = o ≡ Some n
