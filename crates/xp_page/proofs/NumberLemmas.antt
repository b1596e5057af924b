-- Powers of two past the width of a word.
use Rattle.std.proofs.Common.{◌≡◌, ℕ, ◌-◌, ◌/◌, ◌%◌, ◌^◌, ◌<◌, ◌≤◌, false, ◌==◌, ap, arith}
use Rattle.std.specs.Int.{bit_at}
use Rattle.std.proofs.Math.Nat.{div-eq_of_lt, pow-le-pow_right}
use Rattle.std.proofs.lemmas.Bool.Decides.{nat_tests}

beyond : (w n k : ℕ) → w < 2 ^ k → k ≤ n → w < 2 ^ n
beyond w n k h low = omega (arith, pow-le-pow_right {n = 2} (omega arith) {i = k} {j = n} low)

-- a word has no bits from 64 on
pub no_high_bits : (w n : ℕ) → w < 2 ^ 64 → 64 ≤ n → w / 2 ^ n ≡ 0
no_high_bits w n h low = div-eq_of_lt (beyond w n 64 h low)

pub no_high_bit : (w n : ℕ) → w < 2 ^ 64 → 64 ≤ n → (bit_at w n == 1) ≡ false
no_high_bit w n h low = ap (λ (x : ℕ). x % 2 == 1) (no_high_bits w n h low)

-- and it is no run of more than 64 ones
pub not_so_many : (w n : ℕ) → w < 2 ^ 64 → 65 ≤ n → (w == 2 ^ n - 1) ≡ false
not_so_many w n h low =
    let top : 2 ^ 65 ≤ 2 ^ n = pow-le-pow_right {n = 2} (omega arith) {i = 65} {j = n} low in
    let small : w < 2 ^ n - 1 = omega arith in
    grind (arith, nat_tests)
