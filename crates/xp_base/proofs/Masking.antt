-- One bit of a mask is set or cleared, and tested; and the word of one bit alone.
use Rattle.std.proofs.Common.{◌≡◌, ◌≢◌, ℕ, ◌*◌, ◌-◌, ◌%◌, refl, ◌^◌, ◌<◌, true, false, bit_or, bit_and, w64, ap, arith}
use Rattle.std.specs.Int.{bit_not}
use Rattle.std.proofs.lemmas.Grind.{one_shifted}
use Rattle.std.specs.Prelude.{◌==◌}
use Rattle.std.proofs.lemmas.Nat.Bits.{bit_at_set_same, bit_at_set_other, bit_at_clear_same, bit_at_clear_other}
use Rattle.xp_base.specs.Masks.{has}

pub has_set : (mask q : ℕ) → q < 64 → has (bit_or mask (1 * 2 ^ q % 2 ^ 64)) q ≡ true
has_set mask q l = ap (λ (x : ℕ). x == 1) (bit_at_set_same w64 mask q l)

pub has_set_other : (mask q i : ℕ) → q < 64 → i ≢ q → has (bit_or mask (1 * 2 ^ q % 2 ^ 64)) i ≡ has mask i
has_set_other mask q i l d = ap (λ (x : ℕ). x == 1) (bit_at_set_other w64 mask q l i d)

pub has_clear : (mask q : ℕ) → q < 64 → has (bit_and mask (bit_not w64 (1 * 2 ^ q % 2 ^ 64))) q ≡ false
has_clear mask q l = ap (λ (x : ℕ). x == 1) (bit_at_clear_same w64 mask q l)

pub has_clear_other : (mask q i : ℕ) → q < 64 → i < 64 → i ≢ q → has (bit_and mask (bit_not w64 (1 * 2 ^ q % 2 ^ 64))) i ≡ has mask i
has_clear_other mask q i l k d = ap (λ (x : ℕ). x == 1) (bit_at_clear_other w64 mask q l i k d)

-- a bit that fits the word is not cut off by the shift, and its power is at least 1
pub one_bit : (q : ℕ) → q < 64 → 1 * 2 ^ q % 2 ^ 64 ≡ 2 ^ q
one_bit q l = (one_shifted q (2 ^ 64 - 1) refl (omega arith)).0
