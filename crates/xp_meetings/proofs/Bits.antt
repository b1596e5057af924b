-- One bit of a word after another, or the same, was set or cleared.
use Rattle.std.proofs.Common.{◌≡◌, ℕ, ◌^◌, ◌<◌, bit_or, bit_and, w64, sym, arith}
use Rattle.std.specs.Int.{bit_at, bit_not}
use Rattle.std.proofs.lemmas.Nat.Bits.{bit_at_or, bit_at_and, bit_at-pow_same, bit_at-pow_other, bit_at_not, bit_at-lt}
use Rattle.std.proofs.Math.Pow.{pow-lt}
use Rattle.xp_protocol.specs.Effects.{all_but}

pub or_here : (w p : ℕ) → bit_at (bit_or w (2 ^ p)) p ≡ 1
or_here w p = omega (arith, bit_at_or w (2 ^ p) p, bit_at-pow_same p, bit_at-lt w p)

pub or_else : (w p i : ℕ) → (p ≡ i → ⊥) → bit_at (bit_or w (2 ^ p)) i ≡ bit_at w i
or_else w p i d = omega (arith, bit_at_or w (2 ^ p) i, bit_at-pow_other p i (λ e. d (sym e)), bit_at-lt w i)

pub and_here : (w p : ℕ) → p < 64 → bit_at (bit_and w (all_but p)) p ≡ 0
and_here w p l = omega (arith, bit_at_and w (bit_not w64 (2 ^ p)) p, bit_at_not w64 (2 ^ p) p (pow-lt l) l, bit_at-pow_same p)

pub and_else : (w p i : ℕ) → p < 64 → i < 64 → (p ≡ i → ⊥) → bit_at (bit_and w (all_but p)) i ≡ bit_at w i
and_else w p i l k d = omega (arith, bit_at_and w (bit_not w64 (2 ^ p)) i, bit_at_not w64 (2 ^ p) i (pow-lt l) k, bit_at-pow_other p i (λ e. d (sym e)), bit_at-lt w i)
