-- Numbers round a ring of n places.
use Rattle.std.proofs.Common.{◌≡◌, ℕ, ◌∙◌, ap, ◌+◌, ◌*◌, ◌/◌, ◌%◌, ◌<◌, ◌≤◌, ⊎_elim, arith, mul-le-mul_left}
use Rattle.std.proofs.Math.Nat.{div-add-mod, mod-lt, mod-eq_of_lt, mul-add-mod_self_left}
use Rattle.std.proofs.lemmas.Bool.{cases_lt}

-- two numbers that are less than n apart have places of their own
pub apart : (n k m : ℕ) → k < m → m < k + n → k % n ≡ m % n → ⊥
apart n k m below near e =
    ⊎_elim {C = ⊥}
    (λ (lt : k / n < m / n).
    let p : n * (k / n + 1) ≤ n * (m / n) = mul-le-mul_left n (omega arith) in
    omega (arith, div-add-mod k n, div-add-mod m n, p, e))
    (λ (le : m / n ≤ k / n).
    let p : n * (m / n) ≤ n * (k / n) = mul-le-mul_left n le in
    omega (arith, div-add-mod k n, div-add-mod m n, p, e))
    (cases_lt (k / n) (m / n))

-- places of w words: a word of one is none of another, and what lies below b of them is in one of the first b
pub below_times : (w j f b : ℕ) → w * j + f < w * b → j < b
below_times w j f b h = ⊎_elim {C = j < b} (λ (lt : j < b). lt) (λ (le : b ≤ j). let p : w * b ≤ w * j = mul-le-mul_left w le in absurd (omega (arith, h, p))) (cases_lt j b)

pub within_times : (w j f b : ℕ) → j < b → f < w → w * j + f < w * b
within_times w j f b h l = let p : w * (j + 1) ≤ w * b = mul-le-mul_left w (omega (arith, h)) in omega (arith, p, l)

pub places_apart : (w a b f g : ℕ) → f < w → g < w → (a ≡ b → ⊥) → w * a + f ≡ w * b + g → ⊥
places_apart w a b f g lf lg d e =
    ⊎_elim {C = ⊥}
    (λ (lt : a < b). let p = within_times w a f b lt lf in omega (arith, p, e))
    (λ (le : b ≤ a). ⊎_elim {C = ⊥} (λ (lt : b < a). let p = within_times w b g a lt lg in omega (arith, p, e)) (λ (ge : a ≤ b). d (omega (arith, le, ge))) (cases_lt b a))
    (cases_lt a b)

pub mod_less : (k n : ℕ) → 0 < n → k % n < n
mod_less k n h = mod-lt k h

pub mod_next : (k n j : ℕ) → k % n + j < n → (k + j) % n ≡ k % n + j
mod_next k n j h =
    let e : k + j ≡ n * (k / n) + (k % n + j) = omega (arith, div-add-mod k n) in
    ap (λ (x : ℕ). x % n) e ∙ mul-add-mod_self_left n (k / n) (k % n + j) ∙ mod-eq_of_lt h
