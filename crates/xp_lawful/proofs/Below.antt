-- What holds of each number below another holds below the next, where it holds of that one.
use Rattle.std.proofs.Common.{◌≡◌, ℕ, ◌+◌, ◌<◌, ◌≤◌, subst, arith, inl, inr, ◌⊎◌}
use Rattle.std.proofs.lemmas.Bool.{cases_lt}

pub below_more : (P : ℕ → Type 0) (n : ℕ) → ((k : ℕ) → k < n → P k) → P n → (k : ℕ) → k < n + 1 → P k
below_more P n below at k low = by (cases_lt k n) where
  by : (k < n) ⊎ (n ≤ k) → P k
  by (inl l) = below k l
  by (inr l) = let e : n ≡ k = omega (arith, l, low) in subst P e at
