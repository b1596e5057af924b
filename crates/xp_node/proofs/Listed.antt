-- The last entry of a log.
use Rattle.std.proofs.Common.{◌≡◌, ℕ, zero, suc, ◌+◌, List, [], ◌∷◌, length, set, ap, arith, Some}
use Rattle.std.specs.Prelude.{slice_index_or}
use Rattle.xp_script.specs.declared.log.Entry.{Entry}
use Rattle.xp_script.specs.declared.log.LogAnswer.{LogAnswer}
use Rattle.xp_protocol.specs.Logged.{last_answered}

pub last_set : (xs : List Entry) (i : ℕ) (x : Entry) (a : LogAnswer) → i + 1 ≡ length xs → x ≡ slice_index_or xs i x → set xs i (record x { answer = Some a }) ≡ last_answered xs (Some a)
last_set [] i x a n e = absurd (omega (arith, n))
last_set (y ∷ []) zero x a n e = ap (λ (z : Entry). record z { answer = Some a } ∷ []) e
last_set (y ∷ []) (suc i) x a n e = absurd (omega (arith, n))
last_set (y ∷ z ∷ more) zero x a n e = absurd (omega (arith, n))
last_set (y ∷ z ∷ more) (suc i) x a n e = ap (λ (xs : List Entry). y ∷ xs) (last_set (z ∷ more) i x a (omega (arith, n)) e)
