-- The word of a payload, by its first byte.
use Rattle.std.proofs.Common.{◌≡◌, ℕ, ◌-◌, ◌<◌, List, [], ◌∷◌, length, get_or, take, drop, refl, ap, arith}
use Rattle.std.proofs.lemmas.List.{take_rest}
use Rattle.std.specs.Prelude.{codes}
use Rattle.xp_print.specs.declared.payload.Before.TheVariants as before
use Rattle.xp_print.specs.Payloads.{runs_from, runs_text, payload_word}

pub no_bytes : (bytes : List ℕ) → length bytes ≡ 0 → payload_word bytes ≡ codes "-"
unfolding payload_word
no_bytes [] e = refl
no_bytes (b ∷ bs) e = absurd (omega arith)

pub first_byte : (bytes : List ℕ) → 0 < length bytes → runs_text before.Nothing (runs_from 1 (get_or bytes 0 0) (take (length bytes - 1) (drop 1 bytes))) ≡ payload_word bytes
unfolding payload_word
first_byte [] lt = absurd (omega arith)
first_byte (b ∷ bs) lt = ap (λ (rest : List ℕ). runs_text before.Nothing (runs_from 1 b rest)) (take_rest (b ∷ bs) 1)
