-- What a reader keeps of the bytes that came: how many words they are, and the bytes of the word
-- that isn't whole yet.
use Rattle.std.specs.Prelude.{◌≡◌, ℕ, ◌+◌, ◌*◌, ◌<◌, ◌≤◌, ◌++◌, List, length, slice_index, Result, MatchResult}
use Rattle.xp_page.specs.Reading.{word_in}
use Rattle.xp_base.specs.declared.layout.TheConstants.{WORD_BYTES}
use Rattle.xp_dump.specs.declared.fault.DumpFault.{DumpFault}
use Rattle.xp_dump.specs.declared.tape.Tape.{Tape}
use Rattle.xp_dump.specs.Grammar.{total, IsFault}
use Rattle.xp_dump.specs.Stages.{IsReady, Follows, taken}

pub record IsTape (t : Tape) : Type 0 where
  pub filled : t.filled < WORD_BYTES
  pub ready : IsReady t.stage

-- the tape is that of these bytes, in which there is no fault
pub record IsRead (bytes : List ℕ) (t : Tape) : Type 0 where
  pub size : length bytes ≡ 8 * taken t.stage + t.filled
  pub pending : (i : ℕ) → i < t.filled
      → slice_index t.pending i ≡ slice_index bytes (8 * taken t.stage + i)
  pub follows : Follows (word_in bytes) t.stage
  pub within : length bytes ≤ 8 * total (word_in bytes)

-- the answer to some more bytes, and the tape after them
abbrev pub IsTaken : List ℕ → List ℕ → Result (Unit {0}) DumpFault → Tape → Type 0
IsTaken bytes more answer new =
    MatchResult answer (λ _. IsRead (bytes ++ more) new) (λ fault. IsFault (bytes ++ more) fault)
