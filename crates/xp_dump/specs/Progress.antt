-- How far a reader is, as its callers see it, and what it answers.
use Rattle.std.specs.Prelude.{◌≡◌, ℕ, List, ◌++◌, Option, Some, None, Result, Ok, Err}
use Rattle.xp_base.specs.Memory.{Memory}
use Rattle.xp_dump.specs.declared.fault.DumpFault.{DumpFault}
use Rattle.xp_dump.specs.Grammar.{IsFine, IsFault, IsDump, IsMissing}

-- how far a dump was read: bytes without a fault came, or a first fault was found
pub data Progress : Type 0 where
  Reading : (bytes : List ℕ) → Progress
  Faulted : (fault : DumpFault) → Progress

abbrev pub progress_of : Option DumpFault → List ℕ → Progress
progress_of None bytes = Reading bytes
progress_of (Some fault) bytes = Faulted fault

-- what came without a fault, this piece, and the rest behind it are these bytes
abbrev pub IsFrontOf : Progress → List ℕ → List ℕ → List ℕ → Type 0
IsFrontOf (Reading before) piece rest bytes = (before ++ piece) ++ rest ≡ bytes
IsFrontOf (Faulted fault) piece rest bytes = ⊥

-- the answer to a piece, and the progress after it
abbrev pub IsFed : Progress → List ℕ → Result (Unit {0}) DumpFault → Progress → Type 0
IsFed (Faulted told) piece answer new = (answer ≡ Err told) × (new ≡ Faulted told)
IsFed (Reading bytes) piece (Ok x) new = (new ≡ Reading (bytes ++ piece)) × IsFine (bytes ++ piece)
IsFed (Reading bytes) piece (Err fault) new = (new ≡ Faulted fault) × IsFault (bytes ++ piece) fault

-- the answer at the end
abbrev pub IsFinished : Progress → Result Memory DumpFault → Type 0
IsFinished (Faulted told) answer = answer ≡ Err told
IsFinished (Reading bytes) (Ok words) = IsDump bytes words
IsFinished (Reading bytes) (Err fault) = IsMissing bytes fault
