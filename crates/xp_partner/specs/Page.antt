-- The words of a look that goes on, and what it shows once it is whole.
use Rattle.std.specs.Prelude.{ℕ, if◌then◌else◌, nat_eq, List, [], length, Option, Some, None}
use Rattle.xp_discover.specs.declared.look.LookAnswer.{LookAnswer}
use Rattle.xp_discover.specs.Looking.{look_answer}

abbrev pub words_after : List ℕ → List ℕ
words_after words = if nat_eq (length words) 5 then [] else words

abbrev pub shown_after : List ℕ → Option LookAnswer
shown_after words = if nat_eq (length words) 5 then Some (look_answer words) else None
