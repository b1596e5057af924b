-- The log and the steps of a partition, and for how many more entries and steps there is room.
use Rattle.std.specs.Prelude.{ℕ, List, [], ◌∷◌, ◌++◌, Option, Some, None}
use Rattle.xp_base.specs.declared.step.Step.{Step}
use Rattle.xp_script.specs.declared.log.Entry.{Entry}
use Rattle.xp_script.specs.declared.log.LogAnswer.{LogAnswer}
use Rattle.xp_protocol.specs.Logged.{last_answered}

pub record Journal : Type 0 where
  pub entries : List Entry
  pub steps : List Step
  pub entry_room : ℕ
  pub step_room : ℕ

-- a command was begun, and the last one was answered
abbrev pub with_entry : Option Entry → List Entry → List Entry
with_entry None xs = xs
with_entry (Some x) xs = xs ++ x ∷ []

abbrev pub with_answer : Option LogAnswer → List Entry → List Entry
with_answer None xs = xs
with_answer (Some a) xs = last_answered xs (Some a)

abbrev pub with_step : Option Step → List Step → List Step
with_step None xs = xs
with_step (Some x) xs = xs ++ x ∷ []
