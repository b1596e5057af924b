-- What contracts see of a plain memory, of a shared one, and of a pass.
use Rattle.std.specs.Prelude.{ℕ, List}
use Rattle.atomic_table.specs.Seated.{TableId}
use Rattle.xp_base.specs.declared.step.Step.{Step}
use Rattle.xp_base.specs.Memory.{Memory}
use Rattle.xp_fabric.specs.Steps.{PartStep}

-- what is known of a plain memory: the words that it was opened with, the steps of its ports, and
-- how many more steps there is room for
pub record PlainView : Type 0 where
  pub opening : Memory
  pub history : List PartStep
  pub room : ℕ

-- what is known of a shared memory: the words that it was opened with, and its table,
-- which no other memory has
pub record SharedView : Type 0 where
  pub opening : Memory
  pub table : TableId

-- what a pass knows: its partition, the table of its memory, the steps of its ports, and how many
-- more steps there is room for
pub record PassView : Type 0 where
  pub part : ℕ
  pub table : TableId
  pub history : List Step
  pub room : ℕ
