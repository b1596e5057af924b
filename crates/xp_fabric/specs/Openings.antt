-- The opening of a memory that a port belongs to.
use Rattle.std.specs.Prelude.{ℕ, List}
pub use Rattle.atomic_table.specs.Seated.{TableId}
use Rattle.xp_base.specs.Memory.{Memory}
use Rattle.xp_fabric.specs.Steps.{PartStep}

-- what tells one memory from all others: a plain one, while it is lent, by the name of the loan and
-- by the steps that were made before; a shared one by its table
pub data MemoryId : Type 0 where
  Loan : (name : ℕ) → (before : List PartStep) → MemoryId
  SharedTable : (table : TableId) → MemoryId

-- the words that the memory was opened with, and which memory it is
pub record Opening : Type 0 where
  pub words : Memory
  pub memory : MemoryId
