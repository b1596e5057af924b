-- The passes of a shared memory, and the history that their steps are made into when it is closed.
use Rattle.std.specs.Prelude.{◌≡◌, ℕ, List, [], ◌∷◌, length, slice_get, Option, Some, None}
use Rattle.std.specs.List.{filter_map}
use Rattle.atomic_table.specs.Seated.{TableId}
use Rattle.xp_base.specs.declared.step.OpKind.{OpKind}
use Rattle.xp_base.specs.declared.step.OpKind.TheVariants.{Load}
use Rattle.xp_base.specs.declared.step.Answer.{Answer}
use Rattle.xp_base.specs.declared.step.Answer.TheVariants.{Word, Failed}
use Rattle.xp_base.specs.declared.step.Step.{Step}
use Rattle.xp_base.specs.Memory.{Memory}
use Rattle.xp_fabric.specs.Steps.{PartStep, LegalSteps, PartsBelow, items_of}
use Rattle.xp_fabric.specs.Rule.{View, part_steps}
use Rattle.xp_fabric.specs.Views.{PassView, SharedView}

-- the step, where a word answered it
abbrev pub if_word : Step → Answer → Option Step
if_word s (Word w) = Some s
if_word s Failed = None

abbrev pub answered_step : Step → Option Step
answered_step s = if_word s s.answer

-- the steps but the failed loads
abbrev pub answered_steps : List Step → List Step
answered_steps = filter_map answered_step

-- what fails is a load
abbrev pub LoadIfFailed : OpKind → Answer → Type 0
LoadIfFailed kind (Word w) = Unit {0}
LoadIfFailed kind Failed = kind ≡ Load

-- in these steps loads alone fail
abbrev pub OnlyLoadsFail : List Step → Type 0
OnlyLoadsFail [] = Unit {0}
OnlyLoadsFail (s ∷ ss) = LoadIfFailed s.op.kind s.answer × OnlyLoadsFail ss

-- in all passes loads alone fail
abbrev pub OnlyLoadsFailIn : List PassView → Type 0
OnlyLoadsFailIn [] = Unit {0}
OnlyLoadsFailIn (p ∷ ps) = OnlyLoadsFail p.history × OnlyLoadsFailIn ps

-- what a seat knows that stands for the partitions of all these passes
abbrev pub joined_view : List PassView → View
joined_view [] = []
joined_view (p ∷ ps) = part_steps p.part (answered_steps p.history) ∷ joined_view ps

-- the passes are of one table
abbrev pub AreOfTable : TableId → List PassView → Type 0
AreOfTable t [] = Unit {0}
AreOfTable t (p ∷ ps) = (p.table ≡ t) × AreOfTable t ps

-- a pass of a partition that has made no step
pub record IsFreshPass (t : TableId) (k : ℕ) (p : PassView) : Type 0 where
  pub part : p.part ≡ k
  pub table : p.table ≡ t
  pub history : p.history ≡ []

-- each pass is that of the partition at its place, and has made no step
abbrev pub AreFresh : TableId → List PassView → Type 0
AreFresh t ps = (k : ℕ) (p : PassView) → slice_get ps k ≡ Some p → IsFreshPass t k p

-- the pass of partition k
pub record IsPassOf (m : SharedView) (k : ℕ) (p : PassView) : Type 0 where
  pub part : p.part ≡ k
  pub table : p.table ≡ m.table

-- the passes of an opening: one for each partition, in their order
pub record AllPasses (m : SharedView) (ps : List PassView) : Type 0 where
  pub count : length ps ≡ length m.opening
  pub each : (k : ℕ) (p : PassView) → slice_get ps k ≡ Some p → IsPassOf m k p

-- one legal history leads from the old words to the new, and its part of each partition is that
-- pass's history
pub record Merges (old : Memory) (ps : List PassView) (new : Memory) : Type 0 where
  pub history : List PartStep
  pub legal : LegalSteps old history new
  pub below : PartsBelow (length ps) history
  pub parts : (k : ℕ) (p : PassView) → slice_get ps k ≡ Some p → items_of k history ≡ p.history
