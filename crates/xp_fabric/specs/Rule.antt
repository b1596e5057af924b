-- The rule of the shared words: which history has led to them, what each seat knows of it, and what
-- each step adds.
use Rattle.std.specs.Prelude.{◌≡◌, ◌≢◌, ℕ, suc, zero, ◌*◌, ◌/◌, ◌%◌, ◌<◌, List, [], ◌∷◌, ◌++◌, length}
use mathlib.Core.Option.{some}
use lib.ListN.{get_elem?}
use Rattle.atomic_table.specs.Table.{State, Me, Step as TableStep}
use Rattle.xp_base.specs.declared.step.Op.{Op}
use Rattle.xp_base.specs.declared.step.OpKind.{OpKind}
use Rattle.xp_base.specs.declared.step.OpKind.TheVariants.{Load, Store, Or, And, Take}
use Rattle.xp_base.specs.declared.step.Answer.TheVariants.{Word}
use Rattle.xp_base.specs.declared.step.Step.{Step}
use Rattle.xp_base.specs.Memory.{Memory}
use Rattle.xp_base.specs.Rows.{rows}
use Rattle.xp_fabric.specs.Steps.{PartStep, LegalSteps, PartsBelow, items_of, step_of}
use Rattle.xp_fabric.specs.declared.rule.PartSteps.{PartSteps}

-- what a seat knows: the partitions that it stands for, each with its steps
abbrev pub View : Type 0
View = List PartSteps

abbrev pub part_steps : ℕ → List Step → PartSteps
part_steps p steps = record { part = p; steps = steps }

-- n partitions from p on, none of which has made a step
abbrev pub fresh_parts : ℕ → ℕ → View
fresh_parts p zero = []
fresh_parts p (suc n) = part_steps p [] ∷ fresh_parts (suc p) n

-- the partition isn't among these
abbrev pub Lacks : ℕ → View → Type 0
Lacks p [] = Unit {0}
Lacks p (k ∷ ks) = (k.part ≢ p) × Lacks p ks

-- seat number j stands for these of the partitions, each once, and knows their parts of the history
abbrev pub Knows : ℕ → List PartStep → (ℕ → ℕ) → ℕ → View → Type 0
Knows count history seat_of j [] = Unit {0}
Knows count history seat_of j (k ∷ ks) =
    ((k.part < count) × (k.steps ≡ items_of k.part history) × (seat_of k.part ≡ j)
    × Lacks k.part ks) × Knows count history seat_of j ks

-- One legal history leads from the opening words to the words now, size words to a partition. Each
-- seat knows its partitions' parts of that history, and no other seat stands for them
pub record HistoryHolds (size : ℕ) (opening : Memory) (s : State ℕ View) : Type 0 where
  pub history : List PartStep
  pub seat_of : ℕ → ℕ
  pub legal : LegalSteps opening history (rows size (length opening) s.words)
  pub word_count : length s.words ≡ size * length opening
  pub below : PartsBelow (length opening) history
  pub knows : (j : ℕ) (v : View) → get_elem? s.views j ≡ some v
      → Knows (length opening) history seat_of j v

-- the seat stands for one partition alone
abbrev pub StandsForOne : Me ℕ View → Type 0
StandsForOne me = (k : PartSteps) × (me ≡ (k ∷ [], []))

-- the first partition that the seat stands for has made one step more
abbrev pub with_step : Step → View → View
with_step s [] = []
with_step s (k ∷ ks) = part_steps k.part (k.steps ++ s ∷ []) ∷ ks

abbrev pub AddsStep : Me ℕ View → Step → Me ℕ View → Type 0
AddsStep old s new = new ≡ (with_step s old.0, old.1)

module _ (size : ℕ) where
  -- the op of this kind on a word of the table
  abbrev pub op_at : ℕ → OpKind → Op
  op_at place kind = record { owner = place / size; index = place % size; kind = kind }

  abbrev pub LoadAdds : TableStep ℕ → Me ℕ View → ℕ → Me ℕ View → Type 0
  LoadAdds s old found new = AddsStep old (step_of (op_at s.word Load) (Word found)) new

  abbrev pub StoreAdds : TableStep ℕ → Me ℕ View → ℕ → Me ℕ View → Type 0
  StoreAdds s old found new = AddsStep old (step_of (op_at s.word (Store s.first)) (Word 0)) new

  abbrev pub OrAdds : TableStep ℕ → Me ℕ View → ℕ → Me ℕ View → Type 0
  OrAdds s old found new = AddsStep old (step_of (op_at s.word (Or s.first)) (Word found)) new

  abbrev pub AndAdds : TableStep ℕ → Me ℕ View → ℕ → Me ℕ View → Type 0
  AndAdds s old found new = AddsStep old (step_of (op_at s.word (And s.first)) (Word found)) new

  abbrev pub TakeAdds : TableStep ℕ → Me ℕ View → ℕ → Me ℕ View → Type 0
  TakeAdds s old found new = AddsStep old (step_of (op_at s.word Take) (Word found)) new

-- where a seat is cut in two: its first partition, and the others
abbrev pub first_part : View → View
first_part [] = []
first_part (k ∷ ks) = k ∷ []

abbrev pub other_parts : View → View
other_parts [] = []
other_parts (k ∷ ks) = ks
