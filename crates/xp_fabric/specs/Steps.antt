-- Histories of single steps, each made through the port of a partition, and which of them are
-- legal.
use Rattle.std.specs.Prelude.{◌≡◌, ℕ, ◌<◌, List, [], ◌∷◌, ◌++◌, map, length, drop, Some, None, if◌then◌else◌, ◌==◌}
use Rattle.xp_base.specs.declared.step.Op.{Op}
use Rattle.xp_base.specs.declared.step.Answer.{Answer}
use Rattle.xp_base.specs.declared.step.Step.{Step}
use Rattle.xp_base.specs.Memory.{Memory}
use Rattle.xp_base.specs.History.{Event, Turned, Turn, Legal}
use Rattle.xp_fabric.specs.declared.part_item.PartItem.{PartItem}

-- a step, and the partition whose port made it
abbrev pub PartStep : Type 0
PartStep = PartItem Step

abbrev pub step_of : Op → Answer → Step
step_of op answer = record { op = op; answer = answer }

abbrev pub part_step : ℕ → Step → PartStep
part_step p s = record { part = p; item = s }

-- the turn that is this step alone, which belongs to no copy
abbrev pub turn_of : Step → Turn
turn_of s = record { before = []; made = Some (record { step = s; mark = None }); after = [] }

abbrev pub events_of : List PartStep → List Event
events_of [] = []
events_of (x ∷ xs) = Turned x.part (turn_of x.item) ∷ events_of xs

-- these steps lead from the old words to the new
abbrev pub LegalSteps : Memory → List PartStep → Memory → Type 0
LegalSteps old xs new = Legal old (events_of xs) new

module _ {T : Type 0} where
  -- the items of one partition, in their order
  abbrev pub items_of : ℕ → List (PartItem T) → List T
  items_of p [] = []
  items_of p (x ∷ xs) = if x.part == p then x.item ∷ items_of p xs else items_of p xs

  -- each item is of one of the first n partitions
  abbrev pub PartsBelow : ℕ → List (PartItem T) → Type 0
  PartsBelow n [] = Unit {0}
  PartsBelow n (x ∷ xs) = (x.part < n) × PartsBelow n xs

-- the steps of all ports, but for the first n
abbrev pub steps_from : ℕ → List PartStep → List Step
steps_from n xs = map (λ (x : PartStep). x.item) (drop n xs)

-- the new history is the old one and steps of this partition after it
abbrev pub IsExtendedBy : ℕ → List PartStep → List PartStep → Type 0
IsExtendedBy p old new = new ≡ old ++ map (part_step p) (steps_from (length old) new)
