-- What the work of one thread comes to.
use Rattle.std.specs.Prelude.{◌≡◌, ◌⊎◌, ◌≤◌, ℕ, List, [], ◌∷◌, ◌++◌, Option, None}
use Rattle.xp_base.specs.declared.step.Step.{Step}
use Rattle.xp_base.specs.History.{Marked, Turn}
use Rattle.xp_fabric.specs.Views.{SharedView}
use Rattle.xp_node.specs.Node.{NodeView, IsEnded, MakesTurn, HasMade, steps_of}
use Rattle.xp_world.specs.Turning.{IsSameNode}

-- the node makes just this turn
pub record MakesJust (old : NodeView) (turn : Turn) (new : NodeView) : Type 0 where
  pub made : Option Marked
  pub makes : MakesTurn old new made
  pub is : makes.turn ≡ turn

-- the node makes these turns, one after the other
abbrev pub MakesTurns : NodeView → List Turn → NodeView → Type 0
MakesTurns old [] new = IsSameNode old new
MakesTurns old (t ∷ ts) new = (next : NodeView) × MakesJust old t next × MakesTurns next ts new

-- the node made some turns, and these steps grew by theirs, each once and in their order. Behind the
-- turns that it had made before, the new ones are by the rules and by the plan
pub record Works (old : NodeView) (before : List Step) (new : NodeView) (after : List Step)
    : Type 0 where
  pub turns : List Turn
  pub made : MakesTurns old turns new
  pub runs : (earlier : List Turn) → HasMade old earlier → HasMade new (earlier ++ turns)
  pub steps : after ≡ before ++ steps_of turns
  pub part : new.part ≡ old.part
  pub idle : new.waiting ≡ None

-- it has ended, or made as many turns as it may
abbrev pub IsFinished : NodeView → Type 0
IsFinished n = IsEnded n ⊎ (n.state.clock.turns ≡ n.part.budget)

-- it has made no more turns than it may
abbrev pub IsWithin : NodeView → Type 0
IsWithin n = n.state.clock.turns ≤ n.part.budget

-- how far a worker has come: it is before turn number `turn`
pub record Goes (old : NodeView) (before : List Step) (part : ℕ) (memory : SharedView) (turn : ℕ)
    (now : NodeView) (steps : List Step) (part' : ℕ) (memory' : SharedView) : Type 0 where
  pub works : Works old before now steps
  pub turns : now.state.clock.turns ≡ turn
  pub part_same : part' ≡ part
  pub memory_same : memory' ≡ memory
