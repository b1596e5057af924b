-- One turn of a node: through a port, over plain memory, and over the words of all.
use Rattle.std.specs.Prelude.{◌≡◌, ◌⊎◌, ◌≤◌, ℕ, List, ◌++◌, map, Option}
use Rattle.xp_base.specs.declared.step.Step.{Step}
use Rattle.xp_base.specs.Memory.{Memory}
use Rattle.xp_base.specs.History.{Marked, IsAnswered, after_made}
use Rattle.xp_fabric.specs.Steps.{PartStep, part_step}
use Rattle.xp_node.specs.Node.{NodeView, IsEnded, MakesTurn, steps_made}

-- the nodes are the same but for their room, of which there is no less
pub record IsSameNode (old new : NodeView) : Type 0 where
  pub same : new ≡ record old { room = new.room }
  pub room : old.room ≤ new.room

-- the node makes one turn, and these steps grow by its step
pub record TurnsOver (n : NodeView) (before : List Step) (n' : NodeView) (after : List Step)
    : Type 0 where
  pub made : Option Marked
  pub turns : MakesTurn n n' made
  pub steps : after ≡ before ++ steps_made made

-- the node of partition p makes one turn, and the steps of all partitions grow by its step
pub record TurnsPlain (p : ℕ) (n : NodeView) (before : List PartStep) (n' : NodeView)
    (after : List PartStep) : Type 0 where
  pub made : Option Marked
  pub turns : MakesTurn n n' made
  pub steps : after ≡ before ++ map (part_step p) (steps_made made)

-- the node makes one turn, whose step the words answer; the words after it are those that the step
-- leaves
pub record TurnsOnce (m : Memory) (n : NodeView) (m' : Memory) (n' : NodeView) : Type 0 where
  pub running : IsEnded n → ⊥
  pub made : Option Marked
  pub turns : MakesTurn n n' made
  pub answered : IsAnswered m made
  pub words : m' ≡ after_made m made

-- the node has ended, and nothing happens
pub record StaysEnded (m : Memory) (n : NodeView) (m' : Memory) (n' : NodeView) : Type 0 where
  pub ended : IsEnded n
  pub words : m' ≡ m
  pub node : n' ≡ n

abbrev pub TakesTurn : Memory → NodeView → Memory → NodeView → Type 0
TakesTurn m n m' n' = StaysEnded m n m' n' ⊎ TurnsOnce m n m' n'

-- the node of partition p has ended, and nothing happens; or it makes a turn
abbrev pub TakesPlain : ℕ → NodeView → List PartStep → NodeView → List PartStep → Type 0
TakesPlain p n before n' after =
    (IsEnded n × (after ≡ before) × (n' ≡ n))
    ⊎ ((IsEnded n → ⊥) × TurnsPlain p n before n' after)
