-- A replay, and the turns that lead from one to another.
use Rattle.std.specs.Prelude.{◌≡◌, ℕ, List, [], ◌∷◌, length, Some, slice_get, slice_set}
use Rattle.xp_node.specs.Node.{NodeView}
use Rattle.xp_world.specs.declared.replay.Replay.{Replay}
use Rattle.xp_world.specs.Turning.{TakesPlain}
use Rattle.xp_world.specs.World.{IsReadyNode}

-- node k is of partition k among as many as there are nodes and words, and no step waits
pub record IsReadyReplay (r : Replay) : Type 0 where
  pub count : r.count ≡ length r.nodes.items
  pub words : length r.memory.opening ≡ length r.nodes.items
  pub nodes : (k : ℕ) (n : NodeView) → slice_get r.nodes.items k ≡ Some n
      → IsReadyNode (length r.nodes.items) k n

-- one turn of partition p: its node takes it, and the others stay
pub record ReplayTurns (old new : Replay) (p : ℕ) : Type 0 where
  pub before : NodeView
  pub after : NodeView
  pub was : slice_get old.nodes.items p ≡ Some before
  pub nodes : new.nodes.items ≡ slice_set old.nodes.items p after
  pub turn : TakesPlain p before old.memory.history after new.memory.history
  pub opening : new.memory.opening ≡ old.memory.opening

-- these partitions take a turn, one after the other
abbrev pub ReplayTakes : List ℕ → Replay → Replay → Type 0
ReplayTakes [] old new = new ≡ old
ReplayTakes (p ∷ ps) old new = (next : Replay) × ReplayTurns old next p × ReplayTakes ps next new
