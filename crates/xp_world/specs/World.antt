-- Worlds that a history reaches, and the turns that lead from one world to another.
use Rattle.std.specs.Prelude.{◌≡◌, ℕ, ◌<◌, ◌⊎◌, List, [], ◌∷◌, ◌++◌, length, Some, None, slice_get, slice_set}
use Rattle.xp_base.specs.Memory.{Memory}
use Rattle.xp_base.specs.History.{Turn, Event, Turned, turns_of}
use Rattle.xp_script.specs.declared.scenario.Scenario.{Scenario}
use Rattle.xp_script.specs.Lawful.{IsLawful}
use Rattle.xp_script.specs.Parts.{part_of}
use Rattle.xp_protocol.specs.Reached.{ReachedWords, Follows, Scheduled}
use Rattle.xp_records.specs.Promises.{Promises}
use Rattle.xp_windows.specs.Windows.{Windows}
use Rattle.xp_node.specs.Node.{NodeView, HasMade}
use Rattle.xp_world.specs.declared.world.World.{World}
use Rattle.xp_world.specs.Turning.{TakesTurn, IsSameNode}

-- a node is partition p of the scenario, and has made the turns of p in the history
pub record IsNodeOf (s : Scenario) (h : List Event) (p : ℕ) (n : NodeView) : Type 0 where
  pub part : n.part ≡ part_of s p
  pub made : HasMade n (turns_of p h)

-- the history leads to the words of the world, and its nodes are the partitions with their turns
pub record Reached (s : Scenario) (h : List Event) (w : World) : Type 0 where
  pub words : ReachedWords s h w.words
  pub count : length w.nodes.items ≡ s.count
  pub nodes : (p : ℕ) (n : NodeView) → slice_get w.nodes.items p ≡ Some n → IsNodeOf s h p n

-- all that is promised of a history: and each partition has done what it owes within each window of
-- its turns
pub record Promised (s : Scenario) (h : List Event) (m : Memory) : Type 0 where
  pub promises : Promises s h m
  pub windows : (p : ℕ) → p < s.count → Windows (part_of s p) (turns_of p h)

-- the history that reaches the world has turns of these partitions, in this order, those of ended
-- ones left out
abbrev pub Reaches : Scenario → List ℕ → World → Type 0
Reaches s ps w = (h : List Event) × Reached s h w × Follows s [] ps h

-- a history with the written turns of the scenario reaches the world, and all that is promised
-- of a history holds of it
pub record Replayed (s : Scenario) (w : World) : Type 0 where
  pub history : List Event
  pub reached : Reached s history w
  pub scheduled : Scheduled s history
  pub promised : Promised s history w.words

-- node k is of partition k among as many as there are nodes, and no step waits
pub record IsReadyNode (among k : ℕ) (n : NodeView) : Type 0 where
  pub part : n.part.part ≡ k
  pub count : n.part.count ≡ among
  pub idle : n.waiting ≡ None

pub record IsReady (w : World) : Type 0 where
  pub words : length w.words ≡ length w.nodes.items
  pub nodes : (k : ℕ) (n : NodeView) → slice_get w.nodes.items k ≡ Some n
      → IsReadyNode (length w.nodes.items) k n

-- node p is partition p of the scenario, before its first turn
pub record IsNewNode (s : Scenario) (p : ℕ) (n : NodeView) : Type 0 where
  pub node : IsNodeOf s [] p n
  pub waiting : n.waiting ≡ None

abbrev pub AreNew : Scenario → List NodeView → Type 0
AreNew s ns = (p : ℕ) (n : NodeView) → slice_get ns p ≡ Some n → IsNewNode s p n

-- one turn of partition p: its node takes it, and the others stay
pub record WorldTurns (old new : World) (p : ℕ) : Type 0 where
  pub before : NodeView
  pub after : NodeView
  pub was : slice_get old.nodes.items p ≡ Some before
  pub nodes : new.nodes.items ≡ slice_set old.nodes.items p after
  pub turn : TakesTurn old.words before new.words after

-- the worlds are the same but for the room of node p
pub record IsSameWorld (old new : World) (p : ℕ) : Type 0 where
  pub before : NodeView
  pub after : NodeView
  pub was : slice_get old.nodes.items p ≡ Some before
  pub nodes : new.nodes.items ≡ slice_set old.nodes.items p after
  pub same : IsSameNode before after
  pub words : new.words ≡ old.words

-- history g is history h, or h and one turn of partition p behind it
abbrev pub GoesOn : ℕ → List Event → List Event → Type 0
GoesOn p h g = (g ≡ h) ⊎ ((t : Turn) × (g ≡ h ++ Turned p t ∷ []))

-- where a history reaches the one world, it reaches the other too, alone or with one turn of
-- partition p more
abbrev pub StaysReached : ℕ → World → World → Type 0
StaysReached p old new =
    (s : Scenario) (h : List Event) → Reached s h old →
    (g : List Event) × GoesOn p h g × Reached s g new

-- where a history of a lawful scenario reaches the one world, it reaches the other too, alone or
-- with one turn of partition p more, and all that is promised of a history holds of it
abbrev pub StaysPromised : ℕ → World → World → Type 0
StaysPromised p old new =
    (s : Scenario) (h : List Event) → IsLawful s → Reached s h old →
    (g : List Event) × GoesOn p h g × Reached s g new × Promised s g new.words
