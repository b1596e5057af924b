-- The world that threads leave.
use Rattle.std.specs.Prelude.{◌≡◌, ◌⊎◌, ℕ, ◌<◌, ◌≤◌, List, length}
use Rattle.xp_base.specs.History.{Event, turns_of}
use Rattle.xp_script.specs.declared.scenario.Scenario.{Scenario}
use Rattle.xp_protocol.specs.Reached.{HasEnded}
use Rattle.xp_world.specs.declared.world.World.{World}
use Rattle.xp_world.specs.World.{Reached, Promised}

-- each partition has ended, or made as many turns as the scenario lets it; none has made more
pub record Finished (s : Scenario) (h : List Event) : Type 0 where
  pub ended : (p : ℕ) → p < s.count → HasEnded s p h ⊎ (length (turns_of p h) ≡ s.budget)
  pub within : (p : ℕ) → p < s.count → length (turns_of p h) ≤ s.budget

-- one history leads to the world, each partition has finished in it, and all that is promised of a
-- history holds of it
pub record RanThreads (s : Scenario) (w : World) : Type 0 where
  pub history : List Event
  pub reached : Reached s history w
  pub finished : Finished s history
  pub promised : Promised s history w.words
