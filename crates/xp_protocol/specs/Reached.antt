-- Histories that partitions make by the rules, and those that follow the written schedule.
use Rattle.std.specs.Prelude.{◌≡◌, ℕ, ◌<◌, ◌⊎◌, List, [], ◌∷◌, ◌++◌}
use Rattle.xp_base.specs.Memory.{Memory}
use Rattle.xp_base.specs.History.{Event, Poked, Turned, Legal, turns_of}
use Rattle.xp_script.specs.declared.scenario.Scenario.{Scenario}
use Rattle.xp_protocol.specs.State.{State}
use Rattle.xp_protocol.specs.Runs.{start, Runs, IsDone, state_after}
use Rattle.xp_script.specs.Parts.{part_of}
use Rattle.xp_script.specs.Opening.{opening}
use Rattle.xp_script.specs.Turns.{written}

-- each event is a turn of one of n partitions: nothing is poked
abbrev pub AreTurnsOf : ℕ → List Event → Type 0
AreTurnsOf n [] = Unit {0}
AreTurnsOf n (Turned q turn ∷ es) = (q < n) × AreTurnsOf n es
AreTurnsOf n (Poked owner index word ∷ es) = ⊥

-- a history leads from the opening words to these, and each partition's turns are permitted
pub record ReachedWords (s : Scenario) (h : List Event) (m : Memory) : Type 0 where
  pub parts : AreTurnsOf s.count h
  pub legal : Legal (opening s) h m
  pub runs : (p : ℕ) → p < s.count → Runs (part_of s p) (turns_of p h)

-- what partition p knows after a history
abbrev pub state_at : Scenario → List Event → ℕ → State
state_at s h p = state_after (part_of s p) (start (part_of s p)) (turns_of p h)

-- partition p has ended after a history
abbrev pub HasEnded : Scenario → ℕ → List Event → Type 0
HasEnded s p h = IsDone (part_of s p) (state_at s h p)

abbrev pub IsTurnOf : ℕ → Event → Type 0
IsTurnOf p (Turned q turn) = q ≡ p
IsTurnOf p (Poked owner index word) = ⊥

-- after the history done, these partitions take turns as h has them, those that have ended left out
abbrev pub Follows : Scenario → List Event → List ℕ → List Event → Type 0
Follows s done [] h = h ≡ []
Follows s done (p ∷ ps) [] = HasEnded s p done × Follows s done ps []
Follows s done (p ∷ ps) (e ∷ es) =
    (HasEnded s p done × Follows s done ps (e ∷ es)) ⊎ ((HasEnded s p done → ⊥) × IsTurnOf p e
    × Follows s (done ++ e ∷ []) ps es)

-- the history has the written turns, those of ended partitions left out
abbrev pub Scheduled : Scenario → List Event → Type 0
Scheduled s h = Follows s [] (written s) h
