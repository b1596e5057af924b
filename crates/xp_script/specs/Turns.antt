-- The written turns of a scenario: the partitions that take a turn, in the order of the schedule.
use Rattle.std.specs.Prelude.{ℕ, zero, suc, ◌+◌, List, [], ◌∷◌, ◌++◌, replicate}
use Rattle.xp_script.specs.declared.schedule.Plan.{Plan}
use Rattle.xp_script.specs.declared.schedule.Plan.TheVariants.{Turns, Rounds}
use Rattle.xp_script.specs.declared.scenario.Scenario.{Scenario}
use Rattle.xp_script.specs.Totals.{plans_of}

-- a turn of partition p and of the n - 1 partitions after it
unfoldable pub one_round : ℕ → ℕ → List ℕ
one_round p zero = []
one_round p (suc n) = p ∷ one_round (p + 1) n

-- n rounds: in each every partition takes one turn, in ascending order
unfoldable pub some_rounds : ℕ → ℕ → List ℕ
some_rounds count zero = []
some_rounds count (suc n) = some_rounds count n ++ one_round 0 count

abbrev pub plan_parts : ℕ → Plan → List ℕ
plan_parts count (Turns p n) = replicate n p
plan_parts count (Rounds n) = some_rounds count n

abbrev pub written_plans : ℕ → List Plan → List ℕ
written_plans count [] = []
written_plans count (plan ∷ plans) = plan_parts count plan ++ written_plans count plans

-- none where the scenario has no schedule
abbrev pub written : Scenario → List ℕ
written s = written_plans s.count (plans_of s.schedule)
