-- How many boots a partition begins, and how many commands a boot: no more than the scenario plans.
use Rattle.std.specs.Prelude.{ℕ, ◌+◌, ◌≤◌, Bool, if◌then◌else◌, nat_lt, List, [], ◌∷◌, length}
use Rattle.std.specs.List.{AllByRecursion}
use Rattle.xp_script.specs.declared.command.Command.{Command}
use Rattle.xp_script.specs.declared.limits.TheConstants.{COMMAND_LIMIT, RESTART_LIMIT}
use Rattle.xp_script.specs.declared.part.ScenarioPart.{ScenarioPart}
use Rattle.xp_script.specs.declared.setting.Moment.{Moment}
use Rattle.xp_script.specs.declared.setting.Moment.TheVariants.{Put, Turn}
use Rattle.xp_protocol.specs.Parts.{script_in}
use Rattle.xp_protocol.specs.State.{State}

-- whether a moment is to come, after so many turns and so many messages that were put; and how many
-- of some moments are
abbrev pub is_to_come : ℕ → ℕ → Moment → Bool
is_to_come turns puts (Turn turn) = nat_lt turns turn
is_to_come turns puts (Put number) = nat_lt puts number

abbrev pub to_come : ℕ → ℕ → List Moment → ℕ
to_come turns puts [] = 0
to_come turns puts (m ∷ more) =
    (if is_to_come turns puts m then 1 else 0) + to_come turns puts more

-- before a turn: the boots that were begun and the restarts that are to come are the first boot and
-- the planned restarts at most, and the commands that were begun are of the boot's script
pub record IsAsPlanned (s : ScenarioPart) (st : State) : Type 0 where
  pub boots : st.clock.boots + to_come st.clock.turns st.clock.puts s.restarts
      ≤ length s.restarts + 1
  pub begun : st.script.begun ≤ length (script_in s st.clock.boots)

-- a partition's part has few restarts, and each of its scripts few commands
abbrev pub IsShort : List Command → Type 0
IsShort script = length script ≤ COMMAND_LIMIT

pub record HasFewPlans (s : ScenarioPart) : Type 0 where
  pub restarts : length s.restarts ≤ RESTART_LIMIT
  pub scripts : AllByRecursion IsShort s.scripts
