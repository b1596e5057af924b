-- The scenario that a draft means, and the first limit that one passes.
use Rattle.std.specs.Prelude.{ℕ, ◌*◌, ◌||◌, Bool, if◌then◌else◌, nat_lt, List, length, Option, Some, None}
use Rattle.std.specs.List.{list_any}
use Rattle.std.specs.Option.{unwrap_or}
use Rattle.xp_script.specs.declared.limits.TheConstants.{COMMAND_LIMIT, PAYLOAD_BYTES_LIMIT, TURN_LIMIT, SETTING_LIMIT, SCRIPT_LIMIT}
use Rattle.xp_script.specs.declared.command.Command.{Command}
use Rattle.xp_script.specs.declared.schedule.Plan.{Plan}
use Rattle.xp_script.specs.declared.scenario.Scenario.{Scenario}
use Rattle.xp_script.specs.Sizes.{default_budget}
use Rattle.xp_script.specs.Totals.{command_count, payload_bytes, turn_count, plans_of, setting_count}
use Rattle.xp_scenario.specs.declared.fault.What.{What}
use Rattle.xp_scenario.specs.declared.fault.What.TheVariants as whats
use Rattle.xp_scenario.specs.declared.draft.Draft.{Draft}
use Rattle.xp_scenario.specs.declared.draft.Section.{Section}
use Rattle.xp_scenario.specs.declared.draft.Section.TheVariants as sections

-- a scenario keeps its schedule even where it has no lines
abbrev pub schedule_of : Section → List Plan → Option (List Plan)
schedule_of sections.Schedule plans = Some plans
schedule_of _ plans = None

abbrev pub scenario_of : Draft → Scenario
scenario_of d = record {
  count = d.count;
  budget = unwrap_or d.settings.budget (default_budget d.count);
  check = unwrap_or d.settings.check 0;
  minors = d.settings.minors;
  warms = d.settings.warms;
  faults = d.settings.faults;
  stops = d.settings.stops;
  restarts = d.settings.restarts;
  pokes = d.settings.pokes;
  scripts = d.scripts;
  schedule = schedule_of d.section d.plans;
}

-- more scripts of a partition than may be
abbrev pub is_many : List (List Command) → Bool
is_many boots = nat_lt SCRIPT_LIMIT (length boots)

-- more turns than may be, of the schedule or of all budgets
abbrev pub has_many_turns : Scenario → Bool
has_many_turns s =
    nat_lt TURN_LIMIT (turn_count s.count (plans_of s.schedule))
    || nat_lt TURN_LIMIT (s.count * s.budget)

-- the first limit that is passed
abbrev pub too_many : Scenario → Option (What × ℕ)
too_many s =
    if nat_lt COMMAND_LIMIT (command_count s.scripts) then Some (whats.Commands, COMMAND_LIMIT)
    else if nat_lt PAYLOAD_BYTES_LIMIT (payload_bytes s.scripts)
    then Some (whats.PayloadBytes, PAYLOAD_BYTES_LIMIT)
    else if has_many_turns s then Some (whats.Turns, TURN_LIMIT)
    else if nat_lt SETTING_LIMIT (setting_count s) then Some (whats.Settings, SETTING_LIMIT)
    else if list_any is_many s.scripts then Some (whats.Scripts, SCRIPT_LIMIT)
    else None
