-- How much a scenario has in all: commands, bytes of payloads and frames, turns and settings.
use Rattle.std.specs.Prelude.{◌≡◌, ℕ, ◌+◌, ◌*◌, ◌<◌, List, [], length, Option, Some, None, sum_by}
use Rattle.xp_script.specs.declared.command.Command.{Command}
use Rattle.xp_script.specs.declared.command.Command.TheVariants as commands
use Rattle.xp_script.specs.declared.schedule.Plan.{Plan}
use Rattle.xp_script.specs.declared.schedule.Plan.TheVariants.{Turns, Rounds}
use Rattle.xp_script.specs.declared.scenario.Scenario.{Scenario}

-- how many bytes a command sends
abbrev pub command_bytes : Command → ℕ
command_bytes (commands.Send q c payload wait notify) = length payload
command_bytes (commands.Net frame) = length frame
command_bytes _ = 0

unfoldable pub script_bytes : List Command → ℕ
script_bytes script = sum_by command_bytes script

unfoldable pub boots_bytes : List (List Command) → ℕ
boots_bytes boots = sum_by script_bytes boots

unfoldable pub boots_commands : List (List Command) → ℕ
boots_commands boots = sum_by length boots

-- the commands of all scripts
abbrev pub command_count : List (List (List Command)) → ℕ
command_count scripts = sum_by boots_commands scripts

-- the bytes of payloads and frames of all scripts
abbrev pub payload_bytes : List (List (List Command)) → ℕ
payload_bytes scripts = sum_by boots_bytes scripts

-- the turns that a line of a schedule gives, among `count` partitions
abbrev pub plan_turns : ℕ → Plan → ℕ
plan_turns count (Turns p n) = n
plan_turns count (Rounds n) = count * n

abbrev pub turn_count : ℕ → List Plan → ℕ
turn_count count plans = sum_by (plan_turns count) plans

-- the lines of a schedule, where there is one
abbrev pub plans_of : Option (List Plan) → List Plan
plans_of None = []
plans_of (Some plans) = plans

-- the settings but for the budget and the interval of heartbeat checks
abbrev pub setting_count : Scenario → ℕ
setting_count s =
    length s.minors + length s.warms + length s.faults + length s.stops + length s.restarts
    + length s.pokes

-- what is left of a limit behind n; None where n passes it
abbrev pub Leaves : Option ℕ → ℕ → ℕ → Type 0
Leaves None limit n = limit < n
Leaves (Some left) limit n = left + n ≡ limit
