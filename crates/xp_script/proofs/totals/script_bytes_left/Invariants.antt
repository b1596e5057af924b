use Rattle.std.proofs.Common.{◌≡◌, ◌+◌, drop}
use Rattle.std.specs.List.{sum_by}
use Rattle.xp_script.specs.Totals.{command_bytes}
use Rattle.xp_script.proofs.totals.script_bytes_left.Given as goal

abbrev pub invariant-loop-command : goal.invariant-loop-command
invariant-loop-command l = l.left + sum_by command_bytes l.commands ≡ l.limit + sum_by command_bytes (drop l.command-index l.commands)
