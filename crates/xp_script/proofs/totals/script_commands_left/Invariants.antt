use Rattle.std.proofs.Common.{◌≡◌, ◌+◌, drop, length}
use Rattle.std.specs.List.{sum_by}
use Rattle.xp_script.proofs.totals.script_commands_left.Given as goal

abbrev pub invariant-loop-script : goal.invariant-loop-script
invariant-loop-script l = l.left + sum_by length l.boots ≡ l.limit + sum_by length (drop l.script-index l.boots)
