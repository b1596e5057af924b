use Rattle.std.proofs.Common.{◌≡◌, ◌+◌, drop}
use Rattle.std.specs.List.{sum_by}
use Rattle.xp_script.specs.Totals.{script_bytes}
use Rattle.xp_script.proofs.totals.boots_bytes_left.Given as goal

abbrev pub invariant-loop-script : goal.invariant-loop-script
invariant-loop-script l = l.left + sum_by script_bytes l.boots ≡ l.limit + sum_by script_bytes (drop l.script-index l.boots)
