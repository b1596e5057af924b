use Rattle.std.proofs.Common.{◌≡◌, ◌+◌, drop}
use Rattle.std.specs.List.{sum_by}
use Rattle.xp_script.specs.Totals.{boots_bytes}
use Rattle.xp_script.proofs.totals.payload_bytes_left.Given as goal

abbrev pub invariant-loop-boots : goal.invariant-loop-boots
invariant-loop-boots l = l.left + sum_by boots_bytes l.scripts ≡ l.limit + sum_by boots_bytes (drop l.boots-index l.scripts)
