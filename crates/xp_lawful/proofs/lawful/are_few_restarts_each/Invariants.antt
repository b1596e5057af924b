use Rattle.std.proofs.Common.{ℕ, ◌<◌, ◌≤◌}
use Rattle.std.specs.List.{count_by}
use Rattle.xp_script.specs.declared.limits.TheConstants.{RESTART_LIMIT}
use Rattle.xp_script.specs.Lawful.{is_restart_of}
use Rattle.xp_lawful.proofs.lawful.are_few_restarts_each.Given as goal

abbrev pub invariant-loop-part : goal.invariant-loop-part
invariant-loop-part l = (k : ℕ) → k < l.part → count_by (is_restart_of k) l.restarts ≤ RESTART_LIMIT
