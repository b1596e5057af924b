use Rattle.std.proofs.Common.{◌≡◌, ◌+◌, drop}
use Rattle.std.specs.List.{sum_by}
use Rattle.xp_script.specs.Totals.{plan_turns}
use Rattle.xp_script.proofs.totals.turns_left.Given as goal

abbrev pub invariant-loop-plan : goal.invariant-loop-plan
invariant-loop-plan l = l.left + sum_by (plan_turns l.count) l.plans ≡ l.limit + sum_by (plan_turns l.count) (drop l.plan-index l.plans)
