use Rattle.std.proofs.Common.{◌↔◌, drop}
use Rattle.std.specs.List.{AllByRecursion}
use Rattle.xp_script.specs.Lawful.{IsLawfulPlan}
use Rattle.xp_lawful.proofs.lawful.are_lawful_plans.Given as goal

abbrev pub invariant-loop-plan : goal.invariant-loop-plan
invariant-loop-plan l = AllByRecursion (IsLawfulPlan l.count) (drop l.plan-index l.plans) ↔ AllByRecursion (IsLawfulPlan l.count) l.plans
