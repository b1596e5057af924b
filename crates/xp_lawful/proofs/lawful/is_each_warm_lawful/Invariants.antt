use Rattle.std.proofs.Common.{◌↔◌, drop}
use Rattle.std.specs.List.{AllByRecursion}
use Rattle.xp_script.specs.Lawful.{IsLawfulWarm}
use Rattle.xp_lawful.proofs.lawful.is_each_warm_lawful.Given as goal

abbrev pub invariant-loop-warm : goal.invariant-loop-warm
invariant-loop-warm l = AllByRecursion (IsLawfulWarm l.count l.minors) (drop l.warm-index l.warms) ↔ AllByRecursion (IsLawfulWarm l.count l.minors) l.warms
