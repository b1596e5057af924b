use Rattle.std.proofs.Common.{◌↔◌, drop}
use Rattle.std.specs.List.{AllByRecursion}
use Rattle.xp_lawful.specs.Built.{IsBuiltWarm}
use Rattle.xp_lawful.proofs.built.are_built_warms.Given as goal

abbrev pub invariant-loop-warm : goal.invariant-loop-warm
invariant-loop-warm l = AllByRecursion IsBuiltWarm (drop l.warm-index l.warms) ↔ AllByRecursion IsBuiltWarm l.warms
