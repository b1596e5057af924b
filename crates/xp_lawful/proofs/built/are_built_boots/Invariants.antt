use Rattle.std.proofs.Common.{◌↔◌, drop}
use Rattle.std.specs.List.{AllByRecursion}
use Rattle.xp_lawful.specs.Built.{IsBuiltCommand}
use Rattle.xp_lawful.proofs.built.are_built_boots.Given as goal

abbrev pub invariant-loop-script : goal.invariant-loop-script
invariant-loop-script l = AllByRecursion (AllByRecursion IsBuiltCommand) (drop l.script-index l.boots) ↔ AllByRecursion (AllByRecursion IsBuiltCommand) l.boots
