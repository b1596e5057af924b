use Rattle.std.proofs.Common.{◌↔◌, drop}
use Rattle.std.specs.List.{AllByRecursion}
use Rattle.xp_script.specs.Lawful.{AreLawfulCommands}
use Rattle.xp_lawful.proofs.lawful.are_lawful_boots.Given as goal

abbrev pub invariant-loop-script : goal.invariant-loop-script
invariant-loop-script l = AllByRecursion (AreLawfulCommands l.count l.own l.minor) (drop l.script-index l.boots) ↔ AllByRecursion (AreLawfulCommands l.count l.own l.minor) l.boots
