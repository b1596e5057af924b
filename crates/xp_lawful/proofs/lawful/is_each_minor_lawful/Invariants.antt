use Rattle.std.proofs.Common.{◌↔◌, drop}
use Rattle.std.specs.List.{AllByRecursion}
use Rattle.xp_script.specs.Lawful.{IsLawfulMinor}
use Rattle.xp_lawful.proofs.lawful.is_each_minor_lawful.Given as goal

abbrev pub invariant-loop-minor : goal.invariant-loop-minor
invariant-loop-minor l = AllByRecursion (IsLawfulMinor l.count) (drop l.minor-index l.minors) ↔ AllByRecursion (IsLawfulMinor l.count) l.minors
