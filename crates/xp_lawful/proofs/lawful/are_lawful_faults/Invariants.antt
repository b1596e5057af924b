use Rattle.std.proofs.Common.{◌↔◌, drop}
use Rattle.std.specs.List.{AllByRecursion}
use Rattle.xp_script.specs.Lawful.{IsLawfulFault}
use Rattle.xp_lawful.proofs.lawful.are_lawful_faults.Given as goal

abbrev pub invariant-loop-fault : goal.invariant-loop-fault
invariant-loop-fault l = AllByRecursion (IsLawfulFault l.count) (drop l.fault-index l.faults) ↔ AllByRecursion (IsLawfulFault l.count) l.faults
