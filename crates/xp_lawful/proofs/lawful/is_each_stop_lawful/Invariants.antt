use Rattle.std.proofs.Common.{◌↔◌, drop}
use Rattle.std.specs.List.{AllByRecursion}
use Rattle.xp_script.specs.Lawful.{IsLawfulStop}
use Rattle.xp_lawful.proofs.lawful.is_each_stop_lawful.Given as goal

abbrev pub invariant-loop-stop : goal.invariant-loop-stop
invariant-loop-stop l = AllByRecursion (IsLawfulStop l.count) (drop l.stop-index l.stops) ↔ AllByRecursion (IsLawfulStop l.count) l.stops
