use Rattle.std.proofs.Common.{◌↔◌, drop}
use Rattle.std.specs.List.{AllByRecursion}
use Rattle.xp_script.specs.Lawful.{IsLawfulRestart}
use Rattle.xp_lawful.proofs.lawful.is_each_restart_lawful.Given as goal

abbrev pub invariant-loop-restart : goal.invariant-loop-restart
invariant-loop-restart l = AllByRecursion (IsLawfulRestart l.count) (drop l.restart-index l.restarts) ↔ AllByRecursion (IsLawfulRestart l.count) l.restarts
