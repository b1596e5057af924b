use Rattle.std.proofs.Common.{◌≡◌, take}
use Rattle.std.specs.List.{count_by}
use Rattle.xp_script.specs.Lawful.{is_restart_of}
use Rattle.xp_lawful.proofs.lawful.restart_count.Given as goal

abbrev pub invariant-loop-restart : goal.invariant-loop-restart
invariant-loop-restart l = l.number ≡ count_by (is_restart_of l.part) (take l.restart-index l.restarts)
