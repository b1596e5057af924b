use Rattle.std.proofs.Common.{◌≡◌, take}
use Rattle.std.specs.List.{count_by}
use Rattle.xp_script.specs.Lawful.{is_stop_of}
use Rattle.xp_lawful.proofs.lawful.stop_count.Given as goal

abbrev pub invariant-loop-stop : goal.invariant-loop-stop
invariant-loop-stop l = l.number ≡ count_by (is_stop_of l.part) (take l.stop-index l.stops)
