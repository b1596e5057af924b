use Rattle.std.proofs.Common.{◌≡◌, drop}
use Rattle.xp_script.specs.Parts.{stop_of}
use Rattle.xp_script.proofs.setting.Stops.moment_of.Given as goal

abbrev pub invariant-loop-stop : goal.invariant-loop-stop
invariant-loop-stop l = stop_of l.part (drop l.stop-index l.stop-items) ≡ stop_of l.part l.stop-items
