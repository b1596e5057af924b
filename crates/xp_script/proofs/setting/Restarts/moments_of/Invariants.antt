use Rattle.std.proofs.Common.{◌≡◌, ◌++◌, drop}
use Rattle.xp_script.specs.Parts.{restarts_of}
use Rattle.xp_script.proofs.setting.Restarts.moments_of.Given as goal

abbrev pub invariant-loop-restart : goal.invariant-loop-restart
invariant-loop-restart l = l.list.items ++ restarts_of l.part (drop l.restart-index l.restart-items) ≡ restarts_of l.part l.restart-items
