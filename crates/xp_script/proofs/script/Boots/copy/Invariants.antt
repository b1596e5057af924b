use Rattle.std.proofs.Common.{◌≡◌, take}
use Rattle.xp_script.proofs.script.Boots.copy.Given as goal

abbrev pub invariant-loop-script : goal.invariant-loop-script
invariant-loop-script l = l.list.items ≡ take l.script-index l.script-items
