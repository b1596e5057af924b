use Rattle.std.proofs.Common.{◌≡◌, ◌++◌, drop}
use Rattle.xp_script.specs.Simple.{one_boot_each}
use Rattle.xp_script.proofs.made.one_boot_each.Given as goal

abbrev pub invariant-loop-script : goal.invariant-loop-script
invariant-loop-script l = l.list.items ++ one_boot_each (drop l.script-index l.scripts) ≡ one_boot_each l.scripts
