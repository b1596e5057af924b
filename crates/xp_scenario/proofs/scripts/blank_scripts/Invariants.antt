use Rattle.std.proofs.Common.{◌≡◌, List, []}
use Rattle.std.specs.Prelude.{replicate}
use Rattle.xp_script.specs.declared.command.Command.{Command}
use Rattle.xp_scenario.proofs.scripts.blank_scripts.Given as goal

abbrev pub invariant-loop : goal.invariant-loop
invariant-loop l = let none : List (List Command) = [] in l.list.items ≡ replicate l.counter none
