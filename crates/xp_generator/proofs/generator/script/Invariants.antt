use Rattle.std.proofs.Common.{◌≡◌, ◌++◌}
use Rattle.xp_generator.specs.Generated.{opening, exchanges}
use Rattle.xp_generator.proofs.generator.script.Given as goal

abbrev pub invariant-loop-number : goal.invariant-loop-number
invariant-loop-number l = l.commands.items ≡ opening l.next l.previous ++ exchanges l.n l.part l.next l.previous l.number
