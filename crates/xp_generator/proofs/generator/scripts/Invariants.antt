use Rattle.std.proofs.Common.{◌≡◌}
use Rattle.xp_generator.specs.Generated.{scripts_of}
use Rattle.xp_generator.proofs.generator.scripts.Given as goal

abbrev pub invariant-loop-part : goal.invariant-loop-part
invariant-loop-part l = l.list.items ≡ scripts_of l.n l.count l.part
