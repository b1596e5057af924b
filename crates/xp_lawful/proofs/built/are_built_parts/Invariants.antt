use Rattle.std.proofs.Common.{ℕ, ◌<◌}
use Rattle.xp_lawful.specs.Built.{IsBuiltPart}
use Rattle.xp_lawful.proofs.built.are_built_parts.Given as goal

abbrev pub invariant-loop-part : goal.invariant-loop-part
invariant-loop-part l = (k : ℕ) → k < l.part → IsBuiltPart l.scenario k
