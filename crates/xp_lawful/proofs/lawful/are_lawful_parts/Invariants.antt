use Rattle.std.proofs.Common.{ℕ, ◌<◌}
use Rattle.xp_script.specs.Lawful.{HasLawfulBoots}
use Rattle.xp_lawful.proofs.lawful.are_lawful_parts.Given as goal

abbrev pub invariant-loop-part : goal.invariant-loop-part
invariant-loop-part l = (k : ℕ) → k < l.part → HasLawfulBoots l.scenario k
