use Rattle.std.proofs.Common.{ℕ, subst, refl}
use Rattle.xp_lawful.specs.Built.{IsBuiltPart}
use Rattle.xp_lawful.proofs.Below.{below_more}
use Rattle.xp_lawful.proofs.built.are_built_parts.Goals as goal

pub loop-part-preserved : goal.loop-part-preserved
loop-part-preserved c =
    let s = c.args.scenario.now in
    below_more (λ p. IsBuiltPart s p) c.loop-part.part c.loop-part.invariant
    (subst (λ (p : ℕ). IsBuiltPart s p) c.known.ensures (c.if-not-is_built_part.ensures.0 refl))
