use Rattle.std.proofs.Common.{[], ◌∷◌, ◌++◌, ap, ◌∙◌}
use Rattle.xp_base.specs.declared.step.Answer.TheVariants.{Failed}
use Rattle.xp_fabric.specs.Steps.{PartStep, step_of}
use Rattle.xp_fabric.proofs.StepLemmas.{LegalSteps-push}
use Rattle.xp_fabric.proofs.plain.PlainMemory.miss.Goals as goal

pub invariant_of-self : goal.invariant_of-self
invariant_of-self c =
    let xs = c.self.inside.history in
    let s = step_of c.args.op Failed in
    let at = c.push.ensures ∙ ap (λ (x : PartStep). xs ++ x ∷ []) c.item_of.ensures in
    rw at (LegalSteps-push xs c.args.part s c.self.inside.opening.value c.self.inside.words c.self.invariant.0 c.requires.load, c.self.invariant.1)
