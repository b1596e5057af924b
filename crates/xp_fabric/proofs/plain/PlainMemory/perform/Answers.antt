use Rattle.std.proofs.Common.{[], ◌∷◌, ◌++◌, length, ap, sym, ◌∙◌}
use Rattle.xp_base.specs.declared.step.Answer.TheVariants.{Word}
use Rattle.xp_fabric.specs.Steps.{PartStep, step_of}
use Rattle.xp_fabric.proofs.StepLemmas.{LegalSteps-push}
use Rattle.xp_fabric.proofs.plain.PlainMemory.perform.Goals as goal

pub invariant_of-self : goal.invariant_of-self
invariant_of-self c =
    let xs = c.self.inside.history in
    let s = step_of c.args.op (Word c.perform_on-word.result) in
    let at = c.push.ensures ∙ ap (λ (x : PartStep). xs ++ x ∷ []) c.item_of.ensures in
    rw (at, c.perform_on-word.ensures.words) (
      LegalSteps-push xs c.args.part s c.self.inside.opening.value c.self.inside.words c.self.invariant.0 c.perform_on-word.ensures.answer,
      ap length (sym c.perform_on-word.ensures.words) ∙ (c.perform_on-word.ensures.count ∙ c.self.invariant.1),
    )
