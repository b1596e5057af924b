use Rattle.std.proofs.Common.{List, [], ◌∷◌, ◌++◌, ap, sym, ◌∙◌}
use Rattle.xp_base.specs.declared.step.Step.{Step}
use Rattle.xp_base.specs.declared.step.Answer.TheVariants.{Failed}
use Rattle.xp_fabric.specs.Rule.{part_steps}
use Rattle.xp_fabric.specs.Steps.{step_of}
use Rattle.xp_fabric.proofs.PassLemmas.{answered_steps-failed, loads-push}
use Rattle.xp_fabric.proofs.shared.Pass.miss.Goals as goal

pub invariant_of-self : goal.invariant_of-self
invariant_of-self c =
    let xs = c.self.inside.history in
    let s = step_of c.args.op Failed in
    let at = c.push.ensures ∙ ap (λ (x : Step). xs ++ x ∷ []) c.step.ensures in
    rw at (
      c.self.invariant.0 ∙ ap (λ (l : List Step). (part_steps c.self.inside.part l ∷ [], [])) (sym (answered_steps-failed xs c.args.op)),
      loads-push xs s c.self.invariant.1 c.requires.load,
    )
