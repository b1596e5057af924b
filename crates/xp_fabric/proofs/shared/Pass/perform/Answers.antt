use Rattle.std.proofs.Common.{List, [], ◌∷◌, ◌++◌, ap, sym, ◌∙◌}
use Rattle.xp_base.specs.declared.step.Step.{Step}
use Rattle.xp_base.specs.declared.step.Answer.TheVariants.{Word}
use Rattle.xp_fabric.specs.Rule.{part_steps, with_step}
use Rattle.xp_fabric.specs.Steps.{step_of}
use Rattle.xp_fabric.proofs.PassLemmas.{answered_steps-word, loads-push}
use Rattle.xp_fabric.proofs.shared.Pass.perform.Goals as goal

pub invariant_of-self : goal.invariant_of-self
invariant_of-self c =
    let xs = c.self.inside.history in
    let p = c.self.inside.part in
    let s = step_of c.args.op (Word c.perform_at-word.result) in
    let at = c.push.ensures ∙ ap (λ (x : Step). xs ++ x ∷ []) c.step.ensures in
    rw at (
      c.perform_at-word.ensures.seat ∙ (ap (λ (me : _). (with_step s me.0, [])) c.self.invariant.0
          ∙ ap (λ (l : List Step). (part_steps p l ∷ [], [])) (sym (answered_steps-word xs c.args.op c.perform_at-word.result))),
      loads-push xs s c.self.invariant.1 tt,
    )
