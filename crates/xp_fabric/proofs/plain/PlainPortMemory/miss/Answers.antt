use Rattle.std.proofs.Common.{length, ap, sym, subst, ◌∙◌}
use Rattle.xp_base.specs.declared.step.Answer.TheVariants.{Failed}
use Rattle.xp_fabric.specs.Steps.{step_of, steps_from, IsExtendedBy}
use Rattle.xp_fabric.proofs.StepLemmas.{steps_from-push, extended-push}
use Rattle.xp_fabric.proofs.plain.PlainPortMemory.miss.Goals as goal

pub invariant_of-self : goal.invariant_of-self
invariant_of-self c =
    let p = c.args.self.now in
    let before = p.before.value.history in
    let s = step_of c.args.op Failed in
    record { extended = subst (IsExtendedBy p.part before) (sym c.miss.ensures.history) (extended-push p.part before p.memory.now.history s p.extended) }

pub returns-clause-history : goal.returns-clause-history
returns-clause-history c =
    let p = c.args.self.now in
    let before = p.before.value.history in
    let s = step_of c.args.op Failed in
    ap (steps_from (length before)) c.miss.ensures.history ∙ steps_from-push p.part before p.memory.now.history s p.extended
