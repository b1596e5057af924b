use Rattle.std.proofs.Common.{sym, subst}
use Rattle.xp_base.specs.declared.step.Answer.TheVariants.{Word}
use Rattle.xp_protocol.specs.declared.rule.OwnRule.{OwnRule}
use Rattle.xp_protocol.specs.State.{Beats}
use Rattle.xp_protocol.specs.declared.rule.Rule.TheVariants.{Own}
use Rattle.xp_steps.specs.Stepping.{CanStep, IsStepped}
use Rattle.xp_steps.proofs.OwnSteps.{engaged_followed, deactivated_followed, masked_followed}
use Rattle.xp_steps.proofs.owning.step.Goals as goal

pub returns-in-ReadEngaged : goal.returns-in-ReadEngaged
returns-in-ReadEngaged c =
    subst (λ (rule : OwnRule). IsStepped c.args.keeping.now (Own rule) (Word c.args.word) (record c.args.keeping.now { partners = c.tell_all.new.partners })) (sym c.in-ReadEngaged.is)
    (engaged_followed c.args.keeping.now c.args.word c.tell_all.new.partners (subst (λ (rule : OwnRule). CanStep c.args.keeping.now (Own rule)) c.in-ReadEngaged.is c.requires.can) c.requires.up c.tell_all.ensures)

pub returns-in-TakeDeactivation : goal.returns-in-TakeDeactivation
returns-in-TakeDeactivation c =
    subst (λ (rule : OwnRule). IsStepped c.args.keeping.now (Own rule) (Word c.args.word) (record c.args.keeping.now { partners = c.tell_all-in-TakeDeactivation.new.partners })) (sym c.in-TakeDeactivation.is)
    (deactivated_followed c.args.keeping.now c.args.word c.tell_all-in-TakeDeactivation.new.partners (subst (λ (rule : OwnRule). CanStep c.args.keeping.now (Own rule)) c.in-TakeDeactivation.is c.requires.can) c.requires.up c.tell_all-in-TakeDeactivation.ensures)

pub returns-in-StoreMask : goal.returns-in-StoreMask
returns-in-StoreMask c =
    subst (λ (beat : Beats). IsStepped c.args.keeping.now (Own c.args.rule) (Word c.args.word) (record c.args.keeping.now { beat = beat; partners = c.tell_all-in-StoreMask.new.partners })) (sym c.store_mask.ensures)
    (subst (λ (rule : OwnRule). IsStepped c.args.keeping.now (Own rule) (Word c.args.word) (record c.args.keeping.now { beat = record c.args.keeping.now.beat { mask = c.mask-mask.result }; partners = c.tell_all-in-StoreMask.new.partners })) (sym c.in-StoreMask.is)
    (masked_followed c.args.keeping.now c.args.word c.mask-mask.result c.tell_all-in-StoreMask.new.partners (subst (λ (rule : OwnRule). CanStep c.args.keeping.now (Own rule)) c.in-StoreMask.is c.requires.can) c.requires.up c.mask-mask.ensures c.tell_all-in-StoreMask.ensures))
