use Rattle.xp_steps.proofs.Allowed.{may_link}
use Rattle.xp_steps.proofs.LinkSteps.{link_followed}
use Rattle.xp_steps.proofs.linking.step.Goals as goal

pub step_at-requires-clause-can : goal.step_at-requires-clause-can
step_at-requires-clause-can c = may_link c.args.keeping.now c.args.number c.args.channel c.args.rule c.args.mark c.args.answer c.requires.can c.requires.mark c.requires.load c.requires.room

pub returns : goal.returns
returns c = link_followed c.args.keeping.now c.args.number c.args.channel c.args.rule c.args.mark c.args.answer c.count_copy.new.clock c.count_put.new.clock c.step_at.new.partners c.requires.can c.requires.mark c.count_copy.ensures c.count_put.ensures c.step_at.ensures.one c.step_at.ensures.stepped
