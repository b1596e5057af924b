use Rattle.xp_steps.proofs.Allowed.{may_follow}
use Rattle.xp_steps.proofs.PeerSteps.{peer_followed}
use Rattle.xp_steps.proofs.peering.step.Goals as goal

pub step_for-requires-clause-can : goal.step_for-requires-clause-can
step_for-requires-clause-can c = may_follow c.args.keeping.now c.args.number c.args.rule c.requires.can c.requires.room

pub returns : goal.returns
returns c = peer_followed c.args.keeping.now c.args.number c.turns-turn.result c.args.rule c.args.mark c.args.answer c.count_copy.new.clock c.step_for.new.partners c.requires.can c.requires.up c.requires.mark c.count_copy.ensures c.turns-turn.ensures c.step_for.ensures.one c.step_for.ensures.stepped
