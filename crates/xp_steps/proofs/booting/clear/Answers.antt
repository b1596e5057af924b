use Rattle.xp_steps.proofs.Boots.{cleared_followed}
use Rattle.xp_steps.proofs.booting.clear.Goals as goal

pub returns : goal.returns
returns c = cleared_followed c.args.keeping.now c.args.number c.turns-turn.result c.args.word c.args.rule c.feed.new.self c.step_for.new.partners c.requires.can c.requires.boots c.turns-turn.ensures c.step_for.ensures.one c.step_for.ensures.stepped c.feed.ensures.boot
