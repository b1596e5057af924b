use Rattle.std.proofs.Common.{refl}
use Rattle.xp_acts.proofs.Answered.{answered_in}
use Rattle.xp_acts.proofs.answering.answer.Goals as goal

pub returns-clause-some : goal.returns-clause-some
returns-clause-some c =
    answered_in c.args.keeping.now c.give.new.keeping c.in_ok-answer.answer c.answer.new.self c.requires.kept (c.if-not-may_answer.ensures.yes refl) c.in_ok-answer.ensures.value c.in_ok-answer.ensures.rest
    c.answer.ensures c.in_ok-answer.ensures.some
