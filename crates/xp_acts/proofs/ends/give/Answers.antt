use Rattle.xp_acts.proofs.AtEnds.{give_end}
use Rattle.xp_acts.proofs.ends.give.Goals as goal

pub returns-clause-partners : goal.returns-clause-partners
returns-clause-partners c =
    give_end c.args.partners.now c.touch.new.self c.args.end.partner c.args.end.channel c.args.verb c.at_mut-partner.result.now c.answer_of.new.self
    c.requires.partner c.requires.channel c.requires.numbered c.touch.ensures.list (c.touch.ensures.here, c.touch.ensures.others) c.at_mut-partner.ensures.value c.names.ensures
    (record { whole = c.answer_of.ensures.whole; end = c.answer_of.ensures.end; room = c.answer_of.ensures.room; left = c.answer_of.ensures.left }) c.requires.due
