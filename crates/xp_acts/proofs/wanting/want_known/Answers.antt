use Rattle.xp_acts.proofs.Wants.{turns_on, turns_off}
use Rattle.xp_acts.proofs.wanting.want_known.Goals as goal

pub returns-then-wanted-clause-list : goal.returns-then-wanted-clause-list
returns-then-wanted-clause-list c =
    turns_on c.args.partners.now.list c.touch.new.self.list c.args.number c.args.wanted c.at_mut-partner.result.now c.activate.new.self
    c.if-wanted.true c.touch.ensures.list c.at_mut-partner.ensures.value c.names.ensures c.activate.ensures.partner

pub returns-else-wanted-clause-list : goal.returns-else-wanted-clause-list
returns-else-wanted-clause-list c =
    turns_off c.args.partners.now.list c.touch.new.self.list c.args.number c.args.wanted c.at_mut-partner.result.now c.deactivate.new.self
    c.if-wanted.false c.touch.ensures.list c.at_mut-partner.ensures.value c.names.ensures c.deactivate.ensures.partner
