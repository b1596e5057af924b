use Rattle.xp_partner.proofs.partner.Partner.apply.Goals as goal

pub returns-in-TakeFlags-clause-partner : goal.returns-in-TakeFlags-clause-partner
returns-in-TakeFlags-clause-partner c = rw c.in-TakeFlags.is (c.take_flags.ensures.partner c.args.turn)

pub returns-in-LookAtPage-clause-partner : goal.returns-in-LookAtPage-clause-partner
returns-in-LookAtPage-clause-partner c = rw c.in-LookAtPage.is (c.look.ensures.partner c.args.turn)

pub returns-in-CloseArea-clause-partner : goal.returns-in-CloseArea-clause-partner
returns-in-CloseArea-clause-partner c = rw c.in-CloseArea.is (c.close_area.ensures.partner c.args.turn c.args.word)
