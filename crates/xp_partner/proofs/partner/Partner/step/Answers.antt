use Rattle.xp_partner.proofs.partner.Partner.step.Goals as goal

pub returns-in-Failed-clause-partner : goal.returns-in-Failed-clause-partner
returns-in-Failed-clause-partner c = rw c.in-Failed.is (c.fail.ensures.partner c.args.rule)
