use Rattle.xp_partner.proofs.Naming.{named_roomed}
use Rattle.xp_partner.proofs.partner.Partner.reserve.Goals as goal

pub invariant_of-self : goal.invariant_of-self
invariant_of-self c =
    named_roomed c.self.inside.standing.own c.self.inside.standing.partner c.self.inside.ends c.reserve.new.ends c.self.invariant c.reserve.ensures.same
