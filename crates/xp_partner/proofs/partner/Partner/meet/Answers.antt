use Rattle.xp_partner.proofs.Naming.{named_joined}
use Rattle.xp_partner.proofs.partner.Partner.meet.Goals as goal

pub invariant_of-self : goal.invariant_of-self
invariant_of-self c =
    let s = c.self.inside.standing in
    named_joined s.own s.partner _ _ c.self.inside.ends c.start.new.ends c.self.invariant c.start.ensures.ends
