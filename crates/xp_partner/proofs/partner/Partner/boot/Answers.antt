use Rattle.std.proofs.Common.{ap}
use Rattle.xp_engage.specs.Partner.{Partner as Standing}
use Rattle.xp_partner.specs.Booting.{each_booted}
use Rattle.xp_partner.proofs.Naming.{named_as, named_booted, named_roomed}
use Rattle.xp_partner.proofs.partner.Partner.boot.Goals as goal

pub invariant_of-self : goal.invariant_of-self
invariant_of-self c =
    let s = c.self.inside.standing in
    named_as s c.boot.new.self c.boot-2.new.ends (ap (λ (t : Standing). t.own) c.boot.ensures) (ap (λ (t : Standing). t.partner) c.boot.ensures)
    (named_roomed s.own s.partner (each_booted c.self.inside.ends) c.boot-2.new.ends (named_booted s.own s.partner c.self.inside.ends c.self.invariant) c.boot-2.ensures.ends)
