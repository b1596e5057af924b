use Rattle.std.proofs.Common.{◌∙◌, sym, ap}
use Rattle.xp_engage.specs.Partner.{Partner as Standing}
use Rattle.xp_partner.specs.Partner.{Partner, peer_seen}
use Rattle.xp_partner.specs.PartnerInside.{partner_seen}
use Rattle.xp_partner.specs.Making.{after_effect}
use Rattle.xp_protocol.specs.Peering.{peer_read}
use Rattle.xp_partner.proofs.Making.{own_rooms}
use Rattle.xp_partner.proofs.Naming.{named_as, named_finished}
use Rattle.xp_partner.proofs.Telling.{kept_made}
use Rattle.xp_partner.proofs.partner.Partner.engaged.Goals as goal

pub invariant_of-self : goal.invariant_of-self
invariant_of-self c =
    let s = c.self.inside.standing in
    named_as s c.engaged-is_freed.new.self c.finish.new.ends (ap (λ (t : Standing). t.own) c.engaged-is_freed.ensures.partner) (ap (λ (t : Standing). t.partner) c.engaged-is_freed.ensures.partner)
    (named_finished s.own s.partner c.self.inside.ends c.finish.new.ends c.self.invariant c.finish.ensures.ends)

pub returns-else-is_freed-clause-partner : goal.returns-else-is_freed-clause-partner
returns-else-is_freed-clause-partner c =
    let x = partner_seen c.self.inside in
    let w = c.args.word in
    own_rooms (record x { standing = c.engaged-is_freed.new.self }) (after_effect (peer_read w c.args.self.now.standing.partner (peer_seen c.args.self.now)) c.args.self.now)
    (ap (λ (s : Standing). record x { standing = s }) c.engaged-is_freed.ensures.partner
    ∙ kept_made w x c.self.invariant.four (sym c.engaged-is_freed.ensures.freed ∙ c.if-is_freed.false)
    ∙ ap (λ (z : Partner). after_effect (peer_read w z.standing.partner (peer_seen z)) z) c.self.view_is)
