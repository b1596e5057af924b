use Rattle.std.proofs.Common.{◌∙◌, sym, ap, List, None}
use Rattle.xp_engage.specs.Partner.{Partner as Standing, stepped}
use Rattle.xp_channel.specs.Channel.{Channel}
use Rattle.xp_partner.specs.Partner.{Partner}
use Rattle.xp_partner.specs.PartnerInside.{partner_seen}
use Rattle.xp_partner.specs.Making.{peer_made}
use Rattle.xp_base.specs.declared.step.Answer.TheVariants.{Word}
use Rattle.xp_protocol.specs.declared.rule.PeerRule.TheVariants.{CloseArea}
use Rattle.xp_partner.proofs.Making.{own_rooms, closed_made, closed_none}
use Rattle.xp_partner.proofs.Naming.{named_as, named_down}
use Rattle.xp_partner.proofs.partner.Partner.close_area.Goals as goal

pub invariant_of-self : goal.invariant_of-self
invariant_of-self c =
    let s = c.self.inside.standing in
    named_as s c.step.new.self c.down.new.ends (ap (λ (t : Standing). t.own) c.step.ensures.partner) (ap (λ (t : Standing). t.partner) c.step.ensures.partner)
    (named_down s.own s.partner c.in-Some.reason c.self.inside.ends c.down.new.ends c.self.invariant c.down.ensures.ends)

pub returns-in-Some-clause-partner : goal.returns-in-Some-clause-partner
returns-in-Some-clause-partner c = λ turn w.
    let x = partner_seen c.self.inside in
    own_rooms (record x { standing = c.step.new.self; channels = c.down.new.ends }) (peer_made turn None CloseArea (Word w) c.args.self.now)
    (ap (λ (s : Standing). record x { standing = s; channels = c.down.new.ends }) c.step.ensures.partner
    ∙ ap (λ (ys : List Channel). record x { standing = stepped 0 x.standing CloseArea (Word 0); channels = ys }) c.down.ensures.ends
    ∙ closed_made turn w x c.in-Some.reason (sym c.reason-reason.ensures ∙ c.in-Some.is) c.self.invariant.four
    ∙ ap (λ (z : Partner). peer_made turn None CloseArea (Word w) z) c.self.view_is)

pub returns-in_default-clause-partner : goal.returns-in_default-clause-partner
returns-in_default-clause-partner c = λ turn w.
    let x = partner_seen c.self.inside in
    own_rooms (record x { standing = c.step.new.self }) (peer_made turn None CloseArea (Word w) c.args.self.now)
    (ap (λ (s : Standing). record x { standing = s }) c.step.ensures.partner
    ∙ closed_none turn w x (sym c.reason-reason.ensures ∙ c.in_default.is) c.self.invariant.four
    ∙ ap (λ (z : Partner). peer_made turn None CloseArea (Word w) z) c.self.view_is)
