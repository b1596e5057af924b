use Rattle.std.proofs.Common.{◌≡◌, ◌∙◌, ap, Bool, Option, None}
use Rattle.xp_engage.specs.Partner.{Partner as Standing}
use Rattle.xp_partner.specs.Partner.{Partner, rooms_of}
use Rattle.xp_partner.specs.PartnerInside.{partner_seen}
use Rattle.xp_partner.specs.Making.{peer_made, met_if}
use Rattle.std.specs.Prelude.{is_some}
use Rattle.xp_base.specs.declared.reason.Reason.{Reason}
use Rattle.xp_base.specs.declared.step.Answer.TheVariants.{Word}
use Rattle.xp_partner.proofs.Making.{alone_made, giving, sessions_some}
use Rattle.xp_partner.proofs.partner.Partner.step_alone.Goals as goal

pub returns-clause-partner : goal.returns-clause-partner
returns-clause-partner c =
    let x = partner_seen c.self.inside in
    let y = c.meet.new.self in
    let met : c.is_some-was_met.result ≡ is_some x.standing.contact = c.is_some-was_met.ensures ∙ ap (λ o. is_some o) c.contact.ensures ∙ sessions_some x.standing.contact in
    alone_made c.args.turn c.args.word c.args.rule x y c.give.new.self c.requires.alone c.self.invariant.four
    (c.meet.ensures.partner
    ∙ ap (λ (b : Bool). rooms_of (met_if b (record x { standing = c.step-reason.new.self })) y) met
    ∙ ap (λ (s : Standing). rooms_of (met_if (is_some x.standing.contact) (record x { standing = s })) y) c.step-reason.ensures.partner)
    (c.give.ensures ∙ ap (λ (r : Option Reason). giving r y) c.step-reason.ensures.reason)
    ∙ ap (λ (v : Partner). rooms_of (peer_made c.args.turn None c.args.rule (Word c.args.word) v) c.give.new.self) c.self.view_is
