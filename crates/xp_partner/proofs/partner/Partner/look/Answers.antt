use Rattle.std.proofs.Common.{ℕ, ◌∙◌, sym, ap, List, None}
use Rattle.xp_engage.specs.Partner.{Partner as Standing}
use Rattle.xp_partner.specs.Partner.{Partner}
use Rattle.xp_partner.specs.PartnerInside.{partner_seen}
use Rattle.xp_partner.specs.Making.{peer_made}
use Rattle.xp_base.specs.declared.step.Answer.TheVariants.{Word}
use Rattle.xp_protocol.specs.declared.rule.PeerRule.TheVariants.{LookAtPage}
use Rattle.xp_engage.specs.Learning.{looked_at}
use Rattle.xp_partner.proofs.Making.{own_rooms, looked_some, looked_none}
use Rattle.xp_partner.proofs.partner.Partner.look.Goals as goal

pub returns-in-Some-clause-partner : goal.returns-in-Some-clause-partner
returns-in-Some-clause-partner c = λ turn.
    let x = partner_seen c.self.inside in
    let w = c.args.word in
    own_rooms (record x { standing = c.looked.new.self; paging = c.add.new.self }) (peer_made turn None LookAtPage (Word w) c.args.self.now)
    (ap (λ (s : Standing). record x { standing = s; paging = c.add.new.self }) c.looked.ensures
    ∙ ap (λ (p : List ℕ). record x { standing = looked_at c.in-Some.shown x.standing; paging = p }) c.add.ensures.words
    ∙ looked_some turn w x c.in-Some.shown (sym c.add.ensures.shown ∙ c.in-Some.is) c.self.invariant.four
    ∙ ap (λ (z : Partner). peer_made turn None LookAtPage (Word w) z) c.self.view_is)

pub returns-in_default-clause-partner : goal.returns-in_default-clause-partner
returns-in_default-clause-partner c = λ turn.
    let x = partner_seen c.self.inside in
    let w = c.args.word in
    own_rooms (record x { paging = c.add.new.self }) (peer_made turn None LookAtPage (Word w) c.args.self.now)
    (ap (λ (p : List ℕ). record x { paging = p }) c.add.ensures.words
    ∙ looked_none turn w x (sym c.add.ensures.shown ∙ c.in_default.is) c.self.invariant.four
    ∙ ap (λ (z : Partner). peer_made turn None LookAtPage (Word w) z) c.self.view_is)
