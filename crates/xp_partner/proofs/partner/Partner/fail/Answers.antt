use Rattle.std.proofs.Common.{◌≡◌, ℕ, ◌∙◌, sym, ap, subst, List, length, None, Some}
use Rattle.xp_engage.specs.Partner.{Partner as Standing}
use Rattle.xp_partner.specs.Partner.{Partner}
use Rattle.xp_partner.specs.PartnerInside.{partner_seen}
use Rattle.xp_partner.specs.Making.{peer_made}
use Rattle.xp_base.specs.declared.step.Answer.TheVariants.{Failed}
use Rattle.xp_partner.proofs.Making.{own_rooms, failed_none, dropped_page, failed_rest}
use Rattle.xp_partner.proofs.partner.Partner.fail.Goals as goal

pub returns-in_default-clause-partner : goal.returns-in_default-clause-partner
returns-in_default-clause-partner c = λ rule.
    rw c.in_default.is (own_rooms c.args.self.now (peer_made c.args.turn None rule Failed c.args.self.now) (failed_none c.args.turn rule c.args.self.now (subst (λ (z : Partner). length z.channels ≡ 4) c.self.view_is c.self.invariant.four)))

pub returns-else-has_echo-clause-partner : goal.returns-else-has_echo-clause-partner
returns-else-has_echo-clause-partner c = λ rule.
    let x = partner_seen c.self.inside in
    rw c.in-Some.is (own_rooms (record x { paging = c.fail.new.self }) (peer_made c.args.turn (Some c.in-Some.mark) rule Failed c.args.self.now)
    (ap (λ (p : List ℕ). record x { paging = p }) c.fail.ensures
    ∙ dropped_page c.args.turn rule c.in-Some.mark x c.in-Page.is c.self.invariant.four (sym c.has_echo-has_echo.ensures ∙ c.if-has_echo.false)
    ∙ ap (λ (z : Partner). peer_made c.args.turn (Some c.in-Some.mark) rule Failed z) c.self.view_is))

pub returns-in_default-kind-3 : goal.returns-in_default-kind-3
returns-in_default-kind-3 c =
    let x = partner_seen c.self.inside in
    record {
      partner = λ rule. rw c.in-Some.is (own_rooms (record x { standing = c.fault-in_default-kind-3.new.self }) (peer_made c.args.turn (Some c.in-Some.mark) rule Failed c.args.self.now)
          (ap (λ (s : Standing). record x { standing = s }) c.fault-in_default-kind-3.ensures
          ∙ failed_rest c.args.turn rule c.in-Some.mark x c.in_default-kind.not-Page c.in_default-kind-2.not-Record c.in_default-kind-3.not-Beat c.self.invariant.four
          ∙ ap (λ (z : Partner). peer_made c.args.turn (Some c.in-Some.mark) rule Failed z) c.self.view_is));
      left = rw (← c.self.view_is) (λ n i l k. k);
    }
