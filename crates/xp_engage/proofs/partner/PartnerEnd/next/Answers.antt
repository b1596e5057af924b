use Rattle.std.proofs.Common.{◌≡◌, subst, ◌∙◌}
use Rattle.xp_protocol.specs.declared.rule.PeerRule.{PeerRule}
use Rattle.xp_protocol.specs.declared.rule.Rule.TheVariants.{Peer as ForPeer}
use Rattle.xp_protocol.specs.Rules.{Can, wanted_of}
use Rattle.xp_engage.specs.Partner.{step_wanted, unnumbered}
use Rattle.xp_engage.proofs.Permitted.{can_now, wanted_now, same_rule}
use Rattle.xp_engage.proofs.partner.PartnerEnd.next.Goals as goal

pub returns-clause-permitted : goal.returns-clause-permitted
returns-clause-permitted c = λ s st m is h.
    let x = c.args.self.now in
    let r = c.in_ok-rule.rule in
    let same : r ≡ m = same_rule r m (c.in_ok-rule.ensures.value ∙ is) in
    subst (λ (k : PeerRule). Can s st (ForPeer x.partner k) × (step_wanted x k ≡ unnumbered (wanted_of s st (ForPeer x.partner k)))) same (
      can_now x c.args.turn c.args.copying s st r h c.in_ok-rule.ensures.permitted.can c.in_ok-rule.ensures.permitted.made c.in_ok-rule.ensures.permitted.up,
      wanted_now x c.args.turn c.args.copying s st r h c.in_ok-rule.ensures.permitted.made,
    )
