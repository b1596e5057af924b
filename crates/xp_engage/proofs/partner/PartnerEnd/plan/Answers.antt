use Rattle.std.proofs.Common.{subst, Some}
use Rattle.std.specs.Prelude.{IfSome}
use Rattle.xp_protocol.specs.declared.rule.Rule.{Rule}
use Rattle.xp_engage.specs.Next.{for_partner}
use Rattle.xp_engage.specs.Partner.{IsPermitted}
use Rattle.xp_engage.proofs.partner.PartnerEnd.plan.Goals as goal

pub returns-in-Some-Peer-clause-permitted : goal.returns-in-Some-Peer-clause-permitted
returns-in-Some-Peer-clause-permitted c =
    subst (λ (r : Rule). IfSome (for_partner (Some r)) (λ m. IsPermitted c.args.turn c.args.copying c.args.self.now m))
    c.in-Some-Peer.field-0-is (c.in-Some-Peer.ensures.permitted c.args.turn c.args.copying)

pub returns-in-Some-engage_step-clause-permitted : goal.returns-in-Some-engage_step-clause-permitted
returns-in-Some-engage_step-clause-permitted c = c.in-Some-engage_step.ensures.permitted c.args.copying

pub returns-in-Some-answer_step-clause-permitted : goal.returns-in-Some-answer_step-clause-permitted
returns-in-Some-answer_step-clause-permitted c = c.in-Some-answer_step.ensures.permitted c.args.turn

pub returns-clause-permitted : goal.returns-clause-permitted
returns-clause-permitted c = c.record_step.ensures.permitted c.args.turn c.args.copying
