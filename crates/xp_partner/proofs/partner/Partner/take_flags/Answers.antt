use Rattle.std.proofs.Common.{◌∙◌, sym, ap, None}
use Rattle.xp_engage.specs.Partner.{Partner as Standing}
use Rattle.xp_partner.specs.Partner.{Partner, rooms_of}
use Rattle.xp_partner.specs.PartnerInside.{partner_seen}
use Rattle.xp_partner.specs.Making.{peer_made}
use Rattle.xp_base.specs.declared.step.Answer.TheVariants.{Word}
use Rattle.xp_protocol.specs.declared.rule.PeerRule.TheVariants.{TakeFlags}
use Rattle.xp_partner.proofs.Taking.{bad_made}
use Rattle.xp_partner.proofs.Naming.{named_as, named_taken}
use Rattle.xp_partner.proofs.partner.Partner.take_flags.Goals as goal

pub returns-then-is_bad_flags-clause-partner : goal.returns-then-is_bad_flags-clause-partner
returns-then-is_bad_flags-clause-partner c = λ turn.
    let x = partner_seen c.self.inside in
    let w = c.args.word in
    let z = record x { standing = c.fault.new.self } in
    bad_made turn w x z (sym c.is_bad_flags.ensures ∙ c.if-is_bad_flags.true) c.self.invariant.four (ap (λ (s : Standing). record x { standing = s }) c.fault.ensures)
    ∙ ap (λ (v : Partner). rooms_of (peer_made turn None TakeFlags (Word w) v) z) c.self.view_is

pub invariant_of-self-2 : goal.invariant_of-self-2
invariant_of-self-2 c =
    let s = c.self.inside.standing in
    named_as s c.note_flags.new.self c.take_each-reason.new.ends (ap (λ (t : Standing). t.own) c.note_flags.ensures) (ap (λ (t : Standing). t.partner) c.note_flags.ensures)
    (named_taken s.own s.partner c.args.word c.self.inside.ends c.take_each-reason.new.ends c.self.invariant c.take_each-reason.ensures.ends)
