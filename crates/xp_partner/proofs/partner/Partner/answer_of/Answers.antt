use Rattle.std.proofs.Common.{get_or, ℕ, ◌+◌, ◌<◌, sym, subst}
use Rattle.xp_base.specs.declared.layout.TheConstants.{CHANNELS}
use Rattle.xp_channel.specs.Answering.{given}
use Rattle.xp_partner.specs.PartnerInside.{partner_seen}
use Rattle.xp_partner.specs.Room.{HaveNotes, HaveNotesLeft}
use Rattle.xp_partner.proofs.Lifting.{acted_notes, acted_left}
use Rattle.xp_partner.proofs.partner.Partner.answer_of.Goals as goal

pub returns-clause-room : goal.returns-clause-room
returns-clause-room c = λ n k.
    acted_notes n (given c.args.verb (get_or c.self.inside.ends c.get.result c.index-self-get.result).end) (partner_seen c.self.inside) c.get.result c.index-self-get.result c.answer_of.new.self
    (subst (λ (i : ℕ). i < CHANNELS) (sym c.get.ensures.value) c.get.ensures.range) c.self.invariant.four
    c.answer_of.ensures.end c.answer_of.ensures.calls c.answer_of.ensures.sent c.answer_of.ensures.meet (subst (HaveNotes (n + 1)) (sym c.self.view_is) k)

pub returns-clause-left : goal.returns-clause-left
returns-clause-left c = λ n k.
    acted_left n (given c.args.verb (get_or c.self.inside.ends c.get.result c.index-self-get.result).end) (partner_seen c.self.inside) c.get.result c.index-self-get.result c.answer_of.new.self
    (subst (λ (i : ℕ). i < CHANNELS) (sym c.get.ensures.value) c.get.ensures.range) c.self.invariant.four
    c.answer_of.ensures.end c.answer_of.ensures.calls c.answer_of.ensures.sent (subst (HaveNotesLeft (n + 1)) (sym c.self.view_is) k)
