use Rattle.std.proofs.Common.{get_or, ℕ, ◌<◌, sym, subst}
use Rattle.xp_base.specs.declared.layout.TheConstants.{CHANNELS}
use Rattle.xp_base.specs.History.{Ended}
use Rattle.xp_channel.specs.Answering.{noticed}
use Rattle.xp_partner.specs.PartnerInside.{partner_seen}
use Rattle.xp_partner.specs.Room.{HaveNotes, HaveNotesLeft}
use Rattle.xp_partner.proofs.Lifting.{noticed_notes, noticed_left}
use Rattle.xp_partner.proofs.partner.Partner.end_notice.Goals as goal

pub returns-clause-room : goal.returns-clause-room
returns-clause-room c = λ n k.
    noticed_notes n (noticed Ended (get_or c.self.inside.ends c.get.result c.index-self-get.result).end) (partner_seen c.self.inside) c.get.result c.index-self-get.result c.end_notice.new.self
    (subst (λ (i : ℕ). i < CHANNELS) (sym c.get.ensures.value) c.get.ensures.range) c.self.invariant.four
    c.end_notice.ensures.end c.end_notice.ensures.sent c.end_notice.ensures.meet (subst (HaveNotes n) (sym c.self.view_is) k)

pub returns-clause-left : goal.returns-clause-left
returns-clause-left c = λ n k.
    noticed_left n (noticed Ended (get_or c.self.inside.ends c.get.result c.index-self-get.result).end) (partner_seen c.self.inside) c.get.result c.index-self-get.result c.end_notice.new.self
    (subst (λ (i : ℕ). i < CHANNELS) (sym c.get.ensures.value) c.get.ensures.range) c.self.invariant.four
    c.end_notice.ensures.end c.end_notice.ensures.sent (subst (HaveNotesLeft n) (sym c.self.view_is) k)
