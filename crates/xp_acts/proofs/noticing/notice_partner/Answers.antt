use Rattle.std.proofs.Common.{◌≡◌, ℕ, None, subst}
use Rattle.xp_base.specs.History.{NoticeKind}
use Rattle.xp_protocol.specs.Acts.{notice_due}
use Rattle.xp_acts.specs.Noticing.{channel_in}
use Rattle.xp_acts.proofs.Given.{notices_then, told_next}
use Rattle.xp_acts.proofs.noticing.notice_partner.Goals as goal

pub loop-channel-preserved : goal.loop-channel-preserved
loop-channel-preserved c = (
  notices_then c.args.keeping.now c.loop-channel.keeping c.notice_end.new.keeping c.loop-channel.invariant.0 c.notice_end.ensures.notices,
  told_next c.args.number c.loop-channel.channel c.loop-channel.keeping c.notice_end.new.keeping c.notice_end.ensures.notices c.loop-channel.invariant.1
      (subst (λ (d : ℕ). (how : NoticeKind) → notice_due how (channel_in c.notice_end.new.keeping c.args.number d).end ≡ None) c.known.ensures c.notice_end.ensures.noticed),
)
