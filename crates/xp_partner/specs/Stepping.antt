-- What a step that was answered makes of a partner: one at an end of a channel, and one for the
-- partner.
use Rattle.std.specs.Prelude.{ℕ, List, Option}
use Rattle.xp_base.specs.Places.{Entry, index_of}
use Rattle.xp_base.specs.declared.reason.Reason.{Reason}
use Rattle.xp_base.specs.declared.step.Answer.{Answer}
use Rattle.xp_base.specs.declared.step.Answer.TheVariants.{Word, Failed}
use Rattle.xp_base.specs.declared.step.CopyMark.{CopyMark}
use Rattle.xp_protocol.specs.declared.rule.LinkRule.{LinkRule}
use Rattle.xp_protocol.specs.Effects.{Effect, Note}
use Rattle.xp_protocol.specs.State.{End, Peer, link_at, set_link}
use Rattle.xp_protocol.specs.Rules.{link_answered, going_after, numbered, copy_error}
use Rattle.xp_protocol.specs.Peering.{with_reason, end_reason}
use Rattle.xp_engage.specs.Learning.{faulted}
use Rattle.xp_channel.specs.Channel.{Channel}
use Rattle.xp_channel.specs.Planned.{answered}
use Rattle.xp_partner.specs.Partner.{Partner, channel_of, with_channel}

-- what the definitions say of the effect of a step at one end, and of the partner then
abbrev pub link_effect_on : ℕ → ℕ → Option CopyMark → Peer → LinkRule → Answer →
    Effect End (List Note)
link_effect_on own c mark p m a =
    link_answered mark (index_of (Entry own c 0)) (link_at p.links c) m a

abbrev pub link_made : ℕ → ℕ → Option CopyMark → Peer → LinkRule → Answer → Peer
link_made own c mark p m a =
    let f = link_effect_on own c mark p m a in
    with_reason (end_reason p.flags_seen f.reason) (set_link (numbered mark c p) c f.local)

-- the reason that a step gives: that of a failed load has the number of its copy, and that of a
-- flag that is refused the flag words in which it came
abbrev pub reason_by : Option CopyMark → Answer → Option Reason → Option Reason
reason_by mark (Word w) reason = reason
reason_by mark Failed reason = copy_error mark

abbrev pub link_reason : ℕ → Channel → Option CopyMark → LinkRule → Answer → Option Reason
link_reason seen x mark m a = end_reason seen (reason_by mark a (answered x m a).reason)

-- the partner with what became of the end
abbrev pub link_stepped : ℕ → Option CopyMark → LinkRule → Answer → Channel → Partner → Partner
link_stepped c mark m a ch x = record (with_channel c ch x) {
  standing = faulted (link_reason x.standing.flags_seen (channel_of x c) mark m a) x.standing;
  going = going_after mark c x.going;
}
