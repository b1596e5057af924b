-- Whether copies of a partner's words go on beside that of its record, and the steps at its ends,
-- which are made while the partner is joined.
use Rattle.std.specs.Prelude.{Bool, ◌||◌, if◌then◌else◌, nat_lt, length, Option, None}
use Rattle.xp_protocol.specs.declared.rule.LinkRule.{LinkRule}
use Rattle.xp_protocol.specs.State.{Peer}
use Rattle.xp_protocol.specs.Peering.{any_copied}
use Rattle.xp_plan.specs.Plan.{is_joined}
use Rattle.xp_partner.specs.Partner.{Partner, peer_seen}

abbrev pub other_copies : Partner → Bool
other_copies x = nat_lt 0 (length x.paging) || any_copied (peer_seen x).links

abbrev pub for_joined : Peer → Option LinkRule → Option LinkRule
for_joined p m = if is_joined p then m else None
