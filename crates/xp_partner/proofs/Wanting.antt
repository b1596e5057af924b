-- A step for a partner is the same with the ends of their channels and without them; and one at an end
-- is that of its channel.
use Rattle.std.proofs.Common.{◌≡◌, ℕ, true, refl, ap, ◌∙◌}
use Rattle.xp_base.specs.declared.step.Wanted.{Wanted}
use Rattle.xp_protocol.specs.declared.rule.LinkRule.{LinkRule}
use Rattle.xp_protocol.specs.declared.rule.PeerRule.{PeerRule}
use Rattle.xp_protocol.specs.declared.rule.PeerRule.TheVariants.{AskActivation, TakeFlags, CloseArea, ZeroMagic, ClearOldBit, Prepare, OpenArea, SetEngagementBit, ReadRecord, StoreEcho, StoreSecond, ClearEngagementBit, LookAtPage, CheckBeat, ClearDeactivationBit, TellPartner}
use Rattle.xp_protocol.specs.Linking.{link_row}
use Rattle.xp_protocol.specs.Peering.{peer_row}
use Rattle.xp_protocol.specs.Wanting.{wanted_at}
use Rattle.xp_channel.specs.Channel.{Channel}
use Rattle.xp_channel.specs.Planned.{rule_wanted}
use Rattle.xp_engage.specs.Partner.{step_wanted, is_made}
use Rattle.xp_partner.specs.Partner.{Partner, peer_seen}
use Rattle.xp_partner.specs.Named.{IsNamed}

abbrev seen_wanted : Partner → PeerRule → Wanted
seen_wanted x m = wanted_at x.standing.own x.standing.partner (peer_row x.standing.own x.standing.stamp x.standing.partner (peer_seen x) m)

pub same_step : (x : Partner) (m : PeerRule) → is_made m ≡ true → step_wanted x.standing m ≡ seen_wanted x m
same_step x AskActivation h = refl
same_step x TakeFlags h = absurd (cc)
same_step x CloseArea h = refl
same_step x ZeroMagic h = refl
same_step x ClearOldBit h = refl
same_step x (Prepare y) h = refl
same_step x OpenArea h = refl
same_step x SetEngagementBit h = refl
same_step x ReadRecord h = refl
same_step x StoreEcho h = refl
same_step x StoreSecond h = refl
same_step x ClearEngagementBit h = refl
same_step x LookAtPage h = absurd (cc)
same_step x CheckBeat h = refl
same_step x ClearDeactivationBit h = refl
same_step x TellPartner h = refl

pub named_step : (own partner channel : ℕ) (x : Channel) (m : LinkRule) → IsNamed own partner channel x → rule_wanted x m ≡ wanted_at own partner (link_row own partner channel x.end m)
named_step own partner channel x m h =
    ap (λ (n : ℕ). wanted_at n x.partner (link_row n x.partner x.channel x.end m)) h.own_number
    ∙ ap (λ (n : ℕ). wanted_at own n (link_row own n x.channel x.end m)) h.partner_number
    ∙ ap (λ (n : ℕ). wanted_at own partner (link_row own partner n x.end m)) h.channel_number
