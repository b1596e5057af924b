-- One end of a partition's partners, and what becomes of the partners by an effect there.
use Rattle.std.specs.Prelude.{ℕ, List, map, Option, Some, None}
use Rattle.xp_protocol.specs.Effects.{Effect, Note}
use Rattle.xp_protocol.specs.State.{End, Peer, set_end}
use Rattle.xp_protocol.specs.Acts.{EndName, noted_aim}
use Rattle.xp_channel.specs.Channel.{Channel}
use Rattle.xp_partner.specs.Partner.{peer_seen, channel_of}
use Rattle.xp_partition.specs.Partners.{Partners, partner_at}
use Rattle.xp_acts.specs.declared.ends.NamedEnd.{NamedEnd}
use Rattle.xp_acts.specs.Becoming.{Becomes}

-- the end that a command names, as the definitions have it
abbrev pub end_name : Option NamedEnd → Option EndName
end_name None = None
end_name (Some x) = Some (record { partner = x.partner; channel = x.channel })

abbrev pub channel_at_end : Partners → NamedEnd → Channel
channel_at_end x n = channel_of (partner_at x.list n.partner) n.channel

-- what is known of the partners after an effect at one end, and what is noted where
abbrev pub peers_at : ℕ → ℕ → Effect End (List Note) → List Peer → List Peer
peers_at q c f peers = set_end peers q c f.local

abbrev pub notes_at : ℕ → ℕ → Effect End (List Note) → ℕ → ℕ → List Note
notes_at q c f i j = noted_aim (Some (record { partner = q; channel = c; effect = f })) i j

-- an end has changed so, and paid a note at most
abbrev pub BecomesAt : Partners → NamedEnd → (End → Effect End (List Note)) → Partners → Type 0
BecomesAt old n f new =
    Becomes 1 old
    (peers_at n.partner n.channel (f (channel_at_end old n).end) (map peer_seen old.list))
    (notes_at n.partner n.channel (f (channel_at_end old n).end)) new
