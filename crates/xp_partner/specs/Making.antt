-- What a step for a partner makes of it, by the definitions' effect: what is known of it, and what
-- is recorded at the ends of their channels.
use Rattle.std.specs.Prelude.{◌≡◌, ℕ, ◌+◌, ◌-◌, ◌<◌, ◌^◌, Bool, true, false, List, [], ◌∷◌, Option, Some, None, IsSome}
use Rattle.xp_base.specs.declared.layout.TheConstants.{CHANNELS}
use Rattle.xp_base.specs.declared.step.Answer.{Answer}
use Rattle.xp_base.specs.declared.step.CopyMark.{CopyMark}
use Rattle.xp_protocol.specs.declared.rule.PeerRule.{PeerRule}
use Rattle.xp_protocol.specs.declared.rule.PeerRule.TheVariants.{TakeFlags, CloseArea, LookAtPage}
use Rattle.xp_protocol.specs.Effects.{Effect, Note, with_notes, first_reason}
use Rattle.xp_protocol.specs.State.{End, Peer, Contact, link_at}
use Rattle.xp_protocol.specs.Linking.{link_joined, flags_got}
use Rattle.xp_base.specs.Kinds.{kinds_in}
use Rattle.xp_base.specs.declared.reason.Reason.{Reason}
use Rattle.xp_protocol.specs.Rules.{peer_answered}
use Rattle.xp_protocol.specs.Peering.{with_reason, numbers_after}
use Rattle.xp_engage.specs.Partner.{seen_in, here}
use Rattle.xp_channel.specs.Channel.{Channel}
use Rattle.xp_partner.specs.Partner.{Partner, peer_seen, channel_at, channel_of, each_kept}

-- the ends after an effect, each with what it notes in its records
abbrev pub each_noted : List End → (ℕ → List Note) → ℕ → List Channel → List Channel
each_noted links notes c [] = []
each_noted links notes c (x ∷ xs) = record x {
  end = link_at links c;
  records = with_notes x.partner x.channel (notes c) x.records;
} ∷ each_noted links notes (c + 1) xs

-- the partner as it is known after an effect
abbrev pub known_as : Peer → (ℕ → List Note) → Partner → Partner
known_as p notes x = record x {
  standing = seen_in x.standing p;
  paging = p.paging;
  numbers = p.numbers;
  going = p.going;
  channels = each_noted p.links notes 0 x.channels;
}

-- after an effect, whose reason goes to the engagement
abbrev pub after_effect : Effect Peer (ℕ → List Note) → Partner → Partner
after_effect f x = known_as (with_reason f.reason f.local) f.notes x

-- the step of a rule has answered in a turn
abbrev pub peer_effect_on : ℕ → Option CopyMark → PeerRule → Answer → Partner →
    Effect Peer (ℕ → List Note)
peer_effect_on turn mark m a x = peer_answered (here turn x.standing) mark (peer_seen x) m a

abbrev pub peer_made : ℕ → Option CopyMark → PeerRule → Answer → Partner → Partner
peer_made turn mark m a x = after_effect (peer_effect_on turn mark m a x) x

-- a step that changes nothing at the ends but for the contact that is made
abbrev pub is_alone : PeerRule → Bool
is_alone TakeFlags = false
is_alone LookAtPage = false
is_alone CloseArea = false
is_alone m = true

-- the ends are in contact with a partner that wasn't
abbrev pub met_by : Bool → Option Contact → Partner → Partner
met_by false (Some m) x =
    record x { channels = each_kept (λ c e. link_joined x.standing.both_new m e) 0 x.channels }
met_by met contact x = x

abbrev pub met_if : Bool → Partner → Partner
met_if met x = met_by met x.standing.contact x

-- the number of a copy that goes on
abbrev pub marked : Option CopyMark → Partner → Partner
marked None x = x
marked (Some mark) x = record x { numbers = numbers_after mark.kind mark.number x.numbers }

-- what the flags of a word make of the ends, and the first reason that one of them gives
abbrev pub flags_by : ℕ → ℕ → End → Effect End (List Note)
flags_by word c e = flags_got (kinds_in word c) e

abbrev pub ends_reason : (ℕ → End → Effect End (List Note)) → List Channel → Option Reason
ends_reason f xs =
    first_reason (f 0 (channel_at xs 0).end).reason
    (first_reason (f 1 (channel_at xs 1).end).reason
    (first_reason (f 2 (channel_at xs 2).end).reason (f 3 (channel_at xs 3).end).reason))

-- each end may take flags: its epoch is one that can be counted, and there is a place for a
-- connection
pub record MayTake (x : Channel) : Type 0 where
  pub epoch : x.end.epoch < 2 ^ 64 - 1
  pub ready : x.end.shake.sent.open_complete ≡ true → x.room.ready ≡ true
  pub next : IsSome x.end.shake.meet → 0 < x.room.next

abbrev pub MayTakeFlags : Partner → Type 0
MayTakeFlags x = (c : ℕ) → c < CHANNELS → MayTake (channel_of x c)
