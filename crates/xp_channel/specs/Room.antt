-- The room that the calls of an end need, and what they leave of it.
use Rattle.std.specs.Prelude.{◌≡◌, ℕ, ◌+◌, ◌-◌, ◌<◌, ◌≤◌, ◌^◌, ◌&&◌, ◌||◌, not, Bool, true, if◌then◌else◌, length, IsSome}
use Rattle.xp_base.specs.declared.layout.TheConstants.{LINES}
use Rattle.xp_connections.specs.declared.record.TheConstants.{TURN_ROOM}
use Rattle.xp_protocol.specs.Sending.{wants_notice}
use Rattle.xp_protocol.specs.State.{End, is_begun}
use Rattle.xp_channel.specs.Channel.{Channel, Room}

-- an end takes part in carrying messages from its own open reply on: then it needs its sides, and
-- room in its record
abbrev pub needs_sides : End → Bool
needs_sides e = e.shake.sent.open_complete || e.shake.sent.open_reply

-- there is room for one more note, and for the numbers of a whole queue, where the open complete
-- was sent. Before it nothing is noted that takes room
pub record HasRoom (x : Channel) : Type 0 where
  pub ready : x.end.shake.sent.open_complete ≡ true → x.room.ready ≡ true
  pub calls : x.end.shake.sent.open_complete ≡ true → 0 < x.room.calls
  pub ends : x.end.shake.sent.open_complete ≡ true → LINES ≤ x.room.ends

-- there is room for a turn, and for the open complete that may be sent in it
pub record HasTurnRoom (x : Channel) : Type 0 where
  pub ready : needs_sides x.end ≡ true → x.room.ready ≡ true
  pub calls : needs_sides x.end ≡ true → TURN_ROOM ≤ x.room.calls
  pub ends : needs_sides x.end ≡ true → LINES ≤ x.room.ends
  pub next : IsSome x.end.shake.meet → 2 ≤ x.room.next

-- a call makes some notes at most, and begins some connections at most; and the open complete was
-- sent only where there had to be room for it
pub record Pays (notes connections : ℕ) (old new : Channel) : Type 0 where
  pub complete : new.end.shake.sent.open_complete ≡ true → needs_sides old.end ≡ true
  pub ready : needs_sides new.end ≡ true → old.room.ready ≡ true → new.room.ready ≡ true
  pub calls : needs_sides new.end ≡ true → old.room.calls ≤ new.room.calls + notes
  pub ends : needs_sides new.end ≡ true → old.room.ends ≤ new.room.ends
  pub next : old.room.next ≤ new.room.next + connections

-- room that was made is kept
pub record IsNoLess (old new : Room) : Type 0 where
  pub ready : old.ready ≡ true → new.ready ≡ true
  pub calls : old.calls ≤ new.calls
  pub ends : old.ends ≤ new.ends
  pub next : old.next ≤ new.next
  pub ongoing : new.ongoing ≡ old.ongoing

-- how many connections may be begun, and how many epochs may end, while the flags that were taken
-- are handled: an epoch ends only where the close reply was sent
abbrev pub may_begin : End → ℕ
may_begin e = if is_begun e && not e.shake.sent.close_reply then 0 else 1

abbrev pub may_end : End → ℕ
may_end e = if e.shake.sent.close_reply then 1 else 0

-- what the handling of a flag leaves of the contact, of the numbers that are to come, and of the
-- room
pub record Settles (old new : Channel) : Type 0 where
  pub meet : new.end.shake.meet ≡ old.end.shake.meet
  pub needs : needs_sides new.end ≡ true → needs_sides old.end ≡ true
  pub complete : new.end.shake.sent.open_complete ≡ true
      → old.end.shake.sent.open_complete ≡ true
  pub epoch : new.end.epoch + may_end new.end ≤ old.end.epoch + may_end old.end
  pub next : old.room.next + may_begin new.end ≤ new.room.next + may_begin old.end
  pub ready : needs_sides new.end ≡ true → new.room.ready ≡ old.room.ready
  pub calls : needs_sides new.end ≡ true → new.room.calls ≡ old.room.calls
  pub ends : needs_sides new.end ≡ true → new.room.ends ≡ old.room.ends

-- no count of an end is near its type's end
pub record IsCountable (e : End) : Type 0 where
  pub put : e.sides.send.put < 2 ^ 64 - 1
  pub taken : e.sides.pull.taken < 2 ^ 64 - 1
  pub epoch : e.epoch < 2 ^ 64 - 1
  pub asked : e.closed_asked < 2 ^ 64 - 1

-- a message whose send asks for a notice may be accepted: one more number may wait for its notice
abbrev pub MayAsk : End → Type 0
MayAsk e =
    wants_notice e.sides.send.send ≡ true
    → length e.sides.pending_notices + length e.ended < LINES
