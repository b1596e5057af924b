-- One end of a channel as it is seen: the definitions' end, the records of its connections, and the
-- room that it has. What its calls do is what the definitions' effects say.
use Rattle.std.specs.Prelude.{ℕ, Bool, false, List, []}
use Rattle.xp_protocol.specs.Effects.{Effect, Note, with_notes}
use Rattle.xp_protocol.specs.Records.{Recorded}
use Rattle.xp_protocol.specs.State.{End, idle_end}
use Rattle.xp_base.specs.declared.layout.TheConstants.{LINES}
use Rattle.xp_connections.specs.declared.record.TheConstants.{TURN_ROOM}
use Rattle.xp_protocol.specs.Linking.{hears}
use Rattle.xp_channel.specs.declared.end.Waiting.{Waiting as CallerWaiting}

-- whether there is memory for the sides, for how many notes the newest record has room, and for how
-- many numbers of which the end of the connection is told, and for how many more connections there
-- is a place, and whether the newest connection was begun and isn't over
pub record Room : Type 0 where
  pub ready : Bool
  pub calls : ℕ
  pub ends : ℕ
  pub next : ℕ
  pub ongoing : Bool

-- which waits of the caller of `command` are in progress
abbrev pub Waiting : Type 0
Waiting = CallerWaiting

abbrev pub no_waiting : Waiting
no_waiting = record { connected = false; closed = false }

pub record Channel : Type 0 where
  pub own : ℕ
  pub partner : ℕ
  pub channel : ℕ
  pub end : End
  pub records : List Recorded  -- of its connections, the newest first
  pub room : Room
  pub waiting : Waiting

-- an end that was never in contact
abbrev pub no_room : Room
no_room = record { ready = false; calls = TURN_ROOM; ends = LINES; next = 0; ongoing = false }

abbrev pub new_channel : ℕ → ℕ → ℕ → Channel
new_channel own partner channel = record {
  own = own;
  partner = partner;
  channel = channel;
  end = idle_end;
  records = [];
  room = no_room;
  waiting = no_waiting;
}

-- what an effect makes of an end is kept, and what it notes is recorded
abbrev pub kept : Effect End (List Note) → Channel → Channel
kept f x = record x {
  end = f.local;
  records = with_notes x.partner x.channel f.notes x.records;
}

abbrev pub heard : List Note → Channel → Channel
heard notes x = record x {
  end = hears notes x.end;
  records = with_notes x.partner x.channel notes x.records;
}

abbrev pub recorded : List Note → Channel → Channel
recorded notes x = record x { records = with_notes x.partner x.channel notes x.records }

-- all of an end but its room, which is that of another; and but the room of its newest record
abbrev pub roomed : Channel → Channel → Channel
roomed x y = record x { room = y.room }

abbrev pub called : Channel → Channel → Channel
called x y = record x { room = record x.room { calls = y.room.calls } }
