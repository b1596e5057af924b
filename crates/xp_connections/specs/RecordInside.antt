-- What a record keeps stands for what it says, and its lists have the room that it counts.
use Rattle.std.specs.Prelude.{◌≤◌, ◌+◌, vec_len, vec_capacity}
use Rattle.xp_base.specs.declared.layout.TheConstants.{LINES}
use Rattle.xp_connections.specs.declared.record.TheConstants.{TURN_ROOM}
use Rattle.xp_connections.specs.declared.record.Record.TheInside.{Inside}
use Rattle.xp_connections.specs.Page.{Page}

abbrev pub view_of : Inside → Page
view_of x = record {
  said = record {
    partner = x.partner;
    channel = x.channel;
    epoch = x.epoch;
    own = x.own;
    theirs = x.theirs;
    connected = x.connected;
    accepted = x.accepted.list.items;
    taken = x.taken.list.items;
    released = x.released.list.items;
    acked = x.acked;
    asked = x.asked.list.items;
    delivered = x.delivered.list.items;
    ended = x.ended.list.items;
    over = x.over;
  };
  calls = x.calls;
  ends = x.ends;
}

pub record IsRoomy (x : Inside) : Type 0 where
  pub accepted : vec_len x.accepted.list + x.calls ≤ vec_capacity x.accepted.list
  pub taken : vec_len x.taken.list + x.calls ≤ vec_capacity x.taken.list
  pub released : vec_len x.released.list + x.calls ≤ vec_capacity x.released.list
  pub asked : vec_len x.asked.list + x.calls ≤ vec_capacity x.asked.list
  pub delivered : vec_len x.delivered.list + x.calls ≤ vec_capacity x.delivered.list
  pub ended : vec_len x.ended.list + x.ends ≤ vec_capacity x.ended.list
  pub calls : x.calls ≤ TURN_ROOM
  pub ends : x.ends ≤ LINES
