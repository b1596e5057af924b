-- How the fields of an end stand for what is seen of it, and what always holds of them.
use Rattle.std.specs.Prelude.{◌≡◌, ◌≤◌, ◌+◌, true, false, [], length, Option, IfSome, vec_len, vec_capacity}
use Rattle.xp_base.specs.declared.layout.TheConstants.{LINES}
use Rattle.xp_protocol.specs.Parts.{IsRequestSize}
use Rattle.xp_protocol.specs.State.{End, Size, shake_begun}
use Rattle.xp_channel.specs.declared.end.ChannelEnd.TheInside.{Inside}
use Rattle.xp_channel.specs.Channel.{Channel}

abbrev pub end_of : Inside → End
end_of x = record {
  registration = x.registration;
  epoch = x.epoch;
  shake = x.shake;
  sides = x.sides.sides;
  ended = x.ended.items;
  closed = x.records.closed;
  closed_asked = x.closed_asked;
  decided = record {
    send = x.decided.send;
    take = x.decided.take;
    release = x.decided.release;
    drain = x.decided.drain;
    register = x.decided.register;
    unregister = x.decided.unregister;
  };
}

abbrev pub view_of : Inside → Channel
view_of x = record {
  own = x.own;
  partner = x.records.partner;
  channel = x.records.channel;
  end = end_of x;
  records = x.records.said;
  room = record {
    ready = x.sides.ready;
    calls = x.records.calls;
    ends = x.records.ends;
    next = x.records.next;
    ongoing = x.records.ongoing;
  };
  waiting = x.waiting;
}

abbrev pub IsRegistered : Option Size → Type 0
IsRegistered o = IfSome o (λ z. IsRequestSize z.entries z.limit)

-- messages are taken, and numbers wait for a notice, only once the open complete was sent; no more
-- wait than a queue holds, and for each there is a place where its end is told
pub record IsSound (x : Inside) : Type 0 where
  pub registered : IsRegistered x.registration
  pub idle : x.shake.sent.open_complete ≡ false → x.sides.sides.pending_notices ≡ []
  pub untaken : x.shake.sent.open_complete ≡ false → x.sides.sides.pull.taken ≡ 0
  pub few : length x.sides.sides.pending_notices + vec_len x.ended ≤ LINES
  pub paid : length x.sides.sides.pending_notices ≤ x.records.ends
  pub ended : x.sides.ready ≡ true → LINES ≤ vec_capacity x.ended
  pub begun : shake_begun x.shake ≡ true → x.records.ongoing ≡ true
