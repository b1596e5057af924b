-- How the fields of a handshake stand for what it knows: one for one. A close request is sent for a
-- reason alone.
use Rattle.std.specs.Prelude.{◌≡◌, true, is_some}
use Rattle.xp_protocol.specs.State.{Shake}
use Rattle.xp_openclose.specs.declared.handshake.Handshake.TheInside.{Inside}
use Rattle.xp_openclose.specs.Planned.{InOrder, HasSizes}

abbrev pub view_of : Inside → Shake
view_of x = record {
  meet = x.meet;
  both_new = x.both_new;
  sent = x.sent;
  got = x.got;
  reason = x.reason;
  own_size = x.own_size;
  their_size = x.their_size;
  taken = x.taken;
  request = x.request;
  reply = x.reply;
  code = x.code;
  owes_message = x.owes_message;
  get_zero = x.get_zero;
  put_zero = x.put_zero;
  request_put = x.request_put;
  reply_put = x.reply_put;
  code_put = x.code_put;
}

pub record IsSound (x : Inside) : Type 0 where
  pub order : InOrder x.sent
  pub sizes : HasSizes (view_of x)
  pub closing : x.sent.close_request ≡ true → is_some x.reason ≡ true
