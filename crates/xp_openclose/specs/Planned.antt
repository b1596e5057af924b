-- Which control flag a handshake sends next, what its calls make of it, and what always holds of
-- its flags and sizes.
use Rattle.std.specs.Prelude.{◌≡◌, Bool, true, false, if◌then◌else◌, Option, Some, None, is_some}
use Rattle.xp_base.specs.declared.link.Kind.{Kind}
use Rattle.xp_base.specs.declared.link.Kind.TheVariants.{CloseRequest, CloseReply, OpenRequest, OpenReply, OpenComplete, MsgRequest}
use Rattle.xp_base.specs.Kinds.{Kinds}
use Rattle.xp_protocol.specs.Parts.{IsRequestSize}
use Rattle.xp_protocol.specs.State.{Shake, Size, no_shake, opening_kinds, request_word}
use Rattle.xp_protocol.specs.Linking.{owed_by, agreed, shake_got, shake_sent}

abbrev pub control_owed : Bool → Bool → Shake → Option Kind
control_owed registered copying x =
    if owed_by CloseRequest registered copying x then Some CloseRequest
    else (if owed_by CloseReply registered copying x then Some CloseReply
    else (if owed_by OpenRequest registered copying x then Some OpenRequest
    else (if owed_by OpenReply registered copying x then Some OpenReply
    else (if owed_by OpenComplete registered copying x then Some OpenComplete else None))))

-- a flag of the opening or of the closing
abbrev pub is_control : Kind → Bool
is_control MsgRequest = false
is_control k = true

-- a control flag is sent, where the channel is registered for a size or isn't: with the open
-- request that is the size that is asked for
abbrev pub size_after : Kind → Option Size → Option Size → Option Size
size_after OpenRequest registration size = registration
size_after k registration size = size

abbrev pub sent_with : Kind → Option Size → Shake → Shake
sent_with k registration x =
    record (shake_sent k x) { own_size = size_after k registration x.own_size }

-- the partner's open request is handled, which asks for this size
abbrev pub request_got : Size → Shake → Shake
request_got size x = record (shake_got OpenRequest x) { their_size = Some size }

-- each open flag was sent after the one before it, and a close reply after the close request
pub record InOrder (sent : Kinds) : Type 0 where
  pub reply : sent.open_reply ≡ true → sent.open_request ≡ true
  pub complete : sent.open_complete ≡ true → sent.open_reply ≡ true
  pub close : sent.close_reply ≡ true → sent.close_request ≡ true

-- a size that is there, and that a request may have
abbrev pub IsLawful : Option Size → Type 0
IsLawful None = ⊥
IsLawful (Some z) = IsRequestSize z.entries z.limit

-- a size that may be asked for is there with each open request that isn't refused; once the open
-- reply was sent, both are, and a limit is agreed
pub record HasSizes (x : Shake) : Type 0 where
  pub own : x.sent.open_request ≡ true → IsLawful x.own_size
  pub theirs : x.got.open_request ≡ true → x.reason ≡ None → IsLawful x.their_size
  pub got : x.sent.open_reply ≡ true → x.got.open_request ≡ true
  pub both : x.sent.open_reply ≡ true → IsLawful x.their_size
  pub limit : x.sent.open_reply ≡ true → is_some (agreed x) ≡ true

-- a handshake that is over from the opening, for queues of this size at both ends
abbrev pub opened_shake : Size → Shake → Shake
opened_shake size x =
    record no_shake {
      meet = x.meet;
      both_new = x.both_new;
      sent = opening_kinds;
      got = opening_kinds;
      own_size = Some size;
      their_size = Some size;
      get_zero = true;
      put_zero = true;
      request_put = Some (request_word size);
      reply_put = true;
    }
