-- The sizes of a handshake stay as they have to be where a flag is sent, and where one is got.
use Rattle.std.proofs.Common.{◌≡◌, ℕ, Bool, true, false, Option, Some, None, refl, sym, ◌∙◌, ap}
use Rattle.std.specs.Prelude.{not, ◌&&◌, is_some, if◌then◌else◌, IfSome}
use Rattle.xp_base.specs.declared.link.Kind.{Kind}
use Rattle.xp_base.specs.declared.link.Kind.TheVariants.{CloseRequest, CloseReply, OpenRequest, OpenReply, OpenComplete, MsgRequest}
use Rattle.xp_base.specs.declared.reason.Reason.{Reason}
use Rattle.xp_base.specs.Kinds.{Kinds, also}
use Rattle.xp_protocol.specs.Parts.{IsRequestSize}
use Rattle.xp_protocol.specs.State.{Shake, Size}
use Rattle.xp_protocol.specs.Linking.{owed_by, agreed, agreed_by, limit_in}
use Rattle.xp_openclose.specs.Planned.{is_control, sent_with, InOrder, HasSizes, IsLawful}

left_true : (a b : Bool) → (a && b) ≡ true → a ≡ true
left_true true b h = refl
left_true false b h = absurd (cc)

right_true : (a b : Bool) → (a && b) ≡ true → b ≡ true
right_true true b h = h
right_true false b h = absurd (cc)

both_there : (s g : Bool) (o : Option ℕ) → is_some (if s && g then o else None) ≡ true → (s ≡ true) × (g ≡ true)
both_there true true o h = (refl, refl)
both_there true false o h = absurd (cc)
both_there false g o h = absurd (cc)

agreed_there : (x : Shake) → is_some (agreed x) ≡ true → (x.sent.open_request ≡ true) × (x.got.open_request ≡ true)
agreed_there x h = both_there x.sent.open_request x.got.open_request (agreed_by x.both_new (limit_in x.own_size) (limit_in x.their_size)) h

lawful : (o : Option Size) → is_some o ≡ true → IfSome o (λ z. IsRequestSize z.entries z.limit) → IsLawful o
lawful (Some z) h k = k
lawful None h k = absurd (cc)

no_reason : (o : Option Reason) → not (is_some o) ≡ true → o ≡ None
no_reason None h = refl
no_reason (Some r) h = absurd (cc)

never : (b : Bool) → not b ≡ true → b ≡ true → ⊥
never true h k = cc
never false h k = cc

-- where a control flag is sent that is owed
pub sent_sizes : (k : Kind) (o : Option Size) (copying : Bool) (x : Shake) → is_control k ≡ true → owed_by k (is_some o) copying x ≡ true → IfSome o (λ z. IsRequestSize z.entries z.limit) → InOrder x.sent → HasSizes x → InOrder (also k x.sent) × HasSizes (sent_with k o x)
sent_sizes CloseRequest o copying x c w z i h = (record { reply = i.reply; complete = i.complete; close = λ r. refl }, record { own = h.own; theirs = h.theirs; got = h.got; both = h.both; limit = h.limit })
sent_sizes CloseReply o copying x c w z i h = (record { reply = i.reply; complete = i.complete; close = λ r. left_true x.sent.close_request _ w }, record { own = h.own; theirs = h.theirs; got = h.got; both = h.both; limit = h.limit })
sent_sizes OpenRequest o copying x c w z i h =
    let unsent : x.sent.open_reply ≡ true → ⊥ = λ r. never x.sent.open_request (right_true (not (is_some x.reason)) _ (right_true (is_some o) _ w)) (i.reply r) in
    (record { reply = λ r. refl; complete = i.complete; close = i.close }, record { own = λ r. lawful o (left_true (is_some o) _ w) z; theirs = h.theirs; got = h.got; both = h.both; limit = λ r. absurd (unsent r) })
sent_sizes OpenReply o copying x c w z i h =
    let there = left_true (is_some (agreed x)) _ (right_true (not (is_some x.reason)) _ w) in
    let requests = agreed_there x there in
    (record { reply = λ r. requests.0; complete = λ r. refl; close = i.close }, record { own = h.own; theirs = h.theirs; got = λ r. requests.1; both = λ r. h.theirs requests.1 (no_reason x.reason (left_true (not (is_some x.reason)) _ w)); limit = λ r. there })
sent_sizes OpenComplete o copying x c w z i h = (record { reply = i.reply; complete = λ r. left_true x.sent.open_reply _ (right_true (not (is_some x.reason)) _ w); close = i.close }, record { own = h.own; theirs = h.theirs; got = h.got; both = h.both; limit = h.limit })
sent_sizes MsgRequest o copying x c w z i h = absurd (cc)

pub sent_closing : (k : Kind) (registered copying : Bool) (x : Shake) → owed_by k registered copying x ≡ true → (x.sent.close_request ≡ true → is_some x.reason ≡ true) → (also k x.sent).close_request ≡ true → is_some x.reason ≡ true
sent_closing CloseRequest registered copying x w h r = left_true (is_some x.reason) _ w
sent_closing CloseReply registered copying x w h r = h r
sent_closing OpenRequest registered copying x w h r = h r
sent_closing OpenReply registered copying x w h r = h r
sent_closing OpenComplete registered copying x w h r = h r
sent_closing MsgRequest registered copying x w h r = h r

-- where a kind is got; an open request only after the channel has a reason to close
no_longer : (o : Option Reason) → is_some o ≡ true → o ≡ None → ⊥
no_longer None h k = cc
no_longer (Some r) h k = cc

request_there : (s g : Bool) (o : Option ℕ) → g ≡ true → is_some (if s && g then o else None) ≡ true → is_some (if s && true then o else None) ≡ true
request_there s true o e h = h
request_there s false o e h = absurd (cc)

pub got_sizes : (k : Kind) (x : Shake) (t : Kinds) → (k ≡ OpenRequest → is_some x.reason ≡ true) → HasSizes x → HasSizes (record x { got = also k x.got; taken = t })
got_sizes CloseRequest x t c h = record { own = h.own; theirs = h.theirs; got = h.got; both = h.both; limit = h.limit }
got_sizes CloseReply x t c h = record { own = h.own; theirs = h.theirs; got = h.got; both = h.both; limit = h.limit }
got_sizes OpenRequest x t c h = record {
  own = h.own;
  theirs = λ r n. absurd (no_longer x.reason (c refl) n);
  got = λ r. refl;
  both = h.both;
  limit = λ r. request_there x.sent.open_request x.got.open_request (agreed_by x.both_new (limit_in x.own_size) (limit_in x.their_size)) (h.got r) (h.limit r);
}
got_sizes OpenReply x t c h = record { own = h.own; theirs = h.theirs; got = h.got; both = h.both; limit = h.limit }
got_sizes OpenComplete x t c h = record { own = h.own; theirs = h.theirs; got = h.got; both = h.both; limit = h.limit }
got_sizes MsgRequest x t c h = record { own = h.own; theirs = h.theirs; got = h.got; both = h.both; limit = h.limit }
