-- What the flags that were sent say: an end that sent one has begun its epoch, and one that is
-- connected sent its open complete.
use Rattle.std.proofs.Common.{◌≡◌, ℕ, Bool, true, false, Option, Some, None, refl, subst}
use Rattle.std.specs.Prelude.{◌||◌, ◌&&◌, not, is_some, if◌then◌else◌}
use Rattle.xp_base.specs.declared.link.Kind.{Kind}
use Rattle.xp_base.specs.declared.link.Kind.TheVariants.{CloseRequest, CloseReply, OpenRequest, OpenReply, OpenComplete, MsgRequest}
use Rattle.xp_base.specs.declared.link.LinkState.TheVariants.{Connected}
use Rattle.xp_base.specs.declared.reason.Reason.{Reason}
use Rattle.xp_base.specs.Kinds.{Kinds, also}
use Rattle.xp_protocol.specs.State.{End, Shake, any_kind, both_complete, state_by, link_of, may_copy, is_begun}
use Rattle.xp_protocol.specs.Linking.{owed, agreed, agreed_by, limit_in, are_unequal, end_sent}
use Rattle.xp_openclose.specs.Planned.{sent_with}
use Rattle.xp_channel.specs.Opening.{sides_sent}
use Rattle.xp_channel.specs.Room.{needs_sides}

left_false : (a b : Bool) → (a || b) ≡ false → a ≡ false
left_false false b h = refl
left_false true b h = absurd (cc)

right_false : (a b : Bool) → (a || b) ≡ false → b ≡ false
right_false false b h = h
right_false true b h = absurd (cc)

left_true : (a b : Bool) → (a && b) ≡ true → a ≡ true
left_true true b h = refl
left_true false b h = absurd (cc)

right_true : (a b : Bool) → (a && b) ≡ true → b ≡ true
right_true true b h = h
right_true false b h = absurd (cc)

or_left : (a b : Bool) → a ≡ true → (a || b) ≡ true
or_left true b h = refl
or_left false b h = absurd (cc)

or_right : (a b : Bool) → b ≡ true → (a || b) ≡ true
or_right true b h = refl
or_right false b h = h

either : (a b c : Bool) → (a || b) ≡ true → (a ≡ true → c ≡ true) → (b ≡ true → c ≡ true) → c ≡ true
either true b c h f g = f refl
either false b c h f g = g h

-- by the kinds that were sent
request_any : (k : Kinds) → k.open_request ≡ true → any_kind k ≡ true
request_any k h = or_right k.open_complete _ (or_left k.open_request _ h)

reply_any : (k : Kinds) → k.open_reply ≡ true → any_kind k ≡ true
reply_any k h = or_right k.open_complete _ (or_right k.open_request _ (or_left k.open_reply _ h))

complete_any : (k : Kinds) → k.open_complete ≡ true → any_kind k ≡ true
complete_any k h = or_left k.open_complete _ h

pub request_begun : (e : End) → e.shake.sent.open_request ≡ true → is_begun e ≡ true
request_begun e h = or_left (any_kind e.shake.sent) _ (request_any e.shake.sent h)

pub needs_begun : (e : End) → needs_sides e ≡ true → is_begun e ≡ true
needs_begun e h =
    or_left (any_kind e.shake.sent) _ (either e.shake.sent.open_complete e.shake.sent.open_reply (any_kind e.shake.sent) h (complete_any e.shake.sent) (reply_any e.shake.sent))

pub unequal_begun : (e : End) → are_unequal e ≡ true → is_begun e ≡ true
unequal_begun e h = request_begun e (left_true e.shake.sent.open_request _ (right_true (not (is_some e.shake.reason)) _ h))

pub unbegun_reply : (e : End) → is_begun e ≡ false → e.shake.sent.close_reply ≡ false
unbegun_reply e h =
    let k = e.shake.sent in
    let a = left_false (any_kind k) _ h in
    right_false k.close_request k.close_reply (right_false k.open_reply _ (right_false k.open_request _ (right_false k.open_complete _ a)))

pub unbegun_complete : (e : End) → is_begun e ≡ false → e.shake.sent.open_complete ≡ false
unbegun_complete e h = left_false e.shake.sent.open_complete _ (left_false (any_kind e.shake.sent) _ h)

-- by the state of the link
state_complete : (o : Option Reason) (a b : Bool) → state_by o a b ≡ Connected → b ≡ true
state_complete (Some reason) a b h = absurd (cc)
state_complete None a true h = refl
state_complete None true false h = absurd (cc)
state_complete None false false h = absurd (cc)

complete_sent : (x : Shake) → both_complete x ≡ true → x.sent.open_complete ≡ true
complete_sent x h = left_true x.sent.open_complete x.got.open_complete (right_true (is_some x.meet) _ h)

pub connected_complete : (e : End) → link_of e ≡ Connected → e.shake.sent.open_complete ≡ true
connected_complete e h = complete_sent e.shake (state_complete e.shake.reason _ _ h)

pub connected_needs : (e : End) → link_of e ≡ Connected → needs_sides e ≡ true
connected_needs e h = or_left e.shake.sent.open_complete _ (connected_complete e h)

pub complete_needs : (e : End) → e.shake.sent.open_complete ≡ true → needs_sides e ≡ true
complete_needs e h = or_left e.shake.sent.open_complete _ h

pub copying_complete : (e : End) → may_copy e ≡ true → e.shake.sent.open_complete ≡ true
copying_complete e h = complete_sent e.shake (left_true (both_complete e.shake) _ h)

-- by the kind that is sent
pub sent_complete : (k : Kind) (s : Kinds) → (also k s).open_complete ≡ false → s.open_complete ≡ false
sent_complete CloseRequest s h = h
sent_complete CloseReply s h = h
sent_complete OpenRequest s h = h
sent_complete OpenReply s h = h
sent_complete OpenComplete s h = absurd (cc)
sent_complete MsgRequest s h = h

opened_by : (e : End) → owed OpenComplete e ≡ true → e.shake.sent.open_reply ≡ true
opened_by e h = left_true e.shake.sent.open_reply _ (right_true (not (is_some e.shake.reason)) _ h)

requested_by : (e : End) → owed OpenReply e ≡ true → e.shake.sent.open_request ≡ true
requested_by e h = there e.shake.sent.open_request e.shake.got.open_request (agreed_by e.shake.both_new (limit_in e.shake.own_size) (limit_in e.shake.their_size)) (left_true (is_some (agreed e.shake)) _ (right_true (not (is_some e.shake.reason)) _ h)) where
  there : (s g : Bool) (o : Option ℕ) → is_some (if s && g then o else None) ≡ true → s ≡ true
  there true g o k = refl
  there false g o k = absurd (cc)

negated : (b : Bool) → not b ≡ true → b ≡ false
negated false h = refl
negated true h = absurd (cc)

uncompleted_by : (e : End) → owed OpenComplete e ≡ true → e.shake.sent.open_complete ≡ false
uncompleted_by e h = negated e.shake.sent.open_complete (right_true e.shake.got.open_reply _ (right_true e.shake.sent.open_reply _ (right_true (not (is_some e.shake.reason)) _ h)))

-- where it is the open complete
pub replied_by : (k : Kind) (e : End) → k ≡ OpenComplete → owed k e ≡ true → e.shake.sent.open_reply ≡ true
replied_by k e i o = opened_by e (subst (λ (k : Kind). owed k e ≡ true) i o)

pub unopened_by : (k : Kind) (e : End) → k ≡ OpenComplete → owed k e ≡ true → e.shake.sent.open_complete ≡ false
unopened_by k e i o = uncompleted_by e (subst (λ (k : Kind). owed k e ≡ true) i o)

pub sent_begun : (k : Kind) (e : End) → owed k e ≡ true → ((also k e.shake.sent).open_complete || (also k e.shake.sent).open_reply) ≡ true → is_begun e ≡ true
sent_begun CloseRequest e o h = needs_begun e h
sent_begun CloseReply e o h = needs_begun e h
sent_begun OpenRequest e o h = needs_begun e h
sent_begun OpenReply e o h = request_begun e (requested_by e o)
sent_begun OpenComplete e o h = needs_begun e (or_right e.shake.sent.open_complete _ (opened_by e o))
sent_begun MsgRequest e o h = needs_begun e h

pub sent_needs : (k : Kind) (e : End) → owed k e ≡ true → (also k e.shake.sent).open_complete ≡ true → needs_sides e ≡ true
sent_needs CloseRequest e o h = complete_needs e h
sent_needs CloseReply e o h = complete_needs e h
sent_needs OpenRequest e o h = complete_needs e h
sent_needs OpenReply e o h = complete_needs e h
sent_needs OpenComplete e o h = or_right e.shake.sent.open_complete _ (opened_by e o)
sent_needs MsgRequest e o h = complete_needs e h

-- the handshake and the sides of an end at which a flag is sent
pub sent_as : (k : Kind) (e : End) → end_sent k e ≡ record e { shake = sent_with k e.registration e.shake; sides = sides_sent k e }
sent_as CloseRequest e = refl
sent_as CloseReply e = refl
sent_as OpenRequest e = refl
sent_as OpenReply e = refl
sent_as OpenComplete e = refl
sent_as MsgRequest e = refl

-- what an end that is connected has sent, and what one that has begun no epoch hasn't
pub ruleset connected = (connected_complete)

pub ruleset unbegun = (unbegun_reply, unbegun_complete, needs_begun)

-- what a flag that is sent says
pub ruleset sent_flag = (sent_begun, sent_complete, sent_needs, sent_as)
