-- The step at an end that comes next is permitted there.
use Rattle.std.proofs.Common.{◌≡◌, ℕ, ◌+◌, ◌-◌, ◌^◌, ◌<◌, ◌≤◌, Bool, true, false, ◌&&◌, refl, ap, subst, arith, ◌⊎◌, inl, inr, Option, Some, None}
use Rattle.std.specs.Prelude.{IsSome, if◌then◌else◌, ◌||◌, not, is_some, nat_lt, nat_le, nat_eq}
use Rattle.std.specs.Int.{trailing_ones, w128}
use Rattle.std.proofs.lemmas.Bool.{and_parts}
use Rattle.xp_base.specs.declared.link.LinkState.TheVariants.{Connected}
use Rattle.xp_base.specs.declared.reason.Reason.{Reason}
use Rattle.xp_base.specs.declared.link.Kind.{Kind}
use Rattle.xp_base.specs.declared.link.Kind.TheVariants.{CloseRequest, CloseReply, OpenRequest, OpenReply, OpenComplete, MsgRequest}
use Rattle.xp_base.specs.Kinds.{has}
use Rattle.xp_protocol.specs.declared.rule.Argument.{Argument}
use Rattle.xp_protocol.specs.declared.rule.Argument.TheVariants.{Request, Reply, Code}
use Rattle.xp_protocol.specs.declared.rule.RingRule.{RingRule}
use Rattle.xp_protocol.specs.declared.rule.RingRule.TheVariants.{ReadGet, WriteEntryWord, AcceptMessage}
use Rattle.xp_protocol.specs.declared.rule.PullRule.TheVariants.{ReadCounters, ReadEntry}
use Rattle.xp_protocol.specs.declared.rule.LinkRule.{LinkRule}
use Rattle.xp_protocol.specs.declared.rule.LinkRule.TheVariants.{Ring, Pull, Acknowledge, SetFlag, ZeroGet, ZeroPut, StoreArgument, ReadArgument}
use Rattle.xp_protocol.specs.Sending.{Sending, ring_can, words_each}
use Rattle.xp_protocol.specs.Pulling.{Pulling, pull_can}
use Rattle.xp_protocol.specs.State.{Shake, End, link_of, is_connected, may_copy, both_complete, state_by}
use Rattle.xp_protocol.specs.Linking.{link_can, owed, kind_of, request_of}
use Rattle.xp_plan.specs.EndSteps.{step_if, or_else, send_step, once, send_at, has_entry, take_at, is_polling, counters_at, owes_store, store_at, argument_awaited, argument_step, argument_at, message_at, control_owed, is_word, has_request, control_step, control_by, control_at, control_signal, signal_step, signal_at}
use Rattle.xp_plan.specs.Sound.{IsSending, IsPulling, IsSoundEnd}
use Rattle.xp_plan.proofs.Choices.{step_is, choice, first_is, some_is, not_false, there, lt_is, ge_is, le_is, gt_is, eq_is}
use Rattle.xp_plan.proofs.Words.{missing, slot_low, run_low}

-- a connected end
connected_by : (o : Option Reason) (opening b : Bool) → (b && not (is_some o)) ≡ true → state_by o opening b ≡ Connected
connected_by None opening true e = refl
connected_by None opening false e = absurd (cc)
connected_by (Some reason) opening true e = absurd (cc)
connected_by (Some reason) opening false e = absurd (cc)

is_linked : (e : End) → is_connected e ≡ true → link_of e ≡ Connected
is_linked e h = connected_by e.shake.reason e.shake.sent.open_request (both_complete e.shake) h

-- sending
once_is : (used : ℕ) (r : RingRule) (m : LinkRule) → once used r ≡ Some m → Ring r ≡ m
once_is used ReadGet m e = (step_is (nat_eq used 0) (Ring ReadGet) m e).1
once_is used (WriteEntryWord f) m e = some_is (Ring (WriteEntryWord f)) m e
once_is used AcceptMessage m e = some_is (Ring AcceptMessage) m e

send_can : (x : Sending) → IsSome x.send → IsSending x → ring_can x (send_step x)
send_can x is h = by (nat_le x.entries (x.put - x.remote_get)) refl where
  room : x.put ≤ x.remote_get + x.entries
  room = h.room

  get : x.remote_get ≤ x.put
  get = h.get

  words : (b : Bool) → nat_lt x.written_words (2 ^ words_each x - 1) ≡ b → x.put < x.remote_get + x.entries → ring_can x (if b then WriteEntryWord (trailing_ones w128 x.written_words) else AcceptMessage)
  words true i l =
      let m = missing x.written_words (words_each x) (slot_low x.entries x.limit h.size).0 (lt_is x.written_words (2 ^ words_each x - 1) i) in
      (is, l, (slot_low x.entries x.limit h.size).1 (x.put) (trailing_ones w128 x.written_words) m.0, m.0, m.1)
  words false i l = let w = h.words in let g = ge_is x.written_words (2 ^ words_each x - 1) i in (is, omega (arith, w, g))

  by : (b : Bool) → nat_le x.entries (x.put - x.remote_get) ≡ b → ring_can x (if b then ReadGet else (if nat_lt x.written_words (2 ^ words_each x - 1) then WriteEntryWord (trailing_ones w128 x.written_words) else AcceptMessage))
  by true i = let l = le_is x.entries (x.put - x.remote_get) i in (is, omega (arith, l, room, get))
  by false i = let l = gt_is x.entries (x.put - x.remote_get) i in words (nat_lt x.written_words (2 ^ words_each x - 1)) refl (omega (arith, l, get))

pub send_at_can : (used : ℕ) (e : End) (m : LinkRule) → IsSoundEnd e → send_at used e ≡ Some m → link_can e m
send_at_can used e m h is = by (choice (is_connected e && is_some e.sides.send.send) (once used (send_step e.sides.send)) None m is) where
  by : (((is_connected e && is_some e.sides.send.send) ≡ true) × (once used (send_step e.sides.send) ≡ Some m)) ⊎ (((is_connected e && is_some e.sides.send.send) ≡ false) × (None ≡ Some m)) → link_can e m
  by (inl y) =
      let b = and_parts (is_connected e) (is_some e.sides.send.send) y.0 in
      subst (λ (r : LinkRule). link_can e r) (once_is used (send_step e.sides.send) m y.1) (is_linked e b.0, send_can e.sides.send (there e.sides.send.send b.1) (h.send b.0))
  by (inr y) = absurd (cc)

-- receiving
open_still : (there closed : Bool) → (closed ≡ true → there ≡ true) → not there ≡ true → closed ≡ false
open_still there false h n = refl
open_still true true h n = absurd (cc)
open_still false true h n = absurd (let e = h refl in cc)

copies_by : (o : Option Reason) (b closed : Bool) → (b && not (is_some o)) ≡ true → closed ≡ false → (b && not closed) ≡ true
copies_by None true false e f = refl
copies_by None true true e f = absurd (cc)
copies_by None false closed e f = absurd (cc)
copies_by (Some reason) true closed e f = absurd (cc)
copies_by (Some reason) false closed e f = absurd (cc)

may : (e : End) → IsSoundEnd e → is_connected e ≡ true → may_copy e ≡ true
may e h c = copies_by e.shake.reason (both_complete e.shake) e.shake.sent.close_reply c (open_still (is_some e.shake.reason) e.shake.sent.close_reply h.closing (and_parts (both_complete e.shake) (not (is_some e.shake.reason)) c).1)

entry_can : (x : Pulling) → IsPulling x → has_entry x ≡ true → pull_can x ReadEntry
entry_can x h i = let l = lt_is x.pulled x.pulled_put i in let r = run_low x h l in (l, r.0, r.1)

pub take_at_can : (e : End) (m : LinkRule) → IsSoundEnd e → take_at e ≡ Some m → link_can e m
take_at_can e m h is =
    let y = step_is (is_connected e && (is_some e.sides.pull.take && has_entry e.sides.pull)) (Pull ReadEntry) m is in
    let b = and_parts (is_connected e) (is_some e.sides.pull.take && has_entry e.sides.pull) y.0 in
    let d = and_parts (is_some e.sides.pull.take) (has_entry e.sides.pull) b.1 in
    subst (λ (r : LinkRule). link_can e r) y.1 (may e h b.0, entry_can e.sides.pull (h.pull b.0) d.1)

pub counters_at_can : (used : ℕ) (e : End) (m : LinkRule) → IsSoundEnd e → counters_at used e ≡ Some m → link_can e m
counters_at_can used e m h is =
    let y = step_is (is_connected e && (is_some e.sides.pull.counters || (nat_lt used 2 && (e.sides.pull.owed || is_polling e.sides.pull)))) (Pull ReadCounters) m is in
    let b = and_parts (is_connected e) (is_some e.sides.pull.counters || (nat_lt used 2 && (e.sides.pull.owed || is_polling e.sides.pull))) y.0 in
    subst (λ (r : LinkRule). link_can e r) y.1 (may e h b.0, tt)

pub store_at_can : (e : End) (m : LinkRule) → store_at e ≡ Some m → link_can e m
store_at_can e m is =
    let y = step_is (owes_store e) Acknowledge m is in
    let b = and_parts (is_connected e) (nat_lt e.sides.local_get e.sides.ack.front) y.0 in
    subst (λ (r : LinkRule). link_can e r) y.1 (is_linked e b.0, lt_is e.sides.local_get e.sides.ack.front b.1)

-- telling the partner
argument_taken : (x : Shake) (a : Argument) → argument_awaited x ≡ Some a → has (kind_of a) x.taken ≡ true
argument_taken x a is = by (choice (x.taken.open_request && not (is_some x.request)) (Some Request) _ a is) where
  code : (x.taken.close_request && not (is_some x.code)) ≡ true → Code ≡ a → has (kind_of a) x.taken ≡ true
  code t e = subst (λ (b : Argument). has (kind_of b) x.taken ≡ true) e (and_parts x.taken.close_request (not (is_some x.code)) t).0

  reply : (((x.taken.open_reply && not (is_some x.reply)) ≡ true) × (Some Reply ≡ Some a)) ⊎ (((x.taken.open_reply && not (is_some x.reply)) ≡ false) × (step_if (x.taken.close_request && not (is_some x.code)) Code ≡ Some a)) → has (kind_of a) x.taken ≡ true
  reply (inl y) = subst (λ (b : Argument). has (kind_of b) x.taken ≡ true) (some_is Reply a y.1) (and_parts x.taken.open_reply (not (is_some x.reply)) y.0).0
  reply (inr y) = let s = step_is (x.taken.close_request && not (is_some x.code)) Code a y.1 in code s.0 s.1

  by : (((x.taken.open_request && not (is_some x.request)) ≡ true) × (Some Request ≡ Some a)) ⊎ (((x.taken.open_request && not (is_some x.request)) ≡ false) × ((if x.taken.open_reply && not (is_some x.reply) then Some Reply else step_if (x.taken.close_request && not (is_some x.code)) Code) ≡ Some a)) → has (kind_of a) x.taken ≡ true
  by (inl y) = subst (λ (b : Argument). has (kind_of b) x.taken ≡ true) (some_is Request a y.1) (and_parts x.taken.open_request (not (is_some x.request)) y.0).0
  by (inr y) = reply (choice (x.taken.open_reply && not (is_some x.reply)) (Some Reply) _ a y.1)

argument_can : (e : End) (m : LinkRule) → IsSome e.shake.meet → argument_at e ≡ Some m → link_can e m
argument_can e m met is = by (choice e.shake.sent.close_reply None (argument_step (argument_awaited e.shake)) m is) where
  step : (o : Option Argument) → argument_awaited e.shake ≡ o → e.shake.sent.close_reply ≡ false → argument_step o ≡ Some m → link_can e m
  step None i unsent f = absurd (cc)
  step (Some a) i unsent f = subst (λ (r : LinkRule). link_can e r) (some_is (ReadArgument a) m f) (met, argument_taken e.shake a i, unsent)

  by : ((e.shake.sent.close_reply ≡ true) × (None ≡ Some m)) ⊎ ((e.shake.sent.close_reply ≡ false) × (argument_step (argument_awaited e.shake) ≡ Some m)) → link_can e m
  by (inl y) = absurd (cc)
  by (inr y) = step (argument_awaited e.shake) refl y.0 y.1

message_can : (e : End) (m : LinkRule) → IsSome e.shake.meet → message_at e ≡ Some m → link_can e m
message_can e m met is =
    let y = step_is e.shake.owes_message (SetFlag MsgRequest) m is in
    subst (λ (r : LinkRule). link_can e r) y.1 (met, y.0, tt)

owed_is : (e : End) (k : Kind) → control_owed e ≡ Some k → owed k e ≡ true
owed_is e k is = request (choice (owed CloseRequest e) (Some CloseRequest) _ k is) where
  at : (j : Kind) → owed j e ≡ true → Some j ≡ Some k → owed k e ≡ true
  at j o i = subst (λ (x : Kind). owed x e ≡ true) (some_is j k i) o

  complete : step_if (owed OpenComplete e) OpenComplete ≡ Some k → owed k e ≡ true
  complete i = let y = step_is (owed OpenComplete e) OpenComplete k i in subst (λ (x : Kind). owed x e ≡ true) y.1 y.0

  open_reply : ((owed OpenReply e ≡ true) × (Some OpenReply ≡ Some k)) ⊎ ((owed OpenReply e ≡ false) × (step_if (owed OpenComplete e) OpenComplete ≡ Some k)) → owed k e ≡ true
  open_reply (inl y) = at OpenReply y.0 y.1
  open_reply (inr y) = complete y.1

  opening : ((owed OpenRequest e ≡ true) × (Some OpenRequest ≡ Some k)) ⊎ ((owed OpenRequest e ≡ false) × ((if owed OpenReply e then Some OpenReply else step_if (owed OpenComplete e) OpenComplete) ≡ Some k)) → owed k e ≡ true
  opening (inl y) = at OpenRequest y.0 y.1
  opening (inr y) = open_reply (choice (owed OpenReply e) (Some OpenReply) _ k y.1)

  reply : ((owed CloseReply e ≡ true) × (Some CloseReply ≡ Some k)) ⊎ ((owed CloseReply e ≡ false) × ((if owed OpenRequest e then Some OpenRequest else (if owed OpenReply e then Some OpenReply else step_if (owed OpenComplete e) OpenComplete)) ≡ Some k)) → owed k e ≡ true
  reply (inl y) = at CloseReply y.0 y.1
  reply (inr y) = opening (choice (owed OpenRequest e) (Some OpenRequest) _ k y.1)

  request : ((owed CloseRequest e ≡ true) × (Some CloseRequest ≡ Some k)) ⊎ ((owed CloseRequest e ≡ false) × ((if owed CloseReply e then Some CloseReply else (if owed OpenRequest e then Some OpenRequest else (if owed OpenReply e then Some OpenReply else step_if (owed OpenComplete e) OpenComplete))) ≡ Some k)) → owed k e ≡ true
  request (inl y) = at CloseRequest y.0 y.1
  request (inr y) = reply (choice (owed CloseReply e) (Some CloseReply) _ k y.1)

-- an open request that is owed wasn't sent, and so no open complete was
word_is : (w : ℕ) (o : Option ℕ) → is_word w o ≡ true → o ≡ Some w
word_is w None i = absurd (cc)
word_is w (Some v) i = ap (λ (n : ℕ). Some n) (eq_is v w i)

unsent : (registered there sent : Bool) → (registered && (not there && not sent)) ≡ true → sent ≡ false
unsent registered there sent h = not_false sent (and_parts (not there) (not sent) (and_parts registered (not there && not sent) h).1).1

not_before : (complete request : Bool) → (complete ≡ true → request ≡ true) → request ≡ false → complete ≡ false
not_before true request h n = absurd (let e = h refl in cc)
not_before false request h n = refl

control_can : (k : Kind) (e : End) → IsSome e.shake.meet → IsSoundEnd e → owed k e ≡ true → link_can e (control_step k e)
control_can OpenRequest e met h o = get e.shake.get_zero refl where
  incomplete : e.shake.sent.open_complete ≡ false
  incomplete = not_before e.shake.sent.open_complete e.shake.sent.open_request h.order (unsent (is_some e.registration) (is_some e.shake.reason) e.shake.sent.open_request o)

  word : (b : Bool) → has_request e ≡ b → e.shake.get_zero ≡ true → e.shake.put_zero ≡ true → link_can e (if b then SetFlag OpenRequest else StoreArgument Request)
  word true i g p = (met, o, (g, p, word_is (request_of e.registration) e.shake.request_put i))
  word false i g p = (met, o)

  put : (b : Bool) → e.shake.put_zero ≡ b → e.shake.get_zero ≡ true → link_can e (if not b then ZeroPut else (if has_request e then SetFlag OpenRequest else StoreArgument Request))
  put true i g = word (has_request e) refl g i
  put false i g = (met, o, incomplete)

  get : (b : Bool) → e.shake.get_zero ≡ b → link_can e (if not b then ZeroGet else (if not e.shake.put_zero then ZeroPut else (if has_request e then SetFlag OpenRequest else StoreArgument Request)))
  get true i = put e.shake.put_zero refl i
  get false i = (met, o, incomplete)
control_can OpenReply e met h o = by e.shake.reply_put refl where
  by : (b : Bool) → e.shake.reply_put ≡ b → link_can e (if b then SetFlag OpenReply else StoreArgument Reply)
  by true i = (met, o, i)
  by false i = (met, o)
control_can CloseRequest e met h o = by e.shake.code_put refl where
  by : (b : Bool) → e.shake.code_put ≡ b → link_can e (if b then SetFlag CloseRequest else StoreArgument Code)
  by true i = (met, o, i)
  by false i = (met, o)
control_can OpenComplete e met h o = (met, o, tt)
control_can CloseReply e met h o = (met, o, tt)
control_can MsgRequest e met h o = (met, o, tt)

control_at_can : (e : End) (m : LinkRule) → IsSome e.shake.meet → IsSoundEnd e → control_at e ≡ Some m → link_can e m
control_at_can e m met h is = by (control_owed e) refl is where
  by : (o : Option Kind) → control_owed e ≡ o → control_by o e ≡ Some m → link_can e m
  by None i f = absurd (cc)
  by (Some k) i f = subst (λ (r : LinkRule). link_can e r) (some_is (control_step k e) m f) (control_can k e met h (owed_is e k i))

control_signal_can : (e : End) (m : LinkRule) → IsSome e.shake.meet → IsSoundEnd e → control_signal e ≡ Some m → link_can e m
control_signal_can e m met h is = by (first_is (argument_at e) (control_at e) m is) where
  by : (argument_at e ≡ Some m) ⊎ (control_at e ≡ Some m) → link_can e m
  by (inl i) = argument_can e m met i
  by (inr i) = control_at_can e m met h i

signal_step_can : (used : ℕ) (e : End) (m : LinkRule) → IsSome e.shake.meet → IsSoundEnd e → signal_step used e ≡ Some m → link_can e m
signal_step_can used e m met h is = by (choice (nat_lt used 2) (or_else (message_at e) (or_else (store_at e) (control_signal e))) (control_signal e) m is) where
  second : (store_at e ≡ Some m) ⊎ (control_signal e ≡ Some m) → link_can e m
  second (inl i) = store_at_can e m i
  second (inr i) = control_signal_can e m met h i

  first : (message_at e ≡ Some m) ⊎ (or_else (store_at e) (control_signal e) ≡ Some m) → link_can e m
  first (inl i) = message_can e m met i
  first (inr i) = second (first_is (store_at e) (control_signal e) m i)

  by : ((nat_lt used 2 ≡ true) × (or_else (message_at e) (or_else (store_at e) (control_signal e)) ≡ Some m)) ⊎ ((nat_lt used 2 ≡ false) × (control_signal e ≡ Some m)) → link_can e m
  by (inl y) = first (first_is (message_at e) (or_else (store_at e) (control_signal e)) m y.1)
  by (inr y) = control_signal_can e m met h y.1

pub signal_at_can : (used : ℕ) (e : End) (m : LinkRule) → IsSoundEnd e → signal_at used e ≡ Some m → link_can e m
signal_at_can used e m h is = by (choice (is_some e.shake.meet) (signal_step used e) None m is) where
  by : ((is_some e.shake.meet ≡ true) × (signal_step used e ≡ Some m)) ⊎ ((is_some e.shake.meet ≡ false) × (None ≡ Some m)) → link_can e m
  by (inl y) = signal_step_can used e m (there e.shake.meet y.0) h y.1
  by (inr y) = absurd (cc)
