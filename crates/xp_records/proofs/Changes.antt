-- What each step and each act keeps at an end: the order of its epoch, and what is noted of the numbers that were asked for.
use Rattle.std.proofs.Common.{◌≡◌, ℕ, ◌+◌, ◌*◌, ◌<◌, ◌≤◌, arith, Bool, true, false, ◌&&◌, not, cond, eqb, List, [], ◌∷◌, ◌++◌, length, refl, ap, sym, ◌∙◌, subst, Option, Some, None, inl, inr, ◌⊎◌}
use Rattle.std.specs.Prelude.{is_some}
use Rattle.std.proofs.lemmas.Bool.{and_parts}
use Rattle.std.proofs.lemmas.List.{append-nil}
use Rattle.xp_base.specs.declared.link.Kind.{Kind}
use Rattle.xp_base.specs.declared.link.Kind.TheVariants.{CloseRequest, CloseReply, OpenRequest, OpenReply, OpenComplete, MsgRequest}
use Rattle.xp_base.specs.declared.link.LinkState.{LinkState}
use Rattle.xp_base.specs.declared.link.LinkState.TheVariants.{Idle, Opening, Connected, Closing}
use Rattle.xp_base.specs.declared.answer.SendAnswer.{SendAnswer}
use Rattle.xp_base.specs.declared.answer.SendAnswer.TheVariants.{Ok as SendOk, NoSlot, Disconnecting, NotConnected}
use Rattle.xp_base.specs.declared.answer.UnregisterAnswer.TheVariants.{Ok as UnregisterOk}
use Rattle.xp_base.specs.declared.answer.ReleaseAnswer.{ReleaseAnswer}
use Rattle.xp_base.specs.declared.answer.DrainAnswer.{DrainAnswer}
use Rattle.xp_base.specs.declared.answer.TakeAnswer.{TakeAnswer}
use Rattle.xp_base.specs.declared.answer.TakeAnswer.TheVariants.{Taken as TakenAnswer, Empty}
use Rattle.xp_base.specs.declared.reason.Reason.{Reason}
use Rattle.xp_base.specs.declared.reason.Reason.TheVariants.{BadCounters, Unregistered}
use Rattle.xp_base.specs.declared.step.Answer.{Answer}
use Rattle.xp_base.specs.declared.step.Answer.TheVariants.{Word, Failed}
use Rattle.xp_base.specs.declared.step.CopyMark.{CopyMark}
use Rattle.xp_base.specs.declared.step.CopyKind.{CopyKind}
use Rattle.xp_base.specs.declared.step.CopyKind.TheVariants.{Counters, Entries}
use Rattle.xp_base.specs.Kinds.{Kinds, no_kinds}
use Rattle.xp_protocol.specs.declared.refusal.TakeRefusal.{TakeRefusal}
use Rattle.xp_protocol.specs.declared.refusal.TakeRefusal.TheVariants.{Disconnecting as RefusedFor, NotConnected as RefusedUnconnected}
use Rattle.xp_script.specs.declared.command.Command.{Command}
use Rattle.xp_script.specs.declared.command.Command.TheVariants.{Send, Take, Release, Drain, Register, Unregister}
use Rattle.xp_script.specs.declared.command.Command.TheVariants as commands
use Rattle.xp_protocol.specs.declared.rule.Argument.{Argument}
use Rattle.xp_protocol.specs.declared.rule.Argument.TheVariants.{Request, Reply, Code}
use Rattle.xp_protocol.specs.declared.rule.LinkRule.{LinkRule}
use Rattle.xp_protocol.specs.declared.rule.LinkRule.TheVariants.{Ring, Pull, Acknowledge, SetFlag, ZeroGet, ZeroPut, StoreArgument, ReadArgument}
use Rattle.xp_protocol.specs.declared.rule.RingRule.TheVariants.{ReadGet, WriteEntryWord, AcceptMessage}
use Rattle.xp_protocol.specs.declared.rule.PullRule.TheVariants.{ReadCounters, ReadEntry}
use Rattle.xp_protocol.specs.Records.{Recorded}
use Rattle.xp_protocol.specs.Effects.{Effect, just, and_then, SendNote, Accepted, Sent, PullNote, Heard, Note, Acked, Withdrawn, with_notes}
use Rattle.xp_protocol.specs.Sending.{Sending, Send as Sendable, new_sending, is_bad_get, is_full, ring_effect, with_remote_get, send_over, wants_notice, payload_of, link_refusal}
use Rattle.xp_protocol.specs.Pulling.{Pulling, new_pulling, counters_pulled, entry_pulled, words_each, run_now, run_fault, run_copied, is_bad_put, take_due, shown_empty, take_refusal, pull_failed}
use Rattle.xp_protocol.specs.Releasing.{Releasing, message_released, release_refusal}
use Rattle.xp_protocol.specs.State.{End, Size, Contact, is_begun, is_connected, may_copy, link_of, state_by, both_complete, largest_size}
use Rattle.xp_protocol.specs.Linking.{hears, by_send, by_pull, sender_counters, release_notes, acknowledged, close_now, link_down, link_finished, link_joined, booted_end, channel_closed, changed, settled as all_settled, with_taken, flags_got, end_sent, with_sent, control_sent, owed, flag_sent, with_argument, argument_stored, link_can, link_effect, copy_failed, entries_in, limit_in, agreed_by, agreed, parted, copies_over}
use Rattle.xp_protocol.specs.Rules.{link_answered, end_failed, copy_error}
use Rattle.xp_protocol.specs.Acts.{say, send_begun, take_begun, release_begun, release_held, drain_begun, drain_refusal, register_begun, unregister_begun, refused_send, first_of, too_long, limit_of, end_begun, end_answered, taken_by, take_found, take_answered}
use Rattle.xp_protocol.specs.Promised.{size_sent}
use Rattle.xp_promises.proofs.Own.{sent_begun}
use Rattle.xp_promises.proofs.Steps.{AreSilent}
use Rattle.xp_records.proofs.Commands.{Off, still_off, begun_still, answered_still, down_off, sends_still}
use Rattle.xp_records.proofs.Flow.{Joint, begun_by, Flow, FlowAt, RegisteredAt, told_in, over_in, acks_in, AreExplained, plain_explained, Sends, sends_then, Tells, tells_then, calm_tells, Kept, face, ArePlain, calm, calm_sends}
use Rattle.xp_records.proofs.Cascades.{down_clear, joint_at, complete_not, opened_plain, Keeps, then_keeps, either, stays, closes, closes_now, over_tells, changes, settles_all}

-- no get is stored, or one that is above the one before
pub record Acks (e : End) (ns : List Note) : Type 0 where
  pub begun : is_begun e ≡ true
  pub get : ℕ
  pub more : List Note
  pub notes : ns ≡ Acked get ∷ more
  pub silent : AreSilent more
  pub above : e.sides.local_get ≤ get

-- what a whole step or act keeps
pub record Orders (q c : ℕ) (e e' : End) (ns : List Note) : Type 0 where
  pub flow : FlowAt e'
  pub registered : RegisteredAt e → RegisteredAt e'
  pub ended : e'.ended ≡ e.ended ++ over_in ns
  pub told : told_in ns ≡ []
  pub unbegun : is_begun e ≡ false → over_in ns ≡ []
  pub explained : (rs : List Recorded) → AreExplained rs → AreExplained (with_notes q c ns rs)
  pub off : Off e e' ns
  pub acked : (acks_in ns ≡ []) ⊎ Acks e ns

abbrev pub Order : ℕ → ℕ → End → Effect End (List Note) → Type 0
Order q c e f = Orders q c e f.local f.notes

pub order_same : (q c : ℕ) (e : End) → FlowAt e → Orders q c e e []
order_same q c e w = record { flow = w; registered = λ z. z; ended = sym (append-nil e.ended); told = refl; unbegun = λ z. refl; explained = λ rs h. h; off = λ m b. (b, refl, refl); acked = inl refl }

pub order_by : (q c : ℕ) (e : End) (f : Effect End (List Note)) → FlowAt e → Tells q c e f → FlowAt f.local → (RegisteredAt e → RegisteredAt f.local) → Off e f.local f.notes → Order q c e f
order_by q c e f w t x r o = record { flow = x; registered = r; ended = t.ended; told = t.told; unbegun = λ z. (t.pending (w.unbegun z)).1; explained = t.explained; off = o; acked = inl t.acked }

pub order_of : (q c : ℕ) (e : End) (f : Effect End (List Note)) → FlowAt e → Kept q c e f → Off e f.local f.notes → Order q c e f
order_of q c e f w k o = order_by q c e f w k.tells k.flow k.registered o

plain_order : (q c : ℕ) (e : End) (f : Effect End (List Note)) → FlowAt f.local → (RegisteredAt e → RegisteredAt f.local) → f.local.ended ≡ e.ended → ArePlain f.notes → Off e f.local f.notes → Order q c e f
plain_order q c e f x r same n o = record {
  flow = x;
  registered = r;
  ended = (calm_tells q c (record e { sides = record e.sides { pending_notices = f.local.sides.pending_notices } }) f same refl n).ended;
  told = n.0;
  unbegun = λ z. n.1;
  explained = λ rs h. plain_explained q c f.notes rs n.1 h;
  off = o;
  acked = inl n.2;
}

none_none : (o : Option Contact) → is_some o ≡ true → o ≡ None → ⊥
none_none o t e = let z : is_some o ≡ false = ap (λ (x : Option Contact). is_some x) e in absurd (cc)

-- an end in contact
in_contact : (e x : End) (ns : List Note) → is_some x.shake.meet ≡ true → Off e x ns
in_contact e x ns on = λ m b. absurd (none_none x.shake.meet on m)

-- an end that is connected, or may copy, has sent and got the open complete
connects : (o : Option Reason) (a : Bool) (m s g : Bool) → state_by o a (m && (s && g)) ≡ Connected → (m ≡ true) × (s ≡ true) × (g ≡ true) × (o ≡ None)
connects (Some r) a m s g h = absurd (cc)
connects None a true true true h = (refl, refl, refl, refl)
connects None true false s g h = absurd (cc)
connects None false false s g h = absurd (cc)
connects None true true false g h = absurd (cc)
connects None false true false g h = absurd (cc)
connects None true true true false h = absurd (cc)
connects None false true true false h = absurd (cc)

pub joint_linked : (e : End) → link_of e ≡ Connected → Joint e.shake.meet e.shake.reason e.shake.sent e.shake.got
joint_linked e h = connects e.shake.reason e.shake.sent.open_request (is_some e.shake.meet) e.shake.sent.open_complete e.shake.got.open_complete h

copies_sent : (e : End) → may_copy e ≡ true → e.shake.sent.open_complete ≡ true
copies_sent e h =
    let a = and_parts (both_complete e.shake) (not e.shake.sent.close_reply) h in
    let b = and_parts (is_some e.shake.meet) (e.shake.sent.open_complete && e.shake.got.open_complete) a.0 in
    (and_parts e.shake.sent.open_complete e.shake.got.open_complete b.1).0

complete_begun : (o : Option Reason) (s : Kinds) → s.open_complete ≡ true → begun_by o s ≡ false → ⊥
complete_begun o s t f = let z : begun_by o s ≡ true = rw t refl in absurd (cc)

-- every step but a load of get and the store of put leaves the send in progress, or closes its link
abbrev pub IsCalm : LinkRule → Type 0
IsCalm (Ring ReadGet) = ⊥
IsCalm (Ring AcceptMessage) = ⊥
IsCalm Acknowledge = ⊥
IsCalm m = Unit {0}

abbrev pub IsCalmly : LinkRule → Answer → Type 0
IsCalmly m (Word v) = IsCalm m
IsCalmly m Failed = Unit {0}

-- all but a send leave the sending side as it is, or close its link
abbrev pub IsNoSend : Command → Type 0
IsNoSend (Send k d payload wait notify) = ⊥
IsNoSend x = Unit {0}

module _ (q c : ℕ) where
  -- a flag is sent
  is_size : (o : Option Size) → is_some o ≡ true → o ≡ Some (record { entries = entries_in o; limit = limit_in o })
  is_size None t = absurd (cc)
  is_size (Some z) t = refl

  not_false : (b : Bool) → not b ≡ true → b ≡ false
  not_false true h = absurd (cc)
  not_false false h = refl

  -- an open reply is owed after both open requests, and an open complete once
  both_asked : (e : End) → owed OpenReply e ≡ true → (e.shake.sent.open_request ≡ true) × (e.shake.got.open_request ≡ true)
  both_asked e o = agreed_both e.shake.sent.open_request e.shake.got.open_request (agreed_by e.shake.both_new (limit_in e.shake.own_size) (limit_in e.shake.their_size)) (and_parts (is_some (agreed e.shake)) (not e.shake.sent.open_reply) (and_parts (not (is_some e.shake.reason)) (is_some (agreed e.shake) && not e.shake.sent.open_reply) o).1).0 where
    agreed_both : (a b : Bool) (o : Option ℕ) → is_some (cond (a && b) o None) ≡ true → (a ≡ true) × (b ≡ true)
    agreed_both true true o h = (refl, refl)
    agreed_both true false o h = absurd (cc)
    agreed_both false b o h = absurd (cc)

  incomplete : (e : End) → owed OpenComplete e ≡ true → e.shake.sent.open_complete ≡ false
  incomplete e o =
      let a = and_parts (not (is_some e.shake.reason)) _ o in
      let b = and_parts e.shake.sent.open_reply _ a.1 in
      not_false e.shake.sent.open_complete (and_parts e.shake.got.open_reply (not e.shake.sent.open_complete) b.1).1

  sent_flow : (k : Kind) → (k ≡ MsgRequest → ⊥) → (e : End) → is_some e.shake.meet ≡ true → owed k e ≡ true → FlowAt e → FlowAt (end_sent k e)
  sent_flow MsgRequest n e on o w = absurd (n refl)
  sent_flow OpenRequest n e on o w = record { sent_reply = w.sent_reply; sent_request = λ t. refl; got_reply = w.got_reply; got_request = w.got_request; close_request = w.close_request; close_reply = w.close_reply; away = λ m b. absurd (none_none e.shake.meet on m); unbegun = λ z. (let b = sent_begun q c OpenRequest n e in absurd (cc)); sends = w.sends; agreed = w.agreed; fresh_send = w.fresh_send; fresh_pull = w.fresh_pull }
  sent_flow OpenReply n e on o w =
      let b = both_asked e o in
      record { sent_reply = λ t. refl; sent_request = λ t. b.0; got_reply = w.got_reply; got_request = w.got_request; close_request = w.close_request; close_reply = w.close_reply; away = λ m x. absurd (none_none e.shake.meet on m); unbegun = λ z. (let y = sent_begun q c OpenReply n e in absurd (cc)); sends = w.sends; agreed = λ t. b.1; fresh_send = w.fresh_send; fresh_pull = w.fresh_pull }
  sent_flow OpenComplete n e on o w =
      let a = and_parts (not (is_some e.shake.reason)) _ o in
      let b = and_parts e.shake.sent.open_reply _ a.1 in
      record { sent_reply = λ t. b.0; sent_request = w.sent_request; got_reply = w.got_reply; got_request = w.got_request; close_request = w.close_request; close_reply = w.close_reply; away = λ m x. absurd (none_none e.shake.meet on m); unbegun = λ z. (let y = sent_begun q c OpenComplete n e in absurd (cc)); sends = λ t. absurd (cc); agreed = w.agreed; fresh_send = λ t. absurd (cc); fresh_pull = λ t. absurd (cc) }
  sent_flow CloseRequest n e on o w =
      let a = and_parts (is_some e.shake.reason) _ o in
      record { sent_reply = w.sent_reply; sent_request = w.sent_request; got_reply = w.got_reply; got_request = w.got_request; close_request = λ t. a.0; close_reply = λ t. refl; away = λ m x. absurd (none_none e.shake.meet on m); unbegun = λ z. (let y = sent_begun q c CloseRequest n e in absurd (cc)); sends = w.sends; agreed = w.agreed; fresh_send = w.fresh_send; fresh_pull = w.fresh_pull }
  sent_flow CloseReply n e on o w =
      let a = and_parts e.shake.sent.close_request _ o in
      record { sent_reply = w.sent_reply; sent_request = w.sent_request; got_reply = w.got_reply; got_request = w.got_request; close_request = w.close_request; close_reply = λ t. a.0; away = λ m x. absurd (none_none e.shake.meet on m); unbegun = λ z. (let y = sent_begun q c CloseReply n e in absurd (cc)); sends = w.sends; agreed = w.agreed; fresh_send = w.fresh_send; fresh_pull = w.fresh_pull }

  sent_registered : (k : Kind) (e : End) → owed k e ≡ true → RegisteredAt e → RegisteredAt (end_sent k e)
  sent_registered MsgRequest e o h = h
  sent_registered OpenRequest e o h = λ t n. is_size e.registration (and_parts (is_some e.registration) _ o).0
  sent_registered OpenReply e o h = h
  sent_registered OpenComplete e o h = h
  sent_registered CloseRequest e o h = h
  sent_registered CloseReply e o h = h

  sent_ended : (k : Kind) (e : End) → ((end_sent k e).ended ≡ e.ended) × ((end_sent k e).sides.pending_notices ≡ e.sides.pending_notices)
  sent_ended MsgRequest e = (refl, refl)
  sent_ended OpenRequest e = (refl, refl)
  sent_ended OpenReply e = (refl, refl)
  sent_ended OpenComplete e = (refl, refl)
  sent_ended CloseRequest e = (refl, refl)
  sent_ended CloseReply e = (refl, refl)

  sent_meet : (k : Kind) (e : End) → (end_sent k e).shake.meet ≡ e.shake.meet
  sent_meet MsgRequest e = refl
  sent_meet OpenRequest e = refl
  sent_meet OpenReply e = refl
  sent_meet OpenComplete e = refl
  sent_meet CloseRequest e = refl
  sent_meet CloseReply e = refl

  sent_sends : (k : Kind) (e : End) → owed k e ≡ true → FlowAt e → Sends e (end_sent k e)
  sent_sends MsgRequest e o w = record { idle = λ z. (z, refl); going = λ t. inl (record { send = refl; put = refl; entries = refl; decided = refl }) }
  sent_sends OpenRequest e o w = record { idle = λ z. (z, refl); going = λ t. inl (record { send = refl; put = refl; entries = refl; decided = refl }) }
  sent_sends OpenReply e o w = record { idle = λ z. (z, refl); going = λ t. inl (record { send = refl; put = refl; entries = refl; decided = refl }) }
  sent_sends OpenComplete e o w = record { idle = λ z. (refl, refl); going = λ t. absurd (complete_not e.shake.sent.open_complete (w.sends t).1 (incomplete e o)) }
  sent_sends CloseRequest e o w = record { idle = λ z. (z, refl); going = λ t. inl (record { send = refl; put = refl; entries = refl; decided = refl }) }
  sent_sends CloseReply e o w = record { idle = λ z. (z, refl); going = λ t. inl (record { send = refl; put = refl; entries = refl; decided = refl }) }

  -- a step that leaves the send in progress, or closes its link
  pub record Went (e : End) (f : Effect End (List Note)) : Type 0 where
    pub flow : FlowAt f.local
    pub registered : RegisteredAt e → RegisteredAt f.local
    pub tells : Tells q c e f
    pub sends : Sends e f.local
    pub meet : f.local.shake.meet ≡ e.shake.meet

  went_then : (e : End) (f : Effect End (List Note)) (h : End → Effect End (List Note)) → Went e f → Keeps q c f.local (h f.local) → Went e (and_then f h)
  went_then e f h a b =
      let k = b a.flow in
      record { flow = k.flow; registered = λ z. k.registered (a.registered z); tells = tells_then q c e f h a.tells k.tells; sends = sends_then e f.local (h f.local).local a.sends k.sends k.remains; meet = k.meet ∙ a.meet }

  went_of : (e : End) (f : Effect End (List Note)) → Kept q c e f → Went e f
  went_of e f k = record { flow = k.flow; registered = k.registered; tells = k.tells; sends = k.sends; meet = k.meet }

  sends_control : (k : Kind) → (k ≡ MsgRequest → ⊥) → (e : End) → is_some e.shake.meet ≡ true → owed k e ≡ true → FlowAt e → Went e (control_sent k e)
  sends_control k n e on o w =
      let first : Went e (with_sent k e) = record { flow = sent_flow k n e on o w; registered = sent_registered k e o; tells = calm_tells q c e (with_sent k e) (sent_ended k e).0 (sent_ended k e).1 (opened_plain (is_begun e) e.shake.meet e.epoch); sends = sent_sends k e o w; meet = sent_meet k e } in
      let second = went_then e (with_sent k e) changed first (changes q c (end_sent k e)) in
      went_then e (and_then (with_sent k e) changed) all_settled second (settles_all q c (and_then (with_sent k e) changed).local)

  sends_flag : (k : Kind) (e : End) → is_some e.shake.meet ≡ true → owed k e ≡ true → FlowAt e → Went e (flag_sent k e)
  sends_flag MsgRequest e on o w = went_of e (flag_sent MsgRequest e) (calm q c e (flag_sent MsgRequest e) w (λ z. z) refl (refl, refl, refl))
  sends_flag OpenRequest e on o w = sends_control OpenRequest (λ z. absurd (cc)) e on o w
  sends_flag OpenReply e on o w = sends_control OpenReply (λ z. absurd (cc)) e on o w
  sends_flag OpenComplete e on o w = sends_control OpenComplete (λ z. absurd (cc)) e on o w
  sends_flag CloseRequest e on o w = sends_control CloseRequest (λ z. absurd (cc)) e on o w
  sends_flag CloseReply e on o w = sends_control CloseReply (λ z. absurd (cc)) e on o w

  -- the steps of the sending side: the order stands, and the receiving side is as before
  sending_flow : (e : End) (x : Sending) → e.shake.sent.open_complete ≡ true → (is_some x.send ≡ true → is_some e.sides.send.send ≡ true) → FlowAt e → FlowAt (record e { sides = record e.sides { send = x } })
  sending_flow e x oc some w = record { sent_reply = w.sent_reply; sent_request = w.sent_request; got_reply = w.got_reply; got_request = w.got_request; close_request = w.close_request; close_reply = w.close_reply; away = w.away; unbegun = w.unbegun; sends = λ t. w.sends (some t); agreed = w.agreed; fresh_send = λ n. absurd (complete_not e.shake.sent.open_complete oc n); fresh_pull = w.fresh_pull }

  reads_get : (e : End) (v : ℕ) → is_some e.shake.meet ≡ true → e.shake.sent.open_complete ≡ true → FlowAt e → Order q c e (by_send e (ring_effect e.sides.send ReadGet v))
  reads_get e v on oc w = by (is_bad_get e.sides.send v) (is_full e.sides.send v) where
    full : Effect Sending (List SendNote)
    full = record { local = send_over (with_remote_get v e.sides.send); reason = None; notes = Sent (NoSlot e.sides.send.put v) ∷ [] }

    heard : Effect Sending (List SendNote)
    heard = record { local = with_remote_get v e.sides.send; reason = None; notes = [] }

    bad : Effect Sending (List SendNote)
    bad = record { local = e.sides.send; reason = Some (BadCounters v e.sides.send.put); notes = [] }

    by : (z y : Bool) → Order q c e (by_send e (cond z bad (cond y full heard)))
    by true y = plain_order q c e (by_send e bad) w (λ z. z) refl (refl, refl, refl) (in_contact e e [] on)
    by false true = plain_order q c e (by_send e full) (sending_flow e (send_over (with_remote_get v e.sides.send)) oc (λ t. absurd (cc)) w) (λ z. z) refl (refl, refl, refl) (in_contact e (by_send e full).local (by_send e full).notes on)
    by false false = plain_order q c e (by_send e heard) (sending_flow e (with_remote_get v e.sides.send) oc (λ t. t) w) (λ z. z) refl (refl, refl, refl) (in_contact e (by_send e heard).local [] on)

  accepts : (e : End) → is_some e.shake.meet ≡ true → e.shake.sent.open_complete ≡ true → FlowAt e → Order q c e (by_send e (ring_effect e.sides.send AcceptMessage 0))
  accepts e on oc w = by (wants_notice e.sides.send.send) where
    to : Bool → Effect End (List Note)
    to asks = by_send e (record { local = record (send_over e.sides.send) { put = e.sides.send.put + 1 }; reason = None; notes = Accepted e.sides.send.put (payload_of e.sides.send.send) asks ∷ Sent (SendOk e.sides.send.put) ∷ [] })

    flow : (asks : Bool) → FlowAt (to asks).local
    flow asks = record { sent_reply = w.sent_reply; sent_request = w.sent_request; got_reply = w.got_reply; got_request = w.got_request; close_request = w.close_request; close_reply = w.close_reply; away = w.away; unbegun = λ z. absurd (complete_begun e.shake.reason e.shake.sent oc z); sends = λ t. absurd (cc); agreed = w.agreed; fresh_send = λ n. absurd (complete_not e.shake.sent.open_complete oc n); fresh_pull = w.fresh_pull }

    by : (asks : Bool) → Order q c e (to asks)
    by asks = plain_order q c e (to asks) (flow asks) (λ z. z) refl (refl, refl, refl) (in_contact e (to asks).local (to asks).notes on)

  writes : (e : End) (f v : ℕ) → e.shake.sent.open_complete ≡ true → FlowAt e → Went e (by_send e (ring_effect e.sides.send (WriteEntryWord f) v))
  writes e f v oc w = let g = by_send e (ring_effect e.sides.send (WriteEntryWord f) v) in went_of e g (calm q c e g (sending_flow e g.local.sides.send oc (λ t. t) w) (λ z. z) refl (refl, refl, refl))

  -- those of the receiving side
  pulling_flow : (e : End) (x : Pulling) → e.shake.sent.open_complete ≡ true → FlowAt e → FlowAt (record e { sides = record e.sides { pull = x } })
  pulling_flow e x oc w = record { sent_reply = w.sent_reply; sent_request = w.sent_request; got_reply = w.got_reply; got_request = w.got_request; close_request = w.close_request; close_reply = w.close_reply; away = w.away; unbegun = w.unbegun; sends = w.sends; agreed = w.agreed; fresh_send = w.fresh_send; fresh_pull = λ n. absurd (complete_not e.shake.sent.open_complete oc n) }

  pulls : (e : End) (x : Effect Pulling (List PullNote)) → x.notes ≡ [] → e.shake.sent.open_complete ≡ true → FlowAt e → Went e (by_pull e x)
  pulls e x none oc w = subst (λ (ns : List PullNote). Went e (by_pull e (record { local = x.local; reason = x.reason; notes = ns }))) (sym none) (let g = by_pull e (record { local = x.local; reason = x.reason; notes = [] }) in went_of e g (calm q c e g (pulling_flow e x.local oc w) (λ z. z) refl (refl, refl, refl)))

  reads_counters : (e : End) (o : Option ℕ) (v : ℕ) → e.shake.sent.open_complete ≡ true → FlowAt e → Went e (by_pull e (counters_pulled (sender_counters e.sides) o e.sides.pull v))
  reads_counters e None v oc w = by (is_bad_get e.sides.send v) where
    bad : Effect Pulling (List PullNote)
    bad = record { local = record e.sides.pull { owed = false }; reason = Some (BadCounters v e.sides.send.put); notes = [] }

    good : Effect Pulling (List PullNote)
    good = record { local = record e.sides.pull { counters = Some v; known = v; owed = false }; reason = None; notes = Heard v ∷ [] }

    by : (z : Bool) → Went e (by_pull e (cond z bad good))
    by true = pulls e bad refl oc w
    by false = let g = by_pull e good in went_of e g (calm q c e g (sending_flow (record e { sides = record e.sides { pull = good.local } }) (with_remote_get v e.sides.send) oc (λ t. t) (pulling_flow e good.local oc w)) (λ z. z) refl (refl, refl, refl))
  reads_counters e (Some get) v oc w = by (is_bad_put (sender_counters e.sides) e.sides.pull v) where
    bad : Effect Pulling (List PullNote)
    bad = record { local = record e.sides.pull { counters = None }; reason = Some (BadCounters get v); notes = [] }

    good : Effect Pulling (List PullNote)
    good = record { local = record e.sides.pull { counters = None; pulled_put = v; empty = shown_empty e.sides.pull v }; reason = None; notes = [] }

    by : (z : Bool) → Went e (by_pull e (cond z bad good))
    by true = pulls e bad refl oc w
    by false = pulls e good refl oc w

  reads_entry : (e : End) (ws : List ℕ) → e.shake.sent.open_complete ≡ true → FlowAt e → Went e (by_pull e (entry_pulled ws e.sides.pull))
  reads_entry e ws oc w = by (eqb (length ws) (words_each e.sides.pull * b)) (run_fault e.sides.pull.limit e.sides.pull.pulled b ws) where
    b : ℕ
    b = run_now e.sides.pull

    by : (z : Bool) (o : Option Reason) → Went e (by_pull e (cond z (run_copied o b ws e.sides.pull) (record { local = record e.sides.pull { copied = ws; run = b }; reason = None; notes = [] })))
    by true None = pulls e (run_copied None b ws e.sides.pull) refl oc w
    by true (Some r) = pulls e (run_copied (Some r) b ws e.sides.pull) refl oc w
    by false o = pulls e (record { local = record e.sides.pull { copied = ws; run = b }; reason = None; notes = [] }) refl oc w

  stores_get : (e : End) → is_some e.shake.meet ≡ true → is_begun e ≡ true → e.sides.local_get < e.sides.ack.front → FlowAt e → Order q c e (acknowledged e)
  stores_get e on begun less w = by e.sides.releasing where
    to : Bool → Effect End (List Note)
    to z = record { local = hears (release_notes z e.sides.ack.front) (record e { sides = record e.sides { local_get = e.sides.ack.front; releasing = false }; shake = record e.shake { owes_message = true } }); reason = None; notes = Acked e.sides.ack.front ∷ release_notes z e.sides.ack.front }

    by : (z : Bool) → Order q c e (to z)
    by true = record { flow = w; registered = λ z. z; ended = sym (append-nil e.ended); told = refl; unbegun = λ z. refl; explained = λ rs h. plain_explained q c (to true).notes rs refl h; off = in_contact e (to true).local (to true).notes on; acked = inr (record { begun = begun; get = e.sides.ack.front; more = release_notes true e.sides.ack.front; notes = refl; silent = (tt, tt); above = omega (arith, less) }) }
    by false = record { flow = w; registered = λ z. z; ended = sym (append-nil e.ended); told = refl; unbegun = λ z. refl; explained = λ rs h. plain_explained q c (to false).notes rs refl h; off = in_contact e (to false).local (to false).notes on; acked = inr (record { begun = begun; get = e.sides.ack.front; more = []; notes = refl; silent = tt; above = omega (arith, less) }) }

  pub stored_face : (e : End) → face (acknowledged e).local ≡ face e
  stored_face e = by e.sides.releasing where
    by : (z : Bool) → face (hears (release_notes z e.sides.ack.front) (record e { sides = record e.sides { local_get = e.sides.ack.front; releasing = false }; shake = record e.shake { owes_message = true } })) ≡ face e
    by true = refl
    by false = refl

  loads : (x : Argument) (place v : ℕ) (e : End) → Keeps q c e (just (with_argument x place v e))
  loads Request place v e w = calm q c e (just (with_argument Request place v e)) w (λ z. z) refl (refl, refl, refl)
  loads Reply place v e w = calm q c e (just (with_argument Reply place v e)) w (λ z. z) refl (refl, refl, refl)
  loads Code place v e w = calm q c e (just (with_argument Code place v e)) w (λ z. z) refl (refl, refl, refl)

  stores : (x : Argument) (e : End) → Keeps q c e (just (argument_stored x e))
  stores Request e w = calm q c e (just (argument_stored Request e)) w (λ z. z) refl (refl, refl, refl)
  stores Reply e w = calm q c e (just (argument_stored Reply e)) w (λ z. z) refl (refl, refl, refl)
  stores Code e w = calm q c e (just (argument_stored Code e)) w (λ z. z) refl (refl, refl, refl)

  pub link_went : (place : ℕ) (e : End) (m : LinkRule) (v : ℕ) → IsCalm m → link_can e m → FlowAt e → Went e (link_effect place e m v)
  link_went place e (Ring ReadGet) v is can w = absurd is
  link_went place e (Ring (WriteEntryWord f)) v is can w = writes e f v (joint_linked e can.0).1 w
  link_went place e (Ring AcceptMessage) v is can w = absurd is
  link_went place e (Pull ReadCounters) v is can w = reads_counters e e.sides.pull.counters v (copies_sent e can.0) w
  link_went place e (Pull ReadEntry) v is can w = reads_entry e (e.sides.pull.copied ++ v ∷ []) (copies_sent e can.0) w
  link_went place e Acknowledge v is can w = absurd is
  link_went place e (SetFlag k) v is can w = sends_flag k e can.0 can.1 w
  link_went place e ZeroGet v is can w = let f = link_effect place e ZeroGet v in went_of e f (calm q c e f w (λ z. z) refl (refl, refl, refl))
  link_went place e ZeroPut v is can w = let f = link_effect place e ZeroPut v in went_of e f (calm q c e f w (λ z. z) refl (refl, refl, refl))
  link_went place e (StoreArgument x) v is can w = went_of e (just (argument_stored x e)) (stores x e w)
  link_went place e (ReadArgument x) v is can w = let f = and_then (just (with_argument x place v e)) all_settled in went_of e f (then_keeps q c e (just (with_argument x place v e)) all_settled (loads x place v e) (settles_all q c (with_argument x place v e)) w)

  went_order : (e : End) (f : Effect End (List Note)) → FlowAt e → Went e f → is_some e.shake.meet ≡ true → Order q c e f
  went_order e f w k on = order_by q c e f w k.tells k.flow k.registered (in_contact e f.local f.notes (ap (λ (o : Option Contact). is_some o) k.meet ∙ on))

  can_on : (e : End) (m : LinkRule) → link_can e m → is_some e.shake.meet ≡ true
  can_on e (Ring m) can = (joint_linked e can.0).0
  can_on e (Pull m) can = (and_parts (is_some e.shake.meet) (e.shake.sent.open_complete && e.shake.got.open_complete) (and_parts (both_complete e.shake) (not e.shake.sent.close_reply) can.0).0).0
  can_on e Acknowledge can = (joint_linked e can.0).0
  can_on e (SetFlag k) can = can.0
  can_on e ZeroGet can = can.0
  can_on e ZeroPut can = can.0
  can_on e (StoreArgument x) can = can.0
  can_on e (ReadArgument x) can = can.0

  pub link_order : (place : ℕ) (e : End) (m : LinkRule) (v : ℕ) → link_can e m → FlowAt e → Order q c e (link_effect place e m v)
  link_order place e (Ring ReadGet) v can w = let j = joint_linked e can.0 in reads_get e v j.0 j.1 w
  link_order place e (Ring (WriteEntryWord f)) v can w = went_order e (link_effect place e (Ring (WriteEntryWord f)) v) w (link_went place e (Ring (WriteEntryWord f)) v tt can w) (can_on e (Ring (WriteEntryWord f)) can)
  link_order place e (Ring AcceptMessage) v can w = let j = joint_linked e can.0 in accepts e j.0 j.1 w
  link_order place e (Pull m) v can w = went_order e (link_effect place e (Pull m) v) w (link_went place e (Pull m) v tt can w) (can_on e (Pull m) can)
  link_order place e Acknowledge v can w = let j = joint_linked e can.0 in stores_get e j.0 (rw j.1 refl) can.1 w
  link_order place e (SetFlag k) v can w = went_order e (link_effect place e (SetFlag k) v) w (link_went place e (SetFlag k) v tt can w) (can_on e (SetFlag k) can)
  link_order place e ZeroGet v can w = went_order e (link_effect place e ZeroGet v) w (link_went place e ZeroGet v tt can w) (can_on e ZeroGet can)
  link_order place e ZeroPut v can w = went_order e (link_effect place e ZeroPut v) w (link_went place e ZeroPut v tt can w) (can_on e ZeroPut can)
  link_order place e (StoreArgument x) v can w = went_order e (link_effect place e (StoreArgument x) v) w (link_went place e (StoreArgument x) v tt can w) (can_on e (StoreArgument x) can)
  link_order place e (ReadArgument x) v can w = went_order e (link_effect place e (ReadArgument x) v) w (link_went place e (ReadArgument x) v tt can w) (can_on e (ReadArgument x) can)

  -- a load of a copy failed
  failed_pull : (kind : CopyKind) (x : Pulling) → x ≡ new_pulling x.entries x.limit → pull_failed kind x ≡ new_pulling (pull_failed kind x).entries (pull_failed kind x).limit
  failed_pull Counters x e = ap (λ (y : Pulling). pull_failed Counters y) e
  failed_pull Entries x e = ap (λ (y : Pulling). pull_failed Entries y) e
  failed_pull kind x e = e

  failed_flow : (kind : CopyKind) (e : End) → FlowAt e → FlowAt (copy_failed kind e)
  failed_flow kind e w = record { sent_reply = w.sent_reply; sent_request = w.sent_request; got_reply = w.got_reply; got_request = w.got_request; close_request = w.close_request; close_reply = w.close_reply; away = w.away; unbegun = w.unbegun; sends = w.sends; agreed = w.agreed; fresh_send = w.fresh_send; fresh_pull = λ n. failed_pull kind e.sides.pull (w.fresh_pull n) }

  fails : (o : Option CopyMark) (e : End) (reason : Option Reason) → FlowAt e → Went e (record { local = end_failed o e; reason = reason; notes = [] })
  fails None e reason w = went_of e _ (calm q c e (record { local = e; reason = reason; notes = [] }) w (λ z. z) refl (refl, refl, refl))
  fails (Some mark) e reason w = went_of e _ (calm q c e (record { local = copy_failed mark.kind e; reason = reason; notes = [] }) (failed_flow mark.kind e w) (λ z. z) refl (refl, refl, refl))

  pub linked_order : (mark : Option CopyMark) (place : ℕ) (e : End) (m : LinkRule) (a : Answer) → link_can e m → FlowAt e → Order q c e (link_answered mark place e m a)
  linked_order mark place e m (Word v) can w = link_order place e m v can w
  linked_order mark place e m Failed can w = went_order e (record { local = end_failed mark e; reason = copy_error mark; notes = [] }) w (fails mark e (copy_error mark) w) (can_on e m can)

  pub linked_went : (mark : Option CopyMark) (place : ℕ) (e : End) (m : LinkRule) (a : Answer) → IsCalmly m a → link_can e m → FlowAt e → Went e (link_answered mark place e m a)
  linked_went mark place e m (Word v) is can w = link_went place e m v is can w
  linked_went mark place e m Failed is can w = fails mark e (copy_error mark) w

  -- flags are taken
  pub takes : (ks : Kinds) (e : End) → Keeps q c e (flags_got ks e)
  takes ks e = either q c (is_some e.shake.meet) e (and_then (just (with_taken ks e)) all_settled) (just e) (λ t. then_keeps q c e (just (with_taken ks e)) all_settled (λ w. calm q c e (just (with_taken ks e)) w (λ z. z) refl (refl, refl, refl)) (settles_all q c (with_taken ks e))) (λ t. stays q c e)

  pub takes_order : (ks : Kinds) (e : End) → FlowAt e → Order q c e (flags_got ks e)
  takes_order ks e w = by (is_some e.shake.meet) refl where
    on_kept : is_some e.shake.meet ≡ true → Kept q c e (and_then (just (with_taken ks e)) all_settled)
    on_kept t = then_keeps q c e (just (with_taken ks e)) all_settled (λ w. calm q c e (just (with_taken ks e)) w (λ z. z) refl (refl, refl, refl)) (settles_all q c (with_taken ks e)) w

    by : (b : Bool) → is_some e.shake.meet ≡ b → Order q c e (cond b (and_then (just (with_taken ks e)) all_settled) (just e))
    by true t = let f = and_then (just (with_taken ks e)) all_settled in let k = on_kept t in order_of q c e f w k (in_contact e f.local f.notes (ap (λ (o : Option Contact). is_some o) k.meet ∙ t))
    by false t = order_same q c e w

  -- the partner goes down
  abbrev down_last : End → Effect End (List Note)
  down_last x = just (parted x)

  closed_send : (e : End) → FlowAt e → is_some e.shake.reason ≡ true → e.sides.send.send ≡ None
  closed_send e w t = by e.sides.send.send refl where
    by : (o : Option Sendable) → e.sides.send.send ≡ o → o ≡ None
    by None i = refl
    by (Some s) i = let j = w.sends (ap (λ (o : Option Sendable). is_some o) i) in let z : is_some e.shake.reason ≡ false = ap (λ (o : Option Reason). is_some o) j.3 in absurd (cc)

  unbegun_send : (e : End) → FlowAt e → is_begun e ≡ false → e.sides.send.send ≡ None
  unbegun_send e w f = by e.sides.send.send refl where
    by : (o : Option Sendable) → e.sides.send.send ≡ o → o ≡ None
    by None i = refl
    by (Some s) i = absurd (complete_begun e.shake.reason e.shake.sent (w.sends (ap (λ (o : Option Sendable). is_some o) i)).1 f)

  closed_why : (o : Option Reason) (reason : Reason) (e : End) → e.shake.reason ≡ o → is_some (close_now o reason e).local.shake.reason ≡ true
  closed_why (Some r) reason e i = ap (λ (o : Option Reason). is_some o) i
  closed_why None reason e i = ap (λ (z : End). is_some z.shake.reason) (down_clear reason e)

  -- it is out of contact, with no send in progress
  pub record Downs (e : End) (f : Effect End (List Note)) : Type 0 where
    pub flow : FlowAt f.local
    pub registered : RegisteredAt e → RegisteredAt f.local
    pub tells : Tells q c e f
    pub sends : Sends e f.local

  down_by : (e : End) (f : Effect End (List Note)) → Kept q c e f → f.local.sides.send.send ≡ None → (is_begun f.local ≡ true → is_some f.local.shake.reason ≡ true) → Downs e (and_then f down_last)
  down_by e f k none why =
      let x = f.local in
      let w = k.flow in
      record {
        flow = record { sent_reply = w.sent_reply; sent_request = w.sent_request; got_reply = w.got_reply; got_request = w.got_request; close_request = w.close_request; close_reply = w.close_reply; away = λ m b. why b; unbegun = w.unbegun; sends = λ t. (let z : is_some x.sides.send.send ≡ false = ap (λ (o : Option Sendable). is_some o) none in absurd (cc)); agreed = w.agreed; fresh_send = w.fresh_send; fresh_pull = λ n. ap (λ (y : Pulling). copies_over y) (w.fresh_pull n) };
        registered = k.registered;
        tells = tells_then q c e f down_last k.tells (calm_tells q c x (down_last x) refl refl (refl, refl, refl));
        sends = sends_then e x (down_last x).local k.sends (record { idle = λ z. (z, refl); going = λ t. inl (record { send = refl; put = refl; entries = refl; decided = refl }) }) (λ r a b. (a, b));
      }

  pub goes_down : (reason : Reason) (e : End) → FlowAt e → Downs e (link_down reason e)
  goes_down reason e w = by (is_begun e) refl where
    by : (b : Bool) → is_begun e ≡ b → Downs e (and_then (cond b (close_now e.shake.reason reason e) (just e)) down_last)
    by true t =
        let f = close_now e.shake.reason reason e in
        let k = closes_now q c e.shake.reason reason e refl w in
        let why = closed_why e.shake.reason reason e refl in
        down_by e f k (closed_send f.local k.flow why) (λ b. why)
    by false t = down_by e (just e) (stays q c e w) (unbegun_send e w t) (λ b. absurd (cc))

  pub down_order : (reason : Reason) (e : End) → FlowAt e → Order q c e (link_down reason e)
  down_order reason e w = let k = goes_down reason e w in order_by q c e (link_down reason e) w k.tells k.flow k.registered (down_off reason e)

  -- it has left: an end that isn't in contact is fresh
  no_send : (e : End) → FlowAt e → e.shake.meet ≡ None → e.sides.send.send ≡ None
  no_send e w m = by e.sides.send.send refl where
    by : (o : Option Sendable) → e.sides.send.send ≡ o → o ≡ None
    by None i = refl
    by (Some s) i = absurd (none_none e.shake.meet (w.sends (ap (λ (o : Option Sendable). is_some o) i)).0 m)

  why_over : (e : End) → FlowAt e → e.shake.meet ≡ None → (is_some e.shake.reason ≡ true) ⊎ (e.sides.pending_notices ≡ [])
  why_over e w m = by (is_begun e) refl where
    by : (b : Bool) → is_begun e ≡ b → (is_some e.shake.reason ≡ true) ⊎ (e.sides.pending_notices ≡ [])
    by true t = inl (w.away m t)
    by false t = inr (w.unbegun t)

  fresh_flow : (m : Option Contact) (x y : Size) → Flow m None no_kinds no_kinds [] (new_sending x.entries x.limit) (new_pulling y.entries y.limit)
  fresh_flow m x y = record { sent_reply = λ z. absurd (cc); sent_request = λ z. absurd (cc); got_reply = λ z. absurd (cc); got_request = λ z. absurd (cc); close_request = λ z. absurd (cc); close_reply = λ z. absurd (cc); away = λ n z. absurd (cc); unbegun = λ z. refl; sends = λ z. absurd (cc); agreed = λ z. absurd (cc); fresh_send = λ z. refl; fresh_pull = λ z. refl }

  pub finishes : (e : End) → e.shake.meet ≡ None → FlowAt e → Downs e (link_finished e)
  finishes e m w = record {
    flow = fresh_flow None (record { entries = e.sides.send.entries; limit = e.sides.send.limit }) (record { entries = e.sides.pull.entries; limit = e.sides.pull.limit });
    registered = λ z a b. absurd (cc);
    tells = over_tells q c e (link_finished e) refl refl refl (why_over e w m);
    sends = record { idle = λ z. (refl, refl); going = λ t. (let z = ap (λ (o : Option Sendable). is_some o) (no_send e w m) in absurd (cc)) };
  }

  -- a contact is made
  pub joins : (new : Bool) (m : Contact) (e : End) → is_begun e ≡ false → FlowAt e → Downs e (link_joined new m e)
  joins new m e b w = record {
    flow = fresh_flow (Some m) largest_size largest_size;
    registered = λ z a t. absurd (cc);
    tells = calm_tells q c e (link_joined new m e) (ap (λ (ns : List ℕ). e.ended ++ ns) (w.unbegun b) ∙ append-nil e.ended) (sym (w.unbegun b)) (refl, refl, refl);
    sends = record { idle = λ z. (refl, refl); going = λ t. (let z = ap (λ (o : Option Sendable). is_some o) (unbegun_send e w b) in absurd (cc)) };
  }

  pub finished_order : (e : End) → e.shake.meet ≡ None → FlowAt e → Order q c e (link_finished e)
  finished_order e m w = let k = finishes e m w in order_by q c e (link_finished e) w k.tells k.flow k.registered (λ x b. absurd (cc))

  pub joined_order : (new : Bool) (m : Contact) (e : End) → is_begun e ≡ false → FlowAt e → Order q c e (link_joined new m e)
  joined_order new m e b w = let k = joins new m e b w in order_by q c e (link_joined new m e) w k.tells k.flow k.registered (λ x z. absurd (cc))

  -- a boot begins
  pub boots : (e : End) → FlowAt (booted_end e)
  boots e = fresh_flow None (record { entries = e.sides.send.entries; limit = e.sides.send.limit }) (record { entries = e.sides.pull.entries; limit = e.sides.pull.limit })

  -- a command is begun
  sends_begun : (e : End) (payload : List ℕ) (wait notify : Bool) → FlowAt e → Order q c e (send_begun (refused_send e payload) payload wait notify e)
  sends_begun e payload wait notify w = by (too_long (limit_of e) payload) (link_of e) refl where
    by : (o : Option SendAnswer) (l : LinkState) → link_of e ≡ l → Order q c e (send_begun (first_of o (link_refusal l)) payload wait notify e)
    by (Some a) l i = plain_order q c e (send_begun (Some a) payload wait notify e) w (λ z. z) refl (refl, refl, refl) (still_off e (send_begun (Some a) payload wait notify e) (sends_still (Some a) e payload wait notify))
    by None (Closing r) i = plain_order q c e (send_begun (Some (Disconnecting r)) payload wait notify e) w (λ z. z) refl (refl, refl, refl) (still_off e (send_begun (Some (Disconnecting r)) payload wait notify e) (sends_still (Some (Disconnecting r)) e payload wait notify))
    by None Idle i = plain_order q c e (send_begun (Some NotConnected) payload wait notify e) w (λ z. z) refl (refl, refl, refl) (still_off e (send_begun (Some NotConnected) payload wait notify e) (sends_still (Some NotConnected) e payload wait notify))
    by None Opening i = plain_order q c e (send_begun (Some NotConnected) payload wait notify e) w (λ z. z) refl (refl, refl, refl) (still_off e (send_begun (Some NotConnected) payload wait notify e) (sends_still (Some NotConnected) e payload wait notify))
    by None Connected i =
        let j = joint_linked e i in
        let f = send_begun None payload wait notify e in
        plain_order q c e f (record { sent_reply = w.sent_reply; sent_request = w.sent_request; got_reply = w.got_reply; got_request = w.got_request; close_request = w.close_request; close_reply = w.close_reply; away = w.away; unbegun = w.unbegun; sends = λ t. j; agreed = w.agreed; fresh_send = λ n. absurd (complete_not e.shake.sent.open_complete j.1 n); fresh_pull = w.fresh_pull }) (λ z. z) refl (refl, refl, refl) (still_off e f (sends_still None e payload wait notify))

  takes_begun : (e : End) (wait : Bool) → FlowAt e → Kept q c e (take_begun (take_refusal (link_of e)) wait e)
  takes_begun e wait w = by (link_of e) refl where
    refused : (a : TakeRefusal) → Kept q c e (take_begun (Some a) wait e)
    refused a = calm q c e (take_begun (Some a) wait e) w (λ z. z) refl (refl, refl, refl)

    by : (l : LinkState) → link_of e ≡ l → Kept q c e (take_begun (take_refusal l) wait e)
    by (Closing r) i = refused (RefusedFor r)
    by Idle i = refused RefusedUnconnected
    by Opening i = refused RefusedUnconnected
    by Connected i = calm q c e (take_begun None wait e) (pulling_flow e (take_begun None wait e).local.sides.pull (joint_linked e i).1 w) (λ z. z) refl (refl, refl, refl)

  releases_begun : (o : Option ReleaseAnswer) (number : ℕ) (e : End) → Keeps q c e (release_begun o number e)
  releases_begun (Some a) number e w = calm q c e (release_begun (Some a) number e) w (λ z. z) refl (refl, refl, refl)
  releases_begun None number e w = by (eqb e.sides.ack.front new.front) where
    new : Releasing
    new = message_released number e.sides.ack

    to : Bool → Effect End (List Note)
    to stays = say (release_held stays number new) (record e { sides = record e.sides { ack = new; releasing = not stays } })

    by : (stays : Bool) → Kept q c e (to stays)
    by true = calm q c e (to true) w (λ z. z) refl (refl, refl, refl)
    by false = calm q c e (to false) w (λ z. z) refl (refl, refl, refl)

  drains_begun : (o : Option DrainAnswer) (e : End) → Keeps q c e (drain_begun o e)
  drains_begun None e w = calm q c e (drain_begun None e) w (λ z. z) refl (refl, refl, refl)
  drains_begun (Some a) e w = calm q c e (drain_begun (Some a) e) w (λ z. z) refl (refl, refl, refl)

  registers_begun : (o : Option Size) (z : Size) (e : End) → e.registration ≡ o → Keeps q c e (register_begun o z e)
  registers_begun None z e i w = calm q c e (register_begun None z e) w (λ h t n. (let k : None ≡ Some (size_sent e) = sym i ∙ h t n in absurd (cc))) refl (refl, refl, refl)
  registers_begun (Some first) z e i w = calm q c e (register_begun (Some first) z e) w (λ h. h) refl (refl, refl, refl)

  closed_reason : (reason : Reason) (e : End) → is_some e.shake.reason ≡ false → is_some (channel_closed reason e).local.shake.reason ≡ true
  closed_reason reason e n = closed_why e.shake.reason reason e refl

  unregisters_begun : (o : Option Size) (e : End) → Keeps q c e (unregister_begun o e)
  unregisters_begun None e w = calm q c e (unregister_begun None e) w (λ z. z) refl (refl, refl, refl)
  unregisters_begun (Some z) e w = by (e.shake.sent.open_request && not (is_some e.shake.reason)) refl where
    first : Effect End (List Note)
    first = say (Withdrawn UnregisterOk ∷ []) (record e { registration = None })

    open_by : (a : Bool) (o : Option Reason) → (a && not (is_some o)) ≡ false → a ≡ true → o ≡ None → ⊥
    open_by true None h t n = absurd (cc)
    open_by a (Some r) h t n = absurd (cc)
    open_by false o h t n = absurd (cc)

    closing : Kept q c first.local (channel_closed Unregistered first.local)
    closing = closes q c Unregistered first.local w

    begin_kept : Tells q c e first
    begin_kept = calm_tells q c e first refl refl (refl, refl, refl)

    by : (b : Bool) → (e.shake.sent.open_request && not (is_some e.shake.reason)) ≡ b → Kept q c e (and_then first (λ x. cond b (channel_closed Unregistered x) (just x)))
    by true t =
        let g = channel_closed Unregistered first.local in
        record {
          flow = closing.flow;
          registered = λ h a n. (let y = closed_why e.shake.reason Unregistered first.local refl in let x : is_some g.local.shake.reason ≡ false = ap (λ (o : Option Reason). is_some o) n in absurd (cc));
          tells = tells_then q c e first (channel_closed Unregistered) begin_kept closing.tells;
          sends = sends_then e first.local g.local (calm_sends e first.local refl) closing.sends closing.remains;
          remains = λ r a b. closing.remains r a b;
          meet = closing.meet;
        }
    by false t = calm q c e (and_then first (λ x. just x)) w (λ h a n. absurd (open_by e.shake.sent.open_request e.shake.reason t a n)) refl (refl, refl, refl)

  pub begin_kept : (e : End) (x : Command) → IsNoSend x → Keeps q c e (end_begun e x)
  begin_kept e (Send k d payload wait notify) is w = absurd is
  begin_kept e (Take k d wait) is w = takes_begun e wait w
  begin_kept e (Release k d number) is w = releases_begun (release_refusal (link_of e) number e.sides.ack) number e w
  begin_kept e (Drain k d) is w = drains_begun (drain_refusal (link_of e)) e w
  begin_kept e (Register k d entries limit) is w = registers_begun e.registration (record { entries = entries; limit = limit }) e refl w
  begin_kept e (Unregister k d) is w = unregisters_begun e.registration e w
  begin_kept e (commands.Connected k d) is w = stays q c e w
  begin_kept e (commands.Closed k d) is w = calm q c e (end_begun e (commands.Closed k d)) w (λ z. z) refl (refl, refl, refl)
  begin_kept e (commands.Net frame) is w = stays q c e w
  begin_kept e (commands.Frames count) is w = stays q c e w
  begin_kept e (commands.Deactivate k) is w = stays q c e w
  begin_kept e (commands.Activate k) is w = stays q c e w
  begin_kept e commands.Leave is w = stays q c e w
  begin_kept e (commands.Idle turns) is w = stays q c e w
  begin_kept e commands.Offline is w = stays q c e w
  begin_kept e commands.Online is w = stays q c e w

  begun_with : (e : End) (x : Command) → IsNoSend x → FlowAt e → Order q c e (end_begun e x)
  begun_with e x is w = order_of q c e (end_begun e x) w (begin_kept e x is w) (still_off e (end_begun e x) (begun_still e x))

  pub begun_order : (e : End) (x : Command) → FlowAt e → Order q c e (end_begun e x)
  begun_order e (Send k d payload wait notify) w = sends_begun e payload wait notify w
  begun_order e (Take k d wait) w = begun_with e (Take k d wait) tt w
  begun_order e (Release k d number) w = begun_with e (Release k d number) tt w
  begun_order e (Drain k d) w = begun_with e (Drain k d) tt w
  begun_order e (Register k d entries limit) w = begun_with e (Register k d entries limit) tt w
  begun_order e (Unregister k d) w = begun_with e (Unregister k d) tt w
  begun_order e (commands.Connected k d) w = begun_with e (commands.Connected k d) tt w
  begun_order e (commands.Closed k d) w = begun_with e (commands.Closed k d) tt w
  begun_order e (commands.Net frame) w = begun_with e (commands.Net frame) tt w
  begun_order e (commands.Frames count) w = begun_with e (commands.Frames count) tt w
  begun_order e (commands.Deactivate k) w = begun_with e (commands.Deactivate k) tt w
  begun_order e (commands.Activate k) w = begun_with e (commands.Activate k) tt w
  begun_order e commands.Leave w = begun_with e commands.Leave tt w
  begun_order e (commands.Idle turns) w = begun_with e (commands.Idle turns) tt w
  begun_order e commands.Offline w = begun_with e commands.Offline tt w
  begun_order e commands.Online w = begun_with e commands.Online tt w

  -- a command is answered
  takes_answered : (e : End) → Keeps q c e (taken_by (take_found e) e)
  takes_answered e w = by (is_connected e) refl (take_due e.sides.pull) where
    taken : e.shake.sent.open_complete ≡ true → (o : Option TakeAnswer) → Kept q c e (taken_by o e)
    taken oc (Some (TakenAnswer number body)) = let f = taken_by (Some (TakenAnswer number body)) e in calm q c e f (pulling_flow e f.local.sides.pull oc w) (λ z. z) refl (refl, refl, refl)
    taken oc (Some (Empty put)) = let f = taken_by (Some (Empty put)) e in calm q c e f (pulling_flow e f.local.sides.pull oc w) (λ z. z) refl (refl, refl, refl)
    taken oc (Some a) = stays q c e w
    taken oc None = stays q c e w

    by : (z : Bool) → is_connected e ≡ z → (o : Option TakeAnswer) → Kept q c e (taken_by (cond z o None) e)
    by true t o = taken (joint_at e t).1 o
    by false t o = stays q c e w

  take_kept : (o : Option TakeRefusal) (e : End) → Keeps q c e (take_answered o e)
  take_kept None e w = takes_answered e w
  take_kept (Some a) e w = calm q c e (take_answered (Some a) e) w (λ z. z) refl (refl, refl, refl)

  pub answer_kept : (e : End) (x : Command) → IsNoSend x → Keeps q c e (end_answered e x)
  answer_kept e (Send k d payload wait notify) is w = absurd is
  answer_kept e (Take k d wait) is w = take_kept e.decided.take e w
  answer_kept e (Release k d number) is w = calm q c e (end_answered e (Release k d number)) w (λ z. z) refl (refl, refl, refl)
  answer_kept e (Drain k d) is w = calm q c e (end_answered e (Drain k d)) w (λ z. z) refl (refl, refl, refl)
  answer_kept e (Register k d entries limit) is w = calm q c e (end_answered e (Register k d entries limit)) w (λ z. z) refl (refl, refl, refl)
  answer_kept e (Unregister k d) is w = calm q c e (end_answered e (Unregister k d)) w (λ z. z) refl (refl, refl, refl)
  answer_kept e (commands.Connected k d) is w = stays q c e w
  answer_kept e (commands.Closed k d) is w = stays q c e w
  answer_kept e (commands.Net frame) is w = stays q c e w
  answer_kept e (commands.Frames count) is w = stays q c e w
  answer_kept e (commands.Deactivate k) is w = stays q c e w
  answer_kept e (commands.Activate k) is w = stays q c e w
  answer_kept e commands.Leave is w = stays q c e w
  answer_kept e (commands.Idle turns) is w = stays q c e w
  answer_kept e commands.Offline is w = stays q c e w
  answer_kept e commands.Online is w = stays q c e w

  answered_with : (e : End) (x : Command) → IsNoSend x → FlowAt e → Order q c e (end_answered e x)
  answered_with e x is w = order_of q c e (end_answered e x) w (answer_kept e x is w) (still_off e (end_answered e x) (answered_still e x))

  pub answered_order : (e : End) (x : Command) → FlowAt e → Order q c e (end_answered e x)
  answered_order e (Send k d payload wait notify) w = plain_order q c e (end_answered e (Send k d payload wait notify)) w (λ z. z) refl (refl, refl, refl) (still_off e (end_answered e (Send k d payload wait notify)) (answered_still e (Send k d payload wait notify)))
  answered_order e (Take k d wait) w = answered_with e (Take k d wait) tt w
  answered_order e (Release k d number) w = answered_with e (Release k d number) tt w
  answered_order e (Drain k d) w = answered_with e (Drain k d) tt w
  answered_order e (Register k d entries limit) w = answered_with e (Register k d entries limit) tt w
  answered_order e (Unregister k d) w = answered_with e (Unregister k d) tt w
  answered_order e (commands.Connected k d) w = answered_with e (commands.Connected k d) tt w
  answered_order e (commands.Closed k d) w = answered_with e (commands.Closed k d) tt w
  answered_order e (commands.Net frame) w = answered_with e (commands.Net frame) tt w
  answered_order e (commands.Frames count) w = answered_with e (commands.Frames count) tt w
  answered_order e (commands.Deactivate k) w = answered_with e (commands.Deactivate k) tt w
  answered_order e (commands.Activate k) w = answered_with e (commands.Activate k) tt w
  answered_order e commands.Leave w = answered_with e commands.Leave tt w
  answered_order e (commands.Idle turns) w = answered_with e (commands.Idle turns) tt w
  answered_order e commands.Offline w = answered_with e commands.Offline tt w
  answered_order e commands.Online w = answered_with e commands.Online tt w
