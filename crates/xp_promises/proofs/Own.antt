-- What the records of an end say by themselves: which numbers were released, acknowledged, asked for and told. A law of one end, whatever changes it.
use Rattle.std.proofs.Common.{◌≡◌, ℕ, zero, suc, ◌+◌, ◌*◌, ◌<◌, ◌≤◌, Bool, true, false, ◌&&◌, ◌||◌, not, cond, eqb, ltb, List, [], ◌∷◌, ◌++◌, map, length, refl, ap, sym, ◌∙◌, subst, arith, append_assoc, Option, Some, None, inl, inr, ◌⊎◌}
use Rattle.std.specs.Prelude.{is_some}
use Rattle.std.proofs.lemmas.Bool.{and_parts, ltb-true, cases_Bool}
use Rattle.std.proofs.lemmas.Bool.Decides.{nat_tests}
use Rattle.std.proofs.lemmas.List.{append-nil}
use Rattle.xp_base.specs.declared.link.Kind.{Kind}
use Rattle.xp_base.specs.declared.link.Kind.TheVariants.{CloseRequest, CloseReply, OpenRequest, OpenReply, OpenComplete, MsgRequest}
use Rattle.xp_base.specs.declared.link.LinkState.TheVariants.{Connected}
use Rattle.xp_base.specs.declared.answer.SendAnswer.{SendAnswer}
use Rattle.xp_base.specs.declared.answer.SendAnswer.TheVariants.{Ok as SendOk, NoSlot}
use Rattle.xp_base.specs.declared.answer.RegisterAnswer.TheVariants.{Ok as RegisterOk, Already}
use Rattle.xp_base.specs.declared.answer.UnregisterAnswer.TheVariants.{Ok as UnregisterOk, NotRegistered}
use Rattle.xp_base.specs.declared.answer.ReleaseAnswer.{ReleaseAnswer}
use Rattle.xp_base.specs.declared.answer.DrainAnswer.{DrainAnswer}
use Rattle.xp_base.specs.declared.answer.TakeAnswer.{TakeAnswer}
use Rattle.xp_base.specs.declared.answer.TakeAnswer.TheVariants.{Taken as TakenAnswer, Empty}
use Rattle.xp_base.specs.declared.reason.Reason.{Reason}
use Rattle.xp_base.specs.declared.reason.Reason.TheVariants.{UnequalSizes, BadArgs, BadCounters, PartnerClosed, Unregistered}
use Rattle.xp_base.specs.declared.step.Answer.{Answer}
use Rattle.xp_base.specs.declared.step.Answer.TheVariants.{Word, Failed}
use Rattle.xp_base.specs.declared.step.CopyMark.{CopyMark}
use Rattle.xp_base.specs.declared.step.CopyKind.{CopyKind}
use Rattle.xp_base.specs.Kinds.{Kinds, no_kinds, without, next_of}
use Rattle.xp_base.specs.History.{NoticeKind, Delivered, Ended}
use Rattle.xp_protocol.specs.declared.refusal.TakeRefusal.{TakeRefusal}
use Rattle.xp_script.specs.declared.command.Command.{Command}
use Rattle.xp_script.specs.declared.command.Command.TheVariants.{Send, Take, Release, Drain, Register, Unregister}
use Rattle.xp_script.specs.declared.command.Command.TheVariants as commands
use Rattle.xp_protocol.specs.declared.rule.Argument.{Argument}
use Rattle.xp_protocol.specs.declared.rule.Argument.TheVariants.{Request, Reply, Code}
use Rattle.xp_protocol.specs.declared.rule.LinkRule.{LinkRule}
use Rattle.xp_protocol.specs.declared.rule.LinkRule.TheVariants.{Ring, Pull, Acknowledge, SetFlag, ZeroGet, ZeroPut, StoreArgument, ReadArgument}
use Rattle.xp_protocol.specs.declared.rule.RingRule.TheVariants.{ReadGet, WriteEntryWord, AcceptMessage}
use Rattle.xp_protocol.specs.declared.rule.PullRule.TheVariants.{ReadCounters, ReadEntry}
use Rattle.xp_protocol.specs.Records.{Recorded, has_taken, has_released, has_acked, has_delivered}
use Rattle.xp_protocol.specs.Effects.{Effect, just, and_then, Accepted, Sent, PullNote, Heard, TakeRefused, Note, BySend, ByPull, Acked, ToldOver, Released, Drained, Registered, Withdrawn, with_notes, accepted_in}
use Rattle.xp_protocol.specs.Sending.{Sending, is_bad_get, is_full, get_loaded, ring_effect, with_remote_get, send_over, wants_notice, payload_of}
use Rattle.xp_protocol.specs.Pulling.{Pulling, counters_pulled, entry_pulled, words_each, run_now, run_fault, run_copied, is_bad_put, take_due, shown_empty, take_refusal}
use Rattle.xp_protocol.specs.Releasing.{Releasing, new_releasing, is_held, message_released, release_refusal}
use Rattle.xp_protocol.specs.State.{End, Size, Replied, Contact, is_begun, any_kind, is_connected, may_copy, link_of, size_in}
use Rattle.xp_protocol.specs.Linking.{hears, by_send, by_pull, sender_counters, release_notes, acknowledged, down_notes, down_end, close_now, link_closed, link_down, over_note, over_notes, link_finished, link_joined, booted_end, open_notes, opened_notes, channel_closed, epoch_over, is_ended, unequal, are_unequal, changed, request_handled, reply_handled, code_handled, is_request, is_code, kind_got, kind_refused, refused, well_handled, handled, has_argument, handled_next, settle, settled as all_settled, joined_notes, connection_noted, with_taken, flags_got, end_sent, with_sent, control_sent, owed, flag_sent, with_argument, argument_stored, link_can, link_effect, copy_failed, parted, limit_in}
use Rattle.xp_protocol.specs.Rules.{link_answered, end_failed, copy_error}
use Rattle.xp_protocol.specs.Acts.{say, send_begun, take_begun, release_begun, release_held, drain_begun, drain_refusal, register_begun, unregister_begun, withdrawn, refused_send, end_begun, end_answered, taken_by, take_found, take_answered, notice_due, below, without_first, end_noticed}
use Rattle.xp_protocol.specs.Promised.{AreRising}
use Rattle.xp_meetings.proofs.Parts.{notes_more}
use Rattle.xp_promises.proofs.Steps.{AreSilent, silent_notes, silent_hears, open_connected, open_copy, connected}
use Rattle.xp_promises.proofs.Lines.{Area}
use Rattle.xp_promises.proofs.Shakes.{down_silent, owed_agreed}
use Rattle.xp_promises.proofs.Freed.{Freed, freed_released, freed_held, unrefused_held}
use Rattle.xp_promises.proofs.Notices.{Told, told_none, told_known, told_unasked, told_asked, told_one}

-- what its records are compared with
pub record Facts : Type 0 where
  pub ack : Releasing
  pub pending : List ℕ
  pub get : ℕ
  pub put : ℕ
  pub known : ℕ
  pub requested : Bool  -- whether the open request was sent, or a reason stands
  pub opened : Bool  -- whether the open complete was sent

abbrev pub facts : End → Facts
facts e = record { ack = e.sides.ack; pending = e.sides.pending_notices; get = e.sides.local_get; put = e.sides.send.put; known = e.sides.send.remote_get; requested = is_some e.shake.reason || e.shake.sent.open_request; opened = e.shake.sent.open_complete }

-- the record of a connection that goes on
pub record Live (v : Facts) (r : Recorded) : Type 0 where
  pub freed : Freed r.released v.ack
  pub acked : r.acked ≡ v.get
  pub told : Told r.asked r.delivered v.pending v.known v.put
  pub ended : r.ended ≡ []
  pub over : r.over ≡ None
  pub requested : v.requested ≡ true
  pub unopened : v.opened ≡ false → (v.put ≡ 0) × (v.known ≡ 0)

-- an end at which nothing was begun
pub record Idle (v : Facts) : Type 0 where
  pub ack : v.ack ≡ new_releasing
  pub pending : v.pending ≡ []
  pub get : v.get ≡ 0
  pub put : v.put ≡ 0
  pub known : v.known ≡ 0

-- what any record says of its notices: of those that were asked the first were delivered, and then, where it was told that the connection ended, all others ended
pub record Done (r : Recorded) : Type 0 where
  pub rising : AreRising r.asked
  pub told : (rest : List ℕ) × (r.asked ≡ (r.delivered ++ r.ended) ++ rest)
  pub over : is_some r.over ≡ true → r.asked ≡ r.delivered ++ r.ended
  pub some : (r.ended ≡ []) ⊎ (r.asked ≡ r.delivered ++ r.ended)

abbrev pub AreDone : List Recorded → Type 0
AreDone [] = Unit {0}
AreDone (r ∷ rs) = Done r × AreDone rs

abbrev pub LiveIn : Facts → List Recorded → Type 0
LiveIn v [] = ⊥
LiveIn v (r ∷ rs) = Live v r × AreDone rs

pub record Local (b : Bool) (v : Facts) (rs : List Recorded) : Type 0 where
  pub live : b ≡ true → LiveIn v rs
  pub idle : b ≡ false → Idle v × AreDone rs

pub live_done : (v : Facts) (r : Recorded) → Live v r → Done r
live_done v r h = record {
  rising = h.told.rising;
  told = (v.pending, h.told.whole ∙ ap (λ (xs : List ℕ). xs ++ v.pending) (sym (append-nil r.delivered) ∙ ap (λ (ys : List ℕ). r.delivered ++ ys) (sym h.ended)));
  over = λ t. (let z : is_some r.over ≡ false = ap (λ (o : Option Reason). is_some o) h.over in absurd (cc));
  some = inl h.ended;
}

pub all_done : (b : Bool) (v : Facts) (rs : List Recorded) → Local b v rs → AreDone rs
all_done true v [] h = absurd (h.live refl)
all_done true v (r ∷ rs) h = let k = h.live refl in (live_done v r k.0, k.1)
all_done false v rs h = (h.idle refl).1

pub idle_local : (v : Facts) (rs : List Recorded) → Idle v → AreDone rs → Local false v rs
idle_local v rs i d = record { live = λ t. absurd (cc); idle = λ t. (i, d) }

pub live_local : (v : Facts) (r : Recorded) (rs : List Recorded) → Live v r → AreDone rs → Local true v (r ∷ rs)
live_local v r rs l d = record { live = λ t. (l, d); idle = λ t. absurd (cc) }

same_local : (b b' : Bool) (v v' : Facts) (rs : List Recorded) → b' ≡ b → v' ≡ v → Local b v rs → Local b' v' rs
same_local b b' v v' rs e f h = subst (λ (x : Bool). Local x v' rs) (sym e) (subst (λ (x : Facts). Local b x rs) (sym f) h)

-- an end that is begun has sent its open request, unless a reason stands: where one is to be sent, nothing was begun
pub live_requested : (v : Facts) (rs : List Recorded) → LiveIn v rs → v.requested ≡ true
live_requested v [] h = absurd h
live_requested v (r ∷ rs) h = h.0.requested

abbrev pub as_requested : Facts → Facts
as_requested v = record v { requested = true }

requested_live : (v : Facts) (rs : List Recorded) → LiveIn v rs → LiveIn (as_requested v) rs
requested_live v [] h = absurd h
requested_live v (r ∷ rs) h = (record { freed = h.0.freed; acked = h.0.acked; told = h.0.told; ended = h.0.ended; over = h.0.over; requested = refl; unopened = h.0.unopened }, h.1)

requested_local : (v : Facts) (rs : List Recorded) → Local true v rs → Local true (as_requested v) rs
requested_local v rs h = record { live = λ t. requested_live v rs (h.live refl); idle = λ t. absurd (cc) }

-- an end that hasn't sent the open complete has accepted nothing, and knows of nothing that was acknowledged
abbrev as_opened : Facts → Facts
as_opened v = record v { put = 0; known = 0; opened = true }

opened_live : (v : Facts) (rs : List Recorded) → v.opened ≡ false → LiveIn v rs → LiveIn (as_opened v) rs
opened_live v [] off h = absurd h
opened_live v (r ∷ rs) off h =
    let z = h.0.unopened off in
    let told = subst (λ (k : ℕ). Told r.asked r.delivered v.pending k 0) z.1 (subst (λ (n : ℕ). Told r.asked r.delivered v.pending v.known n) z.0 h.0.told) in
    (record { freed = h.0.freed; acked = h.0.acked; told = told; ended = h.0.ended; over = h.0.over; requested = h.0.requested; unopened = λ t. (refl, refl) }, h.1)

opened_local : (v : Facts) (rs : List Recorded) → v.opened ≡ false → Local true v rs → Local true (as_opened v) rs
opened_local v rs off h = record { live = λ t. opened_live v rs off (h.live refl); idle = λ t. absurd (cc) }

requested_idle : (v : Facts) → Idle v → Idle (as_requested v)
requested_idle v i = record { ack = i.ack; pending = i.pending; get = i.get; put = i.put; known = i.known }

requested_facts : (e : End) → (facts e).requested ≡ true → facts e ≡ as_requested (facts e)
requested_facts e t = ap (λ (b : Bool). record (facts e) { requested = b }) t

-- a record that is begun
pub new_live : (v : Facts) (r : Recorded) → Idle v → r.released ≡ [] → r.acked ≡ 0 → r.asked ≡ [] → r.delivered ≡ [] → r.ended ≡ [] → r.over ≡ None → v.requested ≡ true → Live v r
new_live v r i a b c d e f g = record {
  freed = subst (λ (x : Releasing). Freed r.released x) (sym i.ack) (record { below = λ n l. absurd (omega (arith, l)); above = λ n z. absurd (cc) });
  acked = b ∙ sym i.get;
  told = subst (λ (xs : List ℕ). Told r.asked r.delivered xs v.known v.put) (sym i.pending) (subst (λ (xs : List ℕ). Told xs r.delivered [] v.known v.put) (sym c) (subst (λ (xs : List ℕ). Told [] xs [] v.known v.put) (sym d) (told_none v.known v.put)));
  ended = e;
  over = f;
  requested = g;
  unopened = λ t. (i.put, i.known);
}

pub or_true : (a : Bool) → (a || true) ≡ true
or_true true = refl
or_true false = refl

pub no_reason : (a : Bool) (o : Option Reason) → (a || is_some o) ≡ false → o ≡ None
no_reason a None h = refl
no_reason true (Some r) h = absurd (cc)
no_reason false (Some r) h = absurd (cc)

abbrev pub no_area : Area
no_area = record { ring = record { put = 0; get = 0; entry = λ w. 0 }; flags = no_kinds; sheet = record { request = 0; reply = false; code = 0 } }

abbrev IsOn : End → Type 0
IsOn e = is_some e.shake.meet ≡ true

module _ (q c : ℕ) where
  abbrev pub Holds : End → Effect End (List Note) → Type 0
  Holds e f = (rs : List Recorded) → Local (is_begun e) (facts e) rs → Local (is_begun f.local) (facts f.local) (with_notes q c f.notes rs)

  abbrev Keeps : End → Effect End (List Note) → Type 0
  Keeps e f = IsOn e → IsOn f.local × Holds e f

  then_holds : (e : End) (f : Effect End (List Note)) (h : End → Effect End (List Note)) → Holds e f → Holds f.local (h f.local) → Holds e (and_then f h)
  then_holds e f h a b rs l = subst (λ (zs : List Recorded). Local (is_begun (h f.local).local) (facts (h f.local).local) zs) (sym (notes_more q c f.notes (h f.local).notes rs)) (b (with_notes q c f.notes rs) (a rs l))

  then_keeps : (e : End) (f : Effect End (List Note)) (h : End → Effect End (List Note)) → Keeps e f → Keeps f.local (h f.local) → Keeps e (and_then f h)
  then_keeps e f h a b on = let k = a on in let j = b k.0 in (j.0, then_holds e f h k.1 j.1)

  either : (z : Bool) (e : End) (f g : Effect End (List Note)) → Keeps e f → Keeps e g → Keeps e (cond z f g)
  either true e f g a b = a
  either false e f g a b = b

  either_holds : (z : Bool) (e : End) (f g : Effect End (List Note)) → Holds e f → Holds e g → Holds e (cond z f g)
  either_holds true e f g a b = a
  either_holds false e f g a b = b

  calm : (e : End) (f : Effect End (List Note)) → is_begun f.local ≡ is_begun e → facts f.local ≡ facts e → AreSilent f.notes → Holds e f
  calm e f b v s rs l = subst (λ (zs : List Recorded). Local (is_begun f.local) (facts f.local) zs) (sym (silent_notes q c f.notes rs s)) (same_local (is_begun e) (is_begun f.local) (facts e) (facts f.local) rs b v l)

  calm_on : (e : End) (f : Effect End (List Note)) → f.local.shake.meet ≡ e.shake.meet → is_begun f.local ≡ is_begun e → facts f.local ≡ facts e → AreSilent f.notes → Keeps e f
  calm_on e f m b v s on = (ap (λ (o : Option Contact). is_some o) m ∙ on, calm e f b v s)

  -- the newest record changes, of an end that is begun
  lives : (e : End) (f : Effect End (List Note)) (n : Recorded → Recorded) → is_begun e ≡ true → is_begun f.local ≡ true → ((r : Recorded) (more : List Recorded) → with_notes q c f.notes (r ∷ more) ≡ n r ∷ more) → ((r : Recorded) → Live (facts e) r → Live (facts f.local) (n r)) → Holds e f
  lives e f n b b' notes new [] h = absurd (h.live b)
  lives e f n b b' notes new (r ∷ more) h =
      let k = h.live b in
      subst (λ (zs : List Recorded). Local (is_begun f.local) (facts f.local) zs) (sym (notes r more)) (subst (λ (t : Bool). Local t (facts f.local) (n r ∷ more)) (sym b') (live_local (facts f.local) (n r) more (new r k.0) k.1))

  -- an end is begun
  begins : (e : End) → (is_begun e ≡ false → IsOn e) → (rs : List Recorded) → Local (is_begun e) (facts e) rs → Local true (as_requested (facts e)) (with_notes q c (opened_notes e) rs)
  begins e on rs h = by (is_begun e) refl h e.shake.meet (λ t. on t) where
    by : (b : Bool) → is_begun e ≡ b → Local (is_begun e) (facts e) rs → (m : Option Contact) → (is_begun e ≡ false → is_some m ≡ true) → Local true (as_requested (facts e)) (with_notes q c (open_notes b m e.epoch) rs)
    by true t l m on = requested_local (facts e) rs (subst (λ (b : Bool). Local b (facts e) rs) t l)
    by false t l None on = let z = on t in absurd (cc)
    by false t l (Some m) on = let k = l.idle t in live_local (as_requested (facts e)) _ rs (new_live (as_requested (facts e)) _ (requested_idle (facts e) k.0) refl refl refl refl refl refl refl) k.1

  -- a reason
  down_begun : (reason : Reason) (e : End) → is_begun (hears (down_notes reason e) (down_end reason e)) ≡ true
  down_begun reason e = silent_hears is_begun (λ z d. refl) (down_notes reason e) (down_end reason e) (down_silent reason e) ∙ or_true (any_kind e.shake.sent)

  down_facts : (reason : Reason) (e : End) → facts (hears (down_notes reason e) (down_end reason e)) ≡ as_requested (facts e)
  down_facts reason e = silent_hears facts (λ z d. refl) (down_notes reason e) (down_end reason e) (down_silent reason e)

  down_meet : (reason : Reason) (e : End) → (hears (down_notes reason e) (down_end reason e)).shake.meet ≡ e.shake.meet
  down_meet reason e = silent_hears (λ (z : End). z.shake.meet) (λ z d. refl) (down_notes reason e) (down_end reason e) (down_silent reason e)

  closes_now : (o : Option Reason) (reason : Reason) (e : End) → is_begun e ≡ true → Holds e (close_now o reason e)
  closes_now (Some r) reason e b rs h = h
  closes_now None reason e b rs h =
      let f = close_now None reason e in
      subst (λ (zs : List Recorded). Local (is_begun f.local) (facts f.local) zs) (sym (silent_notes q c f.notes rs (down_silent reason e)))
      (same_local true (is_begun f.local) (as_requested (facts e)) (facts f.local) rs (down_begun reason e) (down_facts reason e) (requested_local (facts e) rs (subst (λ (t : Bool). Local t (facts e) rs) b h)))

  closes : (reason : Reason) (e : End) → (is_begun e ≡ false → IsOn e) → Holds e (channel_closed reason e)
  closes reason e on rs h = subst (λ (zs : List Recorded). Local (is_begun f.local) (facts f.local) zs) (sym (notes_more q c (opened_notes e) (close_now e.shake.reason reason e).notes rs)) (by e.shake.reason refl) where
    f : Effect End (List Note)
    f = close_now e.shake.reason reason e

    by : (o : Option Reason) → e.shake.reason ≡ o → (let g = close_now o reason e in Local (is_begun g.local) (facts g.local) (with_notes q c g.notes (with_notes q c (opened_notes e) rs)))
    by (Some r) i = let t : is_begun e ≡ true = ap (λ (o : Option Reason). any_kind e.shake.sent || is_some o) i ∙ or_true (any_kind e.shake.sent) in same_local true (is_begun e) (as_requested (facts e)) (facts e) (with_notes q c (opened_notes e) rs) t (requested_facts e (ap (λ (o : Option Reason). is_some o || e.shake.sent.open_request) i)) (begins e on rs h)
    by None i = subst (λ (zs : List Recorded). Local (is_begun (hears (down_notes reason e) (down_end reason e))) (facts (hears (down_notes reason e) (down_end reason e))) zs) (sym (silent_notes q c (down_notes reason e) (with_notes q c (opened_notes e) rs) (down_silent reason e)))
        (same_local true _ (as_requested (facts e)) _ (with_notes q c (opened_notes e) rs) (down_begun reason e) (down_facts reason e) (begins e on rs h))

  closes_meet : (o : Option Reason) (reason : Reason) (e : End) → (close_now o reason e).local.shake.meet ≡ e.shake.meet
  closes_meet (Some r) reason e = refl
  closes_meet None reason e = down_meet reason e

  closes_on : (reason : Reason) (e : End) → Keeps e (channel_closed reason e)
  closes_on reason e on = (ap (λ (o : Option Contact). is_some o) (closes_meet e.shake.reason reason e) ∙ on, closes reason e (λ t. on))

  -- the epoch is over
  told_over : (ns : List ℕ) (r : Recorded) (more : List Recorded) → with_notes q c (map ToldOver ns) (r ∷ more) ≡ record r { ended = r.ended ++ ns } ∷ more
  told_over [] r more = ap (λ (xs : List ℕ). record r { ended = xs } ∷ more) (sym (append-nil r.ended))
  told_over (n ∷ ns) r more = told_over ns (record r { ended = r.ended ++ n ∷ [] }) more ∙ ap (λ (xs : List ℕ). record r { ended = xs } ∷ more) (append_assoc r.ended (n ∷ []) ns)

  ended_done : (v : Facts) (r : Recorded) (o : Option Reason) → Live v r → Done (record r { ended = r.ended ++ v.pending; over = o })
  ended_done v r o h =
      let e : r.asked ≡ r.delivered ++ (r.ended ++ v.pending) = h.told.whole ∙ ap (λ (xs : List ℕ). r.delivered ++ (xs ++ v.pending)) (sym h.ended) in
      record { rising = h.told.rising; told = ([], e ∙ sym (append-nil (r.delivered ++ (r.ended ++ v.pending)))); over = λ t. e; some = inr e }

  ends_done : (e : End) (rs : List Recorded) → Local (is_begun e) (facts e) rs → AreDone (with_notes q c (over_notes e) rs)
  ends_done e rs h = by (is_begun e) refl rs h where
    live : (o : Option Reason) (r : Recorded) (more : List Recorded) → Live (facts e) r → AreDone more → AreDone (with_notes q c (over_note o ++ map ToldOver e.sides.pending_notices) (r ∷ more))
    live None r more l d = subst AreDone (sym (told_over e.sides.pending_notices r more)) (ended_done (facts e) r r.over l, d)
    live (Some reason) r more l d = subst AreDone (sym (told_over e.sides.pending_notices (record r { over = Some reason }) more)) (ended_done (facts e) r (Some reason) l, d)

    by : (b : Bool) → is_begun e ≡ b → (rs : List Recorded) → Local (is_begun e) (facts e) rs → AreDone (with_notes q c (over_notes e) rs)
    by true t [] l = absurd (l.live t)
    by true t (r ∷ more) l = let k = l.live t in live e.shake.reason r more k.0 k.1
    by false t rs l =
        let k = l.idle t in
        let P : Option Reason → List ℕ → Type 0 = λ o ns. AreDone (with_notes q c (over_note o ++ map ToldOver ns) rs) in
        subst (λ (o : Option Reason). P o e.sides.pending_notices) (sym (no_reason (any_kind e.shake.sent) e.shake.reason t)) (subst (λ (ns : List ℕ). P None ns) (sym k.0.pending) k.1)

  fresh_idle : (e : End) (f : Effect End (List Note)) → is_begun f.local ≡ false → Idle (facts f.local) → f.notes ≡ over_notes e → Holds e f
  fresh_idle e f b i notes rs h = subst (λ (ns : List Note). Local (is_begun f.local) (facts f.local) (with_notes q c ns rs)) (sym notes) (subst (λ (t : Bool). Local t (facts f.local) (with_notes q c (over_notes e) rs)) (sym b) (idle_local (facts f.local) (with_notes q c (over_notes e) rs) i (ends_done e rs h)))

  idle_new : (v : Facts) → v.ack ≡ new_releasing → v.pending ≡ [] → v.get ≡ 0 → v.put ≡ 0 → v.known ≡ 0 → Idle v
  idle_new v a b d e f = record { ack = a; pending = b; get = d; put = e; known = f }

  epochs : (e : End) → Keeps e (epoch_over e)
  epochs e on = (on, fresh_idle e (epoch_over e) refl (idle_new _ refl refl refl refl refl) refl)

  changes : (e : End) → Keeps e (changed e)
  changes e = either (is_ended e) e (epoch_over e) (unequal e) (epochs e) (either (are_unequal e) e (channel_closed (UnequalSizes (limit_in e.shake.own_size) (limit_in e.shake.their_size)) e) (just e) (closes_on (UnequalSizes (limit_in e.shake.own_size) (limit_in e.shake.their_size)) e) (calm_on e (just e) refl refl refl tt))

  -- a flag is handled
  requests : (o : Option ℕ) (e : End) → Keeps e (request_handled o e)
  requests None e = calm_on e (just e) refl refl refl tt
  requests (Some w) e =
      let sized : Effect End (List Note) = just (record e { shake = record e.shake { their_size = Some (size_in w) } }) in
      either (is_request w) e sized (channel_closed (BadArgs w) e) (calm_on e sized refl refl refl tt) (closes_on (BadArgs w) e)

  replies : (o : Option Replied) (e : End) → Keeps e (reply_handled o e)
  replies None e = calm_on e (just e) refl refl refl tt
  replies (Some x) e = either x.right e (just e) (channel_closed (BadArgs x.word) e) (calm_on e (just e) refl refl refl tt) (closes_on (BadArgs x.word) e)

  codes : (o : Option ℕ) (e : End) → Keeps e (code_handled o e)
  codes None e = calm_on e (just e) refl refl refl tt
  codes (Some w) e = either (is_code w) e (channel_closed (PartnerClosed w) e) (channel_closed (BadArgs w) e) (closes_on (PartnerClosed w) e) (closes_on (BadArgs w) e)

  well : (k : Kind) (e : End) → Keeps e (well_handled k e)
  well MsgRequest e =
      let z : End = record e { shake = record e.shake { taken = without MsgRequest e.shake.taken } } in
      let f : Effect End (List Note) = just (record z { sides = record z.sides { pull = record z.sides.pull { owed = true } } }) in
      either (is_connected z) e f (just z) (calm_on e f refl refl refl tt) (calm_on e (just z) refl refl refl tt)
  well OpenRequest e = requests e.shake.request (kind_got OpenRequest e)
  well OpenReply e = replies e.shake.reply (kind_got OpenReply e)
  well CloseRequest e = codes e.shake.code (kind_got CloseRequest e)
  well OpenComplete e = calm_on e (just (kind_got OpenComplete e)) refl refl refl tt
  well CloseReply e = calm_on e (just (kind_got CloseReply e)) refl refl refl tt

  left_kept : (k : Kind) (e : End) → Keeps e (kind_refused k e)
  left_kept MsgRequest e = calm_on e (kind_refused MsgRequest e) refl refl refl tt
  left_kept OpenRequest e = calm_on e (kind_refused OpenRequest e) refl refl refl tt
  left_kept OpenReply e = calm_on e (kind_refused OpenReply e) refl refl refl tt
  left_kept CloseRequest e = calm_on e (kind_refused CloseRequest e) refl refl refl tt
  left_kept OpenComplete e = calm_on e (kind_refused OpenComplete e) refl refl refl tt
  left_kept CloseReply e = calm_on e (kind_refused CloseReply e) refl refl refl tt

  handles : (k : Kind) (e : End) → Keeps e (handled k e)
  handles k e = either (refused k e) e (kind_refused k e) (well_handled k e) (left_kept k e) (well k e)

  nexts : (o : Option Kind) (e : End) → Keeps e (handled_next o e)
  nexts None e = calm_on e (just e) refl refl refl tt
  nexts (Some k) e = either (has_argument k e.shake) e (and_then (handled k e) changed) (just e) (then_keeps e (handled k e) changed (handles k e) (changes (handled k e).local)) (calm_on e (just e) refl refl refl tt)

  settles : (n : ℕ) (e : End) → Keeps e (settle n e)
  settles zero e = calm_on e (just e) refl refl refl tt
  settles (suc n) e = let o = next_of e.shake.got.close_request e.shake.taken in then_keeps e (handled_next o e) (settle n) (nexts o e) (settles n (handled_next o e).local)

  joined_local : (b b' : Bool) (v : Facts) (rs : List Recorded) → Local b v rs → Local b v (with_notes q c (joined_notes b') rs)
  joined_local b false v rs h = h
  joined_local b true v [] h = h
  joined_local b true v (r ∷ more) h = record {
    live = λ t. (let k = h.live t in (record { freed = k.0.freed; acked = k.0.acked; told = k.0.told; ended = k.0.ended; over = k.0.over; requested = k.0.requested; unopened = k.0.unopened }, k.1));
    idle = λ t. (let k = h.idle t in (k.0, (record { rising = k.1.0.rising; told = k.1.0.told; over = k.1.0.over; some = k.1.0.some }, k.1.1)));
  }

  settles_all : (e : End) → Keeps e (all_settled e)
  unfolding all_settled
  settles_all e = let z = (settle 6 e).local in then_keeps e (settle 6 e) connection_noted (settles 6 e) (λ on. (on, λ rs h. joined_local (is_begun z) (is_connected z) (facts z) rs h))

  pub takes : (ks : Kinds) (e : End) → Holds e (flags_got ks e)
  takes ks e = by (is_some e.shake.meet) refl where
    by : (b : Bool) → is_some e.shake.meet ≡ b → Holds e (cond b (and_then (just (with_taken ks e)) all_settled) (just e))
    by true on = (then_keeps e (just (with_taken ks e)) all_settled (calm_on e (just (with_taken ks e)) refl refl refl tt) (settles_all (with_taken ks e)) on).1
    by false on = calm e (just e) refl refl tt

  -- a flag is sent
  pub sent_begun : (k : Kind) → (k ≡ MsgRequest → ⊥) → (e : End) → is_begun (end_sent k e) ≡ true
  sent_begun MsgRequest n e = absurd (n refl)
  sent_begun OpenComplete n e = refl
  sent_begun OpenRequest n e = ap (λ (b : Bool). b || is_some e.shake.reason) (or_true e.shake.sent.open_complete)
  sent_begun OpenReply n e = ap (λ (b : Bool). (e.shake.sent.open_complete || b) || is_some e.shake.reason) (or_true e.shake.sent.open_request) ∙ ap (λ (b : Bool). b || is_some e.shake.reason) (or_true e.shake.sent.open_complete)
  sent_begun CloseRequest n e = ap (λ (b : Bool). (e.shake.sent.open_complete || (e.shake.sent.open_request || b)) || is_some e.shake.reason) (or_true e.shake.sent.open_reply) ∙ ap (λ (b : Bool). (e.shake.sent.open_complete || b) || is_some e.shake.reason) (or_true e.shake.sent.open_request) ∙ ap (λ (b : Bool). b || is_some e.shake.reason) (or_true e.shake.sent.open_complete)
  sent_begun CloseReply n e = ap (λ (b : Bool). (e.shake.sent.open_complete || (e.shake.sent.open_request || (e.shake.sent.open_reply || b))) || is_some e.shake.reason) (or_true e.shake.sent.close_request) ∙ ap (λ (b : Bool). (e.shake.sent.open_complete || (e.shake.sent.open_request || b)) || is_some e.shake.reason) (or_true e.shake.sent.open_reply) ∙ ap (λ (b : Bool). (e.shake.sent.open_complete || b) || is_some e.shake.reason) (or_true e.shake.sent.open_request) ∙ ap (λ (b : Bool). b || is_some e.shake.reason) (or_true e.shake.sent.open_complete)

  -- whatever else is sent, the open request was before, or a reason stands
  live_sent : (e : End) → is_begun e ≡ true → (rs : List Recorded) → Local (is_begun e) (facts e) rs → (facts e).requested ≡ true
  live_sent e b rs h = live_requested (facts e) rs (h.live b)

  sent_facts : (k : Kind) (e : End) → owed k e ≡ true → (k ≡ MsgRequest → ⊥) → (k ≡ OpenComplete → ⊥) → (rs : List Recorded) → Local (is_begun e) (facts e) rs → facts (end_sent k e) ≡ as_requested (facts e)
  sent_facts MsgRequest e o n m rs h = absurd (n refl)
  sent_facts OpenRequest e o n m rs h = ap (λ (b : Bool). record (facts e) { requested = b }) (or_true (is_some e.shake.reason))
  sent_facts OpenReply e o n m rs h = requested_facts e (ap (λ (x : Bool). is_some e.shake.reason || x) (owed_agreed e o).0 ∙ or_true (is_some e.shake.reason))
  sent_facts OpenComplete e o n m rs h = absurd (m refl)
  sent_facts CloseRequest e o n m rs h = requested_facts e (let a = and_parts (is_some e.shake.reason) _ o in ap (λ (x : Bool). x || e.shake.sent.open_request) a.0)
  sent_facts CloseReply e o n m rs h =
      let a = and_parts e.shake.sent.close_request _ o in
      requested_facts e (live_sent e (rw a.0 (ap (λ (b : Bool). (e.shake.sent.open_complete || (e.shake.sent.open_request || b)) || is_some e.shake.reason) (or_true e.shake.sent.open_reply) ∙ ap (λ (b : Bool). (e.shake.sent.open_complete || b) || is_some e.shake.reason) (or_true e.shake.sent.open_request) ∙ ap (λ (b : Bool). b || is_some e.shake.reason) (or_true e.shake.sent.open_complete))) rs h)

  sent_meet : (k : Kind) (e : End) → (end_sent k e).shake.meet ≡ e.shake.meet
  sent_meet OpenRequest e = refl
  sent_meet OpenReply e = refl
  sent_meet OpenComplete e = refl
  sent_meet CloseRequest e = refl
  sent_meet CloseReply e = refl
  sent_meet MsgRequest e = refl

  -- with the open complete the sending side is made anew, which is as it was
  sent_opened : (e : End) → owed OpenComplete e ≡ true → (rs : List Recorded) → Local (is_begun e) (facts e) rs → (zs : List Recorded) → Local true (as_requested (facts e)) zs → Local true (facts (end_sent OpenComplete e)) zs
  sent_opened e o rs h zs l =
      let a = and_parts (not (is_some e.shake.reason)) _ o in
      let b = and_parts e.shake.sent.open_reply _ a.1 in
      let d = and_parts e.shake.got.open_reply _ b.1 in
      let begun : is_begun e ≡ true = rw b.0 (ap (λ (x : Bool). (e.shake.sent.open_complete || x) || is_some e.shake.reason) (or_true e.shake.sent.open_request) ∙ ap (λ (x : Bool). x || is_some e.shake.reason) (or_true e.shake.sent.open_complete)) in
      let requested : (facts e).requested ≡ true = live_sent e begun rs h in
      subst (λ (b : Bool). Local true (record (facts e) { put = 0; known = 0; requested = b; opened = true }) zs) (sym requested) (opened_local (as_requested (facts e)) zs (unsent e.shake.sent.open_complete d.1) l)
    where
      unsent : (b : Bool) → not b ≡ true → b ≡ false
      unsent true t = absurd (cc)
      unsent false t = refl

  sent_local : (k : Kind) → (k ≡ MsgRequest → ⊥) → (e : End) → owed k e ≡ true → (rs : List Recorded) → Local (is_begun e) (facts e) rs → (zs : List Recorded) → Local true (as_requested (facts e)) zs → Local true (facts (end_sent k e)) zs
  sent_local OpenComplete n e o rs h zs l = sent_opened e o rs h zs l
  sent_local MsgRequest n e o rs h zs l = absurd (n refl)
  sent_local OpenRequest n e o rs h zs l = same_local true true (as_requested (facts e)) _ zs refl (sent_facts OpenRequest e o n (λ z. absurd (cc)) rs h) l
  sent_local OpenReply n e o rs h zs l = same_local true true (as_requested (facts e)) _ zs refl (sent_facts OpenReply e o n (λ z. absurd (cc)) rs h) l
  sent_local CloseRequest n e o rs h zs l = same_local true true (as_requested (facts e)) _ zs refl (sent_facts CloseRequest e o n (λ z. absurd (cc)) rs h) l
  sent_local CloseReply n e o rs h zs l = same_local true true (as_requested (facts e)) _ zs refl (sent_facts CloseReply e o n (λ z. absurd (cc)) rs h) l

  with_sents : (k : Kind) → (k ≡ MsgRequest → ⊥) → (e : End) → owed k e ≡ true → Keeps e (with_sent k e)
  with_sents k n e o on =
      let zs : List Recorded → List Recorded = λ rs. with_notes q c (opened_notes e) rs in
      (ap (λ (o : Option Contact). is_some o) (sent_meet k e) ∙ on, λ rs h. subst (λ (b : Bool). Local b (facts (end_sent k e)) (zs rs)) (sym (sent_begun k n e)) (sent_local k n e o rs h (zs rs) (begins e (λ t. on) rs h)))

  sends_control : (k : Kind) → (k ≡ MsgRequest → ⊥) → (e : End) → owed k e ≡ true → Keeps e (control_sent k e)
  sends_control k n e o =
      let f = and_then (with_sent k e) changed in
      then_keeps e f all_settled (then_keeps e (with_sent k e) changed (with_sents k n e o) (changes (end_sent k e))) (settles_all f.local)

  sends : (k : Kind) (e : End) → owed k e ≡ true → Keeps e (flag_sent k e)
  sends MsgRequest e o = calm_on e (flag_sent MsgRequest e) refl refl refl tt
  sends OpenRequest e o = sends_control OpenRequest (λ z. absurd (cc)) e o
  sends OpenReply e o = sends_control OpenReply (λ z. absurd (cc)) e o
  sends OpenComplete e o = sends_control OpenComplete (λ z. absurd (cc)) e o
  sends CloseRequest e o = sends_control CloseRequest (λ z. absurd (cc)) e o
  sends CloseReply e o = sends_control CloseReply (λ z. absurd (cc)) e o

  -- the steps of an end
  low_get : (s : Sending) (w : ℕ) → is_bad_get s w ≡ false → s.remote_get ≤ w
  low_get s w h = elim (cases_Bool (ltb w s.remote_get)) [
    | inl t ↦ let z : is_bad_get s w ≡ true = rw t refl in absurd (cc)
    | inr f ↦ grind (arith, nat_tests)
  ]

  hears_get : (e : End) (w : ℕ) → e.shake.sent.open_complete ≡ true → e.sides.send.remote_get ≤ w → (r : Recorded) → Live (facts e) r → Live (record (facts e) { known = w }) r
  hears_get e w o l r h = record { freed = h.freed; acked = h.acked; told = told_known r.asked r.delivered e.sides.pending_notices e.sides.send.remote_get w e.sides.send.put l h.told; ended = h.ended; over = h.over; requested = h.requested; unopened = λ t. absurd (cc) }

  opened_begun : (e : End) → e.shake.sent.open_complete ≡ true → is_begun e ≡ true
  opened_begun e o = rw o refl

  reads_get : (e : End) (w : ℕ) → e.shake.sent.open_complete ≡ true → Holds e (by_send e (ring_effect e.sides.send ReadGet w))
  reads_get e w o = by (is_bad_get e.sides.send w) refl where
    full : (z : Bool) → e.sides.send.remote_get ≤ w → Holds e (by_send e (cond z (record { local = send_over (with_remote_get w e.sides.send); reason = None; notes = Sent (NoSlot e.sides.send.put w) ∷ [] }) (record { local = with_remote_get w e.sides.send; reason = None; notes = [] })))
    full true l = lives e (by_send e (record { local = send_over (with_remote_get w e.sides.send); reason = None; notes = Sent (NoSlot e.sides.send.put w) ∷ [] })) (λ r. r) (opened_begun e o) (opened_begun e o) (λ r more. refl) (λ r h. hears_get e w o l r h)
    full false l = lives e (by_send e (record { local = with_remote_get w e.sides.send; reason = None; notes = [] })) (λ r. r) (opened_begun e o) (opened_begun e o) (λ r more. refl) (λ r h. hears_get e w o l r h)

    by : (z : Bool) → is_bad_get e.sides.send w ≡ z → Holds e (by_send e (cond z (record { local = e.sides.send; reason = Some (BadCounters w e.sides.send.put); notes = [] }) (get_loaded e.sides.send w)))
    by true t = calm e (by_send e (record { local = e.sides.send; reason = Some (BadCounters w e.sides.send.put); notes = [] })) refl refl tt
    by false t = full (is_full e.sides.send w) (low_get e.sides.send w t)

  accepts : (e : End) → e.shake.sent.open_complete ≡ true → Holds e (by_send e (ring_effect e.sides.send AcceptMessage 0))
  accepts e o = by (wants_notice e.sides.send.send) where
    to : Bool → Effect End (List Note)
    to asks = by_send e (record { local = record (send_over e.sides.send) { put = e.sides.send.put + 1 }; reason = None; notes = Accepted e.sides.send.put (payload_of e.sides.send.send) asks ∷ Sent (SendOk e.sides.send.put) ∷ [] })

    by : (asks : Bool) → Holds e (to asks)
    by true = lives e (to true) (accepted_in e.sides.send.put (payload_of e.sides.send.send) true) (opened_begun e o) (opened_begun e o) (λ r more. refl) (λ r h. record { freed = h.freed; acked = h.acked; told = told_asked r.asked r.delivered e.sides.pending_notices e.sides.send.remote_get e.sides.send.put h.told; ended = h.ended; over = h.over; requested = h.requested; unopened = λ t. absurd (cc) })
    by false = lives e (to false) (accepted_in e.sides.send.put (payload_of e.sides.send.send) false) (opened_begun e o) (opened_begun e o) (λ r more. refl) (λ r h. record { freed = h.freed; acked = h.acked; told = told_unasked r.asked r.delivered e.sides.pending_notices e.sides.send.remote_get e.sides.send.put h.told; ended = h.ended; over = h.over; requested = h.requested; unopened = λ t. absurd (cc) })

  reads_counters : (e : End) (x : Option ℕ) (w : ℕ) → e.shake.sent.open_complete ≡ true → Holds e (by_pull e (counters_pulled (sender_counters e.sides) x e.sides.pull w))
  reads_counters e None w o = by (is_bad_get e.sides.send w) refl where
    bad : Effect Pulling (List PullNote)
    bad = record { local = record e.sides.pull { owed = false }; reason = Some (BadCounters w e.sides.send.put); notes = [] }

    good : Effect Pulling (List PullNote)
    good = record { local = record e.sides.pull { counters = Some w; known = w; owed = false }; reason = None; notes = Heard w ∷ [] }

    by : (z : Bool) → is_bad_get e.sides.send w ≡ z → Holds e (by_pull e (cond z bad good))
    by true t = calm e (by_pull e bad) refl refl tt
    by false t = lives e (by_pull e good) (λ r. r) (opened_begun e o) (opened_begun e o) (λ r more. refl) (λ r h. hears_get e w o (low_get e.sides.send w t) r h)
  reads_counters e (Some get) w o = by (is_bad_put (sender_counters e.sides) e.sides.pull w) where
    bad : Effect Pulling (List PullNote)
    bad = record { local = record e.sides.pull { counters = None }; reason = Some (BadCounters get w); notes = [] }

    good : Effect Pulling (List PullNote)
    good = record { local = record e.sides.pull { counters = None; pulled_put = w; empty = shown_empty e.sides.pull w }; reason = None; notes = [] }

    by : (z : Bool) → Holds e (by_pull e (cond z bad good))
    by true = calm e (by_pull e bad) refl refl tt
    by false = calm e (by_pull e good) refl refl tt

  reads_entry : (e : End) (ws : List ℕ) → Holds e (by_pull e (entry_pulled ws e.sides.pull))
  reads_entry e ws = by (eqb (length ws) (words_each e.sides.pull * b)) (run_fault e.sides.pull.limit e.sides.pull.pulled b ws) where
    b : ℕ
    b = run_now e.sides.pull

    by : (z : Bool) (o : Option Reason) → Holds e (by_pull e (cond z (run_copied o b ws e.sides.pull) (record { local = record e.sides.pull { copied = ws; run = b }; reason = None; notes = [] })))
    by true None = calm e (by_pull e (run_copied None b ws e.sides.pull)) refl refl tt
    by true (Some r) = calm e (by_pull e (run_copied (Some r) b ws e.sides.pull)) refl refl tt
    by false o = calm e (by_pull e (record { local = record e.sides.pull { copied = ws; run = b }; reason = None; notes = [] })) refl refl tt

  acknowledges : (e : End) → is_begun e ≡ true → Holds e (acknowledged e)
  acknowledges e b = by e.sides.releasing where
    to : Bool → Effect End (List Note)
    to z = record { local = hears (release_notes z e.sides.ack.front) (record e { sides = record e.sides { local_get = e.sides.ack.front; releasing = false }; shake = record e.shake { owes_message = true } }); reason = None; notes = Acked e.sides.ack.front ∷ release_notes z e.sides.ack.front }

    new : (r : Recorded) → Live (facts e) r → Live (record (facts e) { get = e.sides.ack.front }) (has_acked e.sides.ack.front r)
    new r h = record { freed = h.freed; acked = refl; told = h.told; ended = h.ended; over = h.over; requested = h.requested; unopened = h.unopened }

    by : (z : Bool) → Holds e (to z)
    by true = lives e (to true) (has_acked e.sides.ack.front) b b (λ r more. refl) new
    by false = lives e (to false) (has_acked e.sides.ack.front) b b (λ r more. refl) new

  read_same : (x : Argument) (place w : ℕ) (e : End) → Keeps e (just (with_argument x place w e))
  read_same Request place w e = calm_on e (just (with_argument Request place w e)) refl refl refl tt
  read_same Reply place w e = calm_on e (just (with_argument Reply place w e)) refl refl refl tt
  read_same Code place w e = calm_on e (just (with_argument Code place w e)) refl refl refl tt

  stored_same : (x : Argument) (e : End) → Holds e (just (argument_stored x e))
  stored_same Request e = calm e (just (argument_stored Request e)) refl refl tt
  stored_same Reply e = calm e (just (argument_stored Reply e)) refl refl tt
  stored_same Code e = calm e (just (argument_stored Code e)) refl refl tt

  failed_same : (kind : CopyKind) (e : End) → facts (copy_failed kind e) ≡ facts e
  failed_same kind e = refl

  begun_connected : (e : End) → link_of e ≡ Connected → is_begun e ≡ true
  begun_connected e h = (open_connected no_area no_area e h).begun

  opened_connected : (e : End) → link_of e ≡ Connected → e.shake.sent.open_complete ≡ true
  opened_connected e h = (open_connected no_area no_area e h).opened

  opened_copy : (e : End) → may_copy e ≡ true → e.shake.sent.open_complete ≡ true
  opened_copy e h = (open_copy no_area no_area e h).opened

  pub link_holds : (place : ℕ) (e : End) (m : LinkRule) (w : ℕ) → link_can e m → Holds e (link_effect place e m w)
  link_holds place e (Ring ReadGet) w can = reads_get e w (opened_connected e can.0)
  link_holds place e (Ring (WriteEntryWord f)) w can = calm e (by_send e (ring_effect e.sides.send (WriteEntryWord f) w)) refl refl tt
  link_holds place e (Ring AcceptMessage) w can = accepts e (opened_connected e can.0)
  link_holds place e (Pull ReadCounters) w can = reads_counters e e.sides.pull.counters w (opened_copy e can.0)
  link_holds place e (Pull ReadEntry) w can = reads_entry e (e.sides.pull.copied ++ w ∷ [])
  link_holds place e Acknowledge w can = acknowledges e (begun_connected e can.0)
  link_holds place e (SetFlag k) w can = (sends k e can.1 can.0).1
  link_holds place e ZeroGet w can = calm e (link_effect place e ZeroGet w) refl refl tt
  link_holds place e ZeroPut w can = calm e (link_effect place e ZeroPut w) refl refl tt
  link_holds place e (StoreArgument x) w can = stored_same x e
  link_holds place e (ReadArgument x) w can = (then_keeps e (just (with_argument x place w e)) all_settled (read_same x place w e) (settles_all (with_argument x place w e)) can.0).1

  failed_holds : (o : Option CopyMark) (e : End) (reason : Option Reason) → Holds e (record { local = end_failed o e; reason = reason; notes = [] })
  failed_holds None e reason = calm e (record { local = e; reason = reason; notes = [] }) refl refl tt
  failed_holds (Some mark) e reason = calm e (record { local = copy_failed mark.kind e; reason = reason; notes = [] }) refl refl tt

  pub linked : (mark : Option CopyMark) (place : ℕ) (e : End) (m : LinkRule) (a : Answer) → link_can e m → Holds e (link_answered mark place e m a)
  linked mark place e m (Word w) can = link_holds place e m w can
  linked mark place e m Failed can = failed_holds mark e (copy_error mark)

  -- the partner goes down, or has left; a contact is made; a boot begins
  pub goes_down : (reason : Reason) (e : End) → Holds e (link_down reason e)
  goes_down reason e = then_holds e (link_closed reason e) (λ x. just (parted x)) (by (is_begun e) refl) (calm (link_closed reason e).local (just (parted (link_closed reason e).local)) refl refl tt) where
    by : (z : Bool) → is_begun e ≡ z → Holds e (cond z (close_now e.shake.reason reason e) (just e))
    by true t = closes_now e.shake.reason reason e t
    by false t = calm e (just e) refl refl tt

  pub finishes : (e : End) → Holds e (link_finished e)
  finishes e = fresh_idle e (link_finished e) refl (idle_new _ refl refl refl refl refl) refl

  pub joins : (new : Bool) (m : Contact) (e : End) → Holds e (link_joined new m e)
  joins new m e rs h = idle_local _ rs (idle_new _ refl refl refl refl refl) (all_done (is_begun e) (facts e) rs h)

  pub boots : (e : End) → Holds e (just (booted_end e))
  boots e rs h = idle_local _ rs (idle_new _ refl refl refl refl refl) (all_done (is_begun e) (facts e) rs h)

  -- commands
  said : (e e' : End) (ns : List Note) → AreSilent ns → is_begun e' ≡ is_begun e → facts e' ≡ facts e → Holds e (say ns e')
  said e e' ns s b v = calm e (say ns e') (silent_hears is_begun (λ z d. refl) ns e' s ∙ b) (silent_hears facts (λ z d. refl) ns e' s ∙ v) s

  sends_begun : (o : Option SendAnswer) (e : End) (payload : List ℕ) (wait notify : Bool) → Holds e (send_begun o payload wait notify e)
  sends_begun None e payload wait notify = calm e (send_begun None payload wait notify e) refl refl tt
  sends_begun (Some a) e payload wait notify = said e e (BySend (Sent a) ∷ []) (tt, tt) refl refl

  takes_begun : (o : Option TakeRefusal) (e : End) (wait : Bool) → Holds e (take_begun o wait e)
  takes_begun None e wait = calm e (take_begun None wait e) refl refl tt
  takes_begun (Some a) e wait = said e e (ByPull (TakeRefused a) ∷ []) (tt, tt) refl refl

  drains_begun : (o : Option DrainAnswer) (e : End) → Holds e (drain_begun o e)
  drains_begun None e = calm e (drain_begun None e) refl refl tt
  drains_begun (Some a) e = said e e (Drained a ∷ []) (tt, tt) refl refl

  releases_begun : (number : ℕ) (e : End) → Holds e (release_begun (release_refusal (link_of e) number e.sides.ack) number e)
  releases_begun number e = by (release_refusal (link_of e) number e.sides.ack) refl where
    new : Releasing
    new = message_released number e.sides.ack

    to : Bool → Effect End (List Note)
    to stays = say (release_held stays number new) (record e { sides = record e.sides { ack = new; releasing = not stays } })

    live : is_held number e.sides.ack ≡ true → (r : Recorded) → Live (facts e) r → Live (record (facts e) { ack = new }) (has_released number r)
    live held r h = record { freed = freed_released r.released number e.sides.ack held h.freed; acked = h.acked; told = h.told; ended = h.ended; over = h.over; requested = h.requested; unopened = h.unopened }

    held_by : is_begun e ≡ true → is_held number e.sides.ack ≡ true → (stays : Bool) → Holds e (to stays)
    held_by b held true = lives e (to true) (has_released number) b b (λ r more. refl) (live held)
    held_by b held false = lives e (to false) (has_released number) b b (λ r more. refl) (live held)

    by : (o : Option ReleaseAnswer) → release_refusal (link_of e) number e.sides.ack ≡ o → Holds e (release_begun o number e)
    by None t = let k = unrefused_held (link_of e) number e.sides.ack t in held_by (begun_connected e k.0) k.1 (eqb e.sides.ack.front new.front)
    by (Some a) t = said e e (Released a ∷ []) (tt, tt) refl refl

  registers_begun : (o : Option Size) (z : Size) (e : End) → Holds e (register_begun o z e)
  registers_begun None z e = said e (record e { registration = Some z }) (Registered RegisterOk ∷ []) (tt, tt) refl refl
  registers_begun (Some first) z e = said e e (Registered Already ∷ []) (tt, tt) refl refl

  withdraws : (e : End) → Holds e (withdrawn e)
  withdraws e = by (e.shake.sent.open_request && not (is_some e.shake.reason)) refl where
    by : (z : Bool) → (e.shake.sent.open_request && not (is_some e.shake.reason)) ≡ z → Holds e (cond z (channel_closed Unregistered e) (just e))
    by true t =
        let a = and_parts e.shake.sent.open_request (not (is_some e.shake.reason)) t in
        let b : is_begun e ≡ true = rw a.0 (ap (λ (x : Bool). x || is_some e.shake.reason) (or_true e.shake.sent.open_complete)) in
        closes Unregistered e (λ f. absurd (cc))
    by false t = calm e (just e) refl refl tt

  unregisters_begun : (o : Option Size) (e : End) → Holds e (unregister_begun o e)
  unregisters_begun None e = said e e (Withdrawn NotRegistered ∷ []) (tt, tt) refl refl
  unregisters_begun (Some z) e =
      let f = say (Withdrawn UnregisterOk ∷ []) (record e { registration = None }) in
      then_holds e f withdrawn (said e (record e { registration = None }) (Withdrawn UnregisterOk ∷ []) (tt, tt) refl refl) (withdraws f.local)

  pub begins_by : (e : End) (x : Command) → Holds e (end_begun e x)
  begins_by e (Send q' c' payload wait notify) = sends_begun (refused_send e payload) e payload wait notify
  begins_by e (Take q' c' wait) = takes_begun (take_refusal (link_of e)) e wait
  begins_by e (Release q' c' number) = releases_begun number e
  begins_by e (Drain q' c') = drains_begun (drain_refusal (link_of e)) e
  begins_by e (Register q' c' entries limit) = registers_begun e.registration (record { entries = entries; limit = limit }) e
  begins_by e (Unregister q' c') = unregisters_begun e.registration e
  begins_by e (commands.Connected k d) = calm e (just e) refl refl tt
  begins_by e (commands.Closed k d) = calm e (end_begun e (commands.Closed k d)) refl refl tt
  begins_by e (commands.Net frame) = calm e (just e) refl refl tt
  begins_by e (commands.Frames count) = calm e (just e) refl refl tt
  begins_by e (commands.Deactivate k) = calm e (just e) refl refl tt
  begins_by e (commands.Activate k) = calm e (just e) refl refl tt
  begins_by e commands.Leave = calm e (just e) refl refl tt
  begins_by e (commands.Idle turns) = calm e (just e) refl refl tt
  begins_by e commands.Offline = calm e (just e) refl refl tt
  begins_by e commands.Online = calm e (just e) refl refl tt

  takes_answered : (e : End) → Holds e (taken_by (take_found e) e)
  takes_answered e = by (is_connected e) refl (take_due e.sides.pull) where
    taken : is_begun e ≡ true → (o : Option TakeAnswer) → Holds e (taken_by o e)
    taken b (Some (TakenAnswer number body)) = lives e (taken_by (Some (TakenAnswer number body)) e) (has_taken body) b b (λ r more. refl) (λ r h. record { freed = freed_held r.released e.sides.ack h.freed; acked = h.acked; told = h.told; ended = h.ended; over = h.over; requested = h.requested; unopened = h.unopened })
    taken b (Some (Empty put)) = calm e (taken_by (Some (Empty put)) e) refl refl tt
    taken b (Some a) = calm e (just e) refl refl tt
    taken b None = calm e (just e) refl refl tt

    by : (z : Bool) → is_connected e ≡ z → (o : Option TakeAnswer) → Holds e (taken_by (cond z o None) e)
    by true t o = taken (begun_connected e (connected e t)) o
    by false t o = calm e (just e) refl refl tt

  take_holds : (o : Option TakeRefusal) (e : End) → Holds e (take_answered o e)
  take_holds None e = takes_answered e
  take_holds (Some a) e = calm e (take_answered (Some a) e) refl refl tt

  pub answers_by : (e : End) (x : Command) → Holds e (end_answered e x)
  answers_by e (Send q' c' payload wait notify) = calm e (end_answered e (Send q' c' payload wait notify)) refl refl tt
  answers_by e (Take q' c' wait) = take_holds e.decided.take e
  answers_by e (Release q' c' number) = calm e (end_answered e (Release q' c' number)) refl refl tt
  answers_by e (Drain q' c') = calm e (end_answered e (Drain q' c')) refl refl tt
  answers_by e (Register q' c' entries limit) = calm e (end_answered e (Register q' c' entries limit)) refl refl tt
  answers_by e (Unregister q' c') = calm e (end_answered e (Unregister q' c')) refl refl tt
  answers_by e (commands.Connected k d) = calm e (just e) refl refl tt
  answers_by e (commands.Closed k d) = calm e (just e) refl refl tt
  answers_by e (commands.Net frame) = calm e (just e) refl refl tt
  answers_by e (commands.Frames count) = calm e (just e) refl refl tt
  answers_by e (commands.Deactivate k) = calm e (just e) refl refl tt
  answers_by e (commands.Activate k) = calm e (just e) refl refl tt
  answers_by e commands.Leave = calm e (just e) refl refl tt
  answers_by e (commands.Idle turns) = calm e (just e) refl refl tt
  answers_by e commands.Offline = calm e (just e) refl refl tt
  answers_by e commands.Online = calm e (just e) refl refl tt

  -- notices
  below_is : (get : ℕ) (ns : List ℕ) (number : ℕ) → below get ns ≡ Some number → (more : List ℕ) × (ns ≡ number ∷ more) × (number < get)
  below_is get [] number h = absurd (cc)
  below_is get (n ∷ more) number h = by (ltb n get) refl h where
    by : (z : Bool) → ltb n get ≡ z → cond z (Some n) None ≡ Some number → (rest : List ℕ) × (n ∷ more ≡ number ∷ rest) × (number < get)
    by true t g = let s : n ≡ number = cc in (more, ap (λ (x : ℕ). x ∷ more) s, subst (λ (x : ℕ). x < get) s (ltb-true n get t))
    by false t g = absurd (cc)

  pub notices_by : (e : End) (how : NoticeKind) (number : ℕ) → notice_due how e ≡ Some number → Holds e (end_noticed how number e)
  notices_by e Ended number h = calm e (end_noticed Ended number e) refl refl tt
  notices_by e Delivered number h = λ rs l. by (is_begun e) refl rs l where
    k : (more : List ℕ) × (e.sides.pending_notices ≡ number ∷ more) × (number < e.sides.send.remote_get)
    k = below_is e.sides.send.remote_get e.sides.pending_notices number h

    new : (r : Recorded) → Live (facts e) r → Live (record (facts e) { pending = without_first e.sides.pending_notices }) (has_delivered number r)
    new r h = record {
      freed = h.freed;
      acked = h.acked;
      told = subst (λ (ns : List ℕ). Told r.asked (r.delivered ++ number ∷ []) (without_first ns) e.sides.send.remote_get e.sides.send.put) (sym k.1) (told_one r.asked r.delivered number k.0 e.sides.send.remote_get e.sides.send.put k.2 (subst (λ (ns : List ℕ). Told r.asked r.delivered ns e.sides.send.remote_get e.sides.send.put) k.1 h.told));
      ended = h.ended;
      over = h.over;
      requested = h.requested;
      unopened = h.unopened;
    }

    by : (b : Bool) → is_begun e ≡ b → (rs : List Recorded) → Local (is_begun e) (facts e) rs → (let f = end_noticed Delivered number e in Local (is_begun f.local) (facts f.local) (with_notes q c f.notes rs))
    by true t rs l = lives e (end_noticed Delivered number e) (has_delivered number) t t (λ r more. refl) new rs l
    by false t rs l = let z : [] ≡ number ∷ k.0 = sym (l.idle t).0.pending ∙ k.1 in absurd (cc)
