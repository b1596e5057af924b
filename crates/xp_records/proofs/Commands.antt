-- What commands and notices leave of an end's contact, and which of its changes begin a record.
use Rattle.std.proofs.Common.{◌≡◌, ℕ, Bool, true, false, ◌&&◌, ◌||◌, not, cond, eqb, List, [], ◌∷◌, ◌++◌, refl, ap, Option, Some, None}
use Rattle.std.specs.Prelude.{is_some}
use Rattle.std.proofs.lemmas.Bool.{and_parts}
use Rattle.xp_base.specs.declared.reason.Reason.{Reason}
use Rattle.xp_base.specs.declared.reason.Reason.TheVariants.{Unregistered}
use Rattle.xp_base.specs.declared.answer.SendAnswer.{SendAnswer}
use Rattle.xp_base.specs.declared.answer.ReleaseAnswer.{ReleaseAnswer}
use Rattle.xp_base.specs.declared.answer.DrainAnswer.{DrainAnswer}
use Rattle.xp_base.specs.declared.answer.TakeAnswer.{TakeAnswer}
use Rattle.xp_base.specs.declared.answer.TakeAnswer.TheVariants.{Taken as TakenAnswer, Empty}
use Rattle.xp_base.specs.declared.answer.UnregisterAnswer.TheVariants.{Ok as UnregisterOk}
use Rattle.xp_base.specs.History.{NoticeKind, Delivered, Ended}
use Rattle.xp_script.specs.declared.command.Command.{Command}
use Rattle.xp_script.specs.declared.command.Command.TheVariants.{Send, Take, Release, Drain, Register, Unregister}
use Rattle.xp_script.specs.declared.command.Command.TheVariants as commands
use Rattle.xp_protocol.specs.declared.refusal.TakeRefusal.{TakeRefusal}
use Rattle.xp_protocol.specs.Effects.{Effect, just, and_then, Sent, TakeRefused, Note, BySend, ByPull, Began, Released, Drained, Registered, Withdrawn}
use Rattle.xp_protocol.specs.Releasing.{message_released, release_refusal}
use Rattle.xp_protocol.specs.Pulling.{take_refusal}
use Rattle.xp_protocol.specs.State.{End, Size, is_begun, link_of}
use Rattle.xp_protocol.specs.Linking.{down_notes, close_now, link_down, parted, opened_notes, channel_closed}
use Rattle.xp_protocol.specs.Acts.{end_begun, end_answered, end_noticed, send_begun, take_begun, release_begun, release_held, drain_begun, drain_refusal, register_begun, unregister_begun, refused_send, taken_by, take_found, take_answered, say}
use Rattle.xp_promises.proofs.Steps.{AreSilent}
use Rattle.xp_promises.proofs.Shakes.{down_silent}
use Rattle.xp_records.proofs.Cascades.{down_clear}

-- whether a record is begun
abbrev pub begins_by : Note → Bool
begins_by (Began epoch own theirs) = true
begins_by x = false

abbrev pub begins_in : List Note → Bool
begins_in [] = false
begins_in (x ∷ xs) = begins_by x || begins_in xs

pub begins_more : (xs ys : List Note) → begins_in xs ≡ false → begins_in ys ≡ false → begins_in (xs ++ ys) ≡ false
begins_more [] ys a b = b
begins_more (x ∷ xs) ys a b = let k = or_parts (begins_by x) (begins_in xs) a in rw (k.0, begins_more xs ys k.1 b) refl where
  or_parts : (x y : Bool) → (x || y) ≡ false → (x ≡ false) × (y ≡ false)
  or_parts false y h = (refl, h)
  or_parts true y h = absurd (cc)

pub silent_begins : (xs : List Note) → AreSilent xs → begins_in xs ≡ false
silent_begins [] h = refl
silent_begins (BySend (Sent a) ∷ xs) h = silent_begins xs h.1
silent_begins (ByPull (TakeRefused a) ∷ xs) h = silent_begins xs h.1
silent_begins (Released a ∷ xs) h = silent_begins xs h.1
silent_begins (Drained a ∷ xs) h = silent_begins xs h.1
silent_begins (Registered a ∷ xs) h = silent_begins xs h.1
silent_begins (Withdrawn a ∷ xs) h = silent_begins xs h.1
silent_begins (x ∷ xs) h = absurd h.0

-- an end that is out of contact and begun was begun, knows the same get, and begins no record
abbrev pub Off : End → End → List Note → Type 0
Off e x ns = x.shake.meet ≡ None → is_begun x ≡ true → (is_begun e ≡ true) × (x.sides.send.remote_get ≡ e.sides.send.remote_get) × (begins_in ns ≡ false)

-- what a command leaves of an end's contact: an end that isn't begun stays so
abbrev pub Still : End → Effect End (List Note) → Type 0
Still e f = (f.local.shake.meet ≡ e.shake.meet) × (is_begun e ≡ false → is_begun f.local ≡ false) × (f.local.sides.send.remote_get ≡ e.sides.send.remote_get) × (is_begun e ≡ true → begins_in f.notes ≡ false)

pub still_off : (e : End) (f : Effect End (List Note)) → Still e f → Off e f.local f.notes
still_off e f s m b = by (is_begun e) refl where
  by : (z : Bool) → is_begun e ≡ z → (is_begun e ≡ true) × (f.local.sides.send.remote_get ≡ e.sides.send.remote_get) × (begins_in f.notes ≡ false)
  by true t = (t, s.2, s.3 t)
  by false t = let x = s.1 t in absurd (cc)

pub sends_still : (o : Option SendAnswer) (e : End) (payload : List ℕ) (wait notify : Bool) → Still e (send_begun o payload wait notify e)
sends_still None e payload wait notify = (refl, λ z. z, refl, λ z. refl)
sends_still (Some a) e payload wait notify = (refl, λ z. z, refl, λ z. refl)

takes_still : (o : Option TakeRefusal) (e : End) (wait : Bool) → Still e (take_begun o wait e)
takes_still None e wait = (refl, λ z. z, refl, λ z. refl)
takes_still (Some a) e wait = (refl, λ z. z, refl, λ z. refl)

releases_still : (o : Option ReleaseAnswer) (number : ℕ) (e : End) → Still e (release_begun o number e)
releases_still (Some a) number e = (refl, λ z. z, refl, λ z. refl)
releases_still None number e = by (eqb e.sides.ack.front (message_released number e.sides.ack).front) where
  by : (stays : Bool) → Still e (say (release_held stays number (message_released number e.sides.ack)) (record e { sides = record e.sides { ack = message_released number e.sides.ack; releasing = not stays } }))
  by true = (refl, λ z. z, refl, λ z. refl)
  by false = (refl, λ z. z, refl, λ z. refl)

drains_still : (o : Option DrainAnswer) (e : End) → Still e (drain_begun o e)
drains_still None e = (refl, λ z. z, refl, λ z. refl)
drains_still (Some a) e = (refl, λ z. z, refl, λ z. refl)

registers_still : (o : Option Size) (z : Size) (e : End) → Still e (register_begun o z e)
registers_still None z e = (refl, λ y. y, refl, λ z. refl)
registers_still (Some first) z e = (refl, λ y. y, refl, λ z. refl)

closed_meet : (o : Option Reason) (reason : Reason) (e : End) → (close_now o reason e).local.shake.meet ≡ e.shake.meet
closed_meet (Some r) reason e = refl
closed_meet None reason e = ap (λ (z : End). z.shake.meet) (down_clear reason e)

closed_get : (o : Option Reason) (reason : Reason) (e : End) → (close_now o reason e).local.sides.send.remote_get ≡ e.sides.send.remote_get
closed_get (Some r) reason e = refl
closed_get None reason e = ap (λ (z : End). z.sides.send.remote_get) (down_clear reason e)

closed_begins : (o : Option Reason) (reason : Reason) (e : End) → begins_in (close_now o reason e).notes ≡ false
closed_begins (Some r) reason e = refl
closed_begins None reason e = silent_begins (down_notes reason e) (down_silent reason e)

-- the partner goes down
pub down_off : (reason : Reason) (e : End) → Off e (link_down reason e).local (link_down reason e).notes
down_off reason e = by (is_begun e) refl where
  last : End → Effect End (List Note)
  last x = just (parted x)

  by : (b : Bool) → is_begun e ≡ b → (let f = and_then (cond b (close_now e.shake.reason reason e) (just e)) last in Off e f.local f.notes)
  by true t m z = (t, closed_get e.shake.reason reason e, begins_more (close_now e.shake.reason reason e).notes [] (closed_begins e.shake.reason reason e) refl)
  by false t m z = absurd (cc)

asked_begun : (e : End) → e.shake.sent.open_request ≡ true → is_begun e ≡ false → ⊥
asked_begun e t f = by e.shake.sent.open_complete t f where
  by : (a : Bool) → e.shake.sent.open_request ≡ true → ((a || (e.shake.sent.open_request || (e.shake.sent.open_reply || (e.shake.sent.close_request || e.shake.sent.close_reply)))) || is_some e.shake.reason) ≡ false → ⊥
  by true t f = absurd (cc)
  by false t f = let z : ((e.shake.sent.open_request || (e.shake.sent.open_reply || (e.shake.sent.close_request || e.shake.sent.close_reply))) || is_some e.shake.reason) ≡ true = rw t refl in absurd (cc)

unregisters_still : (o : Option Size) (e : End) → Still e (unregister_begun o e)
unregisters_still None e = (refl, λ z. z, refl, λ z. refl)
unregisters_still (Some z) e = by (e.shake.sent.open_request && not (is_some e.shake.reason)) refl where
  first : Effect End (List Note)
  first = say (Withdrawn UnregisterOk ∷ []) (record e { registration = None })

  by : (b : Bool) → (e.shake.sent.open_request && not (is_some e.shake.reason)) ≡ b → Still e (and_then first (λ x. cond b (channel_closed Unregistered x) (just x)))
  by true t = (closed_meet e.shake.reason Unregistered first.local, λ f. absurd (asked_begun e (and_parts e.shake.sent.open_request _ t).0 f), closed_get e.shake.reason Unregistered first.local, λ z. begins_more (opened_notes first.local) (close_now e.shake.reason Unregistered first.local).notes (rw z refl) (closed_begins e.shake.reason Unregistered first.local))
  by false t = (refl, λ y. y, refl, λ z. refl)

pub begun_still : (e : End) (x : Command) → Still e (end_begun e x)
begun_still e (Send k d payload wait notify) = sends_still (refused_send e payload) e payload wait notify
begun_still e (Take k d wait) = takes_still (take_refusal (link_of e)) e wait
begun_still e (Release k d number) = releases_still (release_refusal (link_of e) number e.sides.ack) number e
begun_still e (Drain k d) = drains_still (drain_refusal (link_of e)) e
begun_still e (Register k d entries limit) = registers_still e.registration (record { entries = entries; limit = limit }) e
begun_still e (Unregister k d) = unregisters_still e.registration e
begun_still e (commands.Connected k d) = (refl, λ z. z, refl, λ z. refl)
begun_still e (commands.Closed k d) = (refl, λ z. z, refl, λ z. refl)
begun_still e (commands.Net frame) = (refl, λ z. z, refl, λ z. refl)
begun_still e (commands.Frames count) = (refl, λ z. z, refl, λ z. refl)
begun_still e (commands.Deactivate k) = (refl, λ z. z, refl, λ z. refl)
begun_still e (commands.Activate k) = (refl, λ z. z, refl, λ z. refl)
begun_still e commands.Leave = (refl, λ z. z, refl, λ z. refl)
begun_still e (commands.Idle turns) = (refl, λ z. z, refl, λ z. refl)
begun_still e commands.Offline = (refl, λ z. z, refl, λ z. refl)
begun_still e commands.Online = (refl, λ z. z, refl, λ z. refl)

taken_still : (o : Option TakeAnswer) (e : End) → Still e (taken_by o e)
taken_still (Some (TakenAnswer number body)) e = (refl, λ z. z, refl, λ z. refl)
taken_still (Some (Empty put)) e = (refl, λ z. z, refl, λ z. refl)
taken_still (Some a) e = (refl, λ z. z, refl, λ z. refl)
taken_still None e = (refl, λ z. z, refl, λ z. refl)

take_still : (o : Option TakeRefusal) (e : End) → Still e (take_answered o e)
take_still None e = taken_still (take_found e) e
take_still (Some a) e = (refl, λ z. z, refl, λ z. refl)

pub answered_still : (e : End) (x : Command) → Still e (end_answered e x)
answered_still e (Send k d payload wait notify) = (refl, λ z. z, refl, λ z. refl)
answered_still e (Take k d wait) = take_still e.decided.take e
answered_still e (Release k d number) = (refl, λ z. z, refl, λ z. refl)
answered_still e (Drain k d) = (refl, λ z. z, refl, λ z. refl)
answered_still e (Register k d entries limit) = (refl, λ z. z, refl, λ z. refl)
answered_still e (Unregister k d) = (refl, λ z. z, refl, λ z. refl)
answered_still e (commands.Connected k d) = (refl, λ z. z, refl, λ z. refl)
answered_still e (commands.Closed k d) = (refl, λ z. z, refl, λ z. refl)
answered_still e (commands.Net frame) = (refl, λ z. z, refl, λ z. refl)
answered_still e (commands.Frames count) = (refl, λ z. z, refl, λ z. refl)
answered_still e (commands.Deactivate k) = (refl, λ z. z, refl, λ z. refl)
answered_still e (commands.Activate k) = (refl, λ z. z, refl, λ z. refl)
answered_still e commands.Leave = (refl, λ z. z, refl, λ z. refl)
answered_still e (commands.Idle turns) = (refl, λ z. z, refl, λ z. refl)
answered_still e commands.Offline = (refl, λ z. z, refl, λ z. refl)
answered_still e commands.Online = (refl, λ z. z, refl, λ z. refl)

pub noticed_still : (how : NoticeKind) (number : ℕ) (e : End) → Still e (end_noticed how number e)
noticed_still Ended number e = (refl, λ z. z, refl, λ z. refl)
noticed_still Delivered number e = (refl, λ z. z, refl, λ z. refl)
