-- What becomes of an end, by a step, an act or a cascade, keeps its line.
use Rattle.std.proofs.Common.{◌≡◌, ℕ, ◌+◌, ◌-◌, ◌*◌, ◌^◌, ◌<◌, ◌≤◌, Bool, true, false, not, ◌&&◌, cond, eqb, ltb, List, [], ◌∷◌, ◌++◌, length, refl, ap, sym, ◌∙◌, subst, arith, Option, Some, None, inl, inr, ◌⊎◌}
use Rattle.std.specs.Prelude.{is_some}
use Rattle.std.proofs.lemmas.Bool.{and_parts, eqb-true}
use Rattle.std.proofs.lemmas.Bool.Decides.{nat_tests}
use Rattle.xp_base.specs.declared.answer.SendAnswer.{SendAnswer}
use Rattle.xp_base.specs.declared.answer.SendAnswer.TheVariants.{NoSlot, TooBig}
use Rattle.xp_base.specs.declared.answer.TakeAnswer.{TakeAnswer}
use Rattle.xp_protocol.specs.declared.refusal.TakeRefusal.{TakeRefusal}
use Rattle.xp_base.specs.declared.answer.TakeAnswer.TheVariants.{Taken as TakenAnswer, Empty}
use Rattle.xp_base.specs.declared.answer.ReleaseAnswer.{ReleaseAnswer}
use Rattle.xp_base.specs.declared.answer.DrainAnswer.{DrainAnswer}
use Rattle.xp_base.specs.declared.link.LinkState.{LinkState}
use Rattle.xp_base.specs.declared.link.LinkState.TheVariants.{Idle, Opening, Connected, Closing}
use Rattle.xp_base.specs.declared.reason.Reason.{Reason}
use Rattle.xp_base.specs.declared.reason.Reason.TheVariants.{BadCounters}
use Rattle.xp_base.specs.declared.step.CopyKind.{CopyKind}
use Rattle.xp_base.specs.declared.step.CopyKind.TheVariants.{Counters, Entries}
use Rattle.xp_base.specs.declared.step.CopyMark.{CopyMark}
use Rattle.xp_base.specs.Entries.{message_word}
use Rattle.xp_base.specs.Kinds.{both}
use Rattle.xp_base.specs.History.{NoticeKind, Delivered, Ended}
use Rattle.xp_script.specs.declared.command.Command.{Command}
use Rattle.xp_script.specs.declared.command.Command.TheVariants.{Send as SendCommand, Take, Release, Drain, Register, Unregister}
use Rattle.xp_script.specs.declared.command.Command.TheVariants as commands
use Rattle.xp_protocol.specs.declared.rule.RingRule.TheVariants.{ReadGet, WriteEntryWord, AcceptMessage}
use Rattle.xp_script.specs.Lawful.{AreBytes}
use Rattle.xp_protocol.specs.Records.{Recorded, has_taken, has_acked, has_released}
use Rattle.xp_protocol.specs.Effects.{Effect, just, SendNote, PullNote, Note, BySend, ByPull, Acked, Heard, Sent, TakeRefused, Released, Drained, Registered, Withdrawn, with_note, with_notes, accepted_in}
use Rattle.xp_protocol.specs.Sending.{Sending, payload_of, is_full, with_remote_get, send_over, get_loaded, ring_effect, wants_notice, link_refusal, words_each, next_slot}
use Rattle.xp_protocol.specs.Pulling.{Pulling, shown_empty, counters_pulled, entry_pulled, owed_after, take_due, found_by, cache_taken, take_refusal, run_fault, run_now, run_copied, words_each as pull_words, first_slot}
use Rattle.xp_protocol.specs.Releasing.{message_held, message_released, release_refusal}
use Rattle.xp_protocol.specs.State.{End, Decided, state_by, both_complete, link_of, may_copy, is_connected, is_begun}
use Rattle.xp_protocol.specs.Linking.{hear, hears, sender_counters, by_send, by_pull, release_notes, acknowledged, copy_failed}
use Rattle.xp_protocol.specs.Rules.{end_failed}
use Rattle.xp_protocol.specs.Acts.{say, too_long, first_of, refused_send, send_begun, take_begun, release_begun, release_held, drain_begun, taken_by, take_answered, end_answered, below, end_noticed, limit_by, limit_of}
use Rattle.xp_base.specs.declared.session.Session.{Session}
use Rattle.xp_protocol.specs.Promised.{IsUnrefused, Name, name_of}
use Rattle.xp_promises.proofs.Direction.{Kept, Sized, write_entry, get_good, get_heard, send_ended, send_started, word_written, message_accepted, put_good, put_heard, counters_set, take_set, copy_ended, get_stored, one_released, one_taken, run_is_good, entry_read}
use Rattle.xp_promises.proofs.FlagEnds.{End as Control}
use Rattle.xp_promises.proofs.FlagKept.{Sound}
use Rattle.xp_promises.proofs.FlagUse.{Copying, copying, unclosed}
use Rattle.xp_promises.proofs.Arguments.{Argued, copies_terms}
use Rattle.xp_protocol.specs.Pulling.{is_copying}
use Rattle.xp_promises.proofs.Books.{core, at, named, names, Grown, grown_none, HasFirst, ArePlain, name_other}
use Rattle.xp_promises.proofs.Ways.{InSide, out_of, in_of}
use Rattle.xp_promises.proofs.Rests.{Data, parts, in_side, out_size, in_size, Sizes, sizes, sent_kept, got_kept, sends_now, gets_now, went_on}
use Rattle.xp_promises.proofs.Lines.{Area, five, control, terms, View, view, Line, Step, Went, Lives, calm_contact, quiet}

-- notes that are no record's: answers that are decided
abbrev pub Silent : Note → Type 0
Silent (BySend (Sent a)) = Unit {0}
Silent (ByPull (TakeRefused a)) = Unit {0}
Silent (Released a) = Unit {0}
Silent (Drained a) = Unit {0}
Silent (Registered a) = Unit {0}
Silent (Withdrawn a) = Unit {0}
Silent note = ⊥

abbrev pub AreSilent : List Note → Type 0
AreSilent [] = Unit {0}
AreSilent (x ∷ xs) = Silent x × AreSilent xs

pub silent_both : (xs ys : List Note) → AreSilent xs → AreSilent ys → AreSilent (xs ++ ys)
silent_both [] ys h k = k
silent_both (x ∷ xs) ys h k = (h.0, silent_both xs ys h.1 k)

silent_note : (q c : ℕ) (x : Note) (rs : List Recorded) → Silent x → with_note q c x rs ≡ rs
silent_note q c (BySend (Sent a)) [] h = refl
silent_note q c (BySend (Sent a)) (r ∷ rs) h = refl
silent_note q c (ByPull (TakeRefused a)) [] h = refl
silent_note q c (ByPull (TakeRefused a)) (r ∷ rs) h = refl
silent_note q c (Released a) [] h = refl
silent_note q c (Released a) (r ∷ rs) h = refl
silent_note q c (Drained a) [] h = refl
silent_note q c (Drained a) (r ∷ rs) h = refl
silent_note q c (Registered a) [] h = refl
silent_note q c (Withdrawn a) [] h = refl
silent_note q c (Registered a) (r ∷ rs) h = refl
silent_note q c (Withdrawn a) (r ∷ rs) h = refl
silent_note q c x rs h = absurd h

pub silent_notes : (q c : ℕ) (xs : List Note) (rs : List Recorded) → AreSilent xs → with_notes q c xs rs ≡ rs
silent_notes q c [] rs h = refl
silent_notes q c (x ∷ xs) rs h = silent_notes q c xs (with_note q c x rs) h.1 ∙ silent_note q c x rs h.0

module _ {B : Type 0} (f : End → B) (same : (e : End) (d : Decided) → f (record e { decided = d }) ≡ f e) where
  silent_hear : (x : Note) (e : End) → Silent x → f (hear x e) ≡ f e
  silent_hear (BySend (Sent a)) e h = same e _
  silent_hear (ByPull (TakeRefused a)) e h = same e _
  silent_hear (Released a) e h = same e _
  silent_hear (Drained a) e h = same e _
  silent_hear (Registered a) e h = same e _
  silent_hear (Withdrawn a) e h = same e _
  silent_hear x e h = absurd h

  pub silent_hears : (xs : List Note) (e : End) → AreSilent xs → f (hears xs e) ≡ f e
  silent_hears [] e h = refl
  silent_hears (x ∷ xs) e h = silent_hears xs (hear x e) h.1 ∙ silent_hear x e h.0

pub silent_plain : (xs : List Note) → AreSilent xs → ArePlain xs
silent_plain [] h = tt
silent_plain (BySend (Sent a) ∷ xs) h = (tt, silent_plain xs h.1)
silent_plain (ByPull (TakeRefused a) ∷ xs) h = (tt, silent_plain xs h.1)
silent_plain (Released a ∷ xs) h = (tt, silent_plain xs h.1)
silent_plain (Drained a ∷ xs) h = (tt, silent_plain xs h.1)
silent_plain (Registered a ∷ xs) h = (tt, silent_plain xs h.1)
silent_plain (Withdrawn a ∷ xs) h = (tt, silent_plain xs h.1)
silent_plain (x ∷ xs) h = absurd h.0

pub view_hears : (xs : List Note) (e : End) → AreSilent xs → view (hears xs e) ≡ view e
view_hears xs e h = silent_hears (λ (z : End). view z) (λ z d. refl) xs e h

-- an end that only hears of answers
pub said : (x y : Area) (q c : ℕ) (e e' : End) (ns : List Note) → AreSilent ns → view e' ≡ view e → Step x y x y q c e (say ns e')
said x y q c e e' ns silent same = quiet x y q c e (say ns e') (view_hears ns e' silent ∙ same) (silent_plain ns silent) tt

pub stay : (x y : Area) (q c : ℕ) (e : End) → Step x y x y q c e (just e)
stay x y q c e = quiet x y q c e (just e) refl tt tt

pub stays : (x y : Area) (q c : ℕ) (e : End) → Lives x y x y q c e (just e)
stays x y q c e = record { by = λ u v rs ss b l. record { line = l; others = λ k d. refl; apart = grown_none u v (names rs); clean = tt } }

-- an end that is open: in contact, begun, and so far that the partner's words may be copied
pub record Open (x y : Area) (e : End) : Type 0 where
  pub on : is_some e.shake.meet ≡ true
  pub begun : is_begun e ≡ true
  pub opened : e.shake.sent.open_complete ≡ true
  pub copy : (b : Control) → Sound (control e) b (five x.flags) (five y.flags) → Copying (control e)

begun_by : (e : End) → e.shake.sent.open_complete ≡ true → is_begun e ≡ true
begun_by e h = rw h refl

record IsJoined (o : Option Reason) (m s g : Bool) : Type 0 where
  meet : m ≡ true
  sent : s ≡ true
  got : g ≡ true
  reason : is_some o ≡ false

joined_by : (o : Option Reason) (a m s g : Bool) → state_by o a (m && (s && g)) ≡ Connected → IsJoined o m s g
joined_by (Some r) a m s g h = absurd (cc)
joined_by None a true true true h = record { meet = refl; sent = refl; got = refl; reason = refl }
joined_by None true false s g h = absurd (cc)
joined_by None false false s g h = absurd (cc)
joined_by None true true false g h = absurd (cc)
joined_by None false true false g h = absurd (cc)
joined_by None true true true false h = absurd (cc)
joined_by None false true true false h = absurd (cc)

pub open_connected : (x y : Area) (e : End) → link_of e ≡ Connected → Open x y e
open_connected x y e h =
    let j = joined_by e.shake.reason e.shake.sent.open_request (is_some e.shake.meet) e.shake.sent.open_complete e.shake.got.open_complete h in
    record { on = j.meet; begun = begun_by e j.sent; opened = j.sent; copy = λ b s. (j.sent, j.got, unclosed (control e) b (five x.flags) (five y.flags) j.reason s) }

not_true : (b : Bool) → not b ≡ true → b ≡ false
not_true true h = absurd (cc)
not_true false h = refl

pub open_copy : (x y : Area) (e : End) → may_copy e ≡ true → Open x y e
open_copy x y e h =
    let a = and_parts _ _ h in
    let b = and_parts _ _ a.0 in
    let d = and_parts _ _ b.1 in
    record { on = b.0; begun = begun_by e d.0; opened = d.0; copy = λ z s. (d.0, d.1, not_true _ a.1) }

connected_by : (o : Option Reason) (a b : Bool) → (b && not (is_some o)) ≡ true → state_by o a b ≡ Connected
connected_by (Some r) a true h = absurd (cc)
connected_by (Some r) a false h = absurd (cc)
connected_by None a true h = refl
connected_by None a false h = absurd (cc)

pub connected : (e : End) → is_connected e ≡ true → link_of e ≡ Connected
connected e h = connected_by e.shake.reason e.shake.sent.open_request (both_complete e.shake) h

-- an end that is open changes in its sides, and its newest record
abbrev pub Both : Area → Area → Data → (Recorded → Recorded) → End → End → Type 0
Both x y d n e e' = (r s : Recorded) (t : Sending) (i : InSide) → Kept (out_of x.ring.put x.ring.entry r e.sides.send) (in_of y.ring.get s i) → Kept (out_of y.ring.put y.ring.entry s t) (in_of x.ring.get r (in_side e)) → Kept (out_of d.put d.entry (n r) e'.sides.send) (in_of y.ring.get s i) × Kept (out_of y.ring.put y.ring.entry s t) (in_of d.get (n r) (in_side e'))

abbrev pub Cleans : Area → Area → End → Option Reason → Type 0
Cleans x y e reason = (r s : Recorded) (t : Sending) (i : InSide) → Kept (out_of x.ring.put x.ring.entry r e.sides.send) (in_of y.ring.get s i) → Kept (out_of y.ring.put y.ring.entry s t) (in_of x.ring.get r (in_side e)) → IsUnrefused reason

abbrev pub ringed : Area → Data → Area
ringed x d = record x { ring = d }

pub live : (x y : Area) (d : Data) (q c : ℕ) (n : Recorded → Recorded) (e : End) (f : Effect End (List Note)) → ((r : Recorded) (more : List Recorded) → with_notes q c f.notes (r ∷ more) ≡ n r ∷ more) → ((r : Recorded) → name_of (n r) ≡ name_of r) → Open x y e →
    view f.local ≡ record (view e) { parts = record (parts e) { send = f.local.sides.send; inn = in_side f.local }; terms = record (terms e) { sending = out_size f.local.sides.send; pulling = in_size f.local.sides.pull; copying = is_copying f.local.sides.pull } } → sizes f.local.sides.send (in_side f.local) ≡ sizes e.sides.send (in_side e) → Cleans x y e f.reason → Both x y d n e f.local → Lives x y (ringed x d) y q c e f
live x y d q c n e f notes one opens same sz clean both = record { by = λ u v rs ss b l. by u v rs ss b l (l.rest.mine.first opens.begun) } where
  by : (u v : Session) (rs ss : List Recorded) (b : End) → Line u v x y rs ss (view e) (view b) → HasFirst (at u v e.epoch) rs → Went u v (ringed x d) y rs (with_notes q c f.notes rs) ss (view f.local) (view b) f.reason
  by u v [] ss b l has = absurd has
  by u v (z ∷ more) ss b l has =
      let o = copying (control e) (control b) (five x.flags) (five y.flags) (opens.copy (control b) l.flags) l.flags in
      let a = sends_now u v x.ring y.ring d n z more ss (parts e) (parts b) f.local.sides.send (in_side f.local) (one z) o.own o.their o.even has l.rest in
      let g = gets_now u v x.ring y.ring d n z more ss (parts e) (parts b) f.local.sides.send (in_side f.local) (one z) o.own o.their o.even has l.rest in
      let k = both z (named v u b.epoch ss) b.sides.send (in_side b) a g in
      let S : Sizes → Type 0 = λ w. Argued x.sheet y.sheet (record (terms e) { sending = record { entries = w.entries; limit = w.limit }; pulling = record { entries = w.their_entries; limit = w.their_limit }; copying = is_copying f.local.sides.pull }) (terms b) in
      let argued = subst S (sym sz) (copies_terms x.sheet y.sheet (terms e) (terms b) l.argued (is_copying f.local.sides.pull) (opens.copy (control b) l.flags).2) in
      subst (λ (w : View). Went u v (ringed x d) y (z ∷ more) (with_notes q c f.notes (z ∷ more)) ss w (view b) f.reason) (sym same)
      (subst (λ (zs : List Recorded). Went u v (ringed x d) y (z ∷ more) zs ss (record (view e) { parts = record (parts e) { send = f.local.sides.send; inn = in_side f.local }; terms = record (terms e) { sending = out_size f.local.sides.send; pulling = in_size f.local.sides.pull; copying = is_copying f.local.sides.pull } }) (view b) f.reason) (sym (notes z more))
      (record {
        line = record { meet = l.meet; their_meet = l.their_meet; flags = l.flags; rest = went_on u v x.ring y.ring d n z more ss (parts e) (parts b) f.local.sides.send (in_side f.local) (one z) o.own o.their o.even has l.rest k.0 k.1; argued = argued };
        others = λ j w. ap core (name_other u v e.epoch (n z) more (one z ∙ has) j w ∙ sym (name_other u v e.epoch z more has j w));
        apart = subst (λ (k : Name). Grown u v (names (z ∷ more)) (k ∷ names more)) (sym (one z)) (grown_none u v (names (z ∷ more)));
        clean = clean z (named v u b.epoch ss) b.sides.send (in_side b) a g;
      }))

module _ (x y : Area) (q c : ℕ) (e : End) (opens : Open x y e) where
  abbrev same_book : Recorded → Recorded
  same_book r = r

  pub sent_at : (u v : Session) (rs ss : List Recorded) (b : End) → Line u v x y rs ss (view e) (view b) → Kept (out_of x.ring.put x.ring.entry (named u v e.epoch rs) e.sides.send) (in_of y.ring.get (named v u b.epoch ss) (in_side b))
  sent_at u v rs ss b l = let o = copying (control e) (control b) (five x.flags) (five y.flags) (opens.copy (control b) l.flags) l.flags in sent_kept u v x.ring y.ring rs ss (parts e) (parts b) o.own o.their o.even l.rest

  pub got_at : (u v : Session) (rs ss : List Recorded) (b : End) → Line u v x y rs ss (view e) (view b) → Kept (out_of y.ring.put y.ring.entry (named v u b.epoch ss) b.sides.send) (in_of x.ring.get (named u v e.epoch rs) (in_side e))
  got_at u v rs ss b l = let o = copying (control e) (control b) (five x.flags) (five y.flags) (opens.copy (control b) l.flags) l.flags in got_kept u v x.ring y.ring rs ss (parts e) (parts b) o.own o.their o.even l.rest

  -- the sending side
  abbrev full_effect : Effect Sending (List SendNote)
  full_effect = record { local = send_over (with_remote_get y.ring.get e.sides.send); reason = None; notes = Sent (NoSlot e.sides.send.put y.ring.get) ∷ [] }

  abbrev heard_effect : Effect Sending (List SendNote)
  heard_effect = record { local = with_remote_get y.ring.get e.sides.send; reason = None; notes = [] }

  get_step : (full : Bool) → Lives x y x y q c e (by_send e (cond full full_effect heard_effect))
  get_step true = live x y x.ring q c same_book e (by_send e full_effect) (λ r more. refl) (λ r. refl) opens refl refl (λ r s t i k l. tt) (λ r s t i k l. (send_ended (record (out_of x.ring.put x.ring.entry r e.sides.send) { send = with_remote_get y.ring.get e.sides.send }) (in_of y.ring.get s i) (get_heard (out_of x.ring.put x.ring.entry r e.sides.send) (in_of y.ring.get s i) k), l))
  get_step false = live x y x.ring q c same_book e (by_send e heard_effect) (λ r more. refl) (λ r. refl) opens refl refl (λ r s t i k l. tt) (λ r s t i k l. (get_heard (out_of x.ring.put x.ring.entry r e.sides.send) (in_of y.ring.get s i) k, l))

  pub read_get : Lives x y x y q c e (by_send e (ring_effect e.sides.send ReadGet y.ring.get))
  read_get = record {
    by = λ u v rs ss b l.
        let good = get_good _ _ (sent_at u v rs ss b l) in
        let bad : Effect Sending (List SendNote) = record { local = e.sides.send; reason = Some (BadCounters y.ring.get e.sides.send.put); notes = [] } in
        let P : Bool → Type 0 = λ z. let f = by_send e (cond z bad (get_loaded e.sides.send y.ring.get)) in Went u v x y rs (with_notes q c f.notes rs) ss (view f.local) (view b) f.reason in
        subst P (sym good) ((get_step (is_full e.sides.send y.ring.get)).by u v rs ss b l);
  }

  pub write_word : (f : ℕ) → f < words_each e.sides.send → e.sides.send.put < e.sides.send.remote_get + e.sides.send.entries → Lives x y (ringed x (record x.ring { entry = write_entry x.ring.entry (next_slot e.sides.send + f) (message_word e.sides.send.put (payload_of e.sides.send.send) f) })) y q c e (by_send e (ring_effect e.sides.send (WriteEntryWord f) 0))
  write_word f low room = live x y _ q c same_book e (by_send e (ring_effect e.sides.send (WriteEntryWord f) 0)) (λ r more. refl) (λ r. refl) opens refl refl (λ r s t i k l. tt) (λ r s t i k l. (word_written (out_of x.ring.put x.ring.entry r e.sides.send) (in_of y.ring.get s i) f low room k, l))

  accepted_name : (number : ℕ) (body : List ℕ) (b : Bool) (r : Recorded) → name_of (accepted_in number body b r) ≡ name_of r
  accepted_name number body true r = refl
  accepted_name number body false r = refl

  pub accept : e.sides.send.written_words ≡ 2 ^ words_each e.sides.send - 1 → Lives x y (ringed x (record x.ring { put = e.sides.send.put + 1 })) y q c e (by_send e (ring_effect e.sides.send AcceptMessage 0))
  accept all =
      let body = payload_of e.sides.send.send in
      live x y (record x.ring { put = e.sides.send.put + 1 }) q c (accepted_in e.sides.send.put body (wants_notice e.sides.send.send)) e (by_send e (ring_effect e.sides.send AcceptMessage 0)) (λ r more. refl) (accepted_name e.sides.send.put body (wants_notice e.sides.send.send)) opens refl refl (λ r s t i k l. tt) (λ r s t i k l. by r s t i (wants_notice e.sides.send.send) k l)
    where
      by : (r s : Recorded) (t : Sending) (i : InSide) (b : Bool) → Kept (out_of x.ring.put x.ring.entry r e.sides.send) (in_of y.ring.get s i) → Kept (out_of y.ring.put y.ring.entry s t) (in_of x.ring.get r (in_side e)) →
          (let n = accepted_in e.sides.send.put (payload_of e.sides.send.send) b r in
          Kept (out_of (e.sides.send.put + 1) x.ring.entry n (record (send_over e.sides.send) { put = e.sides.send.put + 1 })) (in_of y.ring.get s i) × Kept (out_of y.ring.put y.ring.entry s t) (in_of x.ring.get n (in_side e)))
      by r s t i true k l = (message_accepted (out_of x.ring.put x.ring.entry r e.sides.send) (in_of y.ring.get s i) all k, l)
      by r s t i false k l = (message_accepted (out_of x.ring.put x.ring.entry r e.sides.send) (in_of y.ring.get s i) all k, l)

  -- the receiving side
  pub read_counters : (o : Option ℕ) (v : ℕ) → (o ≡ None → v ≡ y.ring.get) → ((g : ℕ) → o ≡ Some g → v ≡ y.ring.put) → Lives x y x y q c e (by_pull e (counters_pulled (sender_counters e.sides) o e.sides.pull v))
  read_counters None w first second = record {
    by = λ u v rs ss b l.
        let good = get_good _ _ (sent_at u v rs ss b l) in
        let well : Effect Pulling (List PullNote) = record { local = record e.sides.pull { counters = Some y.ring.get; known = y.ring.get; owed = false }; reason = None; notes = Heard y.ring.get ∷ [] } in
        let bad : Effect Pulling (List PullNote) = record { local = record e.sides.pull { owed = false }; reason = Some (BadCounters y.ring.get e.sides.send.put); notes = [] } in
        let P : Bool → Type 0 = λ z. let f = by_pull e (cond z bad well) in Went u v x y rs (with_notes q c f.notes rs) ss (view f.local) (view b) f.reason in
        let V : ℕ → Type 0 = λ z. let f = by_pull e (counters_pulled (sender_counters e.sides) None e.sides.pull z) in Went u v x y rs (with_notes q c f.notes rs) ss (view f.local) (view b) f.reason in
        subst V (sym (first refl)) (subst P (sym good)
        ((live x y x.ring q c same_book e (by_pull e well) (λ r more. refl) (λ r. refl) opens refl refl (λ r s t i k l. tt) (λ r s t i k l. (get_heard (out_of x.ring.put x.ring.entry r e.sides.send) (in_of y.ring.get s i) k, counters_set (out_of y.ring.put y.ring.entry s t) (in_of x.ring.get r (in_side e)) (Some y.ring.get) y.ring.get false l))).by u v rs ss b l));
  }
  read_counters (Some get) w first second = record {
    by = λ u v rs ss b l.
        let good = put_good (out_of x.ring.put x.ring.entry (named u v e.epoch rs) e.sides.send) _ _ (got_at u v rs ss b l) in
        let well : Effect Pulling (List PullNote) = record { local = record e.sides.pull { counters = None; pulled_put = y.ring.put; empty = shown_empty e.sides.pull y.ring.put }; reason = None; notes = [] } in
        let bad : Effect Pulling (List PullNote) = record { local = record e.sides.pull { counters = None }; reason = Some (BadCounters get y.ring.put); notes = [] } in
        let P : Bool → Type 0 = λ z. let f = by_pull e (cond z bad well) in Went u v x y rs (with_notes q c f.notes rs) ss (view f.local) (view b) f.reason in
        let V : ℕ → Type 0 = λ z. let f = by_pull e (counters_pulled (sender_counters e.sides) (Some get) e.sides.pull z) in Went u v x y rs (with_notes q c f.notes rs) ss (view f.local) (view b) f.reason in
        subst V (sym (second get refl)) (subst P (sym good)
        ((live x y x.ring q c same_book e (by_pull e well) (λ r more. refl) (λ r. refl) opens refl refl (λ r s t i k l. tt) (λ r s t i k l. (k, put_heard (out_of y.ring.put y.ring.entry s t) (in_of x.ring.get r (in_side e)) (shown_empty e.sides.pull y.ring.put) l))).by u v rs ss b l));
  }

  entry_notes : (ws : List ℕ) (p : Pulling) → (entry_pulled ws p).notes ≡ []
  entry_notes ws p = by (eqb (length ws) (pull_words p * run_now p)) (run_fault p.limit p.pulled (run_now p) ws) where
    by : (b : Bool) (o : Option Reason) → (cond b (run_copied o (run_now p) ws p) (record { local = record p { copied = ws; run = run_now p }; reason = None; notes = [] })).notes ≡ []
    by true None = refl
    by true (Some r) = refl
    by false o = refl

  entry_sizes : (ws : List ℕ) (p : Pulling) → sizes e.sides.send (record (in_side e) { pull = (entry_pulled ws p).local }) ≡ sizes e.sides.send (record (in_side e) { pull = p })
  entry_sizes ws p = by (eqb (length ws) (pull_words p * run_now p)) (run_fault p.limit p.pulled (run_now p) ws) where
    by : (b : Bool) (o : Option Reason) → sizes e.sides.send (record (in_side e) { pull = (cond b (run_copied o (run_now p) ws p) (record { local = record p { copied = ws; run = run_now p }; reason = None; notes = [] })).local }) ≡ sizes e.sides.send (record (in_side e) { pull = p })
    by true None = refl
    by true (Some r) = refl
    by false o = refl

  entry_clean : (ws : List ℕ) (p : Pulling) → (length ws ≡ pull_words p * run_now p → run_fault p.limit p.pulled (run_now p) ws ≡ None) → IsUnrefused (entry_pulled ws p).reason
  entry_clean ws p good = by (eqb (length ws) (pull_words p * run_now p)) refl where
    copied : (o : Option Reason) → o ≡ None → IsUnrefused (run_copied o (run_now p) ws p).reason
    copied None e = tt
    copied (Some r) e = absurd (cc)

    by : (b : Bool) → eqb (length ws) (pull_words p * run_now p) ≡ b → IsUnrefused (cond b (run_copied (run_fault p.limit p.pulled (run_now p) ws) (run_now p) ws p) (record { local = record p { copied = ws; run = run_now p }; reason = None; notes = [] })).reason
    by true e = copied (run_fault p.limit p.pulled (run_now p) ws) (good (eqb-true (length ws) (pull_words p * run_now p) e))
    by false e = tt

  pub read_entry : e.sides.pull.pulled < e.sides.pull.pulled_put → length e.sides.pull.copied < pull_words e.sides.pull * run_now e.sides.pull → Lives x y x y q c e (by_pull e (entry_pulled (e.sides.pull.copied ++ y.ring.entry (first_slot e.sides.pull + length e.sides.pull.copied) ∷ []) e.sides.pull))
  read_entry below room =
      let ws = e.sides.pull.copied ++ y.ring.entry (first_slot e.sides.pull + length e.sides.pull.copied) ∷ [] in
      let f = entry_pulled ws e.sides.pull in
      let P : List PullNote → Type 0 = λ ns. Lives x y x y q c e (by_pull e (record { local = f.local; reason = f.reason; notes = ns })) in
      subst P (sym (entry_notes ws e.sides.pull))
      (live x y x.ring q c same_book e (by_pull e (record { local = f.local; reason = f.reason; notes = [] })) (λ r more. refl) (λ r. refl) opens refl (entry_sizes ws e.sides.pull) (λ r s t i k l. entry_clean ws e.sides.pull (λ z. run_is_good (out_of y.ring.put y.ring.entry s t) (in_of x.ring.get r (in_side e)) below room l z)) (λ r s t i k l. (k, entry_read (out_of y.ring.put y.ring.entry s t) (in_of x.ring.get r (in_side e)) below room l)))

  -- get is stored
  pub acknowledge : Lives x y (ringed x (record x.ring { get = e.sides.ack.front })) y q c e (acknowledged e)
  acknowledge = by e.sides.releasing
    where
      to : Bool → Effect End (List Note)
      to b = record { local = hears (release_notes b e.sides.ack.front) (record e { sides = record e.sides { local_get = e.sides.ack.front; releasing = false }; shake = record e.shake { owes_message = true } }); reason = None; notes = Acked e.sides.ack.front ∷ release_notes b e.sides.ack.front }

      by : (b : Bool) → Lives x y (ringed x (record x.ring { get = e.sides.ack.front })) y q c e (to b)
      by true = live x y (record x.ring { get = e.sides.ack.front }) q c (has_acked e.sides.ack.front) e (to true) (λ r more. refl) (λ r. refl) opens refl refl (λ r s t i k l. tt) (λ r s t i k l. (k, get_stored (out_of y.ring.put y.ring.entry s t) (in_of x.ring.get r (in_side e)) l))
      by false = live x y (record x.ring { get = e.sides.ack.front }) q c (has_acked e.sides.ack.front) e (to false) (λ r more. refl) (λ r. refl) opens refl refl (λ r s t i k l. tt) (λ r s t i k l. (k, get_stored (out_of y.ring.put y.ring.entry s t) (in_of x.ring.get r (in_side e)) l))

  pub owed_set : Lives x y x y q c e (just (record e { sides = record e.sides { pull = record e.sides.pull { owed = true } } }))
  owed_set = live x y x.ring q c same_book e (just (record e { sides = record e.sides { pull = record e.sides.pull { owed = true } } })) (λ r more. refl) (λ r. refl) opens refl refl (λ r s t i k l. tt) (λ r s t i k l. (k, counters_set (out_of y.ring.put y.ring.entry s t) (in_of x.ring.get r (in_side e)) e.sides.pull.counters e.sides.pull.known true l))

  -- a load of a copy failed
  pub failed : (kind : CopyKind) → Lives x y x y q c e (just (copy_failed kind e))
  failed Counters = live x y x.ring q c same_book e (just (copy_failed Counters e)) (λ r more. refl) (λ r. refl) opens refl refl (λ r s t i k l. tt) (λ r s t i k l. (k, counters_set (out_of y.ring.put y.ring.entry s t) (in_of x.ring.get r (in_side e)) None e.sides.pull.known (owed_after e.sides.pull.counters e.sides.pull.owed) l))
  failed Entries = live x y x.ring q c same_book e (just (copy_failed Entries e)) (λ r more. refl) (λ r. refl) opens refl refl (λ r s t i k l. tt) (λ r s t i k l. (k, copy_ended (out_of y.ring.put y.ring.entry s t) (in_of x.ring.get r (in_side e)) l))
  failed kind = stays x y q c e

failed_kind : (x y : Area) (q c : ℕ) (e e' : End) (reason : Option Reason) (kind : CopyKind) → IsUnrefused reason → view e' ≡ view e → Open x y e' → Lives x y x y q c e (record { local = copy_failed kind e'; reason = reason; notes = [] })
failed_kind x y q c e e' reason kind clean same opens = record {
  by = λ u v rs ss b l.
      let w = (failed x y q c e' opens kind).by u v rs ss b (subst (λ (w : View). Line u v x y rs ss w (view b)) (sym same) l) in
      record { line = w.line; others = w.others; apart = w.apart; clean = clean };
}

-- commands that are begun
short_by : (limit : ℕ) (payload : List ℕ) → too_long (Some limit) payload ≡ None → length payload ≤ limit
short_by limit payload h = by (ltb limit (length payload)) refl h where
  by : (b : Bool) → ltb limit (length payload) ≡ b → cond b (Some (TooBig (length payload) limit)) None ≡ None → length payload ≤ limit
  by true l k = absurd (cc)
  by false l k = grind (arith, nat_tests)

is_joined : (o : Option Reason) (a b : Bool) → state_by o a b ≡ Connected → (b && not (is_some o)) ≡ true
is_joined (Some r) a b h = absurd (cc)
is_joined None a true h = refl
is_joined None true false h = absurd (cc)
is_joined None false false h = absurd (cc)

sends_by : (e : End) (payload : List ℕ) → link_of e ≡ Connected → too_long (limit_of e) payload ≡ None → length payload ≤ e.sides.send.limit
sends_by e payload on h = short_by e.sides.send.limit payload (sym (ap (λ (b : Bool). too_long (limit_by b e) payload) (is_joined e.shake.reason e.shake.sent.open_request (both_complete e.shake) on)) ∙ h)

link_open : (x : LinkState) → link_refusal x ≡ None → x ≡ Connected
link_open Connected h = refl
link_open Idle h = absurd (cc)
link_open Opening h = absurd (cc)
link_open (Closing r) h = absurd (cc)

take_open : (x : LinkState) → take_refusal x ≡ None → x ≡ Connected
take_open Connected h = refl
take_open Idle h = absurd (cc)
take_open Opening h = absurd (cc)
take_open (Closing r) h = absurd (cc)

release_open : (x : LinkState) (number : ℕ) (k : _) → release_refusal x number k ≡ None → x ≡ Connected
release_open Connected number k h = refl
release_open Idle number k h = absurd (cc)
release_open Opening number k h = absurd (cc)
release_open (Closing r) number k h = absurd (cc)

is_none : {A : Type 0} (o : Option A) → is_some o ≡ false → o ≡ None
is_none None h = refl
is_none (Some x) h = absurd (cc)

first_none : (a b : Option SendAnswer) → first_of a b ≡ None → (a ≡ None) × (b ≡ None)
first_none None b h = (refl, h)
first_none (Some x) b h = absurd (cc)

module _ (x y : Area) (q c : ℕ) (e : End) where
  abbrev own_book : Recorded → Recorded
  own_book r = r

  pub send_begins : (payload : List ℕ) (wait notify : Bool) → AreBytes payload → (o : Option SendAnswer) → refused_send e payload ≡ o → Step x y x y q c e (send_begun o payload wait notify e)
  send_begins payload wait notify bytes (Some a) r = said x y q c e e (BySend (Sent a) ∷ []) (tt, tt) refl
  send_begins payload wait notify bytes None r =
      let none = first_none (too_long (limit_of e) payload) (link_refusal (link_of e)) r in
      let opens = open_connected x y e (link_open (link_of e) none.1) in
      calm_contact x y q c e (send_begun None payload wait notify e) opens.on (record {
        by = λ u v rs ss b l.
            let sized : Sized e.sides.send.limit payload = record { short = sends_by e payload (link_open (link_of e) none.1) none.0; bytes = bytes } in
            (live x y x.ring q c own_book e (send_begun None payload wait notify e) (λ r more. refl) (λ r. refl) opens refl refl (λ r s t i k l. tt) (λ r s t i k l. (send_started (out_of x.ring.put x.ring.entry r e.sides.send) (in_of y.ring.get s i) (record { payload = payload; wait = wait; notify = notify }) sized k, l))).by u v rs ss b l;
      })

  pub take_begins : (wait : Bool) (o : Option TakeRefusal) → take_refusal (link_of e) ≡ o → Step x y x y q c e (take_begun o wait e)
  take_begins wait (Some a) r = said x y q c e e (ByPull (TakeRefused a) ∷ []) (tt, tt) refl
  take_begins wait None r =
      let opens = open_connected x y e (take_open (link_of e) r) in
      calm_contact x y q c e (take_begun None wait e) opens.on (live x y x.ring q c own_book e (take_begun None wait e) (λ r more. refl) (λ r. refl) opens refl refl (λ r s t i k l. tt) (λ r s t i k l. (k, take_set (out_of y.ring.put y.ring.entry s t) (in_of x.ring.get r (in_side e)) (Some wait) None l)))

  pub release_begins : (number : ℕ) (o : Option ReleaseAnswer) → release_refusal (link_of e) number e.sides.ack ≡ o → Step x y x y q c e (release_begun o number e)
  release_begins number (Some a) r = said x y q c e e (Released a ∷ []) (tt, tt) refl
  release_begins number None r = calm_contact x y q c e (release_begun None number e) opens.on (by (eqb e.sides.ack.front (message_released number e.sides.ack).front)) where
    opens : Open x y e
    opens = open_connected x y e (release_open (link_of e) number e.sides.ack r)

    to : Bool → Effect End (List Note)
    to b = say (release_held b number (message_released number e.sides.ack)) (record e { sides = record e.sides { ack = message_released number e.sides.ack; releasing = not b } })

    by : (b : Bool) → Lives x y x y q c e (to b)
    by true = live x y x.ring q c (has_released number) e (to true) (λ r more. refl) (λ r. refl) opens refl refl (λ r s t i k l. tt) (λ r s t i k l. (k, one_released (out_of y.ring.put y.ring.entry s t) (in_of x.ring.get r (in_side e)) number l))
    by false = live x y x.ring q c (has_released number) e (to false) (λ r more. refl) (λ r. refl) opens refl refl (λ r s t i k l. tt) (λ r s t i k l. (k, one_released (out_of y.ring.put y.ring.entry s t) (in_of x.ring.get r (in_side e)) number l))

  pub drain_begins : (o : Option DrainAnswer) → Step x y x y q c e (drain_begun o e)
  drain_begins (Some a) = said x y q c e e (Drained a ∷ []) (tt, tt) refl
  drain_begins None = quiet x y q c e (drain_begun None e) refl tt tt

  -- a take that is answered
  abbrev found_in : Option Bool → Option ℕ → List (List ℕ) → Option TakeAnswer
  found_in take empty cache = found_by take (record e.sides.pull { empty = empty; cache = cache })

  takes : Open x y e → (take : Option Bool) (empty : Option ℕ) (cache : List (List ℕ)) → e.sides.pull.cache ≡ cache → Lives x y x y q c e (taken_by (found_in take empty cache) e)
  takes opens None empty cache k = stays x y q c e
  takes opens (Some wait) (Some put) cache k = live x y x.ring q c own_book e (taken_by (Some (Empty put)) e) (λ r more. refl) (λ r. refl) opens refl refl (λ r s t i k l. tt) (λ r s t i k l. (k, take_set (out_of y.ring.put y.ring.entry s t) (in_of x.ring.get r (in_side e)) None None l))
  takes opens (Some wait) None [] k = stays x y q c e
  takes opens (Some wait) None (body ∷ more) k = live x y x.ring q c (has_taken body) e (taken_by (Some (TakenAnswer e.sides.pull.taken body)) e) (λ r more. refl) (λ r. refl) opens refl refl (λ r s t i k l. tt) (λ r s t i m l. (m, subst (λ (bs : List (List ℕ)). Kept (out_of y.ring.put y.ring.entry s t) (record (in_of x.ring.get r (in_side e)) { pull = record e.sides.pull { taken = e.sides.pull.taken + 1; cache = bs; take = None }; ack = message_held e.sides.ack; taken = r.taken ++ body ∷ [] })) (sym (ap cache_taken k)) (one_taken (out_of y.ring.put y.ring.entry s t) (in_of x.ring.get r (in_side e)) body more k l)))

  take_answers : (o : Option TakeRefusal) → Step x y x y q c e (take_answered o e)
  take_answers (Some a) = quiet x y q c e (take_answered (Some a) e) refl tt tt
  take_answers None = by (is_connected e) refl where
    by : (b : Bool) → is_connected e ≡ b → Step x y x y q c e (taken_by (cond b (take_due e.sides.pull) None) e)
    by true h = let opens = open_connected x y e (connected e h) in calm_contact x y q c e (taken_by (take_due e.sides.pull) e) opens.on (takes opens e.sides.pull.take e.sides.pull.empty e.sides.pull.cache refl)
    by false h = stay x y q c e

  pub answers : (z : Command) → Step x y x y q c e (end_answered e z)
  answers (SendCommand k d payload wait notify) = quiet x y q c e _ refl tt tt
  answers (Take k d wait) = take_answers e.decided.take
  answers (Release k d number) = quiet x y q c e _ refl tt tt
  answers (Drain k d) = quiet x y q c e _ refl tt tt
  answers (Register k d entries limit) = quiet x y q c e _ refl tt tt
  answers (Unregister k d) = quiet x y q c e _ refl tt tt
  answers (commands.Connected k d) = stay x y q c e
  answers (commands.Closed k d) = stay x y q c e
  answers (commands.Net frame) = stay x y q c e
  answers (commands.Frames count) = stay x y q c e
  answers (commands.Deactivate k) = stay x y q c e
  answers (commands.Activate k) = stay x y q c e
  answers commands.Leave = stay x y q c e
  answers (commands.Idle turns) = stay x y q c e
  answers commands.Offline = stay x y q c e
  answers commands.Online = stay x y q c e

  -- a notice that is given
  pub notices : (how : NoticeKind) (number : ℕ) → Step x y x y q c e (end_noticed how number e)
  notices Delivered number = quiet x y q c e _ refl (tt, tt) tt
  notices Ended number = quiet x y q c e _ refl tt tt

  pub load_failed : (mark : Option CopyMark) (reason : Option Reason) → IsUnrefused reason → (mark ≡ None) ⊎ Open x y e → Open x y e ⊎ (mark ≡ None) → Step x y x y q c e (record { local = end_failed mark e; reason = reason; notes = [] })
  load_failed None reason clean on now = quiet x y q c e _ refl tt clean
  load_failed (Some mark) reason clean (inl n) now = absurd (cc)
  load_failed (Some mark) reason clean (inr on) (inr n) = absurd (cc)
  load_failed (Some mark) reason clean (inr on) (inl now) = calm_contact x y q c e _ on.on (failed_kind x y q c e e reason mark.kind clean refl now)
