-- The counts of an end, whatever changes it: what raises one raises it by 1.
use Rattle.std.proofs.Common.{map, ◌||◌, ◌≡◌, ℕ, zero, suc, ◌+◌, ◌-◌, ◌*◌, ◌≤◌, Bool, true, false, not, ◌&&◌, cond, eqb, ltb, List, [], ◌∷◌, ◌++◌, length, length-append, set, refl, sym, subst, arith, Option, Some, None}
use Rattle.std.specs.Prelude.{is_some}
use Rattle.std.proofs.lemmas.Bool.Decides.{nat_tests}
use Rattle.std.proofs.lemmas.List.{length-set}
use Rattle.xp_base.specs.declared.answer.SendAnswer.{SendAnswer}
use Rattle.xp_base.specs.declared.answer.SendAnswer.TheVariants.{NoSlot}
use Rattle.xp_base.specs.declared.answer.DrainAnswer.{DrainAnswer}
use Rattle.xp_base.specs.declared.answer.ReleaseAnswer.{ReleaseAnswer}
use Rattle.xp_base.specs.declared.answer.UnregisterAnswer.TheVariants.{Ok as UnregisterOk}
use Rattle.xp_base.specs.declared.link.Kind.{Kind}
use Rattle.xp_base.specs.declared.link.Kind.TheVariants.{CloseRequest, CloseReply, OpenRequest, OpenReply, OpenComplete, MsgRequest}
use Rattle.xp_base.specs.declared.reason.Reason.{Reason}
use Rattle.xp_base.specs.declared.reason.Reason.TheVariants.{UnequalSizes, BadArgs, BadCounters, PartnerClosed, Unregistered}
use Rattle.xp_base.specs.declared.step.Answer.{Answer}
use Rattle.xp_base.specs.declared.step.Answer.TheVariants.{Word, Failed}
use Rattle.xp_base.specs.declared.step.CopyKind.{CopyKind}
use Rattle.xp_base.specs.declared.step.CopyKind.TheVariants.{Counters, Entries}
use Rattle.xp_base.specs.declared.step.CopyMark.{CopyMark}
use Rattle.xp_base.specs.Kinds.{Kinds, without, next_of}
use Rattle.xp_base.specs.History.{NoticeKind, Delivered, Ended}
use Rattle.xp_script.specs.declared.command.Command.{Command}
use Rattle.xp_script.specs.declared.command.Command.TheVariants as commands
use Rattle.xp_script.specs.declared.part.Link.{Link}
use Rattle.xp_protocol.specs.declared.refusal.TakeRefusal.{TakeRefusal}
use Rattle.xp_protocol.specs.declared.rule.Argument.{Argument}
use Rattle.xp_protocol.specs.declared.rule.Argument.TheVariants.{Request, Reply, Code}
use Rattle.xp_protocol.specs.declared.rule.RingRule.TheVariants.{ReadGet, WriteEntryWord, AcceptMessage}
use Rattle.xp_protocol.specs.declared.rule.PullRule.TheVariants.{ReadCounters, ReadEntry}
use Rattle.xp_protocol.specs.declared.rule.LinkRule.{LinkRule}
use Rattle.xp_protocol.specs.declared.rule.LinkRule.TheVariants.{Ring, Pull, Acknowledge, SetFlag, ZeroGet, ZeroPut, StoreArgument, ReadArgument}
use Rattle.xp_protocol.specs.Effects.{Effect, just, and_then, Accepted, Sent, Heard, TakeRefused, Note, BySend, ByPull, Began, Joined, Taken, Freed, Acked, Told, ToldOver, Over, Released, Drained, Registered, Withdrawn}
use Rattle.xp_protocol.specs.Sending.{Send, is_bad_get, is_full, get_loaded, ring_effect}
use Rattle.xp_protocol.specs.Pulling.{counters_pulled, is_bad_counter, is_bad_put, shown_empty, entry_pulled, run_copied, run_fault, run_now, words_each as pull_words, found_by, take_refusal}
use Rattle.xp_protocol.specs.Releasing.{Releasing, fronted, message_released, release_refusal}
use Rattle.xp_protocol.specs.State.{End, Shake, no_shake, Size, Replied, Contact, idle_end, warm_end, size_in, link_of, is_begun, is_connected}
use Rattle.xp_protocol.specs.Linking.{hear, hears, by_send, by_pull, sender_counters, acknowledged, release_notes, link_effect, copy_failed, down_notes, down_end, close_now, link_down, fresh_end, link_finished, link_joined, booted_end, channel_closed, epoch_over, is_ended, are_unequal, unequal, changed, kind_got, is_request, request_handled, reply_handled, is_code, code_handled, refused, kind_refused, well_handled, handled, has_argument, handled_next, settle, settled, with_taken, flags_got, end_sent, control_sent, flag_sent, with_argument, argument_read, argument_stored}
use Rattle.xp_protocol.specs.Rules.{link_answered, end_failed}
use Rattle.xp_protocol.specs.Acts.{say, refused_send, send_begun, take_begun, release_held, release_begun, drain_refusal, drain_begun, register_begun, unregister_begun, end_begun, taken_by, take_answered, end_answered, end_noticed}
use Rattle.std.proofs.lemmas.Bool.{and_parts}
use Rattle.xp_protocol.specs.Sending.{closed_send}
use Rattle.xp_protocol.specs.Pulling.{closed_take}
use Rattle.xp_protocol.specs.Linking.{closed_more, closed_release, closed_drain, limit_in}
use Rattle.xp_counts.specs.Counted.{EndCounts, counts_of, AreEndCounts, IsEndCounted}

-- the counts of an end keep so far, whatever changes it
low_more : (a b : ℕ) (x : EndCounts) → a ≤ b → AreEndCounts a x → AreEndCounts b x
low_more a b x l h = record {
  epochs = omega (arith, h.epochs, l);
  put = omega (arith, h.put, l);
  remote_get = omega (arith, h.remote_get, l);
  taken = omega (arith, h.taken, l);
  held = omega (arith, h.held, l);
  local_get = omega (arith, h.local_get, l);
  closed = omega (arith, h.closed, l);
  closed_asked = omega (arith, h.closed_asked, l);
}

-- one count is another
with_get : (n get : ℕ) (x : EndCounts) → get ≤ n → AreEndCounts n x → AreEndCounts n (record x { remote_get = get })
with_get n get x l h = record { epochs = h.epochs; put = h.put; remote_get = l; taken = h.taken; held = h.held; local_get = h.local_get; closed = h.closed; closed_asked = h.closed_asked }

with_local : (n get : ℕ) (x : EndCounts) → get ≤ n → AreEndCounts n x → AreEndCounts n (record x { local_get = get })
with_local n get x l h = record { epochs = h.epochs; put = h.put; remote_get = h.remote_get; taken = h.taken; held = h.held; local_get = l; closed = h.closed; closed_asked = h.closed_asked }

with_put : (n put : ℕ) (x : EndCounts) → put ≤ n → AreEndCounts n x → AreEndCounts n (record x { put = put })
with_put n put x l h = record { epochs = h.epochs; put = l; remote_get = h.remote_get; taken = h.taken; held = h.held; local_get = h.local_get; closed = h.closed; closed_asked = h.closed_asked }

with_held : (n held : ℕ) (x : EndCounts) → held ≤ n → AreEndCounts n x → AreEndCounts n (record x { held = held })
with_held n held x l h = record { epochs = h.epochs; put = h.put; remote_get = h.remote_get; taken = h.taken; held = l; local_get = h.local_get; closed = h.closed; closed_asked = h.closed_asked }

taken_as : (n taken : ℕ) (x : EndCounts) → taken ≤ n → AreEndCounts n x → AreEndCounts n (record x { taken = taken })
taken_as n taken x l h = record { epochs = h.epochs; put = h.put; remote_get = h.remote_get; taken = l; held = h.held; local_get = h.local_get; closed = h.closed; closed_asked = h.closed_asked }

with_asked : (n asked : ℕ) (x : EndCounts) → asked ≤ n → AreEndCounts n x → AreEndCounts n (record x { closed_asked = asked })
with_asked n asked x l h = record { epochs = h.epochs; put = h.put; remote_get = h.remote_get; taken = h.taken; held = h.held; local_get = h.local_get; closed = h.closed; closed_asked = l }

pub more_end : (a b : ℕ) (e : End) → a ≤ b → IsEndCounted a e → IsEndCounted b e
more_end a b e l h = low_more a b (counts_of e) l h

-- a note that tells no get above n
abbrev pub IsLowNote : ℕ → Note → Type 0
IsLowNote n (ByPull (Heard get)) = get ≤ n
IsLowNote n note = Unit {0}

abbrev pub AreLowNotes : ℕ → List Note → Type 0
AreLowNotes n [] = Unit {0}
AreLowNotes n (note ∷ more) = IsLowNote n note × AreLowNotes n more

low_both : (n : ℕ) (xs ys : List Note) → AreLowNotes n xs → AreLowNotes n ys → AreLowNotes n (xs ++ ys)
low_both n [] ys a b = b
low_both n (x ∷ xs) ys a b = (a.0, low_both n xs ys a.1 b)

hear_low : (n : ℕ) (note : Note) (e : End) → IsLowNote n note → IsEndCounted n e → IsEndCounted n (hear note e)
hear_low n (BySend (Accepted number body asks)) e l h = h
hear_low n (BySend (Sent a)) e l h = h
hear_low n (ByPull (Heard get)) e l h = with_get n get (counts_of e) l h
hear_low n (ByPull (TakeRefused a)) e l h = h
hear_low n (Began epoch own theirs) e l h = h
hear_low n Joined e l h = h
hear_low n (Taken body) e l h = h
hear_low n (Freed number) e l h = h
hear_low n (Acked get) e l h = h
hear_low n (Told number) e l h = h
hear_low n (ToldOver number) e l h = h
hear_low n (Over reason) e l h = h
hear_low n (Released a) e l h = h
hear_low n (Drained a) e l h = h
hear_low n (Registered a) e l h = h
hear_low n (Withdrawn a) e l h = h

hears_low : (n : ℕ) (notes : List Note) (e : End) → AreLowNotes n notes → IsEndCounted n e → IsEndCounted n (hears notes e)
hears_low n [] e l h = h
hears_low n (note ∷ more) e l h = hears_low n more (hear note e) l.1 (hear_low n note e l.0 h)

-- what is told where a connection goes down
down_low : (n : ℕ) (reason : Reason) (s : Option Send) (t : Option Bool) (releasing draining : Bool) → AreLowNotes n (map BySend (closed_send reason s) ++ (map ByPull (closed_take reason t) ++ (closed_release releasing ++ closed_drain reason draining)))
down_low n reason s t releasing draining = low_both n _ _ (one s) (low_both n _ _ (two t) (low_both n _ _ (three releasing) (four draining))) where
  one : (s : Option Send) → AreLowNotes n (map BySend (closed_send reason s))
  one None = tt
  one (Some x) = (tt, tt)

  two : (t : Option Bool) → AreLowNotes n (map ByPull (closed_take reason t))
  two None = tt
  two (Some x) = (tt, tt)

  three : (b : Bool) → AreLowNotes n (closed_release b)
  three true = (tt, tt)
  three false = tt

  four : (b : Bool) → AreLowNotes n (closed_drain reason b)
  four true = (tt, tt)
  four false = tt

fronted_total : (front : ℕ) (bs : List Bool) → (fronted front bs).front + length (fronted front bs).released_from_front ≡ front + length bs
fronted_total front [] = refl
fronted_total front (false ∷ more) = refl
fronted_total front (true ∷ more) = omega (arith, fronted_total (front + 1) more)

released_total : (number : ℕ) (x : Releasing) → (message_released number x).front + length (message_released number x).released_from_front ≡ x.front + length x.released_from_front
released_total number x = omega (arith, fronted_total x.front (set x.released_from_front (number - x.front) true), length-set x.released_from_front (number - x.front) true)

closed_one : (o : Option Reason) (reasons : List Reason) → length (closed_more o reasons) ≤ length reasons + 1
closed_one None reasons = omega arith
closed_one (Some reason) reasons = omega (arith, length-append reasons (reason ∷ []))

pub idle_counted : (n : ℕ) → IsEndCounted n idle_end
idle_counted n = record { epochs = omega arith; put = omega arith; remote_get = omega arith; taken = omega arith; held = omega arith; local_get = omega arith; closed = omega arith; closed_asked = omega arith }

pub warm_counted : (n : ℕ) (new : Bool) (l : Link) → IsEndCounted n (warm_end new l)
warm_counted n new l = record { epochs = omega arith; put = omega arith; remote_get = omega arith; taken = omega arith; held = omega arith; local_get = omega arith; closed = omega arith; closed_asked = omega arith }

-- an end is fresh: its epochs and closed connections are given
fresh_low : (n : ℕ) (shake : Shake) (epoch : ℕ) (e : End) → shake.sent.close_reply ≡ false → epoch ≤ n → length (closed_more e.shake.reason e.closed) ≤ n → IsEndCounted n e → IsEndCounted n (fresh_end shake epoch e)
fresh_low n shake epoch e none a b h = by shake.sent.close_reply none where
  by : (c : Bool) → c ≡ false → AreEndCounts n (record { epochs = epoch + cond c 1 0; put = 0; remote_get = 0; taken = 0; held = 0; local_get = 0; closed = length (closed_more e.shake.reason e.closed) + cond c 1 0; closed_asked = e.closed_asked })
  by true k = absurd (cc)
  by false k = record { epochs = omega (arith, a); put = omega arith; remote_get = omega arith; taken = omega arith; held = omega arith; local_get = omega arith; closed = omega (arith, b); closed_asked = h.closed_asked }

-- where the close reply was sent, one more epoch may end
one_ending : (n : ℕ) (e : End) → e.shake.sent.close_reply ≡ true → IsEndCounted n e → (e.epoch + 1 ≤ n) × (length e.closed + 1 ≤ n)
one_ending n e t h = by e.shake.sent.close_reply t h.epochs h.closed where
  by : (c : Bool) → c ≡ true → e.epoch + cond c 1 0 ≤ n → length e.closed + cond c 1 0 ≤ n → (e.epoch + 1 ≤ n) × (length e.closed + 1 ≤ n)
  by true k x y = (x, y)
  by false k x y = absurd (cc)

-- a get that is let through isn't above put
good_get : (w get put n : ℕ) → (ltb w get || ltb put w) ≡ false → put ≤ n → w ≤ n
good_get w get put n t l = grind (arith, nat_tests)

module _ (n : ℕ) where
  abbrev pub Keeps : End → Effect End (List Note) → Type 0
  Keeps e f = IsEndCounted n e → IsEndCounted n f.local

  either : (z : Bool) (e : End) (f g : Effect End (List Note)) → Keeps e f → Keeps e g → Keeps e (cond z f g)
  either true e f g a b = a
  either false e f g a b = b

  then_keeps : (e : End) (f : Effect End (List Note)) (g : End → Effect End (List Note)) → Keeps e f → Keeps f.local (g f.local) → Keeps e (and_then f g)
  then_keeps e f g a b h = b (a h)

  -- the connection goes down, and the epoch is over
  closes_now : (o : Option Reason) (reason : Reason) (e : End) → Keeps e (close_now o reason e)
  closes_now (Some first) reason e h = h
  closes_now None reason e h = hears_low n (down_notes reason e) (down_end reason e) (down_low n reason e.sides.send.send e.sides.pull.take e.sides.releasing e.sides.draining) h

  closes : (reason : Reason) (e : End) → Keeps e (channel_closed reason e)
  closes reason e h = closes_now e.shake.reason reason e h

  ends_epoch : (e : End) → is_ended e ≡ true → Keeps e (epoch_over e)
  ends_epoch e t h =
      let one = one_ending n e (and_parts e.shake.sent.close_reply e.shake.got.close_reply t).0 h in
      fresh_low n (epoch_over e).local.shake (e.epoch + 1) e refl one.0 (let l = closed_one e.shake.reason e.closed in let m = one.1 in omega (arith, l, m)) h

  unequals : (e : End) → Keeps e (unequal e)
  unequals e = either (are_unequal e) e (channel_closed (UnequalSizes (limit_in e.shake.own_size) (limit_in e.shake.their_size)) e) (just e) (closes (UnequalSizes (limit_in e.shake.own_size) (limit_in e.shake.their_size)) e) (λ h. h)

  changes : (e : End) → Keeps e (changed e)
  changes e = by (is_ended e) refl where
    by : (b : Bool) → is_ended e ≡ b → Keeps e (cond b (epoch_over e) (unequal e))
    by true t = ends_epoch e t
    by false t = unequals e

  -- a flag is handled
  requests : (o : Option ℕ) (e : End) → Keeps e (request_handled o e)
  requests None e = λ h. h
  requests (Some w) e =
      let sized : Effect End (List Note) = just (record e { shake = record e.shake { their_size = Some (size_in w) } }) in
      either (is_request w) e sized (channel_closed (BadArgs w) e) (λ h. h) (closes (BadArgs w) e)

  replies : (o : Option Replied) (e : End) → Keeps e (reply_handled o e)
  replies None e = λ h. h
  replies (Some x) e = either x.right e (just e) (channel_closed (BadArgs x.word) e) (λ h. h) (closes (BadArgs x.word) e)

  codes : (o : Option ℕ) (e : End) → Keeps e (code_handled o e)
  codes None e = λ h. h
  codes (Some w) e = either (is_code w) e (channel_closed (PartnerClosed w) e) (channel_closed (BadArgs w) e) (closes (PartnerClosed w) e) (closes (BadArgs w) e)

  well : (k : Kind) (e : End) → Keeps e (well_handled k e)
  well MsgRequest e =
      let z : End = record e { shake = record e.shake { taken = without MsgRequest e.shake.taken } } in
      let f : Effect End (List Note) = just (record z { sides = record z.sides { pull = record z.sides.pull { owed = true } } }) in
      either (is_connected z) e f (just z) (λ h. h) (λ h. h)
  well OpenRequest e = λ h. requests e.shake.request (kind_got OpenRequest e) h
  well OpenReply e = λ h. replies e.shake.reply (kind_got OpenReply e) h
  well CloseRequest e = λ h. codes e.shake.code (kind_got CloseRequest e) h
  well OpenComplete e = λ h. h
  well CloseReply e = λ h. h

  kinds_left : (k : Kind) (e : End) → Keeps e (kind_refused k e)
  kinds_left CloseRequest e = λ h. h
  kinds_left CloseReply e = λ h. h
  kinds_left OpenRequest e = λ h. h
  kinds_left OpenReply e = λ h. h
  kinds_left OpenComplete e = λ h. h
  kinds_left MsgRequest e = λ h. h

  handles : (k : Kind) (e : End) → Keeps e (handled k e)
  handles k e = either (refused k e) e (kind_refused k e) (well_handled k e) (kinds_left k e) (well k e)

  nexts : (o : Option Kind) (e : End) → Keeps e (handled_next o e)
  nexts None e = λ h. h
  nexts (Some k) e = either (has_argument k e.shake) e (and_then (handled k e) changed) (just e) (then_keeps e (handled k e) changed (handles k e) (changes (handled k e).local)) (λ h. h)

  settles : (k : ℕ) (e : End) → Keeps e (settle k e)
  settles zero e = λ h. h
  settles (suc k) e = let o = next_of e.shake.got.close_request e.shake.taken in then_keeps e (handled_next o e) (settle k) (nexts o e) (settles k (handled_next o e).local)

  all_settled : (e : End) → Keeps e (settled e)
  unfolding settled
  all_settled e = settles 6 e

  pub takes : (ks : Kinds) (e : End) → Keeps e (flags_got ks e)
  takes ks e = either (is_some e.shake.meet) e (and_then (just (with_taken ks e)) settled) (just e) (λ h. all_settled (with_taken ks e) h) (λ h. h)

  -- an argument is loaded or stored, and get is stored
  arguments : (x : Argument) (place w : ℕ) (e : End) → Keeps e (argument_read x place w e)
  arguments Request place w e h = all_settled (with_argument Request place w e) h
  arguments Reply place w e h = all_settled (with_argument Reply place w e) h
  arguments Code place w e h = all_settled (with_argument Code place w e) h

  argues : (x : Argument) (e : End) → Keeps e (just (argument_stored x e))
  argues Request e h = h
  argues Reply e h = h
  argues Code e h = h

  tells : (e : End) → Keeps e (acknowledged e)
  tells e h = by e.sides.releasing where
    low : e.sides.ack.front ≤ n
    low = let l = h.held in omega (arith, l)

    by : (b : Bool) → IsEndCounted n (hears (release_notes b e.sides.ack.front) (record e { sides = record e.sides { local_get = e.sides.ack.front; releasing = false }; shake = record e.shake { owes_message = true } }))
    by true = with_local n e.sides.ack.front (counts_of e) low h
    by false = with_local n e.sides.ack.front (counts_of e) low h

  -- a get is loaded
  gets_get : (e : End) (w : ℕ) → Keeps e (by_send e (ring_effect e.sides.send ReadGet w))
  gets_get e w h = bad (is_bad_get e.sides.send w) refl where
    full : (b : Bool) → w ≤ n → IsEndCounted n (by_send e (cond b (record { local = record e.sides.send { remote_get = w; send = None; written_words = 0 }; reason = None; notes = Sent (NoSlot e.sides.send.put w) ∷ [] }) (record { local = record e.sides.send { remote_get = w }; reason = None; notes = [] }))).local
    full true l = with_get n w (counts_of e) l h
    full false l = with_get n w (counts_of e) l h

    bad : (b : Bool) → is_bad_get e.sides.send w ≡ b → IsEndCounted n (by_send e (cond b (record { local = e.sides.send; reason = Some (BadCounters w e.sides.send.put); notes = [] }) (get_loaded e.sides.send w))).local
    bad true t = h
    bad false t = full (is_full e.sides.send w) (good_get w e.sides.send.remote_get e.sides.send.put n t h.put)

  counts : (e : End) (o : Option ℕ) (w : ℕ) → Keeps e (by_pull e (counters_pulled (sender_counters e.sides) o e.sides.pull w))
  counts e None w h = by (is_bad_counter (sender_counters e.sides) w) refl where
    by : (b : Bool) → is_bad_counter (sender_counters e.sides) w ≡ b → IsEndCounted n (by_pull e (cond b (record { local = record e.sides.pull { owed = false }; reason = Some (BadCounters w e.sides.send.put); notes = [] }) (record { local = record e.sides.pull { counters = Some w; known = w; owed = false }; reason = None; notes = Heard w ∷ [] }))).local
    by true t = h
    by false t = with_get n w (counts_of e) (good_get w e.sides.send.remote_get e.sides.send.put n t h.put) h
  counts e (Some get) w h = by (is_bad_put (sender_counters e.sides) e.sides.pull w) where
    by : (b : Bool) → IsEndCounted n (by_pull e (cond b (record { local = record e.sides.pull { counters = None }; reason = Some (BadCounters get w); notes = [] }) (record { local = record e.sides.pull { counters = None; pulled_put = w; empty = shown_empty e.sides.pull w }; reason = None; notes = [] }))).local
    by true = h
    by false = h

  copies : (e : End) (ws : List ℕ) → Keeps e (by_pull e (entry_pulled ws e.sides.pull))
  copies e ws h = by (eqb (length ws) (pull_words e.sides.pull * run_now e.sides.pull)) (run_fault e.sides.pull.limit e.sides.pull.pulled (run_now e.sides.pull) ws) where
    by : (b : Bool) (o : Option Reason) → IsEndCounted n (by_pull e (cond b (run_copied o (run_now e.sides.pull) ws e.sides.pull) (record { local = record e.sides.pull { copied = ws; run = run_now e.sides.pull }; reason = None; notes = [] }))).local
    by true None = h
    by true (Some r) = h
    by false o = h

  failed_counts : (kind : CopyKind) (e : End) → counts_of (copy_failed kind e) ≡ counts_of e
  failed_counts Counters e = refl
  failed_counts Entries e = refl
  failed_counts kind e = refl

  fails : (o : Option CopyMark) (e : End) → IsEndCounted n e → IsEndCounted n (end_failed o e)
  fails None e h = h
  fails (Some mark) e h = subst (AreEndCounts n) (sym (failed_counts mark.kind e)) h

  -- the partner goes down; a notice
  pub goes_down : (reason : Reason) (e : End) → Keeps e (link_down reason e)
  goes_down reason e h = either (is_begun e) e (close_now e.shake.reason reason e) (just e) (closes_now e.shake.reason reason e) (λ k. k) h

  pub notices : (e : End) (how : NoticeKind) (number : ℕ) → Keeps e (end_noticed how number e)
  notices e Delivered number h = h
  notices e Ended number h = h

  says : (notes : List Note) (e : End) → AreLowNotes n notes → IsEndCounted n e → IsEndCounted n (say notes e).local
  says notes e l h = hears_low n notes e l h

module _ (n : ℕ) where
  abbrev pub Raises : End → Effect End (List Note) → Type 0
  Raises e f = IsEndCounted n e → IsEndCounted (n + 1) f.local

  more : (e : End) → IsEndCounted n e → IsEndCounted (n + 1) e
  more e h = more_end n (n + 1) e (omega arith) h

  from : (e : End) (f : Effect End (List Note)) → Keeps (n + 1) e f → Raises e f
  from e f k h = k (more e h)

  -- a flag is sent
  sent : (k : Kind) (e : End) → IsEndCounted n e → IsEndCounted (n + 1) (end_sent k e)
  sent OpenRequest e h = more e h
  sent OpenReply e h = more e h
  sent OpenComplete e h = let k = more e h in record { epochs = k.epochs; put = omega arith; remote_get = omega arith; taken = omega arith; held = k.held; local_get = k.local_get; closed = k.closed; closed_asked = k.closed_asked }
  sent CloseRequest e h = more e h
  sent CloseReply e h = let k = more e h in let a = h.epochs in let b = h.closed in record { epochs = omega (arith, a); put = k.put; remote_get = k.remote_get; taken = k.taken; held = k.held; local_get = k.local_get; closed = omega (arith, b); closed_asked = k.closed_asked }
  sent MsgRequest e h = more e h

  controls : (k : Kind) (e : End) → Raises e (control_sent k e)
  controls k e h = all_settled (n + 1) _ (changes (n + 1) (end_sent k e) (sent k e h))

  sends : (k : Kind) (e : End) → Raises e (flag_sent k e)
  sends MsgRequest e h = more e h
  sends OpenRequest e h = controls OpenRequest e h
  sends OpenReply e h = controls OpenReply e h
  sends OpenComplete e h = controls OpenComplete e h
  sends CloseRequest e h = controls CloseRequest e h
  sends CloseReply e h = controls CloseReply e h

  accepts : (e : End) (w : ℕ) → Raises e (by_send e (ring_effect e.sides.send AcceptMessage w))
  accepts e w h = let l = h.put in with_put (n + 1) (e.sides.send.put + 1) (counts_of e) (omega (arith, l)) (more e h)

  links : (place : ℕ) (e : End) (m : LinkRule) (w : ℕ) → Raises e (link_effect place e m w)
  links place e (Ring ReadGet) w = from e (link_effect place e (Ring ReadGet) w) (gets_get (n + 1) e w)
  links place e (Ring (WriteEntryWord f)) w = from e (link_effect place e (Ring (WriteEntryWord f)) w) (λ h. h)
  links place e (Ring AcceptMessage) w = accepts e w
  links place e (Pull ReadCounters) w = from e (link_effect place e (Pull ReadCounters) w) (counts (n + 1) e e.sides.pull.counters w)
  links place e (Pull ReadEntry) w = from e (link_effect place e (Pull ReadEntry) w) (copies (n + 1) e (e.sides.pull.copied ++ w ∷ []))
  links place e Acknowledge w = from e (link_effect place e Acknowledge w) (tells (n + 1) e)
  links place e (SetFlag k) w = sends k e
  links place e ZeroGet w = from e (link_effect place e ZeroGet w) (λ h. h)
  links place e ZeroPut w = from e (link_effect place e ZeroPut w) (λ h. h)
  links place e (StoreArgument x) w = from e (link_effect place e (StoreArgument x) w) (argues (n + 1) x e)
  links place e (ReadArgument x) w = from e (link_effect place e (ReadArgument x) w) (arguments (n + 1) x place w e)

  pub linked : (mark : Option CopyMark) (place : ℕ) (e : End) (m : LinkRule) (a : Answer) → Raises e (link_answered mark place e m a)
  linked mark place e m (Word w) = links place e m w
  linked mark place e m Failed = λ h. more (end_failed mark e) (fails n mark e h)

  -- the partner has left; a contact is made
  pub finishes : (e : End) → Raises e (link_finished e)
  finishes e h = fresh_low (n + 1) no_shake 0 e refl (omega arith) (let l = closed_one e.shake.reason e.closed in let m = h.closed in omega (arith, l, m)) (more e h)

  pub joins : (new : Bool) (m : Contact) (e : End) → Raises e (link_joined new m e)
  joins new m e h = let l = h.closed in let k = h.closed_asked in record { epochs = omega arith; put = omega arith; remote_get = omega arith; taken = omega arith; held = omega arith; local_get = omega arith; closed = omega (arith, l); closed_asked = omega (arith, k) }

  -- a command is answered
  takes_found : (e : End) (b : Bool) (t : Option Bool) (empty : Option ℕ) (cache : List (List ℕ)) → Raises e (taken_by (cond b (found_by t (record e.sides.pull { empty = empty; cache = cache })) None) e)
  takes_found e false t empty cache h = more e h
  takes_found e true None empty cache h = more e h
  takes_found e true (Some wait) (Some put) cache h = more e h
  takes_found e true (Some wait) None [] h = more e h
  takes_found e true (Some wait) None (body ∷ rest) h =
      let l = h.taken in
      let m = h.held in
      let k = taken_as (n + 1) (e.sides.pull.taken + 1) (counts_of e) (omega (arith, l)) (more e h) in
      with_held (n + 1) (e.sides.ack.front + length (e.sides.ack.released_from_front ++ false ∷ [])) (record (counts_of e) { taken = e.sides.pull.taken + 1 }) (omega (arith, m, length-append e.sides.ack.released_from_front (false ∷ []))) k

  take_keeps : (o : Option TakeRefusal) (e : End) → Raises e (take_answered o e)
  take_keeps None e h = takes_found e (is_connected e) e.sides.pull.take e.sides.pull.empty e.sides.pull.cache h
  take_keeps (Some a) e h = more e h

  pub answers : (e : End) (x : Command) → Raises e (end_answered e x)
  answers e (commands.Send q c payload wait notify) h = more e h
  answers e (commands.Take q c wait) h = take_keeps e.decided.take e h
  answers e (commands.Release q c number) h = more e h
  answers e (commands.Drain q c) h = more e h
  answers e (commands.Register q c entries limit) h = more e h
  answers e (commands.Unregister q c) h = more e h
  answers e (commands.Connected q c) h = more e h
  answers e (commands.Closed q c) h = more e h
  answers e (commands.Net frame) h = more e h
  answers e (commands.Frames count) h = more e h
  answers e (commands.Deactivate q) h = more e h
  answers e (commands.Activate q) h = more e h
  answers e commands.Leave h = more e h
  answers e (commands.Idle turns) h = more e h
  answers e commands.Offline h = more e h
  answers e commands.Online h = more e h

  -- a command is begun
  sends_begun : (o : Option SendAnswer) (payload : List ℕ) (wait notify : Bool) (e : End) → Raises e (send_begun o payload wait notify e)
  sends_begun None payload wait notify e h = more e h
  sends_begun (Some a) payload wait notify e h = more e h

  takes_begun : (o : Option TakeRefusal) (wait : Bool) (e : End) → Raises e (take_begun o wait e)
  takes_begun None wait e h = more e h
  takes_begun (Some a) wait e h = more e h

  release_low : (b : Bool) (number : ℕ) (x : Releasing) → AreLowNotes (n + 1) (release_held b number x)
  release_low true number x = (tt, (tt, tt))
  release_low false number x = (tt, tt)

  releases_begun : (o : Option ReleaseAnswer) (number : ℕ) (e : End) → Raises e (release_begun o number e)
  releases_begun None number e h =
      let new = message_released number e.sides.ack in
      let stays = eqb e.sides.ack.front new.front in
      let l = h.held in
      says (n + 1) (release_held stays number new) (record e { sides = record e.sides { ack = new; releasing = not stays } }) (release_low stays number new) (with_held (n + 1) (new.front + length new.released_from_front) (counts_of e) (omega (arith, l, released_total number e.sides.ack)) (more e h))
  releases_begun (Some a) number e h = more e h

  drains_begun : (o : Option DrainAnswer) (e : End) → Raises e (drain_begun o e)
  drains_begun None e h = more e h
  drains_begun (Some a) e h = more e h

  registers_begun : (o : Option Size) (z : Size) (e : End) → Raises e (register_begun o z e)
  registers_begun None z e h = more e h
  registers_begun (Some first) z e h = more e h

  unregisters : (o : Option Size) (e : End) → Raises e (unregister_begun o e)
  unregisters None e h = more e h
  unregisters (Some z) e h =
      let f = say (Withdrawn UnregisterOk ∷ []) (record e { registration = None }) in
      either (n + 1) (f.local.shake.sent.open_request && not (is_some f.local.shake.reason)) f.local (channel_closed Unregistered f.local) (just f.local) (closes (n + 1) Unregistered f.local) (λ x. x) (more e h)

  pub begins : (e : End) (x : Command) → Raises e (end_begun e x)
  begins e (commands.Send q c payload wait notify) h = sends_begun (refused_send e payload) payload wait notify e h
  begins e (commands.Take q c wait) h = takes_begun (take_refusal (link_of e)) wait e h
  begins e (commands.Release q c number) h = releases_begun (release_refusal (link_of e) number e.sides.ack) number e h
  begins e (commands.Drain q c) h = drains_begun (drain_refusal (link_of e)) e h
  begins e (commands.Register q c entries limit) h = registers_begun e.registration (record { entries = entries; limit = limit }) e h
  begins e (commands.Unregister q c) h = unregisters e.registration e h
  begins e (commands.Connected q c) h = more e h
  begins e (commands.Closed q c) h = let l = h.closed_asked in with_asked (n + 1) (e.closed_asked + 1) (counts_of e) (omega (arith, l)) (more e h)
  begins e (commands.Net frame) h = more e h
  begins e (commands.Frames count) h = more e h
  begins e (commands.Deactivate q) h = more e h
  begins e (commands.Activate q) h = more e h
  begins e commands.Leave h = more e h
  begins e (commands.Idle turns) h = more e h
  begins e commands.Offline h = more e h
  begins e commands.Online h = more e h

-- a boot begins
pub boots : (n : ℕ) (e : End) → IsEndCounted n (booted_end e)
boots n e = record { epochs = omega arith; put = omega arith; remote_get = omega arith; taken = omega arith; held = omega arith; local_get = omega arith; closed = omega arith; closed_asked = omega arith }
