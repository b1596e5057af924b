-- What an end knows of the words that are stored for it: its registration, the size that it asked for, the limit of its queue, the message that is being sent, and how many messages were put, taken and released. A law of one end, whatever changes it.
use Rattle.std.proofs.Common.{◌≡◌, ℕ, zero, suc, ◌+◌, ◌-◌, ◌*◌, ◌≤◌, Bool, true, false, not, ◌&&◌, cond, eqb, ltb, List, [], ◌∷◌, ◌++◌, length, length-append, set, refl, ap, sym, ◌∙◌, subst, arith, Option, Some, None}
use Rattle.std.specs.Prelude.{is_some, IsSome}
use Rattle.std.proofs.lemmas.Bool.Decides.{nat_tests}
use Rattle.std.proofs.lemmas.List.{length-set}
use Rattle.xp_base.specs.declared.body.TheConstants.{LINE_BYTES}
use Rattle.xp_base.specs.declared.answer.SendAnswer.{SendAnswer}
use Rattle.xp_base.specs.declared.answer.SendAnswer.TheVariants.{TooBig, NoSlot}
use Rattle.xp_base.specs.declared.answer.DrainAnswer.{DrainAnswer}
use Rattle.xp_base.specs.declared.answer.ReleaseAnswer.{ReleaseAnswer}
use Rattle.xp_base.specs.declared.answer.RegisterAnswer.TheVariants.{Ok as RegisterOk, Already}
use Rattle.xp_base.specs.declared.answer.UnregisterAnswer.TheVariants.{Ok as UnregisterOk, NotRegistered}
use Rattle.xp_base.specs.declared.link.Kind.{Kind}
use Rattle.xp_base.specs.declared.link.Kind.TheVariants.{CloseRequest, CloseReply, OpenRequest, OpenReply, OpenComplete, MsgRequest}
use Rattle.xp_base.specs.declared.link.LinkState.{LinkState}
use Rattle.xp_base.specs.declared.link.LinkState.TheVariants.{Idle, Opening, Connected, Closing}
use Rattle.xp_base.specs.declared.reason.Reason.{Reason}
use Rattle.xp_base.specs.declared.reason.Reason.TheVariants.{UnequalSizes, BadArgs, BadCounters, PartnerClosed, Unregistered}
use Rattle.xp_base.specs.declared.step.Answer.{Answer}
use Rattle.xp_base.specs.declared.step.Answer.TheVariants.{Word, Failed}
use Rattle.xp_base.specs.declared.step.CopyKind.{CopyKind}
use Rattle.xp_base.specs.declared.step.CopyKind.TheVariants.{Counters, Entries}
use Rattle.xp_base.specs.declared.step.CopyMark.{CopyMark}
use Rattle.xp_base.specs.Kinds.{Kinds, without, next_of}
use Rattle.xp_base.specs.History.{NoticeKind, Delivered, Ended}
use Rattle.xp_script.specs.declared.command.Command.{Command}
use Rattle.xp_script.specs.declared.command.Command.TheVariants as commands
use Rattle.xp_script.specs.declared.part.Link.{Link}
use Rattle.xp_script.specs.Lawful.{AreBytes}
use Rattle.xp_protocol.specs.declared.refusal.TakeRefusal.{TakeRefusal}
use Rattle.xp_protocol.specs.declared.rule.Argument.{Argument}
use Rattle.xp_protocol.specs.declared.rule.Argument.TheVariants.{Request, Reply, Code}
use Rattle.xp_protocol.specs.declared.rule.RingRule.TheVariants.{ReadGet, WriteEntryWord, AcceptMessage}
use Rattle.xp_protocol.specs.declared.rule.PullRule.TheVariants.{ReadCounters, ReadEntry}
use Rattle.xp_protocol.specs.declared.rule.LinkRule.{LinkRule}
use Rattle.xp_protocol.specs.declared.rule.LinkRule.TheVariants.{Ring, Pull, Acknowledge, SetFlag, ZeroGet, ZeroPut, StoreArgument, ReadArgument}
use Rattle.xp_protocol.specs.Parts.{IsRequestSize}
use Rattle.xp_protocol.specs.Effects.{Effect, just, and_then, Accepted, Sent, Heard, TakeRefused, Note, BySend, ByPull, Began, Joined, Taken, Freed, Acked, Told, ToldOver, Over, Released, Drained, Registered, Withdrawn}
use Rattle.xp_protocol.specs.Sending.{Send, is_bad_get, is_full, get_loaded, ring_effect, link_refusal}
use Rattle.xp_protocol.specs.Pulling.{counters_pulled, is_bad_counter, is_bad_put, shown_empty, entry_pulled, run_copied, run_fault, run_now, words_each as pull_words, lesser, found_by, take_refusal}
use Rattle.xp_protocol.specs.Releasing.{Releasing, fronted, message_released, release_refusal}
use Rattle.xp_protocol.specs.State.{End, Shake, no_shake, Size, Replied, Contact, idle_end, warm_end, size_of, size_in, state_by, both_complete, link_of, is_begun, is_connected}
use Rattle.xp_protocol.specs.Linking.{hear, hears, by_send, by_pull, sender_counters, acknowledged, release_notes, link_can, link_effect, copy_failed, down_notes, down_end, close_now, link_down, kept_for, fresh_end, link_finished, link_joined, booted_end, channel_closed, epoch_over, is_ended, are_unequal, unequal, changed, kind_got, is_request, request_handled, reply_handled, is_code, code_handled, refused, kind_refused, well_handled, handled, has_argument, handled_next, settle, settled, with_taken, flags_got, limit_in, end_sent, control_sent, flag_sent, with_argument, argument_read, argument_stored}
use Rattle.xp_protocol.specs.Rules.{link_answered, end_failed}
use Rattle.xp_protocol.specs.Acts.{say, limit_by, limit_of, too_long, first_of, refused_send, send_begun, take_begun, release_held, release_begun, drain_refusal, drain_begun, register_begun, unregister_begun, end_begun, taken_by, take_answered, end_answered, end_noticed}

-- 1 where there is something
abbrev pub one_of : {A : Type 0} → Option A → ℕ
one_of None = 0
one_of (Some x) = 1

pub record Facts : Type 0 where
  pub registration : Option Size
  pub asked : Option Size
  pub limit : ℕ
  pub put : ℕ
  pub send : Option Send
  pub ack : Releasing
  pub take : Option Bool

abbrev pub facts : End → Facts
facts e = record {
  registration = e.registration;
  asked = e.shake.own_size;
  limit = e.sides.send.limit;
  put = e.sides.send.put;
  send = e.sides.send.send;
  ack = e.sides.ack;
  take = e.sides.pull.take;
}

-- a size that a partition may ask for whose payloads have at most so many bytes
abbrev pub IsSizeTo : ℕ → Size → Type 0
IsSizeTo most z = IsRequestSize z.entries z.limit × (z.limit ≤ most)

-- after so many commands of the script of this boot: each put was of one of them, and each message that was taken
pub record Backed (most begun : ℕ) (x : Facts) : Type 0 where
  pub size : (z : Size) → x.registration ≡ Some z → IsSizeTo most z
  pub asked : limit_in x.asked ≤ most
  pub limit : x.limit ≤ most
  pub message : (y : Send) → x.send ≡ Some y → AreBytes y.payload × (length y.payload ≤ x.limit)
  pub puts : x.put + one_of x.send ≤ begun
  pub gets : x.ack.front + length x.ack.released_from_front + one_of x.take ≤ begun

pub more_begun : (most a b : ℕ) (x : Facts) → a ≤ b → Backed most a x → Backed most b x
more_begun most a b x l h = record { size = h.size; asked = h.asked; limit = h.limit; message = h.message; puts = omega (arith, h.puts, l); gets = omega (arith, h.gets, l) }

-- no note changes these
hear_facts : (n : Note) (e : End) → facts (hear n e) ≡ facts e
hear_facts (BySend (Accepted number body asks)) e = refl
hear_facts (BySend (Sent a)) e = refl
hear_facts (ByPull (Heard get)) e = refl
hear_facts (ByPull (TakeRefused a)) e = refl
hear_facts (Began epoch own theirs) e = refl
hear_facts Joined e = refl
hear_facts (Taken body) e = refl
hear_facts (Freed number) e = refl
hear_facts (Acked get) e = refl
hear_facts (Told number) e = refl
hear_facts (ToldOver number) e = refl
hear_facts (Over reason) e = refl
hear_facts (Released a) e = refl
hear_facts (Drained a) e = refl
hear_facts (Registered a) e = refl
hear_facts (Withdrawn a) e = refl

hears_facts : (ns : List Note) (e : End) → facts (hears ns e) ≡ facts e
hears_facts [] e = refl
hears_facts (n ∷ ns) e = hears_facts ns (hear n e) ∙ hear_facts n e

kept_size : (r : Option Reason) (o : Option Size) (z : Size) → kept_for r o ≡ Some z → o ≡ Some z
kept_size None o z h = h
kept_size (Some (UnequalSizes own theirs)) o z h = absurd (cc)
kept_size (Some (BadArgs word)) o z h = absurd (cc)
kept_size (Some reason) o z h = h

fronted_total : (front : ℕ) (bs : List Bool) → (fronted front bs).front + length (fronted front bs).released_from_front ≡ front + length bs
fronted_total front [] = refl
fronted_total front (false ∷ more) = refl
fronted_total front (true ∷ more) = omega (arith, fronted_total (front + 1) more)

released_total : (number : ℕ) (x : Releasing) → (message_released number x).front + length (message_released number x).released_from_front ≡ x.front + length x.released_from_front
released_total number x = omega (arith, fronted_total x.front (set x.released_from_front (number - x.front) true), length-set x.released_from_front (number - x.front) true)

-- a send that isn't refused
is_joined : (o : Option Reason) (a b : Bool) → state_by o a b ≡ Connected → (b && not (is_some o)) ≡ true
is_joined (Some r) a b h = absurd (cc)
is_joined None a true h = refl
is_joined None true false h = absurd (cc)
is_joined None false false h = absurd (cc)

short_by : (limit : ℕ) (payload : List ℕ) → too_long (Some limit) payload ≡ None → length payload ≤ limit
short_by limit payload h = by (ltb limit (length payload)) refl h where
  by : (b : Bool) → ltb limit (length payload) ≡ b → cond b (Some (TooBig (length payload) limit)) None ≡ None → length payload ≤ limit
  by true l k = absurd (cc)
  by false l k = grind (arith, nat_tests)

link_open : (x : LinkState) → link_refusal x ≡ None → x ≡ Connected
link_open Connected h = refl
link_open Idle h = absurd (cc)
link_open Opening h = absurd (cc)
link_open (Closing r) h = absurd (cc)

first_none : (a b : Option SendAnswer) → first_of a b ≡ None → (a ≡ None) × (b ≡ None)
first_none None b h = (refl, h)
first_none (Some x) b h = absurd (cc)

sends_short : (e : End) (payload : List ℕ) → refused_send e payload ≡ None → length payload ≤ e.sides.send.limit
sends_short e payload h =
    let none = first_none (too_long (limit_of e) payload) (link_refusal (link_of e)) h in
    let on = link_open (link_of e) none.1 in
    short_by e.sides.send.limit payload (sym (ap (λ (b : Bool). too_long (limit_by b e) payload) (is_joined e.shake.reason e.shake.sent.open_request (both_complete e.shake) on)) ∙ none.0)

-- what a command must be, where payloads have at most so many bytes
abbrev pub IsBackedCommand : ℕ → Command → Type 0
IsBackedCommand most (commands.Register q c entries limit) = IsSizeTo most (record { entries = entries; limit = limit })
IsBackedCommand most (commands.Send q c payload wait notify) = AreBytes payload
IsBackedCommand most x = Unit {0}

module _ (most begun : ℕ) (line : LINE_BYTES ≤ most) where
  abbrev pub Keeps : End → Effect End (List Note) → Type 0
  Keeps e f = Backed most begun (facts e) → Backed most begun (facts f.local)

  calm : (e : End) (f : Effect End (List Note)) → facts f.local ≡ facts e → Keeps e f
  calm e f v h = subst (Backed most begun) (sym v) h

  either : (z : Bool) (e : End) (f g : Effect End (List Note)) → Keeps e f → Keeps e g → Keeps e (cond z f g)
  either true e f g a b = a
  either false e f g a b = b

  then_keeps : (e : End) (f : Effect End (List Note)) (g : End → Effect End (List Note)) → Keeps e f → Keeps f.local (g f.local) → Keeps e (and_then f g)
  then_keeps e f g a b h = b (a h)

  pub idle_backed : Backed most begun (facts idle_end)
  idle_backed = record { size = λ z k. absurd (cc); asked = omega arith; limit = line; message = λ y k. absurd (cc); puts = omega arith; gets = omega arith }

  pub warm_backed : (new : Bool) (l : Link) → IsSizeTo most (size_of l) → Backed most begun (facts (warm_end new l))
  warm_backed new l z = record { size = λ y k. (let same : size_of l ≡ y = cc in subst (IsSizeTo most) same z); asked = z.1; limit = z.1; message = λ y k. absurd (cc); puts = omega arith; gets = omega arith }

  -- the connection goes down, and the epoch is over
  downs : (reason : Reason) (e : End) → Backed most begun (facts e) → Backed most begun (facts (down_end reason e))
  downs reason e h = record { size = h.size; asked = h.asked; limit = h.limit; message = λ y k. absurd (cc); puts = omega (arith, h.puts); gets = omega (arith, h.gets) }

  closes_now : (o : Option Reason) (reason : Reason) (e : End) → Keeps e (close_now o reason e)
  closes_now (Some first) reason e h = h
  closes_now None reason e h = subst (Backed most begun) (sym (hears_facts (down_notes reason e) (down_end reason e))) (downs reason e h)

  closes : (reason : Reason) (e : End) → Keeps e (channel_closed reason e)
  closes reason e h = closes_now e.shake.reason reason e h

  freshes : (shake : Shake) (epoch : ℕ) (e : End) → shake.own_size ≡ None → Backed most begun (facts e) → Backed most begun (facts (fresh_end shake epoch e))
  freshes shake epoch e none h = record { size = λ z k. h.size z (kept_size e.shake.reason e.registration z k); asked = rw none (omega arith); limit = h.limit; message = λ y k. absurd (cc); puts = omega arith; gets = omega arith }

  changes : (e : End) → Keeps e (changed e)
  changes e = either (is_ended e) e (epoch_over e) (unequal e) (λ h. freshes (epoch_over e).local.shake (e.epoch + 1) e refl h) (either (are_unequal e) e (channel_closed (UnequalSizes (limit_in e.shake.own_size) (limit_in e.shake.their_size)) e) (just e) (closes (UnequalSizes (limit_in e.shake.own_size) (limit_in e.shake.their_size)) e) (λ h. h))

  -- a flag is handled
  requests : (o : Option ℕ) (e : End) → Keeps e (request_handled o e)
  requests None e = λ h. h
  requests (Some w) e =
      let sized : Effect End (List Note) = just (record e { shake = record e.shake { their_size = Some (size_in w) } }) in
      either (is_request w) e sized (channel_closed (BadArgs w) e) (λ h. calm e sized refl h) (closes (BadArgs w) e)

  replies : (o : Option Replied) (e : End) → Keeps e (reply_handled o e)
  replies None e = λ h. h
  replies (Some x) e = either x.right e (just e) (channel_closed (BadArgs x.word) e) (λ h. h) (closes (BadArgs x.word) e)

  codes : (o : Option ℕ) (e : End) → Keeps e (code_handled o e)
  codes None e = λ h. h
  codes (Some w) e = either (is_code w) e (channel_closed (PartnerClosed w) e) (channel_closed (BadArgs w) e) (closes (PartnerClosed w) e) (closes (BadArgs w) e)

  well : (k : Kind) (e : End) → Keeps e (well_handled k e)
  well MsgRequest e =
      let z : End = record e { shake = record e.shake { taken = without MsgRequest e.shake.taken } } in
      let f : Effect End (List Note) = just (record z { sides = record z.sides { pull = record z.sides.pull { owed = true } } }) in
      either (is_connected z) e f (just z) (calm e f refl) (calm e (just z) refl)
  well OpenRequest e = λ h. requests e.shake.request (kind_got OpenRequest e) (calm e (just (kind_got OpenRequest e)) refl h)
  well OpenReply e = λ h. replies e.shake.reply (kind_got OpenReply e) (calm e (just (kind_got OpenReply e)) refl h)
  well CloseRequest e = λ h. codes e.shake.code (kind_got CloseRequest e) (calm e (just (kind_got CloseRequest e)) refl h)
  well OpenComplete e = calm e (just (kind_got OpenComplete e)) refl
  well CloseReply e = calm e (just (kind_got CloseReply e)) refl

  refused_facts : (k : Kind) (e : End) → facts (kind_refused k e).local ≡ facts e
  refused_facts OpenRequest e = refl
  refused_facts OpenReply e = refl
  refused_facts OpenComplete e = refl
  refused_facts CloseRequest e = refl
  refused_facts CloseReply e = refl
  refused_facts MsgRequest e = refl

  handles : (k : Kind) (e : End) → Keeps e (handled k e)
  handles k e = either (refused k e) e (kind_refused k e) (well_handled k e) (calm e (kind_refused k e) (refused_facts k e)) (well k e)

  nexts : (o : Option Kind) (e : End) → Keeps e (handled_next o e)
  nexts None e = λ h. h
  nexts (Some k) e = either (has_argument k e.shake) e (and_then (handled k e) changed) (just e) (then_keeps e (handled k e) changed (handles k e) (changes (handled k e).local)) (λ h. h)

  settles : (n : ℕ) (e : End) → Keeps e (settle n e)
  settles zero e = λ h. h
  settles (suc n) e = let o = next_of e.shake.got.close_request e.shake.taken in then_keeps e (handled_next o e) (settle n) (nexts o e) (settles n (handled_next o e).local)

  all_settled : (e : End) → Keeps e (settled e)
  unfolding settled
  all_settled e = settles 6 e

  pub takes : (ks : Kinds) (e : End) → Keeps e (flags_got ks e)
  takes ks e = either (is_some e.shake.meet) e (and_then (just (with_taken ks e)) settled) (just e) (λ h. all_settled (with_taken ks e) (calm e (just (with_taken ks e)) refl h)) (λ h. h)

  -- a flag is sent
  opened : (o : Option Size) → ((z : Size) → o ≡ Some z → IsSizeTo most z) → limit_in o ≤ most
  opened None h = omega arith
  opened (Some z) h = (h z refl).1

  lesser_low : (a b : ℕ) → a ≤ most → lesser a b ≤ most
  lesser_low a b l = by (ltb a b) refl where
    by : (z : Bool) → ltb a b ≡ z → cond z a b ≤ most
    by true e = l
    by false e = grind (arith, nat_tests)

  sent : (k : Kind) (e : End) → Backed most begun (facts e) → Backed most begun (facts (end_sent k e))
  sent OpenRequest e h = record { size = h.size; asked = opened e.registration h.size; limit = h.limit; message = h.message; puts = h.puts; gets = h.gets }
  sent OpenReply e h = h
  sent OpenComplete e h = record { size = h.size; asked = h.asked; limit = lesser_low (limit_in e.shake.own_size) (limit_in e.shake.their_size) h.asked; message = λ y k. absurd (cc); puts = omega arith; gets = omega (arith, h.gets) }
  sent CloseRequest e h = h
  sent CloseReply e h = h
  sent MsgRequest e h = h

  controls : (k : Kind) (e : End) → Keeps e (control_sent k e)
  controls k e h = all_settled _ (changes (end_sent k e) (sent k e h))

  sends : (k : Kind) (e : End) → Keeps e (flag_sent k e)
  sends MsgRequest e = calm e (flag_sent MsgRequest e) refl
  sends OpenRequest e = controls OpenRequest e
  sends OpenReply e = controls OpenReply e
  sends OpenComplete e = controls OpenComplete e
  sends CloseRequest e = controls CloseRequest e
  sends CloseReply e = controls CloseReply e

  -- the steps of the sides
  gets_get : (e : End) (w : ℕ) → Keeps e (by_send e (ring_effect e.sides.send ReadGet w))
  gets_get e w h = bad (is_bad_get e.sides.send w) where
    over : Backed most begun (record (facts e) { send = None })
    over = record { size = h.size; asked = h.asked; limit = h.limit; message = λ y k. absurd (cc); puts = omega (arith, h.puts); gets = h.gets }

    full : (b : Bool) → Backed most begun (facts (by_send e (cond b (record { local = record e.sides.send { remote_get = w; send = None; written_words = 0 }; reason = None; notes = Sent (NoSlot e.sides.send.put w) ∷ [] }) (record { local = record e.sides.send { remote_get = w }; reason = None; notes = [] }))).local)
    full true = over
    full false = h

    bad : (b : Bool) → Backed most begun (facts (by_send e (cond b (record { local = e.sides.send; reason = Some (BadCounters w e.sides.send.put); notes = [] }) (get_loaded e.sides.send w))).local)
    bad true = h
    bad false = full (is_full e.sides.send w)

  accepts : (e : End) (w : ℕ) → IsSome e.sides.send.send → Keeps e (by_send e (ring_effect e.sides.send AcceptMessage w))
  accepts e w some h = by e.sides.send.send some h.puts where
    by : (o : Option Send) → IsSome o → e.sides.send.put + one_of o ≤ begun → Backed most begun (record (facts e) { put = e.sides.send.put + 1; send = None })
    by None s l = absurd (cc)
    by (Some y) s l = record { size = h.size; asked = h.asked; limit = h.limit; message = λ z k. absurd (cc); puts = omega (arith, l); gets = h.gets }

  counts : (e : End) (o : Option ℕ) (w : ℕ) → Keeps e (by_pull e (counters_pulled (sender_counters e.sides) o e.sides.pull w))
  counts e None w h = by (is_bad_counter (sender_counters e.sides) w) where
    by : (b : Bool) → Backed most begun (facts (by_pull e (cond b (record { local = record e.sides.pull { owed = false }; reason = Some (BadCounters w e.sides.send.put); notes = [] }) (record { local = record e.sides.pull { counters = Some w; known = w; owed = false }; reason = None; notes = Heard w ∷ [] }))).local)
    by true = h
    by false = h
  counts e (Some get) w h = by (is_bad_put (sender_counters e.sides) e.sides.pull w) where
    by : (b : Bool) → Backed most begun (facts (by_pull e (cond b (record { local = record e.sides.pull { counters = None }; reason = Some (BadCounters get w); notes = [] }) (record { local = record e.sides.pull { counters = None; pulled_put = w; empty = shown_empty e.sides.pull w }; reason = None; notes = [] }))).local)
    by true = h
    by false = h

  copies : (e : End) (ws : List ℕ) → Keeps e (by_pull e (entry_pulled ws e.sides.pull))
  copies e ws h = by (eqb (length ws) (pull_words e.sides.pull * run_now e.sides.pull)) (run_fault e.sides.pull.limit e.sides.pull.pulled (run_now e.sides.pull) ws) where
    by : (b : Bool) (o : Option Reason) → Backed most begun (facts (by_pull e (cond b (run_copied o (run_now e.sides.pull) ws e.sides.pull) (record { local = record e.sides.pull { copied = ws; run = run_now e.sides.pull }; reason = None; notes = [] }))).local)
    by true None = h
    by true (Some r) = h
    by false o = h

  tells : (e : End) → Keeps e (acknowledged e)
  tells e h = by e.sides.releasing where
    by : (b : Bool) → Backed most begun (facts (hears (release_notes b e.sides.ack.front) (record e { sides = record e.sides { local_get = e.sides.ack.front; releasing = false }; shake = record e.shake { owes_message = true } })))
    by true = h
    by false = h

  arguments : (x : Argument) (place w : ℕ) (e : End) → Keeps e (argument_read x place w e)
  arguments Request place w e h = all_settled (with_argument Request place w e) h
  arguments Reply place w e h = all_settled (with_argument Reply place w e) h
  arguments Code place w e h = all_settled (with_argument Code place w e) h

  argues : (x : Argument) (e : End) → Keeps e (just (argument_stored x e))
  argues Request e h = h
  argues Reply e h = h
  argues Code e h = h

  links : (place : ℕ) (e : End) (m : LinkRule) (w : ℕ) → link_can e m → Keeps e (link_effect place e m w)
  links place e (Ring ReadGet) w can = gets_get e w
  links place e (Ring (WriteEntryWord f)) w can = calm e (by_send e (ring_effect e.sides.send (WriteEntryWord f) w)) refl
  links place e (Ring AcceptMessage) w can = accepts e w can.1.0
  links place e (Pull ReadCounters) w can = counts e e.sides.pull.counters w
  links place e (Pull ReadEntry) w can = copies e (e.sides.pull.copied ++ w ∷ [])
  links place e Acknowledge w can = tells e
  links place e (SetFlag k) w can = sends k e
  links place e ZeroGet w can = calm e (link_effect place e ZeroGet w) refl
  links place e ZeroPut w can = calm e (link_effect place e ZeroPut w) refl
  links place e (StoreArgument x) w can = argues x e
  links place e (ReadArgument x) w can = arguments x place w e

  failed_facts : (kind : CopyKind) (e : End) → facts (copy_failed kind e) ≡ facts e
  failed_facts Counters e = refl
  failed_facts Entries e = refl
  failed_facts kind e = refl

  fails : (o : Option CopyMark) (e : End) → Backed most begun (facts e) → Backed most begun (facts (end_failed o e))
  fails None e h = h
  fails (Some mark) e h = subst (Backed most begun) (sym (failed_facts mark.kind e)) h

  pub linked : (mark : Option CopyMark) (place : ℕ) (e : End) (m : LinkRule) (a : Answer) → link_can e m → Keeps e (link_answered mark place e m a)
  linked mark place e m (Word w) can = links place e m w can
  linked mark place e m Failed can = fails mark e

  -- the partner goes down, or has left; a contact is made
  pub goes_down : (reason : Reason) (e : End) → Keeps e (link_down reason e)
  goes_down reason e h = either (is_begun e) e (close_now e.shake.reason reason e) (just e) (closes_now e.shake.reason reason e) (λ k. k) h

  pub finishes : (e : End) → Keeps e (link_finished e)
  finishes e h = freshes no_shake 0 e refl h

  pub joins : (new : Bool) (m : Contact) (e : End) → Keeps e (link_joined new m e)
  joins new m e h = record { size = h.size; asked = omega arith; limit = line; message = λ y k. absurd (cc); puts = omega arith; gets = omega arith }

  -- an answer that is given, and a notice
  takes_found : (e : End) (b : Bool) (t : Option Bool) (empty : Option ℕ) (cache : List (List ℕ)) → e.sides.pull.take ≡ t → Keeps e (taken_by (cond b (found_by t (record e.sides.pull { empty = empty; cache = cache })) None) e)
  takes_found e false t empty cache k h = h
  takes_found e true None empty cache k h = h
  takes_found e true (Some wait) (Some put) cache k h = record { size = h.size; asked = h.asked; limit = h.limit; message = h.message; puts = h.puts; gets = omega (arith, h.gets) }
  takes_found e true (Some wait) None [] k h = h
  takes_found e true (Some wait) None (body ∷ more) k h =
      let old : e.sides.ack.front + length e.sides.ack.released_from_front + 1 ≤ begun = subst (λ (o : Option Bool). e.sides.ack.front + length e.sides.ack.released_from_front + one_of o ≤ begun) k h.gets in
      record { size = h.size; asked = h.asked; limit = h.limit; message = h.message; puts = h.puts; gets = omega (arith, old, length-append e.sides.ack.released_from_front (false ∷ [])) }

  take_keeps : (o : Option TakeRefusal) (e : End) → Keeps e (take_answered o e)
  take_keeps None e h = takes_found e (is_connected e) e.sides.pull.take e.sides.pull.empty e.sides.pull.cache refl h
  take_keeps (Some a) e h = h

  pub answers : (e : End) (x : Command) → Keeps e (end_answered e x)
  answers e (commands.Send q c payload wait notify) h = h
  answers e (commands.Take q c wait) h = take_keeps e.decided.take e h
  answers e (commands.Release q c number) h = h
  answers e (commands.Drain q c) h = h
  answers e (commands.Register q c entries limit) h = h
  answers e (commands.Unregister q c) h = h
  answers e (commands.Connected q c) h = h
  answers e (commands.Closed q c) h = h
  answers e (commands.Net frame) h = h
  answers e (commands.Frames count) h = h
  answers e (commands.Deactivate q) h = h
  answers e (commands.Activate q) h = h
  answers e commands.Leave h = h
  answers e (commands.Idle turns) h = h
  answers e commands.Offline h = h
  answers e commands.Online h = h

  pub notices : (e : End) (how : NoticeKind) (number : ℕ) → Keeps e (end_noticed how number e)
  notices e Delivered number h = h
  notices e Ended number h = h

  -- a command that is begun: one more
  abbrev pub Begins : End → Effect End (List Note) → Type 0
  Begins e f = Backed most begun (facts e) → Backed most (begun + 1) (facts f.local)

  more : (x : Facts) → Backed most begun x → Backed most (begun + 1) x
  more x h = more_begun most begun (begun + 1) x (omega arith) h

  says : (ns : List Note) (e : End) → Backed most (begun + 1) (facts e) → Backed most (begun + 1) (facts (say ns e).local)
  says ns e h = subst (Backed most (begun + 1)) (sym (hears_facts ns e)) h

  sends_begun : (o : Option SendAnswer) (payload : List ℕ) (wait notify : Bool) (e : End) → AreBytes payload → refused_send e payload ≡ o → Begins e (send_begun o payload wait notify e)
  sends_begun None payload wait notify e bytes r h = record {
    size = h.size;
    asked = h.asked;
    limit = h.limit;
    message = λ y k. (let same : record { payload = payload; wait = wait; notify = notify } ≡ y = cc in subst (λ (z : Send). AreBytes z.payload × (length z.payload ≤ e.sides.send.limit)) same (bytes, sends_short e payload r));
    puts = omega (arith, h.puts);
    gets = omega (arith, h.gets);
  }
  sends_begun (Some a) payload wait notify e bytes r h = says (BySend (Sent a) ∷ []) e (more (facts e) h)

  takes_begun : (o : Option TakeRefusal) (wait : Bool) (e : End) → Begins e (take_begun o wait e)
  takes_begun None wait e h = record { size = h.size; asked = h.asked; limit = h.limit; message = h.message; puts = omega (arith, h.puts); gets = omega (arith, h.gets) }
  takes_begun (Some a) wait e h = says (ByPull (TakeRefused a) ∷ []) e (more (facts e) h)

  releases_begun : (o : Option ReleaseAnswer) (number : ℕ) (e : End) → Begins e (release_begun o number e)
  releases_begun None number e h =
      let new = message_released number e.sides.ack in
      let stays = eqb e.sides.ack.front new.front in
      says (release_held stays number new) (record e { sides = record e.sides { ack = new; releasing = not stays } }) (record { size = h.size; asked = h.asked; limit = h.limit; message = h.message; puts = omega (arith, h.puts); gets = omega (arith, h.gets, released_total number e.sides.ack) })
  releases_begun (Some a) number e h = says (Released a ∷ []) e (more (facts e) h)

  drains_begun : (o : Option DrainAnswer) (e : End) → Begins e (drain_begun o e)
  drains_begun None e h = more (facts e) h
  drains_begun (Some a) e h = says (Drained a ∷ []) e (more (facts e) h)

  registers_begun : (o : Option Size) (z : Size) (e : End) → IsSizeTo most z → Begins e (register_begun o z e)
  registers_begun None z e size h = says (Registered RegisterOk ∷ []) (record e { registration = Some z }) (record { size = λ y k. (let same : z ≡ y = cc in subst (IsSizeTo most) same size); asked = h.asked; limit = h.limit; message = h.message; puts = omega (arith, h.puts); gets = omega (arith, h.gets) })
  registers_begun (Some first) z e size h = says (Registered Already ∷ []) e (more (facts e) h)

-- the end of a command that is begun, and of a boot that begins
module _ (most begun : ℕ) (line : LINE_BYTES ≤ most) where
  unregisters : (o : Option Size) (e : End) → Begins most begun line e (unregister_begun o e)
  unregisters None e h = says most begun line (Withdrawn NotRegistered ∷ []) e (more most begun line (facts e) h)
  unregisters (Some z) e h =
      let f = say (Withdrawn UnregisterOk ∷ []) (record e { registration = None }) in
      let k = says most begun line (Withdrawn UnregisterOk ∷ []) (record e { registration = None }) (record { size = λ y k. absurd (cc); asked = h.asked; limit = h.limit; message = h.message; puts = omega (arith, h.puts); gets = omega (arith, h.gets) }) in
      either most (begun + 1) line (f.local.shake.sent.open_request && not (is_some f.local.shake.reason)) f.local (channel_closed Unregistered f.local) (just f.local) (closes most (begun + 1) line Unregistered f.local) (λ x. x) k

  pub begins : (e : End) (x : Command) → IsBackedCommand most x → Begins most begun line e (end_begun e x)
  begins e (commands.Send q c payload wait notify) b h = sends_begun most begun line (refused_send e payload) payload wait notify e b refl h
  begins e (commands.Take q c wait) b h = takes_begun most begun line (take_refusal (link_of e)) wait e h
  begins e (commands.Release q c number) b h = releases_begun most begun line (release_refusal (link_of e) number e.sides.ack) number e h
  begins e (commands.Drain q c) b h = drains_begun most begun line (drain_refusal (link_of e)) e h
  begins e (commands.Register q c entries limit) b h = registers_begun most begun line e.registration (record { entries = entries; limit = limit }) e b h
  begins e (commands.Unregister q c) b h = unregisters e.registration e h
  begins e (commands.Connected q c) b h = more most begun line (facts e) h
  begins e (commands.Closed q c) b h = more most begun line (facts e) h
  begins e (commands.Net frame) b h = more most begun line (facts e) h
  begins e (commands.Frames count) b h = more most begun line (facts e) h
  begins e (commands.Deactivate q) b h = more most begun line (facts e) h
  begins e (commands.Activate q) b h = more most begun line (facts e) h
  begins e commands.Leave b h = more most begun line (facts e) h
  begins e (commands.Idle turns) b h = more most begun line (facts e) h
  begins e commands.Offline b h = more most begun line (facts e) h
  begins e commands.Online b h = more most begun line (facts e) h

  pub boots : (n : ℕ) (e : End) → Backed most n (facts e) → Backed most begun (facts (booted_end e))
  boots n e h = record { size = λ z k. absurd (cc); asked = omega arith; limit = h.limit; message = λ y k. absurd (cc); puts = omega arith; gets = omega arith }
