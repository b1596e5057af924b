-- An end stays consistent, whatever changes it.
use Rattle.std.proofs.Common.{map, ◌≡◌, ℕ, zero, suc, ◌+◌, ◌≤◌, Bool, true, false, not, ◌&&◌, cond, nat_eq, List, [], ◌∷◌, ◌++◌, length, refl, sym, ◌∙◌, subst, arith, Option, Some, None}
use Rattle.std.specs.Prelude.{is_some}
use Rattle.std.proofs.lemmas.Bool.{and_parts}
use Rattle.xp_base.specs.declared.answer.SendAnswer.{SendAnswer}
use Rattle.xp_base.specs.declared.answer.SendAnswer.TheVariants.{NoSlot}
use Rattle.xp_base.specs.declared.answer.DrainAnswer.{DrainAnswer}
use Rattle.xp_base.specs.declared.answer.ReleaseAnswer.{ReleaseAnswer}
use Rattle.xp_base.specs.declared.answer.UnregisterAnswer.TheVariants.{Ok as UnregisterOk}
use Rattle.xp_base.specs.declared.layout.TheConstants.{LINES}
use Rattle.xp_base.specs.declared.link.Kind.{Kind}
use Rattle.xp_base.specs.declared.link.LinkState.TheVariants.{Connected}
use Rattle.xp_base.specs.declared.link.Kind.TheVariants.{CloseRequest, CloseReply, OpenRequest, OpenReply, OpenComplete, MsgRequest}
use Rattle.xp_base.specs.declared.reason.Reason.{Reason}
use Rattle.xp_base.specs.declared.reason.Reason.TheVariants.{UnequalSizes, BadArgs, BadCounters, PartnerClosed, Unregistered}
use Rattle.xp_base.specs.declared.step.Answer.{Answer}
use Rattle.xp_base.specs.declared.step.Answer.TheVariants.{Word, Failed}
use Rattle.xp_base.specs.declared.step.CopyKind.{CopyKind}
use Rattle.xp_base.specs.declared.step.CopyKind.TheVariants.{Counters, Entries}
use Rattle.xp_base.specs.declared.step.CopyMark.{CopyMark}
use Rattle.xp_base.specs.Kinds.{Kinds, without, next_of}
use Rattle.xp_base.specs.History.{NoticeKind, Delivered, Ended}
use Rattle.xp_script.specs.declared.command.Command.{Command}
use Rattle.xp_script.specs.declared.command.Command.TheVariants as commands
use Rattle.xp_script.specs.declared.part.Link.{Link}
use Rattle.xp_script.specs.declared.part.ScenarioPart.{ScenarioPart}
use Rattle.xp_protocol.specs.declared.refusal.TakeRefusal.{TakeRefusal}
use Rattle.xp_protocol.specs.declared.rule.Argument.{Argument}
use Rattle.xp_protocol.specs.declared.rule.Argument.TheVariants.{Request, Reply, Code}
use Rattle.xp_protocol.specs.declared.rule.RingRule.TheVariants.{ReadGet, WriteEntryWord, AcceptMessage}
use Rattle.xp_protocol.specs.declared.rule.PullRule.TheVariants.{ReadCounters, ReadEntry}
use Rattle.xp_protocol.specs.declared.rule.LinkRule.{LinkRule}
use Rattle.xp_protocol.specs.declared.rule.LinkRule.TheVariants.{Ring, Pull, Acknowledge, SetFlag, ZeroGet, ZeroPut, StoreArgument, ReadArgument}
use Rattle.xp_protocol.specs.Parts.{IsRequestSize, IsLawfulCommand}
use Rattle.xp_protocol.specs.Effects.{Effect, just, and_then, Accepted, Sent, Heard, TakeRefused, Note, PullNote, BySend, ByPull, Began, Joined, Taken, Freed, Acked, Told, ToldOver, Over, Released, Drained, Registered, Withdrawn}
use Rattle.xp_protocol.specs.Sending.{Sending, Send, wants_notice, is_bad_get, is_full, get_loaded, ring_effect, closed_send}
use Rattle.xp_protocol.specs.Pulling.{Pulling, counters_pulled, is_bad_counter, is_bad_put, shown_empty, entry_pulled, run_fault, run_now, run_copied, found_by, take_refusal, pull_can, closed_take}
use Rattle.xp_protocol.specs.Releasing.{Releasing, message_released, release_refusal}
use Rattle.xp_protocol.specs.State.{End, Decided, Shake, no_shake, Size, Replied, Contact, idle_end, warm_end, size_in, state_by, both_complete, shake_state, link_of, is_begun, is_connected}
use Rattle.xp_protocol.specs.Linking.{hear, hears, by_send, by_pull, sender_counters, acknowledged, release_notes, link_can, link_effect, copy_failed, down_notes, down_end, close_now, link_closed, copies_over, link_down, fresh_end, kept_for, link_finished, link_joined, booted_end, channel_closed, epoch_over, is_ended, are_unequal, unequal, changed, kind_got, is_request, request_handled, reply_handled, is_code, code_handled, refused, kind_refused, well_handled, handled, has_argument, handled_next, settle, settled, with_taken, flags_got, end_sent, control_sent, flag_sent, with_argument, argument_read, argument_stored, agreed, agreed_by, closed_release, closed_drain, limit_in}
use Rattle.xp_protocol.specs.Rules.{link_answered, end_failed}
use Rattle.xp_protocol.specs.Acts.{say, refused_send, send_begun, take_begun, release_held, release_begun, drain_refusal, drain_begun, register_begun, unregister_begun, end_begun, taken_by, take_answered, end_answered, end_noticed, without_first, below}
use Rattle.xp_plan.specs.Sound.{IsPulling}
use Rattle.xp_sound.specs.Consistent.{HasSize, flagged, IsOrdered, IsWriting, AreRising, IsConsistentBy, IsConsistentEnd}
use Rattle.xp_sound.proofs.Sides.{said_size, agreed_sizes, new_send, no_words, with_get, good_get, word_written, accepted, IsPulledBy, pulled_by, pulls_by, no_copy, new_pull, entry_copied, without_one, asked, one_longer, number_left}

-- ---- notes that change no size, no count and no number that waits
abbrev pub IsQuiet : Note → Type 0
IsQuiet (BySend (Accepted number body asks)) = ⊥
IsQuiet (ByPull (Heard get)) = ⊥
IsQuiet note = Unit {0}

abbrev pub AreQuiet : List Note → Type 0
AreQuiet [] = Unit {0}
AreQuiet (note ∷ more) = IsQuiet note × AreQuiet more

quiet_both : (xs ys : List Note) → AreQuiet xs → AreQuiet ys → AreQuiet (xs ++ ys)
quiet_both [] ys a b = b
quiet_both (x ∷ xs) ys a b = (a.0, quiet_both xs ys a.1 b)

-- they change what is decided, and nothing else
hear_quiet : (P : End → Type 0) → ((e : End) (d : Decided) → P e → P (record e { decided = d })) → (note : Note) (e : End) → IsQuiet note → P e → P (hear note e)
hear_quiet P keeps (BySend (Accepted number body asks)) e q h = absurd q
hear_quiet P keeps (BySend (Sent a)) e q h = keeps e _ h
hear_quiet P keeps (ByPull (Heard get)) e q h = absurd q
hear_quiet P keeps (ByPull (TakeRefused a)) e q h = keeps e _ h
hear_quiet P keeps (Began epoch own theirs) e q h = h
hear_quiet P keeps Joined e q h = h
hear_quiet P keeps (Taken body) e q h = h
hear_quiet P keeps (Freed number) e q h = h
hear_quiet P keeps (Acked get) e q h = h
hear_quiet P keeps (Told number) e q h = h
hear_quiet P keeps (ToldOver number) e q h = h
hear_quiet P keeps (Over reason) e q h = h
hear_quiet P keeps (Released a) e q h = keeps e _ h
hear_quiet P keeps (Drained a) e q h = keeps e _ h
hear_quiet P keeps (Registered a) e q h = keeps e _ h
hear_quiet P keeps (Withdrawn a) e q h = keeps e _ h

pub all_quiet : (P : End → Type 0) → ((e : End) (d : Decided) → P e → P (record e { decided = d })) → (notes : List Note) (e : End) → AreQuiet notes → P e → P (hears notes e)
all_quiet P keeps [] e q h = h
all_quiet P keeps (note ∷ more) e q h = all_quiet P keeps more (hear note e) q.1 (hear_quiet P keeps note e q.0 h)

hears_quiet : (notes : List Note) (e : End) → AreQuiet notes → IsConsistentEnd e → IsConsistentEnd (hears notes e)
hears_quiet notes e q h = all_quiet IsConsistentEnd (λ x d k. k) notes e q h

-- what is told where a connection goes down
pub down_quiet : (reason : Reason) (s : Option Send) (t : Option Bool) (releasing draining : Bool) → AreQuiet (map BySend (closed_send reason s) ++ (map ByPull (closed_take reason t) ++ (closed_release releasing ++ closed_drain reason draining)))
down_quiet reason s t releasing draining = quiet_both _ _ (one s) (quiet_both _ _ (two t) (quiet_both _ _ (three releasing) (four draining))) where
  one : (s : Option Send) → AreQuiet (map BySend (closed_send reason s))
  one None = tt
  one (Some x) = (tt, tt)

  two : (t : Option Bool) → AreQuiet (map ByPull (closed_take reason t))
  two None = tt
  two (Some x) = (tt, tt)

  three : (b : Bool) → AreQuiet (closed_release b)
  three true = (tt, tt)
  three false = tt

  four : (b : Bool) → AreQuiet (closed_drain reason b)
  four true = (tt, tt)
  four false = tt

pub release_quiet : (b : Bool) (number : ℕ) (x : Releasing) → AreQuiet (release_held b number x)
release_quiet true number x = (tt, (tt, tt))
release_quiet false number x = (tt, tt)

-- ---- ends at which nothing was begun
no_flags : (o p : Option Size) → IsOrdered (record { sent = no_shake.sent; heard = false; reason = None; own_size = o; their_size = p })
no_flags o p = record {
  own = λ a. absurd (cc);
  theirs = λ a b. absurd (cc);
  asked = λ a. absurd (cc);
  heard = λ a. absurd (cc);
  complete = λ a. absurd (cc);
  request = λ a. absurd (cc);
  reply = λ a. absurd (cc);
}

pub idle_consistent : IsConsistentEnd idle_end
idle_consistent = record {
  registration = λ a. absurd (cc);
  order = no_flags None None;
  send = new_send _ _ (omega arith, omega arith, omega arith, omega arith);
  pull = new_pull _ _ (omega arith, omega arith, omega arith, omega arith);
  rising = tt;
  few = omega arith;
  none = λ a. refl;
}

pub warm_consistent : (new : Bool) (l : Link) → IsRequestSize l.entries l.limit → IsConsistentEnd (warm_end new l)
warm_consistent new l z = record {
  registration = λ a. z;
  order = record {
    own = λ a. z;
    theirs = λ a b. z;
    asked = λ a. refl;
    heard = λ a. refl;
    complete = λ a. refl;
    request = λ a. absurd (cc);
    reply = λ a. absurd (cc);
  };
  send = new_send l.entries l.limit z;
  pull = new_pull l.entries l.limit z;
  rising = tt;
  few = omega arith;
  none = λ a. refl;
}

-- a registration that is withdrawn, or kept
kept : (reason : Option Reason) (o : Option Size) → (is_some o ≡ true → HasSize o) → is_some (kept_for reason o) ≡ true → HasSize (kept_for reason o)
kept (Some (UnequalSizes own theirs)) o h = λ a. absurd (cc)
kept (Some (BadArgs word)) o h = λ a. absurd (cc)
kept reason o h = h

-- an epoch is over
fresh : (shake : Shake) (epoch : ℕ) (e : End) → flagged shake ≡ flagged no_shake → IsConsistentEnd e → IsConsistentEnd (fresh_end shake epoch e)
fresh shake epoch e f h = record {
  registration = kept e.shake.reason e.registration h.registration;
  order = subst IsOrdered (sym f) (no_flags None None);
  send = new_send e.sides.send.entries e.sides.send.limit h.send.sending.size;
  pull = new_pull e.sides.pull.entries e.sides.pull.limit h.pull.size;
  rising = tt;
  few = omega arith;
  none = λ a. refl;
}

-- ---- a reason to close
abbrev pub Reasoned : Reason → End → Type 0
Reasoned reason e = IsConsistentBy e.registration (record (flagged e.shake) { reason = Some reason }) e.sides.send e.sides.pull e.sides.pending_notices

-- an end is consistent with any reason, whatever flags of the partner it has got
reasoned : (got : Bool) (reason : Reason) (e : End) → (e.shake.got.open_request ≡ true → got ≡ true) → IsConsistentEnd e →
    IsConsistentBy e.registration (record { sent = e.shake.sent; heard = got; reason = Some reason; own_size = e.shake.own_size; their_size = e.shake.their_size }) e.sides.send e.sides.pull e.sides.pending_notices
reasoned got reason e more h = record {
  registration = h.registration;
  order = record {
    own = h.order.own;
    theirs = λ a b. absurd (cc);
    asked = h.order.asked;
    heard = λ a. more (h.order.heard a);
    complete = h.order.complete;
    request = λ a. refl;
    reply = λ a. refl;
  };
  send = h.send;
  pull = h.pull;
  rising = h.rising;
  few = h.few;
  none = h.none;
}

-- one more flag is the partner's, and a reason stands
pub closes_now : (o : Option Reason) (reason : Reason) (e : End) → e.shake.reason ≡ o → ((r : Reason) → Reasoned r e) → IsConsistentEnd (close_now o reason e).local
closes_now (Some first) reason e f h = subst (λ (r : Option Reason). IsConsistentBy e.registration (record (flagged e.shake) { reason = r }) e.sides.send e.sides.pull e.sides.pending_notices) (sym f) (h first)
closes_now None reason e f h = let k = h reason in hears_quiet (down_notes reason e) (down_end reason e) (down_quiet reason e.sides.send.send e.sides.pull.take e.sides.releasing e.sides.draining) (record {
  registration = k.registration;
  order = k.order;
  send = no_words None e.sides.send k.send;
  pull = pulls_by _ (no_copy e.sides.pull.entries e.sides.pull.limit e.sides.pull.pulled 0 k.pull.size);
  rising = k.rising;
  few = k.few;
  none = k.none;
})

abbrev pub Keeps : End → Effect End (List Note) → Type 0
Keeps e f = IsConsistentEnd e → IsConsistentEnd f.local

either : (z : Bool) (e : End) (f g : Effect End (List Note)) → Keeps e f → Keeps e g → Keeps e (cond z f g)
either true e f g a b = a
either false e f g a b = b

then_keeps : (e : End) (f : Effect End (List Note)) (g : End → Effect End (List Note)) → Keeps e f → Keeps f.local (g f.local) → Keeps e (and_then f g)
then_keeps e f g a b h = b (a h)

any_reason : (e : End) → IsConsistentEnd e → (r : Reason) → Reasoned r e
any_reason e h r = reasoned e.shake.got.open_request r e (λ a. a) h

pub closes : (reason : Reason) (e : End) → Keeps e (channel_closed reason e)
closes reason e h = closes_now e.shake.reason reason e refl (any_reason e h)

unequals : (e : End) → Keeps e (unequal e)
unequals e = either (are_unequal e) e (channel_closed (UnequalSizes (limit_in e.shake.own_size) (limit_in e.shake.their_size)) e) (just e) (closes (UnequalSizes (limit_in e.shake.own_size) (limit_in e.shake.their_size)) e) (λ h. h)

changes : (e : End) → Keeps e (changed e)
changes e = either (is_ended e) e (epoch_over e) (unequal e) (fresh (epoch_over e).local.shake (e.epoch + 1) e refl) (unequals e)

-- ---- a flag is handled
-- an open request with its size, or with none: then the channel closes for it
requests : (o : Option ℕ) (e : End) → is_some o ≡ true → IsConsistentEnd e → IsConsistentEnd (request_handled o (kind_got OpenRequest e)).local
requests None e t h = absurd (cc)
requests (Some w) e t h = by (is_request w) refl where
  by : (b : Bool) → is_request w ≡ b → IsConsistentEnd (cond b (just (record (kind_got OpenRequest e) { shake = record (kind_got OpenRequest e).shake { their_size = Some (size_in w) } })) (channel_closed (BadArgs w) (kind_got OpenRequest e))).local
  by true s = record {
    registration = h.registration;
    order = record {
      own = h.order.own;
      theirs = λ a b. said_size (size_in w).entries (size_in w).limit s;
      asked = h.order.asked;
      heard = λ a. refl;
      complete = h.order.complete;
      request = h.order.request;
      reply = h.order.reply;
    };
    send = h.send;
    pull = h.pull;
    rising = h.rising;
    few = h.few;
    none = h.none;
  }
  by false s = closes_now e.shake.reason (BadArgs w) (kind_got OpenRequest e) refl (λ r. reasoned true r e (λ a. refl) h)

replies : (o : Option Replied) (e : End) → Keeps e (reply_handled o e)
replies None e = λ h. h
replies (Some x) e = either x.right e (just e) (channel_closed (BadArgs x.word) e) (λ h. h) (closes (BadArgs x.word) e)

codes : (o : Option ℕ) (e : End) → Keeps e (code_handled o e)
codes None e = λ h. h
codes (Some w) e = either (is_code w) e (channel_closed (PartnerClosed w) e) (channel_closed (BadArgs w) e) (closes (PartnerClosed w) e) (closes (BadArgs w) e)

owing : (e : End) → IsConsistentEnd e → IsConsistentEnd (record e { sides = record e.sides { pull = record e.sides.pull { owed = true } } })
owing e h = record { registration = h.registration; order = h.order; send = h.send; pull = pulls_by _ (pulled_by e.sides.pull h.pull); rising = h.rising; few = h.few; none = h.none }

well : (k : Kind) (e : End) → has_argument k e.shake ≡ true → Keeps e (well_handled k e)
well MsgRequest e t =
    let z : End = record e { shake = record e.shake { taken = without MsgRequest e.shake.taken } } in
    let f : Effect End (List Note) = just (record z { sides = record z.sides { pull = record z.sides.pull { owed = true } } }) in
    either (is_connected z) e f (just z) (λ h. owing z h) (λ h. h)
well OpenRequest e t = requests e.shake.request e t
well OpenReply e t = λ h. replies e.shake.reply (kind_got OpenReply e) h
well CloseRequest e t = λ h. codes e.shake.code (kind_got CloseRequest e) h
well OpenComplete e t = λ h. h
well CloseReply e t = λ h. h

kinds_left : (k : Kind) (e : End) → Keeps e (kind_refused k e)
kinds_left CloseRequest e = λ h. h
kinds_left CloseReply e = λ h. h
kinds_left OpenRequest e = λ h. h
kinds_left OpenReply e = λ h. h
kinds_left OpenComplete e = λ h. h
kinds_left MsgRequest e = λ h. h

handles : (k : Kind) (e : End) → has_argument k e.shake ≡ true → Keeps e (handled k e)
handles k e t = either (refused k e) e (kind_refused k e) (well_handled k e) (kinds_left k e) (well k e t)

nexts : (o : Option Kind) (e : End) → Keeps e (handled_next o e)
nexts None e = λ h. h
nexts (Some k) e = by (has_argument k e.shake) refl where
  by : (b : Bool) → has_argument k e.shake ≡ b → Keeps e (cond b (and_then (handled k e) changed) (just e))
  by true t = then_keeps e (handled k e) changed (handles k e t) (changes (handled k e).local)
  by false t = λ h. h

settles : (k : ℕ) (e : End) → Keeps e (settle k e)
settles zero e = λ h. h
settles (suc k) e = let o = next_of e.shake.got.close_request e.shake.taken in then_keeps e (handled_next o e) (settle k) (nexts o e) (settles k (handled_next o e).local)

all_settled : (e : End) → Keeps e (settled e)
unfolding settled
all_settled e = settles 6 e

pub takes : (ks : Kinds) (e : End) → Keeps e (flags_got ks e)
takes ks e = either (is_some e.shake.meet) e (and_then (just (with_taken ks e)) settled) (just e) (λ h. all_settled (with_taken ks e) h) (λ h. h)

-- an argument is loaded or stored, and get is stored
arguments : (x : Argument) (place w : ℕ) (e : End) → Keeps e (argument_read x place w e)
arguments Request place w e h = all_settled (with_argument Request place w e) h
arguments Reply place w e h = all_settled (with_argument Reply place w e) h
arguments Code place w e h = all_settled (with_argument Code place w e) h

argues : (x : Argument) (e : End) → Keeps e (just (argument_stored x e))
argues Request e h = h
argues Reply e h = h
argues Code e h = h

tells : (e : End) → Keeps e (acknowledged e)
tells e h = by e.sides.releasing where
  by : (b : Bool) → IsConsistentEnd (hears (release_notes b e.sides.ack.front) (record e { sides = record e.sides { local_get = e.sides.ack.front; releasing = false }; shake = record e.shake { owes_message = true } }))
  by true = h
  by false = h

-- ---- a flag is sent
-- a limit is agreed once both open requests are there
both_asked : (x : Shake) → is_some (agreed x) ≡ true → (x.sent.open_request ≡ true) × (x.got.open_request ≡ true)
both_asked x e = by x.sent.open_request x.got.open_request e where
  by : (a b : Bool) → is_some (cond (a && b) (agreed_by x.both_new (limit_in x.own_size) (limit_in x.their_size)) None) ≡ true → (a ≡ true) × (b ≡ true)
  by true true f = (refl, refl)
  by true false f = absurd (cc)
  by false b f = absurd (cc)

no_reason : (o : Option Reason) → not (is_some o) ≡ true → o ≡ None
no_reason None e = refl
no_reason (Some reason) e = absurd (cc)

is_false : (b : Bool) → not b ≡ true → b ≡ false
is_false true e = absurd (cc)
is_false false e = refl

no_numbers : (put : ℕ) (xs : List ℕ) → xs ≡ [] → AreRising 0 put xs
no_numbers put xs e = subst (AreRising 0 put) (sym e) tt

sent : (k : Kind) (e : End) → link_can e (SetFlag k) → IsConsistentEnd e → IsConsistentEnd (end_sent k e)
sent OpenRequest e can h =
    let z = h.registration (and_parts (is_some e.registration) (not (is_some e.shake.reason) && not e.shake.sent.open_request) can.1).0 in
    record {
      registration = h.registration;
      order = record {
        own = λ a. z;
        theirs = h.order.theirs;
        asked = λ a. refl;
        heard = h.order.heard;
        complete = λ a. refl;
        request = h.order.request;
        reply = h.order.reply;
      };
      send = h.send;
      pull = h.pull;
      rising = h.rising;
      few = h.few;
      none = h.none;
    }
sent OpenReply e can h =
    let b = both_asked e.shake (and_parts (is_some (agreed e.shake)) (not e.shake.sent.open_reply) (and_parts (not (is_some e.shake.reason)) _ can.1).1).0 in
    record {
      registration = h.registration;
      order = record {
        own = h.order.own;
        theirs = h.order.theirs;
        asked = λ a. b.0;
        heard = λ a. b.1;
        complete = h.order.complete;
        request = h.order.request;
        reply = h.order.reply;
      };
      send = h.send;
      pull = h.pull;
      rising = h.rising;
      few = h.few;
      none = h.none;
    }
sent OpenComplete e can h =
    let a = and_parts (not (is_some e.shake.reason)) (e.shake.sent.open_reply && (e.shake.got.open_reply && not e.shake.sent.open_complete)) can.1 in
    let b = and_parts e.shake.sent.open_reply (e.shake.got.open_reply && not e.shake.sent.open_complete) a.1 in
    let c = and_parts e.shake.got.open_reply (not e.shake.sent.open_complete) b.1 in
    let own = h.order.own (h.order.asked b.0) in
    let theirs = h.order.theirs (h.order.heard b.0) (no_reason e.shake.reason a.0) in
    let z = agreed_sizes e.shake.own_size e.shake.their_size own theirs in
    record {
      registration = h.registration;
      order = record {
        own = h.order.own;
        theirs = h.order.theirs;
        asked = h.order.asked;
        heard = h.order.heard;
        complete = λ d. h.order.asked b.0;
        request = h.order.request;
        reply = h.order.reply;
      };
      send = new_send _ _ z.0;
      pull = new_pull _ _ z.1;
      rising = no_numbers 0 e.sides.pending_notices (h.none (is_false e.shake.sent.open_complete c.1));
      few = h.few;
      none = λ d. absurd (cc);
    }
sent CloseRequest e can h =
    let r = (and_parts (is_some e.shake.reason) (not e.shake.sent.close_request) can.1).0 in
    record {
      registration = h.registration;
      order = record {
        own = h.order.own;
        theirs = h.order.theirs;
        asked = h.order.asked;
        heard = h.order.heard;
        complete = h.order.complete;
        request = λ a. r;
        reply = h.order.reply;
      };
      send = h.send;
      pull = h.pull;
      rising = h.rising;
      few = h.few;
      none = h.none;
    }
sent CloseReply e can h =
    let r = h.order.request (and_parts e.shake.sent.close_request _ can.1).0 in
    record {
      registration = h.registration;
      order = record {
        own = h.order.own;
        theirs = h.order.theirs;
        asked = h.order.asked;
        heard = h.order.heard;
        complete = h.order.complete;
        request = h.order.request;
        reply = λ a. r;
      };
      send = h.send;
      pull = h.pull;
      rising = h.rising;
      few = h.few;
      none = h.none;
    }
sent MsgRequest e can h = record {
  registration = h.registration;
  order = record {
    own = h.order.own;
    theirs = h.order.theirs;
    asked = h.order.asked;
    heard = h.order.heard;
    complete = h.order.complete;
    request = h.order.request;
    reply = h.order.reply;
  };
  send = h.send;
  pull = h.pull;
  rising = h.rising;
  few = h.few;
  none = h.none;
}

controls : (k : Kind) (e : End) → link_can e (SetFlag k) → Keeps e (control_sent k e)
controls k e can h = all_settled (changed (end_sent k e)).local (changes (end_sent k e) (sent k e can h))

sends : (k : Kind) (e : End) → link_can e (SetFlag k) → Keeps e (flag_sent k e)
sends MsgRequest e can h = h
sends OpenRequest e can h = controls OpenRequest e can h
sends OpenReply e can h = controls OpenReply e can h
sends OpenComplete e can h = controls OpenComplete e can h
sends CloseRequest e can h = controls CloseRequest e can h
sends CloseReply e can h = controls CloseReply e can h

-- ---- the sides
with_send : (x : Sending) (e : End) → IsConsistentEnd e → IsWriting x → x.put ≡ e.sides.send.put → IsConsistentEnd (record e { sides = record e.sides { send = x } })
with_send x e h w f = record { registration = h.registration; order = h.order; send = w; pull = h.pull; rising = subst (λ (n : ℕ). AreRising 0 n e.sides.pending_notices) (sym f) h.rising; few = h.few; none = h.none }

with_pull : (x : Pulling) (e : End) → IsConsistentEnd e → IsPulling x → IsConsistentEnd (record e { sides = record e.sides { pull = x } })
with_pull x e h w = record { registration = h.registration; order = h.order; send = h.send; pull = w; rising = h.rising; few = h.few; none = h.none }

same_pull : (x : Pulling) (e : End) → IsConsistentEnd e → IsPulledBy x.entries x.limit x.pulled x.copied x.run → IsConsistentEnd (record e { sides = record e.sides { pull = x } })
same_pull x e h w = with_pull x e h (pulls_by x w)

-- a get is loaded
gets_get : (e : End) (w : ℕ) → Keeps e (by_send e (ring_effect e.sides.send ReadGet w))
gets_get e w h = bad (is_bad_get e.sides.send w) refl where
  full : (b : Bool) → (e.sides.send.remote_get ≤ w) × (w ≤ e.sides.send.put) → IsConsistentEnd (by_send e (cond b (record { local = record e.sides.send { remote_get = w; send = None; written_words = 0 }; reason = None; notes = Sent (NoSlot e.sides.send.put w) ∷ [] }) (record { local = record e.sides.send { remote_get = w }; reason = None; notes = [] }))).local
  full true l = with_send (record e.sides.send { remote_get = w; send = None; written_words = 0 }) e h (no_words None (record e.sides.send { remote_get = w }) (with_get w e.sides.send l.0 l.1 h.send)) refl
  full false l = with_send (record e.sides.send { remote_get = w }) e h (with_get w e.sides.send l.0 l.1 h.send) refl

  bad : (b : Bool) → is_bad_get e.sides.send w ≡ b → IsConsistentEnd (by_send e (cond b (record { local = e.sides.send; reason = Some (BadCounters w e.sides.send.put); notes = [] }) (get_loaded e.sides.send w))).local
  bad true t = h
  bad false t = full (is_full e.sides.send w) (good_get w e.sides.send.remote_get e.sides.send.put t)

is_complete : (x : Shake) → shake_state x ≡ Connected → x.sent.open_complete ≡ true
is_complete x e = (and_parts x.sent.open_complete x.got.open_complete (and_parts (is_some x.meet) _ (by x.reason x.sent.open_request (both_complete x) e)).1).0 where
  by : (o : Option Reason) (opening connected : Bool) → state_by o opening connected ≡ Connected → connected ≡ true
  by (Some reason) opening connected f = absurd (cc)
  by None opening true f = refl
  by None true false f = absurd (cc)
  by None false false f = absurd (cc)

accepts : (e : End) (w : ℕ) → below e.sides.send.remote_get e.sides.pending_notices ≡ None → link_can e (Ring AcceptMessage) → Keeps e (by_send e (ring_effect e.sides.send AcceptMessage w))
accepts e w told can h = record {
  registration = h.registration;
  order = h.order;
  send = accepted e.sides.send can.1 h.send;
  pull = h.pull;
  rising = asked e.sides.send.put (wants_notice e.sides.send.send) e.sides.pending_notices h.rising;
  few = one_longer e.sides.send.put (wants_notice e.sides.send.send) e.sides.pending_notices (number_left e.sides.send e.sides.pending_notices can.1 h.send h.rising told);
  none = λ a. absurd (let f : false ≡ true = sym a ∙ is_complete e.shake can.0 in cc);
}

-- the counters are loaded
counts : (e : End) (o : Option ℕ) (w : ℕ) → Keeps e (by_pull e (counters_pulled (sender_counters e.sides) o e.sides.pull w))
counts e None w h = by (is_bad_counter (sender_counters e.sides) w) refl where
  by : (b : Bool) → is_bad_counter (sender_counters e.sides) w ≡ b → IsConsistentEnd (by_pull e (cond b (record { local = record e.sides.pull { owed = false }; reason = Some (BadCounters w e.sides.send.put); notes = [] }) (record { local = record e.sides.pull { counters = Some w; known = w; owed = false }; reason = None; notes = Heard w ∷ [] }))).local
  by true t = same_pull (record e.sides.pull { owed = false }) e h (pulled_by e.sides.pull h.pull)
  by false t =
      let l = good_get w e.sides.send.remote_get e.sides.send.put t in
      let k = same_pull (record e.sides.pull { counters = Some w; known = w; owed = false }) e h (pulled_by e.sides.pull h.pull) in
      with_send (record e.sides.send { remote_get = w }) (record e { sides = record e.sides { pull = record e.sides.pull { counters = Some w; known = w; owed = false } } }) k (with_get w e.sides.send l.0 l.1 h.send) refl
counts e (Some get) w h = by (is_bad_put (sender_counters e.sides) e.sides.pull w) where
  by : (b : Bool) → IsConsistentEnd (by_pull e (cond b (record { local = record e.sides.pull { counters = None }; reason = Some (BadCounters get w); notes = [] }) (record { local = record e.sides.pull { counters = None; pulled_put = w; empty = shown_empty e.sides.pull w }; reason = None; notes = [] }))).local
  by true = same_pull (record e.sides.pull { counters = None }) e h (pulled_by e.sides.pull h.pull)
  by false = same_pull (record e.sides.pull { counters = None; pulled_put = w; empty = shown_empty e.sides.pull w }) e h (pulled_by e.sides.pull h.pull)

-- a word of an entry is loaded
copies : (e : End) (w : ℕ) → pull_can e.sides.pull ReadEntry → Keeps e (by_pull e (entry_pulled (e.sides.pull.copied ++ w ∷ []) e.sides.pull))
copies e w can h = hears_quiet (map ByPull f.notes) (record e { sides = record e.sides { pull = f.local } }) (by_run (nat_eq (length words) _) (run_fault e.sides.pull.limit e.sides.pull.pulled (run_now e.sides.pull) words)) (with_pull f.local e h (entry_copied e.sides.pull w can h.pull)) where
  words : List ℕ
  words = e.sides.pull.copied ++ w ∷ []

  f : Effect Pulling (List PullNote)
  f = entry_pulled words e.sides.pull

  by_run : (b : Bool) (o : Option Reason) → AreQuiet (map ByPull (cond b (run_copied o (run_now e.sides.pull) words e.sides.pull) (record { local = record e.sides.pull { copied = words; run = run_now e.sides.pull }; reason = None; notes = [] })).notes)
  by_run true None = tt
  by_run true (Some reason) = tt
  by_run false o = tt

failed_pull : (kind : CopyKind) (e : End) → Keeps e (just (copy_failed kind e))
failed_pull Counters e h = same_pull _ e h (pulled_by e.sides.pull h.pull)
failed_pull Entries e h = same_pull _ e h (no_copy e.sides.pull.entries e.sides.pull.limit e.sides.pull.pulled 0 h.pull.size)
failed_pull kind e h = h

fails : (o : Option CopyMark) (e : End) → IsConsistentEnd e → IsConsistentEnd (end_failed o e)
fails None e h = h
fails (Some mark) e h = failed_pull mark.kind e h

-- ---- a step at an end
links : (place : ℕ) (e : End) (m : LinkRule) (w : ℕ) → below e.sides.send.remote_get e.sides.pending_notices ≡ None → link_can e m → Keeps e (link_effect place e m w)
links place e (Ring ReadGet) w told can = gets_get e w
links place e (Ring (WriteEntryWord f)) w told can = λ h. with_send _ e h (word_written f e.sides.send can.1 h.send) refl
links place e (Ring AcceptMessage) w told can = accepts e w told can
links place e (Pull ReadCounters) w told can = counts e e.sides.pull.counters w
links place e (Pull ReadEntry) w told can = copies e w can.1
links place e Acknowledge w told can = tells e
links place e (SetFlag k) w told can = sends k e can
links place e ZeroGet w told can = λ h. h
links place e ZeroPut w told can = λ h. h
links place e (StoreArgument x) w told can = argues x e
links place e (ReadArgument x) w told can = arguments x place w e

pub linked : (mark : Option CopyMark) (place : ℕ) (e : End) (m : LinkRule) (a : Answer) → below e.sides.send.remote_get e.sides.pending_notices ≡ None → link_can e m → Keeps e (link_answered mark place e m a)
linked mark place e m (Word w) told can = links place e m w told can
linked mark place e m Failed told can = fails mark e

-- ---- the partner goes down, or has left; a contact is made; a boot begins
closed_by : (reason : Reason) (e : End) → Keeps e (link_closed reason e)
closed_by reason e = either (is_begun e) e (close_now e.shake.reason reason e) (just e) (closes reason e) (λ h. h)

pub goes_down : (reason : Reason) (e : End) → Keeps e (link_down reason e)
goes_down reason e h =
    let x = (link_closed reason e).local in
    let k = closed_by reason e h in
    same_pull (copies_over x.sides.pull) x k (no_copy x.sides.pull.entries x.sides.pull.limit x.sides.pull.pulled 0 k.pull.size)

pub finishes : (e : End) → Keeps e (link_finished e)
finishes e h = fresh no_shake 0 e refl h

pub joins : (new : Bool) (m : Contact) (e : End) → Keeps e (link_joined new m e)
joins new m e h = record {
  registration = h.registration;
  order = no_flags None None;
  send = idle_consistent.send;
  pull = idle_consistent.pull;
  rising = tt;
  few = omega arith;
  none = λ a. refl;
}

pub boots : (e : End) → IsConsistentEnd e → IsConsistentEnd (booted_end e)
boots e h = let k = fresh no_shake 0 e refl h in record { registration = λ a. absurd (cc); order = k.order; send = k.send; pull = k.pull; rising = k.rising; few = k.few; none = k.none }

-- ---- a command is answered
takes_found : (e : End) (b : Bool) (t : Option Bool) (empty : Option ℕ) (cache : List (List ℕ)) → Keeps e (taken_by (cond b (found_by t (record e.sides.pull { empty = empty; cache = cache })) None) e)
takes_found e false t empty cache h = h
takes_found e true None empty cache h = h
takes_found e true (Some wait) (Some put) cache h = same_pull _ e h (pulled_by e.sides.pull h.pull)
takes_found e true (Some wait) None [] h = h
takes_found e true (Some wait) None (body ∷ rest) h = same_pull _ e h (pulled_by e.sides.pull h.pull)

take_keeps : (o : Option TakeRefusal) (e : End) → Keeps e (take_answered o e)
take_keeps None e h = takes_found e (is_connected e) e.sides.pull.take e.sides.pull.empty e.sides.pull.cache h
take_keeps (Some a) e h = h

pub answers : (e : End) (x : Command) → Keeps e (end_answered e x)
answers e (commands.Send q c payload wait notify) h = h
answers e (commands.Take q c wait) h = take_keeps e.decided.take e h
answers e (commands.Release q c number) h = h
answers e (commands.Drain q c) h = h
answers e (commands.Register q c entries limit) h = h
answers e (commands.Unregister q c) h = h
answers e (commands.Connected q c) h = h
answers e (commands.Closed q c) h = h
answers e (commands.Net frame) h = h
answers e (commands.Frames count) h = h
answers e (commands.Deactivate q) h = h
answers e (commands.Activate q) h = h
answers e commands.Leave h = h
answers e (commands.Idle turns) h = h
answers e commands.Offline h = h
answers e commands.Online h = h

-- ---- a command is begun
sends_begun : (o : Option SendAnswer) (payload : List ℕ) (wait notify : Bool) (e : End) → Keeps e (send_begun o payload wait notify e)
sends_begun None payload wait notify e h = with_send _ e h (no_words (Some (record { payload = payload; wait = wait; notify = notify })) e.sides.send h.send) refl
sends_begun (Some a) payload wait notify e h = h

takes_begun : (o : Option TakeRefusal) (wait : Bool) (e : End) → Keeps e (take_begun o wait e)
takes_begun None wait e h = same_pull _ e h (pulled_by e.sides.pull h.pull)
takes_begun (Some a) wait e h = h

releases_begun : (o : Option ReleaseAnswer) (number : ℕ) (e : End) → Keeps e (release_begun o number e)
releases_begun None number e h =
    let new = message_released number e.sides.ack in
    let stays = nat_eq e.sides.ack.front new.front in
    hears_quiet (release_held stays number new) (record e { sides = record e.sides { ack = new; releasing = not stays } }) (release_quiet stays number new) h
releases_begun (Some a) number e h = h

drains_begun : (o : Option DrainAnswer) (e : End) → Keeps e (drain_begun o e)
drains_begun None e h = h
drains_begun (Some a) e h = h

registered : (o : Option Size) (e : End) → (is_some o ≡ true → HasSize o) → IsConsistentEnd e → IsConsistentEnd (record e { registration = o })
registered o e z h = record { registration = z; order = h.order; send = h.send; pull = h.pull; rising = h.rising; few = h.few; none = h.none }

registers_begun : (o : Option Size) (z : Size) (e : End) → IsRequestSize z.entries z.limit → Keeps e (register_begun o z e)
registers_begun None z e r h = registered (Some z) e (λ a. r) h
registers_begun (Some first) z e r h = h

unregisters : (o : Option Size) (e : End) → Keeps e (unregister_begun o e)
unregisters None e h = h
unregisters (Some z) e h =
    let f = say (Withdrawn UnregisterOk ∷ []) (record e { registration = None }) in
    either (f.local.shake.sent.open_request && not (is_some f.local.shake.reason)) f.local (channel_closed Unregistered f.local) (just f.local) (closes Unregistered f.local) (λ x. x) (registered None e (λ a. absurd (cc)) h)

pub begins : (s : ScenarioPart) (e : End) (x : Command) → IsLawfulCommand s x → Keeps e (end_begun e x)
begins s e (commands.Send q c payload wait notify) l h = sends_begun (refused_send e payload) payload wait notify e h
begins s e (commands.Take q c wait) l h = takes_begun (take_refusal (link_of e)) wait e h
begins s e (commands.Release q c number) l h = releases_begun (release_refusal (link_of e) number e.sides.ack) number e h
begins s e (commands.Drain q c) l h = drains_begun (drain_refusal (link_of e)) e h
begins s e (commands.Register q c entries limit) l h = registers_begun e.registration (record { entries = entries; limit = limit }) e l.1 h
begins s e (commands.Unregister q c) l h = unregisters e.registration e h
begins s e (commands.Connected q c) l h = h
begins s e (commands.Closed q c) l h = h
begins s e (commands.Net frame) l h = h
begins s e (commands.Frames count) l h = h
begins s e (commands.Deactivate q) l h = h
begins s e (commands.Activate q) l h = h
begins s e commands.Leave l h = h
begins s e (commands.Idle turns) l h = h
begins s e commands.Offline l h = h
begins s e commands.Online l h = h

-- ---- a notice is given
first_told : (put : ℕ) (xs : List ℕ) → AreRising 0 put xs → AreRising 0 put (without_first xs)
first_told put [] h = tt
first_told put (x ∷ xs) h = without_one put x xs h

one_shorter : (xs : List ℕ) → length xs ≤ LINES → length (without_first xs) ≤ LINES
one_shorter [] l = l
one_shorter (x ∷ xs) l = omega (arith, l)

none_left : (xs : List ℕ) → xs ≡ [] → without_first xs ≡ []
none_left [] e = refl
none_left (x ∷ xs) e = absurd (cc)

pub notices : (e : End) (how : NoticeKind) (number : ℕ) → Keeps e (end_noticed how number e)
notices e Delivered number h = record {
  registration = h.registration;
  order = h.order;
  send = h.send;
  pull = h.pull;
  rising = first_told e.sides.send.put e.sides.pending_notices h.rising;
  few = one_shorter e.sides.pending_notices h.few;
  none = λ a. none_left e.sides.pending_notices (h.none a);
}
notices e Ended number h = h
