-- What an end keeps of its contact, whatever changes it: the contact and what it judges by there, whether both versions know entries of several lines.
use Rattle.std.proofs.Common.{◌≡◌, ℕ, zero, suc, Bool, true, false, not, ◌&&◌, cond, List, [], ◌∷◌, map, refl, ◌∙◌, Option, Some, None}
use Rattle.std.specs.Prelude.{is_some, nat_eq}
use Rattle.xp_base.specs.declared.answer.SendAnswer.{SendAnswer}
use Rattle.xp_base.specs.declared.answer.TakeAnswer.{TakeAnswer}
use Rattle.xp_base.specs.declared.answer.TakeAnswer.TheVariants.{Taken as TakenAnswer, Empty}
use Rattle.xp_base.specs.declared.answer.ReleaseAnswer.{ReleaseAnswer}
use Rattle.xp_base.specs.declared.answer.DrainAnswer.{DrainAnswer}
use Rattle.xp_base.specs.declared.answer.RegisterAnswer.TheVariants.{Ok as RegisterOk, Already}
use Rattle.xp_base.specs.declared.answer.UnregisterAnswer.TheVariants.{Ok as UnregisterOk, NotRegistered}
use Rattle.xp_base.specs.declared.link.Kind.{Kind}
use Rattle.xp_base.specs.declared.link.Kind.TheVariants.{CloseRequest, CloseReply, OpenRequest, OpenReply, OpenComplete, MsgRequest}
use Rattle.xp_base.specs.declared.reason.Reason.{Reason}
use Rattle.xp_base.specs.declared.reason.Reason.TheVariants.{Unregistered, UnequalSizes, BadArgs, PartnerClosed}
use Rattle.xp_base.specs.declared.step.Answer.{Answer}
use Rattle.xp_base.specs.declared.step.Answer.TheVariants.{Word, Failed}
use Rattle.xp_base.specs.declared.step.CopyMark.{CopyMark}
use Rattle.xp_base.specs.Kinds.{Kinds, without, next_of}
use Rattle.xp_base.specs.History.{NoticeKind, Delivered, Ended}
use Rattle.xp_script.specs.declared.command.Command.{Command}
use Rattle.xp_script.specs.declared.command.Command.TheVariants as commands
use Rattle.xp_script.specs.declared.log.Verb.{Verb}
use Rattle.xp_script.specs.declared.log.Verb.TheVariants as verbs
use Rattle.xp_protocol.specs.declared.refusal.TakeRefusal.{TakeRefusal}
use Rattle.xp_protocol.specs.declared.rule.Argument.{Argument}
use Rattle.xp_protocol.specs.declared.rule.Argument.TheVariants.{Request, Reply, Code}
use Rattle.xp_protocol.specs.declared.rule.LinkRule.{LinkRule}
use Rattle.xp_protocol.specs.declared.rule.LinkRule.TheVariants.{Ring, Pull, Acknowledge, SetFlag, ZeroGet, ZeroPut, StoreArgument, ReadArgument}
use Rattle.xp_protocol.specs.Acts.{say, refused_send, send_begun, take_begun, release_begun, release_held, drain_begun, drain_refusal, register_begun, unregister_begun, withdrawn, end_begun, taken_by, take_found, take_answered, answered_by, end_noticed}
use Rattle.xp_protocol.specs.Effects.{Effect, just, and_then, Note, BySend, ByPull, Accepted, Sent, Heard, TakeRefused, Began, Joined, Taken, Freed, Acked, Told, ToldOver, Over, Released, Drained, Registered, Withdrawn}
use Rattle.xp_protocol.specs.Linking.{hear, hears, sender_counters, release_notes, link_effect, close_now, down_notes, down_end, channel_closed, epoch_over, is_ended, unequal, are_unequal, limit_in, changed, kind_got, is_request, request_handled, reply_handled, is_code, code_handled, refused, kind_refused, well_handled, handled, has_argument, handled_next, settle, settled, with_taken, flags_got, end_sent, control_sent, flag_sent, with_argument, argument_stored}
use Rattle.xp_protocol.specs.Pulling.{pull_effect, take_refusal}
use Rattle.xp_protocol.specs.Releasing.{release_refusal, message_released}
use Rattle.xp_protocol.specs.Rules.{link_answered, end_failed}
use Rattle.xp_protocol.specs.Sending.{ring_effect}
use Rattle.xp_protocol.specs.State.{End, Contact, Replied, Size, size_in, is_connected, link_of}

pub record Stance : Type 0 where
  pub meet : Option Contact
  pub new : Bool

abbrev pub stance : End → Stance
stance e = record { meet = e.shake.meet; new = e.shake.both_new }

abbrev pub Same : End → Effect End (List Note) → Type 0
Same e f = stance f.local ≡ stance e

heard : (x : Note) (e : End) → stance (hear x e) ≡ stance e
heard (BySend (Accepted n b a)) e = refl
heard (BySend (Sent a)) e = refl
heard (ByPull (Heard g)) e = refl
heard (ByPull (TakeRefused a)) e = refl
heard (Began n a b) e = refl
heard Joined e = refl
heard (Taken b) e = refl
heard (Freed n) e = refl
heard (Acked n) e = refl
heard (Told n) e = refl
heard (ToldOver n) e = refl
heard (Over r) e = refl
heard (Released a) e = refl
heard (Drained a) e = refl
heard (Registered a) e = refl
heard (Withdrawn a) e = refl

heards : (xs : List Note) (e : End) → stance (hears xs e) ≡ stance e
heards [] e = refl
heards (x ∷ xs) e = heards xs (hear x e) ∙ heard x e

says : (xs : List Note) (e x : End) → stance x ≡ stance e → Same e (say xs x)
says xs e x same = heards xs x ∙ same

either : (b : Bool) (e : End) (f g : Effect End (List Note)) → Same e f → Same e g → Same e (cond b f g)
either true e f g a b = a
either false e f g a b = b

then_same : (e : End) (f : Effect End (List Note)) (g : End → Effect End (List Note)) → Same e f → Same f.local (g f.local) → Same e (and_then f g)
then_same e f g a b = b ∙ a

-- a reason, and the end of an epoch
closes_now : (o : Option Reason) (reason : Reason) (e : End) → Same e (close_now o reason e)
closes_now (Some first) reason e = refl
closes_now None reason e = heards (down_notes reason e) (down_end reason e)

closes : (reason : Reason) (e : End) → Same e (channel_closed reason e)
closes reason e = closes_now e.shake.reason reason e

changes : (e : End) → Same e (changed e)
changes e = either (is_ended e) e (epoch_over e) (unequal e) refl (either (are_unequal e) e (channel_closed (UnequalSizes (limit_in e.shake.own_size) (limit_in e.shake.their_size)) e) (just e) (closes (UnequalSizes (limit_in e.shake.own_size) (limit_in e.shake.their_size)) e) refl)

-- a flag is handled
requests : (o : Option ℕ) (e : End) → Same e (request_handled o e)
requests None e = refl
requests (Some w) e = either (is_request w) e (just (record e { shake = record e.shake { their_size = Some (size_in w) } })) (channel_closed (BadArgs w) e) refl (closes (BadArgs w) e)

replies : (o : Option Replied) (e : End) → Same e (reply_handled o e)
replies None e = refl
replies (Some x) e = either x.right e (just e) (channel_closed (BadArgs x.word) e) refl (closes (BadArgs x.word) e)

codes : (o : Option ℕ) (e : End) → Same e (code_handled o e)
codes None e = refl
codes (Some w) e = either (is_code w) e (channel_closed (PartnerClosed w) e) (channel_closed (BadArgs w) e) (closes (PartnerClosed w) e) (closes (BadArgs w) e)

leaves : (k : Kind) (e : End) → Same e (kind_refused k e)
leaves OpenRequest e = refl
leaves OpenReply e = refl
leaves OpenComplete e = refl
leaves CloseRequest e = refl
leaves CloseReply e = refl
leaves MsgRequest e = refl

well : (k : Kind) (e : End) → Same e (well_handled k e)
well MsgRequest e =
    let z : End = record e { shake = record e.shake { taken = without MsgRequest e.shake.taken } } in
    either (is_connected z) e (just (record z { sides = record z.sides { pull = record z.sides.pull { owed = true } } })) (just z) refl refl
well OpenRequest e = requests e.shake.request (kind_got OpenRequest e)
well OpenReply e = replies e.shake.reply (kind_got OpenReply e)
well CloseRequest e = codes e.shake.code (kind_got CloseRequest e)
well OpenComplete e = refl
well CloseReply e = refl

handles : (k : Kind) (e : End) → Same e (handled k e)
handles k e = either (refused k e) e (kind_refused k e) (well_handled k e) (leaves k e) (well k e)

nexts : (o : Option Kind) (e : End) → Same e (handled_next o e)
nexts None e = refl
nexts (Some k) e = either (has_argument k e.shake) e (and_then (handled k e) changed) (just e) (then_same e (handled k e) changed (handles k e) (changes (handled k e).local)) refl

settles : (n : ℕ) (e : End) → Same e (settle n e)
settles zero e = refl
settles (suc n) e = let o = next_of e.shake.got.close_request e.shake.taken in then_same e (handled_next o e) (settle n) (nexts o e) (settles n (handled_next o e).local)

all_settled : (e : End) → Same e (settled e)
unfolding settled
all_settled e = settles 6 e

pub flags_same : (ks : Kinds) (e : End) → Same e (flags_got ks e)
flags_same ks e = either (is_some e.shake.meet) e (and_then (just (with_taken ks e)) settled) (just e) (all_settled (with_taken ks e)) refl

-- a flag is sent
sends_kind : (k : Kind) (e : End) → stance (end_sent k e) ≡ stance e
sends_kind OpenRequest e = refl
sends_kind OpenReply e = refl
sends_kind OpenComplete e = refl
sends_kind CloseRequest e = refl
sends_kind CloseReply e = refl
sends_kind MsgRequest e = refl

controls : (k : Kind) (e : End) → Same e (control_sent k e)
controls k e = all_settled _ ∙ changes (end_sent k e) ∙ sends_kind k e

sends_flag : (k : Kind) (e : End) → Same e (flag_sent k e)
sends_flag MsgRequest e = refl
sends_flag OpenRequest e = controls OpenRequest e
sends_flag OpenReply e = controls OpenReply e
sends_flag OpenComplete e = controls OpenComplete e
sends_flag CloseRequest e = controls CloseRequest e
sends_flag CloseReply e = controls CloseReply e

-- each step at an end
loads : (x : Argument) (place w : ℕ) (e : End) → stance (with_argument x place w e) ≡ stance e
loads Request place w e = refl
loads Reply place w e = refl
loads Code place w e = refl

stores : (x : Argument) (e : End) → stance (argument_stored x e) ≡ stance e
stores Request e = refl
stores Reply e = refl
stores Code e = refl

links : (place : ℕ) (e : End) (m : LinkRule) (w : ℕ) → Same e (link_effect place e m w)
links place e (Ring m) w = let f = ring_effect e.sides.send m w in heards (map BySend f.notes) (record e { sides = record e.sides { send = f.local } })
links place e (Pull m) w = let f = pull_effect (sender_counters e.sides) e.sides.pull m w in heards (map ByPull f.notes) (record e { sides = record e.sides { pull = f.local } })
links place e Acknowledge w = heards (release_notes e.sides.releasing e.sides.ack.front) (record e { sides = record e.sides { local_get = e.sides.ack.front; releasing = false }; shake = record e.shake { owes_message = true } })
links place e (SetFlag k) w = sends_flag k e
links place e ZeroGet w = refl
links place e ZeroPut w = refl
links place e (StoreArgument x) w = stores x e
links place e (ReadArgument x) w = all_settled (with_argument x place w e) ∙ loads x place w e

fails : (o : Option CopyMark) (e : End) → stance (end_failed o e) ≡ stance e
fails None e = refl
fails (Some mark) e = refl

pub linked_same : (mark : Option CopyMark) (place : ℕ) (e : End) (m : LinkRule) (a : Answer) → Same e (link_answered mark place e m a)
linked_same mark place e m (Word w) = links place e m w
linked_same mark place e m Failed = fails mark e

-- commands and notices
sends : (o : Option SendAnswer) (payload : List ℕ) (wait notify : Bool) (e : End) → Same e (send_begun o payload wait notify e)
sends None payload wait notify e = refl
sends (Some a) payload wait notify e = says (BySend (Sent a) ∷ []) e e refl

takes : (o : Option TakeRefusal) (wait : Bool) (e : End) → Same e (take_begun o wait e)
takes None wait e = refl
takes (Some a) wait e = says (ByPull (TakeRefused a) ∷ []) e e refl

releases : (o : Option ReleaseAnswer) (number : ℕ) (e : End) → Same e (release_begun o number e)
releases None number e =
    let new = message_released number e.sides.ack in
    let held = nat_eq e.sides.ack.front new.front in
    says (release_held held number new) e (record e { sides = record e.sides { ack = new; releasing = not held } }) refl
releases (Some a) number e = says (Released a ∷ []) e e refl

drains : (o : Option DrainAnswer) (e : End) → Same e (drain_begun o e)
drains None e = refl
drains (Some a) e = says (Drained a ∷ []) e e refl

registers : (o : Option Size) (z : Size) (e : End) → Same e (register_begun o z e)
registers None z e = says (Registered RegisterOk ∷ []) e (record e { registration = Some z }) refl
registers (Some x) z e = says (Registered Already ∷ []) e e refl

withdraws : (e : End) → Same e (withdrawn e)
withdraws e = either (e.shake.sent.open_request && not (is_some e.shake.reason)) e (channel_closed Unregistered e) (just e) (closes Unregistered e) refl

unregisters : (o : Option Size) (e : End) → Same e (unregister_begun o e)
unregisters None e = says (Withdrawn NotRegistered ∷ []) e e refl
unregisters (Some z) e = then_same e (say (Withdrawn UnregisterOk ∷ []) (record e { registration = None })) withdrawn refl (withdraws (say (Withdrawn UnregisterOk ∷ []) (record e { registration = None })).local)

pub begun_same : (e : End) (x : Command) → Same e (end_begun e x)
begun_same e (commands.Send q c payload wait notify) = sends (refused_send e payload) payload wait notify e
begun_same e (commands.Take q c wait) = takes (take_refusal (link_of e)) wait e
begun_same e (commands.Release q c number) = releases (release_refusal (link_of e) number e.sides.ack) number e
begun_same e (commands.Drain q c) = drains (drain_refusal (link_of e)) e
begun_same e (commands.Register q c entries limit) = registers e.registration (record { entries = entries; limit = limit }) e
begun_same e (commands.Unregister q c) = unregisters e.registration e
begun_same e (commands.Closed q c) = refl
begun_same e (commands.Connected q c) = refl
begun_same e (commands.Net frame) = refl
begun_same e (commands.Frames count) = refl
begun_same e (commands.Idle turns) = refl
begun_same e commands.Offline = refl
begun_same e commands.Online = refl
begun_same e (commands.Deactivate q) = refl
begun_same e (commands.Activate q) = refl
begun_same e commands.Leave = refl

taken : (o : Option TakeAnswer) (e : End) → Same e (taken_by o e)
taken None e = refl
taken (Some (TakenAnswer number body)) e = refl
taken (Some (Empty put)) e = refl
taken (Some a) e = refl

takes_answered : (o : Option TakeRefusal) (e : End) → Same e (take_answered o e)
takes_answered None e = taken (take_found e) e
takes_answered (Some a) e = refl

pub answered_same : (v : Verb) (e : End) → Same e (answered_by v e)
answered_same verbs.Send e = refl
answered_same verbs.Take e = takes_answered e.decided.take e
answered_same verbs.Release e = refl
answered_same verbs.Drain e = refl
answered_same verbs.Register e = refl
answered_same verbs.Unregister e = refl
answered_same verb e = refl

pub noticed_same : (how : NoticeKind) (number : ℕ) (e : End) → Same e (end_noticed how number e)
noticed_same Delivered number e = refl
noticed_same Ended number e = refl
