-- Commands and notices leave the reasons of an end clean: an answer tells the one for which the end
-- closes, and a registration that is withdrawn is a clean one.
use Rattle.std.proofs.Common.{◌≡◌, ℕ, ◌-◌, length, Bool, true, false, ◌&&◌, not, cond, List, [], ◌∷◌, ◌++◌, refl, sym, subst, Option, Some, None, inl}
use Rattle.std.specs.Prelude.{is_some, nat_eq, nat_lt, slice_get}
use Rattle.std.proofs.Common.{zero, suc}
use Rattle.xp_base.specs.declared.answer.DrainAnswer.{DrainAnswer}
use Rattle.xp_base.specs.declared.answer.DrainAnswer.TheVariants.{Disconnecting as DrainDisconnecting, Ok as DrainOk}
use Rattle.xp_base.specs.declared.answer.ReleaseAnswer.{ReleaseAnswer}
use Rattle.xp_base.specs.declared.answer.RegisterAnswer.{RegisterAnswer}
use Rattle.xp_base.specs.declared.answer.UnregisterAnswer.{UnregisterAnswer}
use Rattle.xp_base.specs.declared.answer.UnregisterAnswer.TheVariants.{Ok as UnregisterOk}
use Rattle.xp_base.specs.declared.answer.SendAnswer.{SendAnswer}
use Rattle.xp_base.specs.declared.answer.SendAnswer.TheVariants.{TooBig, Disconnecting}
use Rattle.xp_base.specs.declared.answer.TakeAnswer.{TakeAnswer}
use Rattle.xp_base.specs.declared.answer.TakeAnswer.TheVariants.{Taken as TakenAnswer, Empty, Disconnecting as TakeDisconnecting, NotConnected}
use Rattle.xp_base.specs.declared.reason.Reason.{Reason}
use Rattle.xp_base.specs.declared.reason.Reason.TheVariants.{Unregistered}
use Rattle.xp_base.specs.History.{NoticeKind, Delivered, Ended}
use Rattle.xp_script.specs.declared.command.Command.{Command}
use Rattle.xp_script.specs.declared.command.Command.TheVariants as commands
use Rattle.xp_script.specs.declared.log.LogAnswer.{LogAnswer}
use Rattle.xp_script.specs.declared.log.LogAnswer.TheVariants.{Connected as ConnectedAnswered, Closed as ClosedAnswered, Send as SendAnswered, Take as TakeAnswered, Release as ReleaseAnswered, Drain as DrainAnswered, Register as RegisterAnswered, Unregister as UnregisterAnswered}
use Rattle.xp_script.specs.declared.log.Verb.{Verb}
use Rattle.xp_script.specs.declared.log.Verb.TheVariants as verbs
use Rattle.xp_script.specs.Commands.{verb_of}
use Rattle.xp_protocol.specs.declared.contact.Size.{Size}
use Rattle.xp_protocol.specs.declared.refusal.TakeRefusal.{TakeRefusal}
use Rattle.xp_protocol.specs.declared.refusal.TakeRefusal.TheVariants.{Disconnecting as RefusedFor, NotConnected as RefusedUnconnected}
use Rattle.xp_protocol.specs.Effects.{Effect, just, and_then, Note, BySend, ByPull, Sent, TakeRefused, Released, Drained, Registered, Withdrawn, Freed, Taken}
use Rattle.xp_protocol.specs.Pulling.{Pulling, take_refusal, found, found_by, take_due}
use Rattle.xp_protocol.specs.Releasing.{Releasing, release_refusal, message_released}
use Rattle.xp_protocol.specs.Sending.{link_refusal}
use Rattle.xp_protocol.specs.State.{End, is_begun, is_connected, link_of, both_complete, state_by}
use Rattle.xp_protocol.specs.Linking.{opened_notes, channel_closed, close_now}
use Rattle.xp_protocol.specs.Acts.{say, first_of, too_long, limit_of, refused_send, send_begun, take_begun, release_held, release_begun, drain_refusal, drain_begun, register_begun, withdrawn, unregister_begun, end_begun, taken_by, take_found, take_answered, answered_by, end_answered, end_noticed, send_logged, take_logged, release_logged, drain_logged, register_logged, unregister_logged, closed_due, due_by}
use Rattle.xp_records.specs.Clean.{IsClean, IsCleanIfAny, IsCleanAnswer}
use Rattle.xp_records.proofs.Blames.{Face, face, Held, Strong, Fair, FairSend, FairTake, FairDrain, AreClean, OversClean, with_send, with_take, with_drain, strong_close, overs_both, clean_all, opened_clean}

abbrev Fine : Effect End (List Note) → Type 0
Fine f = Strong (face f.local) × OversClean f.notes

faced : (e y : End) → face y ≡ face e → Strong (face e) → Strong (face y)
faced e y same h = subst (λ (x : Face). Strong x) (sym same) h

sending : (e : End) (a : Option SendAnswer) → FairSend e.shake.reason e.shake.sent.close_reply a → Strong (face e) → Strong (record (face e) { send = a })
sending e a f h = (with_send (face e) a f h.0, h.1)

taking : (e : End) (a : Option TakeRefusal) → FairTake e.shake.reason e.shake.sent.close_reply a → Strong (face e) → Strong (record (face e) { take = a })
taking e a f h = (with_take (face e) a f h.0, h.1)

draining : (e : End) (a : Option DrainAnswer) → FairDrain e.shake.reason e.shake.sent.close_reply a → Strong (face e) → Strong (record (face e) { drain = a })
draining e a f h = (with_drain (face e) a f h.0, h.1)

-- why commands are refused
send_fair : (o z : Option Reason) (d a b : Bool) → IsCleanIfAny o → FairSend z d (link_refusal (state_by o a b))
send_fair (Some r) z d a b h = inl h
send_fair None z d a true h = tt
send_fair None z d true false h = tt
send_fair None z d false false h = tt

first_fair : (z : Option Reason) (d : Bool) (limit : Option ℕ) (payload : List ℕ) (later : Option SendAnswer) → FairSend z d later → FairSend z d (first_of (too_long limit payload) later)
first_fair z d None payload later h = h
first_fair z d (Some limit) payload later h = by (nat_lt limit (length payload)) where
  by : (b : Bool) → FairSend z d (first_of (cond b (Some (TooBig (length payload) limit)) None) later)
  by true = tt
  by false = h

take_fair : (o z : Option Reason) (d a b : Bool) → IsCleanIfAny o → FairTake z d (take_refusal (state_by o a b))
take_fair (Some r) z d a b h = inl h
take_fair None z d a true h = tt
take_fair None z d true false h = tt
take_fair None z d false false h = tt

drain_fair : (o z : Option Reason) (d a b : Bool) → IsCleanIfAny o → FairDrain z d (drain_refusal (state_by o a b))
drain_fair (Some r) z d a b h = inl h
drain_fair None z d a true h = tt
drain_fair None z d true false h = tt
drain_fair None z d false false h = tt

-- commands are begun
begins_send : (o : Option SendAnswer) (payload : List ℕ) (wait notify : Bool) (e : End) → FairSend e.shake.reason e.shake.sent.close_reply o → Strong (face e) → Fine (send_begun o payload wait notify e)
begins_send None payload wait notify e f h = (h, tt)
begins_send (Some a) payload wait notify e f h = (sending e (Some a) f h, tt)

begins_take : (o : Option TakeRefusal) (wait : Bool) (e : End) → FairTake e.shake.reason e.shake.sent.close_reply o → Strong (face e) → Fine (take_begun o wait e)
begins_take None wait e f h = (h, tt)
begins_take (Some a) wait e f h = (taking e (Some a) f h, tt)

begins_drain : (o : Option DrainAnswer) (e : End) → FairDrain e.shake.reason e.shake.sent.close_reply o → Strong (face e) → Fine (drain_begun o e)
begins_drain None e f h = (h, tt)
begins_drain (Some a) e f h = (draining e (Some a) f h, tt)

held_by : (b : Bool) (number : ℕ) (x : Releasing) (e : End) → Strong (face e) → Fine (say (release_held b number x) e)
held_by true number x e h = (h, tt)
held_by false number x e h = (h, tt)

begins_release : (o : Option ReleaseAnswer) (number : ℕ) (e : End) → Strong (face e) → Fine (release_begun o number e)
begins_release None number e h =
    let new = message_released number e.sides.ack in
    let stays = nat_eq e.sides.ack.front new.front in
    held_by stays number new (record e { sides = record e.sides { ack = new; releasing = not stays } }) h
begins_release (Some a) number e h = (h, tt)

begins_register : (o : Option Size) (z : Size) (e : End) → Strong (face e) → Fine (register_begun o z e)
begins_register None z e h = (h, tt)
begins_register (Some first) z e h = (h, tt)

closes : (e : End) → Strong (face e) → Fine (channel_closed Unregistered e)
closes e h = let k = strong_close e.shake.reason Unregistered e refl tt h in (k.0, overs_both (opened_notes e) (close_now e.shake.reason Unregistered e).notes (opened_clean e) k.1)

withdraws : (b : Bool) (e : End) → Strong (face e) → Fine (cond b (channel_closed Unregistered e) (just e))
withdraws true e h = closes e h
withdraws false e h = (h, tt)

begins_unregister : (o : Option Size) (e : End) → Strong (face e) → Fine (unregister_begun o e)
begins_unregister None e h = (h, tt)
begins_unregister (Some z) e h =
    let y = (say (Withdrawn UnregisterOk ∷ []) (record e { registration = None })).local in
    withdraws (y.shake.sent.open_request && not (is_some y.shake.reason)) y h

pub begins : (e : End) (x : Command) → Strong (face e) → Fine (end_begun e x)
begins e (commands.Send q c payload wait notify) h = begins_send (refused_send e payload) payload wait notify e (first_fair e.shake.reason e.shake.sent.close_reply (limit_of e) payload (link_refusal (link_of e)) (send_fair e.shake.reason e.shake.reason e.shake.sent.close_reply e.shake.sent.open_request (both_complete e.shake) h.1)) h
begins e (commands.Take q c wait) h = begins_take (take_refusal (link_of e)) wait e (take_fair e.shake.reason e.shake.reason e.shake.sent.close_reply e.shake.sent.open_request (both_complete e.shake) h.1) h
begins e (commands.Release q c number) h = begins_release (release_refusal (link_of e) number e.sides.ack) number e h
begins e (commands.Drain q c) h = begins_drain (drain_refusal (link_of e)) e (drain_fair e.shake.reason e.shake.reason e.shake.sent.close_reply e.shake.sent.open_request (both_complete e.shake) h.1) h
begins e (commands.Register q c entries limit) h = begins_register e.registration (record { entries = entries; limit = limit }) e h
begins e (commands.Unregister q c) h = begins_unregister e.registration e h
begins e (commands.Closed q c) h = (h, tt)
begins e (commands.Connected q c) h = (h, tt)
begins e (commands.Net frame) h = (h, tt)
begins e (commands.Frames count) h = (h, tt)
begins e (commands.Deactivate q) h = (h, tt)
begins e (commands.Activate q) h = (h, tt)
begins e commands.Leave h = (h, tt)
begins e (commands.Idle turns) h = (h, tt)
begins e commands.Offline h = (h, tt)
begins e commands.Online h = (h, tt)

-- and answered
takes : (o : Option TakeAnswer) (e : End) → Strong (face e) → Fine (taken_by o e)
takes (Some (TakenAnswer number body)) e h = (h, tt)
takes (Some (Empty put)) e h = (h, tt)
takes (Some (TakeDisconnecting reason)) e h = (h, tt)
takes (Some NotConnected) e h = (h, tt)
takes None e h = (h, tt)

answers_take : (o : Option TakeRefusal) (e : End) → Strong (face e) → Fine (take_answered o e)
answers_take None e h = takes (take_found e) e h
answers_take (Some a) e h = (taking e None tt h, tt)

answers_by : (v : Verb) (e : End) → Strong (face e) → Fine (answered_by v e)
answers_by verbs.Send e h = (sending e None tt h, tt)
answers_by verbs.Take e h = answers_take e.decided.take e h
answers_by verbs.Drain e h = (draining e None tt h, tt)
answers_by verbs.Release e h = (h, tt)
answers_by verbs.Register e h = (h, tt)
answers_by verbs.Unregister e h = (h, tt)
answers_by v e h = (h, tt)

pub answers : (e : End) (x : Command) → Strong (face e) → Fine (end_answered e x)
answers e x h = answers_by (verb_of x) e h

pub notices : (how : NoticeKind) (number : ℕ) (e : End) → Strong (face e) → Fine (end_noticed how number e)
notices Delivered number e h = (h, tt)
notices Ended number e h = (h, tt)

-- the answer that is due
some_is : (a b : LogAnswer) → Some a ≡ Some b → a ≡ b
some_is a b e = cc

told_clean : (a b : LogAnswer) → Some a ≡ Some b → IsCleanAnswer a → IsCleanAnswer b
told_clean a b e h = subst (λ (z : LogAnswer). IsCleanAnswer z) (some_is a b e) h

send_clean : (x : Face) → Strong x → (a : Option SendAnswer) → FairSend x.reason x.reply a → (answer : LogAnswer) → send_logged a ≡ Some answer → IsCleanAnswer answer
send_clean x h None f answer e = absurd (cc)
send_clean x h (Some (Disconnecting r)) f answer e = told_clean (SendAnswered (Disconnecting r)) answer e (clean_all x.reason x.reply h.1 r f)
send_clean x h (Some a) f answer e = told_clean (SendAnswered a) answer e tt

found_clean : (taken : ℕ) (empty : Option ℕ) (cache : List (List ℕ)) (a : TakeAnswer) → found taken empty cache ≡ Some a → IsCleanAnswer (TakeAnswered a)
found_clean taken (Some put) cache a e = subst (λ (z : TakeAnswer). IsCleanAnswer (TakeAnswered z)) (let f : Empty put ≡ a = cc in f) tt
found_clean taken None (body ∷ more) a e = subst (λ (z : TakeAnswer). IsCleanAnswer (TakeAnswered z)) (let f : TakenAnswer taken body ≡ a = cc in f) tt
found_clean taken None [] a e = absurd (cc)

due_found : (o : Option Bool) (x : Pulling) (a : TakeAnswer) → found_by o x ≡ Some a → IsCleanAnswer (TakeAnswered a)
due_found None x a e = absurd (cc)
due_found (Some wait) x a e = found_clean x.taken x.empty x.cache a e

take_there : (b : Bool) (x : Pulling) (a : TakeAnswer) → cond b (take_due x) None ≡ Some a → IsCleanAnswer (TakeAnswered a)
take_there true x a e = due_found x.take x a e
take_there false x a e = absurd (cc)

take_clean : (x : Face) → Strong x → (o : Option TakeRefusal) → FairTake x.reason x.reply o → (later : Option TakeAnswer) → ((a : TakeAnswer) → later ≡ Some a → IsCleanAnswer (TakeAnswered a)) → (answer : LogAnswer) → take_logged o later ≡ Some answer → IsCleanAnswer answer
take_clean x h (Some (RefusedFor r)) f later n answer e = told_clean (TakeAnswered (TakeDisconnecting r)) answer e (clean_all x.reason x.reply h.1 r f)
take_clean x h (Some RefusedUnconnected) f later n answer e = told_clean (TakeAnswered NotConnected) answer e tt
take_clean x h None f (Some a) n answer e = told_clean (TakeAnswered a) answer e (n a refl)
take_clean x h None f None n answer e = absurd (cc)

drain_clean : (x : Face) → Strong x → (o : Option DrainAnswer) → FairDrain x.reason x.reply o → (b : Bool) (answer : LogAnswer) → drain_logged o b ≡ Some answer → IsCleanAnswer answer
drain_clean x h (Some (DrainDisconnecting r)) f b answer e = told_clean (DrainAnswered (DrainDisconnecting r)) answer e (clean_all x.reason x.reply h.1 r f)
drain_clean x h (Some a) f b answer e = told_clean (DrainAnswered a) answer e tt
drain_clean x h None f true answer e = told_clean (DrainAnswered DrainOk) answer e tt
drain_clean x h None f false answer e = absurd (cc)

closed_clean : (rs : List Reason) → AreClean rs → (k : ℕ) (answer : LogAnswer) → closed_due (slice_get rs k) ≡ Some answer → IsCleanAnswer answer
closed_clean [] h k answer e = absurd (cc)
closed_clean (r ∷ rs) h zero answer e = told_clean (ClosedAnswered r) answer e h.0
closed_clean (r ∷ rs) h (suc k) answer e = closed_clean rs h.1 k answer e

connected_clean : (b : Bool) (answer : LogAnswer) → cond b (Some ConnectedAnswered) None ≡ Some answer → IsCleanAnswer answer
connected_clean true answer e = told_clean ConnectedAnswered answer e tt
connected_clean false answer e = absurd (cc)

release_clean : (o : Option ReleaseAnswer) (answer : LogAnswer) → release_logged o ≡ Some answer → IsCleanAnswer answer
release_clean None answer e = absurd (cc)
release_clean (Some a) answer e = told_clean (ReleaseAnswered a) answer e tt

register_clean : (o : Option RegisterAnswer) (answer : LogAnswer) → register_logged o ≡ Some answer → IsCleanAnswer answer
register_clean None answer e = absurd (cc)
register_clean (Some a) answer e = told_clean (RegisterAnswered a) answer e tt

unregister_clean : (o : Option UnregisterAnswer) (answer : LogAnswer) → unregister_logged o ≡ Some answer → IsCleanAnswer answer
unregister_clean None answer e = absurd (cc)
unregister_clean (Some a) answer e = told_clean (UnregisterAnswered a) answer e tt

pub due_clean : (v : Verb) (e : End) → Strong (face e) → (answer : LogAnswer) → due_by v e ≡ Some answer → IsCleanAnswer answer
due_clean verbs.Send e h answer i = send_clean (face e) h e.decided.send h.0.send answer i
due_clean verbs.Take e h answer i = take_clean (face e) h e.decided.take h.0.take (take_found e) (λ a j. take_there (is_connected e) e.sides.pull a j) answer i
due_clean verbs.Drain e h answer i = drain_clean (face e) h e.decided.drain h.0.drain _ answer i
due_clean verbs.Closed e h answer i = closed_clean e.closed h.0.closed (e.closed_asked - 1) answer i
due_clean verbs.Connected e h answer i = connected_clean (is_connected e) answer i
due_clean verbs.Release e h answer i = release_clean e.decided.release answer i
due_clean verbs.Register e h answer i = register_clean e.decided.register answer i
due_clean verbs.Unregister e h answer i = unregister_clean e.decided.unregister answer i
due_clean verbs.Net e h answer i = absurd (cc)
due_clean verbs.Frames e h answer i = absurd (cc)
due_clean verbs.Deactivate e h answer i = absurd (cc)
due_clean verbs.Activate e h answer i = absurd (cc)
due_clean verbs.Leave e h answer i = absurd (cc)
due_clean verbs.Idle e h answer i = absurd (cc)
due_clean verbs.Offline e h answer i = absurd (cc)
due_clean verbs.Online e h answer i = absurd (cc)
