-- What acts and steps leave of a fact of an end while its channel is connected: a fact of its sides,
-- and of whether a message request is owed. All that the handshake does is said here once: while no
-- reason to close came and open complete is sent, the fact stands.
use Rattle.std.proofs.Common.{◌≡◌, ℕ, zero, suc, Bool, true, false, ◌&&◌, List, [], ◌∷◌, map, refl, sym, ◌∙◌, inl, inr, ◌⊎◌, Option, Some, None}
use Rattle.std.specs.Prelude.{is_some, not, nat_eq, if◌then◌else◌}
use Rattle.xp_base.specs.declared.answer.SendAnswer.{SendAnswer}
use Rattle.xp_base.specs.declared.answer.TakeAnswer.{TakeAnswer}
use Rattle.xp_base.specs.declared.answer.TakeAnswer.TheVariants.{Taken as TakenAnswer, Empty, Disconnecting, NotConnected}
use Rattle.xp_base.specs.declared.answer.ReleaseAnswer.{ReleaseAnswer}
use Rattle.xp_base.specs.declared.answer.DrainAnswer.{DrainAnswer}
use Rattle.xp_base.specs.declared.link.Kind.{Kind}
use Rattle.xp_base.specs.declared.link.Kind.TheVariants.{CloseRequest, CloseReply, OpenRequest, OpenReply, OpenComplete, MsgRequest}
use Rattle.xp_base.specs.declared.reason.Reason.{Reason}
use Rattle.xp_base.specs.declared.reason.Reason.TheVariants.{PartnerClosed, Unregistered, UnequalSizes, BadArgs}
use Rattle.xp_base.specs.declared.step.Answer.{Answer}
use Rattle.xp_base.specs.declared.step.Answer.TheVariants.{Word, Failed}
use Rattle.xp_base.specs.declared.step.CopyKind.{CopyKind}
use Rattle.xp_base.specs.declared.step.CopyMark.{CopyMark}
use Rattle.xp_base.specs.History.{NoticeKind, Delivered, Ended}
use Rattle.xp_base.specs.Kinds.{Kinds, without, next_of}
use Rattle.xp_script.specs.declared.command.Command.{Command}
use Rattle.xp_script.specs.declared.command.Command.TheVariants as commands
use Rattle.xp_script.specs.declared.log.Verb.{Verb}
use Rattle.xp_script.specs.declared.log.Verb.TheVariants as verbs
use Rattle.xp_script.specs.Commands.{verb_of}
use Rattle.xp_protocol.specs.declared.contact.Size.{Size}
use Rattle.xp_protocol.specs.declared.contact.Contact.{Contact}
use Rattle.xp_protocol.specs.declared.contact.Replied.{Replied}
use Rattle.xp_protocol.specs.declared.refusal.TakeRefusal.{TakeRefusal}
use Rattle.xp_protocol.specs.declared.rule.Argument.{Argument}
use Rattle.xp_protocol.specs.declared.rule.Argument.TheVariants.{Request, Reply, Code}
use Rattle.xp_protocol.specs.declared.rule.LinkRule.{LinkRule}
use Rattle.xp_protocol.specs.declared.rule.LinkRule.TheVariants.{Ring, Pull, Acknowledge, SetFlag, ZeroGet, ZeroPut, StoreArgument, ReadArgument}
use Rattle.xp_protocol.specs.declared.rule.Rule.TheVariants.{Link}
use Rattle.xp_script.specs.declared.part.ScenarioPart.{ScenarioPart}
use Rattle.xp_protocol.specs.declared.rule.PullRule.{PullRule}
use Rattle.xp_protocol.specs.Effects.{Effect, SendNote, PullNote, Note, BySend, ByPull, Accepted, Sent, Heard, TakeRefused, Released, Drained, just, and_then}
use Rattle.xp_protocol.specs.Sending.{Sending, with_remote_get, ring_effect}
use Rattle.xp_protocol.specs.Pulling.{Pulling, pull_effect, pull_failed, message_taken, take_refusal}
use Rattle.xp_protocol.specs.Releasing.{Releasing, message_released, message_held, release_refusal}
use Rattle.xp_protocol.specs.State.{State, size_in, end_of, End, Sides, is_connected, link_of}
use Rattle.xp_protocol.specs.Linking.{owed, link_can, hear, hears, asked_more, by_send, by_pull, sender_counters, acknowledged, link_effect, close_now, down_notes, down_end, channel_closed, epoch_over, changed, unequal, is_ended, are_unequal, kind_left, kind_got, is_request, request_handled, reply_handled, is_code, code_handled, refused, kind_refused, well_handled, handled, has_argument, handled_next, settle, settled, with_taken, flags_got, end_sent, control_sent, flag_sent, with_argument, argument_stored, limit_in}
use Rattle.xp_protocol.specs.Acts.{say, refused_send, send_begun, take_begun, release_held, release_begun, drain_refusal, drain_begun, register_begun, unregister_begun, end_begun, taken_by, take_found, take_answered, answered_by, end_answered, without_first, end_noticed}
use Rattle.xp_protocol.specs.Rules.{end_failed, link_answered, mark_of, place_for}

-- a fact stands until the end closes
abbrev pub While : (Bool → Sides → Type 0) → End → Type 0
While R e = e.shake.sent.open_complete ≡ true → e.shake.reason ≡ None → R e.shake.owes_message e.sides

opened : (o : Option Contact) (a b : Bool) (r : Option Reason) → ((is_some o && (a && b)) && not (is_some r)) ≡ true → (is_some o ≡ true) × (a ≡ true) × (r ≡ None)
opened (Some x) true true None h = (refl, refl, refl)
opened (Some x) true true (Some r) h = absurd (cc)
opened (Some x) true false r h = absurd (cc)
opened (Some x) false b r h = absurd (cc)
opened None a b r h = absurd (cc)

pub connected_by : (e : End) → is_connected e ≡ true → (is_some e.shake.meet ≡ true) × (e.shake.sent.open_complete ≡ true) × (e.shake.reason ≡ None)
connected_by e h = opened e.shake.meet e.shake.sent.open_complete e.shake.got.open_complete e.shake.reason h

pub stands : (R : Bool → Sides → Type 0) (e : End) → is_connected e ≡ true → While R e → R e.shake.owes_message e.sides
stands R e on h = let z = connected_by e on in h z.1 z.2

-- what a fact has to stand: what the handshake, the sending side, the numbers and the commands of an
-- end change
pub record Framed (R : Bool → Sides → Type 0) : Type 0 where
  pub owed : (b : Bool) (x : Sides) → R b x → R b (record x { pull = record x.pull { owed = true } })
  pub sent : (b : Bool) (x : Sides) (y : Sending) → R b x → R b (record x { send = y })
  pub numbers : (b : Bool) (x : Sides) (ns : List ℕ) → R b x → R b (record x { pending_notices = ns })
  pub drains : (b d : Bool) (x : Sides) → R b x → R b (record x { draining = d })
  pub taking : (b : Bool) (x : Sides) (o : Option Bool) (put : Option ℕ) → R b x → R b (record x { pull = record x.pull { take = o; empty = put } })
  pub taken : (b : Bool) (x : Sides) → R b x → R b (record x { pull = message_taken x.pull; ack = message_held x.ack })
  pub released : (b r : Bool) (x : Sides) (number : ℕ) → R b x → R b (record x { ack = message_released number x.ack; releasing = r })

-- what is told leaves why an end closes, and which flags it sent
hear_shake : (n : Note) (e : End) → ((hear n e).shake.reason ≡ e.shake.reason) × ((hear n e).shake.sent ≡ e.shake.sent)
hear_shake (BySend (Accepted number body asks)) e = (refl, refl)
hear_shake (BySend (Sent a)) e = (refl, refl)
hear_shake (ByPull (Heard get)) e = (refl, refl)
hear_shake (ByPull (TakeRefused a)) e = (refl, refl)
hear_shake (Released a) e = (refl, refl)
hear_shake (Drained a) e = (refl, refl)
hear_shake n e = (refl, refl)

hears_reason : (ns : List Note) (e : End) → (hears ns e).shake.reason ≡ e.shake.reason
hears_reason [] e = refl
hears_reason (n ∷ ns) e = hears_reason ns (hear n e) ∙ (hear_shake n e).0

module _ (R : Bool → Sides → Type 0) (f : Framed R) where
  -- what the sides tell
  module _ (accepted : (b : Bool) (x : Sides) → R b x → R true x) where
    hear_keeps : (n : Note) (e : End) → While R e → While R (hear n e)
    hear_keeps (BySend (Accepted number body asks)) e h = λ a b. f.numbers true e.sides (asked_more number asks e.sides.pending_notices) (accepted e.shake.owes_message e.sides (h a b))
    hear_keeps (BySend (Sent a)) e h = h
    hear_keeps (ByPull (Heard get)) e h = λ a b. f.sent e.shake.owes_message e.sides (with_remote_get get e.sides.send) (h a b)
    hear_keeps (ByPull (TakeRefused a)) e h = h
    hear_keeps (Released a) e h = h
    hear_keeps (Drained a) e h = h
    hear_keeps n e h = h

    pub hears_keep : (ns : List Note) (e : End) → While R e → While R (hears ns e)
    hears_keep [] e h = h
    hears_keep (n ∷ ns) e h = hears_keep ns (hear n e) (hear_keeps n e h)

    pub pulled_keeps : (e : End) (x : Effect Pulling (List PullNote)) → While R (record e { sides = record e.sides { pull = x.local } }) → While R (by_pull e x).local
    pulled_keeps e x h = hears_keep (map ByPull x.notes) (record e { sides = record e.sides { pull = x.local } }) h

    sent_keeps : (e : End) (x : Effect Sending (List SendNote)) → While R e → While R (by_send e x).local
    sent_keeps e x h = hears_keep (map BySend x.notes) (record e { sides = record e.sides { send = x.local } }) (λ a b. f.sent e.shake.owes_message e.sides x.local (h a b))

  -- a reason to close comes
  closes : (o : Option Reason) (reason : Reason) (e : End) → While R e → While R (close_now o reason e).local
  closes (Some first) reason e h = h
  closes None reason e h = λ a b. absurd (let z : Some reason ≡ None = sym (hears_reason (down_notes reason e) (down_end reason e)) ∙ b in cc)

  channel : (reason : Reason) (e : End) → While R e → While R (channel_closed reason e).local
  channel reason e h = closes e.shake.reason reason e h

  -- the handshake goes on
  unequals : (b : Bool) (e : End) → While R e → While R (if b then channel_closed (UnequalSizes (limit_in e.shake.own_size) (limit_in e.shake.their_size)) e else just e).local
  unequals true e h = channel (UnequalSizes (limit_in e.shake.own_size) (limit_in e.shake.their_size)) e h
  unequals false e h = h

  changes : (b : Bool) (e : End) → While R e → While R (if b then epoch_over e else unequal e).local
  changes true e h = λ a b. absurd (cc)
  changes false e h = unequals (are_unequal e) e h

  got : (k : Kind) (e : End) → While R e → While R (kind_got k e)
  got OpenRequest e h = h
  got OpenReply e h = h
  got OpenComplete e h = h
  got CloseRequest e h = h
  got CloseReply e h = h
  got MsgRequest e h = h

  left : (k : Kind) (e : End) → While R e → While R (kind_left k e)
  left OpenRequest e h = h
  left OpenReply e h = h
  left OpenComplete e h = h
  left CloseRequest e h = h
  left CloseReply e h = h
  left MsgRequest e h = h

  copied : (b : Bool) (e : End) → While R e → While R (if b then just (record e { sides = record e.sides { pull = record e.sides.pull { owed = true } } }) else just e).local
  copied true e h = λ a b. f.owed e.shake.owes_message e.sides (h a b)
  copied false e h = h

  request_by : (b : Bool) (w : ℕ) (e : End) → While R e → While R (if b then just (record e { shake = record e.shake { their_size = Some (size_in w) } }) else channel_closed (BadArgs w) e).local
  request_by true w e h = h
  request_by false w e h = channel (BadArgs w) e h

  requested : (o : Option ℕ) (e : End) → While R e → While R (request_handled o e).local
  requested None e h = h
  requested (Some w) e h = request_by (is_request w) w e h

  reply_by : (b : Bool) (w : ℕ) (e : End) → While R e → While R (if b then just e else channel_closed (BadArgs w) e).local
  reply_by true w e h = h
  reply_by false w e h = channel (BadArgs w) e h

  replied : (o : Option Replied) (e : End) → While R e → While R (reply_handled o e).local
  replied None e h = h
  replied (Some x) e h = reply_by x.right x.word e h

  code_by : (b : Bool) (w : ℕ) (e : End) → While R e → While R (if b then channel_closed (PartnerClosed w) e else channel_closed (BadArgs w) e).local
  code_by true w e h = channel (PartnerClosed w) e h
  code_by false w e h = channel (BadArgs w) e h

  coded : (o : Option ℕ) (e : End) → While R e → While R (code_handled o e).local
  coded None e h = h
  coded (Some w) e h = code_by (is_code w) w e h

  well : (k : Kind) (e : End) → While R e → While R (well_handled k e).local
  well MsgRequest e h = copied (is_connected (record e { shake = record e.shake { taken = without MsgRequest e.shake.taken } })) (record e { shake = record e.shake { taken = without MsgRequest e.shake.taken } }) h
  well OpenRequest e h = requested e.shake.request (kind_got OpenRequest e) h
  well OpenReply e h = replied e.shake.reply (kind_got OpenReply e) h
  well CloseRequest e h = coded e.shake.code (kind_got CloseRequest e) h
  well CloseReply e h = got CloseReply e h
  well OpenComplete e h = got OpenComplete e h

  handles : (b : Bool) (k : Kind) (e : End) → While R e → While R (if b then kind_refused k e else well_handled k e).local
  handles true k e h = left k e h
  handles false k e h = well k e h

  handles_next : (b : Bool) (k : Kind) (e : End) → While R e → While R (if b then and_then (handled k e) changed else just e).local
  handles_next true k e h = let x = (handled k e).local in changes (is_ended x) x (handles (refused k e) k e h)
  handles_next false k e h = h

  next : (o : Option Kind) (e : End) → While R e → While R (handled_next o e).local
  next None e h = h
  next (Some k) e h = handles_next (has_argument k e.shake) k e h

  settles : (n : ℕ) (e : End) → While R e → While R (settle n e).local
  settles zero e h = h
  settles (suc n) e h = let o = next_of e.shake.got.close_request e.shake.taken in settles n (handled_next o e).local (next o e h)

  pub all_settles : (e : End) → While R e → While R (settled e).local
  unfolding settled
  all_settles e h = settles 6 e h

  flags : (b : Bool) (ks : Kinds) (e : End) → While R e → While R (if b then and_then (just (with_taken ks e)) settled else just e).local
  flags true ks e h = all_settles (with_taken ks e) h
  flags false ks e h = h

  pub flags_keep : (ks : Kinds) (e : End) → While R e → While R (flags_got ks e).local
  flags_keep ks e h = flags (is_some e.shake.meet) ks e h

  -- a control flag is sent from a connected end: the open complete was sent before
  unowed : (a b c d : Bool) → d ≡ true → (a && (b && (c && not d))) ≡ true → ⊥
  unowed true true true true e f = cc
  unowed true true false d e f = cc
  unowed true false c d e f = cc
  unowed false b c d e f = cc
  unowed true true true false e f = absurd (cc)

  sends_to : (k : Kind) (e : End) → is_connected e ≡ true → owed k e ≡ true → While R e → While R (end_sent k e)
  sends_to OpenRequest e on o h = λ a b. stands R e on h
  sends_to OpenReply e on o h = λ a b. stands R e on h
  sends_to OpenComplete e on o h = absurd (unowed (not (is_some e.shake.reason)) e.shake.sent.open_reply e.shake.got.open_reply e.shake.sent.open_complete (connected_by e on).1 o)
  sends_to CloseRequest e on o h = λ a b. stands R e on h
  sends_to CloseReply e on o h = λ a b. stands R e on h
  sends_to MsgRequest e on o h = λ a b. stands R e on h

  sends : (k : Kind) (e : End) → is_connected e ≡ true → owed k e ≡ true → While R e → While R (control_sent k e).local
  sends k e on o h =
      let x = end_sent k e in
      all_settles (changed x).local (changes (is_ended x) x (sends_to k e on o h))

  -- acts
  begins_send : (o : Option SendAnswer) (payload : List ℕ) (wait notify : Bool) (e : End) → While R e → While R (send_begun o payload wait notify e).local
  begins_send None payload wait notify e h = λ a b. f.sent e.shake.owes_message e.sides (record e.sides.send { send = Some (record { payload = payload; wait = wait; notify = notify }); written_words = 0 }) (h a b)
  begins_send (Some x) payload wait notify e h = h

  begins_take : (o : Option TakeRefusal) (wait : Bool) (e : End) → While R e → While R (take_begun o wait e).local
  begins_take None wait e h = λ a b. f.taking e.shake.owes_message e.sides (Some wait) None (h a b)
  begins_take (Some x) wait e h = h

  holds : (b : Bool) (number : ℕ) (x : Releasing) (e : End) → While R e → While R (say (release_held b number x) e).local
  holds true number x e h = h
  holds false number x e h = h

  begins_release : (o : Option ReleaseAnswer) (number : ℕ) (e : End) → While R e → While R (release_begun o number e).local
  begins_release None number e h =
      let new = message_released number e.sides.ack in
      let stays = nat_eq e.sides.ack.front new.front in
      holds stays number new (record e { sides = record e.sides { ack = new; releasing = not stays } }) (λ a b. f.released e.shake.owes_message (not stays) e.sides number (h a b))
  begins_release (Some x) number e h = h

  begins_drain : (o : Option DrainAnswer) (e : End) → While R e → While R (drain_begun o e).local
  begins_drain None e h = λ a b. f.drains e.shake.owes_message true e.sides (h a b)
  begins_drain (Some x) e h = h

  begins_register : (o : Option Size) (z : Size) (e : End) → While R e → While R (register_begun o z e).local
  begins_register None z e h = h
  begins_register (Some first) z e h = h

  withdraws : (b : Bool) (e : End) → While R e → While R (if b then channel_closed Unregistered e else just e).local
  withdraws true e h = channel Unregistered e h
  withdraws false e h = h

  begins_unregister : (o : Option Size) (e : End) → While R e → While R (unregister_begun o e).local
  begins_unregister None e h = h
  begins_unregister (Some z) e h = withdraws (e.shake.sent.open_request && not (is_some e.shake.reason)) _ h

  pub begun_keeps : (e : End) (x : Command) → While R e → While R (end_begun e x).local
  begun_keeps e (commands.Send q c payload wait notify) h = begins_send (refused_send e payload) payload wait notify e h
  begun_keeps e (commands.Take q c wait) h = begins_take (take_refusal (link_of e)) wait e h
  begun_keeps e (commands.Release q c number) h = begins_release (release_refusal (link_of e) number e.sides.ack) number e h
  begun_keeps e (commands.Drain q c) h = begins_drain (drain_refusal (link_of e)) e h
  begun_keeps e (commands.Register q c entries limit) h = begins_register e.registration (record { entries = entries; limit = limit }) e h
  begun_keeps e (commands.Unregister q c) h = begins_unregister e.registration e h
  begun_keeps e (commands.Closed q c) h = h
  begun_keeps e (commands.Connected q c) h = h
  begun_keeps e (commands.Net frame) h = h
  begun_keeps e (commands.Frames count) h = h
  begun_keeps e (commands.Deactivate q) h = h
  begun_keeps e (commands.Activate q) h = h
  begun_keeps e commands.Leave h = h
  begun_keeps e (commands.Idle turns) h = h
  begun_keeps e commands.Offline h = h
  begun_keeps e commands.Online h = h

  takes : (o : Option TakeAnswer) (e : End) → While R e → While R (taken_by o e).local
  takes (Some (TakenAnswer number body)) e h = λ a b. f.taken e.shake.owes_message e.sides (h a b)
  takes (Some (Empty put)) e h = λ a b. f.taking e.shake.owes_message e.sides None None (h a b)
  takes (Some (Disconnecting reason)) e h = h
  takes (Some NotConnected) e h = h
  takes None e h = h

  answers_take : (o : Option TakeRefusal) (e : End) → While R e → While R (take_answered o e).local
  answers_take None e h = takes (take_found e) e h
  answers_take (Some x) e h = h

  answers_by : (v : Verb) (e : End) → While R e → While R (answered_by v e).local
  answers_by verbs.Send e h = h
  answers_by verbs.Take e h = answers_take e.decided.take e h
  answers_by verbs.Release e h = h
  answers_by verbs.Drain e h = λ a b. f.drains e.shake.owes_message false e.sides (h a b)
  answers_by verbs.Register e h = h
  answers_by verbs.Unregister e h = h
  answers_by v e h = h

  pub answered_keeps : (e : End) (x : Command) → While R e → While R (end_answered e x).local
  answered_keeps e x h = answers_by (verb_of x) e h

  pub noticed_keeps : (how : NoticeKind) (number : ℕ) (e : End) → While R e → While R (end_noticed how number e).local
  noticed_keeps Delivered number e h = λ a b. f.numbers e.shake.owes_message e.sides (without_first e.sides.pending_notices) (h a b)
  noticed_keeps Ended number e h = h

  -- steps of the end itself: all but those of the receiving side, the store of get and the message
  -- request leave it
  pub record OwnSteps (E : End → LinkRule → Type 0) : Type 0 where
    pub accepted : (b : Bool) (x : Sides) → R b x → R true x
    pub pulls : (e : End) (m : PullRule) (w : ℕ) → R e.shake.owes_message e.sides → E e (Pull m) ⊎ While R (by_pull e (pull_effect (sender_counters e.sides) e.sides.pull m w)).local
    pub stores : (e : End) → R e.shake.owes_message e.sides → E e Acknowledge ⊎ While R (acknowledged e).local
    pub requests : (e : End) → R e.shake.owes_message e.sides → E e (SetFlag MsgRequest) ⊎ R false e.sides
    pub fails : (s : ScenarioPart) (st : State) (q c : ℕ) (m : LinkRule) → let e = end_of st q c in R e.shake.owes_message e.sides → E e m ⊎ While R (end_failed (mark_of s st (Link q c m)) e)

  -- of a fact that a failed copy leaves
  pub failed_keeps : ((b : Bool) (x : Sides) (kind : CopyKind) → R b x → R b (record x { pull = pull_failed kind x.pull })) → (mark : Option CopyMark) (e : End) → R e.shake.owes_message e.sides → While R (end_failed mark e)
  failed_keeps keep None e h = λ a b. h
  failed_keeps keep (Some mark) e h = λ a b. keep e.shake.owes_message e.sides mark.kind h

  module _ (E : End → LinkRule → Type 0) (own : OwnSteps E) where
    asks_more : (e : End) → E e (SetFlag MsgRequest) ⊎ R false e.sides → E e (SetFlag MsgRequest) ⊎ While R (flag_sent MsgRequest e).local
    asks_more e (inl x) = inl x
    asks_more e (inr y) = inr (λ a b. y)

    stores_argument : (x : Argument) (e : End) → While R e → While R (argument_stored x e)
    stores_argument Request e h = h
    stores_argument Reply e h = h
    stores_argument Code e h = h

    loads_argument : (x : Argument) (place w : ℕ) (e : End) → While R e → While R (with_argument x place w e)
    loads_argument Request place w e h = h
    loads_argument Reply place w e h = h
    loads_argument Code place w e h = h

    word_keeps : (place : ℕ) (e : End) (m : LinkRule) (w : ℕ) → link_can e m → is_connected e ≡ true → While R e → E e m ⊎ While R (link_effect place e m w).local
    word_keeps place e (Ring m) w can on h = inr (sent_keeps own.accepted e (ring_effect e.sides.send m w) h)
    word_keeps place e (Pull m) w can on h = own.pulls e m w (stands R e on h)
    word_keeps place e Acknowledge w can on h = own.stores e (stands R e on h)
    word_keeps place e (SetFlag MsgRequest) w can on h = asks_more e (own.requests e (stands R e on h))
    word_keeps place e (SetFlag CloseRequest) w can on h = inr (sends CloseRequest e on can.1 h)
    word_keeps place e (SetFlag CloseReply) w can on h = inr (sends CloseReply e on can.1 h)
    word_keeps place e (SetFlag OpenRequest) w can on h = inr (sends OpenRequest e on can.1 h)
    word_keeps place e (SetFlag OpenReply) w can on h = inr (sends OpenReply e on can.1 h)
    word_keeps place e (SetFlag OpenComplete) w can on h = inr (sends OpenComplete e on can.1 h)
    word_keeps place e ZeroGet w can on h = inr h
    word_keeps place e ZeroPut w can on h = inr h
    word_keeps place e (StoreArgument x) w can on h = inr (stores_argument x e h)
    word_keeps place e (ReadArgument x) w can on h = inr (all_settles (with_argument x place w e) (loads_argument x place w e h))

    pub link_keeps : (s : ScenarioPart) (st : State) (q c : ℕ) (m : LinkRule) (a : Answer) → let e = end_of st q c in link_can e m → is_connected e ≡ true → While R e → E e m ⊎ While R (link_answered (mark_of s st (Link q c m)) (place_for s c) e m a).local
    link_keeps s st q c m (Word w) can on h = word_keeps (place_for s c) (end_of st q c) m w can on h
    link_keeps s st q c m Failed can on h = own.fails s st q c m (stands R (end_of st q c) on h)
