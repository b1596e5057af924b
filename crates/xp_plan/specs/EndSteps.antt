-- The step at an end that comes next, for each kind of work there.
use Rattle.std.specs.Prelude.{ℕ, ◌-◌, ◌^◌, Bool, false, not, ◌&&◌, ◌||◌, if◌then◌else◌, nat_lt, nat_le, nat_eq, Option, Some, None, is_some}
use Rattle.std.specs.Int.{trailing_ones, w128}
use Rattle.xp_base.specs.declared.link.Kind.{Kind}
use Rattle.xp_base.specs.declared.link.Kind.TheVariants.{CloseRequest, CloseReply, OpenRequest, OpenReply, OpenComplete, MsgRequest}
use Rattle.xp_protocol.specs.declared.rule.Argument.{Argument}
use Rattle.xp_protocol.specs.declared.rule.Argument.TheVariants.{Request, Reply, Code}
use Rattle.xp_protocol.specs.declared.rule.RingRule.{RingRule}
use Rattle.xp_protocol.specs.declared.rule.RingRule.TheVariants.{ReadGet, WriteEntryWord, AcceptMessage}
use Rattle.xp_protocol.specs.declared.rule.PullRule.TheVariants.{ReadCounters, ReadEntry}
use Rattle.xp_protocol.specs.declared.rule.LinkRule.{LinkRule}
use Rattle.xp_protocol.specs.declared.rule.LinkRule.TheVariants.{Ring, Pull, Acknowledge, SetFlag, ZeroGet, ZeroPut, StoreArgument, ReadArgument}
use Rattle.xp_protocol.specs.Sending.{Sending, words_each}
use Rattle.xp_protocol.specs.Pulling.{Pulling}
use Rattle.xp_protocol.specs.State.{Shake, End, is_connected}
use Rattle.xp_protocol.specs.Linking.{owed, request_of}

-- a step, where there is reason for it
abbrev pub step_if : {R : Type 0} → Bool → R → Option R
step_if b r = if b then Some r else None

-- the first of two steps that there is
abbrev pub or_else : {R : Type 0} → Option R → Option R → Option R
or_else None later = later
or_else (Some r) later = Some r

-- a send in progress loads the partner's get while the queue is full by the get that was loaded
-- last, then stores the words of its entry, and then put
abbrev pub send_step : Sending → RingRule
send_step x =
    if nat_le x.entries (x.put - x.remote_get) then ReadGet
    else (if nat_lt x.written_words (2 ^ words_each x - 1)
    then WriteEntryWord (trailing_ones w128 x.written_words) else AcceptMessage)

-- a get is loaded by the first step of an errand alone: one that shows nothing isn't loaded again
-- in the same visit
abbrev pub once : ℕ → RingRule → Option LinkRule
once used ReadGet = step_if (nat_eq used 0) (Ring ReadGet)
once used m = Some (Ring m)

abbrev pub send_at : ℕ → End → Option LinkRule
send_at used e =
    if is_connected e && is_some e.sides.send.send then once used (send_step e.sides.send) else None

-- the next entry may be loaded: the partner has put its message
abbrev pub has_entry : Pulling → Bool
has_entry x = nat_lt x.pulled x.pulled_put

-- a take in progress loads the next entry where there is one. Else it loads the counters
abbrev pub take_at : End → Option LinkRule
take_at e =
    step_if (is_connected e && (is_some e.sides.pull.take && has_entry e.sides.pull))
    (Pull ReadEntry)

abbrev pub is_polling : Pulling → Bool
is_polling x = is_some x.take && not (has_entry x)

-- a copy of the counters that goes on is made to its end. Another one is begun where it is owed or
-- a take polls, by the first two steps of an errand of three: so it is over with the errand
abbrev pub counters_at : ℕ → End → Option LinkRule
counters_at used e =
    step_if (is_connected e && (is_some e.sides.pull.counters
    || (nat_lt used 2 && (e.sides.pull.owed || is_polling e.sides.pull))))
    (Pull ReadCounters)

-- a store of get is owed
abbrev pub owes_store : End → Bool
owes_store e = is_connected e && nat_lt e.sides.local_get e.sides.ack.front

abbrev pub store_at : End → Option LinkRule
store_at e = step_if (owes_store e) Acknowledge

-- the argument of a flag that was taken and waits for it
abbrev pub argument_awaited : Shake → Option Argument
argument_awaited x =
    if x.taken.open_request && not (is_some x.request) then Some Request
    else (if x.taken.open_reply && not (is_some x.reply) then Some Reply
    else step_if (x.taken.close_request && not (is_some x.code)) Code)

abbrev pub argument_step : Option Argument → Option LinkRule
argument_step None = None
argument_step (Some x) = Some (ReadArgument x)

abbrev pub argument_at : End → Option LinkRule
argument_at e =
    if e.shake.sent.close_reply then None else argument_step (argument_awaited e.shake)

abbrev pub message_at : End → Option LinkRule
message_at e = step_if e.shake.owes_message (SetFlag MsgRequest)

-- the control flag that is owed
abbrev pub control_owed : End → Option Kind
control_owed e =
    if owed CloseRequest e then Some CloseRequest
    else (if owed CloseReply e then Some CloseReply
    else (if owed OpenRequest e then Some OpenRequest
    else (if owed OpenReply e then Some OpenReply
    else step_if (owed OpenComplete e) OpenComplete)))

-- the word of the registration that stands was stored
abbrev pub is_word : ℕ → Option ℕ → Bool
is_word w None = false
is_word w (Some v) = nat_eq v w

abbrev pub has_request : End → Bool
has_request e = is_word (request_of e.registration) e.shake.request_put

-- what is stored before a flag, and then the flag
abbrev pub control_step : Kind → End → LinkRule
control_step OpenRequest e =
    if not e.shake.get_zero then ZeroGet
    else (if not e.shake.put_zero then ZeroPut
    else (if has_request e then SetFlag OpenRequest else StoreArgument Request))
control_step OpenReply e =
    if e.shake.reply_put then SetFlag OpenReply else StoreArgument Reply
control_step CloseRequest e =
    if e.shake.code_put then SetFlag CloseRequest else StoreArgument Code
control_step k e = SetFlag k

abbrev pub control_by : Option Kind → End → Option LinkRule
control_by None e = None
control_by (Some k) e = Some (control_step k e)

abbrev pub control_at : End → Option LinkRule
control_at e = control_by (control_owed e) e

-- an argument of the partner's flags is loaded, and else one control flag is sent
abbrev pub control_signal : End → Option LinkRule
control_signal e = or_else (argument_at e) (control_at e)

-- what is owed to the partner. In the first two turns of the errand it is told by a message
-- request, and get is stored; then come the others. So releases, which could make a store owed in
-- every turn, keep no flag waiting, and a flag keeps no message request waiting
abbrev pub signal_step : ℕ → End → Option LinkRule
signal_step used e =
    if nat_lt used 2 then or_else (message_at e) (or_else (store_at e) (control_signal e))
    else control_signal e

abbrev pub signal_at : ℕ → End → Option LinkRule
signal_at used e = if is_some e.shake.meet then signal_step used e else None
