-- The steps of an end: which comes next, by the kind of its work, as a rule and as it is wanted,
-- and what becomes of the end when it is answered.
use Rattle.std.specs.Prelude.{ℕ, ◌&&◌, Bool, false, if◌then◌else◌, nat_lt, nat_eq, not, is_some, List, [], Option, Some, None, Result, Ok, Err, IsSome}
use Rattle.xp_base.specs.declared.step.Answer.{Answer}
use Rattle.xp_base.specs.declared.step.Answer.TheVariants.{Word, Failed}
use Rattle.xp_base.specs.declared.step.Wanted.{Wanted}
use Rattle.xp_base.specs.declared.step.CopyMark.{CopyMark}
use Rattle.xp_base.specs.declared.link.Kind.{Kind}
use Rattle.xp_base.specs.declared.link.Kind.TheVariants.{OpenRequest, OpenReply, CloseRequest, MsgRequest}
use Rattle.xp_base.specs.declared.reason.Reason.{Reason}
use Rattle.xp_base.specs.Kinds.{has}
use Rattle.xp_base.specs.Places.{Entry, index_of}
use Rattle.xp_protocol.specs.declared.rule.LinkRule.{LinkRule}
use Rattle.xp_protocol.specs.declared.rule.LinkRule.TheVariants.{Ring, Pull, Acknowledge, SetFlag, ZeroGet, ZeroPut, StoreArgument, ReadArgument}
use Rattle.xp_protocol.specs.declared.rule.Argument.{Argument}
use Rattle.xp_protocol.specs.declared.rule.Argument.TheVariants.{Request, Reply, Code}
use Rattle.xp_protocol.specs.declared.rule.RingRule.{RingRule}
use Rattle.xp_protocol.specs.declared.rule.RingRule.TheVariants.{AcceptMessage}
use Rattle.xp_protocol.specs.declared.rule.PullRule.{PullRule}
use Rattle.xp_protocol.specs.Effects.{Effect, Note}
use Rattle.xp_protocol.specs.Pulling.{is_copying}
use Rattle.xp_protocol.specs.State.{End, Size, is_connected, may_copy, size_in}
use Rattle.xp_protocol.specs.Wanting.{mark_with, wanted_at}
use Rattle.xp_protocol.specs.Linking.{link_row, request_of, is_request}
use Rattle.xp_protocol.specs.Rules.{link_answered}
use Rattle.xp_ring.specs.Planned.{send_plan}
use Rattle.xp_pull.specs.Planned.{pull_plan, has_entry}
use Rattle.xp_openclose.specs.Planned.{control_owed}
use Rattle.xp_channel.specs.Channel.{Channel}
use Rattle.xp_channel.specs.Room.{MayAsk}
use Rattle.xp_channel.specs.declared.end.Work.{Work}
use Rattle.xp_channel.specs.declared.end.Work.TheVariants.{Signal, Send as ForSend, Pull as ForPull}

-- what is stored before a flag, and then the flag
abbrev pub is_stored : Option ℕ → ℕ → Bool
is_stored None word = false
is_stored (Some stored) word = nat_eq stored word

abbrev pub opening_step : End → LinkRule
opening_step e =
    if e.shake.get_zero then (if e.shake.put_zero
    then (if is_stored e.shake.request_put (request_of e.registration)
    then SetFlag OpenRequest else StoreArgument Request) else ZeroPut) else ZeroGet

abbrev pub flag_step : Kind → End → LinkRule
flag_step OpenRequest e = opening_step e
flag_step OpenReply e = if e.shake.reply_put then SetFlag OpenReply else StoreArgument Reply
flag_step CloseRequest e = if e.shake.code_put then SetFlag CloseRequest else StoreArgument Code
flag_step k e = SetFlag k

-- the argument of a flag that was taken and waits for it
abbrev pub read_plan : End → Option Argument
read_plan e =
    if e.shake.sent.close_reply then None
    else (if has OpenRequest e.shake.taken && not (is_some e.shake.request) then Some Request
    else (if has OpenReply e.shake.taken && not (is_some e.shake.reply) then Some Reply
    else (if has CloseRequest e.shake.taken && not (is_some e.shake.code) then Some Code
    else None)))

-- the control flag that is owed
abbrev pub flag_plan : End → Option Kind
flag_plan e = control_owed (is_some e.registration) (is_copying e.sides.pull) e.shake

abbrev pub control_plan : Option Kind → End → Option LinkRule
control_plan None e = None
control_plan (Some k) e = Some (flag_step k e)

abbrev pub read_first : Option Argument → End → Option LinkRule
read_first (Some x) e = Some (ReadArgument x)
read_first None e = control_plan (flag_plan e) e

-- a message request comes before a store of get, so that neither waits for all of the others
abbrev pub owes_get : End → Bool
owes_get e = is_connected e && nat_lt e.sides.local_get e.sides.ack.front

abbrev pub signal_plan : End → Option LinkRule
signal_plan e =
    if is_some e.shake.meet then (if e.shake.owes_message then Some (SetFlag MsgRequest)
    else (if owes_get e then Some Acknowledge else read_first (read_plan e) e))
    else None

abbrev pub ring_of : Option RingRule → Option LinkRule
ring_of None = None
ring_of (Some m) = Some (Ring m)

abbrev pub pull_of : Option PullRule → Option LinkRule
pull_of None = None
pull_of (Some m) = Some (Pull m)

-- the step of each kind of work that comes next
abbrev pub end_plan : Work → End → Option LinkRule
end_plan Signal e = signal_plan e
end_plan ForSend e = if is_connected e then ring_of (send_plan e.sides.send) else None
end_plan ForPull e = if may_copy e then pull_of (pull_plan e.sides.pull) else None

-- the next word of an entry may be loaded, whatever copy of the counters is owed
abbrev pub may_load_entry : End → Bool
may_load_entry e = may_copy e && has_entry e.sides.pull

-- the size that an open request asks for
abbrev pub requested : ℕ → Option Size
requested w = if is_request w then Some (size_in w) else None

-- where the partner's entries for an end begin
abbrev pub place_of : Channel → ℕ
place_of x = index_of (Entry x.own x.channel 0)

-- a rule's step as it is wanted, its copy being without a number
abbrev pub rule_wanted : Channel → LinkRule → Wanted
rule_wanted x m = wanted_at x.own x.partner (link_row x.own x.partner x.channel x.end m)

abbrev pub wanted_by : Channel → Option LinkRule → Option Wanted
wanted_by x None = None
wanted_by x (Some m) = Some (rule_wanted x m)

abbrev pub rule_mark : Channel → LinkRule → Option CopyMark
rule_mark x m = mark_with 0 (link_row x.own x.partner x.channel x.end m).copy

-- a rule's step is answered, its copy being without a number
abbrev pub answered : Channel → LinkRule → Answer → Effect End (List Note)
answered x m a = link_answered (rule_mark x m) (place_of x) x.end m a

abbrev pub fed : Channel → Option LinkRule → Answer → Effect End (List Note)
fed x None a = record { local = x.end; reason = None; notes = [] }
fed x (Some m) a = answered x m a

-- an answer is of a step that is wanted, and a load alone may fail
abbrev pub MayFail : Option CopyMark → Answer → Type 0
MayFail mark (Word w) = Unit {0}
MayFail mark Failed = IsSome mark

abbrev pub MayAnswer : Option Wanted → Answer → Type 0
MayAnswer None a = ⊥
MayAnswer (Some wanted) a = MayFail wanted.mark a

-- where the step accepts a message that asks for a notice, one more number may wait
abbrev pub MayStep : End → LinkRule → Type 0
MayStep e (Ring AcceptMessage) = MayAsk e
MayStep e m = Unit {0}

abbrev pub MayFeed : End → Option LinkRule → Type 0
MayFeed e None = Unit {0}
MayFeed e (Some m) = MayStep e m

abbrev pub error_or : Option Reason → Result (Unit {0}) Reason
error_or None = Ok tt
error_or (Some reason) = Err reason
