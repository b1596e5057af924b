-- The steps at one end of a channel, each by three clauses: when it is permitted, its word, and
-- what becomes of the end. Below them what becomes of an end when its connection goes down, and
-- when it is over.
use Rattle.std.specs.Prelude.{◌≡◌, ℕ, ◌+◌, ◌*◌, ◌<◌, Bool, true, false, ◌&&◌, ◌||◌, not, if◌then◌else◌, List, [], ◌∷◌, ◌++◌, map, Option, Some, None, is_some, IsSome, zero, suc, nat_eq, nat_lt, ◌/◌, ◌%◌}
use Rattle.xp_base.specs.declared.layout.TheConstants.{LINES}
use Rattle.xp_base.specs.declared.body.TheConstants.{BODY_BYTES}
use Rattle.xp_base.specs.Entries.{lines}
use Rattle.xp_base.specs.declared.step.CopyKind.{CopyKind}
use Rattle.xp_base.specs.declared.step.CopyKind.TheVariants.{Args as ArgsCopy}
use Rattle.xp_base.specs.declared.link.Kind.{Kind}
use Rattle.xp_base.specs.declared.link.Kind.TheVariants.{CloseRequest, CloseReply, OpenRequest, OpenReply, OpenComplete, MsgRequest}
use Rattle.xp_base.specs.declared.link.LinkState.TheVariants.{Connected}
use Rattle.xp_base.specs.declared.answer.ReleaseAnswer.TheVariants.{Ok as ReleaseOk, NotConnected as ReleaseNotConnected}
use Rattle.xp_base.specs.declared.answer.DrainAnswer.TheVariants.{Disconnecting as DrainDisconnecting}
use Rattle.xp_base.specs.declared.reason.Reason.{Reason}
use Rattle.xp_base.specs.declared.reason.Reason.TheVariants.{PartnerClosed, UnequalSizes, BadArgs, BadFlags}
use Rattle.xp_base.specs.Kinds.{Kinds, flag, has, also, without, both, next_of}
use Rattle.xp_base.specs.Reasons.{reason_code}
use Rattle.xp_base.specs.Places.{Counter, Flag, Args, Entry, index_of}
use Rattle.xp_protocol.specs.declared.rule.Argument.{Argument}
use Rattle.xp_protocol.specs.declared.rule.Argument.TheVariants.{Request, Reply, Code}
use Rattle.xp_protocol.specs.declared.rule.LinkRule.{LinkRule}
use Rattle.xp_protocol.specs.declared.rule.LinkRule.TheVariants.{Ring, Pull, Acknowledge, SetFlag, ZeroGet, ZeroPut, StoreArgument, ReadArgument}
use Rattle.xp_protocol.specs.Effects.{Effect, just, and_then, Row, store, set_theirs, SendNote, Accepted, Sent, PullNote, Heard, TakeRefused, Note, BySend, ByPull, Acked, Over, ToldOver, Began, Joined, Released, Drained, load_copy, Registered, Withdrawn}
use Rattle.xp_protocol.specs.Sending.{Sending, new_sending, with_remote_get, ring_can, ring_row, ring_effect, send_closed}
use Rattle.xp_protocol.specs.Pulling.{Pulling, new_pulling, lesser, SenderCounters, pull_can, pull_row, pull_effect, pull_failed, pull_closed, is_copying}
use Rattle.xp_protocol.specs.State.{End, Shake, Sides, fresh_sides, Contact, idle_end, no_shake, nothing_decided, link_of, is_connected, may_copy, is_begun, Size, Replied, request_word, size_in}

-- what the sides of an end tell each other
abbrev pub asked_more : ℕ → Bool → List ℕ → List ℕ
asked_more number asks numbers = if asks then numbers ++ number ∷ [] else numbers

abbrev pub hear_send : SendNote → End → End
hear_send (Accepted number body asks) e = record e {
  sides = record e.sides { pending_notices = asked_more number asks e.sides.pending_notices };
  shake = record e.shake { owes_message = true };
}
hear_send (Sent answer) e = record e { decided = record e.decided { send = Some answer } }

abbrev pub hear_pull : PullNote → End → End
hear_pull (Heard get) e =
    record e { sides = record e.sides { send = with_remote_get get e.sides.send } }
hear_pull (TakeRefused refusal) e = record e { decided = record e.decided { take = Some refusal } }

abbrev pub hear : Note → End → End
hear (BySend note) e = hear_send note e
hear (ByPull note) e = hear_pull note e
hear (Released answer) e = record e { decided = record e.decided { release = Some answer } }
hear (Drained answer) e = record e { decided = record e.decided { drain = Some answer } }
hear (Registered answer) e = record e { decided = record e.decided { register = Some answer } }
hear (Withdrawn answer) e = record e { decided = record e.decided { unregister = Some answer } }
hear note e = e

abbrev pub hears : List Note → End → End
hears [] e = e
hears (note ∷ more) e = hears more (hear note e)

abbrev pub sender_counters : Sides → SenderCounters
sender_counters x = record { remote_get = x.send.remote_get; put = x.send.put; front = x.ack.front }

-- what a side did, as the end sees it
abbrev pub by_send : End → Effect Sending (List SendNote) → Effect End (List Note)
by_send e f = record {
  local = hears (map BySend f.notes) (record e { sides = record e.sides { send = f.local } });
  reason = f.reason;
  notes = map BySend f.notes;
}

abbrev pub by_pull : End → Effect Pulling (List PullNote) → Effect End (List Note)
by_pull e f = record {
  local = hears (map ByPull f.notes) (record e { sides = record e.sides { pull = f.local } });
  reason = f.reason;
  notes = map ByPull f.notes;
}

-- get was stored: a release that waits for it is answered
abbrev pub release_notes : Bool → ℕ → List Note
release_notes true front = Released (ReleaseOk front) ∷ []
release_notes false front = []

abbrev pub acknowledged : End → Effect End (List Note)
acknowledged e = record {
  local = hears (release_notes e.sides.releasing e.sides.ack.front) (record e {
    sides = record e.sides { local_get = e.sides.ack.front; releasing = false };
    shake = record e.shake { owes_message = true };
  });
  reason = None;
  notes = Acked e.sides.ack.front ∷ release_notes e.sides.releasing e.sides.ack.front;
}

-- the size of a registration or of an open request
abbrev pub entries_in : Option Size → ℕ
entries_in None = 0
entries_in (Some z) = z.entries

abbrev pub limit_in : Option Size → ℕ
limit_in None = 0
limit_in (Some z) = z.limit

-- the limit of an epoch, once both open requests are there: the lesser of the two, where they are
-- equal or both versions know entries of several lines
abbrev pub agreed_by : Bool → ℕ → ℕ → Option ℕ
agreed_by new own theirs = if new || nat_eq own theirs then Some (lesser own theirs) else None

abbrev pub agreed : Shake → Option ℕ
agreed x =
    if x.sent.open_request && x.got.open_request
    then agreed_by x.both_new (limit_in x.own_size) (limit_in x.their_size) else None

-- which control flag is owed, where the channel is registered or not, and a copy goes on or not
abbrev pub owed_by : Kind → Bool → Bool → Shake → Bool
owed_by OpenRequest registered copying x =
    registered && (not (is_some x.reason) && not x.sent.open_request)
owed_by OpenReply registered copying x =
    not (is_some x.reason) && (is_some (agreed x) && not x.sent.open_reply)
owed_by OpenComplete registered copying x =
    not (is_some x.reason) && (x.sent.open_reply && (x.got.open_reply && not x.sent.open_complete))
owed_by CloseRequest registered copying x = is_some x.reason && not x.sent.close_request
owed_by CloseReply registered copying x =
    x.sent.close_request && (x.got.close_request && (not x.sent.close_reply && not copying))
owed_by MsgRequest registered copying x = x.owes_message

abbrev pub owed : Kind → End → Bool
owed k e = owed_by k (is_some e.registration) (is_copying e.sides.pull) e.shake

-- the arguments: of which flag, which word, and what is stored
abbrev pub kind_of : Argument → Kind
kind_of Request = OpenRequest
kind_of Reply = OpenReply
kind_of Code = CloseRequest

abbrev pub argument_field : Argument → ℕ
argument_field Request = 0
argument_field Reply = 1
argument_field Code = 2

abbrev pub request_of : Option Size → ℕ
request_of None = 0
request_of (Some z) = request_word z

abbrev pub code_of : Option Reason → ℕ
code_of None = 0
code_of (Some reason) = reason_code reason

abbrev pub argument_word : ℕ → ℕ → End → Argument → ℕ
argument_word q c e Request = request_of e.registration
argument_word q c e Reply = index_of (Entry q c 0)
argument_word q c e Code = code_of e.shake.reason

abbrev pub argument_stored : Argument → End → End
argument_stored Request e =
    record e { shake = record e.shake { request_put = Some (request_of e.registration) } }
argument_stored Reply e = record e { shake = record e.shake { reply_put = true } }
argument_stored Code e = record e { shake = record e.shake { code_put = true } }

-- what was stored before a flag is sent: before the open request both counters as 0, and before
-- each flag its argument. The open request's is the word of the registration that stands
abbrev pub IsReady : Kind → End → Type 0
IsReady OpenRequest e =
    (e.shake.get_zero ≡ true) × (e.shake.put_zero ≡ true)
    × (e.shake.request_put ≡ Some (request_of e.registration))
IsReady OpenReply e = e.shake.reply_put ≡ true
IsReady CloseRequest e = e.shake.code_put ≡ true
IsReady k e = Unit {0}

abbrev pub link_can : End → LinkRule → Type 0
link_can e (Ring m) = (link_of e ≡ Connected) × ring_can e.sides.send m
link_can e (Pull m) = (may_copy e ≡ true) × pull_can e.sides.pull m
link_can e Acknowledge = (link_of e ≡ Connected) × (e.sides.local_get < e.sides.ack.front)
link_can e (SetFlag k) = IsSome e.shake.meet × (owed k e ≡ true) × IsReady k e
link_can e ZeroGet =
    IsSome e.shake.meet × (owed OpenRequest e ≡ true) × (e.shake.sent.open_complete ≡ false)
link_can e ZeroPut =
    IsSome e.shake.meet × (owed OpenRequest e ≡ true) × (e.shake.sent.open_complete ≡ false)
link_can e (StoreArgument x) = IsSome e.shake.meet × (owed (kind_of x) e ≡ true)
link_can e (ReadArgument x) =
    IsSome e.shake.meet × (has (kind_of x) e.shake.taken ≡ true)
    × (e.shake.sent.close_reply ≡ false)

abbrev pub link_row : ℕ → ℕ → ℕ → End → LinkRule → Row
link_row part q c e (Ring m) = ring_row part q c e.sides.send m
link_row part q c e (Pull m) = pull_row part c e.sides.pull m
link_row part q c e Acknowledge = store (Counter q c 0) e.sides.ack.front
link_row part q c e (SetFlag k) = set_theirs (Flag part) (flag c k)
link_row part q c e ZeroGet = store (Counter q c 0) 0
link_row part q c e ZeroPut = store (Counter q c 1) 0
link_row part q c e (StoreArgument x) = store (Args q c (argument_field x)) (argument_word q c e x)
link_row part q c e (ReadArgument x) = load_copy (Args part c (argument_field x)) ArgsCopy 0

-- a load of a copy failed
abbrev pub copy_failed : CopyKind → End → End
copy_failed kind e = record e { sides = record e.sides { pull = pull_failed kind e.sides.pull } }

-- the connection goes down for a reason: what goes on is over, and what is in progress is answered
abbrev pub closed_release : Bool → List Note
closed_release true = Released ReleaseNotConnected ∷ []
closed_release false = []

abbrev pub closed_drain : Reason → Bool → List Note
closed_drain reason true = Drained (DrainDisconnecting reason) ∷ []
closed_drain reason false = []

abbrev pub down_notes : Reason → End → List Note
down_notes reason e =
    map BySend (send_closed reason e.sides.send).notes
    ++ (map ByPull (pull_closed reason e.sides.pull).notes
    ++ (closed_release e.sides.releasing ++ closed_drain reason e.sides.draining))

abbrev pub down_end : Reason → End → End
down_end reason e =
    record e {
      shake = record e.shake { reason = Some reason; owes_message = false };
      sides = record e.sides {
        send = (send_closed reason e.sides.send).local;
        pull = (pull_closed reason e.sides.pull).local;
        releasing = false;
        draining = false;
      };
    }

abbrev pub close_now : Option Reason → Reason → End → Effect End (List Note)
close_now (Some first) reason e = just e
close_now None reason e =
    record {
      local = hears (down_notes reason e) (down_end reason e);
      reason = None;
      notes = down_notes reason e;
    }

-- an end that was begun and has no reason gets one
abbrev pub link_closed : Reason → End → Effect End (List Note)
link_closed reason e = if is_begun e then close_now e.shake.reason reason e else just e

-- the partner goes down: no flag is owed any more, and no copy goes on, also where the channel had
-- a reason to close before
abbrev pub copies_over : Pulling → Pulling
copies_over x = record x { counters = None; copied = []; run = 0 }

abbrev pub parted : End → End
parted e =
    record e {
      shake = record e.shake { owes_message = false; meet = None };
      sides = record e.sides { pull = copies_over e.sides.pull };
    }

abbrev pub link_down : Reason → End → Effect End (List Note)
link_down reason e = and_then (link_closed reason e) (λ x. just (parted x))

-- what is noted of an epoch that is over: its reason, and that each number that was asked for is
-- over. The record has them at once, since another record may be begun before they are told
abbrev pub over_note : Option Reason → List Note
over_note None = []
over_note (Some reason) = Over reason ∷ []

abbrev pub over_notes : End → List Note
over_notes e = over_note e.shake.reason ++ map ToldOver e.sides.pending_notices

-- after unequal sizes, and after an argument that is refused, the registration is withdrawn
abbrev pub kept_for : Option Reason → Option Size → Option Size
kept_for (Some (UnequalSizes own theirs)) o = None
kept_for (Some (BadArgs word)) o = None
kept_for reason o = o

-- why the connection ended is kept for the commands that wait for it
abbrev pub closed_more : Option Reason → List Reason → List Reason
closed_more None reasons = reasons
closed_more (Some reason) reasons = reasons ++ reason ∷ []

abbrev pub fresh_end : Shake → ℕ → End → End
fresh_end shake epoch e =
    record e {
      registration = kept_for e.shake.reason e.registration;
      epoch = epoch;
      shake = shake;
      sides = fresh_sides e.sides;
      ended = e.ended ++ e.sides.pending_notices;
      closed = closed_more e.shake.reason e.closed;
    }

abbrev pub link_finished : End → Effect End (List Note)
link_finished e = record { local = fresh_end no_shake 0 e; reason = None; notes = over_notes e }

-- a contact is made: the end is fresh in it
abbrev pub joined_end : Bool → Contact → End → End
joined_end new m e =
    record idle_end {
      registration = e.registration;
      shake = record no_shake { meet = Some m; both_new = new };
      ended = e.ended ++ e.sides.pending_notices;
      closed = e.closed;
      closed_asked = e.closed_asked;
      decided = e.decided;
    }

abbrev pub link_joined : Bool → Contact → End → Effect End (List Note)
link_joined new m e = just (joined_end new m e)

-- a boot begins: nothing is known
abbrev pub booted_end : End → End
booted_end e =
    record (fresh_end no_shake 0 e) {
      registration = None;
      ended = [];
      closed = [];
      closed_asked = 0;
      decided = nothing_decided;
    }

-- the record of an epoch is opened by the first kind that is sent, or by a reason
abbrev pub open_notes : Bool → Option Contact → ℕ → List Note
open_notes false (Some m) epoch = Began epoch m.own m.theirs ∷ []
open_notes begun meet epoch = []

abbrev pub opened_notes : End → List Note
opened_notes e = open_notes (is_begun e) e.shake.meet e.epoch

abbrev pub channel_closed : Reason → End → Effect End (List Note)
channel_closed reason e =
    and_then (record {
      local = e;
      reason = None;
      notes = opened_notes e;
    }) (λ x. close_now x.shake.reason reason x)

-- the epoch ends where the close reply was sent and got: the next one begins in the same contact
abbrev pub epoch_over : End → Effect End (List Note)
epoch_over e =
    record {
      local = fresh_end (record no_shake {
        meet = e.shake.meet;
        both_new = e.shake.both_new;
        taken = e.shake.taken;
        request = e.shake.request;
        reply = e.shake.reply;
        code = e.shake.code;
      }) (e.epoch + 1) e;
      reason = None;
      notes = over_notes e;
    }

abbrev pub shake_ended : Shake → Bool
shake_ended x = x.sent.close_reply && x.got.close_reply

abbrev pub is_ended : End → Bool
is_ended e = shake_ended e.shake

-- else it closes where both open requests are there and no limit is agreed
abbrev pub shake_unequal : Shake → Bool
shake_unequal x =
    not (is_some x.reason)
    && (x.sent.open_request && (x.got.open_request && not (is_some (agreed x))))

abbrev pub are_unequal : End → Bool
are_unequal e = shake_unequal e.shake

abbrev pub unequal : End → Effect End (List Note)
unequal e =
    if are_unequal e
    then channel_closed (UnequalSizes (limit_in e.shake.own_size) (limit_in e.shake.their_size)) e
    else just e

abbrev pub changed : End → Effect End (List Note)
changed e = if is_ended e then epoch_over e else unequal e

-- a flag of the partner that was taken is handled, and its argument with it
abbrev pub without_argument : Kind → Shake → Shake
without_argument OpenRequest x = record x { request = None }
without_argument OpenReply x = record x { reply = None }
without_argument CloseRequest x = record x { code = None }
without_argument k x = x

abbrev pub shake_left : Kind → Shake → Shake
shake_left k x = without_argument k (record x { taken = without k x.taken })

abbrev pub kind_left : Kind → End → End
kind_left k e = record e { shake = shake_left k e.shake }

abbrev pub shake_got : Kind → Shake → Shake
shake_got k x = without_argument k (record x { got = also k x.got; taken = without k x.taken })

abbrev pub kind_got : Kind → End → End
kind_got k e = record e { shake = shake_got k e.shake }

-- an open request has a size, an open reply the right place, a close request a code; else the
-- channel closes for it
abbrev pub is_request : ℕ → Bool
is_request w =
    nat_lt 0 (w / 65536) && (nat_lt (w / 65536) (LINES + 1)
    && (nat_lt (w % 65536) (BODY_BYTES + 1)
    && nat_lt (w / 65536 * lines (w % 65536)) (LINES + 1)))

abbrev pub request_handled : Option ℕ → End → Effect End (List Note)
request_handled None e = just e
request_handled (Some w) e =
    if is_request w
    then just (record e { shake = record e.shake { their_size = Some (size_in w) } })
    else channel_closed (BadArgs w) e

abbrev pub reply_handled : Option Replied → End → Effect End (List Note)
reply_handled None e = just e
reply_handled (Some x) e = if x.right then just e else channel_closed (BadArgs x.word) e

abbrev pub is_code : ℕ → Bool
is_code w = nat_lt 0 w && nat_lt w 16

abbrev pub code_handled : Option ℕ → End → Effect End (List Note)
code_handled None e = just e
code_handled (Some w) e =
    if is_code w then channel_closed (PartnerClosed w) e else channel_closed (BadArgs w) e

-- where the link is connected, a copy of the counters is owed
abbrev pub message_got : End → Effect End (List Note)
message_got e = if is_connected e
    then just (record e { sides = record e.sides { pull = record e.sides.pull { owed = true } } })
    else just e

-- a flag that may not come then
abbrev pub refused_by : Kind → Shake → Bool
refused_by OpenRequest x = x.got.open_request || x.got.close_request
refused_by OpenReply x = x.got.open_reply || (not x.got.open_request || x.got.close_request)
refused_by OpenComplete x = x.got.open_complete || (not x.got.open_reply || x.got.close_request)
refused_by CloseRequest x = x.got.close_request
refused_by CloseReply x = x.got.close_reply || not (x.sent.close_request && x.got.close_request)
refused_by MsgRequest x = false

abbrev pub refused : Kind → End → Bool
refused k e = refused_by k e.shake

-- an end doesn't know the flag words that were taken: its partner's machine puts them in
abbrev pub kind_refused : Kind → End → Effect End (List Note)
kind_refused k e = record { local = kind_left k e; reason = Some (BadFlags 0); notes = [] }

abbrev pub well_handled : Kind → End → Effect End (List Note)
well_handled MsgRequest e =
    message_got (record e { shake = record e.shake { taken = without MsgRequest e.shake.taken } })
well_handled OpenRequest e = request_handled e.shake.request (kind_got OpenRequest e)
well_handled OpenReply e = reply_handled e.shake.reply (kind_got OpenReply e)
well_handled CloseRequest e = code_handled e.shake.code (kind_got CloseRequest e)
well_handled k e = just (kind_got k e)

abbrev pub handled : Kind → End → Effect End (List Note)
handled k e = if refused k e then kind_refused k e else well_handled k e

-- a kind has its argument: the request, the reply or the code was loaded; other kinds need none
abbrev pub has_argument : Kind → Shake → Bool
has_argument OpenRequest x = is_some x.request
has_argument OpenReply x = is_some x.reply
has_argument CloseRequest x = is_some x.code
has_argument k x = true

abbrev pub handled_next : Option Kind → End → Effect End (List Note)
handled_next None e = just e
handled_next (Some k) e = if has_argument k e.shake then and_then (handled k e) changed else just e

-- the kinds that were taken are handled one after the other, as far as their arguments are there
abbrev pub settle : ℕ → End → Effect End (List Note)
settle zero e = just e
settle (suc n) e =
    and_then (handled_next (next_of e.shake.got.close_request e.shake.taken) e) (settle n)

-- a connection that stands is noted in its record
abbrev pub joined_notes : Bool → List Note
joined_notes true = Joined ∷ []
joined_notes false = []

abbrev pub connection_noted : End → Effect End (List Note)
connection_noted e = record { local = e; reason = None; notes = joined_notes (is_connected e) }

-- all kinds that were taken are handled; six kinds are the most there are
unfoldable pub settled : End → Effect End (List Note)
settled e = and_then (settle 6 e) connection_noted

abbrev pub with_taken : Kinds → End → End
with_taken ks e = record e { shake = record e.shake { taken = both e.shake.taken ks } }

abbrev pub flags_got : Kinds → End → Effect End (List Note)
flags_got ks e = if is_some e.shake.meet then and_then (just (with_taken ks e)) settled else just e

-- a flag is sent: with the open request the own size of the epoch is that of the registration. With
-- the open complete both sides are made anew, with the entries that each end asked for and the
-- lesser of both limits
abbrev pub shake_sent : Kind → Shake → Shake
shake_sent k x = record x { sent = also k x.sent }

abbrev pub limit_agreed : Shake → ℕ
limit_agreed x = lesser (limit_in x.own_size) (limit_in x.their_size)

abbrev pub sides_agreed : Shake → Sides → Sides
sides_agreed x sides =
    record sides {
      send = new_sending (entries_in x.own_size) (limit_agreed x);
      pull = new_pulling (entries_in x.their_size) (limit_agreed x);
    }

abbrev pub end_sent : Kind → End → End
end_sent OpenRequest e =
    record e { shake = record (shake_sent OpenRequest e.shake) { own_size = e.registration } }
end_sent OpenComplete e =
    record e {
      shake = shake_sent OpenComplete e.shake;
      sides = sides_agreed e.shake e.sides;
    }
end_sent k e = record e { shake = shake_sent k e.shake }

abbrev pub with_sent : Kind → End → Effect End (List Note)
with_sent k e = record { local = end_sent k e; reason = None; notes = opened_notes e }

abbrev pub control_sent : Kind → End → Effect End (List Note)
control_sent k e = and_then (and_then (with_sent k e) changed) settled

abbrev pub flag_sent : Kind → End → Effect End (List Note)
flag_sent MsgRequest e = just (record e { shake = record e.shake { owes_message = false } })
flag_sent k e = control_sent k e

-- an argument is loaded: of a reply it is kept whether it is the place where the partner's entries
-- for this end begin
abbrev pub with_argument : Argument → ℕ → ℕ → End → End
with_argument Request place w e = record e { shake = record e.shake { request = Some w } }
with_argument Reply place w e =
    record e {
      shake = record e.shake {
        reply = Some (record {
          word = w;
          right = nat_eq w place;
        });
      };
    }
with_argument Code place w e = record e { shake = record e.shake { code = Some w } }

abbrev pub argument_read : Argument → ℕ → ℕ → End → Effect End (List Note)
argument_read x place w e = and_then (just (with_argument x place w e)) settled

-- place is where the partner's entries for this end begin
abbrev pub link_effect : ℕ → End → LinkRule → ℕ → Effect End (List Note)
link_effect place e (Ring m) w = by_send e (ring_effect e.sides.send m w)
link_effect place e (Pull m) w = by_pull e (pull_effect (sender_counters e.sides) e.sides.pull m w)
link_effect place e Acknowledge w = acknowledged e
link_effect place e (SetFlag k) w = flag_sent k e
link_effect place e ZeroGet w = just (record e { shake = record e.shake { get_zero = true } })
link_effect place e ZeroPut w = just (record e { shake = record e.shake { put_zero = true } })
link_effect place e (StoreArgument x) w = just (argument_stored x e)
link_effect place e (ReadArgument x) w = argument_read x place w e
