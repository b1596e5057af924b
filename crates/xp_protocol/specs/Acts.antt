-- What a partition does beside its steps: it begins a command of its script, answers the one in
-- progress, and gives a notice. The answer that is due is read from the end that the command is
-- for.
use Rattle.std.specs.Prelude.{◌≡◌, ℕ, ◌+◌, ◌-◌, ◌<◌, Bool, true, false, not, ◌&&◌, if◌then◌else◌, nat_lt, nat_eq, List, [], ◌∷◌, length, slice_get, Option, Some, None, IsSome, is_some, ◌||◌, slice_set}
use Rattle.xp_base.specs.declared.layout.TheConstants.{CHANNELS}
use Rattle.xp_base.specs.declared.answer.SendAnswer.{SendAnswer}
use Rattle.xp_base.specs.declared.answer.SendAnswer.TheVariants.{Ok as SendOk, TooBig}
use Rattle.xp_base.specs.declared.answer.TakeAnswer.{TakeAnswer}
use Rattle.xp_protocol.specs.declared.refusal.TakeRefusal.{TakeRefusal}
use Rattle.xp_base.specs.declared.answer.TakeAnswer.TheVariants.{Taken as TakenAnswer, Empty}
use Rattle.xp_base.specs.declared.answer.ReleaseAnswer.{ReleaseAnswer}
use Rattle.xp_base.specs.declared.answer.ReleaseAnswer.TheVariants.{Ok as ReleaseOk}
use Rattle.xp_base.specs.declared.answer.DrainAnswer.{DrainAnswer}
use Rattle.xp_base.specs.declared.answer.DrainAnswer.TheVariants.{Ok as DrainOk, Disconnecting as DrainDisconnecting, NotConnected as DrainNotConnected}
use Rattle.xp_base.specs.declared.link.LinkState.{LinkState}
use Rattle.xp_base.specs.declared.link.LinkState.TheVariants.{Idle, Opening, Connected as ConnectedLink, Closing}
use Rattle.xp_base.specs.History.{Act, Begun, Answered, Noticed, NoticeKind, Delivered, Ended}
use Rattle.xp_script.specs.declared.command.Command.{Command}
use Rattle.xp_script.specs.declared.command.Command.TheVariants.{Send, Take, Release, Drain, Register, Unregister, Connected, Closed, Deactivate, Activate, Leave, Idle, Offline, Online}
use Rattle.xp_script.specs.declared.log.LogAnswer.{LogAnswer}
use Rattle.xp_script.specs.declared.log.LogAnswer.TheVariants.{Send as SendAnswered, Take as TakeAnswered, Release as ReleaseAnswered, Drain as DrainAnswered, Register as RegisterAnswered, Unregister as UnregisterAnswered, Connected as ConnectedAnswered, Closed as ClosedAnswered, Deactivate as DeactivateAnswered, Activate as ActivateAnswered, Leave as LeaveAnswered, Idle as IdleAnswered, Offline as OfflineAnswered, Online as OnlineAnswered}
use Rattle.xp_script.specs.declared.log.OnlineAnswer.TheVariants.{Ok as OnlineOk, NotOffline}
use Rattle.xp_base.specs.declared.answer.RegisterAnswer.{RegisterAnswer}
use Rattle.xp_base.specs.declared.answer.RegisterAnswer.TheVariants.{Ok as RegisterOk, Already}
use Rattle.xp_base.specs.declared.answer.UnregisterAnswer.{UnregisterAnswer}
use Rattle.xp_base.specs.declared.answer.UnregisterAnswer.TheVariants.{Ok as UnregisterOk, NotRegistered}
use Rattle.xp_script.specs.Commands.{verb_of}
use Rattle.xp_protocol.specs.Parts.{script_in}
use Rattle.xp_base.specs.declared.reason.Reason.TheVariants.{Unregistered, Unloading}
use Rattle.xp_script.specs.declared.log.Verb.{Verb}
use Rattle.xp_script.specs.declared.log.Verb.TheVariants.{Send as SendVerb, Take as TakeVerb, Release as ReleaseVerb, Drain as DrainVerb, Register as RegisterVerb, Unregister as UnregisterVerb, Connected as ConnectedVerb, Closed as ClosedVerb}
use Rattle.xp_script.specs.declared.part.ScenarioPart.{ScenarioPart}
use Rattle.xp_protocol.specs.Effects.{Effect, just, and_then, Note, BySend, ByPull, Taken, Freed, Told, Sent, TakeRefused, Released, Drained, Registered, Withdrawn}
use Rattle.xp_protocol.specs.Sending.{link_refusal}
use Rattle.xp_protocol.specs.Pulling.{take_refusal, refused_take, take_due, message_taken}
use Rattle.xp_protocol.specs.Releasing.{Releasing, release_refusal, message_released, message_held}
use Rattle.xp_base.specs.declared.reason.Reason.{Reason}
use Rattle.xp_protocol.specs.declared.contact.PartnerState.{PartnerState}
use Rattle.xp_protocol.specs.declared.contact.PartnerState.TheVariants.{Inactive}
use Rattle.xp_protocol.specs.Peering.{with_reason}
use Rattle.xp_protocol.specs.State.{State, Up, Script, End, Peer, Size, Area, Off, peer_at, each, end_of, set_end, link_of, is_connected}
use Rattle.xp_protocol.specs.Linking.{hears, channel_closed}

-- the command that comes next, and the one that was begun last
abbrev pub upcoming : ScenarioPart → State → Option Command
upcoming s st = slice_get (script_in s st.clock.boots) st.script.begun

abbrev pub current : ScenarioPart → State → Option Command
current s st = slice_get (script_in s st.clock.boots) (st.script.begun - 1)

-- nothing but what the end notes
abbrev pub say : List Note → End → Effect End (List Note)
say notes e = record { local = hears notes e; reason = None; notes = notes }

abbrev pub registered_limit : Option Size → Option ℕ
registered_limit None = None
registered_limit (Some size) = Some size.limit

-- the limit of a payload: that of the connection where it stands, and else the one for which the
-- channel is registered
abbrev pub limit_by : Bool → End → Option ℕ
limit_by true e = Some e.sides.send.limit
limit_by false e = registered_limit e.registration

abbrev pub limit_of : End → Option ℕ
limit_of e = limit_by (is_connected e) e

-- a send is refused for its length first, and then by the state of the link
abbrev pub too_long : Option ℕ → List ℕ → Option SendAnswer
too_long None payload = None
too_long (Some limit) payload =
    if nat_lt limit (length payload) then Some (TooBig (length payload) limit) else None

abbrev pub first_of : Option SendAnswer → Option SendAnswer → Option SendAnswer
first_of None later = later
first_of (Some a) later = Some a

abbrev pub refused_send : End → List ℕ → Option SendAnswer
refused_send e payload = first_of (too_long (limit_of e) payload) (link_refusal (link_of e))

abbrev pub send_begun : Option SendAnswer → List ℕ → Bool → Bool → End → Effect End (List Note)
send_begun None payload wait notify e = just (record e {
  sides = record e.sides {
    send = record e.sides.send {
      send = Some (record { payload = payload; wait = wait; notify = notify });
      written_words = 0;
    };
  };
})
send_begun (Some a) payload wait notify e = say (BySend (Sent a) ∷ []) e

abbrev pub take_begun : Option TakeRefusal → Bool → End → Effect End (List Note)
take_begun None wait e =
    just (record e {
      sides = record e.sides {
        pull = record e.sides.pull {
          take = Some wait;
          empty = None;
        };
      };
    })
take_begun (Some refusal) wait e = say (ByPull (TakeRefused refusal) ∷ []) e

-- a release takes place at its beginning; it is answered at once where the front stays, and else
-- waits for the store of get
abbrev pub release_held : Bool → ℕ → Releasing → List Note
release_held true number x = Freed number ∷ Released (ReleaseOk x.front) ∷ []
release_held false number x = Freed number ∷ []

abbrev pub release_begun : Option ReleaseAnswer → ℕ → End → Effect End (List Note)
release_begun None number e =
    let new = message_released number e.sides.ack in
    let stays = nat_eq e.sides.ack.front new.front in
    say (release_held stays number new)
    (record e { sides = record e.sides { ack = new; releasing = not stays } })
release_begun (Some a) number e = say (Released a ∷ []) e

abbrev pub drain_refusal : LinkState → Option DrainAnswer
drain_refusal (Closing reason) = Some (DrainDisconnecting reason)
drain_refusal Idle = Some DrainNotConnected
drain_refusal Opening = Some DrainNotConnected
drain_refusal ConnectedLink = None

abbrev pub drain_begun : Option DrainAnswer → End → Effect End (List Note)
drain_begun None e = just (record e { sides = record e.sides { draining = true } })
drain_begun (Some a) e = say (Drained a ∷ []) e

-- a channel is registered, at any moment; a registration that is withdrawn after the open request
-- was sent closes the channel
abbrev pub register_begun : Option Size → Size → End → Effect End (List Note)
register_begun None z e = say (Registered RegisterOk ∷ []) (record e { registration = Some z })
register_begun (Some first) z e = say (Registered Already ∷ []) e

abbrev pub withdrawn : End → Effect End (List Note)
withdrawn e =
    if e.shake.sent.open_request && not (is_some e.shake.reason) then channel_closed Unregistered e
    else just e

abbrev pub unregister_begun : Option Size → End → Effect End (List Note)
unregister_begun None e = say (Withdrawn NotRegistered ∷ []) e
unregister_begun (Some z) e =
    and_then (say (Withdrawn UnregisterOk ∷ []) (record e { registration = None })) withdrawn

-- a command to an end is begun
abbrev pub end_begun : End → Command → Effect End (List Note)
end_begun e (Send q c payload wait notify) =
    send_begun (refused_send e payload) payload wait notify e
end_begun e (Take q c wait) = take_begun (take_refusal (link_of e)) wait e
end_begun e (Release q c number) =
    release_begun (release_refusal (link_of e) number e.sides.ack) number e
end_begun e (Drain q c) = drain_begun (drain_refusal (link_of e)) e
end_begun e (Register q c entries limit) =
    register_begun e.registration (record { entries = entries; limit = limit }) e
end_begun e (Unregister q c) = unregister_begun e.registration e
end_begun e (Closed q c) = just (record e { closed_asked = e.closed_asked + 1 })
end_begun e x = just e

-- the answer that is due: the one that is decided, or what a take or a drain in progress finds
abbrev pub send_logged : Option SendAnswer → Option LogAnswer
send_logged None = None
send_logged (Some a) = Some (SendAnswered a)

abbrev pub take_logged : Option TakeRefusal → Option TakeAnswer → Option LogAnswer
take_logged None None = None
take_logged None (Some a) = Some (TakeAnswered a)
take_logged (Some refusal) later = Some (TakeAnswered (refused_take refusal))

abbrev pub release_logged : Option ReleaseAnswer → Option LogAnswer
release_logged None = None
release_logged (Some a) = Some (ReleaseAnswered a)

abbrev pub drain_logged : Option DrainAnswer → Bool → Option LogAnswer
drain_logged (Some a) over = Some (DrainAnswered a)
drain_logged None over = if over then Some (DrainAnswered DrainOk) else None

abbrev pub register_logged : Option RegisterAnswer → Option LogAnswer
register_logged None = None
register_logged (Some a) = Some (RegisterAnswered a)

abbrev pub unregister_logged : Option UnregisterAnswer → Option LogAnswer
unregister_logged None = None
unregister_logged (Some a) = Some (UnregisterAnswered a)

-- what a take in progress finds
abbrev pub take_found : End → Option TakeAnswer
take_found e = if is_connected e then take_due e.sides.pull else None

-- the k-th wait for the end of a connection is answered once so many have ended
abbrev pub closed_due : Option Reason → Option LogAnswer
closed_due None = None
closed_due (Some reason) = Some (ClosedAnswered reason)

abbrev pub due_by : Verb → End → Option LogAnswer
due_by SendVerb e = send_logged e.decided.send
due_by TakeVerb e = take_logged e.decided.take (take_found e)
due_by ReleaseVerb e = release_logged e.decided.release
due_by DrainVerb e =
    drain_logged e.decided.drain (e.sides.draining
    && (is_connected e && nat_eq e.sides.send.remote_get e.sides.send.put))
due_by RegisterVerb e = register_logged e.decided.register
due_by UnregisterVerb e = unregister_logged e.decided.unregister
due_by ConnectedVerb e = if is_connected e then Some ConnectedAnswered else None
due_by ClosedVerb e = closed_due (slice_get e.closed (e.closed_asked - 1))
due_by verb e = None

abbrev pub end_due : End → Command → Option LogAnswer
end_due e x = due_by (verb_of x) e

-- a command is answered: a message that a take finds leaves the cache
abbrev pub taken_by : Option TakeAnswer → End → Effect End (List Note)
taken_by (Some (TakenAnswer number body)) e =
    record {
      local = record e {
        sides = record e.sides {
          pull = message_taken e.sides.pull;
          ack = message_held e.sides.ack;
        };
      };
      reason = None;
      notes = Taken body ∷ [];
    }
taken_by (Some (Empty put)) e =
    just (record e {
      sides = record e.sides {
        pull = record e.sides.pull {
          take = None;
          empty = None;
        };
      };
    })
taken_by a e = just e

abbrev pub take_answered : Option TakeRefusal → End → Effect End (List Note)
take_answered None e = taken_by (take_found e) e
take_answered (Some refusal) e = just (record e { decided = record e.decided { take = None } })

abbrev pub answered_by : Verb → End → Effect End (List Note)
answered_by SendVerb e = just (record e { decided = record e.decided { send = None } })
answered_by TakeVerb e = take_answered e.decided.take e
answered_by ReleaseVerb e = just (record e { decided = record e.decided { release = None } })
answered_by DrainVerb e =
    just (record e {
      sides = record e.sides { draining = false };
      decided = record e.decided { drain = None };
    })
answered_by RegisterVerb e = just (record e { decided = record e.decided { register = None } })
answered_by UnregisterVerb e = just (record e { decided = record e.decided { unregister = None } })
answered_by verb e = just e

abbrev pub end_answered : End → Command → Effect End (List Note)
end_answered e x = answered_by (verb_of x) e

-- the end that a command names
pub record EndName : Type 0 where
  pub partner : ℕ
  pub channel : ℕ

abbrev pub named_end : Command → Option EndName
named_end (Send q c payload wait notify) = Some (record { partner = q; channel = c })
named_end (Take q c wait) = Some (record { partner = q; channel = c })
named_end (Release q c number) = Some (record { partner = q; channel = c })
named_end (Drain q c) = Some (record { partner = q; channel = c })
named_end (Register q c entries limit) = Some (record { partner = q; channel = c })
named_end (Unregister q c) = Some (record { partner = q; channel = c })
named_end (Connected q c) = Some (record { partner = q; channel = c })
named_end (Closed q c) = Some (record { partner = q; channel = c })
named_end x = None

-- a partner that isn't wanted any more is deactivated, and one is wanted again
abbrev pub state_unwanted : Area → PartnerState → PartnerState
state_unwanted Off state = Inactive
state_unwanted area state = state

abbrev pub unwanted : Peer → Peer
unwanted p =
    with_reason (Some Unloading) (record p {
      wanted = false;
      engage = record p.engage { state = state_unwanted p.engage.area p.engage.state };
    })

abbrev pub wanted_again : Peer → Peer
wanted_again p = record p { wanted = true }

-- what the beginning of a command makes of the partners
abbrev pub peers_wanted : Option Command → List Peer → List Peer
peers_wanted (Some (Deactivate q)) peers = slice_set peers q (unwanted (peer_at peers q))
peers_wanted (Some (Activate q)) peers = slice_set peers q (wanted_again (peer_at peers q))
peers_wanted (Some Leave) peers = each (λ q p. unwanted p) 0 peers
peers_wanted x peers = peers

-- no partner is active, and no area is open
abbrev pub is_gone : Area → PartnerState → Bool
is_gone Off Inactive = true
is_gone area state = false

abbrev pub all_gone : ℕ → ℕ → List Peer → Bool
all_gone part q [] = true
all_gone part q (p ∷ peers) =
    (nat_eq q part || (not p.wanted && is_gone p.engage.area p.engage.state))
    && all_gone part (q + 1) peers

-- the command in progress has stored the offline count
abbrev pub has_stored : State → Bool
has_stored st = nat_eq st.beats.stored_for st.script.begun

abbrev pub online_due : Bool → ℕ → Option LogAnswer
online_due true count = Some (OnlineAnswered OnlineOk)
online_due false count = if nat_eq count 0 then Some (OnlineAnswered NotOffline) else None

-- the answer of a command that names no end. Those of the network device have none
abbrev pub partition_due : ScenarioPart → State → Command → Option LogAnswer
partition_due s st (Deactivate q) = Some DeactivateAnswered
partition_due s st (Activate q) = Some ActivateAnswered
partition_due s st Leave = if all_gone s.part 0 st.peers then Some LeaveAnswered else None
partition_due s st (Idle turns) =
    if nat_lt st.clock.turns (st.script.since + turns) then None else Some IdleAnswered
partition_due s st Offline = if has_stored st then Some OfflineAnswered else None
partition_due s st Online = online_due (has_stored st) st.beats.offline
partition_due s st x = None

abbrev pub due_at : ScenarioPart → State → Command → Option EndName → Option LogAnswer
due_at s st x None = partition_due s st x
due_at s st x (Some n) = end_due (end_of st n.partner n.channel) x

abbrev pub due_to : ScenarioPart → State → Option Command → Option LogAnswer
due_to s st None = None
due_to s st (Some x) = due_at s st x (named_end x)

abbrev pub due : ScenarioPart → State → Option LogAnswer
due s st = if st.script.doing then due_to s st (current s st) else None

-- the notice that is due: the lowest number that was asked for and lies below a get that is known,
-- or the lowest whose connection ended
abbrev pub below : ℕ → List ℕ → Option ℕ
below get [] = None
below get (number ∷ more) = if nat_lt number get then Some number else None

abbrev pub first_number : List ℕ → Option ℕ
first_number [] = None
first_number (number ∷ more) = Some number

abbrev pub without_first : List ℕ → List ℕ
without_first [] = []
without_first (number ∷ more) = more

abbrev pub notice_due : NoticeKind → End → Option ℕ
notice_due Delivered e = below e.sides.send.remote_get e.sides.pending_notices
notice_due Ended e = first_number e.ended

abbrev pub end_noticed : NoticeKind → ℕ → End → Effect End (List Note)
end_noticed Delivered number e = record {
  local = record e {
    sides = record e.sides { pending_notices = without_first e.sides.pending_notices };
  };
  reason = None;
  notes = Told number ∷ [];
}
end_noticed Ended number e =
    record { local = record e { ended = without_first e.ended }; reason = None; notes = [] }

-- what an act is to which end: an act changes one end at most, and the script
pub record Aim : Type 0 where
  pub partner : ℕ
  pub channel : ℕ
  pub effect : Effect End (List Note)

abbrev pub aim_at : State → ℕ → ℕ → (End → Effect End (List Note)) → Option Aim
aim_at st q c f = Some (record { partner = q; channel = c; effect = f (end_of st q c) })

abbrev pub aim_by : State → (End → Command → Effect End (List Note)) → Command → Option EndName →
    Option Aim
aim_by st f x None = None
aim_by st f x (Some n) = aim_at st n.partner n.channel (λ e. f e x)

abbrev pub aim_of : State → (End → Command → Effect End (List Note)) → Option Command → Option Aim
aim_of st f None = None
aim_of st f (Some x) = aim_by st f x (named_end x)

abbrev pub aimed : ScenarioPart → State → Act → Option Aim
aimed s st Begun = aim_of st end_begun (upcoming s st)
aimed s st Answered = aim_of st end_answered (current s st)
aimed s st (Noticed q c number how) = aim_at st q c (end_noticed how number)

abbrev pub with_aim : Option Aim → State → State
with_aim None st = st
with_aim (Some x) st = record st { peers = set_end st.peers x.partner x.channel x.effect.local }

abbrev pub noted_aim : Option Aim → ℕ → ℕ → List Note
noted_aim None q c = []
noted_aim (Some x) q c =
    if nat_eq x.partner q then (if nat_eq x.channel c then x.effect.notes else []) else []

abbrev pub script_acted : Act → ℕ → Script → Script
script_acted Begun turns x = record { begun = x.begun + 1; doing = true; since = turns }
script_acted Answered turns x = record x { doing = false }
script_acted (Noticed q c number how) turns x = x

-- the command that an act begins
abbrev pub command_begun : ScenarioPart → State → Act → Option Command
command_begun s st Begun = upcoming s st
command_begun s st a = None

abbrev pub after_act : ScenarioPart → State → Act → State
after_act s st a = record (with_aim (aimed s st a) st) {
  script = script_acted a st.clock.turns st.script;
  peers = peers_wanted (command_begun s st a) (with_aim (aimed s st a) st).peers;
}

abbrev pub noted_act : ScenarioPart → State → Act → ℕ → ℕ → List Note
noted_act s st a q c = noted_aim (aimed s st a) q c

abbrev pub after_acts : ScenarioPart → State → List Act → State
after_acts s st [] = st
after_acts s st (a ∷ more) = after_acts s (after_act s st a) more

-- a command is begun where none is in progress and one is left; it is answered where its answer is
-- due; a notice is given where it is due
abbrev pub MayActUp : ScenarioPart → State → Act → Type 0
MayActUp s st Begun =
    (st.script.doing ≡ false) × (st.script.begun < length (script_in s st.clock.boots))
MayActUp s st Answered = IsSome (due s st)
MayActUp s st (Noticed q c number how) =
    (q < s.count) × (c < CHANNELS) × (notice_due how (end_of st q c) ≡ Some number)

abbrev pub MayAct : ScenarioPart → State → Act → Type 0
MayAct s st a = (st.life ≡ Up) × MayActUp s st a

abbrev pub MayActs : ScenarioPart → State → List Act → Type 0
MayActs s st [] = Unit {0}
MayActs s st (a ∷ more) = MayAct s st a × MayActs s (after_act s st a) more

-- the answer of a message that was accepted, and of an offline count that was stored, has to be
-- given in the same turn
abbrev pub is_stored : Option LogAnswer → Bool
is_stored (Some (SendAnswered (SendOk number))) = true
is_stored (Some OfflineAnswered) = true
is_stored (Some (OnlineAnswered OnlineOk)) = true
is_stored a = false

abbrev pub must_answer : ScenarioPart → State → Bool
must_answer s st = is_stored (due s st)
