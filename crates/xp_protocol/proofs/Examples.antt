-- One partition by its commands and its planned moments, computed: what is due, what a restart begins again, and when it
-- stops.
use Rattle.std.proofs.Common.{◌≡◌, ℕ, true, false, [], ◌∷◌, refl, Some, None}
use Rattle.xp_base.specs.declared.reason.Reason.TheVariants.{NoHeartbeat, Unloading, Unregistered}
use Rattle.xp_base.specs.declared.step.Answer.TheVariants.{Word}
use Rattle.xp_base.specs.History.{Turn, Begun, Answered}
use Rattle.xp_script.specs.declared.command.Command.TheVariants.{Closed, Deactivate, Idle, Leave, Offline, Online}
use Rattle.xp_script.specs.declared.log.LogAnswer.TheVariants.{Closed as ClosedAnswered, Deactivate as DeactivateAnswered, Idle as IdleAnswered, Offline as OfflineAnswered, Online as OnlineAnswered}
use Rattle.xp_script.specs.declared.log.OnlineAnswer.TheVariants.{Ok as OnlineOk, NotOffline}
use Rattle.xp_script.specs.declared.part.Link.{Link}
use Rattle.xp_script.specs.declared.part.ScenarioPart.{ScenarioPart}
use Rattle.xp_script.specs.declared.setting.Moment.TheVariants.{Put, Turn as AtTurn}
use Rattle.xp_protocol.specs.declared.contact.PartnerState.TheVariants.{Active}
use Rattle.xp_protocol.specs.declared.rule.OwnRule.TheVariants.{StoreOffline}
use Rattle.xp_protocol.specs.declared.rule.Rule.TheVariants.{Own}
use Rattle.xp_protocol.specs.Acts.{after_act, all_gone, due, end_begun, end_due, must_answer, unwanted, upcoming}
use Rattle.xp_protocol.specs.Peering.{beat_reason}
use Rattle.xp_protocol.specs.Rules.{after_answer, offline_asked}
use Rattle.xp_protocol.specs.Linking.{channel_closed, link_finished}
use Rattle.xp_protocol.specs.Runs.{start, after_turn, has_ended, moment}
use Rattle.xp_protocol.specs.State.{State, End, Booting, Off, cold_peer, peer_of, warm_end, first_peers, idle_links, none_going}

abbrev link : Link
link = record { partner = 1; channel = 0; entries = 8; limit = 112 }

-- it restarts after two turns, and stops after four
abbrev part : ScenarioPart
part = record {
  part = 0;
  count = 2;
  budget = 100;
  check = 0;
  minors = [];
  links = link ∷ [];
  faults = [];
  stop = Some (AtTurn 4);
  restarts = AtTurn 2 ∷ [];
  scripts = (Idle 1 ∷ Deactivate 1 ∷ []) ∷ (Leave ∷ []) ∷ [];
}

abbrev still : Turn
still = record { before = []; made = None; after = [] }

-- an `idle` of one turn is answered in the next turn, and not before
abbrev idles : State
idles = after_act part (start part) Begun

not_yet : due part idles ≡ None
not_yet = refl

idled : due part (after_turn part idles still) ≡ Some IdleAnswered
unfolding first_peers idle_links none_going
idled = refl

-- a partner is deactivated at once, for its own reason
abbrev deactivates : State
deactivates = after_act part (after_act part (after_turn part idles still) Answered) Begun

deactivated : due part deactivates ≡ Some DeactivateAnswered
unfolding first_peers idle_links none_going
deactivated = refl

no_longer : (peer_of deactivates 1).wanted ≡ false
unfolding first_peers idle_links none_going
no_longer = refl

given : (peer_of deactivates 1).engage.reason ≡ Some Unloading
unfolding first_peers idle_links none_going
given = refl

-- as long as its area is open, the partner stays active
active : (peer_of deactivates 1).engage.state ≡ Active
unfolding first_peers idle_links none_going
active = refl

-- after two turns it boots again, with the script of its second boot
abbrev again : State
again = after_turn part (after_turn part (start part) still) still

boots : again.life ≡ Booting
unfolding first_peers idle_links none_going
boots = refl

begins : upcoming part again ≡ Some Leave
unfolding first_peers idle_links none_going
begins = refl

-- after four it stops, and makes no turn any more
stops : has_ended part (after_turn part (after_turn part again still) still) ≡ true
unfolding first_peers idle_links none_going
stops = refl

-- a stop of turn 0 comes before the first turn
never : has_ended (record part { stop = Some (AtTurn 0) }) (start (record part { stop = Some (AtTurn 0) })) ≡ true
unfolding first_peers idle_links none_going
never = refl

-- a stop comes before a restart of the same moment
abbrev both : ScenarioPart
both = record part { stop = Some (AtTurn 2) }

stopped_first : (after_turn both (after_turn both (start both) still) still).clock.boots ≡ 1
unfolding first_peers idle_links none_going
stopped_first = refl

-- `leave` waits as long as a partner is in contact, and asks every partner to go
abbrev leaving : ScenarioPart
leaving = record part { scripts = (Leave ∷ []) ∷ [] }

abbrev leaves : State
leaves = after_act leaving (start leaving) Begun

stays : due leaving leaves ≡ None
unfolding first_peers idle_links none_going
stays = refl

asked : (peer_of leaves 1).engage.reason ≡ Some Unloading
unfolding first_peers idle_links none_going
asked = refl

left : all_gone 0 0 (unwanted (cold_peer Off) ∷ unwanted (cold_peer Off) ∷ []) ≡ true
left = refl

-- a restart by a message comes with the turn that puts it, and not with a later one
abbrev put_once : ℕ → State
put_once earlier = let st = start part in moment (record part { restarts = Put 1 ∷ [] }) earlier (record st { clock = record st.clock { puts = 1; turns = 7 } })

restarts_with_it : (put_once 0).clock.boots ≡ 2
restarts_with_it = refl

not_later : (put_once 1).clock.boots ≡ 1
not_later = refl

-- the first wait for the end of a connection is answered by the first connection that ended
abbrev over : End
over = (link_finished (channel_closed Unregistered (warm_end false link)).local).local

waits : end_due (end_begun (warm_end false link) (Closed 1 0)).local (Closed 1 0) ≡ None
waits = refl

closed : end_due (end_begun over (Closed 1 0)).local (Closed 1 0) ≡ Some (ClosedAnswered Unregistered)
closed = refl

not_twice : end_due (end_begun (end_begun over (Closed 1 0)).local (Closed 1 0)).local (Closed 1 0) ≡ None
not_twice = refl

-- `online` is refused at an offline count of 0, and stores nothing
abbrev silent : ScenarioPart
silent = record part { scripts = (Online ∷ Offline ∷ Online ∷ []) ∷ [] }

abbrev refused : State
refused = after_act silent (start silent) Begun

not_offline : due silent refused ≡ Some (OnlineAnswered NotOffline)
not_offline = refl

stores_nothing : offline_asked silent refused ≡ None
stores_nothing = refl

-- `offline` stores the count, raised, and is answered in the turn of the store
abbrev offline_begun : State
offline_begun = after_act silent (after_act silent refused Answered) Begun

raises : offline_asked silent offline_begun ≡ Some 1
raises = refl

not_stored : due silent offline_begun ≡ None
not_stored = refl

abbrev went_offline : State
went_offline = after_answer silent offline_begun (Own StoreOffline) (Word 0)

offline_stored : due silent went_offline ≡ Some OfflineAnswered
offline_stored = refl

stores_once : offline_asked silent went_offline ≡ None
stores_once = refl

at_once : must_answer silent went_offline ≡ true
at_once = refl

-- then `online` lowers it
abbrev online_begun : State
online_begun = after_act silent (after_act silent went_offline Answered) Begun

lowers : offline_asked silent online_begun ≡ Some 0
lowers = refl

online_stored : due silent (after_answer silent online_begun (Own StoreOffline) (Word 0)) ≡ Some (OnlineAnswered OnlineOk)
online_stored = refl

-- the first check of a contact finds a heartbeat in any count; a count that stands still is none, unless the partner is
-- offline; and a mask without the own bit is none in any case
first_heard : beat_reason 1 None (1 ∷ 2 ∷ 0 ∷ []) ≡ None
first_heard = refl

stood_still : beat_reason 1 (Some 1) (1 ∷ 2 ∷ 0 ∷ []) ≡ Some (NoHeartbeat 1 1 2)
stood_still = refl

moved_on : beat_reason 1 (Some 1) (2 ∷ 2 ∷ 0 ∷ []) ≡ None
moved_on = refl

is_offline : beat_reason 1 (Some 1) (1 ∷ 2 ∷ 1 ∷ []) ≡ None
is_offline = refl

not_for_it : beat_reason 1 None (7 ∷ 1 ∷ 1 ∷ []) ≡ Some (NoHeartbeat 0 7 1)
not_for_it = refl
