-- The plan of a partition's turns: which errands each place of its rounds has, how many turns of a
-- visit each may take, and which step each asks for.
use Rattle.std.specs.Prelude.{◌≡◌, ◌<◌, ℕ, Bool, ◌&&◌, if◌then◌else◌, List, [], ◌∷◌, Option, Some, None, is_some}
use Rattle.std.specs.List.{AllByRecursion}
use Rattle.xp_base.specs.declared.layout.TheConstants.{CHANNELS}
use Rattle.xp_rounds.specs.declared.rounds.Place.{Place}
use Rattle.xp_rounds.specs.declared.rounds.Place.TheVariants.{Own as OwnPlace, Partner as PartnerPlace}
use Rattle.xp_rounds.specs.declared.rounds.TheConstants.{VISIT_TURNS}
use Rattle.xp_rounds.specs.Ring.{IsRing, place_at, at_start}
use Rattle.xp_rounds.specs.Visit.{Plan, Visit}
use Rattle.xp_script.specs.declared.command.Command.{Command}
use Rattle.xp_script.specs.declared.command.Command.TheVariants.{Send, Take, Release}
use Rattle.xp_script.specs.declared.part.ScenarioPart.{ScenarioPart}
use Rattle.xp_protocol.specs.declared.rule.LinkRule.{LinkRule}
use Rattle.xp_protocol.specs.declared.rule.PeerRule.TheVariants.{TakeFlags}
use Rattle.xp_protocol.specs.declared.rule.OwnRule.TheVariants.{TakeActivation, TakeDeactivation, StoreOffline}
use Rattle.xp_protocol.specs.declared.rule.Rule.{Rule}
use Rattle.xp_protocol.specs.declared.rule.Rule.TheVariants.{Link, Own}
use Rattle.xp_protocol.specs.State.{State, Life, Booting, Up, Halted, End, Peer, peer_of, end_of}
use Rattle.xp_protocol.specs.Rules.{here_of, offline_asked}
use Rattle.xp_protocol.specs.Acts.{current, EndName, named_end}
use Rattle.xp_plan.specs.declared.errand.Agenda.{Agenda}
use Rattle.xp_plan.specs.declared.errand.Agenda.TheVariants as agendas
use Rattle.xp_plan.specs.declared.errand.Errand.{Errand}
use Rattle.xp_plan.specs.declared.errand.Errand.TheVariants as errands
use Rattle.xp_plan.specs.EndSteps.{send_at, take_at, counters_at, store_at, signal_at, step_if}
use Rattle.xp_plan.specs.PeerSteps.{look_at, prepare_at, is_open_to, engage_at, answer_at, record_at, leave_at, check_at, for_peer, boot_at, beat_at, mask_at, engagements_at}

-- the errands of an agenda, in their order
abbrev pub errands_of : Agenda → List Errand
errands_of agendas.Boot = errands.Boot ∷ []
errands_of agendas.Own =
    errands.Beat ∷ errands.Mask ∷ errands.Activations ∷ errands.Deactivations ∷ errands.Engagements
    ∷ errands.Script ∷ []
errands_of agendas.Apart =
    errands.Look ∷ errands.Prepare ∷ errands.Engage ∷ errands.Answer ∷ errands.Record
    ∷ errands.Answer ∷ errands.Leave ∷ errands.Bulk ∷ []
errands_of agendas.Joined =
    errands.Look ∷ errands.Flags ∷ errands.Check
    ∷ errands.Signal 0 ∷ errands.Signal 1 ∷ errands.Signal 2 ∷ errands.Signal 3
    ∷ errands.Counters 0 ∷ errands.Counters 1 ∷ errands.Counters 2 ∷ errands.Counters 3
    ∷ errands.Bulk ∷ errands.Leave ∷ []

-- how many turns of a visit an errand may take. A look has five loads, and a check three. A memory
-- is prepared by 35 steps. A record has eight words, and up to seven of one that was cut come
-- first. Of a channel a message is requested, get is stored, up to three arguments are loaded, and
-- one flag is sent behind up to three words
abbrev pub quota : Errand → ℕ
quota errands.Boot = VISIT_TURNS
quota errands.Beat = 1
quota errands.Mask = 1
quota errands.Activations = 1
quota errands.Deactivations = 1
quota errands.Engagements = 1
quota errands.Look = 5
quota errands.Prepare = 35
quota errands.Engage = 2
quota errands.Answer = 2
quota errands.Record = 15
quota errands.Flags = 1
quota errands.Check = 3
quota (errands.Signal c) = 9
quota (errands.Counters c) = 3
quota errands.Bulk = 24
quota errands.Leave = 3
quota errands.Script = 90

-- a partner with which channels are used: it is in contact, and isn't to be deactivated
abbrev pub is_joined : Peer → Bool
is_joined p = is_some p.contact && is_open_to p.engage

abbrev pub agenda_up : Place → State → Agenda
agenda_up OwnPlace st = agendas.Own
agenda_up (PartnerPlace q) st = if is_joined (peer_of st q) then agendas.Joined else agendas.Apart

abbrev pub agenda_by : Life → Place → State → Agenda
agenda_by Up place st = agenda_up place st
agenda_by Booting place st = agendas.Boot
agenda_by Halted place st = agendas.Boot

abbrev pub agenda_at : Place → State → Agenda
agenda_at place st = agenda_by st.life place st

-- an errand asks for no turn that makes no step
abbrev pub asked : Option Rule → Option (Option Rule)
asked None = None
asked (Some r) = Some (Some r)

abbrev pub link_rule : ℕ → ℕ → Option LinkRule → Option Rule
link_rule q c None = None
link_rule q c (Some m) = Some (Link q c m)

-- a step at an end is made while its partner is joined
abbrev pub link_asked : State → ℕ → ℕ → Option LinkRule → Option Rule
link_asked st q c m = if is_joined (peer_of st q) then link_rule q c m else None

-- the step of a command in progress. A take loads no counters here. Of those that name no end some
-- store the offline count, and other commands make no step
abbrev pub command_step : ℕ → End → Command → Option LinkRule
command_step used e (Send q c payload wait notify) = send_at used e
command_step used e (Take q c wait) = take_at e
command_step used e (Release q c number) = store_at e
command_step used e x = None

abbrev pub offline_at : ScenarioPart → State → Option Rule
offline_at s st = step_if (is_some (offline_asked s st)) (Own StoreOffline)

abbrev pub command_at : ScenarioPart → State → ℕ → Command → Option EndName → Option Rule
command_at s st used x None = offline_at s st
command_at s st used x (Some n) =
    link_asked st n.partner n.channel (command_step used (end_of st n.partner n.channel) x)

abbrev pub command_asked : ScenarioPart → State → ℕ → Option Command → Option Rule
command_asked s st used None = None
command_asked s st used (Some x) = command_at s st used x (named_end x)

abbrev pub script_asked : ScenarioPart → State → ℕ → Option Rule
script_asked s st used = if st.script.doing then command_asked s st used (current s st) else None

-- what an errand asks for at the place of a partner, and at the own place
abbrev pub ask_partner : ScenarioPart → ℕ → Errand → ℕ → State → Option Rule
ask_partner s q errands.Look used st = for_peer q (look_at used (peer_of st q))
ask_partner s q errands.Prepare used st = prepare_at (here_of s st q).masked q (peer_of st q)
ask_partner s q errands.Engage used st = for_peer q (engage_at (here_of s st q) (peer_of st q))
ask_partner s q errands.Answer used st = for_peer q (answer_at (peer_of st q))
ask_partner s q errands.Record used st = for_peer q (record_at used (peer_of st q))
ask_partner s q errands.Flags used st =
    for_peer q (step_if (is_joined (peer_of st q)) TakeFlags)
ask_partner s q errands.Check used st =
    for_peer q (check_at (here_of s st q) used (peer_of st q))
ask_partner s q (errands.Signal c) used st = link_asked st q c (signal_at used (end_of st q c))
ask_partner s q (errands.Counters c) used st =
    link_asked st q c (counters_at used (end_of st q c))
ask_partner s q errands.Bulk used st = script_asked s st used
ask_partner s q errands.Leave used st = for_peer q (leave_at (peer_of st q))
ask_partner s q e used st = None

abbrev pub ask_own : ScenarioPart → Errand → ℕ → State → Option Rule
ask_own s errands.Beat used st = beat_at st
ask_own s errands.Mask used st = mask_at st
ask_own s errands.Activations used st = Some (Own TakeActivation)
ask_own s errands.Deactivations used st = Some (Own TakeDeactivation)
ask_own s errands.Engagements used st = engagements_at s.part st
ask_own s errands.Script used st = script_asked s st used
ask_own s e used st = None

abbrev pub ask_up : ScenarioPart → Place → Errand → ℕ → State → Option Rule
ask_up s OwnPlace e used st = ask_own s e used st
ask_up s (PartnerPlace q) e used st = ask_partner s q e used st

abbrev pub ask_booting : ScenarioPart → Errand → State → Option Rule
ask_booting s errands.Boot st = boot_at s.part st
ask_booting s e st = None

-- a partition that boots makes the steps of its boot alone, and one that halted none
abbrev pub ask_by : Life → ScenarioPart → Place → Errand → ℕ → State → Option Rule
ask_by Up s place e used st = ask_up s place e used st
ask_by Booting s place e used st = ask_booting s e st
ask_by Halted s place e used st = None

abbrev pub plan_of : ScenarioPart → Plan State Errand Rule
plan_of s =
    record {
      errands = λ k st. errands_of (agenda_at (place_at s.part k) st);
      quota = quota;
      ask = λ k e used st. asked (ask_by st.life s (place_at s.part k) e used st);
    }

-- the visits of a partition: they go round its ring, and their errands are of channels that there
-- are
abbrev pub IsErrand : Errand → Type 0
IsErrand (errands.Signal c) = c < CHANNELS
IsErrand (errands.Counters c) = c < CHANNELS
IsErrand e = Unit {0}

pub record IsVisit (s : ScenarioPart) (v : Visit Errand) : Type 0 where
  pub ring : IsRing v.ring
  pub own : v.ring.own ≡ s.part
  pub count : v.ring.count ≡ s.count
  pub errands : AllByRecursion IsErrand v.rest

-- the first visit of a boot: the own place was come to just now
abbrev pub first_visit : ScenarioPart → Visit Errand
first_visit s = record { ring = at_start s.part s.count; rest = []; used = 0 }
