-- The plan computed: the first turns of a partition that sends a message, of one with nothing to do,
-- and of one that boots.
use Rattle.std.proofs.Common.{◌≡◌, ℕ, zero, suc, true, false, List, [], ◌∷◌, length, refl, Option, Some, None}
use Rattle.std.specs.Prelude.{nat_eq, if◌then◌else◌}
use Rattle.xp_base.specs.declared.layout.TheConstants.{SIGNATURE, VARIABLES_AT, RECORDS_AT}
use Rattle.xp_base.specs.declared.step.Answer.TheVariants.{Word}
use Rattle.xp_base.specs.History.{Begun}
use Rattle.xp_script.specs.declared.command.Command.TheVariants.{Send}
use Rattle.xp_script.specs.declared.part.Link.{Link as ScenarioLink}
use Rattle.xp_script.specs.declared.part.ScenarioPart.{ScenarioPart}
use Rattle.xp_rounds.specs.Visit.{Visit, planned}
use Rattle.xp_protocol.specs.declared.rule.RingRule.TheVariants.{WriteEntryWord}
use Rattle.xp_protocol.specs.declared.rule.LinkRule.TheVariants.{Ring}
use Rattle.xp_protocol.specs.declared.rule.PeerRule.TheVariants.{LookAtPage, TakeFlags, CheckBeat, CloseArea, ZeroMagic, ClearOldBit}
use Rattle.xp_protocol.specs.declared.rule.OwnRule.TheVariants.{ReadStamp, ZeroMask, ZeroOffline, WriteStamp, StoreBeat, TakeActivation, TakeDeactivation, ReadEngaged}
use Rattle.xp_protocol.specs.declared.rule.Rule.{Rule}
use Rattle.xp_protocol.specs.declared.rule.Rule.TheVariants.{Link, Peer as ForPeer, Own}
use Rattle.xp_protocol.specs.State.{State, first_peers, idle_links, none_going, peer_of}
use Rattle.xp_protocol.specs.Rules.{after_answer}
use Rattle.xp_protocol.specs.Acts.{after_act}
use Rattle.xp_protocol.specs.Runs.{start, turn_counted}
use Rattle.xp_plan.specs.declared.errand.Errand.{Errand}
use Rattle.xp_plan.specs.declared.errand.Errand.TheVariants as errands
use Rattle.xp_plan.specs.Plan.{ask_partner, plan_of, first_visit}

-- the partner's page is good, and all other words are 0
abbrev page : ℕ → ℕ
page n =
    if nat_eq n 0 then SIGNATURE
    else (if nat_eq n 1 then 49 else (if nat_eq n 2 then VARIABLES_AT
    else (if nat_eq n 3 then RECORDS_AT else 1)))

abbrev word_for : State → Rule → ℕ
word_for st (ForPeer q LookAtPage) = page (length (peer_of st q).paging)
word_for st r = 0

abbrev made : ScenarioPart → State → Option Rule → State
made s st None = st
made s st (Some r) = after_answer s st r (Word (word_for st r))

-- the planned rules of the next n turns
abbrev rules : ℕ → ScenarioPart → Visit Errand → State → List (Option Rule)
rules zero s v st = []
rules (suc n) s v st =
    let x = planned (plan_of s) v st in
    x.rule ∷ rules n s x.visit (turn_counted (made s st x.rule))

abbrev part : ScenarioPart
part = record {
  part = 0;
  count = 2;
  budget = 100;
  check = 0;
  minors = [];
  links = record { partner = 1; channel = 0; entries = 4; limit = 112 } ∷ [];
  faults = [];
  stop = None;
  restarts = [];
  scripts = (Send 1 0 (104 ∷ 105 ∷ []) true false ∷ []) ∷ [];
}

-- a sender stores its heartbeat and takes its own words, and then stores the words of its entry
abbrev writes : ℕ → Option Rule
writes f = Some (Link 1 0 (Ring (WriteEntryWord f)))

sends : rules 6 part (first_visit part) (after_act part (start part) Begun)
    ≡ Some (Own StoreBeat) ∷ Some (Own TakeActivation) ∷ Some (Own TakeDeactivation)
    ∷ writes 0 ∷ writes 1 ∷ writes 2 ∷ []
unfolding first_peers idle_links none_going lib.Count.count_trailing_zeros
sends = refl

-- one with nothing to do makes nine steps a round: it stores its heartbeat, takes its own words,
-- looks at its partner, and takes the partner's flags
abbrev idle : ScenarioPart
idle = record part { scripts = [] }

rests : rules 9 idle (first_visit idle) (start idle)
    ≡ Some (Own StoreBeat) ∷ Some (Own TakeActivation) ∷ Some (Own TakeDeactivation)
    ∷ Some (ForPeer 1 LookAtPage) ∷ Some (ForPeer 1 LookAtPage) ∷ Some (ForPeer 1 LookAtPage)
    ∷ Some (ForPeer 1 LookAtPage) ∷ Some (ForPeer 1 LookAtPage)
    ∷ Some (ForPeer 1 TakeFlags) ∷ []
unfolding first_peers idle_links none_going
rests = refl

-- one that checks heartbeats: no check is due before so many turns
abbrev watcher : ScenarioPart
watcher = record idle { check = 3 }

early : ask_partner watcher 1 errands.Check 0 (turn_counted (start watcher)) ≡ None
unfolding first_peers idle_links none_going
early = refl

abbrev watching : State
watching = turn_counted (turn_counted (start watcher))

due : ask_partner watcher 1 errands.Check 0 watching ≡ Some (ForPeer 1 CheckBeat)
unfolding first_peers idle_links none_going
due = refl

-- another one isn't begun by a later step of the errand, but one that goes on is made to its end
begun_first : ask_partner watcher 1 errands.Check 1 watching ≡ None
unfolding first_peers idle_links none_going
begun_first = refl

abbrev loads : State → State
loads st = after_answer watcher st (ForPeer 1 CheckBeat) (Word 0)

goes_on : ask_partner watcher 1 errands.Check 2 (loads (loads watching)) ≡ Some (ForPeer 1 CheckBeat)
unfolding first_peers idle_links none_going
goes_on = refl

-- the partner's mask lacks the own bit: the own memory is closed to it, and nothing is checked any
-- more
leaves : ask_partner watcher 1 errands.Leave 0 (loads (loads (loads watching))) ≡ Some (ForPeer 1 CloseArea)
unfolding first_peers idle_links none_going
leaves = refl

no_more : ask_partner watcher 1 errands.Check 0 (loads (loads (loads watching))) ≡ None
unfolding first_peers idle_links none_going
no_more = refl

-- no check is ever due where none is planned
never_due : ask_partner idle 1 errands.Check 0 (turn_counted (turn_counted (start idle))) ≡ None
unfolding first_peers idle_links none_going
never_due = refl

-- a partition without lines boots, looks at its partner, and begins to prepare its memory for it
abbrev cold : ScenarioPart
cold = record part { links = []; scripts = [] }

boots : rules 17 cold (first_visit cold) (start cold)
    ≡ Some (Own ReadStamp) ∷ Some (Own ZeroMask) ∷ Some (Own ZeroOffline)
    ∷ Some (ForPeer 1 ZeroMagic) ∷ Some (ForPeer 1 ClearOldBit) ∷ Some (Own WriteStamp)
    ∷ Some (ForPeer 1 LookAtPage) ∷ Some (ForPeer 1 LookAtPage) ∷ Some (ForPeer 1 LookAtPage)
    ∷ Some (ForPeer 1 LookAtPage) ∷ Some (ForPeer 1 LookAtPage)
    ∷ Some (Own StoreBeat) ∷ Some (Own TakeActivation) ∷ Some (Own TakeDeactivation)
    ∷ Some (Own ReadEngaged)
    ∷ Some (ForPeer 1 LookAtPage) ∷ Some (ForPeer 1 LookAtPage) ∷ []
unfolding first_peers idle_links none_going
boots = refl
