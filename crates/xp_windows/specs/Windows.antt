-- What a partition owes within a window of turns, whatever the memory answers: nothing that is due
-- waits longer. A window lies within one boot, and a planned restart may come after its last turn.
-- What its premises say holds throughout: before each of its turns, and right before each step.
use Rattle.std.specs.Prelude.{◌≡◌, ℕ, ◌+◌, ◌<◌, ◌≤◌, Bool, true, false, ◌||◌, List, [], ◌∷◌, ◌++◌, length, Option, Some, None, IsSome, ◌⊎◌}
use Rattle.xp_base.specs.History.{Act, Begun, Answered, Noticed, Marked, Turn}
use Rattle.xp_base.specs.Windows.{window_of}
use Rattle.xp_base.specs.declared.link.Kind.{Kind}
use Rattle.xp_base.specs.declared.link.Kind.TheVariants.{OpenRequest, OpenReply, OpenComplete, MsgRequest}
use Rattle.xp_base.specs.Kinds.{has}
use Rattle.xp_script.specs.declared.command.Command.TheVariants.{Send, Take}
use Rattle.xp_script.specs.declared.part.ScenarioPart.{ScenarioPart}
use Rattle.xp_protocol.specs.declared.rule.LinkRule.{LinkRule}
use Rattle.xp_protocol.specs.declared.rule.LinkRule.TheVariants.{Ring, Pull, Acknowledge, SetFlag, ReadArgument}
use Rattle.xp_protocol.specs.declared.rule.Argument.{Argument}
use Rattle.xp_protocol.specs.declared.contact.Size.{Size}
use Rattle.xp_protocol.specs.Linking.{owed, kind_of, has_argument}
use Rattle.xp_protocol.specs.declared.rule.PullRule.TheVariants.{ReadCounters, ReadEntry}
use Rattle.xp_protocol.specs.declared.rule.PeerRule.{PeerRule}
use Rattle.xp_protocol.specs.declared.rule.PeerRule.TheVariants.{TakeFlags, CloseArea, OpenArea, SetEngagementBit, ReadRecord, StoreEcho, StoreSecond, ClearEngagementBit, LookAtPage, CheckBeat, TellPartner}
use Rattle.xp_protocol.specs.declared.rule.OwnRule.{OwnRule}
use Rattle.xp_protocol.specs.declared.rule.OwnRule.TheVariants.{TakeActivation, StoreBeat, StoreOffline, TakeDeactivation, ReadEngaged}
use Rattle.xp_protocol.specs.declared.rule.Rule.{Rule}
use Rattle.xp_protocol.specs.declared.rule.Rule.TheVariants.{Link, Peer as ForPeer, Own}
use Rattle.xp_protocol.specs.Parts.{IsEndOf, script_in}
use Rattle.xp_protocol.specs.State.{State, Booting, Up, Off, Ready, Leaving, Peer, End, end_of, peer_of, is_connected}
use Rattle.xp_protocol.specs.declared.contact.PartnerState.TheVariants.{Activating}
use Rattle.xp_protocol.specs.Pulling.{is_copying}
use Rattle.xp_protocol.specs.Peering.{HasWaited, is_good}
use Rattle.xp_protocol.specs.Rules.{IsPartner, here_of, offline_asked}
use Rattle.xp_protocol.specs.Decode.{rule_of}
use Rattle.xp_protocol.specs.Acts.{current, due, after_acts}
use Rattle.xp_protocol.specs.Runs.{start, after_step, after_turn, state_after}
use Rattle.xp_plan.specs.EndSteps.{has_entry}
use Rattle.xp_plan.specs.PeerSteps.{any_left}

-- some acts begin a command; they answer one
abbrev pub begins : List Act → Bool
begins [] = false
begins (Begun ∷ more) = true
begins (Answered ∷ more) = begins more
begins (Noticed q c number how ∷ more) = begins more

abbrev pub answers : List Act → Bool
answers [] = false
answers (Begun ∷ more) = answers more
answers (Answered ∷ more) = true
answers (Noticed q c number how ∷ more) = answers more

-- right before the step of a turn
abbrev pub middle : ScenarioPart → State → Turn → State
middle s st t = after_acts s st t.before

-- E holds of one of some turns and of the state before it
abbrev pub SomeTurn : (State → Turn → Type 0) → ScenarioPart → State → List Turn → Type 0
SomeTurn E s st [] = ⊥
SomeTurn E s st (t ∷ ts) = E st t ⊎ SomeTurn E s (after_turn s st t) ts

-- E holds of one of some turns, and F of a later one of them
abbrev pub SomeThen : (E F : State → Turn → Type 0) → ScenarioPart → State → List Turn → Type 0
SomeThen E F s st [] = ⊥
SomeThen E F s st (t ∷ ts) =
    (E st t × SomeTurn F s (after_turn s st t) ts) ⊎ SomeThen E F s (after_turn s st t) ts

-- E holds of one of some turns, and F of the same one or of a later one of them
abbrev pub SomeFrom : (E F : State → Turn → Type 0) → ScenarioPart → State → List Turn → Type 0
SomeFrom E F s st [] = ⊥
SomeFrom E F s st (t ∷ ts) =
    (E st t × SomeTurn F s st (t ∷ ts)) ⊎ SomeFrom E F s (after_turn s st t) ts

abbrev pub Throughout : (State → Type 0) → ScenarioPart → State → List Turn → Type 0
Throughout C s st [] = Unit {0}
Throughout C s st (t ∷ ts) = C st × C (middle s st t) × Throughout C s (after_turn s st t) ts

-- the turn makes a step, by a rule of which this holds in the state right before the step
pub record Steps (E : State → Rule → Type 0) (s : ScenarioPart) (st : State)
    (t : Turn) : Type 0 where
  pub step : Marked
  pub made : t.made ≡ Some step
  pub rule : Rule
  pub decoded : rule_of s (middle s st t) step.step.op step.mark ≡ Some rule
  pub is : E (middle s st t) rule

-- the turn makes a step for a partner, of which this is said by the partner as it is known right
-- before the step and right after it
pub record Changes (E : Peer → Peer → Type 0) (m : PeerRule) (s : ScenarioPart) (q : ℕ) (st : State)
    (t : Turn) : Type 0 where
  pub step : Marked
  pub made : t.made ≡ Some step
  pub decoded : rule_of s (middle s st t) step.step.op step.mark ≡ Some (ForPeer q m)
  pub is : E (peer_of (middle s st t) q) (peer_of (after_step s (middle s st t) t.made) q)

-- the partition is up, in its boot of this number
pub record IsUp (number : ℕ) (st : State) : Type 0 where
  pub up : st.life ≡ Up
  pub boot : st.clock.boots ≡ number

-- the partition boots, for this number of times
pub record IsBooting (number : ℕ) (st : State) : Type 0 where
  pub booting : st.life ≡ Booting
  pub boot : st.clock.boots ≡ number

-- a partner is in contact, the own memory stands open to it, and no reason to deactivate it stands
pub record IsMet (q : ℕ) (st : State) : Type 0 where
  pub contact : IsSome (peer_of st q).contact
  pub ready : (peer_of st q).engage.area ≡ Ready
  pub free : (peer_of st q).engage.reason ≡ None

-- the own memory stands open to a partner, and no reason to deactivate it stands
pub record IsOpenTo (q : ℕ) (st : State) : Type 0 where
  pub ready : (peer_of st q).engage.area ≡ Ready
  pub free : (peer_of st q).engage.reason ≡ None

-- a partner is wanted
pub record IsWanted (q : ℕ) (st : State) : Type 0 where
  pub wanted : (peer_of st q).wanted ≡ true

-- a partner is to be engaged: its page is good, and the own bit isn't set at it and was cleared
-- long enough ago
pub record IsOffered (s : ScenarioPart) (q : ℕ) (st : State) : Type 0 where
  pub open_to : IsOpenTo q st
  pub good : is_good (peer_of st q).look ≡ true
  pub out : (peer_of st q).engage.bit ≡ false
  pub waited : HasWaited (here_of s st q).wait (here_of s st q).turn
      (peer_of st q).engage.cleared_at

-- the own bit is set at a partner that isn't in contact, and no reason to deactivate it stands
pub record IsActivating (q : ℕ) (st : State) : Type 0 where
  pub state : (peer_of st q).engage.state ≡ Activating
  pub free : (peer_of st q).engage.reason ≡ None

-- a channel is connected
pub record IsOpen (q c : ℕ) (st : State) : Type 0 where
  pub met : IsMet q st
  pub connected : is_connected (end_of st q c) ≡ true

-- the argument of a flag that was taken may be loaded: no close reply was sent
pub record MayLoad (q c : ℕ) (st : State) : Type 0 where
  pub met : IsMet q st
  pub contact : IsSome (end_of st q c).shake.meet
  pub unreplied : (end_of st q c).shake.sent.close_reply ≡ false

-- the control flags by which a channel opens
abbrev pub IsOpening : Kind → Type 0
IsOpening OpenRequest = Unit {0}
IsOpening OpenReply = Unit {0}
IsOpening OpenComplete = Unit {0}
IsOpening k = ⊥

-- a channel stands, as far as a control flag needs it: one that opens the channel, that no reason
-- to close it came, and the open request, that its registration stays
pub record IsStanding (q c : ℕ) (k : Kind) (size : Option Size) (st : State) : Type 0 where
  pub met : IsMet q st
  pub contact : IsSome (end_of st q c).shake.meet
  pub reasonless : IsOpening k → (end_of st q c).shake.reason ≡ None
  pub registration : k ≡ OpenRequest → (end_of st q c).registration ≡ size

-- the script's send to an end goes on: it is in progress, and isn't over
pub record IsSent (s : ScenarioPart) (q c : ℕ) (payload : List ℕ) (wait notify : Bool)
    (st : State) : Type 0 where
  pub channel : IsOpen q c st
  pub doing : st.script.doing ≡ true
  pub now : current s st ≡ Some (Send q c payload wait notify)
  pub goes_on : IsSome (end_of st q c).sides.send.send

-- the script's take from an end goes on
pub record IsTaking (s : ScenarioPart) (q c : ℕ) (wait : Bool) (st : State) : Type 0 where
  pub channel : IsOpen q c st
  pub doing : st.script.doing ≡ true
  pub now : current s st ≡ Some (Take q c wait)
  pub goes_on : IsSome (end_of st q c).sides.pull.take

-- the own memory for a partner waits to be free
abbrev pub IsLeft : ScenarioPart → State → Type 0
IsLeft s st = any_left s.part 0 st.peers ≡ true

-- the partition isn't offline
abbrev pub IsOnline : State → Type 0
IsOnline st = st.beats.offline ≡ 0

-- the command in progress has still to store the offline count
abbrev pub IsCounting : ScenarioPart → State → Type 0
IsCounting s st = IsSome (offline_asked s st)

-- a step at an end, by such a rule
abbrev pub At : ℕ → ℕ → (End → LinkRule → Type 0) → State → Rule → Type 0
At q c E st (Link k d m) = (k ≡ q) × (d ≡ c) × E (end_of st q c) m
At q c E st r = ⊥

-- the rule of a step at an end is `goal`
abbrev pub IsRule : LinkRule → End → LinkRule → Type 0
IsRule goal e m = m ≡ goal

-- a partner is told by a message request; get is stored
abbrev pub IsRequest : End → LinkRule → Type 0
IsRequest e (SetFlag MsgRequest) = Unit {0}
IsRequest e m = ⊥

abbrev pub IsStore : End → LinkRule → Type 0
IsStore e Acknowledge = Unit {0}
IsStore e m = ⊥

-- a copy of the counters is begun with its get; it is over with its put
abbrev pub BeginsCopy : End → LinkRule → Type 0
BeginsCopy e (Pull ReadCounters) = e.sides.pull.counters ≡ None
BeginsCopy e m = ⊥

abbrev pub EndsCopy : End → LinkRule → Type 0
EndsCopy e (Pull ReadCounters) = IsSome e.sides.pull.counters
EndsCopy e m = ⊥

-- a send stores a word of its entry, or put, where there is room by the get that was loaded last,
-- and else it loads get: the conditions of these rules leave it no choice
abbrev pub SendsOn : End → LinkRule → Type 0
SendsOn e (Ring m) = Unit {0}
SendsOn e m = ⊥

-- a take loads a word of the next entry where the pulled put is above the count pulled, and else it
-- loads put, which ends a copy of the counters
abbrev pub TakesOn : End → LinkRule → Type 0
TakesOn e (Pull ReadEntry) = Unit {0}
TakesOn e (Pull ReadCounters) = (has_entry e.sides.pull ≡ false) × IsSome e.sides.pull.counters
TakesOn e m = ⊥

-- the flags of a partner are taken
abbrev pub TakesFlags : ℕ → State → Rule → Type 0
TakesFlags q st (ForPeer k TakeFlags) = k ≡ q
TakesFlags q st r = ⊥

-- a step for a partner
abbrev pub IsFor : ℕ → PeerRule → State → Rule → Type 0
IsFor q m st r = r ≡ ForPeer q m

-- a step of the partition as a whole
abbrev pub IsOwn : OwnRule → State → Rule → Type 0
IsOwn m st r = r ≡ Own m

-- a look is begun by a load where none goes on, and over with one after which none does: its fifth,
-- or one that fails
abbrev pub BeginsLook : Peer → Peer → Type 0
BeginsLook p after = p.paging ≡ []

abbrev pub EndsLook : Peer → Peer → Type 0
EndsLook p after = after.paging ≡ []

-- a copy of the partner's record is begun by a load where none goes on, and over with its last
-- word, one that is refused, or a load that fails
abbrev pub BeginsRecord : Peer → Peer → Type 0
BeginsRecord p after = p.engage.reading ≡ None

abbrev pub EndsRecord : Peer → Peer → Type 0
EndsRecord p after = after.engage.reading ≡ None

-- a check of the partner's heartbeat is over with its third word, or a load that fails
abbrev pub EndsCheck : Peer → Peer → Type 0
EndsCheck p after = after.watch.words ≡ []

-- a word of a copy of a channel is loaded while the channel closes
abbrev pub CopiesClosed : End → LinkRule → Type 0
CopiesClosed e (Pull m) = IsSome e.shake.reason
CopiesClosed e m = ⊥

-- what is owed of the turns of a window that begins in this state
pub record Owed (s : ScenarioPart) (st : State) (window : List Turn) : Type 0 where
  pub begins : st.script.doing ≡ false →
      st.script.begun < length (script_in s st.clock.boots) →
      SomeTurn (λ x t. (begins t.before || begins t.after) ≡ true) s st window
  pub answers : IsSome (due s st) →
      SomeTurn (λ x t. (answers t.before || answers t.after) ≡ true) s st window
  pub beats : Throughout IsOnline s st window → SomeTurn (Steps (IsOwn StoreBeat) s) s st window
  pub activations : SomeTurn (Steps (IsOwn TakeActivation) s) s st window
  pub deactivations : SomeTurn (Steps (IsOwn TakeDeactivation) s) s st window
  pub looks : (q : ℕ) → IsPartner s q →
      SomeFrom (Changes BeginsLook LookAtPage s q) (Changes EndsLook LookAtPage s q) s st window
  pub engagements : Throughout (IsLeft s) s st window →
      SomeTurn (Steps (IsOwn ReadEngaged) s) s st window
  pub opens : (q : ℕ) → IsPartner s q → (peer_of st q).engage.area ≡ Off →
      (peer_of st q).engage.count < 4294967295 → Throughout (IsWanted q) s st window →
      SomeTurn (Steps (IsFor q OpenArea) s) s st window
  pub engages : (q : ℕ) → IsPartner s q → Throughout (IsOffered s q) s st window →
      SomeTurn (Steps (IsFor q SetEngagementBit) s) s st window
  pub records : (q : ℕ) → IsPartner s q → Throughout (IsActivating q) s st window →
      SomeFrom (Changes BeginsRecord ReadRecord s q) (Changes EndsRecord ReadRecord s q) s st window
  pub backs_off : (q : ℕ) → IsPartner s q → (peer_of st q).engage.state ≡ Activating →
      (peer_of st q).engage.back_off ≡ true → Throughout (IsOpenTo q) s st window →
      SomeTurn (Steps (IsFor q ClearEngagementBit) s) s st window
  pub echoes : (q : ℕ) → IsPartner s q → IsSome (peer_of st q).engage.read →
      (peer_of st q).engage.echo ≡ None → Throughout (IsActivating q) s st window →
      SomeTurn (Steps (IsFor q StoreEcho) s) s st window
  pub seconds : (q : ℕ) → IsPartner s q → IsSome (peer_of st q).engage.echo →
      (peer_of st q).engage.second ≡ false → Throughout (IsOpenTo q) s st window →
      SomeTurn (Steps (IsFor q StoreSecond) s) s st window
  pub closing : (q c : ℕ) → SomeTurn (Steps (At q c CopiesClosed) s) s st window → ⊥
  pub over : (q c : ℕ) → IsSome (end_of st q c).shake.reason →
      is_copying (end_of st q c).sides.pull ≡ false
  pub flags : (q : ℕ) → IsPartner s q → Throughout (IsMet q) s st window →
      SomeTurn (Steps (TakesFlags q) s) s st window
  pub requests : (q c : ℕ) → IsEndOf s.part s.count q c →
      (end_of st q c).shake.owes_message ≡ true → Throughout (IsOpen q c) s st window →
      SomeTurn (Steps (At q c IsRequest) s) s st window
  pub arguments : (q c : ℕ) (x : Argument) → IsEndOf s.part s.count q c →
      has (kind_of x) (end_of st q c).shake.taken ≡ true →
      has_argument (kind_of x) (end_of st q c).shake ≡ false →
      Throughout (MayLoad q c) s st window →
      SomeTurn (Steps (At q c (IsRule (ReadArgument x))) s) s st window
  pub controls : (q c : ℕ) (k : Kind) → IsEndOf s.part s.count q c → (k ≡ MsgRequest → ⊥) →
      owed k (end_of st q c) ≡ true →
      Throughout (IsStanding q c k (end_of st q c).registration) s st window →
      SomeTurn (Steps (At q c (IsRule (SetFlag k))) s) s st window
  pub stores : (q c : ℕ) → IsEndOf s.part s.count q c →
      (end_of st q c).sides.local_get < (end_of st q c).sides.ack.front →
      Throughout (IsOpen q c) s st window → SomeTurn (Steps (At q c IsStore) s) s st window
  pub copies : (q c : ℕ) → IsEndOf s.part s.count q c →
      (end_of st q c).sides.pull.owed ≡ true → Throughout (IsOpen q c) s st window →
      SomeThen (Steps (At q c BeginsCopy) s) (Steps (At q c EndsCopy) s) s st window
  pub sends : (q c : ℕ) (payload : List ℕ) (wait notify : Bool) →
      Throughout (IsSent s q c payload wait notify) s st window →
      SomeTurn (Steps (At q c SendsOn) s) s st window
  pub takes : (q c : ℕ) (wait : Bool) → Throughout (IsTaking s q c wait) s st window →
      SomeTurn (Steps (At q c TakesOn) s) s st window
  pub offlines : Throughout (IsCounting s) s st window →
      SomeTurn (Steps (IsOwn StoreOffline) s) s st window
  pub checks : (q : ℕ) → IsPartner s q → 0 < s.check →
      (peer_of st q).watch.since + s.check ≤ st.clock.turns + 1 →
      Throughout (IsMet q) s st window →
      SomeTurn (Changes EndsCheck CheckBeat s q) s st window
  pub closes : (q : ℕ) → IsPartner s q → (peer_of st q).engage.area ≡ Ready →
      IsSome (peer_of st q).engage.reason → SomeTurn (Steps (IsFor q CloseArea) s) s st window
  pub tells : (q : ℕ) → IsPartner s q → (peer_of st q).engage.area ≡ Leaving →
      (peer_of st q).engage.bit ≡ true → (peer_of st q).engage.told ≡ false →
      SomeTurn (Steps (IsFor q TellPartner) s) s st window
  pub leaves : (q : ℕ) → IsPartner s q → (peer_of st q).engage.area ≡ Leaving →
      (peer_of st q).engage.bit ≡ true → (peer_of st q).engage.told ≡ true →
      SomeTurn (Steps (IsFor q ClearEngagementBit) s) s st window

-- some consecutive turns, as many as a window has, and the state before them
pub record IsWindow (s : ScenarioPart) (ts : List Turn) (st : State) (window : List Turn) :
    Type 0 where
  pub before : List Turn
  pub after : List Turn
  pub turns : ts ≡ before ++ (window ++ after)
  pub long : length window ≡ window_of s.count
  pub state : st ≡ state_after s (start s) before

-- in each window of one boot what is owed is done; and no window is of a boot that isn't over: a
-- partition that boots is up within a window, or its stamp couldn't be raised, or it stopped
pub record Windows (s : ScenarioPart) (ts : List Turn) : Type 0 where
  pub owed : (st : State) (window : List Turn) → IsWindow s ts st window →
      Throughout (IsUp st.clock.boots) s st window → Owed s st window
  pub boots : (st : State) (window : List Turn) → IsWindow s ts st window →
      Throughout (IsBooting st.clock.boots) s st window → ⊥
