-- What is seen of a node, what a turn makes of it, and what it is after some turns.
use Rattle.std.specs.Prelude.{◌≡◌, ℕ, ◌+◌, ◌<◌, ◌≤◌, Bool, true, false, List, [], ◌∷◌, ◌++◌, Option, Some, None, slice_index_or, IfSome}
use Rattle.xp_base.specs.declared.layout.TheConstants.{CHANNELS, PART_WORDS}
use Rattle.xp_base.specs.declared.step.Answer.{Answer}
use Rattle.xp_base.specs.declared.step.OpKind.TheVariants.{Load}
use Rattle.xp_base.specs.declared.step.Step.{Step}
use Rattle.xp_base.specs.declared.step.Wanted.{Wanted}
use Rattle.xp_base.specs.History.{Marked, Turn}
use Rattle.xp_rounds.specs.Visit.{Visit, planned}
use Rattle.xp_script.specs.declared.log.Entry.{Entry}
use Rattle.xp_script.specs.declared.part.ScenarioPart.{ScenarioPart}
use Rattle.xp_protocol.specs.Effects.{with_notes}
use Rattle.xp_protocol.specs.Records.{Recorded}
use Rattle.xp_protocol.specs.State.{State, Life, Booting, Up, Halted}
use Rattle.xp_protocol.specs.Acts.{due}
use Rattle.xp_protocol.specs.Runs.{start, state_after, after_turn, is_done, IsDone, May, Runs, acted}
use Rattle.xp_protocol.specs.Logged.{entries_turn, entries_from, noted_turn, records_after}
use Rattle.xp_counts.specs.Counted.{calls_in}
use Rattle.xp_plan.specs.declared.errand.Errand.{Errand}
use Rattle.xp_plan.specs.Plan.{plan_of, first_visit}
use Rattle.xp_windows.specs.Windows.{middle, begins}
use Rattle.xp_windows.specs.Visited.{IsPrompt, rule_made, visit_after, Visited}
use Rattle.xp_node.specs.declared.ended.Ended.{Ended}
use Rattle.xp_node.specs.declared.ended.Ended.TheVariants as endings

-- a node is its part of the scenario, what the partition knows and where it is on its rounds, its
-- log, the records of each end by partner and channel, the newest first, and its steps; beside them
-- the step that waits for its answer, and for how many turns there is room. While a step waits, the
-- rest is as before the turn
pub record NodeView : Type 0 where
  pub part : ScenarioPart
  pub state : State
  pub visit : Visit Errand
  pub entries : List Entry
  pub records : List (List (List Recorded))
  pub steps : List Step
  pub waiting : Option Wanted
  pub room : ℕ

abbrev pub records_in : List (List (List Recorded)) → ℕ → ℕ → List Recorded
records_in records q c = slice_index_or (slice_index_or records q []) c []

abbrev pub records_at : NodeView → ℕ → ℕ → List Recorded
records_at n q c = records_in n.records q c

-- a node makes no turn any more
abbrev pub IsEnded : NodeView → Type 0
IsEnded n = IsDone n.part n.state

-- the step that was wanted, with its answer
abbrev pub answered_by : Wanted → Answer → Marked
answered_by w a = record { step = record { op = w.op; answer = a }; mark = w.mark }

-- the steps of some turns
abbrev pub steps_made : Option Marked → List Step
steps_made None = []
steps_made (Some x) = x.step ∷ []

abbrev pub steps_of : List Turn → List Step
steps_of [] = []
steps_of (t ∷ ts) = steps_made t.made ++ steps_of ts

-- one turn with this step was made. The turn is permitted and follows the plan. It begins a command
-- as soon as it can, and none after its step; it gives an answer that was due before it, and leaves
-- none due behind its acts. It begins and answers commands at most two times in all. All that the
-- node keeps grew by the turn
pub record MakesTurn (old new : NodeView) (made : Option Marked) : Type 0 where
  pub turn : Turn
  pub step : turn.made ≡ made
  pub may : May old.part old.state turn
  pub prompt : IsPrompt old.part old.state turn
  pub none : due old.part (acted old.part old.state turn) ≡ None
  pub once : calls_in turn.before + calls_in turn.after ≤ 2
  pub first : begins turn.after ≡ false
  pub follows : rule_made old.part (middle old.part old.state turn) turn
      ≡ (planned (plan_of old.part) old.visit (middle old.part old.state turn)).rule
  pub state : new.state ≡ after_turn old.part old.state turn
  pub visit : new.visit ≡ visit_after old.part old.visit old.state turn
  pub entries : new.entries ≡ entries_turn old.part old.state turn old.entries
  pub records : (q c : ℕ) → q < old.part.count → c < CHANNELS → records_at new q c
      ≡ with_notes q c (noted_turn old.part old.state turn q c) (records_at old q c)
  pub steps : new.steps ≡ old.steps ++ steps_made made
  pub part : new.part ≡ old.part
  pub waiting : new.waiting ≡ None
  pub room : old.room ≤ new.room + 1

-- a step that is wanted is on a word of the layout; one with a mark is a load
pub record IsStep (s : ScenarioPart) (w : Wanted) : Type 0 where
  pub owner : w.op.owner < s.count
  pub index : w.op.index < PART_WORDS
  pub load : IfSome w.mark (λ mark. w.op.kind ≡ Load)

-- where a partition is on its rounds after some turns
abbrev pub visit_from : ScenarioPart → Visit Errand → State → List Turn → Visit Errand
visit_from s v st [] = v
visit_from s v st (t ∷ ts) = visit_from s (visit_after s v st t) (after_turn s st t) ts

-- the node has made just these turns
pub record HasMade (n : NodeView) (ts : List Turn) : Type 0 where
  pub runs : Runs n.part ts
  pub visited : Visited n.part ts
  pub state : n.state ≡ state_after n.part (start n.part) ts
  pub visit : n.visit ≡ visit_from n.part (first_visit n.part) (start n.part) ts
  pub entries : n.entries ≡ entries_from n.part (start n.part) ts []
  pub records : (q c : ℕ) → q < n.part.count → c < CHANNELS → records_at n q c
      ≡ records_after n.part ts q c
  pub steps : n.steps ≡ steps_of ts

-- how a node has ended: stopped as planned, halted with the word of a stamp that couldn't be
-- raised, or done
abbrev pub word_read : Option ℕ → ℕ
word_read None = 0
word_read (Some word) = word

abbrev pub done_by : Bool → Option Ended
done_by true = Some endings.Done
done_by false = None

abbrev pub ended_up : Bool → Option ℕ → Life → Option Ended
ended_up done read Halted = Some (endings.Halted (word_read read))
ended_up done read Booting = done_by done
ended_up done read Up = done_by done

abbrev pub ended_by : Bool → Bool → State → Option Ended
ended_by true done st = Some endings.Stopped
ended_by false done st = ended_up done st.boot.read st.life

abbrev pub ended_of : NodeView → Option Ended
ended_of n = ended_by n.state.stopped (is_done n.part n.state) n.state
