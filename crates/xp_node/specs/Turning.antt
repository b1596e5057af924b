-- A partition between its turns, and the parts of a turn: its beginning, its step, and its end.
use Rattle.std.specs.Prelude.{◌≡◌, ℕ, ◌+◌, ◌^◌, ◌<◌, ◌≤◌, true, false, List, [], ◌∷◌, if◌then◌else◌, nat_eq, Option, Some, None, IsSome}
use Rattle.xp_base.specs.declared.layout.TheConstants.{CHANNELS, LINES}
use Rattle.xp_base.specs.History.{Act, Begun, Marked, Turn}
use Rattle.xp_rounds.specs.Visit.{planned}
use Rattle.xp_script.specs.declared.command.Command.TheVariants.{Idle}
use Rattle.xp_script.specs.declared.log.Entry.{Entry}
use Rattle.xp_script.specs.declared.log.LogAnswer.{LogAnswer}
use Rattle.xp_script.specs.declared.part.ScenarioPart.{ScenarioPart}
use Rattle.xp_protocol.specs.declared.rule.Rule.{Rule}
use Rattle.xp_protocol.specs.Effects.{Note, with_notes}
use Rattle.xp_protocol.specs.State.{State, Up}
use Rattle.xp_protocol.specs.Acts.{current, due, after_acts, MayAct, MayActs}
use Rattle.xp_protocol.specs.Runs.{after_step, after_turn, turn_counted, moment, MayMake, May, acted}
use Rattle.xp_protocol.specs.Logged.{entries_acts, entries_turn, noted_acts, noted_step, noted_turn}
use Rattle.xp_counts.specs.Counted.{AreCounted, IsBounded, calls_in}
use Rattle.xp_counts.specs.Planned.{IsAsPlanned, HasFewPlans}
use Rattle.xp_plan.specs.Plan.{plan_of, first_visit}
use Rattle.xp_sound.specs.Consistent.{IsConsistent}
use Rattle.xp_sound.specs.Told.{AllTold}
use Rattle.xp_windows.specs.Windows.{begins, answers, middle}
use Rattle.xp_windows.specs.Visited.{rule_by, rule_made, visit_after, IsPrompt}
use Rattle.xp_partition.specs.declared.keeping.Keeping.{Keeping}
use Rattle.xp_partition.specs.declared.partition.Partition.{Partition}
use Rattle.xp_partition.specs.declared.life.Life.TheVariants as lives
use Rattle.xp_partition.specs.Keeping.{state_of, records_at, IsKept}
use Rattle.xp_partition.specs.Partition.{IsPartition}
use Rattle.xp_partition.specs.Partners.{AllHaveTurnRoom, AllHaveNotesLeft}
use Rattle.xp_acts.specs.Acts.{Acts}
use Rattle.xp_acts.specs.Noticing.{AreNoticed, AreNoticedButTouched, AreFew}
use Rattle.xp_node.specs.declared.turn.TheConstants.{MOST_TURNS}
use Rattle.xp_node.specs.Journal.{with_entry, with_answer}

-- the command in progress waits for turns to pass, and they have
pub record Idles (s : ScenarioPart) (st : State) : Type 0 where
  pub turns : ℕ
  pub doing : st.script.doing ≡ true
  pub command : current s st ≡ Some (Idle turns)
  pub over : st.script.since + turns ≤ st.clock.turns

-- what holds of what a partition knows between its turns: it is consistent, its counts are bounded
-- by its turns, its boots and commands are those that are planned, no notice is due, no command is
-- in progress while it boots, and no answer is due but that turns have passed
pub record Rests (s : ScenarioPart) (st : State) : Type 0 where
  pub consistent : IsConsistent s st
  pub bounded : IsBounded 2 st
  pub planned : IsAsPlanned s st
  pub told : AllTold s st
  pub up : st.script.doing ≡ true → st.life ≡ Up
  pub due : IsSome (due s st) → Idles s st

pub record IsIdle (x : Partition) : Type 0 where
  pub partition : IsPartition x
  pub few : HasFewPlans x.keeping.part
  pub rests : Rests x.keeping.part (state_of x.keeping)

-- what is noted at each end is recorded there
abbrev pub Records : ScenarioPart → Keeping → Keeping → (ℕ → ℕ → List Note) → Type 0
Records s x y notes =
    (q c : ℕ) → q < s.count → c < CHANNELS
    → records_at y q c ≡ with_notes q c (notes q c) (records_at x q c)

-- a turn may be begun: there is room for it, and it can be counted
pub record CanTurn (x : Partition) : Type 0 where
  pub idle : IsIdle x
  pub turns : x.keeping.clock.turns < MOST_TURNS
  pub room : AllHaveTurnRoom x.keeping.partners

-- the next command is begun, where it can be
abbrev pub begun_acts : Option Entry → List Act
begun_acts None = []
begun_acts (Some entry) = Begun ∷ []

pub record Began (x y : Keeping) (entry : Option Entry) : Type 0 where
  pub acts : Acts x y (begun_acts entry)
  pub entries : (xs : List Entry)
      → entries_acts x.part (state_of x) (begun_acts entry) xs ≡ with_entry entry xs
  pub prompt : MayAct x.part (state_of x) Begun → begins (begun_acts entry) ≡ true

-- a turn can end: what the notices and the answer need
pub record CanEnd (x : Keeping) : Type 0 where
  pub kept : IsKept x
  pub counts : AreCounted (2 ^ 63) (state_of x)
  pub up : (x.life ≡ lives.Up → ⊥) → AreNoticed x
  pub touched : AreNoticedButTouched x
  pub few : AreFew x
  pub room : AllHaveNotesLeft (LINES + 1) x.partners
  pub working : (state_of x).script.doing ≡ true → (state_of x).life ≡ Up

-- the notices that are due are given, and then the answer
pub record Told (x y : Keeping) (answer : Option LogAnswer) : Type 0 where
  pub acts : List Act
  pub done : Acts x y acts
  pub calls : calls_in acts ≤ 1
  pub first : begins acts ≡ false
  pub told : AllTold x.part (state_of y)
  pub none : due x.part (state_of y) ≡ None
  pub prompt : Idles x.part (state_of x) → answers acts ≡ true
  pub entries : (xs : List Entry)
      → entries_acts x.part (state_of x) acts xs ≡ with_answer answer xs
  pub counts : AreCounted (2 ^ 63 + 1) (state_of y)

-- The parts of a turn are said of the partition's part of the scenario and of what it knows before
-- each of them. First the next command is begun, where it can be, and then a rule is planned
pub record Begins (s : ScenarioPart) (st : State) (old new : Partition) (entry : Option Entry)
    (rule : Option Rule) : Type 0 where
  pub may : MayActs s st (begun_acts entry)
  pub state : state_of new.keeping ≡ after_acts s st (begun_acts entry)
  pub records : Records s old.keeping new.keeping (noted_acts s st (begun_acts entry))
  pub entries : (xs : List Entry) → entries_acts s st (begun_acts entry) xs ≡ with_entry entry xs
  pub prompt : MayAct s st Begun → begins (begun_acts entry) ≡ true
  pub follows : rule ≡ (planned (plan_of s) old.planner (state_of new.keeping)).rule
  pub visit : new.planner ≡ (planned (plan_of s) old.planner (state_of new.keeping)).visit
  pub part : new.keeping.part ≡ s
  pub partition : IsPartition new

-- then the turn's step is made, where it makes one, by the rule that was planned
pub record Makes (s : ScenarioPart) (st : State) (old new : Partition) (rule : Option Rule)
    (made : Option Marked) : Type 0 where
  pub may : MayMake s st made
  pub follows : rule_by s st made ≡ rule
  pub state : state_of new.keeping ≡ after_step s st made
  pub records : Records s old.keeping new.keeping (noted_step s st made)
  pub visit : new.planner ≡ old.planner
  pub part : new.keeping.part ≡ s
  pub partition : IsPartition new

-- at last the turn ends: notices and the answer are given, the turn is counted, and what is planned
-- for its moment comes
pub record Ends (s : ScenarioPart) (st : State) (earlier : ℕ) (old new : Partition)
    (answer : Option LogAnswer) : Type 0 where
  pub acts : List Act
  pub calls : calls_in acts ≤ 1
  pub first : begins acts ≡ false
  pub may : MayActs s st acts
  pub told : AllTold s (after_acts s st acts)
  pub none : due s (after_acts s st acts) ≡ None
  pub prompt : Idles s st → answers acts ≡ true
  pub entries : (xs : List Entry) → entries_acts s st acts xs ≡ with_answer answer xs
  pub state : state_of new.keeping ≡ moment s earlier (turn_counted (after_acts s st acts))
  pub records : Records s old.keeping new.keeping (noted_acts s st acts)
  pub visit : new.planner ≡ (if nat_eq new.keeping.clock.boots st.clock.boots
      then old.planner else first_visit s)
  pub part : new.keeping.part ≡ s
  pub partition : IsPartition new

-- the whole turn: its beginning, its step and its end
pub record Turned (s : ScenarioPart) (st : State) (old new : Partition) (entry : Option Entry)
    (made : Option Marked) (answer : Option LogAnswer) : Type 0 where
  pub turn : Turn
  pub step : turn.made ≡ made
  pub may : May s st turn
  pub prompt : IsPrompt s st turn
  pub none : due s (acted s st turn) ≡ None
  pub once : calls_in turn.before + calls_in turn.after ≤ 2
  pub first : begins turn.after ≡ false
  pub follows : rule_made s (middle s st turn) turn
      ≡ (planned (plan_of s) old.planner (middle s st turn)).rule
  pub state : state_of new.keeping ≡ after_turn s st turn
  pub visit : new.planner ≡ visit_after s old.planner st turn
  pub entries : (xs : List Entry)
      → entries_turn s st turn xs ≡ with_answer answer (with_entry entry xs)
  pub records : Records s old.keeping new.keeping (noted_turn s st turn)
  pub part : new.keeping.part ≡ s
  pub idle : IsIdle new
