-- How the fields of a node stand for what is seen of it, and what always holds of them.
use Rattle.std.specs.Prelude.{◌≡◌, ◌+◌, ◌<◌, true, false, if◌then◌else◌, Option, Some, None}
use Rattle.xp_base.specs.declared.layout.TheConstants.{LINES}
use Rattle.xp_base.specs.declared.step.Wanted.{Wanted}
use Rattle.xp_protocol.specs.Rules.{wanted_of}
use Rattle.xp_protocol.specs.Runs.{has_ended}
use Rattle.xp_partition.specs.declared.partition.Partition.{Partition}
use Rattle.xp_partition.specs.Keeping.{state_of}
use Rattle.xp_partition.specs.Partners.{AllHaveNotes}
use Rattle.xp_steps.specs.Stepping.{CanStep}
use Rattle.xp_node.specs.declared.node.Node.TheInside.{Inside}
use Rattle.xp_node.specs.declared.turn.Waiting.{Waiting}
use Rattle.xp_node.specs.Books.{books_of}
use Rattle.xp_node.specs.Node.{NodeView}
use Rattle.xp_node.specs.Turning.{IsIdle, CanTurn, Begins}

-- the partition as it is shown: while a step waits, as it was before the turn
abbrev pub shown_by : Option Waiting → Partition → Partition → Partition
shown_by None before now = now
shown_by (Some w) before now = before

abbrev pub shown : Inside → Partition
shown n = shown_by n.waiting n.before.value n.partition

abbrev pub wanted_by : Option Waiting → Option Wanted
wanted_by None = None
wanted_by (Some w) = Some w.wanted

abbrev pub view_of : Inside → NodeView
view_of n = record {
  part = (shown n).keeping.part;
  state = state_of (shown n).keeping;
  visit = (shown n).planner;
  entries = n.journal.entries;
  records = books_of (shown n).keeping;
  steps = n.journal.steps;
  waiting = wanted_by n.waiting;
  room = if n.ready then 1 else 0;
}

-- between two turns: whether it has ended is known, and the room that was made is there
pub record HasRoom (n : Inside) : Type 0 where
  pub turn : CanTurn n.partition
  pub entry : 0 < n.journal.entry_room
  pub step : 0 < n.journal.step_room

pub record Stands (n : Inside) : Type 0 where
  pub idle : IsIdle n.partition
  pub ended : n.ended ≡ has_ended n.partition.keeping.part (state_of n.partition.keeping)
  pub room : n.ready ≡ true → HasRoom n

-- while a step waits: it is the planned one, in the state after the turn's beginning
pub record Waits (n : Inside) (w : Waiting) : Type 0 where
  pub turn : CanTurn n.before.value
  pub running : has_ended n.before.value.keeping.part (state_of n.before.value.keeping) ≡ false
  pub begins : Begins n.before.value.keeping.part (state_of n.before.value.keeping)
      n.before.value n.partition w.entry (Some w.rule)
  pub can : CanStep n.partition.keeping w.rule
  pub wanted : w.wanted
      ≡ wanted_of n.partition.keeping.part (state_of n.partition.keeping) w.rule
  pub earlier : w.earlier ≡ n.before.value.keeping.clock.puts
  pub ended : n.ended ≡ false
  pub ready : n.ready ≡ true
  pub notes : AllHaveNotes (LINES + 2) n.partition.keeping.partners
  pub entry : 0 < n.journal.entry_room
  pub step : 0 < n.journal.step_room

abbrev pub IsNodeBy : Option Waiting → Inside → Type 0
IsNodeBy None n = Stands n
IsNodeBy (Some w) n = Waits n w

abbrev pub IsNode : Inside → Type 0
IsNode n = IsNodeBy n.waiting n
