-- The step of the receiving side that comes next, as a rule and as it is wanted, and what its other
-- calls give.
use Rattle.std.specs.Prelude.{ℕ, Bool, if◌then◌else◌, nat_lt, length, Option, Some, None, is_some}
use Rattle.xp_base.specs.declared.step.CopyKind.{CopyKind}
use Rattle.xp_base.specs.declared.step.CopyKind.TheVariants.{Counters, Entries}
use Rattle.xp_base.specs.declared.answer.TakeAnswer.{TakeAnswer}
use Rattle.xp_base.specs.declared.answer.TakeAnswer.TheVariants.{Taken, Empty}
use Rattle.xp_protocol.specs.declared.rule.PullRule.{PullRule}
use Rattle.xp_protocol.specs.declared.rule.PullRule.TheVariants.{ReadCounters, ReadEntry}
use Rattle.xp_base.specs.declared.step.Wanted.{Wanted}
use Rattle.xp_protocol.specs.Pulling.{Pulling, SenderCounters, message_taken, pull_row}
use Rattle.xp_protocol.specs.Wanting.{wanted_at}

-- the step that comes next: of a copy that goes on, else of a copy of the counters that is owed,
-- else of the next entry, and else a take in progress loads the counters
abbrev pub pull_plan : Pulling → Option PullRule
pull_plan x =
    if is_some x.counters then Some ReadCounters
    else (if nat_lt 0 (length x.copied) then Some ReadEntry
    else (if x.owed then Some ReadCounters
    else (if nat_lt x.pulled x.pulled_put then Some ReadEntry
    else (if is_some x.take then Some ReadCounters else None))))

-- the next word of an entry may be loaded
abbrev pub has_entry : Pulling → Bool
has_entry x = nat_lt x.pulled x.pulled_put

-- the next message is cached
abbrev pub has_message : Pulling → Bool
has_message x = nat_lt 0 (length x.cache)

-- the sender's counters at the same end
abbrev pub sender_counters : ℕ → ℕ → ℕ → SenderCounters
sender_counters remote_get put front = record { remote_get = remote_get; put = put; front = front }

abbrev pub kind_of : PullRule → CopyKind
kind_of ReadCounters = Counters
kind_of ReadEntry = Entries

-- the side after the answer of a take was given
abbrev pub taken_side : Option TakeAnswer → Pulling → Pulling
taken_side (Some (Taken number body)) x = message_taken x
taken_side (Some (Empty put)) x = record x { take = None; empty = None }
taken_side a x = x

-- a rule's step, its copy being without a number
abbrev pub wanted_for : ℕ → ℕ → ℕ → Pulling → Option PullRule → Option Wanted
wanted_for own partner channel x None = None
wanted_for own partner channel x (Some m) = Some (wanted_at own partner (pull_row own channel x m))
