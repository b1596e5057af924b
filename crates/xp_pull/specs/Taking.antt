-- A receiving side by itself, as it begins a take and takes the answers of its steps.
use Rattle.std.specs.Prelude.{Bool, if◌then◌else◌, List, [], Option, Some, None, Result, Ok, Err}
use Rattle.xp_base.specs.declared.step.Answer.{Answer}
use Rattle.xp_base.specs.declared.step.Answer.TheVariants.{Word, Failed}
use Rattle.xp_base.specs.declared.answer.TakeAnswer.{TakeAnswer}
use Rattle.xp_base.specs.declared.answer.TakeAnswer.TheVariants.{Disconnecting}
use Rattle.xp_base.specs.declared.reason.Reason.{Reason}
use Rattle.xp_base.specs.declared.reason.Reason.TheVariants.{CopyError}
use Rattle.xp_protocol.specs.declared.refusal.TakeRefusal.{TakeRefusal}
use Rattle.xp_protocol.specs.declared.rule.PullRule.{PullRule}
use Rattle.xp_protocol.specs.Effects.{Effect, PullNote}
use Rattle.xp_protocol.specs.Pulling.{Pulling, SenderCounters, refused_take, take_due, pull_effect, pull_failed}
use Rattle.xp_pull.specs.Planned.{pull_plan, kind_of, taken_side}

-- no step is wanted after the side was stopped
abbrev pub plan_unless : Bool → Pulling → Option PullRule
plan_unless stopped x = if stopped then None else pull_plan x

-- a take in progress is answered where its answer is due
abbrev pub answered : Pulling → Pulling
answered x = taken_side (take_due x) x

-- a take is begun: refused by the state of the link, or answered at once where the next message is
-- cached
abbrev pub in_progress : Bool → Pulling → Pulling
in_progress wait x = record x { take = Some wait; empty = None }

abbrev pub begun_answer : Option TakeRefusal → Bool → Pulling → Option TakeAnswer
begun_answer None wait x = take_due (in_progress wait x)
begun_answer (Some refusal) wait x = Some (refused_take refusal)

abbrev pub begun_side : Option TakeRefusal → Bool → Pulling → Pulling
begun_side None wait x = answered (in_progress wait x)
begun_side (Some refusal) wait x = x

-- the step that comes next is answered
abbrev pub step_fed : SenderCounters → Pulling → PullRule → Answer → Effect Pulling (List PullNote)
step_fed b x m (Word w) = pull_effect b x m w
step_fed b x m Failed =
    record {
      local = pull_failed (kind_of m) x;
      reason = Some (CopyError (kind_of m) 0);
      notes = [];
    }

abbrev pub fed_by : Option PullRule → SenderCounters → Pulling → Answer
    → Effect Pulling (List PullNote)
fed_by None b x a = record { local = x; reason = None; notes = [] }
fed_by (Some m) b x a = step_fed b x m a

-- the side after a step: its take is answered, unless there is a reason to deactivate the partner
abbrev pub fed_side : Option Reason → Pulling → Pulling
fed_side None x = answered x
fed_side (Some reason) x = x

abbrev pub fed_answer : Option Reason → Pulling → Result (Option TakeAnswer) Reason
fed_answer None x = Ok (take_due x)
fed_answer (Some reason) x = Err reason

-- the answer of a take that is given up
abbrev pub stop_answer : Reason → Option Bool → Option TakeAnswer
stop_answer reason None = None
stop_answer reason (Some wait) = Some (Disconnecting reason)
