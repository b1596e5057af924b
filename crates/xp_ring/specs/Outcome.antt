-- What a call of the sending side tells its caller: the answer of the send where it is decided, or
-- the reason to deactivate the partner.
use Rattle.std.specs.Prelude.{List, [], ◌∷◌, Option, Some, None, Result, Ok, Err, IsSome}
use Rattle.xp_base.specs.declared.step.Answer.{Answer}
use Rattle.xp_base.specs.declared.step.Answer.TheVariants.{Word, Failed}
use Rattle.xp_base.specs.declared.step.CopyKind.TheVariants.{Get}
use Rattle.xp_base.specs.declared.step.Wanted.{Wanted}
use Rattle.xp_base.specs.declared.answer.SendAnswer.{SendAnswer}
use Rattle.xp_base.specs.declared.reason.Reason.{Reason}
use Rattle.xp_base.specs.declared.reason.Reason.TheVariants.{CopyError}
use Rattle.xp_protocol.specs.declared.rule.RingRule.{RingRule}
use Rattle.xp_protocol.specs.Effects.{Effect, SendNote, Accepted, Sent}
use Rattle.xp_protocol.specs.Sending.{Sending, ring_effect}
use Rattle.xp_ring.specs.Planned.{send_plan}

-- the answer among what a side notes, and the notes of an answer alone
abbrev pub answer_in : List SendNote → Option SendAnswer
answer_in [] = None
answer_in (Accepted number body asks ∷ more) = answer_in more
answer_in (Sent answer ∷ more) = Some answer

abbrev pub answer_notes : Option SendAnswer → List SendNote
answer_notes None = []
answer_notes (Some answer) = Sent answer ∷ []

abbrev pub reason_or : Option Reason → Option SendAnswer → Result (Option SendAnswer) Reason
reason_or None answer = Ok answer
reason_or (Some reason) answer = Err reason

abbrev pub outcome : Effect Sending (List SendNote) → Result (Option SendAnswer) Reason
outcome f = reason_or f.reason (answer_in f.notes)

abbrev pub answer_of : Result (Option SendAnswer) Reason → Option SendAnswer
answer_of (Ok answer) = answer
answer_of (Err reason) = None

-- the step that comes next is answered; a load that failed changes nothing
abbrev pub step_fed : Sending → RingRule → Answer → Effect Sending (List SendNote)
step_fed x m (Word w) = ring_effect x m w
step_fed x m Failed = record { local = x; reason = Some (CopyError Get 0); notes = [] }

abbrev pub fed_by : Option RingRule → Sending → Answer → Effect Sending (List SendNote)
fed_by None x a = record { local = x; reason = None; notes = [] }
fed_by (Some m) x a = step_fed x m a

abbrev pub send_fed : Sending → Answer → Effect Sending (List SendNote)
send_fed x a = fed_by (send_plan x) x a

-- an answer is of a step that is wanted, and a load alone may fail
abbrev pub MayFeed : Answer → Option Wanted → Type 0
MayFeed (Word w) wanted = IsSome wanted
MayFeed Failed None = ⊥
MayFeed Failed (Some wanted) = IsSome wanted.mark
