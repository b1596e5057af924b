-- The commands to an end, their answers, and its notices.
use Rattle.std.specs.Prelude.{ℕ, ◌≤◌, List, length, Option, Some, None}
use Rattle.xp_base.specs.declared.body.TheConstants.{SEND_BYTES}
use Rattle.xp_base.specs.History.{NoticeKind}
use Rattle.xp_script.specs.declared.command.Command.{Command}
use Rattle.xp_script.specs.declared.command.Command.TheVariants.{Send as SendCommand, Register as RegisterCommand}
use Rattle.xp_script.specs.declared.log.LogAnswer.{LogAnswer}
use Rattle.xp_script.specs.declared.log.Verb.{Verb}
use Rattle.xp_protocol.specs.Parts.{IsRequestSize}
use Rattle.xp_protocol.specs.Effects.{Effect, Note, just}
use Rattle.xp_protocol.specs.State.{End}
use Rattle.xp_protocol.specs.Acts.{due_by, answered_by, notice_due, end_noticed}

-- a payload has at most `SEND_BYTES` bytes, and a size is one that may be registered
abbrev pub IsWellFormed : Command → Type 0
IsWellFormed (SendCommand q c payload wait notify) = length payload ≤ SEND_BYTES
IsWellFormed (RegisterCommand q c entries limit) = IsRequestSize entries limit
IsWellFormed x = Unit {0}

-- the answer of a command of a kind is given, where it is due
abbrev pub given_if : Option LogAnswer → Verb → End → Effect End (List Note)
given_if None v e = just e
given_if (Some a) v e = answered_by v e

abbrev pub given : Verb → End → Effect End (List Note)
given v e = given_if (due_by v e) v e

-- a notice is given, where it is due
abbrev pub noticed_if : Option ℕ → NoticeKind → End → Effect End (List Note)
noticed_if None how e = just e
noticed_if (Some number) how e = end_noticed how number e

abbrev pub noticed : NoticeKind → End → Effect End (List Note)
noticed how e = noticed_if (notice_due how e) how e
