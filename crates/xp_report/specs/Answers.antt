-- The texts of the answers of commands.
use Rattle.std.specs.Prelude.{ℕ, List, codes, Option, Some, None}
use Rattle.std.specs.Fmt.{decimal}
use Rattle.xp_base.specs.declared.answer.RegisterAnswer.{RegisterAnswer}
use Rattle.xp_base.specs.declared.answer.RegisterAnswer.TheVariants as register
use Rattle.xp_base.specs.declared.answer.UnregisterAnswer.{UnregisterAnswer}
use Rattle.xp_base.specs.declared.answer.UnregisterAnswer.TheVariants as unregister
use Rattle.xp_base.specs.declared.answer.SendAnswer.{SendAnswer}
use Rattle.xp_base.specs.declared.answer.SendAnswer.TheVariants as send
use Rattle.xp_base.specs.declared.answer.TakeAnswer.{TakeAnswer}
use Rattle.xp_base.specs.declared.answer.TakeAnswer.TheVariants as take
use Rattle.xp_base.specs.declared.answer.ReleaseAnswer.{ReleaseAnswer}
use Rattle.xp_base.specs.declared.answer.ReleaseAnswer.TheVariants as release
use Rattle.xp_base.specs.declared.answer.DrainAnswer.{DrainAnswer}
use Rattle.xp_base.specs.declared.answer.DrainAnswer.TheVariants as drain
use Rattle.xp_base.specs.declared.reason.Reason.{Reason}
use Rattle.xp_base.specs.Reasons.{reason_text}
use Rattle.xp_base.specs.Show.{◌⧺◌, payload_text}
use Rattle.xp_script.specs.declared.log.OnlineAnswer.{OnlineAnswer}
use Rattle.xp_script.specs.declared.log.OnlineAnswer.TheVariants as online
use Rattle.xp_script.specs.declared.log.LogAnswer.{LogAnswer}
use Rattle.xp_script.specs.declared.log.LogAnswer.TheVariants as answers
use Rattle.xp_report.specs.Device.{transmit_text}

abbrev pub register_text : RegisterAnswer → List ℕ
register_text register.Ok = codes "ok"
register_text register.Already = codes "already"

abbrev pub unregister_text : UnregisterAnswer → List ℕ
unregister_text unregister.Ok = codes "ok"
unregister_text unregister.NotRegistered = codes "not-registered"

abbrev pub online_text : OnlineAnswer → List ℕ
online_text online.Ok = codes "ok"
online_text online.NotOffline = codes "not-offline"

-- the link goes down
unfoldable pub disconnecting_text : Reason → List ℕ
disconnecting_text reason = codes "disconnecting " ⧺ reason_text reason

unfoldable pub send_text : SendAnswer → List ℕ
send_text (send.Ok number) = codes "ok " ⧺ decimal number
send_text (send.TooBig length limit) =
    codes "too-big " ⧺ decimal length ⧺ codes " " ⧺ decimal limit
send_text (send.Disconnecting reason) = disconnecting_text reason
send_text send.NotConnected = codes "not-connected"
send_text (send.NoSlot put get) = codes "no-slot " ⧺ decimal put ⧺ codes " " ⧺ decimal get

-- a message was taken
unfoldable pub taken_text : ℕ → List ℕ → List ℕ
taken_text number body = (codes "ok " ⧺ decimal number ⧺ codes " ") ⧺ payload_text body

unfoldable pub take_text : TakeAnswer → List ℕ
take_text (take.Taken number body) = taken_text number body
take_text (take.Empty put) = codes "empty " ⧺ decimal put
take_text (take.Disconnecting reason) = disconnecting_text reason
take_text take.NotConnected = codes "not-connected"

unfoldable pub release_text : ReleaseAnswer → List ℕ
release_text (release.Ok front) = codes "ok " ⧺ decimal front
release_text release.NotHeld = codes "not-held"
release_text release.NotConnected = codes "not-connected"

unfoldable pub drain_text : DrainAnswer → List ℕ
drain_text drain.Ok = codes "ok"
drain_text (drain.Disconnecting reason) = disconnecting_text reason
drain_text drain.NotConnected = codes "not-connected"

-- the answer of a command; one that tells no more than that it came is `ok`
abbrev pub given_text : LogAnswer → List ℕ
given_text (answers.Register answer) = register_text answer
given_text (answers.Unregister answer) = unregister_text answer
given_text answers.Connected = codes "ok"
given_text (answers.Closed reason) = reason_text reason
given_text (answers.Send answer) = send_text answer
given_text (answers.Take answer) = take_text answer
given_text (answers.Release answer) = release_text answer
given_text (answers.Drain answer) = drain_text answer
given_text (answers.Net answer) = transmit_text answer
given_text answers.Frames = codes "ok"
given_text answers.Deactivate = codes "ok"
given_text answers.Activate = codes "ok"
given_text answers.Leave = codes "ok"
given_text answers.Idle = codes "ok"
given_text answers.Offline = codes "ok"
given_text (answers.Online answer) = online_text answer

-- the text of a command's answer, where the command may wait for it
abbrev pub answer_text : Option LogAnswer → List ℕ
answer_text None = codes "unanswered"
answer_text (Some answer) = given_text answer
