-- The commands of an end's caller that are in progress, and which of them is answered next.
use Rattle.std.specs.Prelude.{Bool, false, ◌&&◌, if◌then◌else◌, is_some, List, [], ◌∷◌, Option, Some, None}
use Rattle.xp_script.specs.declared.log.LogAnswer.{LogAnswer}
use Rattle.xp_script.specs.declared.log.Verb.{Verb}
use Rattle.xp_script.specs.declared.log.Verb.TheVariants.{Register, Unregister, Connected, Closed, Send, Take, Release, Drain}
use Rattle.xp_protocol.specs.Acts.{due_by}
use Rattle.xp_channel.specs.Channel.{Channel, Waiting, kept}
use Rattle.xp_channel.specs.Answering.{given}

-- a wait for a connection, or for the end of one, is in progress or isn't
abbrev pub waiting_after : Verb → Bool → Waiting → Waiting
waiting_after Connected waits x = record x { connected = waits }
waiting_after Closed waits x = record x { closed = waits }
waiting_after verb waits x = x

abbrev pub waited : Verb → Bool → Channel → Channel
waited verb waits x = record x { waiting = waiting_after verb waits x.waiting }

-- the answer of a command in progress is due
abbrev pub is_answerable : Verb → Channel → Bool
is_answerable Connected x = x.waiting.connected && is_some (due_by Connected x.end)
is_answerable Closed x = x.waiting.closed && is_some (due_by Closed x.end)
is_answerable verb x = is_some (due_by verb x.end)

-- the first command in the order of the list whose answer is due
abbrev pub first_answerable : List Verb → Channel → Option Verb
first_answerable [] x = None
first_answerable (verb ∷ more) x =
    if is_answerable verb x then Some verb else first_answerable more x

abbrev pub first_due : Channel → Option Verb
first_due x =
    first_answerable
    (Register ∷ Unregister ∷ Connected ∷ Closed ∷ Send ∷ Take ∷ Release ∷ Drain ∷ []) x

abbrev pub answer_by : Option Verb → Channel → Option LogAnswer
answer_by None x = None
answer_by (Some verb) x = due_by verb x.end

abbrev pub answered_by : Option Verb → Channel → Channel
answered_by None x = x
answered_by (Some verb) x = waited verb false (kept (given verb x.end) x)
