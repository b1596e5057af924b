-- The words of commands.
use Rattle.std.specs.Prelude.{ℕ, Bool, if◌then◌else◌, bytes_eq, List, Option, Some, None}
use Rattle.xp_script.specs.declared.log.Verb.{Verb}
use Rattle.xp_script.specs.declared.log.Verb.TheVariants as verbs
use Rattle.xp_script.specs.Commands.{verb_text}

-- whether the word is that of the verb
abbrev pub spells : List ℕ → Verb → Bool
spells word verb = bytes_eq word (verb_text verb)

-- the verb that a word is: first those for one end of a channel
unfoldable pub end_verb_in : List ℕ → Option Verb
end_verb_in word =
    if spells word verbs.Send then Some verbs.Send
    else if spells word verbs.Take then Some verbs.Take
    else if spells word verbs.Release then Some verbs.Release
    else if spells word verbs.Register then Some verbs.Register
    else if spells word verbs.Unregister then Some verbs.Unregister
    else if spells word verbs.Connected then Some verbs.Connected
    else if spells word verbs.Closed then Some verbs.Closed
    else if spells word verbs.Drain then Some verbs.Drain
    else None

abbrev pub other_verb_in : List ℕ → Option Verb
other_verb_in word =
    if spells word verbs.Net then Some verbs.Net
    else if spells word verbs.Frames then Some verbs.Frames
    else if spells word verbs.Deactivate then Some verbs.Deactivate
    else if spells word verbs.Activate then Some verbs.Activate
    else if spells word verbs.Leave then Some verbs.Leave
    else if spells word verbs.Idle then Some verbs.Idle
    else if spells word verbs.Offline then Some verbs.Offline
    else if spells word verbs.Online then Some verbs.Online
    else None

abbrev pub or_else : Option Verb → Option Verb → Option Verb
or_else (Some verb) other = Some verb
or_else None other = other

unfoldable pub verb_in : List ℕ → Option Verb
verb_in word = or_else (end_verb_in word) (other_verb_in word)
