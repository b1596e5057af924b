-- The commands to one end, as those of a script, and their answers, as those of the log.
use Rattle.std.specs.Prelude.{ℕ, Option, Some, None}
use Rattle.xp_script.specs.declared.command.Command.{Command}
use Rattle.xp_script.specs.declared.command.Command.TheVariants as commands
use Rattle.xp_script.specs.declared.log.LogAnswer.{LogAnswer}
use Rattle.xp_script.specs.declared.log.LogAnswer.TheVariants as logged
use Rattle.xp_script.specs.declared.log.Verb.{Verb}
use Rattle.xp_script.specs.declared.log.Verb.TheVariants as verbs
use Rattle.xp_channel.specs.declared.commands.LinkCommand.{LinkCommand}
use Rattle.xp_channel.specs.declared.commands.LinkCommand.TheVariants.{Register, Unregister, Connected, Closed, Send, Take, Release, Drain}
use Rattle.xp_channel.specs.declared.commands.LinkAnswer.{LinkAnswer}
use Rattle.xp_channel.specs.declared.commands.LinkAnswer.TheVariants as answers

-- the command of a script that names this end
abbrev pub command_of : ℕ → ℕ → LinkCommand → Command
command_of q c (Register entries limit) = commands.Register q c entries limit
command_of q c Unregister = commands.Unregister q c
command_of q c Connected = commands.Connected q c
command_of q c Closed = commands.Closed q c
command_of q c (Send payload wait notify) = commands.Send q c payload.now wait notify
command_of q c (Take wait) = commands.Take q c wait
command_of q c (Release number) = commands.Release q c number
command_of q c Drain = commands.Drain q c

abbrev pub verb_of_link : LinkCommand → Verb
verb_of_link (Register entries limit) = verbs.Register
verb_of_link Unregister = verbs.Unregister
verb_of_link Connected = verbs.Connected
verb_of_link Closed = verbs.Closed
verb_of_link (Send payload wait notify) = verbs.Send
verb_of_link (Take wait) = verbs.Take
verb_of_link (Release number) = verbs.Release
verb_of_link Drain = verbs.Drain

-- the answer of a command to an end
abbrev pub link_answer_of : LogAnswer → Option LinkAnswer
link_answer_of (logged.Register a) = Some (answers.Register a)
link_answer_of (logged.Unregister a) = Some (answers.Unregister a)
link_answer_of logged.Connected = Some answers.Connected
link_answer_of (logged.Closed reason) = Some (answers.Closed reason)
link_answer_of (logged.Send a) = Some (answers.Send a)
link_answer_of (logged.Take a) = Some (answers.Take a)
link_answer_of (logged.Release a) = Some (answers.Release a)
link_answer_of (logged.Drain a) = Some (answers.Drain a)
link_answer_of a = None

abbrev pub linked : Option LogAnswer → Option LinkAnswer
linked None = None
linked (Some a) = link_answer_of a
