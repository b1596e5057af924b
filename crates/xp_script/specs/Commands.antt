-- The words of commands.
use Rattle.std.specs.Prelude.{ℕ, List, codes}
use Rattle.xp_script.specs.declared.command.Command.{Command}
use Rattle.xp_script.specs.declared.command.Command.TheVariants as commands
use Rattle.xp_script.specs.declared.log.Verb.{Verb}
use Rattle.xp_script.specs.declared.log.Verb.TheVariants as verbs

-- the word of a command
abbrev pub verb_of : Command → Verb
verb_of (commands.Register partner channel entries limit) = verbs.Register
verb_of (commands.Unregister partner channel) = verbs.Unregister
verb_of (commands.Connected partner channel) = verbs.Connected
verb_of (commands.Closed partner channel) = verbs.Closed
verb_of (commands.Send partner channel payload wait notify) = verbs.Send
verb_of (commands.Take partner channel wait) = verbs.Take
verb_of (commands.Release partner channel number) = verbs.Release
verb_of (commands.Drain partner channel) = verbs.Drain
verb_of (commands.Net frame) = verbs.Net
verb_of (commands.Frames count) = verbs.Frames
verb_of (commands.Deactivate partner) = verbs.Deactivate
verb_of (commands.Activate partner) = verbs.Activate
verb_of commands.Leave = verbs.Leave
verb_of (commands.Idle turns) = verbs.Idle
verb_of commands.Offline = verbs.Offline
verb_of commands.Online = verbs.Online

-- how scenarios and reports spell a command
abbrev pub verb_text : Verb → List ℕ
verb_text verbs.Register = codes "register"
verb_text verbs.Unregister = codes "unregister"
verb_text verbs.Connected = codes "connected"
verb_text verbs.Closed = codes "closed"
verb_text verbs.Send = codes "send"
verb_text verbs.Take = codes "take"
verb_text verbs.Release = codes "release"
verb_text verbs.Drain = codes "drain"
verb_text verbs.Net = codes "net"
verb_text verbs.Frames = codes "frames"
verb_text verbs.Deactivate = codes "deactivate"
verb_text verbs.Activate = codes "activate"
verb_text verbs.Leave = codes "leave"
verb_text verbs.Idle = codes "idle"
verb_text verbs.Offline = codes "offline"
verb_text verbs.Online = codes "online"
