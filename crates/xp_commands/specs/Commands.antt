-- The forms of commands, one for each command word.
use Rattle.std.specs.Prelude.{ℕ, true, false, codes}
use Rattle.xp_base.specs.declared.layout.TheConstants.{LINES}
use Rattle.xp_base.specs.declared.body.TheConstants.{SEND_BYTES}
use Rattle.xp_script.specs.Sizes.{longest_limit}
use Rattle.xp_script.specs.declared.command.Command.{Command}
use Rattle.xp_script.specs.declared.command.Command.TheVariants as commands
use Rattle.xp_script.specs.declared.log.Verb.{Verb}
use Rattle.xp_script.specs.declared.log.Verb.TheVariants as verbs
use Rattle.xp_commands.specs.declared.command.Owner.{Owner}
use Rattle.xp_commands.specs.Lone.{net_form, frames_form, idle_form}
use Rattle.xp_forms.specs.Forms.{Slot, Form, ends, may_end, word, any}
use Rattle.xp_forms.specs.Forms.Slot.{Number, Other, AnyChannel, MessageChannel, Limit}
use Rattle.xp_forms.specs.Forms.Form.{Field, Bytes, Choice}

-- another partition
abbrev pub partner : Owner → Slot
partner own = Other own.count own.part

-- another partition and a channel
abbrev pub end_form : Owner → (ℕ → ℕ → Command) → Form Command
end_form own command = Field (partner own) λ q. Field AnyChannel λ c. ends (command q c)

-- the form of a command, after its word, in a script of partition `own`
abbrev pub command_form : Owner → Verb → Form Command
-- `register Q C entries N limit L`
command_form own verbs.Register =
    Field (partner own) λ q. Field AnyChannel λ c.
    word (codes "entries") (Field (Number 1 LINES) λ n.
    word (codes "limit") (Field (Limit (longest_limit own.minor) n) λ l.
    ends (commands.Register q c n l)))
-- `unregister Q C`, `connected Q C`, `closed Q C`, `drain Q C`
command_form own verbs.Unregister = end_form own commands.Unregister
command_form own verbs.Connected = end_form own commands.Connected
command_form own verbs.Closed = end_form own commands.Closed
command_form own verbs.Drain = end_form own commands.Drain
-- `send Q C PAYLOAD`, with `nowait` and `notify` in this order
command_form own verbs.Send =
    Field (partner own) λ q. Field MessageChannel λ c. Bytes own.keeps 0 SEND_BYTES λ payload.
    Choice (codes "nowait")
    (Choice (codes "notify")
    (ends (commands.Send q c payload false true))
    (may_end (commands.Send q c payload false false)))
    (Choice (codes "notify")
    (ends (commands.Send q c payload true true))
    (may_end (commands.Send q c payload true false)))
-- `take Q C`, `take Q C nowait`
command_form own verbs.Take =
    Field (partner own) λ q. Field MessageChannel λ c.
    Choice (codes "nowait") (ends (commands.Take q c false)) (may_end (commands.Take q c true))
-- `release Q C NUMBER`
command_form own verbs.Release =
    Field (partner own) λ q. Field MessageChannel λ c. Field any λ n. ends (commands.Release q c n)
-- `net FRAME`
command_form own verbs.Net = net_form own.keeps
-- `frames K`
command_form own verbs.Frames = frames_form
-- `deactivate Q`, `activate Q`
command_form own verbs.Deactivate = Field (partner own) λ q. ends (commands.Deactivate q)
command_form own verbs.Activate = Field (partner own) λ q. ends (commands.Activate q)
-- `leave`, `offline`, `online`
command_form own verbs.Leave = ends commands.Leave
command_form own verbs.Offline = ends commands.Offline
command_form own verbs.Online = ends commands.Online
-- `idle N`
command_form own verbs.Idle = idle_form
