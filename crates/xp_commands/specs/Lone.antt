-- The forms of commands that name no partition.
use Rattle.std.specs.Prelude.{Bool}
use Rattle.xp_base.specs.declared.frame.TheConstants.{HEADER_BYTES, FRAME_BYTES}
use Rattle.xp_script.specs.declared.limits.TheConstants.{IDLE_LIMIT}
use Rattle.xp_script.specs.declared.command.Command.{Command}
use Rattle.xp_script.specs.declared.command.Command.TheVariants as commands
use Rattle.xp_forms.specs.Forms.{Form, ends, any}
use Rattle.xp_forms.specs.Forms.Slot.{Number}
use Rattle.xp_forms.specs.Forms.Form.{Field, Bytes}

-- `net FRAME`
abbrev pub net_form : Bool → Form Command
net_form keep = Bytes keep HEADER_BYTES FRAME_BYTES λ frame. ends (commands.Net frame)

-- `frames K`
abbrev pub frames_form : Form Command
frames_form = Field any λ k. ends (commands.Frames k)

-- `idle N`
abbrev pub idle_form : Form Command
idle_form = Field (Number 1 IDLE_LIMIT) λ n. ends (commands.Idle n)
