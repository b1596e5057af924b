-- What the lines of a text say, one after the other.
use Rattle.std.specs.Prelude.{ℕ, ◌+◌, min, if◌then◌else◌, nat_lt, nat_le, List, [], ◌∷◌, ◌++◌, replicate, codes, bytes_eq, Option, Some, None, Result, Ok, Err}
use Rattle.xp_base.specs.declared.layout.TheConstants.{PARTS}
use Rattle.xp_script.specs.declared.limits.TheConstants.{FEWEST_PARTS, COMMAND_LIMIT, PAYLOAD_BYTES_LIMIT}
use Rattle.xp_script.specs.declared.command.Command.{Command}
use Rattle.xp_script.specs.declared.setting.Setting.{Setting}
use Rattle.xp_script.specs.declared.schedule.Plan.{Plan}
use Rattle.xp_script.specs.Settings.{minor_of}
use Rattle.xp_script.specs.Totals.{command_bytes}
use Rattle.xp_text.specs.Lines.{Word, Line}
use Rattle.xp_forms.specs.declared.fault.LineCause.TheVariants as causes
use Rattle.xp_forms.specs.declared.fault.WordFault.{WordFault}
use Rattle.xp_forms.specs.Forms.{◌>>=◌, Form, bad, next_word, reads, ends}
use Rattle.xp_forms.specs.Forms.Slot.{Number, Part}
use Rattle.xp_forms.specs.Forms.Form.{Never, Field, Choice}
use Rattle.xp_commands.specs.declared.command.Owner.{Owner}
use Rattle.xp_commands.specs.Commands.{command_form}
use Rattle.xp_settings.specs.Settings.{no_settings, with_setting, setting_form, misplaced}
use Rattle.xp_scenario.specs.declared.head.Head.{Head}
use Rattle.xp_scenario.specs.declared.head.Head.TheVariants as heads
use Rattle.xp_scenario.specs.declared.draft.Draft.{Draft}
use Rattle.xp_scenario.specs.declared.draft.Section.{Section}
use Rattle.xp_scenario.specs.declared.draft.Section.TheVariants as sections
use Rattle.xp_scenario.specs.Heads.{head_in}
use Rattle.xp_scenario.specs.Plans.{plan_form}
use Rattle.xp_scenario.specs.Scripts.{script_begun, command_added}

-- before the first line
abbrev pub fresh : Draft
fresh = record {
  section = sections.Opening;
  count = FEWEST_PARTS;
  settings = no_settings;
  own = 0;
  scripts = [];
  commands = 0;
  payload_bytes = 0;
  plans = [];
}

-- after the header
abbrev pub opened : Draft → Draft
opened d = record d { section = sections.Counting }

-- after the line that says how many partitions there are
abbrev pub counted : ℕ → Draft → Draft
counted n d = record d { section = sections.Settings; count = n; scripts = replicate n [] }

abbrev pub with_one_setting : Setting → Draft → Draft
with_one_setting s d = record d { settings = with_setting s d.settings }

abbrev pub with_script : ℕ → Draft → Draft
with_script p d =
    record d { section = sections.Scripts; own = p; scripts = script_begun p d.scripts }

-- the partition whose script it is; payloads are kept until their bytes pass the limit
abbrev pub owner_of : Draft → Owner
owner_of d = record {
  count = d.count;
  part = d.own;
  minor = minor_of d.own d.settings.minors;
  keeps = nat_le d.payload_bytes PAYLOAD_BYTES_LIMIT;
}

-- one command more; commands are kept until their number passes the limit
abbrev pub with_command : Command → Draft → Draft
with_command c d =
    if nat_lt COMMAND_LIMIT d.commands then d
    else record d {
      scripts = command_added d.own c d.scripts;
      commands = d.commands + 1;
      payload_bytes = min (d.payload_bytes + command_bytes c) (PAYLOAD_BYTES_LIMIT + 1);
    }

-- after the line `schedule`
abbrev pub scheduled : Draft → Draft
scheduled d = record d { section = sections.Schedule }

abbrev pub with_plan : Plan → Draft → Draft
with_plan p d = record d { plans = d.plans ++ p ∷ [] }

-- ---- one line

-- the forms of the lines between sections, after their first words
abbrev pub header_form : Draft → Form Draft
header_form d = Choice (codes "1") (ends (opened d)) (Never causes.Header)

abbrev pub count_form : Draft → Form Draft
count_form d = Field (Number FEWEST_PARTS PARTS) λ n. ends (counted n d)

abbrev pub script_form : Draft → Form Draft
script_form d = Field (Part d.count) λ p. ends (with_script p d)

abbrev pub schedule_form : Draft → Form Draft
schedule_form d = ends (scheduled d)

-- the draft with what a line says
abbrev pub said : {A : Type 0}
    → (A → Draft → Draft) → Draft → Result A WordFault → Result Draft WordFault
said add d (Ok x) = Ok (add x d)
said add d (Err e) = Err e

-- which first words may stand in which section
abbrev pub in_section : Section → Head → Draft → Line → Result Draft WordFault
in_section sections.Counting heads.Partitions d line = reads (count_form d) line
in_section sections.Settings (heads.Setting w) d line =
    said with_one_setting d (reads (setting_form d.count d.settings w) line)
in_section sections.Settings heads.Script d line = reads (script_form d) line
in_section sections.Settings heads.Schedule d line = reads (schedule_form d) line
in_section sections.Scripts heads.Script d line = reads (script_form d) line
in_section sections.Scripts (heads.Command v) d line =
    said with_command d (reads (command_form (owner_of d) v) line)
in_section sections.Scripts heads.Schedule d line = reads (schedule_form d) line
in_section sections.Schedule (heads.Plan w) d line =
    said with_plan d (reads (plan_form d.count w) line)
in_section sections.Scripts (heads.Setting w) d line = bad line.last (misplaced w d.settings)
in_section sections.Schedule (heads.Setting w) d line = bad line.last (misplaced w d.settings)
in_section _ _ d line = bad line.last causes.Order

abbrev pub by_head : Option Head → Draft → Line → Result Draft WordFault
by_head None d line = bad line.last causes.Word
by_head (Some head) d line = in_section d.section head d line

-- after a line's first word; the first line with words is the header
abbrev pub after_head : Section → List ℕ → Draft → Line → Result Draft WordFault
after_head sections.Opening w d line =
    if bytes_eq w (codes "xpsim") then reads (header_form d) line else bad line.last causes.Header
after_head _ w d line = by_head (head_in w) d line

abbrev pub words_say : List Word → Draft → Line → Result Draft WordFault
words_say [] d line = Ok d
words_say (w ∷ ws) d line = next_word line >>= λ x. after_head d.section x.0 d x.1

-- what a line says, where it has words
unfoldable pub line_says : Draft → Line → Result Draft WordFault
line_says d line = words_say line.words d line
