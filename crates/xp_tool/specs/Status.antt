-- The number of each status, and its line on standard error.
use Rattle.std.specs.Prelude.{ℕ, List, [], codes}
use Rattle.std.specs.Fmt.{decimal}
use Rattle.xp_base.specs.Show.{◌⧺◌}
use Rattle.xp_forms.specs.Causes.{cause_text}
use Rattle.xp_page.specs.Causes.{cause_text as page_cause_text}
use Rattle.xp_scenario.specs.Faults.{what_text}
use Rattle.xp_tool.specs.declared.status.InputFault.{InputFault}
use Rattle.xp_tool.specs.declared.status.InputFault.TheVariants.{BadLine, TooMany, Unbuilt, Page, Trailing}
use Rattle.xp_tool.specs.declared.status.Status.{Status}
use Rattle.xp_tool.specs.declared.status.Status.TheVariants.{Ok, Usage, ReadFault, WriteFault, BadInput, TooLong, NoMemory}

abbrev pub code_of : Status → ℕ
code_of Ok = 0
code_of Usage = 2
code_of ReadFault = 3
code_of WriteFault = 4
code_of (BadInput fault) = 5
code_of (TooLong limit) = 6
code_of NoMemory = 7

unfoldable pub input_line_of : InputFault → List ℕ
input_line_of (BadLine line column cause) =
    codes "xpsim: line " ⧺ decimal line ⧺ codes " column " ⧺ decimal column ⧺ codes ": "
    ⧺ cause_text cause
input_line_of (TooMany what limit) =
    codes "xpsim: too many " ⧺ what_text what ⧺ codes ", limit " ⧺ decimal limit
input_line_of Unbuilt = codes "xpsim: not built"
input_line_of (Page fault) =
    codes "xpsim: offset " ⧺ decimal fault.offset ⧺ codes ": " ⧺ page_cause_text fault.cause
input_line_of (Trailing offset) =
    codes "xpsim: offset " ⧺ decimal offset ⧺ codes ": trailing"

abbrev pub line_of : Status → List ℕ
line_of Ok = []
line_of Usage = codes "xpsim: usage: replay, run, dump, decode, gen N, big N"
line_of ReadFault = codes "xpsim: read failed"
line_of WriteFault = codes "xpsim: write failed"
line_of (BadInput fault) = input_line_of fault
line_of (TooLong limit) = codes "xpsim: input longer than " ⧺ decimal limit ⧺ codes " bytes"
line_of NoMemory = codes "xpsim: no memory"
