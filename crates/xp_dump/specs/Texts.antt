-- The text of a fault: its offset and its cause.
use Rattle.std.specs.Prelude.{ℕ, List, codes}
use Rattle.std.specs.Fmt.{decimal}
use Rattle.xp_base.specs.Show.{◌⧺◌}
use Rattle.xp_page.specs.Causes.{cause_text}
use Rattle.xp_dump.specs.declared.fault.DumpFault.{DumpFault}
use Rattle.xp_dump.specs.declared.fault.DumpFault.TheVariants.{Page, Trailing, Memory}

abbrev pub fault_text : DumpFault → List ℕ
fault_text (Page fault) = codes "offset " ⧺ decimal fault.offset ⧺ codes ": "
    ⧺ cause_text fault.cause
fault_text (Trailing offset) = codes "offset " ⧺ decimal offset ⧺ codes ": trailing"
fault_text Memory = codes "no memory"
