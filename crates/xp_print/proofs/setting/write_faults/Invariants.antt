use Rattle.std.proofs.Common.{◌≡◌, ◌++◌, drop, string_bytes}
use Rattle.xp_print.specs.Lines.{written}
use Rattle.xp_print.specs.Text.{fault_lines}
use Rattle.xp_print.proofs.setting.write_faults.Given as goal

-- what is written so far, and what is still to be written
abbrev pub invariant-loop-fault : goal.invariant-loop-fault
invariant-loop-fault l =
    string_bytes l.out ++ written (fault_lines (drop l.fault-index l.faults))
    ≡ string_bytes l.initial.out ++ written (fault_lines l.faults)
