use Rattle.std.proofs.Common.{◌≡◌, ◌++◌, drop, string_bytes}
use Rattle.xp_print.specs.Lines.{written}
use Rattle.xp_print.specs.Text.{minor_lines}
use Rattle.xp_print.proofs.setting.write_minors.Given as goal

-- what is written so far, and what is still to be written
abbrev pub invariant-loop-minor : goal.invariant-loop-minor
invariant-loop-minor l =
    string_bytes l.out ++ written (minor_lines (drop l.minor-index l.minors))
    ≡ string_bytes l.initial.out ++ written (minor_lines l.minors)
