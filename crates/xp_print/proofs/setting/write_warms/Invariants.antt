use Rattle.std.proofs.Common.{◌≡◌, ◌++◌, drop, string_bytes}
use Rattle.xp_print.specs.Lines.{written}
use Rattle.xp_print.specs.Text.{warm_lines}
use Rattle.xp_print.proofs.setting.write_warms.Given as goal

-- what is written so far, and what is still to be written
abbrev pub invariant-loop-warm : goal.invariant-loop-warm
invariant-loop-warm l =
    string_bytes l.out ++ written (warm_lines (drop l.warm-index l.warms))
    ≡ string_bytes l.initial.out ++ written (warm_lines l.warms)
