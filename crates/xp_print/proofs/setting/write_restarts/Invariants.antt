use Rattle.std.proofs.Common.{◌≡◌, ◌++◌, drop, string_bytes}
use Rattle.xp_print.specs.Lines.{written}
use Rattle.xp_print.specs.Text.{restart_lines}
use Rattle.xp_print.proofs.setting.write_restarts.Given as goal

-- what is written so far, and what is still to be written
abbrev pub invariant-loop-restart : goal.invariant-loop-restart
invariant-loop-restart l =
    string_bytes l.out ++ written (restart_lines (drop l.restart-index l.restarts))
    ≡ string_bytes l.initial.out ++ written (restart_lines l.restarts)
