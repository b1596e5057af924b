use Rattle.std.proofs.Common.{◌≡◌, ◌++◌, drop, string_bytes}
use Rattle.xp_print.specs.Lines.{written}
use Rattle.xp_print.specs.Text.{stop_lines}
use Rattle.xp_print.proofs.setting.write_stops.Given as goal

-- what is written so far, and what is still to be written
abbrev pub invariant-loop-stop : goal.invariant-loop-stop
invariant-loop-stop l =
    string_bytes l.out ++ written (stop_lines (drop l.stop-index l.stops))
    ≡ string_bytes l.initial.out ++ written (stop_lines l.stops)
