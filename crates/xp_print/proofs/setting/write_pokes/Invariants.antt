use Rattle.std.proofs.Common.{◌≡◌, ◌++◌, drop, string_bytes}
use Rattle.xp_print.specs.Lines.{written}
use Rattle.xp_print.specs.Text.{poke_lines}
use Rattle.xp_print.proofs.setting.write_pokes.Given as goal

-- what is written so far, and what is still to be written
abbrev pub invariant-loop-poke : goal.invariant-loop-poke
invariant-loop-poke l =
    string_bytes l.out ++ written (poke_lines (drop l.poke-index l.pokes))
    ≡ string_bytes l.initial.out ++ written (poke_lines l.pokes)
