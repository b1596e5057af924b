use Rattle.std.proofs.Common.{◌≡◌, ◌++◌, drop, string_bytes}
use Rattle.xp_print.specs.Lines.{written}
use Rattle.xp_print.specs.Text.{command_lines}
use Rattle.xp_print.proofs.script.write_commands.Given as goal

-- what is written so far, and what is still to be written
abbrev pub invariant-loop-command : goal.invariant-loop-command
invariant-loop-command l =
    string_bytes l.out ++ written (command_lines (drop l.command-index l.commands))
    ≡ string_bytes l.initial.out ++ written (command_lines l.commands)
