use Rattle.std.proofs.Common.{◌≡◌, ◌++◌, drop, string_bytes}
use Rattle.xp_print.specs.Text.{scripts_text}
use Rattle.xp_print.proofs.script.write_scripts.Given as goal

abbrev pub invariant-loop-part : goal.invariant-loop-part
invariant-loop-part l =
    string_bytes l.out ++ scripts_text l.part (drop l.part l.scripts)
    ≡ string_bytes l.initial.out ++ scripts_text 0 l.scripts
