use Rattle.std.proofs.Common.{◌≡◌, ◌++◌, drop, string_bytes}
use Rattle.xp_print.specs.Text.{boots_text}
use Rattle.xp_print.proofs.script.write_boots.Given as goal

abbrev pub invariant-loop-script : goal.invariant-loop-script
invariant-loop-script l =
    string_bytes l.out ++ boots_text l.part (drop l.script-index l.boots)
    ≡ string_bytes l.initial.out ++ boots_text l.part l.boots
