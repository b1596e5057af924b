use Rattle.std.proofs.Common.{◌≡◌, ◌++◌, drop, string_bytes}
use Rattle.xp_print.specs.Lines.{written}
use Rattle.xp_print.specs.Text.{plan_lines}
use Rattle.xp_print.proofs.script.write_plans.Given as goal

-- what is written so far, and what is still to be written
abbrev pub invariant-loop-plan : goal.invariant-loop-plan
invariant-loop-plan l =
    string_bytes l.out ++ written (plan_lines (drop l.plan-index l.plans))
    ≡ string_bytes l.initial.out ++ written (plan_lines l.plans)
