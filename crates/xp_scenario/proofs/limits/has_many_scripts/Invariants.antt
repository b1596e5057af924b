use Rattle.std.proofs.Common.{◌≡◌, drop}
use Rattle.std.specs.List.{list_any}
use Rattle.xp_scenario.specs.Limits.{is_many}
use Rattle.xp_scenario.proofs.limits.has_many_scripts.Given as goal

abbrev pub invariant-loop-boots : goal.invariant-loop-boots
invariant-loop-boots l = list_any is_many (drop l.boots-index l.scripts) ≡ list_any is_many l.scripts
