use Rattle.std.proofs.Common.{◌≡◌, ◌++◌, drop}
use Rattle.std.specs.List.{filter}
use Rattle.xp_script.specs.Parts.{is_minor_for}
use Rattle.xp_script.proofs.setting.Minors.lines_for.Given as goal

abbrev pub invariant-loop-minor : goal.invariant-loop-minor
invariant-loop-minor l = l.list.items ++ filter (is_minor_for l.part l.links) (drop l.minor-index l.minor-items) ≡ filter (is_minor_for l.part l.links) l.minor-items
