use Rattle.std.proofs.Common.{◌≡◌, take}
use Rattle.std.specs.List.{count_by}
use Rattle.xp_script.specs.Lawful.{is_minor_of}
use Rattle.xp_lawful.proofs.lawful.minor_count.Given as goal

abbrev pub invariant-loop-minor : goal.invariant-loop-minor
invariant-loop-minor l = l.number ≡ count_by (is_minor_of l.part) (take l.minor-index l.minors)
