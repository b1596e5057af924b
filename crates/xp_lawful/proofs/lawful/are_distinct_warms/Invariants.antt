use Rattle.std.proofs.Common.{◌↔◌, drop}
use Rattle.xp_script.specs.Lawful.{AreDistinctWarms}
use Rattle.xp_lawful.proofs.lawful.are_distinct_warms.Given as goal

abbrev pub invariant-loop-place : goal.invariant-loop-place
invariant-loop-place l = AreDistinctWarms (drop l.place l.warms) ↔ AreDistinctWarms l.warms
