use Rattle.std.proofs.Common.{◌≡◌, drop}
use Rattle.std.specs.List.{list_any}
use Rattle.xp_script.specs.Lawful.{join_the_same}
use Rattle.xp_lawful.proofs.lawful.is_joined.Given as goal

abbrev pub invariant-loop-other : goal.invariant-loop-other
invariant-loop-other l = list_any (join_the_same l.warm) (drop l.other-index l.warms) ≡ list_any (join_the_same l.warm) l.warms
