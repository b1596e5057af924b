use Rattle.std.proofs.Common.{ℕ, ◌<◌, ◌≤◌}
use Rattle.std.specs.List.{count_by}
use Rattle.xp_script.specs.Lawful.{is_stop_of}
use Rattle.xp_lawful.proofs.lawful.is_one_stop_each.Given as goal

abbrev pub invariant-loop-part : goal.invariant-loop-part
invariant-loop-part l = (k : ℕ) → k < l.part → count_by (is_stop_of k) l.stops ≤ 1
