use Rattle.std.proofs.Common.{ℕ, ◌<◌, ◌≤◌}
use Rattle.std.specs.List.{count_by}
use Rattle.xp_script.specs.Lawful.{is_minor_of}
use Rattle.xp_lawful.proofs.lawful.is_one_minor_each.Given as goal

abbrev pub invariant-loop-part : goal.invariant-loop-part
invariant-loop-part l = (k : ℕ) → k < l.part → count_by (is_minor_of k) l.minors ≤ 1
