use Rattle.std.proofs.Common.{length}
use Rattle.xp_fabric.proofs.Closing.{SomePassesJoined}
use Rattle.xp_fabric.proofs.shared.joined.Given as goal

abbrev pub invariant-loop-pass : goal.invariant-loop-pass
invariant-loop-pass l = SomePassesJoined l.shared.table_id l.seat.table_id l.fn.passes.items l.passes.items l.seat.me

abbrev pub decreases-loop-pass : goal.decreases-loop-pass
decreases-loop-pass l = length l.passes.items
