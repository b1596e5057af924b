use Rattle.std.proofs.Common.{◌-◌}
use Rattle.xp_fabric.proofs.Closing.{SomePassesMade}
use Rattle.xp_fabric.proofs.shared.passes_of.Given as goal

abbrev pub invariant-loop-number : goal.invariant-loop-number
invariant-loop-number l = SomePassesMade l.shared.table_id l.seat.table_id l.number (l.count - l.number) l.seat.me l.passes.items
