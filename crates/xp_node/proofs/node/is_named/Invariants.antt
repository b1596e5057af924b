use Rattle.std.proofs.Common.{◌≡◌, drop}
use Rattle.xp_protocol.specs.Parts.{is_among}
use Rattle.xp_node.proofs.node.is_named.Given as goal

abbrev pub invariant-loop-fault : goal.invariant-loop-fault
invariant-loop-fault l = is_among l.mark (drop l.fault-index l.fault-items) ≡ is_among l.mark l.fault-items
