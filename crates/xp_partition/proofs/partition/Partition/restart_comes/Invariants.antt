use Rattle.std.proofs.Common.{◌≡◌, drop}
use Rattle.std.specs.List.{list_any}
use Rattle.xp_protocol.specs.Parts.{comes_at}
use Rattle.xp_partition.proofs.partition.Partition.restart_comes.Given as goal

abbrev pub invariant-loop-moment : goal.invariant-loop-moment
invariant-loop-moment l =
    list_any (comes_at l.self.keeping.clock.turns l.earlier l.self.keeping.clock.puts) (drop l.moment-index l.moment-items)
    ≡ list_any (comes_at l.self.keeping.clock.turns l.earlier l.self.keeping.clock.puts) l.moment-items
