-- How the counts that are kept stand for those of the definitions.
use Rattle.xp_protocol.specs.State.{Clock}
use Rattle.xp_partition.specs.declared.clock.Clock.TheInside.{Inside}

abbrev pub clock_seen : Inside → Clock
clock_seen x = record { boots = x.boots; turns = x.turns; puts = x.puts; copies = x.copies }
