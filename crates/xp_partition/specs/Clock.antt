-- What a partition counts, before its first turn.
use Rattle.xp_protocol.specs.State.{Clock, Copies}

abbrev pub no_copies : Copies
no_copies = record {
  pages = 0;
  beats = 0;
  records = 0;
  args = 0;
  counters = 0;
  get = 0;
  entries = 0;
}

abbrev pub first_clock : Clock
first_clock = record { boots = 1; turns = 0; puts = 0; copies = no_copies }
