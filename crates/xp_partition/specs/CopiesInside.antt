-- How the counts of copies that are kept stand for those of the definitions.
use Rattle.xp_protocol.specs.State.{Copies}
use Rattle.xp_partition.specs.declared.copies.CopyCounts.TheInside.{Inside}

abbrev pub copies_seen : Inside → Copies
copies_seen x = record {
  pages = x.pages;
  beats = x.beats;
  records = x.records;
  args = x.args;
  counters = x.counters;
  get = x.get;
  entries = x.entries;
}
