-- How the fields of a receiving side stand for what it knows.
use Rattle.xp_pull.specs.declared.receiver.Receiver.TheInside.{Inside}
use Rattle.xp_protocol.specs.Pulling.{Pulling}
use Rattle.xp_pull.specs.Keeping.{IsKept}

abbrev pub view_of : Inside → Pulling
view_of x = record {
  entries = x.entries;
  limit = x.limit;
  pulled_put = x.pulled_put;
  pulled = x.pulled;
  taken = x.taken;
  cache = x.cache;
  counters = x.counters;
  copied = x.copied;
  run = x.run;
  known = x.known;
  owed = x.owed;
  take = x.take;
  empty = x.empty;
}

abbrev pub IsSound : Inside → Type 0
IsSound x = IsKept (view_of x)
