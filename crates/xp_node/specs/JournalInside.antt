-- How the lists of a journal stand for what is seen of it.
use Rattle.std.specs.Prelude.{◌-◌, vec_len, vec_capacity}
use Rattle.xp_node.specs.declared.journal.Journal.TheInside.{Inside}
use Rattle.xp_node.specs.Journal.{Journal}

abbrev pub view_of : Inside → Journal
view_of x = record {
  entries = x.log.items;
  steps = x.trace.items;
  entry_room = vec_capacity x.log - vec_len x.log;
  step_room = vec_capacity x.trace - vec_len x.trace;
}
