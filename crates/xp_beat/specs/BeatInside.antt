-- How the fields of the own heartbeat stand for it.
use Rattle.xp_protocol.specs.State.{Beats}
use Rattle.xp_beat.specs.declared.beat.Beat.TheInside.{Inside}

abbrev pub beat_seen : Inside → Beats
beat_seen x = record {
  mask = x.mask;
  count = x.count;
  offline = x.offline;
  stored_for = x.stored_for;
}
