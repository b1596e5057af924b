-- Where a record prints among those of its partner.
use Rattle.xp_base.specs.Sessions.{session_word}
use Rattle.xp_protocol.specs.Records.{Recorded}
use Rattle.xp_report.specs.declared.order.Place.{Place}

abbrev pub place_of : Recorded → Place
place_of r = record {
  own = session_word r.own;
  theirs = session_word r.theirs;
  channel = r.channel;
  epoch = r.epoch;
}
