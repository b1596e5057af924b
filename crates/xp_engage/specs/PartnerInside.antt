-- What is kept for a partner, seen as what is known of it.
use Rattle.std.specs.Prelude.{◌≡◌, ◌<◌, Option, Some, None}
use Rattle.xp_base.specs.declared.layout.TheConstants.{RECORD_WORDS}
use Rattle.xp_protocol.specs.State.{Area, Old, Off, Ready, Leaving, Engage, Reading}
use Rattle.xp_engage.specs.declared.area.AreaState.{AreaState}
use Rattle.xp_engage.specs.declared.area.AreaState.TheVariants as states
use Rattle.xp_engage.specs.declared.area.RecordCopy.{RecordCopy}
use Rattle.xp_engage.specs.declared.partner.PartnerEnd.TheInside.{Inside}
use Rattle.xp_engage.specs.Partner.{Partner}

abbrev pub area_seen : AreaState → Area
area_seen states.Old = Old
area_seen states.Off = Off
area_seen states.Ready = Ready
area_seen states.Leaving = Leaving

abbrev pub going : RecordCopy → Reading
going x = record { done = x.done; after_echo = x.after_echo; magic = x.magic; echo = x.echo }

abbrev pub copy_seen : Option RecordCopy → Option Reading
copy_seen None = None
copy_seen (Some x) = Some (going x)

abbrev pub engage_seen : Inside → Engage
engage_seen x = record {
  area = area_seen x.area.state;
  bit = x.bit.is_in;
  state = x.state;
  reason = x.reason;
  count = x.area.count;
  session_put = x.area.stored.session;
  echo_put = x.area.stored.echo;
  flags_put = x.area.stored.flags;
  places_put = x.area.stored.places;
  args_put = x.area.stored.args;
  counters_put = x.area.stored.counters;
  read = x.exchange.read;
  echo = x.exchange.echo;
  second = x.area.second;
  shown = x.exchange.shown;
  reading = copy_seen x.exchange.copy;
  back_off = x.bit.back_off;
  cleared_at = x.bit.cleared_at;
  told = x.area.told;
  deactivation_cleared = x.area.deactivation_cleared;
  zeroed = x.area.zeroed;
  cleared = x.bit.cleared;
}

abbrev pub partner_seen : Inside → Partner
partner_seen x = record {
  own = x.own;
  partner = x.partner;
  version = x.version;
  wait = x.wait;
  check = x.check;
  stamp = x.stamp;
  masked = x.masked;
  wanted = x.wanted;
  look = x.look;
  both_new = x.both_new;
  flags_seen = x.flags_seen;
  engage = engage_seen x;
  contact = x.contact;
  watch = x.watch;
}

-- a copy of the record that goes on has loaded some words, and not all
pub record IsGoing (x : Inside) : Type 0 where
  pub some : (y : RecordCopy) → x.exchange.copy ≡ Some y → 0 < y.done
  pub few : (y : RecordCopy) → x.exchange.copy ≡ Some y → y.done < RECORD_WORDS
