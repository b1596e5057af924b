-- How the fields of a sender stand for what it knows, and what always holds of them.
use Rattle.std.specs.Prelude.{◌+◌, ◌^◌, ◌<◌, ◌≤◌, if◌then◌else◌, Some, None}
use Rattle.xp_base.specs.Entries.{entry_words}
use Rattle.xp_protocol.specs.Parts.{IsRequestSize}
use Rattle.xp_protocol.specs.Sending.{Sending}
use Rattle.xp_ring.specs.declared.sender.Sender.TheInside.{Inside}

abbrev pub view_of : Inside → Sending
view_of x = record {
  entries = x.entries;
  limit = x.limit;
  put = x.put;
  remote_get = x.remote_get;
  send = (if x.sending
      then Some (record { payload = x.body; wait = x.wait; notify = x.notify }) else None);
  written_words = x.written_words;
}

pub record IsSound (x : Inside) : Type 0 where
  pub remote_get : x.remote_get ≤ x.put
  pub room : x.put ≤ x.remote_get + x.entries
  pub started : 0 < x.written_words → x.put < x.remote_get + x.entries
  pub within : x.written_words < 2 ^ entry_words x.limit
  pub size : IsRequestSize x.entries x.limit
