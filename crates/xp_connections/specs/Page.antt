-- A record with its room, and the records of an end's connections with theirs.
use Rattle.std.specs.Prelude.{ℕ, Bool, List}
use Rattle.xp_base.specs.declared.reason.Reason.{Reason}
use Rattle.xp_protocol.specs.Records.{Recorded}

-- what a record says, for how many notes its lists have room, and for how many numbers of which the
-- end of the connection is told
pub record Page : Type 0 where
  pub said : Recorded
  pub calls : ℕ
  pub ends : ℕ

abbrev pub said_of : Page → Recorded
said_of x = x.said

-- the records of an end, the newest first, and why connections of this boot ended; whether the
-- newest connection was begun and isn't over, the room of its record, and for how many more
-- connections there is a place
pub record Pages : Type 0 where
  pub partner : ℕ
  pub channel : ℕ
  pub said : List Recorded
  pub closed : List Reason
  pub ongoing : Bool
  pub calls : ℕ
  pub ends : ℕ
  pub next : ℕ
