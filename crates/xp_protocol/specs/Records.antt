-- What a connection's record says, and how it grows.
use Rattle.std.specs.Prelude.{ℕ, Bool, true, false, List, [], ◌∷◌, ◌++◌, Option, Some, None}
use Rattle.xp_base.specs.declared.reason.Reason.{Reason}
use Rattle.xp_base.specs.declared.session.Session.{Session}
use Rattle.xp_script.specs.declared.part.Link.{Link}

pub record Recorded : Type 0 where
  pub partner : ℕ
  pub channel : ℕ
  pub epoch : ℕ
  pub own : Session
  pub theirs : Session
  pub connected : Bool
  pub accepted : List (List ℕ)
  pub taken : List (List ℕ)
  pub released : List ℕ  -- the numbers whose release was begun
  pub acked : ℕ
  pub asked : List ℕ
  pub delivered : List ℕ
  pub ended : List ℕ
  pub over : Option Reason

abbrev pub first_session : Session
first_session = record { stamp = 1; count = 1 }

-- the record of a link that is connected from the opening
abbrev pub opened_record : Link → Recorded
opened_record l =
    record {
      partner = l.partner;
      channel = l.channel;
      epoch = 0;
      own = first_session;
      theirs = first_session;
      connected = true;
      accepted = [];
      taken = [];
      released = [];
      acked = 0;
      asked = [];
      delivered = [];
      ended = [];
      over = None;
    }

-- a record before its connection is begun, and as it is then: the epoch, the sessions of both ends,
-- and whether it is connected
abbrev pub no_session : Session
no_session = record { stamp = 0; count = 0 }

abbrev pub blank_record : ℕ → ℕ → Recorded
blank_record partner channel =
    record {
      partner = partner;
      channel = channel;
      epoch = 0;
      own = no_session;
      theirs = no_session;
      connected = false;
      accepted = [];
      taken = [];
      released = [];
      acked = 0;
      asked = [];
      delivered = [];
      ended = [];
      over = None;
    }

abbrev pub has_begun : ℕ → Session → Session → Bool → Recorded → Recorded
has_begun epoch own theirs connected r =
    record r { epoch = epoch; own = own; theirs = theirs; connected = connected }

-- a message was accepted, a message was taken, a get was stored, a number was asked for, the
-- delivery of a number was told
abbrev pub has_accepted : List ℕ → Recorded → Recorded
has_accepted body r = record r { accepted = r.accepted ++ body ∷ [] }

abbrev pub has_taken : List ℕ → Recorded → Recorded
has_taken body r = record r { taken = r.taken ++ body ∷ [] }

abbrev pub has_acked : ℕ → Recorded → Recorded
has_acked get r = record r { acked = get }

abbrev pub has_asked : ℕ → Recorded → Recorded
has_asked number r = record r { asked = r.asked ++ number ∷ [] }

abbrev pub has_delivered : ℕ → Recorded → Recorded
has_delivered number r = record r { delivered = r.delivered ++ number ∷ [] }

-- the end of a number's connection is told, and the connection is over for a reason
abbrev pub has_ended : ℕ → Recorded → Recorded
has_ended number r = record r { ended = r.ended ++ number ∷ [] }

abbrev pub has_over : Reason → Recorded → Recorded
has_over reason r = record r { over = Some reason }

abbrev pub has_released : ℕ → Recorded → Recorded
has_released number r = record r { released = r.released ++ number ∷ [] }

abbrev pub has_connected : Recorded → Recorded
has_connected r = record r { connected = true }
