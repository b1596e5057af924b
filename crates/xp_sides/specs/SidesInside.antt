-- How the sides that are there or not stand for what is seen.
use Rattle.std.specs.Prelude.{true, false, Option, Some, None}
use Rattle.xp_protocol.specs.Parts.{IsRequestSize}
use Rattle.xp_protocol.specs.declared.contact.Size.{Size}
use Rattle.xp_sides.specs.declared.sides.There.{There}
use Rattle.xp_sides.specs.declared.sides.Sides.TheInside.{Inside}
use Rattle.std.specs.Global.{Global}
use Rattle.std.specs.declared.boxed.Box.{Box}
use Rattle.xp_ack.specs.Ack.{AllBelow}
use Rattle.xp_sides.specs.Viewed.{SidesView, new_view, Fits}

abbrev pub view_by : Size → Size → Option (Box There Global) → SidesView
view_by own theirs None = new_view own theirs false
view_by own theirs (Some x) = record {
  sides = record {
    send = x.value.send;
    pull = x.value.pull;
    ack = x.value.ack;
    pending_notices = x.value.pending_notices;
    local_get = x.value.local_get;
    releasing = x.value.releasing;
    draining = x.value.draining;
  };
  ready = true;
}

abbrev pub view_of : Inside → SidesView
view_of x = view_by x.own x.theirs x.there

abbrev pub FitsThere : Option (Box There Global) → Type 0
FitsThere None = Unit {0}
FitsThere (Some x) =
    Fits x.value.pull x.value.ack × AllBelow x.value.send.put x.value.pending_notices

pub record IsSound (x : Inside) : Type 0 where
  pub own : IsRequestSize x.own.entries x.own.limit
  pub theirs : IsRequestSize x.theirs.entries x.theirs.limit
  pub fits : FitsThere x.there
