-- What opens an end: its sides where the open complete is sent; and an end that is connected from
-- the opening, whose handshake is over and whose record is begun.
use Rattle.std.specs.Prelude.{ℕ, false, List, ◌∷◌, Option, Some, None}
use Rattle.xp_base.specs.declared.session.Session.{Session}
use Rattle.xp_protocol.specs.Records.{Recorded, blank_record, has_begun, has_connected}
use Rattle.xp_base.specs.declared.link.Kind.{Kind}
use Rattle.xp_base.specs.declared.link.Kind.TheVariants.{OpenComplete}
use Rattle.xp_protocol.specs.State.{Size, Contact, End, Sides, new_sides}
use Rattle.xp_protocol.specs.Linking.{sides_agreed}
use Rattle.xp_openclose.specs.Planned.{opened_shake}
use Rattle.xp_channel.specs.Channel.{Channel}

-- the sides after a control flag
abbrev pub sides_sent : Kind → End → Sides
sides_sent OpenComplete e = sides_agreed e.shake e.sides
sides_sent k e = e.sides

abbrev pub contact_of : Session → Session → Contact
contact_of own theirs = record { own = own; theirs = theirs }

abbrev pub record_by : Option Contact → Channel → List Recorded
record_by None x = x.records
record_by (Some m) x =
    has_connected (has_begun 0 m.own m.theirs false (blank_record x.partner x.channel)) ∷ x.records

abbrev pub warm_by : Size → Channel → Channel
warm_by size x = record x {
  end = record x.end {
    registration = Some size;
    epoch = 0;
    shake = opened_shake size x.end.shake;
    sides = new_sides size size;
  };
  records = record_by x.end.shake.meet x;
}

abbrev pub warm_in : ℕ → ℕ → Channel → Channel
warm_in entries limit x = warm_by (record { entries = entries; limit = limit }) x
