-- The room that a turn's calls need at the ends of a partner, and what they leave of it. A turn
-- begins commands, makes a step, and gives answers and notices; each of these calls makes one note
-- at most.
use Rattle.std.specs.Prelude.{◌≡◌, ℕ, ◌<◌, ◌≤◌, true, IsSome, List}
use Rattle.xp_base.specs.declared.layout.TheConstants.{CHANNELS, LINES}
use Rattle.xp_channel.specs.Channel.{Channel}
use Rattle.xp_channel.specs.Room.{HasTurnRoom, IsNoLess, needs_sides}
use Rattle.xp_partner.specs.Partner.{Partner, channel_at, channel_of}

-- an end has room before the step of a turn: for so many notes, the step's among them
pub record HasNotes (notes : ℕ) (x : Channel) : Type 0 where
  pub ready : needs_sides x.end ≡ true → x.room.ready ≡ true
  pub calls : needs_sides x.end ≡ true → notes ≤ x.room.calls
  pub ends : needs_sides x.end ≡ true → LINES ≤ x.room.ends
  pub next : IsSome x.end.shake.meet → 2 ≤ x.room.next

-- an end has room after the step of a turn, for so many notes
pub record HasNotesLeft (notes : ℕ) (x : Channel) : Type 0 where
  pub ready : x.end.shake.sent.open_complete ≡ true → x.room.ready ≡ true
  pub calls : x.end.shake.sent.open_complete ≡ true → notes ≤ x.room.calls
  pub ends : x.end.shake.sent.open_complete ≡ true → LINES ≤ x.room.ends

-- each end of a partner has the room
abbrev pub HaveTurnRoom : Partner → Type 0
HaveTurnRoom x = (c : ℕ) → c < CHANNELS → HasTurnRoom (channel_of x c)

abbrev pub HaveNotes : ℕ → Partner → Type 0
HaveNotes notes x = (c : ℕ) → c < CHANNELS → HasNotes notes (channel_of x c)

abbrev pub HaveNotesLeft : ℕ → Partner → Type 0
HaveNotesLeft notes x = (c : ℕ) → c < CHANNELS → HasNotesLeft notes (channel_of x c)

-- a call that spends no note after the step of a turn
abbrev pub KeepLeft : List Channel → List Channel → Type 0
KeepLeft xs ys =
    (notes c : ℕ) → c < CHANNELS → HasNotesLeft notes (channel_at xs c)
    → HasNotesLeft notes (channel_at ys c)

-- room that was made is kept
abbrev pub AreNoLess : Partner → Partner → Type 0
AreNoLess x y = (c : ℕ) → c < CHANNELS → IsNoLess (channel_of x c).room (channel_of y c).room
