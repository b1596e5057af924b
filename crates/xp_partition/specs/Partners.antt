-- The partners of a partition, by number, and the set of those that were touched since room
-- was made at their ends.
use Rattle.std.specs.Prelude.{◌≡◌, ℕ, ◌<◌, false, List, length, slice_index_or, slice_set}
use Rattle.xp_base.specs.declared.layout.TheConstants.{PARTS}
use Rattle.xp_base.specs.Masks.{has}
use Rattle.xp_protocol.specs.State.{Old, cold_engage}
use Rattle.xp_engage.specs.Partner.{new_partner as new_standing, booted_partner as booted_standing}
use Rattle.xp_partner.specs.Partner.{Partner, of_standing, rooms_of}
use Rattle.xp_partner.specs.Booting.{booted}
use Rattle.xp_partner.specs.Room.{HaveTurnRoom, HaveNotes, HaveNotesLeft, AreNoLess}

pub record Partners : Type 0 where
  pub list : List Partner
  pub touched : ℕ

-- a partner of which nothing is known
abbrev pub no_partner : Partner
no_partner = of_standing (new_standing 0 0 0 0 (cold_engage Old) 0 0)

abbrev pub partner_at : List Partner → ℕ → Partner
partner_at xs q = slice_index_or xs q no_partner

-- partner q is replaced
abbrev pub with_partner : ℕ → Partner → Partners → Partners
with_partner q p x = record x { list = slice_set x.list q p }

-- a partner in a boot that has just begun, whose stamp isn't known
abbrev pub booted_anew : Partner → Partner
booted_anew x = record (booted x) { standing = record (booted_standing x.standing) { stamp = 0 } }

-- each partner that wasn't touched has room for a turn
abbrev pub AreRoomy : Partners → Type 0
AreRoomy x =
    (q : ℕ) → q < length x.list → has x.touched q ≡ false → HaveTurnRoom (partner_at x.list q)

-- each partner has room for a turn
abbrev pub AllHaveTurnRoom : Partners → Type 0
AllHaveTurnRoom x = (q : ℕ) → q < length x.list → HaveTurnRoom (partner_at x.list q)

-- each partner has room for so many notes, before the step of a turn and after it
abbrev pub AllHaveNotes : ℕ → Partners → Type 0
AllHaveNotes notes x = (q : ℕ) → q < length x.list → HaveNotes notes (partner_at x.list q)

abbrev pub AllHaveNotesLeft : ℕ → Partners → Type 0
AllHaveNotesLeft notes x =
    (q : ℕ) → q < length x.list → HaveNotesLeft notes (partner_at x.list q)

-- the same partners but for their room, of which there is no less
pub record AreSameButRoom (x y : Partners) : Type 0 where
  pub count : length y.list ≡ length x.list
  pub each : (q : ℕ) → q < length x.list
      → partner_at y.list q ≡ rooms_of (partner_at x.list q) (partner_at y.list q)
  pub room : (q : ℕ) → q < length x.list → AreNoLess (partner_at x.list q) (partner_at y.list q)

-- each partner that isn't touched in `y` is as in `x`, and wasn't touched there
pub record LeavesUntouched (x y : Partners) : Type 0 where
  pub same : (q : ℕ) → q < PARTS → has y.touched q ≡ false
      → partner_at y.list q ≡ partner_at x.list q
  pub still : (q : ℕ) → q < PARTS → has y.touched q ≡ false → has x.touched q ≡ false
