-- What becomes of the partners of a partition in one act.
use Rattle.std.specs.Prelude.{◌≡◌, ℕ, ◌+◌, ◌<◌, List, map, length}
use Rattle.xp_base.specs.declared.layout.TheConstants.{CHANNELS}
use Rattle.xp_protocol.specs.Effects.{Note, with_notes}
use Rattle.xp_protocol.specs.State.{Peer}
use Rattle.xp_engage.specs.Partner.{Partner as Standing}
use Rattle.xp_partner.specs.Partner.{peer_seen, channel_of}
use Rattle.xp_partition.specs.Partners.{Partners, partner_at, AllHaveNotes, AllHaveNotesLeft, LeavesUntouched}

-- two standings are of one partner in one boot
pub record IsAlike (x y : Standing) : Type 0 where
  pub own : y.own ≡ x.own
  pub partner : y.partner ≡ x.partner
  pub version : y.version ≡ x.version
  pub wait : y.wait ≡ x.wait
  pub check : y.check ≡ x.check
  pub stamp : y.stamp ≡ x.stamp
  pub masked : y.masked ≡ x.masked
  pub zeroed : y.engage.zeroed ≡ x.engage.zeroed
  pub cleared : y.engage.cleared ≡ x.engage.cleared

-- the partners become `new`: `peers` is known of them, `notes` are noted at their ends, and each
-- end pays `spent` notes at most
pub record Becomes (spent : ℕ) (old : Partners) (peers : List Peer)
    (notes : ℕ → ℕ → List Note) (new : Partners) : Type 0 where
  pub known : map peer_seen new.list ≡ peers
  pub count : length new.list ≡ length old.list
  pub records : (q c : ℕ) → q < length old.list → c < CHANNELS
      → (channel_of (partner_at new.list q) c).records
      ≡ with_notes q c (notes q c) (channel_of (partner_at old.list q) c).records
  pub standing : (q : ℕ) → q < length old.list
      → IsAlike (partner_at old.list q).standing (partner_at new.list q).standing
  pub untouched : LeavesUntouched old new
  pub room : (more : ℕ) → AllHaveNotes (more + spent) old → AllHaveNotes more new
  pub left : (more : ℕ) → AllHaveNotesLeft (more + spent) old → AllHaveNotesLeft more new

-- each partner has its number
abbrev pub AreNumbered : Partners → Type 0
AreNumbered x =
    (q : ℕ) → q < length x.list → (partner_at x.list q).standing.partner ≡ q
