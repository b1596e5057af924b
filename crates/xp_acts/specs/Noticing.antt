-- Which notices are due at the ends, and what notices that are given leave.
use Rattle.std.specs.Prelude.{◌≡◌, ℕ, ◌+◌, ◌<◌, ◌≤◌, true, false, length, None}
use Rattle.xp_base.specs.declared.layout.TheConstants.{PARTS, CHANNELS, LINES}
use Rattle.xp_base.specs.Masks.{has}
use Rattle.xp_base.specs.History.{NoticeKind}
use Rattle.xp_protocol.specs.State.{end_of}
use Rattle.xp_protocol.specs.Acts.{notice_due}
use Rattle.xp_channel.specs.Channel.{Channel}
use Rattle.xp_partner.specs.Partner.{channel_of}
use Rattle.xp_partner.specs.Room.{HasNotesLeft}
use Rattle.xp_partition.specs.declared.keeping.Keeping.{Keeping}
use Rattle.xp_partition.specs.declared.life.Life.TheVariants.{Up}
use Rattle.xp_partition.specs.Keeping.{state_of, IsKept}
use Rattle.xp_partition.specs.Partners.{partner_at}
use Rattle.xp_acts.specs.Acts.{Gives}

abbrev pub channel_in : Keeping → ℕ → ℕ → Channel
channel_in x q c = channel_of (partner_at x.partners.list q) c

-- how many numbers wait for the notice of their delivery at an end, and how many for that of its
-- connection's end
abbrev pub waiting_at : Keeping → ℕ → ℕ → ℕ
waiting_at x q c = length (channel_in x q c).end.sides.pending_notices

abbrev pub ended_at : Keeping → ℕ → ℕ → ℕ
ended_at x q c = length (channel_in x q c).end.ended

-- no notice is due at any end
abbrev pub AreNoticed : Keeping → Type 0
AreNoticed x =
    (q c : ℕ) (how : NoticeKind) → q < x.part.count → c < CHANNELS →
    notice_due how (end_of (state_of x) q c) ≡ None

-- no notice is due at any end of a partner that wasn't touched
abbrev pub AreNoticedButTouched : Keeping → Type 0
AreNoticedButTouched x =
    (q c : ℕ) (how : NoticeKind) → q < x.part.count → c < CHANNELS →
    has x.partners.touched q ≡ false → notice_due how (end_of (state_of x) q c) ≡ None

-- no notice is due at any end of partner q
abbrev pub IsNoticedAt : ℕ → Keeping → Type 0
IsNoticedAt q x =
    (c : ℕ) (how : NoticeKind) → c < CHANNELS → notice_due how (channel_in x q c).end ≡ None

-- no more numbers wait for their notice at an end than a queue has lines
abbrev pub AreFew : Keeping → Type 0
AreFew x =
    (q c : ℕ) → q < x.part.count → c < CHANNELS →
    length (end_of (state_of x) q c).sides.pending_notices ≤ LINES

-- notices were given: they pay for the numbers that don't wait any more, leave all partners but
-- those that were touched, and make no other notice due
pub record Notices (old new : Keeping) : Type 0 where
  pub gives : Gives old new
  pub life : new.life ≡ old.life
  pub touched : new.partners.touched ≡ old.partners.touched
  pub untouched : (q : ℕ) → q < PARTS → has old.partners.touched q ≡ false
      → partner_at new.partners.list q ≡ partner_at old.partners.list q
  pub stays : (q c : ℕ) (how : NoticeKind) → notice_due how (channel_in old q c).end ≡ None
      → notice_due how (channel_in new q c).end ≡ None
  pub room : (q c more : ℕ) → c < CHANNELS
      → HasNotesLeft (more + waiting_at old q c) (channel_in old q c)
      → HasNotesLeft (more + waiting_at new q c) (channel_in new q c)

-- notices can be given: there is room for those of all numbers that wait, and for one note more
pub record CanNotice (x : Keeping) : Type 0 where
  pub kept : IsKept x
  pub up : x.life ≡ Up
  pub room : (q c : ℕ) → q < x.part.count → c < CHANNELS
      → HasNotesLeft (1 + waiting_at x q c) (channel_in x q c)

-- at the ends of a partner that was touched
pub record CanNoticeAt (q : ℕ) (x : Keeping) : Type 0 where
  pub can : CanNotice x
  pub number : q < x.part.count
  pub touched : has x.partners.touched q ≡ true
