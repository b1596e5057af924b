-- What a word of the partition's own memory that concerns all partners makes of each.
use Rattle.std.specs.Prelude.{◌≡◌, ℕ, ◌<◌, ◌≤◌, length}
use Rattle.xp_protocol.specs.Peering.{is_flagged, peer_read, deactivation_heard}
use Rattle.xp_partner.specs.Partner.{Partner, peer_seen, rooms_of}
use Rattle.xp_partner.specs.Named.{AreNamed}
use Rattle.xp_partner.specs.Making.{after_effect}
use Rattle.xp_partner.specs.Room.{KeepLeft}
use Rattle.xp_partition.specs.Partners.{Partners, partner_at, LeavesUntouched}
use Rattle.xp_steps.specs.declared.telling.OwnWord.{OwnWord}
use Rattle.xp_steps.specs.declared.telling.OwnWord.TheVariants.{Engaged, Deactivated, Mask, Stamp}

abbrev pub told_by : OwnWord → ℕ → Partner → Partner
told_by (Engaged word) q x = after_effect (peer_read word q (peer_seen x)) x
told_by (Deactivated word) q x = after_effect (deactivation_heard word q (peer_seen x)) x
told_by (Mask word) q x =
    record x { standing = record x.standing { masked = is_flagged word q } }
told_by (Stamp stamp) q x = record x { standing = record x.standing { stamp = stamp } }

pub record IsTold (word : OwnWord) (q : ℕ) (x y : Partner) : Type 0 where
  pub names : AreNamed x.standing.own x.standing.partner x.channels
  pub made : y ≡ rooms_of (told_by word q x) y
  pub left : KeepLeft x.channels y.channels

-- the partners below a number were told a word, and the others are as before
pub record AreToldBelow (n : ℕ) (word : OwnWord) (x y : Partners) : Type 0 where
  pub count : length y.list ≡ length x.list
  pub told : (q : ℕ) → q < n → IsTold word q (partner_at x.list q) (partner_at y.list q)
  pub rest : (q : ℕ) → n ≤ q → partner_at y.list q ≡ partner_at x.list q
  pub untouched : LeavesUntouched x y

-- all partners were told a word
pub record AreTold (word : OwnWord) (x y : Partners) : Type 0 where
  pub count : length y.list ≡ length x.list
  pub told : (q : ℕ) → q < length x.list
      → IsTold word q (partner_at x.list q) (partner_at y.list q)
  pub untouched : LeavesUntouched x y
