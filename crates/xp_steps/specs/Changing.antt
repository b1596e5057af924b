-- What becomes of one of the partners, or of all, and which of them were touched for it.
use Rattle.std.specs.Prelude.{◌≡◌, ℕ, ◌+◌, slice_set, Option}
use Rattle.xp_base.specs.declared.step.Answer.{Answer}
use Rattle.xp_base.specs.declared.step.CopyMark.{CopyMark}
use Rattle.xp_protocol.specs.declared.rule.LinkRule.{LinkRule}
use Rattle.xp_protocol.specs.declared.rule.PeerRule.{PeerRule}
use Rattle.xp_protocol.specs.declared.rule.PeerRule.TheVariants.{TakeFlags}
use Rattle.xp_protocol.specs.Linking.{link_can, link_row}
use Rattle.xp_protocol.specs.Wanting.{mark_with}
use Rattle.xp_engage.specs.Partner.{unmarked, IsStorable}
use Rattle.xp_channel.specs.Channel.{kept, roomed}
use Rattle.xp_channel.specs.Planned.{answered, MayFail, MayStep}
use Rattle.xp_channel.specs.Room.{IsCountable}
use Rattle.xp_partner.specs.Partner.{Partner, channel_of, rooms_of}
use Rattle.xp_partner.specs.Named.{AreNamed}
use Rattle.xp_partner.specs.Room.{HasNotes, HaveNotes, HaveNotesLeft, KeepLeft}
use Rattle.xp_partner.specs.Stepping.{link_stepped}
use Rattle.xp_partner.specs.Making.{peer_made, MayTakeFlags}
use Rattle.xp_partition.specs.Partners.{Partners, partner_at, LeavesUntouched}

-- no other partner is changed, and none was touched that counts as untouched then
pub record ChangesOne (q : ℕ) (x y : Partners) : Type 0 where
  pub list : y.list ≡ slice_set x.list q (partner_at y.list q)
  pub untouched : LeavesUntouched x y

-- what the step of a rule at one end of a partner asks
pub record MayLink (c : ℕ) (m : LinkRule) (mark : Option CopyMark) (a : Answer) (x : Partner) :
    Type 0 where
  pub can : link_can (channel_of x c).end m
  pub marked : unmarked mark
      ≡ mark_with 0 (link_row x.standing.own x.standing.partner c (channel_of x c).end m).copy
  pub load : MayFail mark a
  pub counts : IsCountable (channel_of x c).end
  pub room : HasNotes 1 (channel_of x c)
  pub asks : MayStep (channel_of x c).end m

-- what becomes of the partner by the step of a rule at one of its ends
pub record IsLinkStepped (c : ℕ) (m : LinkRule) (mark : Option CopyMark) (a : Answer)
    (x y : Partner) : Type 0 where
  pub names : AreNamed x.standing.own x.standing.partner x.channels
  pub whole : y ≡ link_stepped c mark m a (channel_of y c) x
  pub end : channel_of y c
      ≡ roomed (kept (answered (channel_of x c) m a) (channel_of x c)) (channel_of y c)
  pub left : (notes : ℕ) → HaveNotes (notes + 1) x → HaveNotesLeft notes y

-- what the step of a rule for a partner asks, and what becomes of the partner by it
pub record MayFollow (m : PeerRule) (x : Partner) : Type 0 where
  pub storable : IsStorable x.standing m
  pub flags : m ≡ TakeFlags → MayTakeFlags x

pub record IsPeerStepped (turn : ℕ) (m : PeerRule) (mark : Option CopyMark) (a : Answer)
    (x y : Partner) : Type 0 where
  pub names : AreNamed x.standing.own x.standing.partner x.channels
  pub made : y ≡ rooms_of (peer_made turn mark m a x) y
  pub left : KeepLeft x.channels y.channels
