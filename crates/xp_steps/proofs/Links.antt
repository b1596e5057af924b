-- A step for a partner, and a word of the own memory, leave it its four ends.
use Rattle.std.proofs.Common.{◌≡◌, ℕ, Bool, true, false, [], ◌∷◌, ◌++◌, length, eqb, refl, ◌∙◌, Option, Some, None}
use Rattle.std.specs.Prelude.{is_some, ◌&&◌, not}
use Rattle.std.proofs.lemmas.Bool.{cond_both}
use Rattle.xp_base.specs.declared.reason.Reason.{Reason}
use Rattle.xp_base.specs.declared.reason.Reason.TheVariants.{OtherGoingDown}
use Rattle.xp_base.specs.declared.step.Answer.{Answer}
use Rattle.xp_base.specs.declared.step.Answer.TheVariants.{Word, Failed}
use Rattle.xp_base.specs.declared.step.CopyMark.{CopyMark}
use Rattle.xp_protocol.specs.declared.rule.PeerRule.{PeerRule}
use Rattle.xp_protocol.specs.declared.rule.PeerRule.TheVariants.{AskActivation, TakeFlags, CloseArea, ZeroMagic, ClearOldBit, Prepare, OpenArea, SetEngagementBit, ReadRecord, StoreEcho, StoreSecond, ClearEngagementBit, LookAtPage, CheckBeat, ClearDeactivationBit, TellPartner}
use Rattle.xp_protocol.specs.State.{Peer, Reading}
use Rattle.xp_protocol.specs.Peering.{Here, peer_effect, peer_read, deactivation_heard, record_read, try_contact, contact_made, same_peer, area_left_for, area_off, is_left, is_flagged, is_bad_flags, is_magic, is_wrong, has_shown, peer_failed, with_reason}
use Rattle.xp_protocol.specs.Rules.{peer_numbered, peer_answered}
use Rattle.xp_protocol.proofs.Frames.{cond_peer, length-each}

abbrev HasFour : Peer → Type 0
HasFour p = length p.links ≡ 4

left_four : (o : Option Reason) (p : Peer) → HasFour p → HasFour (area_left_for o p).local
left_four None p n = n
left_four (Some reason) p n = length-each _ 0 p.links ∙ n

flags_four : (y : Here) (w : ℕ) (p : Peer) (b : Bool) → is_bad_flags w ≡ b → HasFour p → HasFour (peer_effect y p TakeFlags w).local
flags_four y w p true e n = rw e n
flags_four y w p false e n = rw e (length-each _ 0 p.links ∙ n)

contact_four : (k t : ℕ) (p : Peer) → HasFour p → HasFour (try_contact k t p).local
contact_four k t p n = cond_peer HasFour (p.engage.second && (p.engage.shown && not (is_some p.contact))) (contact_made k t p) (same_peer p) (length-each _ 0 p.links ∙ n) n

read_four : (y : Here) (p : Peer) (o : Option Reading) (w : ℕ) → HasFour p → HasFour (record_read y p o w).local
read_four y p None w n = cond_peer HasFour (eqb w 0) _ _ n (cond_peer HasFour (is_magic w) _ _ n n)
read_four y p (Some r) w n =
    cond_peer HasFour (eqb r.done 1) _ _ n (cond_peer HasFour (eqb r.done 2) _ _ n (cond_peer HasFour (eqb r.done 7) _ _
    (cond_peer HasFour (has_shown y.stamp p.engage r) _ _ (contact_four y.turn y.stamp (record p { engage = record p.engage { shown = true; reading = None } }) n) n)
    (cond_peer HasFour (is_wrong y.part r.done w) _ _ n n)))

effect_four : (y : Here) (p : Peer) (m : PeerRule) (w : ℕ) → HasFour p → HasFour (peer_effect y p m w).local
effect_four y p AskActivation w n = n
effect_four y p TakeFlags w n = flags_four y w p (is_bad_flags w) refl n
effect_four y p CloseArea w n = left_four p.engage.reason p n
effect_four y p ZeroMagic w n = n
effect_four y p ClearOldBit w n = n
effect_four y p (Prepare x) w n = n
effect_four y p OpenArea w n = n
effect_four y p SetEngagementBit w n = n
effect_four y p ReadRecord w n = read_four y p p.engage.reading w n
effect_four y p StoreEcho w n = n
effect_four y p StoreSecond w n = contact_four y.turn y.stamp (record p { engage = record p.engage { second = true } }) n
effect_four y p ClearEngagementBit w n = n
effect_four y p LookAtPage w n = cond_peer HasFour (eqb (length (p.paging ++ w ∷ [])) 5) _ _ n n
effect_four y p CheckBeat w n = n
effect_four y p ClearDeactivationBit w n = n
effect_four y p TellPartner w n = n

numbered_four : (mark : Option CopyMark) (p : Peer) → HasFour p → HasFour (peer_numbered mark p)
numbered_four None p n = n
numbered_four (Some mark) p n = n

failed_four : (t : ℕ) (mark : Option CopyMark) (p : Peer) → HasFour p → HasFour (peer_failed t mark p)
failed_four t None p n = n
failed_four t (Some mark) p n = n

pub answered_four : (y : Here) (mark : Option CopyMark) (p : Peer) (m : PeerRule) (a : Answer) → length p.links ≡ 4 → length (peer_answered y mark p m a).local.links ≡ 4
answered_four y mark p m (Word w) n = effect_four y (peer_numbered mark p) m w (numbered_four mark p n)
answered_four y mark p m Failed n = failed_four y.turn mark p n

pub engaged_four : (w q : ℕ) (p : Peer) → length p.links ≡ 4 → length (peer_read w q p).local.links ≡ 4
engaged_four w q p n = cond_peer HasFour (is_left p.engage && not (is_flagged w q)) (area_off p) (same_peer p) (length-each _ 0 p.links ∙ n) n

pub heard_four : (w q : ℕ) (p : Peer) → length p.links ≡ 4 → length (deactivation_heard w q p).local.links ≡ 4
heard_four w q p n = cond_both (is_some p.engage.echo && is_flagged w q) (with_reason (Some (OtherGoingDown w)) p) p HasFour (λ e. n) (λ e. n)
