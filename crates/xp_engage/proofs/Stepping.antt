-- A step that reads nothing makes the same of what is known of a partner, whatever word it answers,
-- and gives no reason.
use Rattle.std.proofs.Common.{◌≡◌, ℕ, Bool, true, false, cond, List, refl, ap}
use Rattle.std.specs.Prelude.{Option, Some, None, is_some, not, ◌&&◌}
use Rattle.xp_base.specs.declared.reason.Reason.{Reason}
use Rattle.xp_base.specs.declared.step.Answer.TheVariants.{Word}
use Rattle.xp_protocol.specs.declared.rule.PeerRule.{PeerRule}
use Rattle.xp_protocol.specs.declared.rule.PeerRule.TheVariants.{AskActivation, TakeFlags, CloseArea, ZeroMagic, ClearOldBit, Prepare, OpenArea, SetEngagementBit, ReadRecord, StoreEcho, StoreSecond, ClearEngagementBit, LookAtPage, CheckBeat, ClearDeactivationBit, TellPartner}
use Rattle.xp_protocol.specs.Effects.{Effect, Note, first_reason, just}
use Rattle.xp_protocol.specs.State.{End, Peer, is_begun, link_at}
use Rattle.xp_protocol.specs.Linking.{close_now, link_down}
use Rattle.xp_protocol.specs.Peering.{links_reason, area_left_for, contact_made, same_peer, try_contact, is_ready}
use Rattle.xp_engage.specs.Learning.{faulted}
use Rattle.xp_engage.specs.Partner.{Partner, alone, made, stepped, step_reason, is_made, is_copy}

closed_none : (o : Option Reason) (r : Reason) (e : End) → (close_now o r e).reason ≡ None
closed_none None r e = refl
closed_none (Some first) r e = refl

pub down_none : (r : Reason) (e : End) → (link_down r e).reason ≡ None
down_none r e = by (is_begun e) where
  by : (b : Bool) → first_reason (cond b (close_now e.shake.reason r e) (just e)).reason None ≡ None
  by true = ap (λ (o : Option Reason). first_reason o None) (closed_none e.shake.reason r e)
  by false = refl

four_none : (a b c d : Option Reason) → a ≡ None → b ≡ None → c ≡ None → d ≡ None → first_reason a (first_reason b (first_reason c d)) ≡ None
four_none a b c d ha hb hc hd = rw (ha, hb, hc, hd) refl

pub links_none : (f : ℕ → End → Effect End (List Note)) → ((c : ℕ) (e : End) → (f c e).reason ≡ None) → (p : Peer) → links_reason f p ≡ None
links_none f h p =
    four_none (f 0 (link_at p.links 0)).reason (f 1 (link_at p.links 1)).reason (f 2 (link_at p.links 2)).reason (f 3 (link_at p.links 3)).reason
    (h 0 (link_at p.links 0)) (h 1 (link_at p.links 1)) (h 2 (link_at p.links 2)) (h 3 (link_at p.links 3))

left_none : (o : Option Reason) (p : Peer) → (area_left_for o p).reason ≡ None
left_none None p = refl
left_none (Some r) p = links_none (λ c e. link_down r e) (λ c e. down_none r e) p

contact_none : (turn stamp : ℕ) (p : Peer) → (try_contact turn stamp p).reason ≡ None
contact_none turn stamp p = by (p.engage.second && (p.engage.shown && not (is_some p.contact))) where
  by : (b : Bool) → (cond b (contact_made turn stamp p) (same_peer p)).reason ≡ None
  by true = refl
  by false = refl

pub record MadeAlike (turn : ℕ) (x : Partner) (m : PeerRule) (w : ℕ) : Type 0 where
  pub partner : stepped turn x m (Word w) ≡ made turn x m 0
  pub reason : step_reason turn x m (Word w) ≡ None

pub made_alike : (turn : ℕ) (x : Partner) (m : PeerRule) (w : ℕ) → is_made m ≡ true → is_copy m ≡ false → MadeAlike turn x m w
made_alike turn x AskActivation w h c = record { partner = refl; reason = refl }
made_alike turn x TakeFlags w h c = absurd (cc)
made_alike turn x CloseArea w h c = record { partner = refl; reason = left_none x.engage.reason (alone x) }
made_alike turn x ZeroMagic w h c = record { partner = refl; reason = refl }
made_alike turn x ClearOldBit w h c = record { partner = refl; reason = refl }
made_alike turn x (Prepare y) w h c = record { partner = refl; reason = refl }
made_alike turn x OpenArea w h c = record { partner = refl; reason = refl }
made_alike turn x SetEngagementBit w h c = record { partner = refl; reason = refl }
made_alike turn x ReadRecord w h c = absurd (cc)
made_alike turn x StoreEcho w h c = record { partner = refl; reason = refl }
made_alike turn x StoreSecond w h c = record { partner = refl; reason = contact_none turn x.stamp (record (alone x) { engage = record x.engage { second = true } }) }
made_alike turn x ClearEngagementBit w h c = record { partner = refl; reason = refl }
made_alike turn x LookAtPage w h c = absurd (cc)
made_alike turn x CheckBeat w h c = absurd (cc)
made_alike turn x ClearDeactivationBit w h c = record { partner = refl; reason = refl }
made_alike turn x TellPartner w h c = record { partner = refl; reason = refl }

-- without a reason nothing changes
pub faulted_none : (x : Partner) → faulted None x ≡ x
faulted_none x = ap (λ (o : Option Reason). record x { engage = record x.engage { reason = o } }) (kept x.engage.reason (is_ready x.engage.area)) where
  kept : (o : Option Reason) (b : Bool) → first_reason o (cond b None None) ≡ o
  kept None true = refl
  kept None false = refl
  kept (Some r) b = refl
