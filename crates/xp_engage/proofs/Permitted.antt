-- A step that what is known of a partner permits is permitted to each partition that knows this.
use Rattle.std.proofs.Common.{◌≡◌, ℕ, Bool, true, false, cond, [], ◌∷◌, length, refl, ap, sym, ◌∙◌}
use Rattle.std.specs.Prelude.{◌||◌, if◌then◌else◌, is_some, nat_lt, Option, Some, None}
use Rattle.xp_script.specs.declared.part.ScenarioPart.{ScenarioPart}
use Rattle.xp_protocol.specs.declared.rule.PeerRule.{PeerRule}
use Rattle.xp_protocol.specs.declared.rule.PeerRule.TheVariants.{AskActivation, TakeFlags, CloseArea, ZeroMagic, ClearOldBit, Prepare, OpenArea, SetEngagementBit, ReadRecord, StoreEcho, StoreSecond, ClearEngagementBit, LookAtPage, CheckBeat, ClearDeactivationBit, TellPartner}
use Rattle.xp_protocol.specs.declared.rule.Rule.{Rule}
use Rattle.xp_protocol.specs.declared.rule.Rule.TheVariants.{Peer as ForPeer}
use Rattle.xp_base.specs.declared.step.CopyMark.{CopyMark}
use Rattle.xp_base.specs.Places.{index_of}
use Rattle.xp_protocol.specs.Effects.{Copied, Row}
use Rattle.xp_protocol.specs.Wanting.{mark_with, wanted_at}
use Rattle.xp_protocol.specs.State.{State, Peer, Up, peer_of, idle_links}
use Rattle.xp_protocol.specs.Peering.{Here, peer_can, peer_row, copies_go_on}
use Rattle.xp_protocol.specs.Rules.{Can, here_of, mark_for, wanted_of, peer_life}
use Rattle.xp_engage.specs.Partner.{Partner, alone, alone_by, here, row_for, step_wanted, is_made, IsStateOf, unmarked, unnumbered}

-- the copies that go on
copies_known : (copying : Bool) (x : Partner) → copies_go_on (alone_by copying x) ≡ (copying || is_some x.engage.reading)
unfolding idle_links
copies_known copying x = by copying (is_some x.engage.reading) where
  by : (c r : Bool) → (r || (nat_lt 0 (length {A = ℕ} (if c then 0 ∷ [] else [])) || false)) ≡ (c || r)
  by true true = refl
  by true false = refl
  by false true = refl
  by false false = refl

-- over plain variables: a partner of which this is known, and what a step reads besides
record Knows (x : Partner) (turn : ℕ) (copying : Bool) (y : Here) (p : Peer) : Type 0 where
  here : y ≡ record (here turn x) { read = y.read }
  wanted : p.wanted ≡ x.wanted
  look : p.look ≡ x.look
  engage : p.engage ≡ x.engage
  contact : p.contact ≡ x.contact
  watch : p.watch ≡ x.watch
  copies : copies_go_on p ≡ (copying || is_some x.engage.reading)

peer_permitted :
    (x : Partner) (turn : ℕ) (copying : Bool) (y : Here) (p : Peer) (m : PeerRule) → Knows x turn copying y p → peer_can (here turn x) (alone_by copying x) m →
    is_made m ≡ true → peer_life m ≡ Up → peer_can y p m
peer_permitted x turn copying y p AskActivation h can made up = rw (h.wanted, h.engage, h.look) can
peer_permitted x turn copying y p TakeFlags h can made up = absurd (cc)
peer_permitted x turn copying y p CloseArea h can made up = rw h.engage can
peer_permitted x turn copying y p ZeroMagic h can made up = absurd (cc)
peer_permitted x turn copying y p ClearOldBit h can made up = absurd (cc)
peer_permitted x turn copying y p (Prepare word) h can made up = rw h.engage can
peer_permitted x turn copying y p OpenArea h can made up = rw (h.here, h.engage, h.wanted) can
peer_permitted x turn copying y p SetEngagementBit h can made up = rw (h.here, h.engage, h.look) can
peer_permitted x turn copying y p ReadRecord h can made up = rw (h.engage, h.contact) can
peer_permitted x turn copying y p StoreEcho h can made up = rw h.engage can
peer_permitted x turn copying y p StoreSecond h can made up = rw h.engage can
peer_permitted x turn copying y p ClearEngagementBit h can made up =
    let c : copies_go_on p ≡ false = h.copies ∙ (sym (copies_known copying x) ∙ can.1) in
    (rw h.engage can.0, c, rw h.engage can.2)
peer_permitted x turn copying y p LookAtPage h can made up = absurd (cc)
peer_permitted x turn copying y p CheckBeat h can made up = rw (h.here, h.engage, h.watch) can
peer_permitted x turn copying y p ClearDeactivationBit h can made up = rw h.engage can
peer_permitted x turn copying y p TellPartner h can made up = rw h.engage can

knows : (x : Partner) (turn : ℕ) (copying : Bool) (s : ScenarioPart) (st : State) → IsStateOf x turn copying s st → Knows x turn copying (here_of s st x.partner) (peer_of st x.partner)
knows x turn copying s st h = record { here = h.here; wanted = h.wanted; look = h.look; engage = h.engage; contact = h.contact; watch = h.watch; copies = h.copies }

pub can_now :
    (x : Partner) (turn : ℕ) (copying : Bool) (s : ScenarioPart) (st : State) (m : PeerRule) → IsStateOf x turn copying s st → peer_can (here turn x) (alone_by copying x) m →
    is_made m ≡ true → peer_life m ≡ Up → Can s st (ForPeer x.partner m)
can_now x turn copying s st m h can made up = (h.life ∙ sym up, (record { low = h.partner; other = λ e. h.other (e ∙ h.part) }, peer_permitted x turn copying (here_of s st x.partner) (peer_of st x.partner) m (knows x turn copying s st h) can made up))

-- its word is the same
row_known : (x : Partner) (stamp : ℕ) (p : Peer) (m : PeerRule) → p.engage ≡ x.engage → p.watch ≡ x.watch → stamp ≡ x.stamp → is_made m ≡ true → peer_row x.own stamp x.partner p m ≡ peer_row x.own x.stamp x.partner (alone x) m
row_known x stamp p AskActivation e v t made = refl
row_known x stamp p TakeFlags e v t made = absurd (cc)
row_known x stamp p CloseArea e v t made = refl
row_known x stamp p ZeroMagic e v t made = refl
row_known x stamp p ClearOldBit e v t made = refl
row_known x stamp p (Prepare y) e v t made = rw (e, t) refl
row_known x stamp p OpenArea e v t made = refl
row_known x stamp p SetEngagementBit e v t made = refl
row_known x stamp p ReadRecord e v t made = rw e refl
row_known x stamp p StoreEcho e v t made = rw e refl
row_known x stamp p StoreSecond e v t made = refl
row_known x stamp p ClearEngagementBit e v t made = refl
row_known x stamp p LookAtPage e v t made = absurd (cc)
row_known x stamp p CheckBeat e v t made = rw v refl
row_known x stamp p ClearDeactivationBit e v t made = refl
row_known x stamp p TellPartner e v t made = refl

-- and so is the step that is wanted, but for the number of its copy
unmarked_mark : (st : State) (r : Rule) (o : Option Copied) → mark_with 0 o ≡ unmarked (mark_for st r o)
unmarked_mark st r None = refl
unmarked_mark st r (Some x) = refl

wanted_by : (own q : ℕ) (st : State) (r : Rule) (x y : Row) → y ≡ x → wanted_at own q x ≡ unnumbered (record { op = record { owner = cond y.own own q; index = index_of y.place; kind = y.kind }; mark = mark_for st r y.copy })
wanted_by own q st r x y e = rw e (ap (λ (o : Option CopyMark). record { op = record { owner = cond x.own own q; index = index_of x.place; kind = x.kind }; mark = o }) (unmarked_mark st r x.copy))

pub wanted_now :
    (x : Partner) (turn : ℕ) (copying : Bool) (s : ScenarioPart) (st : State) (m : PeerRule) → IsStateOf x turn copying s st → is_made m ≡ true →
    step_wanted x m ≡ unnumbered (wanted_of s st (ForPeer x.partner m))
wanted_now x turn copying s st m h made =
    let stamp : st.stamp ≡ x.stamp = ap (λ (y : Here). y.stamp) h.here in
    rw h.part (wanted_by x.own x.partner st (ForPeer x.partner m) (row_for x m) (peer_row x.own st.stamp x.partner (peer_of st x.partner) m) (row_known x st.stamp (peer_of st x.partner) m h.engage h.watch stamp made))

abbrev rule_in : PeerRule → Option PeerRule → PeerRule
rule_in m None = m
rule_in m (Some x) = x

pub same_rule : (a b : PeerRule) → Some a ≡ Some b → a ≡ b
same_rule a b e = ap (rule_in a) e
