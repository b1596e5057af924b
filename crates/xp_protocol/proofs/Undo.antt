-- A step that a rule makes is decoded as that rule, and stands in the layout: for each footprint one lemma of each, with a line a rule.
use Rattle.xp_base.specs.declared.layout.TheConstants.{PARTS, PART_WORDS, FIRST, SECOND}
use Rattle.std.proofs.Common.{◌≡◌, ◌≢◌, ℕ, zero, suc, ◌+◌, ◌<◌, ◌≤◌, Bool, true, false, cond, eqb, refl, ap, sym, ◌∙◌, arith, inl, inr, Option, Some, None, List, length, ◌-◌}
use Rattle.std.specs.Prelude.{◌&&◌, is_some}
use Rattle.std.proofs.lemmas.Bool.{cases_eq, cases_lt, eq-eqb, ne_eqb, cond_both}
use Rattle.std.proofs.Math.Pow.{pow-lt}
use Rattle.xp_base.specs.declared.step.OpKind.TheVariants.{Store}
use Rattle.xp_base.specs.declared.link.LinkState.TheVariants.{Connected}
use Rattle.xp_base.specs.declared.reason.Reason.{Reason}
use Rattle.xp_base.specs.declared.link.Kind.{Kind}
use Rattle.xp_base.specs.declared.link.Kind.TheVariants.{CloseRequest, CloseReply, OpenRequest, OpenReply, OpenComplete, MsgRequest}
use Rattle.xp_base.specs.Kinds.{flag}
use Rattle.xp_base.specs.Places.{Place, Open, Record, Flag, Args, Counter, Entry, Pool, Beyond, IsWithin, index_of, place_of-index_of}
use Rattle.xp_protocol.specs.declared.rule.RingRule.TheVariants.{ReadGet, WriteEntryWord, AcceptMessage}
use Rattle.xp_protocol.specs.declared.rule.PullRule.TheVariants.{ReadCounters, ReadEntry}
use Rattle.xp_protocol.specs.declared.rule.LinkRule.{LinkRule}
use Rattle.xp_protocol.specs.declared.rule.LinkRule.TheVariants.{Ring, Pull, Acknowledge, SetFlag, ZeroGet, ZeroPut, StoreArgument, ReadArgument}
use Rattle.xp_protocol.specs.declared.rule.Argument.{Argument}
use Rattle.xp_protocol.specs.declared.rule.Argument.TheVariants.{Request, Reply, Code}
use Rattle.xp_protocol.specs.declared.rule.PeerRule.{PeerRule}
use Rattle.xp_protocol.specs.declared.rule.AreaWord.TheVariants.{SessionWord, EchoWord, PlaceWord, ArgsWord, FlagWord, CounterWord}
use Rattle.xp_protocol.specs.declared.rule.RecordField.{RecordField}
use Rattle.xp_protocol.specs.declared.rule.RecordField.TheVariants.{ArgsPlace, CountersPlace, FlagPlace, ChannelCount, Spare}
use Rattle.xp_protocol.specs.declared.rule.AreaWord.{AreaWord}
use Rattle.xp_protocol.specs.declared.rule.PeerRule.TheVariants.{AskActivation, TakeFlags, CloseArea, ZeroMagic, ClearOldBit, Prepare, OpenArea, SetEngagementBit, ReadRecord, StoreEcho, StoreSecond, ClearEngagementBit, LookAtPage, CheckBeat, ClearDeactivationBit, TellPartner}
use Rattle.xp_protocol.specs.declared.rule.OwnRule.{OwnRule}
use Rattle.xp_protocol.specs.declared.rule.OwnRule.TheVariants.{ReadEngaged, TakeDeactivation, ReadStamp, ZeroMask, ZeroOffline, WriteStamp, StoreMask, TakeActivation, StoreBeat, StoreOffline}
use Rattle.xp_protocol.specs.declared.rule.Rule.{Rule}
use Rattle.xp_protocol.specs.declared.rule.Rule.TheVariants.{Link, Peer, Own}
use Rattle.xp_script.specs.declared.part.ScenarioPart.{ScenarioPart}
use Rattle.xp_protocol.specs.Parts.{IsLawfulPart}
use Rattle.xp_protocol.specs.Pulling.{counters_word}
use Rattle.xp_protocol.specs.State.{State, Life, Area, Off, Ready, Peer as PeerState, End, state_by, end_of, peer_of, link_of}
use Rattle.xp_protocol.specs.Sending.{next_slot}
use Rattle.xp_protocol.specs.Effects.{all_but}
use Rattle.xp_protocol.specs.Linking.{link_can, link_row, argument_field}
use Rattle.xp_protocol.specs.Peering.{IsAreaWord, area_place, area_word, field_number, page_word, Here, Mine, peer_can, peer_row, own_row}
use Rattle.xp_protocol.specs.Rules.{Can, peer_life, own_life, row_of, partner_of, owner, mark_of, op_of, here_of, mine_of}
use Rattle.xp_protocol.specs.Decode.{rule_at, rule_of, flag_set, record_stored, echo_stored, counter_stored, put_stored, get_stored, and_at, bit_cleared, mask_stored, offline_stored, args_stored}

-- a place of the layout is one of the words of a page
pub index_low : (pl : Place) → IsWithin pl → index_of pl < PART_WORDS
index_low (Open o) h = omega arith
index_low (Record q f) h = omega arith
index_low (Flag q) h = omega arith
index_low (Args q c f) h = omega arith
index_low (Counter q c f) h = omega arith
index_low (Entry q c w) h = omega arith
index_low (Pool b f) h = omega arith
index_low Beyond h = absurd h

counters_low : (o : Option ℕ) → counters_word o < 2
counters_low None = omega arith
counters_low (Some g) = omega arith

flag_decodes : (q c : ℕ) (k : Kind) → c < 4 → flag_set q (flag c k) 0 4 ≡ Some (Link q c (SetFlag k))
flag_decodes q zero CloseRequest h = refl
flag_decodes q zero CloseReply h = refl
flag_decodes q zero OpenRequest h = refl
flag_decodes q zero OpenReply h = refl
flag_decodes q zero OpenComplete h = refl
flag_decodes q zero MsgRequest h = refl
flag_decodes q (suc zero) CloseRequest h = refl
flag_decodes q (suc zero) CloseReply h = refl
flag_decodes q (suc zero) OpenRequest h = refl
flag_decodes q (suc zero) OpenReply h = refl
flag_decodes q (suc zero) OpenComplete h = refl
flag_decodes q (suc zero) MsgRequest h = refl
flag_decodes q (suc (suc zero)) CloseRequest h = refl
flag_decodes q (suc (suc zero)) CloseReply h = refl
flag_decodes q (suc (suc zero)) OpenRequest h = refl
flag_decodes q (suc (suc zero)) OpenReply h = refl
flag_decodes q (suc (suc zero)) OpenComplete h = refl
flag_decodes q (suc (suc zero)) MsgRequest h = refl
flag_decodes q (suc (suc (suc zero))) CloseRequest h = refl
flag_decodes q (suc (suc (suc zero))) CloseReply h = refl
flag_decodes q (suc (suc (suc zero))) OpenRequest h = refl
flag_decodes q (suc (suc (suc zero))) OpenReply h = refl
flag_decodes q (suc (suc (suc zero))) OpenComplete h = refl
flag_decodes q (suc (suc (suc zero))) MsgRequest h = refl
flag_decodes q (suc (suc (suc (suc c)))) k h = absurd (omega (arith, h))

argument_low : (x : Argument) → argument_field x < 4
argument_low Request = omega arith
argument_low Reply = omega arith
argument_low Code = omega arith

-- the word stands in the layout
link_within : (p q c : ℕ) (e : End) (m : LinkRule) → p < PARTS → q < PARTS → c < 4 → link_can e m → IsWithin (link_row p q c e m).place
link_within p q c e (Ring ReadGet) a b d h = (a, d, omega arith)
link_within p q c e (Ring (WriteEntryWord f)) a b d h = (b, d, h.1.2)
link_within p q c e (Ring AcceptMessage) a b d h = (b, d, omega arith)
link_within p q c e (Pull ReadCounters) a b d h = (a, d, counters_low _)
link_within p q c e (Pull ReadEntry) a b d h = (a, d, h.1.1)
link_within p q c e Acknowledge a b d h = (b, d, omega arith)
link_within p q c e (SetFlag k) a b d h = a
link_within p q c e ZeroGet a b d h = (b, d, omega arith)
link_within p q c e ZeroPut a b d h = (b, d, omega arith)
link_within p q c e (StoreArgument x) a b d h = (b, d, argument_low x)
link_within p q c e (ReadArgument x) a b d h = (a, d, argument_low x)

field_low : (x : RecordField) → field_number x < 8
field_low ArgsPlace = omega arith
field_low CountersPlace = omega arith
field_low FlagPlace = omega arith
field_low ChannelCount = omega arith
field_low Spare = omega arith

area_within : (q : ℕ) (x : AreaWord) → q < PARTS → IsAreaWord x → IsWithin (area_place q x)
area_within q SessionWord b h = (b, omega arith)
area_within q EchoWord b h = (b, omega arith)
area_within q FlagWord b h = b
area_within q (CounterWord c f) b h = (b, h.0, h.1)
area_within q (ArgsWord c f) b h = (b, h.0, h.1)
area_within q (PlaceWord x) b h = (b, field_low x)

page_low : (n : ℕ) → page_word n < 16
page_low n = cond_both (eqb n 0) 0 _ (λ k. k < 16) (λ e. omega arith) (λ e. cond_both (eqb n 1) 1 _ (λ k. k < 16) (λ e. omega arith) (λ e. cond_both (eqb n 2) 3 _ (λ k. k < 16) (λ e. omega arith) (λ e. cond_both (eqb n 3) 14 4 (λ k. k < 16) (λ e. omega arith) (λ e. omega arith))))

peer_within : (y : Here) (p t q : ℕ) (x : PeerState) (m : PeerRule) → p < PARTS → q < PARTS → peer_can y x m → IsWithin (peer_row p t q x m).place
peer_within y p t q x AskActivation a b h = omega arith
peer_within y p t q x TakeFlags a b h = b
peer_within y p t q x CloseArea a b h = (b, omega arith)
peer_within y p t q x ZeroMagic a b h = (b, omega arith)
peer_within y p t q x ClearOldBit a b h = omega arith
peer_within y p t q x (Prepare z) a b h = area_within q z b h.1
peer_within y p t q x OpenArea a b h = (b, omega arith)
peer_within y p t q x SetEngagementBit a b h = omega arith
peer_within y p t q x ReadRecord a b h = (a, h.5)
peer_within y p t q x StoreEcho a b h = (b, omega arith)
peer_within y p t q x StoreSecond a b h = (b, omega arith)
peer_within y p t q x ClearEngagementBit a b h = omega arith
peer_within y p t q x LookAtPage a b h = page_low (length x.paging)
peer_within y p t q x CheckBeat a b h = let few = h.2 in omega (arith, few)
peer_within y p t q x ClearDeactivationBit a b h = omega arith
peer_within y p t q x TellPartner a b h = omega arith

own_within : (n : Mine) (ps : List PeerState) (m : OwnRule) → IsWithin (own_row n ps m).place
own_within n ps ReadEngaged = omega arith
own_within n ps TakeDeactivation = omega arith
own_within n ps WriteStamp = omega arith
own_within n ps ReadStamp = omega arith
own_within n ps ZeroMask = omega arith
own_within n ps ZeroOffline = omega arith
own_within n ps StoreMask = omega arith
own_within n ps TakeActivation = omega arith
own_within n ps StoreBeat = omega arith
own_within n ps StoreOffline = omega arith

-- the step is decoded
complete_by : (o : Option Reason) (a x b c : Bool) → state_by o a (x && (b && c)) ≡ Connected → b ≡ true
complete_by (Some r) a x b c h = absurd (cc)
complete_by None a true true c h = refl
complete_by None true true false c h = absurd (cc)
complete_by None false true false c h = absurd (cc)
complete_by None true false b c h = absurd (cc)
complete_by None false false b c h = absurd (cc)

connected_complete : (e : End) → link_of e ≡ Connected → e.shake.sent.open_complete ≡ true
connected_complete e h = complete_by e.shake.reason e.shake.sent.open_request (is_some e.shake.meet) e.shake.sent.open_complete e.shake.got.open_complete h

less_start : (a f : ℕ) → a + f - a ≡ f
less_start a f = omega arith

link_decodes : (s : ScenarioPart) (st : State) (q c : ℕ) (m : LinkRule) → c < 4 → (peer_of st q).engage.area ≡ Ready → link_can (end_of st q c) m → (let r = link_row s.part q c (end_of st q c) m in rule_at st r.own q r.kind r.place (mark_of s st (Link q c m)) ≡ Some (Link q c m))
link_decodes s st q c (Ring ReadGet) d a h = refl
link_decodes s st q c (Ring (WriteEntryWord f)) d a h = ap (λ (k : ℕ). Some (Link q c (Ring (WriteEntryWord k)))) (less_start (next_slot (end_of st q c).sides.send) f)
link_decodes s st q c (Ring AcceptMessage) d a h = ap (λ (x : Area). counter_stored x (end_of st q c).shake.sent.open_complete q c 1) a ∙ ap (λ (b : Bool). put_stored b q c) (connected_complete (end_of st q c) h.0)
link_decodes s st q c (Pull ReadCounters) d a h = refl
link_decodes s st q c (Pull ReadEntry) d a h = refl
link_decodes s st q c Acknowledge d a h = ap (λ (x : Area). counter_stored x (end_of st q c).shake.sent.open_complete q c 0) a ∙ ap (λ (b : Bool). get_stored b q c) (connected_complete (end_of st q c) h.0)
link_decodes s st q c (SetFlag k) d a h = flag_decodes q c k d
link_decodes s st q c ZeroGet d a h = ap (λ (x : Area). counter_stored x (end_of st q c).shake.sent.open_complete q c 0) a ∙ ap (λ (b : Bool). get_stored b q c) h.2
link_decodes s st q c ZeroPut d a h = ap (λ (x : Area). counter_stored x (end_of st q c).shake.sent.open_complete q c 1) a ∙ ap (λ (b : Bool). put_stored b q c) h.2
link_decodes s st q c (StoreArgument Request) d a h = ap (λ (x : Area). args_stored x q c 0) a
link_decodes s st q c (StoreArgument Reply) d a h = ap (λ (x : Area). args_stored x q c 1) a
link_decodes s st q c (StoreArgument Code) d a h = ap (λ (x : Area). args_stored x q c 2) a
link_decodes s st q c (ReadArgument Request) d a h = refl
link_decodes s st q c (ReadArgument Reply) d a h = refl
link_decodes s st q c (ReadArgument Code) d a h = refl

prepare_decodes : (s : ScenarioPart) (st : State) (q : ℕ) (x : AreaWord) → (peer_of st q).engage.area ≡ Off → rule_at st true q (Store (area_word q st.stamp (peer_of st q).engage x)) (area_place q x) None ≡ Some (Peer q (Prepare x))
prepare_decodes s st q SessionWord a = refl
prepare_decodes s st q EchoWord a = ap (λ (y : Area). echo_stored y q) a
prepare_decodes s st q FlagWord a = refl
prepare_decodes s st q (PlaceWord ArgsPlace) a = refl
prepare_decodes s st q (PlaceWord CountersPlace) a = refl
prepare_decodes s st q (PlaceWord FlagPlace) a = refl
prepare_decodes s st q (PlaceWord ChannelCount) a = refl
prepare_decodes s st q (PlaceWord Spare) a = refl
prepare_decodes s st q (ArgsWord c f) a = ap (λ (y : Area). args_stored y q c f) a
prepare_decodes s st q (CounterWord c f) a = ap (λ (y : Area). counter_stored y (end_of st q c).shake.sent.open_complete q c f) a

-- the masks that clear a bit differ from each other
all_but-inj : (i q : ℕ) → i < PARTS → q < PARTS → all_but i ≡ all_but q → i ≡ q
all_but-inj i q a b e = elim (cases_lt i q) [
  | inl l ↦ absurd (omega (arith, e, pow-lt l, pow-lt b))
  | inr m ↦ elim (cases_lt q i) [
    | inl l ↦ absurd (omega (arith, e, pow-lt l, pow-lt a))
    | inr k ↦ omega (arith, m, k)
  ]
]

-- the bit among n from k on
cleared_from : (q k n : ℕ) → k ≤ q → q < k + n → k + n ≤ PARTS → bit_cleared (all_but q) k n ≡ Some (Peer q ClearDeactivationBit)
cleared_from q k zero a b c = absurd (omega (arith, a, b))
cleared_from q k (suc n) a b c = elim (cases_eq q k) [
  | inl e ↦ rw (eq-eqb (all_but q) (all_but k) (ap all_but e)) (ap (λ (j : ℕ). Some (Peer j ClearDeactivationBit)) (sym e))
  | inr d ↦ rw (ne_eqb (all_but q) (all_but k) (λ e. d (all_but-inj q k (omega (arith, b, c)) (omega (arith, c)) e))) (cleared_from q (k + 1) n (omega (arith, a, d)) (omega (arith, b)) (omega (arith, c)))
]

cleared_decodes : (q : ℕ) → q < PARTS → bit_cleared (all_but q) 0 PARTS ≡ Some (Peer q ClearDeactivationBit)
cleared_decodes q h = cleared_from q 0 PARTS (omega arith) (omega (arith, h)) (omega arith)

peer_decodes : (s : ScenarioPart) (st : State) (q : ℕ) (m : PeerRule) → q < PARTS → st.life ≡ peer_life m → peer_can (here_of s st q) (peer_of st q) m → (let r = peer_row s.part st.stamp q (peer_of st q) m in rule_at st r.own q r.kind r.place (mark_of s st (Peer q m)) ≡ Some (Peer q m))
peer_decodes s st q AskActivation l u h = refl
peer_decodes s st q TakeFlags l u h = refl
peer_decodes s st q CloseArea l u h = λ i. record_stored (u i) (h.0 i) 0 q 0
peer_decodes s st q ZeroMagic l u h = ap (λ (x : Life). record_stored x (peer_of st q).engage.area 0 q 0) u
peer_decodes s st q ClearOldBit l u h = ap (λ (x : Life). and_at x q) u
peer_decodes s st q (Prepare x) l u h = prepare_decodes s st q x h.0
peer_decodes s st q OpenArea l u h = λ i. record_stored (u i) (h.0 i) FIRST q 0
peer_decodes s st q SetEngagementBit l u h = refl
peer_decodes s st q ReadRecord l u h = refl
peer_decodes s st q StoreEcho l u h = ap (λ (y : Area). echo_stored y q) h.0
peer_decodes s st q StoreSecond l u h = λ i. record_stored (u i) (h.0 i) SECOND q 0
peer_decodes s st q ClearEngagementBit l u h = ap (λ (x : Life). and_at x q) u
peer_decodes s st q LookAtPage l u h = refl
peer_decodes s st q CheckBeat l u h = refl
peer_decodes s st q ClearDeactivationBit l u h = cleared_decodes q l
peer_decodes s st q TellPartner l u h = refl

own_decodes : (s : ScenarioPart) (st : State) (m : OwnRule) → st.life ≡ own_life m → (let r = own_row (mine_of s st) st.peers m in rule_at st r.own s.part r.kind r.place (mark_of s st (Own m)) ≡ Some (Own m))
own_decodes s st ReadEngaged u = refl
own_decodes s st TakeDeactivation u = refl
own_decodes s st WriteStamp u = refl
own_decodes s st ReadStamp u = refl
own_decodes s st ZeroMask u = ap (λ (x : Life). mask_stored x) u
own_decodes s st ZeroOffline u = ap (λ (x : Life). offline_stored x) u
own_decodes s st StoreMask u = ap (λ (x : Life). mask_stored x) u
own_decodes s st TakeActivation u = refl
own_decodes s st StoreBeat u = refl
own_decodes s st StoreOffline u = ap (λ (x : Life). offline_stored x) u

-- the same for all rules
part_low : (s : ScenarioPart) → IsLawfulPart s → s.part < PARTS
part_low s l = omega (arith, l.part, l.count)

peer_low : (s : ScenarioPart) (q : ℕ) → IsLawfulPart s → q < s.count → q < PARTS
peer_low s q l p = omega (arith, p, l.count)

pub within : (s : ScenarioPart) (st : State) (r : Rule) → IsLawfulPart s → Can s st r → IsWithin (row_of s st r).place
within s st (Link q c m) l h = link_within s.part q c (end_of st q c) m (part_low s l) (peer_low s q l h.1.0.peer.0) h.1.0.peer.2 h.1.1
within s st (Peer q m) l h = peer_within (here_of s st q) s.part st.stamp q (peer_of st q) m (part_low s l) (peer_low s q l h.1.0.low) h.1.1
within s st (Own m) l h = own_within (mine_of s st) st.peers m

own_row_own : (n : Mine) (ps : List PeerState) (m : OwnRule) → (own_row n ps m).own ≡ true
own_row_own n ps ReadEngaged = refl
own_row_own n ps TakeDeactivation = refl
own_row_own n ps WriteStamp = refl
own_row_own n ps ReadStamp = refl
own_row_own n ps ZeroMask = refl
own_row_own n ps ZeroOffline = refl
own_row_own n ps StoreMask = refl
own_row_own n ps TakeActivation = refl
own_row_own n ps StoreBeat = refl
own_row_own n ps StoreOffline = refl

pub partner_low : (s : ScenarioPart) (st : State) (r : Rule) → IsLawfulPart s → Can s st r → partner_of s r < s.count
partner_low s st (Link q c m) l h = h.1.0.peer.0
partner_low s st (Peer q m) l h = h.1.0.low
partner_low s st (Own m) l h = l.part

other_of : (s : ScenarioPart) (st : State) (r : Rule) → Can s st r → (row_of s st r).own ≡ false → partner_of s r ≢ s.part
other_of s st (Link q c m) h e = h.1.0.peer.1
other_of s st (Peer q m) h e = h.1.0.other
other_of s st (Own m) h e = let t = own_row_own (mine_of s st) st.peers m in absurd (cc)

own_by : (s : ScenarioPart) (q : ℕ) (b : Bool) → (b ≡ false → q ≢ s.part) → eqb (cond b s.part q) s.part ≡ b
own_by s q true d = eq-eqb s.part s.part refl
own_by s q false d = ne_eqb q s.part (d refl)

-- an own word is decoded by its place alone
at_owner : (st : State) (b : Bool) (k : _) (pl : Place) (mark : _) (p q : ℕ) → rule_at st b (cond b p q) k pl mark ≡ rule_at st b q k pl mark
at_owner st true k pl mark p q = refl
at_owner st false k pl mark p q = refl

decodes : (s : ScenarioPart) (st : State) (r : Rule) → IsLawfulPart s → Can s st r → (let x = row_of s st r in rule_at st x.own (partner_of s r) x.kind x.place (mark_of s st r) ≡ Some r)
decodes s st (Link q c m) l h = link_decodes s st q c m h.1.0.peer.2 h.1.0.ready h.1.1
decodes s st (Peer q m) l h = peer_decodes s st q m (peer_low s q l h.1.0.low) h.0 h.1.1
decodes s st (Own m) l h = own_decodes s st m h.0

pub undo : (s : ScenarioPart) (st : State) (r : Rule) → IsLawfulPart s → Can s st r → rule_of s st (op_of s st r) (mark_of s st r) ≡ Some r
undo s st r l h =
    let x = row_of s st r in
    rw (own_by s (partner_of s r) x.own (other_of s st r h), place_of-index_of x.place (within s st r l h), at_owner st x.own x.kind x.place (mark_of s st r) s.part (partner_of s r)) (decodes s st r l h)

pub owner_low : (s : ScenarioPart) (st : State) (r : Rule) → IsLawfulPart s → Can s st r → owner s st r < s.count
owner_low s st r l h = low (row_of s st r).own where
  low : (b : Bool) → cond b s.part (partner_of s r) < s.count
  low true = l.part
  low false = partner_low s st r l h
