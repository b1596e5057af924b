-- The words of a record that say where the memory for a partner is: from its first opening on they are right, so that no copy of it finds one that isn't.
use Rattle.std.proofs.Common.{◌≡◌, ℕ, ◌^◌, ◌<◌, Bool, true, false, ◌&&◌, ◌||◌, not, cond, eqb, List, [], ◌∷◌, ◌++◌, length, bit_or, refl, ap, sym, ◌∙◌, subst, arith, Option, Some, None, inl, inr, ◌⊎◌}
use Rattle.std.specs.Prelude.{is_some}
use Rattle.std.specs.Int.{bit_at}
use Rattle.std.proofs.lemmas.Bool.{cases_eq, eq-eqb, eqb-true, and_parts, cond_both}
use Rattle.std.proofs.lemmas.Nat.Bits.{bit_at_or, bit_at-pow_other, bit_at-lt, bit_at-zero}
use Rattle.xp_base.specs.declared.reason.Reason.{Reason}
use Rattle.xp_base.specs.declared.reason.Reason.TheVariants.{BadMagic, OtherGoingDown}
use Rattle.xp_base.specs.declared.step.CopyMark.{CopyMark}
use Rattle.xp_base.specs.declared.step.CopyKind.{CopyKind}
use Rattle.xp_base.specs.declared.step.CopyKind.TheVariants.{Record as RecordCopy}
use Rattle.xp_base.specs.declared.step.OpKind.TheVariants.{Store}
use Rattle.xp_base.specs.Places.{Place, Record}
use Rattle.xp_protocol.specs.declared.rule.RecordField.{RecordField}
use Rattle.xp_protocol.specs.declared.rule.RecordField.TheVariants.{ArgsPlace, CountersPlace, FlagPlace, ChannelCount, Spare}
use Rattle.xp_protocol.specs.declared.rule.AreaWord.TheVariants.{SessionWord, EchoWord, PlaceWord, ArgsWord, FlagWord, CounterWord}
use Rattle.xp_protocol.specs.declared.rule.PeerRule.{PeerRule}
use Rattle.xp_protocol.specs.declared.rule.PeerRule.TheVariants.{AskActivation, TakeFlags, CloseArea, ZeroMagic, ClearOldBit, Prepare, OpenArea, SetEngagementBit, ReadRecord, StoreEcho, StoreSecond, ClearEngagementBit, LookAtPage, CheckBeat, ClearDeactivationBit, TellPartner}
use Rattle.xp_protocol.specs.Effects.{Effect, Note}
use Rattle.xp_protocol.specs.State.{Ready, Reading, Peer}
use Rattle.xp_protocol.specs.Peering.{Here, field_number, field_word, is_wrong, is_magic, is_bad_flags, is_prepared, same_peer, say_reason, contact_made, try_contact, area_left_for, area_off, with_reason, record_read, has_shown, peer_can, peer_effect, peer_failed, booted_peer}
use Rattle.xp_protocol.specs.Rules.{peer_numbered}
use Rattle.xp_meetings.proofs.Words.{Words, does}

abbrev pub RightAt : (Place → ℕ) → ℕ → RecordField → Type 0
RightAt w q x = w (Record q (field_number x)) ≡ field_word q x

abbrev pub Right : (Place → ℕ) → ℕ → Type 0
Right w q = (x : RecordField) → RightAt w q x

-- a word that is right isn't refused
module _ (w : Place → ℕ) (p n : ℕ) (h : Right w p) where
  one : (x : RecordField) → (eqb n (field_number x) && not (eqb (w (Record p n)) (field_word p x))) ≡ false
  one x = by (eqb n (field_number x)) refl where
    by : (b : Bool) → eqb n (field_number x) ≡ b → (b && not (eqb (w (Record p n)) (field_word p x))) ≡ false
    by false e = refl
    by true e = ap not (eq-eqb (w (Record p n)) (field_word p x) (ap (λ (m : ℕ). w (Record p m)) (eqb-true n (field_number x) e) ∙ h x))

  pub not_wrong : is_wrong p n (w (Record p n)) ≡ false
  not_wrong = λ i. one ArgsPlace i || (one CountersPlace i || (one FlagPlace i || one ChannelCount i))

-- a field is told by its number
abbrev field_of : ℕ → RecordField
field_of n = cond (eqb n 3) ArgsPlace (cond (eqb n 4) CountersPlace (cond (eqb n 5) FlagPlace (cond (eqb n 6) ChannelCount Spare)))

field_back : (x : RecordField) → field_of (field_number x) ≡ x
field_back ArgsPlace = refl
field_back CountersPlace = refl
field_back FlagPlace = refl
field_back ChannelCount = refl
field_back Spare = refl

field_one : (x y : RecordField) → field_number x ≡ field_number y → x ≡ y
field_one x y e = sym (field_back x) ∙ ap field_of e ∙ field_back y

field_high : (x : RecordField) → 2 < field_number x
field_high ArgsPlace = omega arith
field_high CountersPlace = omega arith
field_high FlagPlace = omega arith
field_high ChannelCount = omega arith
field_high Spare = omega arith

-- a store in a record
field_store : (w : Words) (a k n v p q : ℕ) (x : RecordField) → (n ≡ field_number x → k ≡ q → v ≡ field_word q x) → RightAt (w p) q x → RightAt (does (Store v) a (Record k n) w p) q x
field_store w a k n v p q x new h = cond_both ((eqb n (field_number x) && eqb k q) && eqb a p) v (w p (Record q (field_number x))) (λ (t : ℕ). t ≡ field_word q x)
    (λ e. (let z = and_parts (eqb n (field_number x) && eqb k q) (eqb a p) e in let y = and_parts (eqb n (field_number x)) (eqb k q) z.0 in new (eqb-true n (field_number x) y.0) (eqb-true k q y.1))) (λ e. h)

pub low_store : (w : Words) (a k n v p q : ℕ) (x : RecordField) → n < 3 → RightAt (w p) q x → RightAt (does (Store v) a (Record k n) w p) q x
low_store w a k n v p q x l h = field_store w a k n v p q x (λ e. absurd (omega (arith, l, e, field_high x))) h

pub place_store : (w : Words) (a k p q : ℕ) (y x : RecordField) → RightAt (w p) q x → RightAt (does (Store (field_word k y)) a (Record k (field_number y)) w p) q x
place_store w a k p q y x h = field_store w a k (field_number y) (field_word k y) p q x (λ e d. ap (λ (j : ℕ). field_word j y) d ∙ ap (λ (z : RecordField). field_word q z) (field_one y x e)) h

pub magic_store : (w : Words) (a k v p q : ℕ) → (p ≡ a → k ≡ q → (v ≡ 0 → ⊥) → Right (w p) q) → ((w p (Record q 0) ≡ 0 → ⊥) → Right (w p) q) → (does (Store v) a (Record k 0) w p (Record q 0) ≡ 0 → ⊥) → Right (w p) q
magic_store w a k v p q new old = cond_both (eqb k q && eqb a p) v (w p (Record q 0)) (λ (t : ℕ). (t ≡ 0 → ⊥) → Right (w p) q)
    (λ e. (let z = and_parts (eqb k q) (eqb a p) e in new (sym (eqb-true a p z.1)) (eqb-true k q z.0))) (λ e. old)

-- what a partition knows of a partner: the own words that were stored are right, and all of them where the own memory is open; and so are the partner's where a
-- copy of its record goes on
abbrev pub Stands : (RecordField → Type 0) → Type 0 → Peer → Type 0
Stands own theirs p = ((y : RecordField) → bit_at p.engage.places_put (field_number y) ≡ 1 → own y) × (p.engage.area ≡ Ready → (y : RecordField) → own y) × (is_some p.engage.reading ≡ true → theirs)

bit_added : (m f g : ℕ) → bit_at (bit_or m (2 ^ f)) g ≡ 1 → (g ≡ f → ⊥) → bit_at m g ≡ 1
bit_added m f g e d = omega (arith, bit_at_or m (2 ^ f) g, bit_at-pow_other f g d, e, bit_at-lt m g)

all_put : (x : RecordField) → bit_at 248 (field_number x) ≡ 1
all_put ArgsPlace = refl
all_put CountersPlace = refl
all_put FlagPlace = refl
all_put ChannelCount = refl
all_put Spare = refl

module _ (own : RecordField → Type 0) (theirs : Type 0) where
  either : (b : Bool) (f g : Effect Peer (ℕ → List Note)) → Stands own theirs f.local → Stands own theirs g.local → Stands own theirs (cond b f g).local
  either true f g h k = h
  either false f g h k = k

  pub prepared_all : (p : Peer) → is_prepared p.engage ≡ true → Stands own theirs p → (y : RecordField) → own y
  prepared_all p t h y =
      let a = and_parts p.engage.session_put _ t in
      let b = and_parts p.engage.echo_put _ a.1 in
      let c = and_parts p.engage.flags_put _ b.1 in
      let d = and_parts (eqb p.engage.counters_put 255) _ c.1 in
      let e = and_parts _ (p.engage.deactivation_cleared && (eqb p.engage.places_put 248 && eqb p.engage.args_put 65535)) d.1 in
      let f = and_parts p.engage.deactivation_cleared _ e.1 in
      let g = and_parts (eqb p.engage.places_put 248) _ f.1 in
      h.0 y (ap (λ (m : ℕ). bit_at m (field_number y)) (eqb-true p.engage.places_put 248 g.0) ∙ all_put y)

  contact_stands : (turn n : ℕ) (p : Peer) → Stands own theirs p → Stands own theirs (try_contact turn n p).local
  contact_stands turn n p h = either (p.engage.second && (p.engage.shown && not (is_some p.contact))) (contact_made turn n p) (same_peer p) h h

  left_stands : (o : Option Reason) (p : Peer) → Stands own theirs p → Stands own theirs (area_left_for o p).local
  left_stands None p h = h
  left_stands (Some reason) p h = (h.0, λ e. absurd (cc), λ e. absurd (cc))

  read_stands : (y : Here) (p : Peer) (v : ℕ) → (p.engage.reading ≡ None → (v ≡ 0 → ⊥) → theirs) → Stands own theirs p → (o : Option Reading) → p.engage.reading ≡ o → Stands own theirs (record_read y p o v).local
  read_stands y p v begins h None i = first (eqb v 0) refl where
    seen : (t : Bool) → eqb v 0 ≡ false → Stands own theirs (cond t (same_peer (record p { engage = record p.engage { reading = Some (record { done = 1; after_echo = is_some p.engage.echo; magic = v; echo = 0 }) } })) (say_reason (Some (BadMagic v)) p)).local
    seen true e = (h.0, h.1, λ d. begins i (λ z. (let t : eqb v 0 ≡ true = eq-eqb v 0 z in absurd (cc))))
    seen false e = h

    first : (t : Bool) → eqb v 0 ≡ t → Stands own theirs (cond t (say_reason (cond (is_some p.engage.echo) (Some (OtherGoingDown 0)) None) (record p { engage = record p.engage { back_off = p.engage.back_off || not (is_some p.engage.echo) } })) (cond (is_magic v) (same_peer (record p { engage = record p.engage { reading = Some (record { done = 1; after_echo = is_some p.engage.echo; magic = v; echo = 0 }) } })) (say_reason (Some (BadMagic v)) p))).local
    first true e = h
    first false e = seen (is_magic v) e
  read_stands y p v begins h (Some r) i =
      let t : theirs = h.2 (ap (λ (o : Option Reading). is_some o) i) in
      either (eqb r.done 1) _ _ (h.0, h.1, λ e. t) (either (eqb r.done 2) _ _ (h.0, h.1, λ e. t) (either (eqb r.done 7) _ _
      (either (has_shown y.stamp p.engage r) _ _ (contact_stands y.turn y.stamp (record p { engage = record p.engage { shown = true; reading = None } }) (h.0, h.1, λ e. t)) (h.0, h.1, λ e. t))
      (either (is_wrong y.part r.done v) _ _ (h.0, h.1, λ e. t) (h.0, h.1, λ e. t))))

  pub peer_stands : (y : Here) (p : Peer) (m : PeerRule) (v : ℕ) → peer_can y p m → ((x : RecordField) → m ≡ Prepare (PlaceWord x) → own x) → (m ≡ ReadRecord → p.engage.reading ≡ None → (v ≡ 0 → ⊥) → theirs) → Stands own theirs p → Stands own theirs (peer_effect y p m v).local
  peer_stands y p AskActivation v can new begins h = h
  peer_stands y p TakeFlags v can new begins h = either (is_bad_flags v) _ _ h h
  peer_stands y p CloseArea v can new begins h = left_stands p.engage.reason p h
  peer_stands y p ZeroMagic v can new begins h = h
  peer_stands y p ClearOldBit v can new begins h = h
  peer_stands y p (Prepare SessionWord) v can new begins h = h
  peer_stands y p (Prepare EchoWord) v can new begins h = h
  peer_stands y p (Prepare FlagWord) v can new begins h = h
  peer_stands y p (Prepare (ArgsWord c f)) v can new begins h = h
  peer_stands y p (Prepare (CounterWord c f)) v can new begins h = h
  peer_stands y p (Prepare (PlaceWord x)) v can new begins h = (λ z b. by z b (cases_eq (field_number z) (field_number x)), h.1, h.2) where
    by : (z : RecordField) → bit_at (bit_or p.engage.places_put (2 ^ field_number x)) (field_number z) ≡ 1 → (field_number z ≡ field_number x) ⊎ (field_number z ≡ field_number x → ⊥) → own z
    by z b (inl e) = subst own (sym (field_one z x e)) (new x refl)
    by z b (inr n) = h.0 z (bit_added p.engage.places_put (field_number x) (field_number z) b n)
  peer_stands y p OpenArea v can new begins h = (h.0, λ e. prepared_all p can.1 h, h.2)
  peer_stands y p SetEngagementBit v can new begins h = (h.0, h.1, λ e. absurd (cc))
  peer_stands y p ReadRecord v can new begins h = read_stands y p v (begins refl) h p.engage.reading refl
  peer_stands y p StoreEcho v can new begins h = h
  peer_stands y p StoreSecond v can new begins h = contact_stands y.turn y.stamp (record p { engage = record p.engage { second = true } }) h
  peer_stands y p ClearEngagementBit v can new begins h = h
  peer_stands y p LookAtPage v can new begins h = either (eqb (length (p.paging ++ v ∷ [])) 5) _ _ h h
  peer_stands y p CheckBeat v can new begins h = h
  peer_stands y p ClearDeactivationBit v can new begins h = h
  peer_stands y p TellPartner v can new begins h = h

  pub numbered_stands : (mark : Option CopyMark) (p : Peer) → Stands own theirs p → Stands own theirs (peer_numbered mark p)
  numbered_stands None p h = h
  numbered_stands (Some mark) p h = h

  pub failed_stands : (turn : ℕ) (mark : Option CopyMark) (p : Peer) → Stands own theirs p → Stands own theirs (peer_failed turn mark p)
  failed_stands turn None p h = h
  failed_stands turn (Some mark) p h = by mark.kind where
    by : (kind : CopyKind) → Stands own theirs (peer_failed turn (Some (record mark { kind = kind })) p)
    by RecordCopy = (h.0, h.1, λ e. absurd (cc))
    by kind = h

  pub freed_stands : (b : Bool) (p : Peer) → Stands own theirs p → Stands own theirs (cond b (area_off p) (same_peer p)).local
  freed_stands true p h = (λ y e. (let t : 0 ≡ 1 = sym (bit_at-zero (field_number y)) ∙ e in absurd (cc)), λ e. absurd (cc), h.2)
  freed_stands false p h = h

  pub told_stands : (b : Bool) (v : ℕ) (p : Peer) → Stands own theirs p → Stands own theirs (cond b (with_reason (Some (OtherGoingDown v)) p) p)
  told_stands true v p h = h
  told_stands false v p h = h

  pub booted_stands : (p : Peer) → Stands own theirs (booted_peer p)
  booted_stands p = (λ y e. (let t : 0 ≡ 1 = sym (bit_at-zero (field_number y)) ∙ e in absurd (cc)), λ e. absurd (cc), λ e. absurd (cc))

pub map_stands : (own own' : RecordField → Type 0) (theirs theirs' : Type 0) (p : Peer) → ((x : RecordField) → own x → own' x) → (theirs → theirs') → Stands own theirs p → Stands own' theirs' p
map_stands own own' theirs theirs' p f g h = (λ y e. f y (h.0 y e), λ e y. f y (h.1 e y), λ e. g (h.2 e))
