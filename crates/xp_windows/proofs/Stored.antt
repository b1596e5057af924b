-- Which words of the own memory for a partner were stored since it is free: their bits, how many are
-- left, and that none is where all bits stand.
use Rattle.std.proofs.Common.{◌≡◌, ℕ, zero, suc, ◌+◌, ◌-◌, ◌*◌, ◌<◌, ◌≤◌, Bool, true, false, ◌&&◌, ◌||◌, List, [], ◌∷◌, refl, ap, sym, ◌∙◌, subst, arith, inl, inr, ◌⊎◌, Option, Some, None}
use Rattle.std.specs.Prelude.{is_some, not, nat_eq, if◌then◌else◌}
use Rattle.std.proofs.lemmas.Bool.Decides.{nat_tests}
use Rattle.xp_base.specs.declared.reason.Reason.{Reason}
use Rattle.xp_base.specs.History.{Turn}
use Rattle.xp_script.specs.declared.part.ScenarioPart.{ScenarioPart}
use Rattle.xp_protocol.specs.declared.contact.PartnerState.TheVariants.{Requested, Activating}
use Rattle.xp_protocol.specs.declared.rule.PeerRule.{PeerRule}
use Rattle.xp_protocol.specs.declared.rule.PeerRule.TheVariants.{AskActivation, TakeFlags, CloseArea, ZeroMagic, ClearOldBit, Prepare, OpenArea, SetEngagementBit, ReadRecord, StoreEcho, StoreSecond, ClearEngagementBit, LookAtPage, CheckBeat, ClearDeactivationBit, TellPartner}
use Rattle.xp_protocol.specs.State.{State, Old, Ready, Peer, PeerGoing, Engage, Reading, cold_peer, peer_of}
use Rattle.xp_protocol.specs.Peering.{Here, is_bad_flags, is_magic, is_wrong, has_shown, peer_can, peer_effect, prepared, record_read, contact_made, same_peer, area_left_for, copy_ended, with_reason}
use Rattle.xp_protocol.specs.Acts.{unwanted}
use Rattle.xp_protocol.specs.Runs.{May, after_step, after_turn, acted, turn_counted}
use Rattle.xp_protocol.proofs.Frames.{cond_peer}
use Rattle.xp_windows.specs.Windows.{middle}
use Rattle.xp_windows.proofs.PeerFrames.{ActsLeave, StepsLeave, acts_leave, made_leaves}
use Rattle.std.specs.Prelude.{bit_or, ◌^◌}
use Rattle.std.specs.Int.{bit_at}
use Rattle.std.proofs.lemmas.Nat.Bits.{bit_at_or, bit_at-pow_same, bit_at-pow_other, same_from_bits_below, bit_at-lt, bit_at-zero, bit_at_mask_inside, bit_at_mask_below}
use Rattle.std.proofs.lemmas.Nat.{or_lt, pow_pos, pow_below}
use Rattle.std.proofs.lemmas.Bool.{cases_eq, cases_lt}
use Rattle.xp_protocol.specs.declared.rule.AreaWord.{AreaWord}
use Rattle.xp_protocol.specs.declared.rule.AreaWord.TheVariants.{SessionWord, EchoWord, PlaceWord, ArgsWord, FlagWord, CounterWord}
use Rattle.xp_protocol.specs.declared.rule.RecordField.{RecordField}
use Rattle.xp_protocol.specs.declared.rule.RecordField.TheVariants.{ArgsPlace, CountersPlace, FlagPlace, ChannelCount, Spare}
use Rattle.xp_protocol.specs.Peering.{field_number, IsAreaWord, area_off, booted_peer}
use Rattle.xp_script.specs.declared.part.Link.{Link as ScenarioLink}
use Rattle.xp_protocol.specs.State.{base_peer, warm_peer}
use Rattle.xp_protocol.specs.Runs.{start}
use Rattle.xp_plan.specs.PeerSteps.{unset_from}
use Rattle.xp_windows.proofs.PeerFrames.{moment_leaves, start_has}

-- how many of n bits from bit k on aresomet set
abbrev one_if : Bool → ℕ
one_if b = if b then 1 else 0

abbrev pub unset : ℕ → ℕ → ℕ → ℕ
unset k zero mask = 0
unset k (suc n) mask = one_if (nat_eq (bit_at mask k) 0) + unset (k + 1) n mask

-- another bit that is set leaves no more of them
set_less : (a b : ℕ) (c d : Bool) → nat_eq a 0 ≡ c → nat_eq b 0 ≡ d → (b ≡ 0 → a ≡ 0) → one_if d ≤ one_if c
set_less a b true true e f h = omega arith
set_less a b true false e f h = omega arith
set_less a b false true e f h = absurd (let z : b ≡ 0 = grind (arith, nat_tests) in let y = h z in let n : a ≡ 0 → ⊥ = none a e in n y) where
  none : (x : ℕ) → nat_eq x 0 ≡ false → x ≡ 0 → ⊥
  none x g i = grind (arith, nat_tests)
set_less a b false false e f h = omega arith

unset_most : (k n mask more : ℕ) → unset k n (bit_or mask more) ≤ unset k n mask
unset_most k zero mask more = omega arith
unset_most k (suc n) mask more =
    let l = unset_most (k + 1) n mask more in
    let b = bit_at_or mask more k in
    let h = set_less (bit_at mask k) (bit_at (bit_or mask more) k) (nat_eq (bit_at mask k) 0) (nat_eq (bit_at (bit_or mask more) k) 0) refl refl (λ z. omega (arith, b, z)) in
    omega (arith, l, h)

one_of : (a : ℕ) (b : Bool) → nat_eq a 0 ≡ b → a ≡ 1 → one_if b ≡ 0
one_of a true e f = absurd (let z : a ≡ 0 = grind (arith, nat_tests) in omega (arith, z, f))
one_of a false e f = refl

set_bit : (a i : ℕ) → bit_at (bit_or a (2 ^ i)) i ≡ 1
set_bit a i = let b = bit_at_or a (2 ^ i) i in let p = bit_at-pow_same i in let m = bit_at-lt a i in omega (arith, b, p, m)

-- the first of them that issomet set is among them, and with it there is one less
pub record First (k n mask j : ℕ) : Type 0 where
  pub low : k ≤ j
  pub high : j < k + n
  pub less : unset k n (bit_or mask (2 ^ j)) < unset k n mask

pub first : (k n mask j : ℕ) → unset_from k n mask ≡ Some j → First k n mask j
first k zero mask j e = absurd (cc)
first k (suc n) mask j e = by (nat_eq (bit_at mask k) 0) refl e (λ f. first (k + 1) n mask j f) where
  by : (b : Bool) → nat_eq (bit_at mask k) 0 ≡ b → (if b then Some k else unset_from (k + 1) n mask) ≡ Some j → (unset_from (k + 1) n mask ≡ Some j → First (k + 1) n mask j) → First k (suc n) mask j
  by true f g rest =
      let i : k ≡ j = cc in
      let l = unset_most (k + 1) n mask (2 ^ j) in
      let s : bit_at (bit_or mask (2 ^ j)) k ≡ 1 = subst (λ (x : ℕ). bit_at (bit_or mask (2 ^ j)) x ≡ 1) (sym i) (set_bit mask j) in
      let z = one_of (bit_at (bit_or mask (2 ^ j)) k) (nat_eq (bit_at (bit_or mask (2 ^ j)) k) 0) refl s in
      let o : one_if (nat_eq (bit_at mask k) 0) ≡ one_if true = ap one_if f in
      record { low = omega (arith, i); high = omega (arith, i); less = omega (arith, l, z, o) }
  by false f g rest =
      let r = rest g in
      let a = r.low in
      let b = r.high in
      let c = r.less in
      let d = bit_at_or mask (2 ^ j) k in
      let h = set_less (bit_at mask k) (bit_at (bit_or mask (2 ^ j)) k) (nat_eq (bit_at mask k) 0) (nat_eq (bit_at (bit_or mask (2 ^ j)) k) 0) refl refl (λ z. omega (arith, d, z)) in
      record { low = omega (arith, a); high = omega (arith, b); less = omega (arith, c, h) }

-- where none is left all are set
all_set : (k n mask : ℕ) → unset_from k n mask ≡ None → (i : ℕ) → k ≤ i → i < k + n → bit_at mask i ≡ 0 → ⊥
all_set k zero mask e i a b z = omega (arith, a, b)
all_set k (suc n) mask e i a b z = by (nat_eq (bit_at mask k) 0) refl e (λ f c. all_set (k + 1) n mask f i c (omega (arith, b)) z) where
  none : (x : ℕ) → nat_eq x 0 ≡ false → x ≡ 0 → ⊥
  none x g h = grind (arith, nat_tests)

  by : (c : Bool) → nat_eq (bit_at mask k) 0 ≡ c → (if c then Some k else unset_from (k + 1) n mask) ≡ None → (unset_from (k + 1) n mask ≡ None → k + 1 ≤ i → ⊥) → ⊥
  by true f g rest = cc
  by false f g rest = at (cases_eq i k) where
    at : (i ≡ k) ⊎ (i ≡ k → ⊥) → ⊥
    at (inl h) = none (bit_at mask k) f (subst (λ (j : ℕ). bit_at mask j ≡ 0) h z)
    at (inr h) = rest g (omega (arith, a, h))

-- words that were marked, each by its bit: none below the first and none from the last on
pub record IsMarked (low high mask : ℕ) : Type 0 where
  pub below : (i : ℕ) → i < low → bit_at mask i ≡ 0
  pub above : mask < 2 ^ high

none_marked : (low high : ℕ) → 0 < 2 ^ high → IsMarked low high 0
none_marked low high some = record { below = λ i l. bit_at-zero i; above = some }

mark : (low high mask j : ℕ) → low ≤ j → j < high → IsMarked low high mask → IsMarked low high (bit_or mask (2 ^ j))
mark low high mask j a b h = record {
  below = λ i l. let o = bit_at_or mask (2 ^ j) i in let z = h.below i l in let p = bit_at-pow_other j i (λ e. omega (arith, a, l, e)) in omega (arith, o, z, p);
  above = or_lt high mask (2 ^ j) h.above (pow_below j high b);
}

-- where all are marked the mask is this one
pub whole_mask : (low high n mask : ℕ) → low + n ≡ high → IsMarked low high mask → unset_from low n mask ≡ None → mask ≡ 2 ^ high - 2 ^ low
whole_mask low high n mask sum h e = same_from_bits_below high mask (2 ^ high - 2 ^ low) h.above (pow-sub low high) bits where
  pow-sub : (a b : ℕ) → 2 ^ b - 2 ^ a < 2 ^ b
  pow-sub a b = let p = pow_pos a in let q = pow_pos b in omega (arith, p, q)

  bits : (i : ℕ) → i < high → bit_at mask i ≡ bit_at (2 ^ high - 2 ^ low) i
  bits i l = by (cases_lt i low) where
    by : (i < low) ⊎ (low ≤ i) → bit_at mask i ≡ bit_at (2 ^ high - 2 ^ low) i
    by (inl a) = h.below i a ∙ sym (bit_at_mask_below low high i a)
    by (inr a) =
        let m = bit_at_mask_inside low high i a l in
        let b = bit_at-lt mask i in
        let some : bit_at mask i ≡ 0 → ⊥ = all_set low n mask e i a (omega (arith, l, sum)) in
        omega (arith, m, b, some)

-- which words of the own memory were stored
pub record Words (x : Engage) : Type 0 where
  pub places : IsMarked 3 8 x.places_put
  pub args : IsMarked 0 16 x.args_put
  pub counters : IsMarked 0 8 x.counters_put

abbrev pub Stored : Peer → Type 0
Stored p = Words p.engage

same_words : (x y : Engage) → y.places_put ≡ x.places_put → y.args_put ≡ x.args_put → y.counters_put ≡ x.counters_put → Words x → Words y
same_words x y a b c h = record { places = subst (λ (m : ℕ). IsMarked 3 8 m) (sym a) h.places; args = subst (λ (m : ℕ). IsMarked 0 16 m) (sym b) h.args; counters = subst (λ (m : ℕ). IsMarked 0 8 m) (sym c) h.counters }

field_range : (y : RecordField) → (3 ≤ field_number y) × (field_number y < 8)
field_range ArgsPlace = (omega arith, omega arith)
field_range CountersPlace = (omega arith, omega arith)
field_range FlagPlace = (omega arith, omega arith)
field_range ChannelCount = (omega arith, omega arith)
field_range Spare = (omega arith, omega arith)

word_stored : (w : AreaWord) (x : Engage) → IsAreaWord w → Words x → Words (prepared w x)
word_stored SessionWord x can h = same_words x (prepared SessionWord x) refl refl refl h
word_stored EchoWord x can h = same_words x (prepared EchoWord x) refl refl refl h
word_stored FlagWord x can h = same_words x (prepared FlagWord x) refl refl refl h
word_stored (PlaceWord y) x can h = let r = field_range y in record { places = mark 3 8 x.places_put (field_number y) r.0 r.1 h.places; args = h.args; counters = h.counters }
word_stored (ArgsWord c f) x can h = record { places = h.places; args = mark 0 16 x.args_put (4 * c + f) (omega arith) (let a = can.0 in let b = can.1 in omega (arith, a, b)) h.args; counters = h.counters }
word_stored (CounterWord c f) x can h = record { places = h.places; args = h.args; counters = mark 0 8 x.counters_put (2 * c + f) (omega arith) (let a = can.0 in let b = can.1 in omega (arith, a, b)) h.counters }

free_words : (x : Engage) → x.places_put ≡ 0 → x.args_put ≡ 0 → x.counters_put ≡ 0 → Words x
free_words x a b c = record { places = subst (λ (m : ℕ). IsMarked 3 8 m) (sym a) (none_marked 3 8 (omega arith)); args = subst (λ (m : ℕ). IsMarked 0 16 m) (sym b) (none_marked 0 16 (omega arith)); counters = subst (λ (m : ℕ). IsMarked 0 8 m) (sym c) (none_marked 0 8 (omega arith)) }

pub stored_acts : ActsLeave Stored
stored_acts = record { linked = λ p links h. h; unwanted = λ p h. same_words p.engage (unwanted p).engage refl refl refl h; wanted = λ p h. h }

left_stored : (o : Option Reason) (p : Peer) → Stored p → Stored (area_left_for o p).local
left_stored None p h = h
left_stored (Some r) p h = same_words p.engage (area_left_for (Some r) p).local.engage refl refl refl h

contact_stored : (b : Bool) (turn stamp : ℕ) (p : Peer) → Stored p → Stored (if b then contact_made turn stamp p else same_peer p).local
contact_stored true turn stamp p h = same_words p.engage (contact_made turn stamp p).local.engage refl refl refl h
contact_stored false turn stamp p h = h

with_words : (p : Peer) (x : Engage) → x.places_put ≡ p.engage.places_put → x.args_put ≡ p.engage.args_put → x.counters_put ≡ p.engage.counters_put → Stored p → Stored (record p { engage = x })
with_words p x a b c h = same_words p.engage x a b c h

read_stored : (y : Here) (p : Peer) (o : Option Reading) (w : ℕ) → Stored p → Stored (record_read y p o w).local
read_stored y p None w h = cond_peer Stored (nat_eq w 0) _ _ (with_words p (record p.engage { back_off = p.engage.back_off || not (is_some p.engage.echo) }) refl refl refl h) (cond_peer Stored (is_magic w) _ _ (with_words p (record p.engage { reading = Some (record { done = 1; after_echo = is_some p.engage.echo; magic = w; echo = 0 }) }) refl refl refl h) h)
read_stored y p (Some r) w h =
    cond_peer Stored (nat_eq r.done 1) _ _ (with_words p (record p.engage { read = Some w; reading = Some (record r { done = 2 }) }) refl refl refl h)
    (cond_peer Stored (nat_eq r.done 2) _ _ (with_words p (record p.engage { reading = Some (record r { done = 3; echo = w }) }) refl refl refl h)
    (cond_peer Stored (nat_eq r.done 7) _ _
    (cond_peer Stored (has_shown y.stamp p.engage r) _ _ (contact_stored (p.engage.second && (true && not (is_some p.contact))) y.turn y.stamp (record p { engage = record p.engage { shown = true; reading = None } }) (with_words p (record p.engage { shown = true; reading = None }) refl refl refl h)) (with_words p (record p.engage { reading = None }) refl refl refl h))
    (cond_peer Stored (is_wrong y.part r.done w) _ _ (with_words p (record p.engage { reading = None }) refl refl refl h) (with_words p (record p.engage { reading = Some (record r { done = r.done + 1 }) }) refl refl refl h))))

abbrev Whatever : Peer → PeerRule → Type 0
Whatever p m = Unit {0}

stored_word : (y : Here) (p : Peer) (g : PeerGoing) (m : PeerRule) (w : ℕ) → peer_can y p m → Stored p → Stored (peer_effect y (record p { numbers = g }) m w).local
stored_word y p g AskActivation w can h = with_words p (record p.engage { state = Requested }) refl refl refl h
stored_word y p g TakeFlags w can h = cond_peer Stored (is_bad_flags w) _ _ h h
stored_word y p g CloseArea w can h = left_stored p.engage.reason (record p { numbers = g }) h
stored_word y p g ZeroMagic w can h = with_words p (record p.engage { zeroed = true }) refl refl refl h
stored_word y p g ClearOldBit w can h = with_words p (record p.engage { cleared = true }) refl refl refl h
stored_word y p g (Prepare x) w can h = word_stored x p.engage can.1 h
stored_word y p g OpenArea w can h = with_words p (record p.engage { area = Ready; count = p.engage.count + 1; second = false; shown = false; back_off = false }) refl refl refl h
stored_word y p g SetEngagementBit w can h = with_words p (record p.engage { bit = true; state = Activating; read = None; reading = None; back_off = false }) refl refl refl h
stored_word y p g ReadRecord w can h = read_stored y (record p { numbers = g }) p.engage.reading w h
stored_word y p g StoreEcho w can h = with_words p (record p.engage { echo = p.engage.read; back_off = false }) refl refl refl h
stored_word y p g StoreSecond w can h = contact_stored (true && (p.engage.shown && not (is_some p.contact))) y.turn y.stamp (record p { numbers = g; engage = record p.engage { second = true } }) (with_words p (record p.engage { second = true }) refl refl refl h)
stored_word y p g ClearEngagementBit w can h = same_words p.engage (peer_effect y (record p { numbers = g }) ClearEngagementBit w).local.engage refl refl refl h
stored_word y p g LookAtPage w can h = cond_peer Stored _ _ _ h h
stored_word y p g CheckBeat w can h = h
stored_word y p g ClearDeactivationBit w can h = with_words p (record p.engage { deactivation_cleared = true }) refl refl refl h
stored_word y p g TellPartner w can h = with_words p (record p.engage { told = true }) refl refl refl h

pub stored_steps : StepsLeave Whatever Stored
stored_steps = record {
  linked = λ p links going some h. h;
  reasoned = λ o p h. same_words p.engage (with_reason o p).engage refl refl refl h;
  ended = λ turn kind p m k n h. same_words p.engage (copy_ended turn kind p).engage refl refl refl h;
  freed = λ p l h. free_words (area_off p).local.engage refl refl refl;
  steps = λ y p g m w can n h. stored_word y p g m w can h;
}

pub stored_first : (s : ScenarioPart) (q : ℕ) → Stored (peer_of (start s) q)
stored_first s q = start_has Stored s q base (λ b l p h. free_words (warm_peer b l p).engage refl refl refl) (λ p. free_words (booted_peer p).engage refl refl refl) (free_words (cold_peer Old).engage refl refl refl) where
  base : (ls : List ScenarioLink) → Stored (base_peer ls)
  base [] = free_words (base_peer []).engage refl refl refl
  base (l ∷ ls) = free_words (base_peer (l ∷ ls)).engage refl refl refl

pub stored_next : (s : ScenarioPart) (q : ℕ) (st : State) (t : Turn) → May s st t → Stored (peer_of st q) → Stored (peer_of (after_turn s st t) q)
stored_next s q st t may h =
    moment_leaves Stored s q st.clock.puts (turn_counted (acted s st t)) (λ p. free_words (booted_peer p).engage refl refl refl) (free_words (cold_peer Old).engage refl refl refl)
    (acts_leave Stored s q stored_acts (after_step s (middle s st t) t.made) t.after (made_leaves Stored s q Whatever stored_steps (middle s st t) t.made may.made (λ x r f g m i. tt) (acts_leave Stored s q stored_acts st t.before h)))
