-- The own memory for a partner that is wanted is prepared and opened in one visit: its errand has as
-- many turns as there are steps at most, and each of them leaves one less.
use Rattle.std.proofs.Common.{◌≡◌, ℕ, zero, suc, ◌+◌, ◌-◌, ◌*◌, ◌<◌, ◌≤◌, Bool, true, false, ◌&&◌, ◌||◌, List, [], ◌∷◌, length, refl, ap, sym, ◌∙◌, subst, arith, inl, inr, ◌⊎◌, get_or-set_same, Option, Some, None}
use Rattle.std.specs.Prelude.{is_some, not, nat_lt, nat_eq, if◌then◌else◌}
use Rattle.std.proofs.lemmas.Bool.{cases_lt}
use Rattle.std.proofs.lemmas.List.{get_or_past}
use Rattle.std.proofs.lemmas.Bool.Decides.{nat_tests}
use Rattle.xp_base.specs.declared.step.Answer.{Answer}
use Rattle.xp_base.specs.declared.step.Answer.TheVariants.{Word, Failed}
use Rattle.xp_base.specs.declared.step.CopyMark.{CopyMark}
use Rattle.xp_base.specs.History.{Act, Marked, Turn}
use Rattle.xp_script.specs.declared.part.ScenarioPart.{ScenarioPart}
use Rattle.xp_rounds.specs.declared.rounds.TheConstants.{VISIT_TURNS}
use Rattle.xp_rounds.specs.Visit.{Visit}
use Rattle.xp_rounds.proofs.Sources.{Paced}
use Rattle.xp_rounds.proofs.Duties.{Along, Moved}
use Rattle.xp_rounds.proofs.Asides.{Duty, done}
use Rattle.xp_rounds.proofs.Spots.{Spot}
use Rattle.xp_protocol.specs.declared.rule.PeerRule.{PeerRule}
use Rattle.xp_protocol.specs.declared.rule.PeerRule.TheVariants.{AskActivation, TakeFlags, CloseArea, ZeroMagic, ClearOldBit, Prepare, OpenArea, SetEngagementBit, ReadRecord, StoreEcho, StoreSecond, ClearEngagementBit, LookAtPage, CheckBeat, ClearDeactivationBit, TellPartner}
use Rattle.xp_protocol.specs.declared.rule.Rule.{Rule}
use Rattle.xp_protocol.specs.declared.rule.Rule.TheVariants.{Peer as ForPeer}
use Rattle.xp_protocol.specs.Parts.{fails_at}
use Rattle.xp_protocol.specs.State.{State, Old, Off, Ready, Leaving, Area, Peer, PeerGoing, Engage, cold_peer, peer_at, peer_of}
use Rattle.xp_protocol.specs.Peering.{Here, is_ready, is_left, is_bad_flags, peer_can, peer_effect, prepared, with_reason}
use Rattle.xp_protocol.specs.Rules.{here_of, mark_of, peer_answered, after_answer}
use Rattle.xp_protocol.specs.Acts.{after_acts}
use Rattle.xp_protocol.specs.Runs.{MayMake, after_ruled, after_step, after_turn, is_failed}
use Rattle.xp_protocol.proofs.Frames.{cond_peer}
use Rattle.xp_plan.specs.declared.errand.Errand.{Errand}
use Rattle.xp_plan.specs.declared.errand.Errand.TheVariants as errands
use Rattle.xp_plan.specs.EndSteps.{step_if}
use Rattle.xp_plan.specs.Plan.{asked, is_joined, plan_of}
use Rattle.xp_windows.specs.Windows.{middle, Steps, IsFor, IsUp, SomeTurn}
use Rattle.xp_windows.proofs.Held.{Held}
use Rattle.xp_windows.specs.Visited.{rule_by, rule_made}
use Rattle.xp_windows.proofs.Places.{Turns, first_holds, asks}
use Rattle.xp_windows.proofs.Asked.{steps_by}
use Rattle.xp_windows.proofs.Copies.{whole as fit}
use Rattle.xp_windows.proofs.Lives.{on_turn}
use Rattle.xp_windows.proofs.PeerFrames.{ActsLeave, acts_leave}
use Rattle.xp_windows.proofs.Looks.{Tied}
use Rattle.xp_windows.proofs.Facts.{Facts, Pacing, pacing_next, facts_mid, apart_fits}
use Rattle.std.specs.Prelude.{bit_or, ◌^◌, ◌/◌, ◌%◌}
use Rattle.std.specs.Int.{bit_at}
use Rattle.std.proofs.lemmas.Nat.Bits.{bit_at_or, bit_at-pow_same, bit_at-lt}
use Rattle.xp_protocol.specs.declared.rule.AreaWord.{AreaWord}
use Rattle.xp_protocol.specs.declared.rule.AreaWord.TheVariants.{SessionWord, EchoWord, PlaceWord, ArgsWord, FlagWord, CounterWord}
use Rattle.xp_protocol.specs.declared.rule.OwnRule.TheVariants.{StoreMask}
use Rattle.xp_protocol.specs.declared.rule.Rule.TheVariants.{Own}
use Rattle.xp_protocol.specs.Peering.{field_number, is_off, is_prepared, is_masked, is_flagged, is_open, may_open, mask_from}
use Rattle.xp_plan.specs.PeerSteps.{unset_from, field_of, place_word, args_word, counter_word, words_missing, word_missing, open_step, prepare_by, prepare_free, prepare_at}
use Rattle.xp_plan.specs.EndSteps.{or_else}
use Rattle.xp_windows.specs.Windows.{IsWanted}
use Rattle.xp_windows.proofs.PeerFrames.{Awaits, turn_awaits}
use Rattle.xp_windows.proofs.Lives.{acts_leave as partition_leaves}
use Rattle.xp_windows.proofs.Stored.{unset, first, whole_mask, Words}
use Rattle.xp_windows.proofs.Facts.{fits_prepare}

-- free memory, whose count isn't spent
abbrev pub Free : Engage → Type 0
Free x = (x.area ≡ Off) × (x.count < 4294967295)

off_ready : (a : Area) → a ≡ Off → a ≡ Ready → ⊥
off_ready a e f = let g : Off ≡ Ready = sym e ∙ f in cc

off_leaving : (a : Area) → a ≡ Off → a ≡ Leaving → ⊥
off_leaving a e f = let g : Off ≡ Leaving = sym e ∙ f in cc

off_left : (a : Area) (bit : Bool) → a ≡ Off → is_left (record (cold_peer Old).engage { area = a; bit = bit }) ≡ true → ⊥
off_left Off bit e f = cc
off_left Ready bit e f = absurd (cc)
off_left Old bit e f = absurd (cc)
off_left Leaving bit e f = absurd (cc)

word_free : (w : AreaWord) (x : Engage) → Free x → Free (prepared w x)
word_free SessionWord x h = h
word_free EchoWord x h = h
word_free FlagWord x h = h
word_free (PlaceWord y) x h = h
word_free (ArgsWord c f) x h = h
word_free (CounterWord c f) x h = h

abbrev Any : Peer → PeerRule → Type 0
Any p m = Unit {0}

open_steps : (y : Here) (p : Peer) (g : PeerGoing) (m : PeerRule) (w : ℕ) → peer_can y p m → Any p m → Free p.engage → (m ≡ OpenArea) ⊎ Free (peer_effect y (record p { numbers = g }) m w).local.engage
open_steps y p g AskActivation w can n h = inr h
open_steps y p g TakeFlags w can n h = inr (cond_peer (λ (x : Peer). Free x.engage) (is_bad_flags w) _ _ h h)
open_steps y p g CloseArea w can n h = absurd (off_ready p.engage.area h.0 can.0)
open_steps y p g ZeroMagic w can n h = inr h
open_steps y p g ClearOldBit w can n h = inr h
open_steps y p g (Prepare x) w can n h = inr (word_free x p.engage h)
open_steps y p g OpenArea w can n h = inl refl
open_steps y p g SetEngagementBit w can n h = absurd (off_ready p.engage.area h.0 can.0)
open_steps y p g ReadRecord w can n h = absurd (off_ready p.engage.area h.0 can.0)
open_steps y p g StoreEcho w can n h = absurd (off_ready p.engage.area h.0 can.0)
open_steps y p g StoreSecond w can n h = absurd (off_ready p.engage.area h.0 can.0)
open_steps y p g ClearEngagementBit w can n h = absurd (by can.2) where
  by : ((p.engage.area ≡ Ready) × (p.engage.reason ≡ None) × (p.engage.echo ≡ None) × (p.engage.back_off ≡ true)) ⊎ ((p.engage.area ≡ Leaving) × (p.engage.told ≡ true)) → ⊥
  by (inl c) = off_ready p.engage.area h.0 c.0
  by (inr c) = off_leaving p.engage.area h.0 c.0
open_steps y p g LookAtPage w can n h = inr (cond_peer (λ (x : Peer). Free x.engage) _ _ _ h h)
open_steps y p g CheckBeat w can n h = inr h
open_steps y p g ClearDeactivationBit w can n h = inr h
open_steps y p g TellPartner w can n h = absurd (off_leaving p.engage.area h.0 can.0)

pub open_awaits : Awaits Any (λ p. Free p.engage) OpenArea
open_awaits = record {
  acts = record { linked = λ p links h. h; unwanted = λ p h. h; wanted = λ p h. h };
  linked = λ p links going h. h;
  reasoned = λ o p h. h;
  ended = λ turn kind p m k h. inr h;
  freed = λ p l h. off_left p.engage.area p.engage.bit h.0 l;
  steps = open_steps;
}

-- the steps that are left
abbrev pub one : Bool → ℕ
one done = if done then 0 else 1

abbrev pub words_left : Engage → ℕ
words_left x = unset 3 5 x.places_put + unset 0 16 x.args_put + unset 0 8 x.counters_put

abbrev pub area_left : Engage → ℕ
area_left x = one x.deactivation_cleared + one x.session_put + one x.echo_put + one x.flags_put + words_left x

abbrev pub steps_left : Bool → Engage → ℕ
steps_left masked x = area_left x + one masked

one_few : (b : Bool) → one b ≤ 1
one_few true = omega arith
one_few false = omega arith

unset_few : (k n mask : ℕ) → unset k n mask ≤ n
unset_few k zero mask = omega arith
unset_few k (suc n) mask = let l = unset_few (k + 1) n mask in let b = bit_few (nat_eq (bit_at mask k) 0) in omega (arith, l, b) where
  bit_few : (b : Bool) → (if b then 1 else 0) ≤ 1
  bit_few true = omega arith
  bit_few false = omega arith

pub steps_few : (masked : Bool) (x : Engage) → steps_left masked x ≤ 34
steps_few masked x =
    let a = one_few x.deactivation_cleared in
    let b = one_few x.session_put in
    let c = one_few x.echo_put in
    let d = one_few x.flags_put in
    let e = one_few masked in
    let f = unset_few 3 5 x.places_put in
    let g = unset_few 0 16 x.args_put in
    let h = unset_few 0 8 x.counters_put in
    omega (arith, a, b, c, d, e, f, g, h)

-- a missing word is stored
field_is : (j : ℕ) → 3 ≤ j → j < 8 → field_number (field_of j) ≡ j
field_is zero a b = absurd (omega (arith, a))
field_is (suc zero) a b = absurd (omega (arith, a))
field_is (suc (suc zero)) a b = absurd (omega (arith, a))
field_is (suc (suc (suc zero))) a b = refl
field_is (suc (suc (suc (suc zero)))) a b = refl
field_is (suc (suc (suc (suc (suc zero))))) a b = refl
field_is (suc (suc (suc (suc (suc (suc zero)))))) a b = refl
field_is (suc (suc (suc (suc (suc (suc (suc zero))))))) a b = refl
field_is (suc (suc (suc (suc (suc (suc (suc (suc j)))))))) a b = absurd (omega (arith, b))

missing_less : (x : Engage) (w : AreaWord) → words_missing x ≡ Some w → area_left (prepared w x) < area_left x
missing_less x w e = by (unset_from 3 5 x.places_put) refl e where
  places : (j : ℕ) → unset_from 3 5 x.places_put ≡ Some j → PlaceWord (field_of j) ≡ w → area_left (prepared w x) < area_left x
  places j f i = subst (λ (y : AreaWord). area_left (prepared y x) < area_left x) i (let z = first 3 5 x.places_put j f in let l = subst (λ (k : ℕ). unset 3 5 (bit_or x.places_put (2 ^ k)) < unset 3 5 x.places_put) (sym (field_is j z.low z.high)) z.less in omega (arith, l))

  args : (j : ℕ) → unset_from 0 16 x.args_put ≡ Some j → ArgsWord (j / 4) (j % 4) ≡ w → area_left (prepared w x) < area_left x
  args j f i = subst (λ (y : AreaWord). area_left (prepared y x) < area_left x) i (let z = first 0 16 x.args_put j f in let d : 4 * (j / 4) + j % 4 ≡ j = omega arith in let l = subst (λ (k : ℕ). unset 0 16 (bit_or x.args_put (2 ^ k)) < unset 0 16 x.args_put) (sym d) z.less in omega (arith, l))

  counters : (j : ℕ) → unset_from 0 8 x.counters_put ≡ Some j → CounterWord (j / 2) (j % 2) ≡ w → area_left (prepared w x) < area_left x
  counters j f i = subst (λ (y : AreaWord). area_left (prepared y x) < area_left x) i (let z = first 0 8 x.counters_put j f in let d : 2 * (j / 2) + j % 2 ≡ j = omega arith in let l = subst (λ (k : ℕ). unset 0 8 (bit_or x.counters_put (2 ^ k)) < unset 0 8 x.counters_put) (sym d) z.less in omega (arith, l))

  last : (o : Option ℕ) → unset_from 0 8 x.counters_put ≡ o → counter_word o ≡ Some w → area_left (prepared w x) < area_left x
  last None f g = absurd (cc)
  last (Some j) f g = counters j f (cc)

  more : (o : Option ℕ) → unset_from 0 16 x.args_put ≡ o → or_else (args_word o) (counter_word (unset_from 0 8 x.counters_put)) ≡ Some w → area_left (prepared w x) < area_left x
  more None f g = last (unset_from 0 8 x.counters_put) refl g
  more (Some j) f g = args j f (cc)

  by : (o : Option ℕ) → unset_from 3 5 x.places_put ≡ o → or_else (place_word o) (or_else (args_word (unset_from 0 16 x.args_put)) (counter_word (unset_from 0 8 x.counters_put))) ≡ Some w → area_left (prepared w x) < area_left x
  by None f g = more (unset_from 0 16 x.args_put) refl g
  by (Some j) f g = places j f (cc)

word_less : (x : Engage) (w : AreaWord) → word_missing x ≡ Some w → area_left (prepared w x) < area_left x
word_less x w e = by x.session_put x.echo_put x.flags_put refl refl refl e where
  by : (a b c : Bool) → x.session_put ≡ a → x.echo_put ≡ b → x.flags_put ≡ c → (if not a then Some SessionWord else (if not b then Some EchoWord else (if not c then Some FlagWord else words_missing x))) ≡ Some w → area_left (prepared w x) < area_left x
  by false b c f g h i = subst (λ (y : AreaWord). area_left (prepared y x) < area_left x) (let j : SessionWord ≡ w = cc in j) (let l = ap one f in omega (arith, l))
  by true false c f g h i = subst (λ (y : AreaWord). area_left (prepared y x) < area_left x) (let j : EchoWord ≡ w = cc in j) (let l = ap one g in omega (arith, l))
  by true true false f g h i = subst (λ (y : AreaWord). area_left (prepared y x) < area_left x) (let j : FlagWord ≡ w = cc in j) (let l = ap one h in omega (arith, l))
  by true true true f g h i = missing_less x w i

-- where no word is missing the memory is prepared
none_three : (a b c : Option ℕ) → or_else (place_word a) (or_else (args_word b) (counter_word c)) ≡ None → (a ≡ None) × (b ≡ None) × (c ≡ None)
none_three None None None e = (refl, refl, refl)
none_three None None (Some c) e = absurd (cc)
none_three None (Some b) c e = absurd (cc)
none_three (Some a) b c e = absurd (cc)

eq_true : (a b : ℕ) → a ≡ b → nat_eq a b ≡ true
eq_true a b e = grind (arith, nat_tests)

lt_true : (a b : ℕ) → a < b → nat_lt a b ≡ true
lt_true a b e = grind (arith, nat_tests)

all_true : (a b c d e f g h : Bool) → a ≡ true → b ≡ true → c ≡ true → d ≡ true → e ≡ true → f ≡ true → g ≡ true → h ≡ true → (a && (b && (c && (d && (e && (f && (g && h))))))) ≡ true
all_true a b c d e f g h i j k l m n o p = rw (i, j, k, l, m, n, o, p) refl

whole : (x : Engage) → Words x → x.count < 4294967295 → x.deactivation_cleared ≡ true → word_missing x ≡ None → is_prepared x ≡ true
whole x s few cleared e = by x.session_put x.echo_put x.flags_put refl refl refl e where
  by : (a b c : Bool) → x.session_put ≡ a → x.echo_put ≡ b → x.flags_put ≡ c → (if not a then Some SessionWord else (if not b then Some EchoWord else (if not c then Some FlagWord else words_missing x))) ≡ None → is_prepared x ≡ true
  by false b c f g h i = absurd (cc)
  by true false c f g h i = absurd (cc)
  by true true false f g h i = absurd (cc)
  by true true true f g h i =
      let n = none_three (unset_from 3 5 x.places_put) (unset_from 0 16 x.args_put) (unset_from 0 8 x.counters_put) i in
      let places : x.places_put ≡ 248 = whole_mask 3 8 5 x.places_put refl s.places n.0 in
      let args : x.args_put ≡ 65535 = whole_mask 0 16 16 x.args_put refl s.args n.1 in
      let counters : x.counters_put ≡ 255 = whole_mask 0 8 8 x.counters_put refl s.counters n.2 in
      all_true x.session_put x.echo_put x.flags_put (nat_eq x.counters_put 255) (nat_lt x.count 4294967295) x.deactivation_cleared (nat_eq x.places_put 248) (nat_eq x.args_put 65535) f g h (eq_true x.counters_put 255 counters) (lt_true x.count 4294967295 few) cleared (eq_true x.places_put 248 places) (eq_true x.args_put 65535 args)

-- the mask that is stored has the bit of a partner whose memory is prepared
mask_has : (n k : ℕ) (peers : List Peer) → k < length peers → is_masked (peer_at peers k) ≡ true → bit_at (mask_from n peers) (n + k) ≡ 1
mask_has n k [] l m = absurd (omega (arith, l))
mask_has n zero (p ∷ ps) l m =
    let o = bit_at_or (if is_masked p then 2 ^ n else 0) (mask_from (n + 1) ps) n in
    let i : (if is_masked p then 2 ^ n else 0) ≡ 2 ^ n = ap (λ (b : Bool). if b then 2 ^ n else 0) m in
    let s : bit_at (if is_masked p then 2 ^ n else 0) n ≡ 1 = ap (λ (z : ℕ). bit_at z n) i ∙ bit_at-pow_same n in
    let t = bit_at-lt (mask_from (n + 1) ps) n in
    let e : n + 0 ≡ n = omega arith in
    subst (λ (j : ℕ). bit_at (mask_from n (p ∷ ps)) j ≡ 1) (sym e) (omega (arith, o, s, t))
mask_has n (suc k) (p ∷ ps) l m =
    let h = mask_has (n + 1) k ps (omega (arith, l)) m in
    let e : n + 1 + k ≡ n + suc k = omega arith in
    let o = bit_at_or (if is_masked p then 2 ^ n else 0) (mask_from (n + 1) ps) (n + suc k) in
    let t = bit_at-lt (if is_masked p then 2 ^ n else 0) (n + suc k) in
    let g : bit_at (mask_from (n + 1) ps) (n + suc k) ≡ 1 = subst (λ (j : ℕ). bit_at (mask_from (n + 1) ps) j ≡ 1) e h in
    omega (arith, o, t, g)

or_right : (a b : Bool) → b ≡ true → (a || b) ≡ true
or_right true b e = refl
or_right false b e = e

opens_mask : (p : Peer) → p.engage.area ≡ Off → p.wanted ≡ true → is_prepared p.engage ≡ true → is_masked p ≡ true
opens_mask p off wanted whole = or_right (is_open p.engage.area) (may_open p) (ap (λ (a : Area). is_off a && (p.wanted && is_prepared p.engage)) off ∙ ap (λ (b : Bool). b && is_prepared p.engage) wanted ∙ whole)

flag_set : (mask q : ℕ) → bit_at mask q ≡ 1 → is_flagged mask q ≡ true
flag_set mask q e = eq_true (bit_at mask q) 1 e

-- what the errand asks for, and what is left after it
module _ (s : ScenarioPart) (q : ℕ) where
  abbrev pub Left : State → ℕ
  Left st = steps_left (is_flagged st.beats.mask q) (peer_of st q).engage

  offered : (a b c : Bool) (z : Option Rule) → a ≡ true → b ≡ true → c ≡ true → (if a && (b && c) then z else None) ≡ z
  offered true true true z e f g = refl
  offered true true false z e f g = absurd (cc)
  offered true false c z e f g = absurd (cc)
  offered false b c z e f g = absurd (cc)

  prepares : (st : State) → Free (peer_of st q).engage → (peer_of st q).wanted ≡ true → prepare_at (is_flagged st.beats.mask q) q (peer_of st q) ≡ prepare_free (is_flagged st.beats.mask q) q (peer_of st q).engage
  prepares st free wanted = offered (is_off (peer_of st q).engage.area) (peer_of st q).wanted (nat_lt (peer_of st q).engage.count 4294967295) _ (ap (λ (a : Area). is_off a) free.0) wanted (lt_true (peer_of st q).engage.count 4294967295 free.1)

  -- the next step: it opens the memory, or one less is left after it
  pub record Next (st : State) : Type 0 where
    pub rule : Rule
    pub is : prepare_at (is_flagged st.beats.mask q) q (peer_of st q) ≡ Some rule
    pub makes : (rule ≡ ForPeer q OpenArea) ⊎ ((mark_of s st rule ≡ None) × (0 < Left st) × ((w : ℕ) → Left (after_answer s st rule (Word w)) < Left st))

  -- in range
  there : (st : State) → (peer_of st q).engage.area ≡ Off → q < length st.peers
  there st e = by (cases_lt q (length st.peers)) where
    by : (q < length st.peers) ⊎ (length st.peers ≤ q) → q < length st.peers
    by (inl l) = l
    by (inr l) = absurd (let f : Old ≡ Off = sym (ap (λ (p : Peer). p.engage.area) (get_or_past st.peers q (cold_peer Old) l)) ∙ e in cc)

  for_left : (st : State) (m : PeerRule) (w : ℕ) (x : Engage) → q < length st.peers → (let f = peer_answered (here_of s st q) (mark_of s st (ForPeer q m)) (peer_of st q) m (Word w) in steps_left (is_flagged st.beats.mask q) (with_reason f.reason f.local).engage < Left st) → Left (after_answer s st (ForPeer q m) (Word w)) < Left st
  for_left st m w x low h =
      let f = peer_answered (here_of s st q) (mark_of s st (ForPeer q m)) (peer_of st q) m (Word w) in
      subst (λ (p : Peer). steps_left (is_flagged st.beats.mask q) p.engage < Left st) (sym (get_or-set_same st.peers q (with_reason f.reason f.local) (cold_peer Old) low)) h

  masked_by : (st : State) (b : Bool) → is_flagged st.beats.mask q ≡ b → Free (peer_of st q).engage → (peer_of st q).wanted ≡ true → is_prepared (peer_of st q).engage ≡ true → prepare_at (is_flagged st.beats.mask q) q (peer_of st q) ≡ Some (open_step (is_flagged st.beats.mask q) q) → Next st
  masked_by st true e free wanted done is = record { rule = ForPeer q OpenArea; is = is ∙ ap (λ (b : Bool). Some (open_step b q)) e; makes = inl refl }
  masked_by st false e free wanted done is =
      let g = flag_set (mask_from 0 st.peers) q (subst (λ (j : ℕ). bit_at (mask_from 0 st.peers) j ≡ 1) (let z : 0 + q ≡ q = omega arith in z) (mask_has 0 q st.peers (there st free.0) (opens_mask (peer_of st q) free.0 wanted done))) in
      let a = ap one g in
      let b = ap one e in
      record { rule = Own StoreMask; is = is ∙ ap (λ (b : Bool). Some (open_step b q)) e; makes = inr (refl, omega (arith, b), λ w. omega (arith, a, b)) }

  words_by : (st : State) (o : Option AreaWord) → word_missing (peer_of st q).engage ≡ o → Free (peer_of st q).engage → (peer_of st q).wanted ≡ true → Words (peer_of st q).engage → (peer_of st q).engage.deactivation_cleared ≡ true → prepare_at (is_flagged st.beats.mask q) q (peer_of st q) ≡ prepare_by (word_missing (peer_of st q).engage) (is_flagged st.beats.mask q) q (peer_of st q).engage → Next st
  words_by st None e free wanted words cleared is =
      let x = (peer_of st q).engage in
      let done = whole x words free.1 cleared e in
      masked_by st (is_flagged st.beats.mask q) refl free wanted done (is ∙ ap (λ (o : Option AreaWord). prepare_by o (is_flagged st.beats.mask q) q x) e ∙ ap (λ (b : Bool). step_if b (open_step (is_flagged st.beats.mask q) q)) done)
  words_by st (Some w) e free wanted words cleared is =
      let x = (peer_of st q).engage in
      let l = word_less x w e in
      record { rule = ForPeer q (Prepare w); is = is ∙ ap (λ (o : Option AreaWord). prepare_by o (is_flagged st.beats.mask q) q x) e; makes = inr (refl, omega (arith, l), λ v. for_left st (Prepare w) v x (there st free.0) (omega (arith, l))) }

  free_by : (st : State) (b : Bool) → (peer_of st q).engage.deactivation_cleared ≡ b → Free (peer_of st q).engage → (peer_of st q).wanted ≡ true → Words (peer_of st q).engage → Next st
  free_by st true e free wanted words = words_by st (word_missing (peer_of st q).engage) refl free wanted words e (prepares st free wanted ∙ ap (λ (b : Bool). if b then prepare_by (word_missing (peer_of st q).engage) (is_flagged st.beats.mask q) q (peer_of st q).engage else Some (ForPeer q ClearDeactivationBit)) e)
  free_by st false e free wanted words =
      let a = ap one e in
      record { rule = ForPeer q ClearDeactivationBit; is = prepares st free wanted ∙ ap (λ (b : Bool). if b then prepare_by (word_missing (peer_of st q).engage) (is_flagged st.beats.mask q) q (peer_of st q).engage else Some (ForPeer q ClearDeactivationBit)) e; makes = inr (refl, omega (arith, a), λ w. for_left st ClearDeactivationBit w (peer_of st q).engage (there st free.0) (omega (arith, a))) }

  pub next_step : (st : State) → Free (peer_of st q).engage → (peer_of st q).wanted ≡ true → Words (peer_of st q).engage → Next st
  next_step st free wanted words = free_by st (peer_of st q).engage.deactivation_cleared refl free wanted words

  -- acts leave what is left
  mask_acts : (st : State) (list : List Act) → (after_acts s st list).beats.mask ≡ st.beats.mask
  mask_acts st list = partition_leaves (λ (y : State). y.beats.mask) (λ y script peers. refl) s st list

  abbrev AsMuch : ℕ → Peer → Type 0
  AsMuch n p = area_left p.engage ≡ n

  much_acts : (n : ℕ) → ActsLeave (AsMuch n)
  much_acts n = record { linked = λ p links h. h; unwanted = λ p h. h; wanted = λ p h. h }

  acts_left : (st : State) (list : List Act) → Left (after_acts s st list) ≡ Left st
  acts_left st list =
      let a = acts_leave (AsMuch (area_left (peer_of st q).engage)) s q (much_acts (area_left (peer_of st q).engage)) st list refl in
      let b = ap (λ (m : ℕ). one (is_flagged m q)) (mask_acts st list) in
      omega (arith, a, b)

module _ (boot : ℕ) (s : ScenarioPart) (q : ℕ) (x : Spot s.part s.count q) where
  abbrev C : State → Type 0
  C st = IsWanted q st

  abbrev IsAlong : Visit Errand → State → List Turn → Type 0
  IsAlong v st ts = Along (plan_of s) (middle s) (after_turn s) (rule_made s) s.count (Pacing boot C s q x) (pacing_next boot C s q x) v st ts

  abbrev Opened : State → Turn → Type 0
  Opened st t = Steps (IsFor q OpenArea) s st t

  abbrev P : Unit {0} → State → List Turn → Type 0
  P ph st ts = SomeTurn Opened s st ts

  abbrev Due : State → Type 0
  Due st = Free (peer_of st q).engage

  abbrev Work : Unit {0} → ℕ → ℕ → State → Type 0
  Work ph n used st = Due st × (Left s q st ≤ n)

  abbrev Moves : ℕ → ℕ → State → Turn → List Turn → Type 0
  Moves n used st t ts = Moved (plan_of s) (middle s) (after_turn s) (rule_made s) s.count (Pacing boot C s q x) (pacing_next boot C s q x) (Unit {0}) Work P tt n used st t ts

  stays : (v : Visit Errand) (st : State) (t : Turn) (ts : List Turn) → IsAlong v st (t ∷ ts) → Due st → Opened st t ⊎ Due (after_turn s st t)
  stays v st t ts a h =
      let later = first_holds (IsUp boot) s (after_turn s st t) ts a.more.run.up.2 in
      turn_awaits Any (λ p. Free p.engage) OpenArea open_awaits s q st t (later.boot ∙ sym a.more.run.up.0.boot) a.more.run.runs.0 (λ m e. tt) h

  or_done : (st : State) (t : Turn) (ts : List Turn) → Opened st t ⊎ Due (after_turn s st t) → P tt st (t ∷ ts) ⊎ Due (after_turn s st t)
  or_done st t ts (inl y) = inl (inl y)
  or_done st t ts (inr y) = inr y

  mid_free : (st : State) (t : Turn) → Due st → Due (middle s st t)
  mid_free st t h = acts_leave (λ p. Free p.engage) s q open_awaits.acts st t.before h

  -- a step of which its word is known
  less_after : (v : Visit Errand) (st : State) (t : Turn) (ts : List Turn) (r : Rule) → IsAlong v st (t ∷ ts) → rule_made s (middle s st t) t ≡ Some r → mark_of s (middle s st t) r ≡ None → ((w : ℕ) → Left s q (after_answer s (middle s st t) r (Word w)) < Left s q (middle s st t)) → Left s q (after_turn s st t) < Left s q st
  less_after v st t ts r a e none less =
      let later = first_holds (IsUp boot) s (after_turn s st t) ts a.more.run.up.2 in
      let d = acts_left s q (after_step s (middle s st t) t.made) t.after in
      let m = acts_left s q st t.before in
      on_turn s st t (later.boot ∙ sym a.more.run.up.0.boot) (λ (y : State). Left s q y < Left s q st) (λ y h. h) (let l = by t.made refl a.more.run.runs.0.made e in omega (arith, d, m, l))
    where
      same : (a b : Rule) → Some a ≡ Some b → a ≡ b
      same a b f = cc

      word : (y : Answer) → is_failed y ≡ false → Left s q (after_answer s (middle s st t) r y) < Left s q (middle s st t)
      word (Word w) f = less w
      word Failed f = absurd (cc)

      by : (o : Option Marked) → t.made ≡ o → MayMake s (middle s st t) o → rule_by s (middle s st t) o ≡ Some r → Left s q (after_step s (middle s st t) t.made) < Left s q (middle s st t)
      by None f m g = absurd (cc)
      by (Some z) f m g =
          let i = same m.rule r (sym m.decoded ∙ g) in
          let fine = m.fails ∙ ap (λ (o : Option CopyMark). fails_at s o) (m.mark ∙ ap (λ (k : Rule). mark_of s (middle s st t) k) i ∙ none) in
          subst (λ (o : Option Marked). Left s q (after_step s (middle s st t) o) < Left s q (middle s st t)) (sym f) (subst (λ (o : Option Rule). Left s q (after_ruled s (middle s st t) o z.step.answer) < Left s q (middle s st t)) (sym g) (word z.step.answer fine))

  asks_now : (v : Visit Errand) (st : State) (t : Turn) (ts : List Turn) (n used : ℕ) → IsAlong v st (t ∷ ts) → Work tt n used st → (o : Option Rule) × ((plan_of s).ask x.number errands.Prepare used (middle s st t) ≡ Some o) × (rule_made s (middle s st t) t ≡ o → P tt st (t ∷ ts) ⊎ Moves n used st t ts)
  asks_now v st t ts n used a w = by (next_step s q (middle s st t) (mid_free st t w.0) a.more.run.holds.1.wanted ((facts_mid s st t.before a.more.facts).stored q)) (stays v st t ts a w.0) where
    by : Next s q (middle s st t) → Opened st t ⊎ Due (after_turn s st t) → (o : Option Rule) × ((plan_of s).ask x.number errands.Prepare used (middle s st t) ≡ Some o) × (rule_made s (middle s st t) t ≡ o → P tt st (t ∷ ts) ⊎ Moves n used st t ts)
    by y d = (Some y.rule, asks s q x errands.Prepare used boot (middle s st t) a.more.run.up.1 ∙ ap asked y.is, λ f. made f y.makes d) where
      made : rule_made s (middle s st t) t ≡ Some y.rule → (y.rule ≡ ForPeer q OpenArea) ⊎ ((mark_of s (middle s st t) y.rule ≡ None) × (0 < Left s q (middle s st t)) × ((k : ℕ) → Left s q (after_answer s (middle s st t) y.rule (Word k)) < Left s q (middle s st t))) → Opened st t ⊎ Due (after_turn s st t) → P tt st (t ∷ ts) ⊎ Moves n used st t ts
      made f (inl e) g = inl (inl (steps_by (IsFor q OpenArea) s st t y.rule f e))
      made f (inr z) (inl g) = inl (inl g)
      made f (inr z) (inr g) =
          let l = less_after v st t ts y.rule a f z.0 z.2 in
          let k = w.1 in
          inr (record { fewer = n - 1; low = omega (arith, l, k); phase = tt; work = (g, omega (arith, l, k)); lift = λ h. inr h })

  apart : (p : Peer) → p.engage.area ≡ Off → is_joined p ≡ false
  apart p e = ap (λ (a : Area). is_some p.contact && (is_ready a && not (is_some p.engage.reason))) e ∙ by (is_some p.contact) where
    by : (b : Bool) → (b && false) ≡ false
    by true = refl
    by false = refl

  begins_by : (st : State) → Due st → Work tt 34 0 st
  begins_by st h = (h, steps_few (is_flagged st.beats.mask q) (peer_of st q).engage)

  duty : Duty (plan_of s) (middle s) (after_turn s) (rule_made s) s.count (Pacing boot C s q x) (pacing_next boot C s q x) x.number errands.Prepare 0 (λ _ _. Unit {0}) Due (Unit {0}) tt Work P
  duty = record {
    later = λ st t ts h. inr h;
    aside = λ v st t ts a h. inr tt;
    stays = λ v st t ts a long h. or_done st t ts (stays v st t ts a h);
    fits = λ v st t ts a h. apart_fits s q x errands.Prepare boot (middle s st t) a.more.run.up.1 (apart (peer_of (middle s st t) q) (mid_free st t h).0) (fits_prepare s);
    begins = λ v st t ts a free h. (34, omega arith, begins_by st h);
    asks = λ ph n used v st t ts a free long few w. asks_now v st t ts n used a w;
  }

  pub areas_opened : (v : Visit Errand) (st : State) (ts : List Turn) → VISIT_TURNS * s.count + VISIT_TURNS < length ts → Turns boot s v st ts → Paced (plan_of s) (fit s) v → Facts st → Tied s x.number q v st → Held C s st ts → (peer_of st q).engage.area ≡ Off → (peer_of st q).engage.count < 4294967295 → SomeTurn Opened s st ts
  areas_opened v st ts long y paced facts tied holds off few =
      done (plan_of s) (middle s) (after_turn s) (rule_made s) s.count (Pacing boot C s q x) (pacing_next boot C s q x) x.number errands.Prepare 0 (λ _ _. Unit {0}) Due (Unit {0}) tt Work P duty v st ts x.low (omega arith) (omega arith) (omega (arith, long))
      (record { ring = y.ring; places = y.places; follows = y.follows; more = record { run = record { runs = y.runs; up = y.up; holds = holds }; paced = paced; facts = facts; tied = tied } }) (off, few)
