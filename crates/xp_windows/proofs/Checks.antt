-- A check of a partner's heartbeat that is due is over in the visit to it: its errand has a turn for each
-- of its loads, and begins one where none goes on.
use Rattle.std.proofs.Common.{◌≡◌, ℕ, ◌+◌, ◌-◌, ◌*◌, ◌<◌, ◌≤◌, Bool, true, false, ◌&&◌, ◌||◌, List, [], ◌∷◌, ◌++◌, length, refl, ap, sym, ◌∙◌, subst, arith, inl, inr, ◌⊎◌, Option, Some, None}
use Rattle.std.specs.Prelude.{IsSome, is_some, not, nat_lt, nat_le, nat_eq, if◌then◌else◌}
use Rattle.std.proofs.lemmas.Bool.Decides.{nat_tests}
use Rattle.std.proofs.lemmas.List.{length-append}
use Rattle.xp_base.specs.declared.reason.Reason.{Reason}
use Rattle.xp_base.specs.declared.step.Answer.{Answer}
use Rattle.xp_base.specs.declared.step.Answer.TheVariants.{Word, Failed}
use Rattle.xp_base.specs.declared.step.CopyKind.{CopyKind}
use Rattle.xp_base.specs.declared.step.CopyKind.TheVariants.{Beat as BeatCopy}
use Rattle.xp_base.specs.History.{Act, Marked, Turn}
use Rattle.xp_script.specs.declared.part.ScenarioPart.{ScenarioPart}
use Rattle.xp_rounds.specs.declared.rounds.TheConstants.{VISIT_TURNS}
use Rattle.xp_rounds.specs.Visit.{Visit}
use Rattle.xp_rounds.proofs.Sources.{Paced}
use Rattle.xp_rounds.proofs.Duties.{Along, Moved}
use Rattle.xp_rounds.proofs.Asides.{Duty, done}
use Rattle.xp_rounds.proofs.Spots.{Spot}
use Rattle.xp_protocol.specs.declared.contact.Contact.{Contact}
use Rattle.xp_protocol.specs.declared.contact.PartnerState.{PartnerState}
use Rattle.xp_protocol.specs.declared.contact.PartnerState.TheVariants.{Active}
use Rattle.xp_protocol.specs.declared.rule.PeerRule.{PeerRule}
use Rattle.xp_protocol.specs.declared.rule.PeerRule.TheVariants.{AskActivation, TakeFlags, CloseArea, ZeroMagic, ClearOldBit, Prepare, OpenArea, SetEngagementBit, ReadRecord, StoreEcho, StoreSecond, ClearEngagementBit, LookAtPage, CheckBeat, ClearDeactivationBit, TellPartner}
use Rattle.xp_protocol.specs.declared.rule.Rule.{Rule}
use Rattle.xp_protocol.specs.declared.rule.Rule.TheVariants.{Peer as ForPeer}
use Rattle.xp_protocol.specs.Effects.{Effect, Note}
use Rattle.xp_protocol.specs.State.{State, Old, Off, Ready, Leaving, Area, Peer, PeerGoing, Watch, cold_peer, peer_of}
use Rattle.xp_protocol.specs.Peering.{Here, CHECK_WORDS, check_over, is_left, is_bad_flags, peer_can, peer_effect, contact_made, same_peer, copy_ended, with_reason}
use Rattle.xp_protocol.specs.Rules.{Can, here_of, mark_of, peer_answered}
use Rattle.xp_protocol.specs.Acts.{after_acts}
use Rattle.xp_protocol.specs.Decode.{rule_of}
use Rattle.xp_protocol.specs.Runs.{MayMake, after_ruled, after_step, after_turn, acted, turn_counted}
use Rattle.xp_protocol.proofs.Frames.{cond_peer}
use Rattle.xp_plan.specs.declared.errand.Errand.{Errand}
use Rattle.xp_plan.specs.declared.errand.Errand.TheVariants as errands
use Rattle.xp_plan.specs.EndSteps.{step_if}
use Rattle.xp_plan.specs.PeerSteps.{for_peer, is_open_to, is_active, may_check, is_due, check_at}
use Rattle.xp_plan.specs.Plan.{asked, plan_of}
use Rattle.xp_windows.specs.Windows.{middle, Changes, Steps, IsFor, IsUp, IsMet, EndsCheck, SomeTurn}
use Rattle.xp_windows.specs.Visited.{rule_by, rule_made}
use Rattle.xp_windows.proofs.Held.{Held}
use Rattle.xp_windows.proofs.Places.{Turns, first_holds, asks, fits_check}
use Rattle.xp_windows.proofs.Copies.{whole}
use Rattle.xp_windows.proofs.Lives.{acts_leave as acts_keep_all, on_turn}
use Rattle.xp_windows.proofs.PeerFrames.{ActsLeave, Awaits, acts_leave, copy_kind, turn_awaits}
use Rattle.xp_windows.proofs.Engaged.{Stands}
use Rattle.xp_windows.proofs.Engages.{opens_to}
use Rattle.xp_windows.proofs.Looks.{Tied}
use Rattle.xp_windows.proofs.Facts.{Facts, Pacing, pacing_next, facts_mid, in_range, made_for}

-- what a load makes of a check: it is over, or has one word more and isn't whole
abbrev Loaded : Watch → Watch → Type 0
Loaded x y =
    (y.words ≡ []) ⊎ ((y.since ≡ x.since) × (length y.words ≡ length x.words + 1) × (length x.words + 1 ≡ CHECK_WORDS → ⊥))

watch_loaded : (b : Bool) (part turn w : ℕ) (x : Watch) → nat_eq (length (x.words ++ w ∷ [])) CHECK_WORDS ≡ b → Loaded x (if b then check_over part turn (x.words ++ w ∷ []) x else record x { words = x.words ++ w ∷ [] })
watch_loaded true part turn w x e = inl refl
watch_loaded false part turn w x e =
    let l : length (x.words ++ w ∷ []) ≡ length x.words + 1 = length-append x.words (w ∷ []) in
    inr (refl, l, λ f. not_three (length (x.words ++ w ∷ [])) e (l ∙ f))
  where
    not_three : (n : ℕ) → nat_eq n 3 ≡ false → n ≡ 3 → ⊥
    not_three n f g = grind (arith, nat_tests)

beat_loaded : (s : ScenarioPart) (st : State) (q : ℕ) (a : Answer) → let f = peer_answered (here_of s st q) (mark_of s st (ForPeer q CheckBeat)) (peer_of st q) CheckBeat a in Loaded (peer_of st q).watch (with_reason f.reason f.local).watch
beat_loaded s st q (Word w) = watch_loaded (nat_eq (length ((peer_of st q).watch.words ++ w ∷ [])) CHECK_WORDS) (here_of s st q).part (here_of s st q).turn w (peer_of st q).watch refl
beat_loaded s st q Failed = inl refl

-- since when the next check counts: that stands in a contact until a word of a check is loaded
abbrev Watched : ℕ → Peer → Type 0
Watched k p = (p.engage.area ≡ Ready) × (p.watch.since ≡ k)

abbrev Joined : Peer → PeerRule → Type 0
Joined p m = IsSome p.contact × (p.engage.reason ≡ None)

off_not : (a : Area) → a ≡ Ready → a ≡ Off → ⊥
off_not a e f = let g : Ready ≡ Off = sym e ∙ f in cc

leaving_not : (a : Area) → a ≡ Ready → a ≡ Leaving → ⊥
leaving_not a e f = let g : Ready ≡ Leaving = sym e ∙ f in cc

left_not : (a : Area) (bit : Bool) → a ≡ Ready → is_left (record (cold_peer Old).engage { area = a; bit = bit }) ≡ true → ⊥
left_not Ready bit e f = cc
left_not Off bit e f = cc
left_not Old bit e f = absurd (cc)
left_not Leaving bit e f = absurd (cc)

reason_not : (o : Option Reason) → o ≡ None → IsSome o → ⊥
reason_not None e h = cc
reason_not (Some r) e h = absurd (cc)

contact_not : (o : Option Contact) → o ≡ None → IsSome o → ⊥
contact_not None e h = cc
contact_not (Some r) e h = absurd (cc)

-- no contact is made with a partner that is in contact
still : (k : ℕ) (a b d : Bool) (turn stamp : ℕ) (p : Peer) → d ≡ true → Watched k p → Watched k (if a && (b && not d) then contact_made turn stamp p else same_peer p).local
still k true true true turn stamp p e h = h
still k true true false turn stamp p e h = absurd (cc)
still k true false d turn stamp p e h = h
still k false b d turn stamp p e h = h

watched_steps : (k : ℕ) (y : Here) (p : Peer) (g : PeerGoing) (m : PeerRule) (w : ℕ) → peer_can y p m → Joined p m → Watched k p → (m ≡ CheckBeat) ⊎ Watched k (peer_effect y (record p { numbers = g }) m w).local
watched_steps k y p g AskActivation w can n h = inr h
watched_steps k y p g TakeFlags w can n h = inr (cond_peer (Watched k) (is_bad_flags w) _ _ h h)
watched_steps k y p g CloseArea w can n h = absurd (reason_not p.engage.reason n.1 can.1)
watched_steps k y p g ZeroMagic w can n h = inr h
watched_steps k y p g ClearOldBit w can n h = inr h
watched_steps k y p g (Prepare x) w can n h = absurd (off_not p.engage.area h.0 can.0)
watched_steps k y p g OpenArea w can n h = absurd (off_not p.engage.area h.0 can.0)
watched_steps k y p g SetEngagementBit w can n h = inr h
watched_steps k y p g ReadRecord w can n h = absurd (contact_not p.contact can.3 n.0)
watched_steps k y p g StoreEcho w can n h = inr h
watched_steps k y p g StoreSecond w can n h = inr (still k true p.engage.shown (is_some p.contact) y.turn y.stamp (record p { numbers = g; engage = record p.engage { second = true } }) n.0 h)
watched_steps k y p g ClearEngagementBit w can n h = inr h
watched_steps k y p g LookAtPage w can n h = inr (cond_peer (Watched k) _ _ _ h h)
watched_steps k y p g CheckBeat w can n h = inl refl
watched_steps k y p g ClearDeactivationBit w can n h = absurd (off_not p.engage.area h.0 can)
watched_steps k y p g TellPartner w can n h = absurd (leaving_not p.engage.area h.0 can.0)

beat_only : (m : PeerRule) → copy_kind m ≡ Some BeatCopy → m ≡ CheckBeat
beat_only CheckBeat e = refl
beat_only AskActivation e = absurd (cc)
beat_only TakeFlags e = absurd (cc)
beat_only CloseArea e = absurd (cc)
beat_only ZeroMagic e = absurd (cc)
beat_only ClearOldBit e = absurd (cc)
beat_only (Prepare x) e = absurd (cc)
beat_only OpenArea e = absurd (cc)
beat_only SetEngagementBit e = absurd (cc)
beat_only ReadRecord e = absurd (cc)
beat_only StoreEcho e = absurd (cc)
beat_only StoreSecond e = absurd (cc)
beat_only ClearEngagementBit e = absurd (cc)
beat_only LookAtPage e = absurd (cc)
beat_only ClearDeactivationBit e = absurd (cc)
beat_only TellPartner e = absurd (cc)

watched_ended : (k turn : ℕ) (kind : CopyKind) (p : Peer) (m : PeerRule) → copy_kind m ≡ Some kind → Watched k p → (m ≡ CheckBeat) ⊎ Watched k (copy_ended turn kind p)
watched_ended k turn BeatCopy p m e h = inl (beat_only m e)
watched_ended k turn kind p m e h = inr h

watched_awaits : (k : ℕ) → Awaits Joined (Watched k) CheckBeat
watched_awaits k = record {
  acts = record { linked = λ p links h. h; unwanted = λ p h. h; wanted = λ p h. h };
  linked = λ p links going h. h;
  reasoned = λ o p h. h;
  ended = watched_ended k;
  freed = λ p l h. left_not p.engage.area p.engage.bit h.0 l;
  steps = watched_steps k;
}

-- the watch is left by acts, and each turn is counted
abbrev Same : Watch → Peer → Type 0
Same x p = p.watch ≡ x

same_acts : (x : Watch) → ActsLeave (Same x)
same_acts x = record { linked = λ p links h. h; unwanted = λ p h. h; wanted = λ p h. h }

acts_turns : (s : ScenarioPart) (st : State) (list : List Act) → (after_acts s st list).clock.turns ≡ st.clock.turns
acts_turns s st list = acts_keep_all (λ (y : State). y.clock.turns) (λ y script peers. refl) s st list

step_turns : (s : ScenarioPart) (st : State) (o : Option Marked) → (after_step s st o).clock.turns ≡ st.clock.turns
step_turns s st None = refl
step_turns s st (Some x) = by (rule_of s st x.step.op x.mark) where
  by : (o : Option Rule) → (after_ruled s st o x.step.answer).clock.turns ≡ st.clock.turns
  by None = refl
  by (Some r) = refl

turn_turns : (s : ScenarioPart) (st : State) (t : Turn) → (after_turn s st t).clock.boots ≡ st.clock.boots → (after_turn s st t).clock.turns ≡ st.clock.turns + 1
turn_turns s st t same =
    on_turn s st t same (λ (y : State). y.clock.turns ≡ st.clock.turns + 1) (λ y g. g)
    (ap (λ (n : ℕ). n + 1) (acts_turns s (after_step s (middle s st t) t.made) t.after ∙ step_turns s (middle s st t) t.made ∙ acts_turns s st t.before))

-- a step that was made is permitted
can_for : (s : ScenarioPart) (st : State) (o : Option Marked) (r : Rule) → MayMake s st o → rule_by s st o ≡ Some r → Can s st r
can_for s st None r may e = absurd (cc)
can_for s st (Some x) r may e = subst (λ (k : Rule). Can s st k) (same may.rule r (sym may.decoded ∙ e)) may.can where
  same : (a b : Rule) → Some a ≡ Some b → a ≡ b
  same a b f = cc

active_is : (state : PartnerState) → state ≡ Active → is_active state ≡ true
active_is state e = ap (λ (x : PartnerState). is_active x) e

less : (a b : ℕ) → a < b → nat_lt a b ≡ true
less a b l = grind (arith, nat_tests)

most : (a b : ℕ) → a ≤ b → nat_le a b ≡ true
most a b l = grind (arith, nat_tests)

equal : (a b : ℕ) → a ≡ b → nat_eq a b ≡ true
equal a b e = grind (arith, nat_tests)

all_three : (a b c : Bool) → a ≡ true → b ≡ true → c ≡ true → (a && (b && c)) ≡ true
all_three true true true e f g = refl
all_three true true false e f g = absurd (cc)
all_three true false c e f g = absurd (cc)
all_three false b c e f g = absurd (cc)

goes_or_begins : (a b c : Bool) → (a ≡ true) ⊎ ((b ≡ true) × (c ≡ true)) → (a || (b && c)) ≡ true
goes_or_begins true b c h = refl
goes_or_begins false b c (inl e) = absurd (cc)
goes_or_begins false true true (inr e) = refl
goes_or_begins false true false (inr e) = absurd (let f = e.1 in cc)
goes_or_begins false false c (inr e) = absurd (let f = e.0 in cc)

module _ (boot : ℕ) (s : ScenarioPart) (q : ℕ) (x : Spot s.part s.count q) (some : 0 < s.check) where
  abbrev C : State → Type 0
  C st = IsMet q st

  abbrev IsAlong : Visit Errand → State → List Turn → Type 0
  IsAlong v st ts = Along (plan_of s) (middle s) (after_turn s) (rule_made s) s.count (Pacing boot C s q x) (pacing_next boot C s q x) v st ts

  abbrev Over : State → Turn → Type 0
  Over st t = Changes EndsCheck CheckBeat s q st t

  abbrev P : Unit {0} → State → List Turn → Type 0
  P ph st ts = SomeTurn Over s st ts

  abbrev At : State → Watch
  At st = (peer_of st q).watch

  abbrev IsDueAt : Watch → State → Type 0
  IsDueAt y st = y.since + s.check ≤ st.clock.turns + 1

  abbrev Due : State → Type 0
  Due st = IsDueAt (At st) st

  abbrev Work : Unit {0} → ℕ → ℕ → State → Type 0
  Work ph n used st = (2 ≤ n + length (At st).words) × (((used ≡ 0) × Due st) ⊎ (0 < length (At st).words))

  abbrev Moves : ℕ → ℕ → State → Turn → List Turn → Type 0
  Moves n used st t ts = Moved (plan_of s) (middle s) (after_turn s) (rule_made s) s.count (Pacing boot C s q x) (pacing_next boot C s q x) (Unit {0}) Work P tt n used st t ts

  -- the state before the step
  mid_same : (st : State) (t : Turn) → At (middle s st t) ≡ At st
  mid_same st t = acts_leave (Same (At st)) s q (same_acts (At st)) st t.before refl

  mid_turns : (st : State) (t : Turn) → (middle s st t).clock.turns ≡ st.clock.turns
  mid_turns st t = acts_turns s st t.before

  -- what the errand asks for
  may : (v : Visit Errand) (st : State) (t : Turn) (ts : List Turn) → IsAlong v st (t ∷ ts) → may_check (here_of s (middle s st t) q) (peer_of (middle s st t) q) ≡ true
  may v st t ts a =
      let met = a.more.run.holds.1 in
      let y = peer_of (middle s st t) q in
      let active = ((facts_mid s st t.before a.more.facts).stands q).joined met.contact in
      all_three (is_open_to y.engage) (is_active y.engage.state) (nat_lt 0 s.check) (opens_to y met.ready met.free) (active_is y.engage.state active) (less 0 s.check some)

  more : (st : State) (t : Turn) (used : ℕ) → ((used ≡ 0) × Due st) ⊎ (0 < length (At st).words) → (nat_lt 0 (length (At (middle s st t)).words) || (nat_eq used 0 && is_due (here_of s (middle s st t) q) (At (middle s st t)).since)) ≡ true
  more st t used h = goes_or_begins (nat_lt 0 (length (At (middle s st t)).words)) (nat_eq used 0) (is_due (here_of s (middle s st t) q) (At (middle s st t)).since) (by h) where
    by : ((used ≡ 0) × Due st) ⊎ (0 < length (At st).words) → (nat_lt 0 (length (At (middle s st t)).words) ≡ true) ⊎ ((nat_eq used 0 ≡ true) × (is_due (here_of s (middle s st t) q) (At (middle s st t)).since ≡ true))
    by (inl e) =
        let z : (At (middle s st t)).since ≡ (At st).since = ap (λ (y : Watch). y.since) (mid_same st t) in
        let m = mid_turns st t in
        let d = e.1 in
        inr (equal used 0 e.0, most ((At (middle s st t)).since + s.check) ((middle s st t).clock.turns + 1) (omega (arith, z, m, d)))
    by (inr l) = inl (less 0 (length (At (middle s st t)).words) (subst (λ (y : Watch). 0 < length y.words) (sym (mid_same st t)) l))

  asks_for : (used : ℕ) (v : Visit Errand) (st : State) (t : Turn) (ts : List Turn) → IsAlong v st (t ∷ ts) → ((used ≡ 0) × Due st) ⊎ (0 < length (At st).words) → (plan_of s).ask x.number errands.Check used (middle s st t) ≡ Some (Some (ForPeer q CheckBeat))
  asks_for used v st t ts a h = asks s q x errands.Check used boot (middle s st t) a.more.run.up.1 ∙ ap (λ (o : Option PeerRule). asked (for_peer q o)) given where
    given : check_at (here_of s (middle s st t) q) used (peer_of (middle s st t) q) ≡ Some CheckBeat
    given =
        ap (λ (b : Bool). step_if (b && (nat_lt 0 (length (At (middle s st t)).words) || (nat_eq used 0 && is_due (here_of s (middle s st t) q) (At (middle s st t)).since))) CheckBeat) (may v st t ts a)
        ∙ ap (λ (b : Bool). step_if b CheckBeat) (more st t used h)

  -- a load of the heartbeat
  loaded : (v : Visit Errand) (st : State) (t : Turn) (ts : List Turn) → IsAlong v st (t ∷ ts) → rule_made s (middle s st t) t ≡ Some (ForPeer q CheckBeat) → Loaded (At (middle s st t)) (At (after_step s (middle s st t) t.made))
  loaded v st t ts a e = made_for s (middle s st t) t.made q CheckBeat (λ p. Loaded (At (middle s st t)) p.watch) a.more.run.runs.0.made e (in_range (middle s st t) q a.more.run.holds.1.ready) (λ b i. beat_loaded s (middle s st t) q b)

  few : (v : Visit Errand) (st : State) (t : Turn) (ts : List Turn) → IsAlong v st (t ∷ ts) → rule_made s (middle s st t) t ≡ Some (ForPeer q CheckBeat) → length (At (middle s st t)).words < CHECK_WORDS
  few v st t ts a e = (can_for s (middle s st t) t.made (ForPeer q CheckBeat) a.more.run.runs.0.made e).1.1.2

  same_boot : (v : Visit Errand) (st : State) (t : Turn) (ts : List Turn) → IsAlong v st (t ∷ ts) → (after_turn s st t).clock.boots ≡ st.clock.boots
  same_boot v st t ts a = (first_holds (IsUp boot) s (after_turn s st t) ts a.more.run.up.2).boot ∙ sym a.more.run.up.0.boot

  later_same : (v : Visit Errand) (st : State) (t : Turn) (ts : List Turn) → IsAlong v st (t ∷ ts) → At (after_turn s st t) ≡ At (after_step s (middle s st t) t.made)
  later_same v st t ts a =
      let y = At (after_step s (middle s st t) t.made) in
      on_turn s st t (same_boot v st t ts a) (λ (z : State). At z ≡ y) (λ z g. g) (acts_leave (Same y) s q (same_acts y) (after_step s (middle s st t) t.made) t.after refl)

  over : (st : State) (t : Turn) → rule_made s (middle s st t) t ≡ Some (ForPeer q CheckBeat) → (At (after_step s (middle s st t) t.made)).words ≡ [] → Over st t
  over st t e h = by t.made refl e where
    by : (o : Option Marked) → t.made ≡ o → rule_by s (middle s st t) o ≡ Some (ForPeer q CheckBeat) → Over st t
    by None f g = absurd (cc)
    by (Some z) f g = record { step = z; made = f; decoded = g; is = h }

  asks_now : (v : Visit Errand) (st : State) (t : Turn) (ts : List Turn) (n used : ℕ) → IsAlong v st (t ∷ ts) → Work tt n used st → (o : Option Rule) × ((plan_of s).ask x.number errands.Check used (middle s st t) ≡ Some o) × (rule_made s (middle s st t) t ≡ o → P tt st (t ∷ ts) ⊎ Moves n used st t ts)
  asks_now v st t ts n used a w = (Some (ForPeer q CheckBeat), asks_for used v st t ts a w.1, λ e. by e (loaded v st t ts a e)) where
    by : rule_made s (middle s st t) t ≡ Some (ForPeer q CheckBeat) → Loaded (At (middle s st t)) (At (after_step s (middle s st t) t.made)) → P tt st (t ∷ ts) ⊎ Moves n used st t ts
    by e (inl h) = inl (inl (over st t e h))
    by e (inr y) =
        let l = few v st t ts a e in
        let m : length (At (middle s st t)).words ≡ length (At st).words = ap (λ (z : Watch). length z.words) (mid_same st t) in
        let k : length (At (after_turn s st t)).words ≡ length (At (after_step s (middle s st t) t.made)).words = ap (λ (z : Watch). length z.words) (later_same v st t ts a) in
        let one = y.1 in
        let not_whole = y.2 in
        let two = w.0 in
        inr (record { fewer = n - 1; low = omega (arith, l, m, two, not_whole); phase = tt; work = (omega (arith, l, m, k, one, two, not_whole), inr (omega (arith, k, one))); lift = λ h. inr h })

  -- before the errand comes
  stays : (v : Visit Errand) (st : State) (t : Turn) (ts : List Turn) → IsAlong v st (t ∷ ts) → Due st → P tt st (t ∷ ts) ⊎ Due (after_turn s st t)
  stays v st t ts a h = or (turn_awaits Joined (Watched (At st).since) CheckBeat (watched_awaits (At st).since) s q st t (same_boot v st t ts a) a.more.run.runs.0 (λ m e. (a.more.run.holds.1.contact, a.more.run.holds.1.free)) (a.more.run.holds.0.ready, refl)) where
    since_kept : (At (after_turn s st t)).since ≡ (At st).since → Due (after_turn s st t)
    since_kept e = let m = turn_turns s st t (same_boot v st t ts a) in omega (arith, e, m, h)

    ruled : Steps (IsFor q CheckBeat) s st t → rule_made s (middle s st t) t ≡ Some (ForPeer q CheckBeat)
    ruled y = ap (λ (o : Option Marked). rule_by s (middle s st t) o) y.made ∙ y.decoded ∙ ap (λ (r : Rule). Some r) y.is

    by : rule_made s (middle s st t) t ≡ Some (ForPeer q CheckBeat) → Loaded (At (middle s st t)) (At (after_step s (middle s st t) t.made)) → P tt st (t ∷ ts) ⊎ Due (after_turn s st t)
    by e (inl y) = inl (inl (over st t e y))
    by e (inr y) = inr (since_kept (ap (λ (z : Watch). z.since) (later_same v st t ts a) ∙ y.0 ∙ ap (λ (z : Watch). z.since) (mid_same st t)))

    or : Steps (IsFor q CheckBeat) s st t ⊎ Watched (At st).since (peer_of (after_turn s st t) q) → P tt st (t ∷ ts) ⊎ Due (after_turn s st t)
    or (inl y) = by (ruled y) (loaded v st t ts a (ruled y))
    or (inr y) = inr (since_kept y.1)

  begins_by : (st : State) → Due st → Work tt 2 0 st
  begins_by st h = (omega arith, inl (refl, h))

  duty : Duty (plan_of s) (middle s) (after_turn s) (rule_made s) s.count (Pacing boot C s q x) (pacing_next boot C s q x) x.number errands.Check 0 (λ _ _. Unit {0}) Due (Unit {0}) tt Work P
  duty = record {
    later = λ st t ts h. inr h;
    aside = λ v st t ts a h. inr tt;
    stays = λ v st t ts a long h. stays v st t ts a h;
    fits = λ v st t ts a h. fits_check s q x boot (middle s st t) a.more.run.up.1 a.more.run.holds.1;
    begins = λ v st t ts a free h. (2, omega arith, begins_by st h);
    asks = λ ph n used v st t ts a free long few w. asks_now v st t ts n used a w;
  }

  pub checks_made : (v : Visit Errand) (st : State) (ts : List Turn) → VISIT_TURNS * s.count + VISIT_TURNS < length ts → Turns boot s v st ts → Paced (plan_of s) (whole s) v → Facts st → Tied s x.number q v st → Held C s st ts → Due st → SomeTurn Over s st ts
  checks_made v st ts long y paced facts tied holds due =
      done (plan_of s) (middle s) (after_turn s) (rule_made s) s.count (Pacing boot C s q x) (pacing_next boot C s q x) x.number errands.Check 0 (λ _ _. Unit {0}) Due (Unit {0}) tt Work P duty v st ts x.low (omega arith) (omega arith) (omega (arith, long))
      (record { ring = y.ring; places = y.places; follows = y.follows; more = record { run = record { runs = y.runs; up = y.up; holds = holds }; paced = paced; facts = facts; tied = tied } }) due
