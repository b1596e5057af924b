-- A partner whose page is good is asked to be activated, and the own bit is set at it, in one visit.
use Rattle.std.proofs.Common.{◌≡◌, ℕ, ◌+◌, ◌*◌, ◌<◌, Bool, true, false, ◌&&◌, List, ◌∷◌, length, refl, ap, sym, ◌∙◌, arith, inl, inr, ◌⊎◌, Option, Some, None}
use Rattle.std.specs.Prelude.{is_some, not, if◌then◌else◌}
use Rattle.std.proofs.lemmas.Bool.Decides.{nat_tests}
use Rattle.xp_base.specs.declared.reason.Reason.{Reason}
use Rattle.xp_base.specs.declared.step.Answer.{Answer}
use Rattle.xp_base.specs.declared.step.Answer.TheVariants.{Word, Failed}
use Rattle.xp_base.specs.History.{Turn}
use Rattle.xp_script.specs.declared.part.ScenarioPart.{ScenarioPart}
use Rattle.xp_rounds.specs.declared.rounds.TheConstants.{VISIT_TURNS}
use Rattle.xp_rounds.specs.Visit.{Visit}
use Rattle.xp_rounds.proofs.Visits.{Fits}
use Rattle.xp_rounds.proofs.Sources.{Paced}
use Rattle.xp_rounds.proofs.Duties.{Along, Moved}
use Rattle.xp_rounds.proofs.Asides.{Duty, done}
use Rattle.xp_rounds.proofs.Spots.{Spot}
use Rattle.xp_protocol.specs.declared.contact.PartnerState.{PartnerState}
use Rattle.xp_protocol.specs.declared.contact.PartnerState.TheVariants.{Inactive, Requested}
use Rattle.xp_protocol.specs.declared.rule.PeerRule.{PeerRule}
use Rattle.xp_protocol.specs.declared.rule.PeerRule.TheVariants.{AskActivation, SetEngagementBit}
use Rattle.xp_protocol.specs.declared.rule.Rule.{Rule}
use Rattle.xp_protocol.specs.declared.rule.Rule.TheVariants.{Peer as ForPeer}
use Rattle.xp_protocol.specs.State.{State, Old, Off, Ready, Leaving, Area, Peer, peer_of}
use Rattle.xp_protocol.specs.Peering.{HasWaited, is_ready, is_good, with_reason}
use Rattle.xp_protocol.specs.Rules.{here_of, mark_of, peer_answered}
use Rattle.xp_protocol.specs.Acts.{state_unwanted}
use Rattle.xp_protocol.specs.Runs.{May, after_step, after_turn, is_failed}
use Rattle.xp_plan.specs.declared.errand.Errand.{Errand}
use Rattle.xp_plan.specs.declared.errand.Errand.TheVariants as errands
use Rattle.xp_plan.specs.EndSteps.{step_if}
use Rattle.xp_plan.specs.PeerSteps.{for_peer, is_open_to, engage_by, engage_at, has_waited}
use Rattle.xp_plan.specs.Plan.{asked, plan_of}
use Rattle.xp_windows.specs.Windows.{middle, Steps, IsFor, IsUp, IsOffered, SomeTurn}
use Rattle.xp_windows.proofs.Held.{Held}
use Rattle.xp_windows.specs.Visited.{rule_made}
use Rattle.xp_windows.proofs.Places.{Turns, first_holds, asks}
use Rattle.xp_windows.proofs.Asked.{steps_by}
use Rattle.xp_windows.proofs.Copies.{whole}
use Rattle.xp_windows.proofs.Lives.{on_turn}
use Rattle.xp_windows.proofs.PeerFrames.{ActsLeave, acts_leave}
use Rattle.xp_windows.proofs.Engaged.{Stands, uncontacted}
use Rattle.xp_windows.proofs.Looks.{Tied}
use Rattle.xp_windows.proofs.Facts.{Facts, Pacing, pacing_next, facts_mid, apart_fits, unjoined, fits_engage, in_range, made_for}

-- the own memory stands open
pub opens_to : (p : Peer) → p.engage.area ≡ Ready → p.engage.reason ≡ None → is_open_to p.engage ≡ true
opens_to p a r = ap (λ (x : Area). is_ready x && not (is_some p.engage.reason)) a ∙ ap (λ (o : Option Reason). not (is_some o)) r

offered : (o b g : Bool) (z : Option PeerRule) → o ≡ true → b ≡ false → g ≡ true → (if o && (not b && g) then z else None) ≡ z
offered true false true z e f h = refl
offered true false false z e f h = absurd (cc)
offered true true g z e f h = absurd (cc)
offered false b g z e f h = absurd (cc)

waits_over : (wait turn : ℕ) (o : Option ℕ) → HasWaited wait turn o → has_waited wait turn o ≡ true
waits_over wait turn None h = refl
waits_over wait turn (Some cleared) h = grind (arith, nat_tests)

-- what was asked for stands when the acts of a turn are over
abbrev pub Asked : Peer → Type 0
Asked p = (p.engage.area ≡ Ready) × (p.engage.state ≡ Requested)

asked_unwanted : (a : Area) (state : PartnerState) → a ≡ Ready → state_unwanted a state ≡ state
asked_unwanted Ready state e = refl
asked_unwanted Off state e = absurd (cc)
asked_unwanted Old state e = absurd (cc)
asked_unwanted Leaving state e = absurd (cc)

pub asked_acts : ActsLeave Asked
asked_acts = record { linked = λ p links h. h; unwanted = λ p h. (h.0, asked_unwanted p.engage.area p.engage.state h.0 ∙ h.1); wanted = λ p h. h }

module _ (boot : ℕ) (s : ScenarioPart) (q : ℕ) (x : Spot s.part s.count q) where
  abbrev C : State → Type 0
  C st = IsOffered s q st

  abbrev IsAlong : Visit Errand → State → List Turn → Type 0
  IsAlong v st ts = Along (plan_of s) (middle s) (after_turn s) (rule_made s) s.count (Pacing boot C s q x) (pacing_next boot C s q x) v st ts

  abbrev Set : State → Turn → Type 0
  Set st t = Steps (IsFor q SetEngagementBit) s st t

  abbrev P : Unit {0} → State → List Turn → Type 0
  P ph st ts = SomeTurn Set s st ts

  abbrev Work : Unit {0} → ℕ → ℕ → State → Type 0
  Work ph n used st = (n ≡ 1) ⊎ ((n ≡ 0) × Asked (peer_of st q))

  abbrev Moves : ℕ → ℕ → State → Turn → List Turn → Type 0
  Moves n used st t ts = Moved (plan_of s) (middle s) (after_turn s) (rule_made s) s.count (Pacing boot C s q x) (pacing_next boot C s q x) (Unit {0}) Work P tt n used st t ts

  -- what is asked for
  engages : (st : State) → C st → (state : PartnerState) → (peer_of st q).engage.state ≡ state → engage_at (here_of s st q) (peer_of st q) ≡ engage_by state (peer_of st q).wanted true
  engages st c state e =
      offered (is_open_to (peer_of st q).engage) (peer_of st q).engage.bit (is_good (peer_of st q).look) _ (opens_to (peer_of st q) c.open_to.ready c.open_to.free) c.out c.good
      ∙ ap (λ (b : Bool). engage_by (peer_of st q).engage.state (peer_of st q).wanted b) (waits_over (here_of s st q).wait (here_of s st q).turn (peer_of st q).engage.cleared_at c.waited)
      ∙ ap (λ (z : PartnerState). engage_by z (peer_of st q).wanted true) e

  asks_for : (used : ℕ) (st : State) (m : PeerRule) → IsUp boot st → engage_at (here_of s st q) (peer_of st q) ≡ Some m → (plan_of s).ask x.number errands.Engage used st ≡ Some (Some (ForPeer q m))
  asks_for used st m up e = asks s q x errands.Engage used boot st up ∙ ap (λ (o : Option PeerRule). asked (for_peer q o)) e

  sets_now : (used : ℕ) (st : State) (t : Turn) (ts : List Turn) (n : ℕ) → IsUp boot (middle s st t) → C (middle s st t) → (peer_of (middle s st t) q).engage.state ≡ Requested → (o : Option Rule) × ((plan_of s).ask x.number errands.Engage used (middle s st t) ≡ Some o) × (rule_made s (middle s st t) t ≡ o → P tt st (t ∷ ts) ⊎ Moves n used st t ts)
  sets_now used st t ts n up c e = (Some (ForPeer q SetEngagementBit), asks_for used (middle s st t) SetEngagementBit up (engages (middle s st t) c Requested e), λ f. inl (inl (steps_by (IsFor q SetEngagementBit) s st t (ForPeer q SetEngagementBit) f refl)))

  -- asked for in this turn
  asked_after : (st : State) (t : Turn) → May s st t → IsUp boot st → IsUp boot (after_turn s st t) → C (middle s st t) → rule_made s (middle s st t) t ≡ Some (ForPeer q AskActivation) → Asked (peer_of (after_turn s st t) q)
  asked_after st t may a b c e =
      on_turn s st t (b.boot ∙ sym a.boot) (λ (y : State). Asked (peer_of y q)) (λ y h. h)
      (acts_leave Asked s q asked_acts (after_step s (middle s st t) t.made) t.after (made_for s (middle s st t) t.made q AskActivation Asked may.made e (in_range (middle s st t) q c.open_to.ready) makes))
    where
      makes : (a : Answer) → is_failed a ≡ false → let f = peer_answered (here_of s (middle s st t) q) (mark_of s (middle s st t) (ForPeer q AskActivation)) (peer_of (middle s st t) q) AskActivation a in Asked (with_reason f.reason f.local)
      makes (Word w) i = (c.open_to.ready, refl)
      makes Failed i = absurd (cc)

  asks_now : (v : Visit Errand) (st : State) (t : Turn) (ts : List Turn) (n used : ℕ) → IsAlong v st (t ∷ ts) → n ≡ 1 → (o : Option Rule) × ((plan_of s).ask x.number errands.Engage used (middle s st t) ≡ Some o) × (rule_made s (middle s st t) t ≡ o → P tt st (t ∷ ts) ⊎ Moves n used st t ts)
  asks_now v st t ts n used a one = by (stands.idle c.out (λ e. absurd (let f : Ready ≡ Leaving = sym c.open_to.ready ∙ e in cc))) where
    c : C (middle s st t)
    c = a.more.run.holds.1

    stands : Stands (peer_of (middle s st t) q)
    stands = (facts_mid s st t.before a.more.facts).stands q

    by : ((peer_of (middle s st t) q).engage.state ≡ Inactive) ⊎ ((peer_of (middle s st t) q).engage.state ≡ Requested) → (o : Option Rule) × ((plan_of s).ask x.number errands.Engage used (middle s st t) ≡ Some o) × (rule_made s (middle s st t) t ≡ o → P tt st (t ∷ ts) ⊎ Moves n used st t ts)
    by (inr e) = sets_now used st t ts n a.more.run.up.1 c e
    by (inl e) = (
      Some (ForPeer q AskActivation),
      asks_for used (middle s st t) AskActivation a.more.run.up.1 (engages (middle s st t) c Inactive e ∙ ap (λ (b : Bool). step_if b AskActivation) (stands.wanted c.open_to.ready c.open_to.free)),
      λ f. inr (record { fewer = 0; low = omega (arith, one); phase = tt; work = inr (refl, asked_after st t a.more.run.runs.0 a.more.run.up.0 (first_holds (IsUp boot) s (after_turn s st t) ts a.more.run.up.2) c f); lift = λ y. inr y }),
    )

  asks_by : (v : Visit Errand) (st : State) (t : Turn) (ts : List Turn) (n used : ℕ) → IsAlong v st (t ∷ ts) → Work tt n used st → (o : Option Rule) × ((plan_of s).ask x.number errands.Engage used (middle s st t) ≡ Some o) × (rule_made s (middle s st t) t ≡ o → P tt st (t ∷ ts) ⊎ Moves n used st t ts)
  asks_by v st t ts n used a (inl one) = asks_now v st t ts n used a one
  asks_by v st t ts n used a (inr w) = sets_now used st t ts n a.more.run.up.1 a.more.run.holds.1 (acts_leave Asked s q asked_acts st t.before w.1).1

  fits_now : (v : Visit Errand) (st : State) (t : Turn) (ts : List Turn) → IsAlong v st (t ∷ ts) → Fits (plan_of s) errands.Engage ((plan_of s).errands x.number (middle s st t))
  fits_now v st t ts a =
      let c = a.more.run.holds.1 in
      let stands = (facts_mid s st t.before a.more.facts).stands q in
      let p = peer_of (middle s st t) q in
      apart_fits s q x errands.Engage boot (middle s st t) a.more.run.up.1 (unjoined p (uncontacted p.engage p.contact p.wanted stands c.open_to.ready c.out)) (fits_engage s)

  duty : Duty (plan_of s) (middle s) (after_turn s) (rule_made s) s.count (Pacing boot C s q x) (pacing_next boot C s q x) x.number errands.Engage 0 (λ _ _. Unit {0}) (λ _. Unit {0}) (Unit {0}) tt Work P
  duty = record {
    later = λ st t ts h. inr h;
    aside = λ v st t ts a h. inr tt;
    stays = λ v st t ts a long h. inr tt;
    fits = λ v st t ts a h. fits_now v st t ts a;
    begins = λ v st t ts a free h. (1, omega arith, inl refl);
    asks = λ ph n used v st t ts a free long few w. asks_by v st t ts n used a w;
  }

  pub bits_set : (v : Visit Errand) (st : State) (ts : List Turn) → VISIT_TURNS * s.count + VISIT_TURNS < length ts → Turns boot s v st ts → Paced (plan_of s) (whole s) v → Facts st → Tied s x.number q v st → Held C s st ts → SomeTurn Set s st ts
  bits_set v st ts long y paced facts tied h =
      done (plan_of s) (middle s) (after_turn s) (rule_made s) s.count (Pacing boot C s q x) (pacing_next boot C s q x) x.number errands.Engage 0 (λ _ _. Unit {0}) (λ _. Unit {0}) (Unit {0}) tt Work P duty v st ts x.low (omega arith) (omega arith) (omega (arith, long))
      (record { ring = y.ring; places = y.places; follows = y.follows; more = record { run = record { runs = y.runs; up = y.up; holds = h }; paced = paced; facts = facts; tied = tied } }) tt
