-- Where the errands stand, what they ask for, and turns that follow the plan within a boot.
use Rattle.std.proofs.Common.{◌≡◌, ℕ, zero, suc, ◌<◌, Bool, true, ◌&&◌, cond, List, [], ◌∷◌, refl, ap, sym, ◌∙◌, subst, arith, Option}
use Rattle.std.specs.Prelude.{is_some, not, nat_eq}
use Rattle.std.proofs.lemmas.Bool.Decides.{nat_tests}
use Rattle.xp_base.specs.declared.reason.Reason.{Reason}
use Rattle.xp_base.specs.declared.layout.TheConstants.{CHANNELS}
use Rattle.xp_base.specs.History.{Turn}
use Rattle.xp_script.specs.declared.part.ScenarioPart.{ScenarioPart}
use Rattle.xp_rounds.specs.declared.rounds.Place.{Place}
use Rattle.xp_rounds.specs.declared.rounds.Place.TheVariants.{Own as OwnPlace, Partner as PartnerPlace}
use Rattle.xp_rounds.specs.Ring.{IsRing}
use Rattle.xp_rounds.specs.Visit.{Visit, planned, Follows}
use Rattle.xp_rounds.proofs.Visits.{Fits}
use Rattle.xp_rounds.proofs.Spots.{Spot, spot}
use Rattle.xp_protocol.specs.Parts.{IsLawfulPart, IsEndOf}
use Rattle.xp_protocol.specs.State.{State, Life, Area, Ready, peer_of}
use Rattle.xp_protocol.specs.Peering.{is_ready}
use Rattle.xp_protocol.specs.Rules.{IsPartner}
use Rattle.xp_protocol.specs.Runs.{RunsFrom, after_turn}
use Rattle.xp_plan.specs.declared.errand.Agenda.TheVariants as agendas
use Rattle.xp_plan.specs.declared.errand.Errand.{Errand}
use Rattle.xp_plan.specs.declared.errand.Errand.TheVariants as errands
use Rattle.xp_plan.specs.PeerSteps.{is_open_to}
use Rattle.xp_plan.specs.Plan.{asked, ask_own, ask_partner, ask_by, is_joined, errands_of, agenda_by, agenda_at, plan_of, first_visit}
use Rattle.xp_windows.specs.Windows.{middle, IsUp, IsMet}
use Rattle.xp_windows.proofs.Held.{Held}
use Rattle.xp_windows.specs.Visited.{rule_made, visit_after, FollowsFrom}

pub first_holds : (C : State → Type 0) (s : ScenarioPart) (st : State) (ts : List Turn) → Held C s st ts → C st
first_holds C s st [] h = h
first_holds C s st (t ∷ ts) h = h.0

-- within a boot the visits go on
same_boot : (s : ScenarioPart) (v : Visit Errand) (boot : ℕ) (st : State) (t : Turn) → st.clock.boots ≡ boot → (after_turn s st t).clock.boots ≡ boot → visit_after s v st t ≡ (planned (plan_of s) v (middle s st t)).visit
same_boot s v boot st t e f = ap (λ (b : Bool). cond b (planned (plan_of s) v (middle s st t)).visit (first_visit s)) (equal (after_turn s st t).clock.boots st.clock.boots (f ∙ sym e)) where
  equal : (a b : ℕ) → a ≡ b → nat_eq a b ≡ true
  equal a b h = grind (arith, nat_tests)

pub follows_plan : (s : ScenarioPart) (v : Visit Errand) (boot : ℕ) (st : State) (ts : List Turn) → Held (IsUp boot) s st ts → FollowsFrom s v st ts → Follows (plan_of s) (middle s) (after_turn s) (rule_made s) v st ts
follows_plan s v boot st [] up h = tt
follows_plan s v boot st (t ∷ ts) up h =
    let later = first_holds (IsUp boot) s (after_turn s st t) ts up.2 in
    let e = same_boot s v boot st t up.0.boot later.boot in
    (h.0, follows_plan s (planned (plan_of s) v (middle s st t)).visit boot (after_turn s st t) ts up.2 (subst (λ (w : Visit Errand). FollowsFrom s w (after_turn s st t) ts) e h.1))

-- turns of one boot that follow the plan
pub record Turns (boot : ℕ) (s : ScenarioPart) (v : Visit Errand) (st : State) (ts : List Turn) : Type 0 where
  pub ring : IsRing v.ring
  pub places : v.ring.count ≡ s.count
  pub follows : Follows (plan_of s) (middle s) (after_turn s) (rule_made s) v st ts
  pub runs : RunsFrom s st ts
  pub up : Held (IsUp boot) s st ts

-- turns of one boot throughout which something holds
pub record Run (boot : ℕ) (C : State → Type 0) (s : ScenarioPart) (st : State) (ts : List Turn) : Type 0 where
  pub runs : RunsFrom s st ts
  pub up : Held (IsUp boot) s st ts
  pub holds : Held C s st ts

pub run_next : (boot : ℕ) (C : State → Type 0) (s : ScenarioPart) (st : State) (t : Turn) (ts : List Turn) → Run boot C s st (t ∷ ts) → Run boot C s (after_turn s st t) ts
run_next boot C s st t ts r = record { runs = r.runs.1; up = r.up.2; holds = r.holds.2 }

-- the place of a partner
pub placed : (s : ScenarioPart) (q : ℕ) → IsLawfulPart s → IsPartner s q → Spot s.part s.count q
placed s q l p = spot s.part s.count q l.part p.low p.other

pub peer_placed : (s : ScenarioPart) (q c : ℕ) → IsLawfulPart s → IsEndOf s.part s.count q c → Spot s.part s.count q
peer_placed s q c l p = spot s.part s.count q l.part p.0 p.1

ready_by : (a : Area) → a ≡ Ready → is_ready a ≡ true
ready_by a e = ap (λ (x : Area). is_ready x) e

pub joined : (q : ℕ) (st : State) → IsMet q st → is_joined (peer_of st q) ≡ true
joined q st m =
    ap (λ (b : Bool). b && is_open_to (peer_of st q).engage) m.contact
    ∙ ap (λ (b : Bool). b && not (is_some (peer_of st q).engage.reason)) (ready_by (peer_of st q).engage.area m.ready)
    ∙ ap (λ (o : Option Reason). not (is_some o)) m.free

-- what is asked for at the place of a partner in contact, and which errands it has
module _ (s : ScenarioPart) (q : ℕ) (x : Spot s.part s.count q) where
  pub asks : (e : Errand) (used boot : ℕ) (st : State) → IsUp boot st → (plan_of s).ask x.number e used st ≡ asked (ask_partner s q e used st)
  asks e used boot st up =
      ap (λ (p : Place). asked (ask_by st.life s p e used st)) x.is
      ∙ ap (λ (l : Life). asked (ask_by l s (PartnerPlace q) e used st)) up.up

  at_place : (boot : ℕ) (st : State) → IsUp boot st → IsMet q st → errands_of agendas.Joined ≡ (plan_of s).errands x.number st
  at_place boot st up met =
      sym (ap (λ (p : Place). errands_of (agenda_at p st)) x.is
      ∙ ap (λ (l : Life). errands_of (agenda_by l (PartnerPlace q) st)) up.up
      ∙ ap (λ (b : Bool). errands_of (cond b agendas.Joined agendas.Apart)) (joined q st met))

  abbrev Joins : Errand → Type 0
  Joins e = Fits (plan_of s) e (errands_of agendas.Joined)

  fits : (e : Errand) (boot : ℕ) (st : State) → IsUp boot st → IsMet q st → Joins e → Fits (plan_of s) e ((plan_of s).errands x.number st)
  fits e boot st up met j = subst (λ (es : List Errand). Fits (plan_of s) e es) (at_place boot st up met) j

  signals : (c : ℕ) → c < CHANNELS → Joins (errands.Signal c)
  signals zero h = record { front = errands.Look ∷ errands.Flags ∷ errands.Check ∷ []; back = errands.Signal 1 ∷ errands.Signal 2 ∷ errands.Signal 3 ∷ errands.Counters 0 ∷ errands.Counters 1 ∷ errands.Counters 2 ∷ errands.Counters 3 ∷ errands.Bulk ∷ errands.Leave ∷ []; is = refl; low = omega arith }
  signals (suc zero) h = record { front = errands.Look ∷ errands.Flags ∷ errands.Check ∷ errands.Signal 0 ∷ []; back = errands.Signal 2 ∷ errands.Signal 3 ∷ errands.Counters 0 ∷ errands.Counters 1 ∷ errands.Counters 2 ∷ errands.Counters 3 ∷ errands.Bulk ∷ errands.Leave ∷ []; is = refl; low = omega arith }
  signals (suc (suc zero)) h = record { front = errands.Look ∷ errands.Flags ∷ errands.Check ∷ errands.Signal 0 ∷ errands.Signal 1 ∷ []; back = errands.Signal 3 ∷ errands.Counters 0 ∷ errands.Counters 1 ∷ errands.Counters 2 ∷ errands.Counters 3 ∷ errands.Bulk ∷ errands.Leave ∷ []; is = refl; low = omega arith }
  signals (suc (suc (suc zero))) h = record { front = errands.Look ∷ errands.Flags ∷ errands.Check ∷ errands.Signal 0 ∷ errands.Signal 1 ∷ errands.Signal 2 ∷ []; back = errands.Counters 0 ∷ errands.Counters 1 ∷ errands.Counters 2 ∷ errands.Counters 3 ∷ errands.Bulk ∷ errands.Leave ∷ []; is = refl; low = omega arith }
  signals (suc (suc (suc (suc c)))) h = absurd (omega (arith, h))

  pub fits_signal : (c boot : ℕ) (st : State) → c < CHANNELS → IsUp boot st → IsMet q st → Fits (plan_of s) (errands.Signal c) ((plan_of s).errands x.number st)
  fits_signal c boot st low up met = fits (errands.Signal c) boot st up met (signals c low)

  counts : (c : ℕ) → c < CHANNELS → Joins (errands.Counters c)
  counts zero h = record { front = errands.Look ∷ errands.Flags ∷ errands.Check ∷ errands.Signal 0 ∷ errands.Signal 1 ∷ errands.Signal 2 ∷ errands.Signal 3 ∷ []; back = errands.Counters 1 ∷ errands.Counters 2 ∷ errands.Counters 3 ∷ errands.Bulk ∷ errands.Leave ∷ []; is = refl; low = omega arith }
  counts (suc zero) h = record { front = errands.Look ∷ errands.Flags ∷ errands.Check ∷ errands.Signal 0 ∷ errands.Signal 1 ∷ errands.Signal 2 ∷ errands.Signal 3 ∷ errands.Counters 0 ∷ []; back = errands.Counters 2 ∷ errands.Counters 3 ∷ errands.Bulk ∷ errands.Leave ∷ []; is = refl; low = omega arith }
  counts (suc (suc zero)) h = record { front = errands.Look ∷ errands.Flags ∷ errands.Check ∷ errands.Signal 0 ∷ errands.Signal 1 ∷ errands.Signal 2 ∷ errands.Signal 3 ∷ errands.Counters 0 ∷ errands.Counters 1 ∷ []; back = errands.Counters 3 ∷ errands.Bulk ∷ errands.Leave ∷ []; is = refl; low = omega arith }
  counts (suc (suc (suc zero))) h = record { front = errands.Look ∷ errands.Flags ∷ errands.Check ∷ errands.Signal 0 ∷ errands.Signal 1 ∷ errands.Signal 2 ∷ errands.Signal 3 ∷ errands.Counters 0 ∷ errands.Counters 1 ∷ errands.Counters 2 ∷ []; back = errands.Bulk ∷ errands.Leave ∷ []; is = refl; low = omega arith }
  counts (suc (suc (suc (suc c)))) h = absurd (omega (arith, h))

  pub fits_counters : (c boot : ℕ) (st : State) → c < CHANNELS → IsUp boot st → IsMet q st → Fits (plan_of s) (errands.Counters c) ((plan_of s).errands x.number st)
  fits_counters c boot st low up met = fits (errands.Counters c) boot st up met (counts c low)

  pub fits_flags : (boot : ℕ) (st : State) → IsUp boot st → IsMet q st → Fits (plan_of s) errands.Flags ((plan_of s).errands x.number st)
  fits_flags boot st up met = fits errands.Flags boot st up met (record { front = errands.Look ∷ []; back = errands.Check ∷ errands.Signal 0 ∷ errands.Signal 1 ∷ errands.Signal 2 ∷ errands.Signal 3 ∷ errands.Counters 0 ∷ errands.Counters 1 ∷ errands.Counters 2 ∷ errands.Counters 3 ∷ errands.Bulk ∷ errands.Leave ∷ []; is = refl; low = omega arith })

  pub fits_check : (boot : ℕ) (st : State) → IsUp boot st → IsMet q st → Fits (plan_of s) errands.Check ((plan_of s).errands x.number st)
  fits_check boot st up met = fits errands.Check boot st up met (record { front = errands.Look ∷ errands.Flags ∷ []; back = errands.Signal 0 ∷ errands.Signal 1 ∷ errands.Signal 2 ∷ errands.Signal 3 ∷ errands.Counters 0 ∷ errands.Counters 1 ∷ errands.Counters 2 ∷ errands.Counters 3 ∷ errands.Bulk ∷ errands.Leave ∷ []; is = refl; low = omega arith })

-- the same at the own place
pub asks_own : (s : ScenarioPart) (e : Errand) (used boot : ℕ) (st : State) → IsUp boot st → (plan_of s).ask 0 e used st ≡ asked (ask_own s e used st)
asks_own s e used boot st up = ap (λ (l : Life). asked (ask_by l s OwnPlace e used st)) up.up

own_place : (s : ScenarioPart) (boot : ℕ) (st : State) → IsUp boot st → errands_of agendas.Own ≡ (plan_of s).errands 0 st
own_place s boot st up = sym (ap (λ (l : Life). errands_of (agenda_by l OwnPlace st)) up.up)

pub own_fits : (s : ScenarioPart) (e : Errand) (boot : ℕ) (st : State) → IsUp boot st → Fits (plan_of s) e (errands_of agendas.Own) → Fits (plan_of s) e ((plan_of s).errands 0 st)
own_fits s e boot st up f = subst (λ (es : List Errand). Fits (plan_of s) e es) (own_place s boot st up) f

pub fits_beat : (s : ScenarioPart) → Fits (plan_of s) errands.Beat (errands_of agendas.Own)
fits_beat s = record { front = []; back = errands.Mask ∷ errands.Activations ∷ errands.Deactivations ∷ errands.Engagements ∷ errands.Script ∷ []; is = refl; low = omega arith }

pub fits_activations : (s : ScenarioPart) → Fits (plan_of s) errands.Activations (errands_of agendas.Own)
fits_activations s = record { front = errands.Beat ∷ errands.Mask ∷ []; back = errands.Deactivations ∷ errands.Engagements ∷ errands.Script ∷ []; is = refl; low = omega arith }

pub fits_deactivations : (s : ScenarioPart) → Fits (plan_of s) errands.Deactivations (errands_of agendas.Own)
fits_deactivations s = record { front = errands.Beat ∷ errands.Mask ∷ errands.Activations ∷ []; back = errands.Engagements ∷ errands.Script ∷ []; is = refl; low = omega arith }

pub fits_engagements : (s : ScenarioPart) → Fits (plan_of s) errands.Engagements (errands_of agendas.Own)
fits_engagements s = record { front = errands.Beat ∷ errands.Mask ∷ errands.Activations ∷ errands.Deactivations ∷ []; back = errands.Script ∷ []; is = refl; low = omega arith }

pub fits_script : (s : ScenarioPart) → Fits (plan_of s) errands.Script (errands_of agendas.Own)
fits_script s = record { front = errands.Beat ∷ errands.Mask ∷ errands.Activations ∷ errands.Deactivations ∷ errands.Engagements ∷ []; back = []; is = refl; low = omega arith }
