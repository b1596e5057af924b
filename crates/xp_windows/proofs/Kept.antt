-- What is due at a connected end, and stays due until the errand that asks for its step has come.
use Rattle.std.proofs.Common.{◌≡◌, ℕ, ◌+◌, ◌*◌, ◌<◌, ◌≤◌, Bool, List, ◌∷◌, length, refl, ap, ◌∙◌, arith, inl, inr, ◌⊎◌, Option, Some}
use Rattle.xp_base.specs.History.{Turn}
use Rattle.xp_script.specs.declared.part.ScenarioPart.{ScenarioPart}
use Rattle.xp_rounds.specs.declared.rounds.TheConstants.{VISIT_TURNS}
use Rattle.xp_rounds.specs.Visit.{Visit}
use Rattle.xp_rounds.proofs.Visits.{Fits}
use Rattle.xp_rounds.proofs.Duties.{Along, Duty, done}
use Rattle.xp_protocol.specs.declared.rule.LinkRule.{LinkRule}
use Rattle.xp_protocol.specs.declared.rule.Rule.{Rule}
use Rattle.xp_protocol.specs.State.{State, End, Sides, end_of}
use Rattle.xp_protocol.specs.Runs.{after_turn}
use Rattle.xp_plan.specs.declared.errand.Errand.{Errand}
use Rattle.xp_plan.specs.Plan.{plan_of}
use Rattle.xp_windows.specs.Windows.{middle, At, IsUp, IsMet, IsOpen, SomeTurn, Steps}
use Rattle.xp_windows.proofs.Held.{Held}
use Rattle.xp_windows.specs.Visited.{rule_made}
use Rattle.xp_windows.proofs.Places.{Turns, Run, run_next, first_holds}
use Rattle.xp_windows.proofs.Asked.{IsAsked, steps_by}
use Rattle.xp_windows.proofs.Frame.{While, Framed, OwnSteps, stands, begun_keeps, answered_keeps, noticed_keeps}
use Rattle.xp_windows.proofs.Keeps.{ActsKeep, acts_keep, turn_keeps}

module _ (boot : ℕ) (C : State → Type 0) (R : Bool → Sides → Type 0) (f : Framed R) (E : End → LinkRule → Type 0) (own : OwnSteps R f E) (s : ScenarioPart) (q c k : ℕ) (e : Errand) (opens : (st : State) → C st → IsOpen q c st)
    (fits : (st : State) → IsUp boot st → C st → Fits (plan_of s) e ((plan_of s).errands k st)) (asks : (st : State) → IsUp boot st → C st → R (end_of st q c).shake.owes_message (end_of st q c).sides → IsAsked (At q c E) s k e st) (some : 1 ≤ (plan_of s).quota e)
    (most : (plan_of s).quota e ≤ VISIT_TURNS) where
  abbrev IsAlong : Visit Errand → State → List Turn → Type 0
  IsAlong v st ts = Along (plan_of s) (middle s) (after_turn s) (rule_made s) s.count (λ _. Run boot C s) (λ v st t ts e. run_next boot C s st t ts) v st ts

  abbrev Done : State → List Turn → Type 0
  Done st ts = SomeTurn (Steps (At q c E) s) s st ts

  abbrev Due : State → Type 0
  Due st = While R (end_of st q c)

  acts : ActsKeep (While R)
  acts = record { begun = begun_keeps R f; answered = answered_keeps R f; noticed = noticed_keeps R f }

  done_or : (st : State) (t : Turn) (ts : List Turn) → Steps (At q c E) s st t ⊎ Due (after_turn s st t) → Done st (t ∷ ts) ⊎ Due (after_turn s st t)
  done_or st t ts (inl y) = inl (inl y)
  done_or st t ts (inr h) = inr h

  after_holds : (st : State) (t : Turn) (ts : List Turn) → Run boot C s st (t ∷ ts) → IsMet q (after_turn s st t)
  after_holds st t ts r = (opens (after_turn s st t) (first_holds C s (after_turn s st t) ts r.holds.2)).met

  asks_now : (used : ℕ) (v : Visit Errand) (st : State) (t : Turn) (ts : List Turn) → IsAlong v st (t ∷ ts) → (used ≡ 0) × Due st → (x : Option Rule) × ((plan_of s).ask k e used (middle s st t) ≡ Some x) × (rule_made s (middle s st t) t ≡ x → Steps (At q c E) s st t)
  asks_now used v st t ts a w =
      let here = opens (middle s st t) a.more.holds.1 in
      let y = asks (middle s st t) a.more.up.1 a.more.holds.1 (stands R (end_of (middle s st t) q c) here.connected (acts_keep (While R) s q c acts st t.before w.1)) in
      (Some y.rule, ap (λ (n : ℕ). (plan_of s).ask k e n (middle s st t)) w.0 ∙ y.asks, λ i. steps_by (At q c E) s st t y.rule i y.is)

  duty : Duty (plan_of s) (middle s) (after_turn s) (rule_made s) s.count (λ _. Run boot C s) (λ v st t ts e. run_next boot C s st t ts) k e 0 Due (Unit {0}) tt (λ _ n used st. (used ≡ 0) × Due st) (λ _. Done)
  duty = record {
    later = λ st t ts h. inr h;
    stays = λ v st t ts a long h. let here = opens (middle s st t) a.more.holds.1 in done_or st t ts (turn_keeps R f s q c E own st t a.more.runs.0 here.met here.connected (after_holds st t ts a.more) h);
    fits = λ v st t ts a h. fits (middle s st t) a.more.up.1 a.more.holds.1;
    begins = λ v st t ts a h. (0, omega (arith, some), (refl, h));
    asks = λ ph n used v st t ts a long few w.
        let y = asks_now used v st t ts a w in
        (y.0, y.1, λ i. inl (inl (y.2 i)));
  }

  pub kept_in_time : (v : Visit Errand) (st : State) (ts : List Turn) → k < s.count → VISIT_TURNS * s.count + VISIT_TURNS < length ts → Turns boot s v st ts → Held C s st ts → R (end_of st q c).shake.owes_message (end_of st q c).sides → Done st ts
  kept_in_time v st ts low long x h r =
      done (plan_of s) (middle s) (after_turn s) (rule_made s) s.count (λ _. Run boot C s) (λ v st t ts e. run_next boot C s st t ts) k e 0 Due (Unit {0}) tt (λ _ n used st. (used ≡ 0) × Due st) (λ _. Done) duty v st ts low some most (omega (arith, long))
      (record { ring = x.ring; places = x.places; follows = x.follows; more = record { runs = x.runs; up = x.up; holds = h } }) (λ a b. r)
