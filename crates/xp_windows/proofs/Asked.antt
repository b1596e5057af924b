-- What is asked for throughout a window at some errand is done: a step that the errand asks for
-- whenever it comes.
use Rattle.std.proofs.Common.{◌≡◌, ℕ, ◌+◌, ◌*◌, ◌<◌, ◌≤◌, List, ◌∷◌, length, refl, ◌∙◌, ap, arith, inl, inr, Option, Some, None}
use Rattle.xp_base.specs.History.{Marked, Turn}
use Rattle.xp_script.specs.declared.part.ScenarioPart.{ScenarioPart}
use Rattle.xp_rounds.specs.declared.rounds.TheConstants.{VISIT_TURNS}
use Rattle.xp_rounds.specs.Visit.{Visit}
use Rattle.xp_rounds.proofs.Visits.{Fits}
use Rattle.xp_rounds.proofs.Duties.{Along, Duty, done}
use Rattle.xp_protocol.specs.declared.rule.Rule.{Rule}
use Rattle.xp_protocol.specs.State.{State}
use Rattle.xp_protocol.specs.Runs.{after_turn}
use Rattle.xp_plan.specs.declared.errand.Errand.{Errand}
use Rattle.xp_plan.specs.Plan.{plan_of}
use Rattle.xp_windows.specs.Windows.{middle, SomeTurn, Steps, IsUp}
use Rattle.xp_windows.proofs.Held.{Held}
use Rattle.xp_windows.specs.Visited.{rule_by, rule_made}
use Rattle.xp_windows.proofs.Places.{Turns, Run, run_next}

-- a turn that was seen to follow a rule makes its step
pub steps_by : (E : State → Rule → Type 0) (s : ScenarioPart) (st : State) (t : Turn) (r : Rule) → rule_made s (middle s st t) t ≡ Some r → E (middle s st t) r → Steps E s st t
steps_by E s st t r e h = by t.made refl e where
  by : (o : Option Marked) → t.made ≡ o → rule_by s (middle s st t) o ≡ Some r → Steps E s st t
  by None f g = absurd (cc)
  by (Some x) f g = record { step = x; made = f; rule = r; decoded = g; is = h }

-- what an errand of a place asks for first in a visit, by the state
pub record IsAsked (E : State → Rule → Type 0) (s : ScenarioPart) (k : ℕ) (e : Errand) (st : State) : Type 0 where
  pub rule : Rule
  pub asks : (plan_of s).ask k e 0 st ≡ Some (Some rule)
  pub is : E st rule

-- an errand that asks for a step whenever it comes
module _ (boot : ℕ) (C : State → Type 0) (E : State → Rule → Type 0) (s : ScenarioPart) (k : ℕ) (e : Errand)
    (fits : (st : State) → IsUp boot st → C st → Fits (plan_of s) e ((plan_of s).errands k st)) (asks : (st : State) → IsUp boot st → C st → IsAsked E s k e st) (some : 1 ≤ (plan_of s).quota e) (most : (plan_of s).quota e ≤ VISIT_TURNS) where
  abbrev IsAlong : Visit Errand → State → List Turn → Type 0
  IsAlong v st ts = Along (plan_of s) (middle s) (after_turn s) (rule_made s) s.count (λ _. Run boot C s) (λ v st t ts e. run_next boot C s st t ts) v st ts

  abbrev Done : State → List Turn → Type 0
  Done st ts = SomeTurn (Steps E s) s st ts

  asks_now : (used : ℕ) (v : Visit Errand) (st : State) (t : Turn) (ts : List Turn) → IsAlong v st (t ∷ ts) → used ≡ 0 → (x : Option Rule) × ((plan_of s).ask k e used (middle s st t) ≡ Some x) × (rule_made s (middle s st t) t ≡ x → Steps E s st t)
  asks_now used v st t ts a w =
      let y = asks (middle s st t) a.more.up.1 a.more.holds.1 in
      (Some y.rule, ap (λ (n : ℕ). (plan_of s).ask k e n (middle s st t)) w ∙ y.asks, λ f. steps_by E s st t y.rule f y.is)

  duty : Duty (plan_of s) (middle s) (after_turn s) (rule_made s) s.count (λ _. Run boot C s) (λ v st t ts e. run_next boot C s st t ts) k e 0 (λ _. Unit {0}) (Unit {0}) tt (λ _ n used _. used ≡ 0) (λ _. Done)
  duty = record {
    later = λ st t ts h. inr h;
    stays = λ v st t ts a long h. inr tt;
    fits = λ v st t ts a h. fits (middle s st t) a.more.up.1 a.more.holds.1;
    begins = λ v st t ts a h. (0, omega (arith, some), refl);
    asks = λ ph n used v st t ts a long few w.
        let y = asks_now used v st t ts a w in
        (y.0, y.1, λ f. inl (inl (y.2 f)));
  }

  pub done_in_time : (v : Visit Errand) (st : State) (ts : List Turn) → k < s.count → VISIT_TURNS * s.count + VISIT_TURNS < length ts → Turns boot s v st ts → Held C s st ts → Done st ts
  done_in_time v st ts low long x h =
      done (plan_of s) (middle s) (after_turn s) (rule_made s) s.count (λ _. Run boot C s) (λ v st t ts e. run_next boot C s st t ts) k e 0 (λ _. Unit {0}) (Unit {0}) tt (λ _ n used _. used ≡ 0) (λ _. Done) duty v st ts low some most (omega (arith, long))
      (record { ring = x.ring; places = x.places; follows = x.follows; more = record { runs = x.runs; up = x.up; holds = h } }) tt
