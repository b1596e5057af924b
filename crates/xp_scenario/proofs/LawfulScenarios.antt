-- A text that spells a scenario spells a lawful one.
use Rattle.std.proofs.Common.{◌≡◌, ℕ, zero, suc, ◌+◌, ◌*◌, ◌/◌, ◌<◌, ◌≤◌, Bool, true, false, cond, ltb, leb, ◌&&◌, ◌||◌, inl, inr, List, [], ◌∷◌, length, get_or, refl, sym, subst, arith, lit≤, Option, Some, None, Result, Ok, Err}
use Rattle.std.specs.Prelude.{IfOk}
use Rattle.std.specs.List.{list_any, AllByRecursion}
use Rattle.std.specs.Option.{unwrap_or}
use Rattle.std.proofs.lemmas.Bool.{and_parts, leb-true, ltb-true, cases_eq}
use Rattle.std.proofs.lemmas.Bool.Decides.{nat_tests}
use Rattle.xp_script.specs.declared.limits.TheConstants.{BUDGET_LIMIT, DEFAULT_BUDGET, DEFAULT_BUDGET_PARTS, COMMAND_LIMIT, PAYLOAD_BYTES_LIMIT, TURN_LIMIT, SETTING_LIMIT, SCRIPT_LIMIT}
use Rattle.xp_script.specs.declared.schedule.Plan.{Plan}
use Rattle.xp_script.specs.declared.scenario.Scenario.{Scenario}
use Rattle.xp_script.specs.Sizes.{IsCount, default_budget}
use Rattle.xp_script.specs.Totals.{command_count, payload_bytes, turn_count, plans_of, setting_count}
use Rattle.xp_script.specs.Lawful.{IsLawfulCheck, IsLawfulPlan, IsWithinLimits, IsLawful}
use Rattle.xp_text.specs.declared.parts.TheConstants.{LINE_END}
use Rattle.xp_text.specs.Lines.{parts_of, line_of}
use Rattle.xp_text.proofs.PayloadLemmas.{some_part}
use Rattle.xp_forms.specs.declared.fault.WordFault.{WordFault}
use Rattle.xp_settings.specs.Lawful.{IsLawfulBudget, IsLawfulInterval}
use Rattle.xp_scenario.specs.declared.fault.What.{What}
use Rattle.xp_scenario.specs.declared.fault.What.TheVariants as whats
use Rattle.xp_scenario.specs.declared.fault.ScenarioFault.{ScenarioFault}
use Rattle.xp_scenario.specs.declared.draft.Draft.{Draft}
use Rattle.xp_scenario.specs.declared.draft.Section.{Section}
use Rattle.xp_scenario.specs.declared.draft.Section.TheVariants as sections
use Rattle.xp_scenario.specs.Drafts.{fresh, line_says}
use Rattle.xp_scenario.specs.Limits.{schedule_of, scenario_of, is_many, has_many_turns, too_many}
use Rattle.xp_scenario.specs.Text.{◌>>>◌, at_line, ended, lines_say, limited, scenario_in, Tells}
use Rattle.xp_scenario.proofs.Sound.{IsSettled, HasScripts, IsSoundIn, IsSound, blank_scripts, sound_step, sound_first}

-- ---- limits

not_more : (a b : ℕ) → ltb a b ≡ false → b ≤ a
not_more a b h = grind (arith, nat_tests)

cond_none : {A : Type 0} (b : Bool) (x : A) (o : Option A) → cond b (Some x) o ≡ None → (b ≡ false) × (o ≡ None)
cond_none true x o h = absurd cc
cond_none false x o h = (refl, h)

or_parts : (a b : Bool) → a || b ≡ false → (a ≡ false) × (b ≡ false)
or_parts true b h = absurd cc
or_parts false b h = (refl, h)

any_at : {X : Type 0} (f : X → Bool) (xs : List X) (i : ℕ) (d : X) → list_any f xs ≡ false → f d ≡ false → f (get_or xs i d) ≡ false
any_at f [] i d h e = e
any_at f (x ∷ xs) zero d h e = (or_parts (f x) (list_any f xs) h).0
any_at f (x ∷ xs) (suc i) d h e = any_at f xs i d (or_parts (f x) (list_any f xs) h).1 e

record AllWithin (s : Scenario) : Type 0 where
  limits : IsWithinLimits s
  few : list_any is_many s.scripts ≡ false

abbrev much : What → ℕ → What × ℕ
much w n = (w, n)

within : (s : Scenario) → too_many s ≡ None → AllWithin s
within s h =
    let a = cond_none (ltb COMMAND_LIMIT (command_count s.scripts)) (much whats.Commands COMMAND_LIMIT) _ h in
    let b = cond_none (ltb PAYLOAD_BYTES_LIMIT (payload_bytes s.scripts)) (much whats.PayloadBytes PAYLOAD_BYTES_LIMIT) _ a.1 in
    let c = cond_none (has_many_turns s) (much whats.Turns TURN_LIMIT) _ b.1 in
    let d = cond_none (ltb SETTING_LIMIT (setting_count s)) (much whats.Settings SETTING_LIMIT) _ c.1 in
    let e = cond_none (list_any is_many s.scripts) (much whats.Scripts SCRIPT_LIMIT) None d.1 in
    let t = or_parts (ltb TURN_LIMIT (turn_count s.count (plans_of s.schedule))) (ltb TURN_LIMIT (s.count * s.budget)) c.0 in
    record {
      limits = record {
        commands = not_more COMMAND_LIMIT (command_count s.scripts) a.0;
        bytes = not_more PAYLOAD_BYTES_LIMIT (payload_bytes s.scripts) b.0;
        turns = not_more TURN_LIMIT (turn_count s.count (plans_of s.schedule)) t.0;
        budgets = not_more TURN_LIMIT (s.count * s.budget) t.1;
        settings = not_more SETTING_LIMIT (setting_count s) d.0;
      };
      few = e.0;
    }

-- ---- the budget

-- a share of the turns that there may be, among so many partitions, is a budget
is_share : ℕ → Bool
is_share count = leb 1 (TURN_LIMIT / count) && leb (TURN_LIMIT / count) BUDGET_LIMIT

abbrev shares : ℕ → Bool
shares zero = true
shares (suc n) = (leb n DEFAULT_BUDGET_PARTS || is_share n) && shares n

share_at : (n k : ℕ) → shares n ≡ true → k < n → (leb k DEFAULT_BUDGET_PARTS || is_share k) ≡ true
share_at zero k h lt = absurd (omega arith)
share_at (suc n) k h lt =
    let p = and_parts (leb n DEFAULT_BUDGET_PARTS || is_share n) (shares n) h in
    elim (cases_eq k n) [
      | inl e ↦ subst (λ (m : ℕ). (leb m DEFAULT_BUDGET_PARTS || is_share m) ≡ true) (sym e) p.0
      | inr ne ↦ share_at n k p.1 (omega (arith, ne, lt))
    ]

all_shares : shares 65 ≡ true
unfolding is_share
all_shares = refl

default_is_budget : (count : ℕ) → IsCount count → (1 ≤ default_budget count) × (default_budget count ≤ BUDGET_LIMIT)
unfolding is_share
default_is_budget count h = go (ltb DEFAULT_BUDGET_PARTS count) (leb count DEFAULT_BUDGET_PARTS) refl refl (share_at 65 count all_shares (let high = h.high in omega (arith, high)))
  where
    go : (b c : Bool) → ltb DEFAULT_BUDGET_PARTS count ≡ b → leb count DEFAULT_BUDGET_PARTS ≡ c → (c || (leb 1 (TURN_LIMIT / count) && leb (TURN_LIMIT / count) BUDGET_LIMIT)) ≡ true → (1 ≤ cond b (TURN_LIMIT / count) DEFAULT_BUDGET) × (cond b (TURN_LIMIT / count) DEFAULT_BUDGET ≤ BUDGET_LIMIT)
    go true true e f t = absurd (let x = ltb-true DEFAULT_BUDGET_PARTS count e in let y = leb-true count DEFAULT_BUDGET_PARTS f in omega (arith, x, y))
    go true false e f t = let p = and_parts (leb 1 (TURN_LIMIT / count)) (leb (TURN_LIMIT / count) BUDGET_LIMIT) t in (leb-true 1 (TURN_LIMIT / count) p.0, leb-true (TURN_LIMIT / count) BUDGET_LIMIT p.1)
    go false c e f t = (lit≤ tt, lit≤ tt)

budget_is : (count : ℕ) (o : Option ℕ) → IsCount count → IsLawfulBudget o → (1 ≤ unwrap_or o (default_budget count)) × (unwrap_or o (default_budget count) ≤ BUDGET_LIMIT)
budget_is count None c h = default_is_budget count c
budget_is count (Some n) c h = h

check_is : (count : ℕ) (o : Option ℕ) → IsLawfulInterval count o → IsLawfulCheck count (unwrap_or o 0)
check_is count None h = record { low = λ ne. absurd (ne refl); high = lit≤ tt }
check_is count (Some n) h = h

-- ---- the scenario of a draft

plans_are : (s : Section) (count : ℕ) (plans : List Plan) → AllByRecursion (IsLawfulPlan count) plans → AllByRecursion (IsLawfulPlan count) (plans_of (schedule_of s plans))
plans_are sections.Opening count plans h = tt
plans_are sections.Counting count plans h = tt
plans_are sections.Settings count plans h = tt
plans_are sections.Scripts count plans h = tt
plans_are sections.Schedule count plans h = h

made_lawful : (d : Draft) → IsSettled d → HasScripts d → too_many (scenario_of d) ≡ None → IsLawful (scenario_of d)
made_lawful d settled scripts h =
    let w = within (scenario_of d) h in
    let budget = budget_is d.count d.settings.budget settled.count settled.settings.budget in
    let bytes = scripts.bytes in
    let most = w.limits.bytes in
    record {
      numbers = record { count = settled.count; budget_low = budget.0; budget_high = budget.1; check = check_is d.count d.settings.check settled.settings.check };
      settings = record { minors = settled.settings.minors; warms = settled.settings.warms; faults = settled.settings.faults; stops = settled.settings.stops; restarts = settled.settings.restarts; pokes = settled.settings.pokes };
      scripts = record {
        parts = scripts.parts;
        boots = λ p lt. record {
          commands = scripts.lawful (omega (arith, bytes, most)) p lt;
          few = not_more SCRIPT_LIMIT (length (get_or d.scripts p [])) (any_at is_many d.scripts p [] w.few refl);
        };
      };
      plans = plans_are d.section d.count d.plans settled.plans;
      limits = w.limits;
    }

-- the sections in which a text may end
abbrev Ends : Section → Type 0
Ends sections.Opening = ⊥
Ends sections.Counting = ⊥
Ends sections.Settings = Unit {0}
Ends sections.Scripts = Unit {0}
Ends sections.Schedule = Unit {0}

lawful_in : (s : Section) (d : Draft) → IsSoundIn s d → Ends s → too_many (scenario_of d) ≡ None → IsLawful (scenario_of d)
lawful_in sections.Opening d i e h = absurd e
lawful_in sections.Counting d i e h = absurd e
lawful_in sections.Settings d i e h = made_lawful d i.0 (blank_scripts d i.1 i.2) h
lawful_in sections.Scripts d i e h = made_lawful d i.0 i.1 h
lawful_in sections.Schedule d i e h = made_lawful d i.0 i.1 h

-- ---- lines and texts

line_ok : {A : Type 0} (n : ℕ) (r : Result A WordFault) (x : A) → at_line n r ≡ Ok x → r ≡ Ok x
line_ok n (Ok y) x e = cc
line_ok n (Err d) x e = absurd cc

step_ok : {A B : Type 0} (r : Result A ScenarioFault) (f : A → Result B ScenarioFault) (y : B) → (r >>> f) ≡ Ok y → (x : A) × (r ≡ Ok x) × (f x ≡ Ok y)
step_ok (Ok x) f y e = (x, refl, e)
step_ok (Err d) f y e = absurd cc

ended_ok : (s : Section) (n k : ℕ) (d e : Draft) → ended s n k d ≡ Ok e → Ends s × (d ≡ e)
ended_ok sections.Opening n k d e h = absurd cc
ended_ok sections.Counting n k d e h = absurd cc
ended_ok sections.Settings n k d e h = (tt, cc)
ended_ok sections.Scripts n k d e h = (tt, cc)
ended_ok sections.Schedule n k d e h = (tt, cc)

sound_lines : (n : ℕ) (lines : List (List ℕ)) (d e : Draft) → IsSound d → 0 < length lines → lines_say n lines d ≡ Ok e → IsSound e × Ends e.section
sound_lines n [] d e i lt h = absurd (omega arith)
sound_lines n (bytes ∷ []) d e i lt h =
    let a = step_ok (at_line n (line_says d (line_of bytes))) (λ m. ended m.section n (1 + length bytes) m) e h in
    let b = ended_ok a.0.section n (1 + length bytes) a.0 e a.2 in
    subst (λ (x : Draft). IsSound x × Ends x.section) b.1 (sound_step d a.0 bytes i (line_ok n (line_says d (line_of bytes)) a.0 a.1), b.0)
sound_lines n (bytes ∷ next ∷ more) d e i lt h =
    let a = step_ok (at_line n (line_says d (line_of bytes))) (lines_say (n + 1) (next ∷ more)) e h in
    sound_lines (n + 1) (next ∷ more) a.0 e (sound_step d a.0 bytes i (line_ok n (line_says d (line_of bytes)) a.0 a.1)) (omega arith) a.2

limited_ok : (s t : Scenario) (o : Option (What × ℕ)) → limited s o ≡ Ok t → (o ≡ None) × (s ≡ t)
limited_ok s t None h = (refl, cc)
limited_ok s t (Some f) h = absurd cc

pub lawful_text : (text : List ℕ) (s : Scenario) → scenario_in text ≡ Ok s → IsLawful s
unfolding scenario_in
lawful_text text s h =
    let a = step_ok (lines_say 1 (parts_of LINE_END text) fresh) (λ d. limited (scenario_of d) (too_many (scenario_of d))) s h in
    let b = limited_ok (scenario_of a.0) s (too_many (scenario_of a.0)) a.2 in
    let c = sound_lines 1 (parts_of LINE_END text) fresh a.0 sound_first (some_part LINE_END text) a.1 in
    subst IsLawful b.1 (lawful_in a.0.section a.0 c.0 c.1 b.0)

pub told_lawful : (text : List ℕ) (r : Result Scenario ScenarioFault) → Tells (λ (s : Scenario). s) r (scenario_in text) → IfOk r (λ s. IsLawful s)
told_lawful text (Ok s) h = lawful_text text s h
told_lawful text (Err e) h = tt
