-- The text of a lawful scenario spells the scenario.
use Rattle.std.proofs.Common.{◌≡◌, ℕ, suc, ◌*◌, ◌<◌, ◌≤◌, false, inl, inr, List, [], ◌∷◌, ◌++◌, length, get_or, refl, sym, ap, subst, ◌∙◌, arith, Option, Some, None, Ok}
use Rattle.std.specs.Prelude.{codes}
use Rattle.std.specs.Fmt.{decimal}
use Rattle.std.specs.List.{list_any, AllByRecursion}
use Rattle.std.specs.Option.{unwrap_or}
use Rattle.std.proofs.lemmas.Bool.{le-ltb}
use Rattle.std.proofs.lemmas.List.{append-nil}
use Rattle.xp_base.specs.declared.layout.TheConstants.{PARTS}
use Rattle.xp_script.specs.declared.limits.TheConstants.{COMMAND_LIMIT, PAYLOAD_BYTES_LIMIT, TURN_LIMIT, SETTING_LIMIT, SCRIPT_LIMIT}
use Rattle.xp_script.specs.declared.schedule.Plan.{Plan}
use Rattle.xp_script.specs.declared.scenario.Scenario.{Scenario}
use Rattle.xp_script.specs.Sizes.{default_budget}
use Rattle.xp_script.specs.Totals.{command_count, payload_bytes, turn_count, plans_of, setting_count}
use Rattle.xp_script.specs.Lawful.{IsLawfulPlan, IsLawful}
use Rattle.xp_text.specs.declared.parts.TheConstants.{LINE_END}
use Rattle.xp_text.specs.Lines.{parts_of}
use Rattle.xp_settings.specs.declared.settings.Settings.{Settings}
use Rattle.xp_scenario.specs.declared.draft.Draft.{Draft}
use Rattle.xp_scenario.specs.declared.draft.Section.{Section}
use Rattle.xp_scenario.specs.declared.draft.Section.TheVariants as sections
use Rattle.xp_scenario.specs.Drafts.{fresh, opened, counted, with_one_setting, scheduled}
use Rattle.xp_script.specs.declared.setting.Setting.TheVariants as settings
use Rattle.xp_scenario.specs.Limits.{schedule_of, scenario_of, is_many, too_many}
use Rattle.xp_scenario.specs.Spelled.{Lead, missing, Spells}
use Rattle.xp_scenario.specs.Text.{scenario_in}
use Rattle.xp_scenario.proofs.Spellings.{spelled_again}
use Rattle.xp_print.specs.Lines.{line_text, written}
use Rattle.xp_print.specs.Text.{minor_lines, warm_lines, fault_lines, stop_lines, restart_lines, poke_lines, scripts_text, plan_lines, schedule_text, header_text, count_text, numbers_text, settings_text, text_of}
use Rattle.xp_language_laws.proofs.MadeTexts.{Made, made_none, made_then, lead_append, IsBody, header_made, count_made, schedule_made, blank_line}
use Rattle.xp_language_laws.proofs.SettingLines.{budget_made, check_made, minors_made, warms_made, faults_made, stops_made, restarts_made, pokes_made, with_minors, with_warms, with_faults, with_stops, with_restarts, with_pokes}
use Rattle.xp_language_laws.proofs.ScriptLines.{Boots, Reaches, blank, scripts_made, plans_made}

-- ---- the head of the text

-- after the line `partitions`
abbrev after_count : Scenario → Draft
after_count s = counted s.count (opened fresh)

abbrev after_numbers : Scenario → Draft
after_numbers s = with_one_setting (settings.Check s.check) (with_one_setting (settings.Budget s.budget) (after_count s))

abbrev settings_of : Scenario → Settings
settings_of s = record {
  budget = Some s.budget;
  check = Some s.check;
  minors = s.minors;
  warms = s.warms;
  faults = s.faults;
  stops = s.stops;
  restarts = s.restarts;
  pokes = s.pokes;
}

abbrev after_settings : Scenario → Draft
after_settings s = record (after_count s) { settings = settings_of s }

count_text_made : (s : Scenario) → IsLawful s → Made (count_text s.count) fresh (after_count s)
unfolding count_text header_text
count_text_made s h =
    made_then (line_text (codes "xpsim" ∷ codes "1" ∷ [])) (line_text (codes "partitions" ∷ decimal s.count ∷ [])) fresh (opened fresh) (after_count s)
    header_made (count_made (opened fresh) s.count refl h.numbers.count)

numbers_text_made : (s : Scenario) → IsLawful s → Made (numbers_text s.budget s.check) (after_count s) (after_numbers s)
unfolding numbers_text
numbers_text_made s h =
    let d : Draft = after_count s in
    let e : Draft = with_one_setting (settings.Budget s.budget) d in
    made_then (line_text (codes "budget" ∷ decimal s.budget ∷ [])) (line_text (codes "check" ∷ decimal s.check ∷ [])) d e (after_numbers s)
    (budget_made d s.budget refl refl h.numbers.budget_low h.numbers.budget_high) (check_made e s.check refl refl h.numbers.check)

settings_text_made : (s : Scenario) → IsLawful s → Made (settings_text s) (after_numbers s) (after_settings s)
unfolding settings_text
settings_text_made s h =
    let le : s.count ≤ PARTS = h.numbers.count.high in
    let l = h.settings in
    let a : Draft = after_numbers s in
    let b : Draft = with_minors s.minors a in
    let c : Draft = with_warms s.warms b in
    let d : Draft = with_faults s.faults c in
    let e : Draft = with_stops s.stops d in
    let f : Draft = with_restarts s.restarts e in
    let g : Draft = with_pokes s.pokes f in
    made_then (written (minor_lines s.minors)) _ a b g (minors_made s.minors [] a refl le refl refl l.minors.each l.minors.one)
    (made_then (written (warm_lines s.warms)) _ b c g (warms_made s.warms [] b refl le refl l.warms.each l.warms.one)
    (made_then (written (fault_lines s.faults)) _ c d g (faults_made s.faults [] c refl le refl l.faults)
    (made_then (written (stop_lines s.stops)) _ d e g (stops_made s.stops [] d refl le refl l.stops.each l.stops.one)
    (made_then (written (restart_lines s.restarts)) (written (poke_lines s.pokes)) e f g (restarts_made s.restarts [] e refl le refl l.restarts.each l.restarts.few)
    (pokes_made s.pokes [] f refl le refl l.pokes)))))

-- ---- the scripts

scripts_text_made : (s : Scenario) → IsLawful s → Reaches (scripts_text 0 s.scripts) (after_settings s) s.scripts (command_count s.scripts) (payload_bytes s.scripts)
scripts_text_made s h =
    let parts = h.scripts.parts in
    let commands = h.limits.commands in
    let bytes = h.limits.bytes in
    scripts_made s.scripts 0 [] (after_settings s) (ap (λ (n : ℕ). blank n) (sym parts)) refl (inl refl) h.numbers.count.high (omega (arith, parts))
    (λ p lt. (h.scripts.boots p lt).commands) (omega (arith, commands)) (omega (arith, bytes))

-- ---- the schedule and the end

-- a draft that means the scenario
record Means (s : Scenario) (d : Draft) : Type 0 where
  whole : missing d.section ≡ None
  count : d.count ≡ s.count
  settings : d.settings ≡ settings_of s
  scripts : d.scripts ≡ s.scripts
  schedule : schedule_of d.section d.plans ≡ s.schedule

no_schedule : (x : Section) (plans : List Plan) → IsBody x → (missing x ≡ None) × (schedule_of x plans ≡ None)
no_schedule sections.Opening plans (inl e) = absurd cc
no_schedule sections.Opening plans (inr e) = absurd cc
no_schedule sections.Counting plans (inl e) = absurd cc
no_schedule sections.Counting plans (inr e) = absurd cc
no_schedule sections.Settings plans b = (refl, refl)
no_schedule sections.Scripts plans b = (refl, refl)
no_schedule sections.Schedule plans (inl e) = absurd cc
no_schedule sections.Schedule plans (inr e) = absurd cc

schedule_text_made : (s : Scenario) (d : Draft) (o : Option (List Plan)) → o ≡ s.schedule → d.count ≤ PARTS → IsBody d.section → d.count ≡ s.count → d.settings ≡ settings_of s → d.scripts ≡ s.scripts → d.plans ≡ [] → AllByRecursion (IsLawfulPlan s.count) (plans_of o) → (e : Draft) × Made (schedule_text o) d e × Means s e
schedule_text_made s d None is le b count settings scripts plans h =
    let n = no_schedule d.section d.plans b in
    (d, made_none d, record { whole = n.0; count = count; settings = settings; scripts = scripts; schedule = n.1 ∙ is })
schedule_text_made s d (Some list) is le b count settings scripts plans h =
    let m : Draft = scheduled d in
    let e : Draft = record m { plans = list } in (
      e,
      made_then (line_text (codes "schedule" ∷ [])) (written (plan_lines list)) d m e (schedule_made d b)
          (plans_made list [] m refl le plans (subst (λ (n : ℕ). AllByRecursion (IsLawfulPlan n) list) (sym count) h)),
      record { whole = refl; count = count; settings = settings; scripts = scripts; schedule = is },
    )

-- ---- the meaning

abbrev meant : ℕ → Settings → List Boots → Option (List Plan) → Scenario
meant count set scripts schedule = record {
  count = count;
  budget = unwrap_or set.budget (default_budget count);
  check = unwrap_or set.check 0;
  minors = set.minors;
  warms = set.warms;
  faults = set.faults;
  stops = set.stops;
  restarts = set.restarts;
  pokes = set.pokes;
  scripts = scripts;
  schedule = schedule;
}

meaning : (s : Scenario) (d : Draft) → Means s d → scenario_of d ≡ s
meaning s d m =
    ap (λ (n : ℕ). meant n d.settings d.scripts (schedule_of d.section d.plans)) m.count
    ∙ ap (λ (x : Settings). meant s.count x d.scripts (schedule_of d.section d.plans)) m.settings
    ∙ ap (λ (x : List Boots). meant s.count (settings_of s) x (schedule_of d.section d.plans)) m.scripts
    ∙ ap (λ (x : Option (List Plan)). meant s.count (settings_of s) s.scripts x) m.schedule

few_scripts : (scripts : List Boots) → ((p : ℕ) → p < length scripts → length (get_or scripts p []) ≤ SCRIPT_LIMIT) → list_any is_many scripts ≡ false
few_scripts [] h = refl
few_scripts (boots ∷ scripts) h = rw (le-ltb SCRIPT_LIMIT (length boots) (h 0 (omega arith))) (few_scripts scripts (λ p lt. h (suc p) (omega (arith, lt))))

within : (s : Scenario) → IsLawful s → too_many s ≡ None
within s h =
    let l = h.limits in
    let parts = h.scripts.parts in
    rw (
      le-ltb COMMAND_LIMIT (command_count s.scripts) l.commands,
      le-ltb PAYLOAD_BYTES_LIMIT (payload_bytes s.scripts) l.bytes,
      le-ltb TURN_LIMIT (turn_count s.count (plans_of s.schedule)) l.turns,
      le-ltb TURN_LIMIT (s.count * s.budget) l.budgets,
      le-ltb SETTING_LIMIT (setting_count s) l.settings,
      few_scripts s.scripts (λ p lt. (h.scripts.boots p (omega (arith, parts, lt))).few),
    ) refl

-- ---- the whole text

record Ends (text : List ℕ) (s : Scenario) : Type 0 where
  draft : Draft
  made : Made text fresh draft
  means : Means s draft

text_made : (s : Scenario) → IsLawful s → Ends (text_of s) s
unfolding text_of
text_made s h =
    let a : Draft = after_count s in
    let b : Draft = after_numbers s in
    let c : Draft = after_settings s in
    let r = scripts_text_made s h in
    let high = h.numbers.count.high in
    let count = r.count in
    let last = schedule_text_made s r.draft s.schedule refl (omega (arith, count, high)) r.body r.count r.settings r.scripts_are r.plans h.plans in
    record {
      draft = last.0;
      made = made_then (count_text s.count) _ fresh a last.0 (count_text_made s h)
          (made_then (numbers_text s.budget s.check) _ a b last.0 (numbers_text_made s h)
          (made_then (settings_text s) _ b c last.0 (settings_text_made s h)
          (made_then (scripts_text 0 s.scripts) (schedule_text s.schedule) c r.draft last.0 r.made last.1)));
      means = last.2;
    }

last_part : parts_of LINE_END [] ≡ [] ∷ []
unfolding parts_of
last_part = refl

pub spells : (s : Scenario) → IsLawful s → Spells (text_of s) s
spells s h =
    let e = text_made s h in
    let d : Draft = e.draft in
    let same : scenario_of d ≡ s = meaning s d e.means in
    let cut : parts_of LINE_END (text_of s) ≡ e.made.lines ++ [] ∷ [] =
    ap (parts_of LINE_END) (sym (append-nil (text_of s))) ∙ e.made.cut [] ∙ ap (λ (ls : List (List ℕ)). e.made.lines ++ ls) last_part in
    record {
      draft = d;
      right = subst (λ (ls : List (List ℕ)). Lead ls fresh d) (sym cut) (lead_append e.made.lines ([] ∷ []) fresh d d e.made.lead (d, blank_line d, refl));
      whole = e.means.whole;
      within = ap too_many same ∙ within s h;
      meaning = same;
    }

pub read_again : (s : Scenario) → IsLawful s → scenario_in (text_of s) ≡ Ok s
read_again s h = spelled_again (text_of s) s (spells s h)
