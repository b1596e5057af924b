-- The lines of lawful scripts and of a lawful schedule are read as these.
use Rattle.std.proofs.Common.{◌≡◌, ℕ, ◌+◌, ◌-◌, ◌<◌, ◌≤◌, Bool, cond, inr, List, [], ◌∷◌, ◌++◌, length, refl, sym, ap, subst, ◌∙◌, arith, append_assoc, Some}
use Rattle.std.specs.Prelude.{codes, min, replicate, slice_set, slice_index_or}
use Rattle.std.specs.Fmt.{decimal}
use Rattle.std.specs.List.{AllByRecursion}
use Rattle.std.proofs.lemmas.Bool.{le-ltb}
use Rattle.std.proofs.lemmas.List.{append-nil, length-append}
use Rattle.std.proofs.lemmas.List.Sums.{sum_by-cons}
use Rattle.std.proofs.Math.Seq.{set-append_seam, get_or-append_seam}
use Rattle.xp_base.specs.declared.layout.TheConstants.{PARTS}
use Rattle.xp_script.specs.declared.limits.TheConstants.{COMMAND_LIMIT, PAYLOAD_BYTES_LIMIT}
use Rattle.xp_script.specs.declared.command.Command.{Command}
use Rattle.xp_script.specs.declared.schedule.Plan.{Plan}
use Rattle.xp_script.specs.declared.schedule.Plan.TheVariants.{Turns, Rounds}
use Rattle.xp_script.specs.Settings.{minor_of}
use Rattle.xp_script.specs.Totals.{command_bytes, script_bytes, boots_bytes, boots_commands, payload_bytes, command_count}
use Rattle.xp_script.specs.Lawful.{IsLawfulCommand, AreLawfulBoots, IsLawfulPlan}
use Rattle.xp_settings.specs.declared.settings.Settings.{Settings}
use Rattle.xp_commands.specs.Verbs.{end_verb_in, verb_in}
use Rattle.xp_settings.specs.Words.{setting_word_in}
use Rattle.xp_scenario.specs.declared.head.Head.TheVariants as heads
use Rattle.xp_scenario.specs.declared.head.PlanWord.TheVariants as planwords
use Rattle.xp_scenario.specs.declared.draft.Draft.{Draft}
use Rattle.xp_scenario.specs.declared.draft.Section.TheVariants as sections
use Rattle.xp_scenario.specs.Heads.{plan_word_in, head_in}
use Rattle.xp_scenario.specs.Plans.{plan_form}
use Rattle.xp_scenario.specs.Scripts.{script_begun, in_last, command_added}
use Rattle.xp_scenario.specs.Drafts.{with_script, with_command, with_plan}
use Rattle.xp_print.specs.Lines.{line_text, written}
use Rattle.xp_print.specs.Words.{command_words, plan_words}
use Rattle.xp_print.specs.Text.{command_lines, script_words, script_text, boots_text, scripts_text, plan_lines}
use Rattle.xp_language_laws.proofs.Lexing.{text_if}
use Rattle.xp_language_laws.proofs.FormsPrinted.{Prints, ends_there, number_then}
use Rattle.xp_language_laws.proofs.MadeTexts.{Made, made_none, made_then, made_same, IsBody, script_made, command_made, plan_line_made}

-- ---- scripts that grow

abbrev pub Boots : Type 0
Boots = List (List Command)

begun_there : (p : ℕ) (scripts front back : List Boots) (done : Boots) → scripts ≡ front ++ done ∷ back → p ≡ length front → script_begun p scripts ≡ front ++ (done ++ [] ∷ []) ∷ back
begun_there p scripts front back done e q =
    ap (λ (x : List Boots). script_begun p x) e ∙ ap (λ (n : ℕ). script_begun n (front ++ done ∷ back)) q
    ∙ ap (λ (x : Boots). slice_set (front ++ done ∷ back) (length front) (x ++ [] ∷ [])) (get_or-append_seam front done back [])
    ∙ set-append_seam front done back (done ++ [] ∷ [])

last_there : (c : Command) (done : Boots) (now : List Command) → in_last c (done ++ now ∷ []) ≡ done ++ (now ++ c ∷ []) ∷ []
last_there c done now =
    let n : length (done ++ now ∷ []) - 1 ≡ length done = omega (arith, length-append done (now ∷ [])) in
    ap (λ (k : ℕ). slice_set (done ++ now ∷ []) k (slice_index_or (done ++ now ∷ []) k [] ++ c ∷ [])) n
    ∙ ap (λ (x : List Command). slice_set (done ++ now ∷ []) (length done) (x ++ c ∷ [])) (get_or-append_seam done now [] [])
    ∙ set-append_seam done now [] (now ++ c ∷ [])

added_there : (p : ℕ) (c : Command) (scripts front back : List Boots) (done : Boots) (now : List Command) → scripts ≡ front ++ (done ++ now ∷ []) ∷ back → p ≡ length front → command_added p c scripts ≡ front ++ (done ++ (now ++ c ∷ []) ∷ []) ∷ back
added_there p c scripts front back done now e q =
    let here : Boots = done ++ now ∷ [] in
    ap (λ (x : List Boots). command_added p c x) e ∙ ap (λ (n : ℕ). command_added n c (front ++ here ∷ back)) q
    ∙ ap (λ (x : Boots). slice_set (front ++ here ∷ back) (length front) (in_last c x)) (get_or-append_seam front here back [])
    ∙ ap (λ (x : Boots). slice_set (front ++ here ∷ back) (length front) x) (last_there c done now)
    ∙ set-append_seam front here back (done ++ (now ++ c ∷ []) ∷ [])

-- ---- the commands of one script

-- a draft after a text of scripts: what stays, the scripts, and how many commands and bytes of
-- payloads came in it
pub record Reaches (text : List ℕ) (d : Draft) (scripts : List Boots) (commands bytes : ℕ) : Type 0 where
  pub draft : Draft
  pub made : Made text d draft
  pub body : IsBody draft.section
  pub count : draft.count ≡ d.count
  pub settings : draft.settings ≡ d.settings
  pub plans : draft.plans ≡ d.plans
  pub scripts_are : draft.scripts ≡ scripts
  pub commands_are : draft.commands ≡ d.commands + commands
  pub bytes_are : draft.payload_bytes ≡ d.payload_bytes + bytes

-- a command more, where its number and its bytes are within the limits
abbrev grown : Command → Draft → Draft
grown c d = record d {
  scripts = command_added d.own c d.scripts;
  commands = d.commands + 1;
  payload_bytes = min (d.payload_bytes + command_bytes c) (PAYLOAD_BYTES_LIMIT + 1);
}

grown_by : (c : Command) (d : Draft) → d.commands ≤ COMMAND_LIMIT → with_command c d ≡ grown c d
grown_by c d le = ap (λ (b : Bool). cond b d (grown c d)) (le-ltb COMMAND_LIMIT d.commands le)

script_bytes_of : (c : Command) (cs : List Command) → script_bytes (c ∷ cs) ≡ command_bytes c + script_bytes cs
unfolding script_bytes
script_bytes_of c cs = sum_by-cons command_bytes c cs

no_script_bytes : script_bytes [] ≡ 0
unfolding script_bytes
no_script_bytes = refl

commands_made : (cs : List Command) (d : Draft) (front back : List Boots) (done : Boots) (now : List Command) → d.section ≡ sections.Scripts → d.count ≤ PARTS → d.scripts ≡ front ++ (done ++ now ∷ []) ∷ back → d.own ≡ length front → AllByRecursion (IsLawfulCommand d.count d.own (minor_of d.own d.settings.minors)) cs → d.commands + length cs ≤ COMMAND_LIMIT → d.payload_bytes + script_bytes cs ≤ PAYLOAD_BYTES_LIMIT → Reaches (written (command_lines cs)) d (front ++ (done ++ (now ++ cs) ∷ []) ∷ back) (length cs) (script_bytes cs)
commands_made [] d front back done now s le e q h few small = record {
  draft = d;
  made = made_none d;
  body = inr s;
  count = refl;
  settings = refl;
  plans = refl;
  scripts_are = e ∙ ap (λ (x : List Command). front ++ (done ++ x ∷ []) ∷ back) (sym (append-nil now));
  commands_are = omega arith;
  bytes_are = omega (arith, no_script_bytes);
}
commands_made (c ∷ cs) d front back done now s le e q h few small =
    let b = script_bytes_of c cs in
    let m : Draft = grown c d in
    let bytes : m.payload_bytes ≡ d.payload_bytes + command_bytes c = omega (arith, b, small) in
    let r = commands_made cs m front back done (now ++ c ∷ []) s le (added_there d.own c d.scripts front back done now e q) q h.1 (omega (arith, few)) (omega (arith, b, bytes, small)) in
    let commands_then = r.commands_are in
    let bytes_then = r.bytes_are in
    record {
      draft = r.draft;
      made = made_then (line_text (command_words c)) (written (command_lines cs)) d m r.draft
          (made_same (line_text (command_words c)) d (with_command c d) m (grown_by c d (omega (arith, few))) (command_made d c s le (omega (arith, small)) h.0)) r.made;
      body = r.body;
      count = r.count;
      settings = r.settings;
      plans = r.plans;
      scripts_are = r.scripts_are ∙ ap (λ (x : List Command). front ++ (done ++ x ∷ []) ∷ back) (append_assoc now (c ∷ []) cs);
      commands_are = omega (arith, commands_then);
      bytes_are = omega (arith, bytes_then, bytes, b);
    }

-- ---- the scripts of one partition

boots_commands_of : (cs : List Command) (boots : Boots) → boots_commands (cs ∷ boots) ≡ length cs + boots_commands boots
unfolding boots_commands
boots_commands_of cs boots = sum_by-cons length cs boots

boots_bytes_of : (cs : List Command) (boots : Boots) → boots_bytes (cs ∷ boots) ≡ script_bytes cs + boots_bytes boots
unfolding boots_bytes
boots_bytes_of cs boots = sum_by-cons script_bytes cs boots

no_boots : (boots_commands [] ≡ 0) × (boots_bytes [] ≡ 0)
unfolding boots_commands boots_bytes
no_boots = (refl, refl)

boots_made : (p : ℕ) (todo : Boots) (front back : List Boots) (done : Boots) (d : Draft) → d.scripts ≡ front ++ done ∷ back → p ≡ length front → IsBody d.section → d.count ≤ PARTS → p < d.count → AreLawfulBoots d.count p (minor_of p d.settings.minors) todo → d.commands + boots_commands todo ≤ COMMAND_LIMIT → d.payload_bytes + boots_bytes todo ≤ PAYLOAD_BYTES_LIMIT → Reaches (boots_text p todo) d (front ++ (done ++ todo) ∷ back) (boots_commands todo) (boots_bytes todo)
boots_made p [] front back done d e q s le lt h few small =
    let none = no_boots in
    record {
      draft = d;
      made = made_none d;
      body = s;
      count = refl;
      settings = refl;
      plans = refl;
      scripts_are = e ∙ ap (λ (x : Boots). front ++ x ∷ back) (sym (append-nil done));
      commands_are = omega (arith, none.0);
      bytes_are = omega (arith, none.1);
    }
boots_made p (cs ∷ todo) front back done d e q s le lt h few small =
    let n = boots_commands_of cs todo in
    let k = boots_bytes_of cs todo in
    let b : Draft = with_script p d in
    let a = commands_made cs b front back done [] refl le (begun_there p d.scripts front back done e q) q h.0 (omega (arith, n, few)) (omega (arith, k, small)) in
    let m : Draft = a.draft in
    let count = a.count in
    let commands_so_far = a.commands_are in
    let bytes_so_far = a.bytes_are in
    let r = boots_made p todo front back (done ++ cs ∷ []) m a.scripts_are q a.body (omega (arith, count, le)) (omega (arith, count, lt))
    (subst (λ (x : ℕ). AreLawfulBoots x p (minor_of p m.settings.minors) todo) (sym count) (subst (λ (x : Settings). AreLawfulBoots d.count p (minor_of p x.minors) todo) (sym a.settings) h.1))
    (omega (arith, n, few, commands_so_far)) (omega (arith, k, small, bytes_so_far)) in
    let commands_then = r.commands_are in
    let bytes_then = r.bytes_are in
    record {
      draft = r.draft;
      made = made_then (script_text p cs) (boots_text p todo) d m r.draft (made_then (line_text (script_words p)) (written (command_lines cs)) d b m (script_made d p s le lt) a.made) r.made;
      body = r.body;
      count = r.count ∙ count;
      settings = r.settings ∙ a.settings;
      plans = r.plans ∙ a.plans;
      scripts_are = r.scripts_are ∙ ap (λ (x : Boots). front ++ x ∷ back) (append_assoc done (cs ∷ []) todo);
      commands_are = omega (arith, n, commands_so_far, commands_then);
      bytes_are = omega (arith, k, bytes_so_far, bytes_then);
    }

-- ---- all scripts

-- so many partitions without a script
abbrev pub blank : ℕ → List Boots
blank n = replicate n []

pub scripts_made : (back : List Boots) (p : ℕ) (front : List Boots) (d : Draft) → d.scripts ≡ front ++ blank (length back) → p ≡ length front → IsBody d.section → d.count ≤ PARTS → p + length back ≤ d.count
    → ((i : ℕ) → i < d.count → AreLawfulBoots d.count i (minor_of i d.settings.minors) (slice_index_or (front ++ back) i [])) → d.commands + command_count back ≤ COMMAND_LIMIT → d.payload_bytes + payload_bytes back ≤ PAYLOAD_BYTES_LIMIT → Reaches (scripts_text p back) d (front ++ back) (command_count back) (payload_bytes back)
scripts_made [] p front d e q s le fits h few small = record {
  draft = d;
  made = made_none d;
  body = s;
  count = refl;
  settings = refl;
  plans = refl;
  scripts_are = e;
  commands_are = omega arith;
  bytes_are = omega arith;
}
scripts_made (boots ∷ back) p front d e q s le fits h few small =
    let lt : p < d.count = omega (arith, fits) in
    let n : command_count (boots ∷ back) ≡ boots_commands boots + command_count back = sum_by-cons boots_commands boots back in
    let k : payload_bytes (boots ∷ back) ≡ boots_bytes boots + payload_bytes back = sum_by-cons boots_bytes boots back in
    let here : slice_index_or (front ++ boots ∷ back) p [] ≡ boots = ap (λ (n : ℕ). slice_index_or (front ++ boots ∷ back) n []) q ∙ get_or-append_seam front boots back [] in
    let a = boots_made p boots front (blank (length back)) [] d e q s le lt (subst (λ (x : Boots). AreLawfulBoots d.count p (minor_of p d.settings.minors) x) here (h p lt)) (omega (arith, few, n)) (omega (arith, small, k)) in
    let m : Draft = a.draft in
    let count = a.count in
    let commands_so_far = a.commands_are in
    let bytes_so_far = a.bytes_are in
    let shift : front ++ boots ∷ back ≡ (front ++ boots ∷ []) ++ back = sym (append_assoc front (boots ∷ []) back) in
    let r = scripts_made back (p + 1) (front ++ boots ∷ []) m (a.scripts_are ∙ sym (append_assoc front (boots ∷ []) (blank (length back)))) (omega (arith, q, length-append front (boots ∷ []))) a.body (omega (arith, count, le)) (omega (arith, count, fits))
    (λ i li. subst (λ (x : List Boots). AreLawfulBoots m.count i (minor_of i m.settings.minors) (slice_index_or x i [])) shift
    (subst (λ (x : ℕ). AreLawfulBoots x i (minor_of i m.settings.minors) (slice_index_or (front ++ boots ∷ back) i [])) (sym count)
    (subst (λ (x : Settings). AreLawfulBoots d.count i (minor_of i x.minors) (slice_index_or (front ++ boots ∷ back) i [])) (sym a.settings) (h i (omega (arith, li, count))))))
    (omega (arith, few, n, commands_so_far)) (omega (arith, small, k, bytes_so_far)) in
    let commands_then = r.commands_are in
    let bytes_then = r.bytes_are in
    record {
      draft = r.draft;
      made = made_then (boots_text p boots) (scripts_text (p + 1) back) d m r.draft a.made r.made;
      body = r.body;
      count = r.count ∙ count;
      settings = r.settings ∙ a.settings;
      plans = r.plans ∙ a.plans;
      scripts_are = r.scripts_are ∙ sym shift;
      commands_are = omega (arith, n, commands_so_far, commands_then);
      bytes_are = omega (arith, k, bytes_so_far, bytes_then);
    }

-- ---- the schedule

turns_head : head_in (codes "turns") ≡ Some (heads.Plan planwords.Turns)
unfolding head_in verb_in end_verb_in setting_word_in plan_word_in
turns_head = refl

rounds_head : head_in (codes "rounds") ≡ Some (heads.Plan planwords.Rounds)
unfolding head_in verb_in end_verb_in setting_word_in plan_word_in
rounds_head = refl

plan_made : (d : Draft) (p : Plan) → d.section ≡ sections.Schedule → d.count ≤ PARTS → IsLawfulPlan d.count p → Made (line_text (plan_words p)) d (with_plan p d)
plan_made d (Turns p n) q le h =
    let few = h.1 in
    let f : Prints (plan_form d.count planwords.Turns) (decimal p ∷ decimal n ∷ []) (Turns p n) = number_then p (let lt = h.0 in omega (arith, lt, le)) h.0 (number_then n few (omega arith, omega (arith, few)) ends_there) in
    plan_line_made d planwords.Turns (codes "turns") (decimal p ∷ decimal n ∷ []) (Turns p n) q turns_head (text_if (codes "turns") refl refl) f
plan_made d (Rounds n) q le h =
    let f : Prints (plan_form d.count planwords.Rounds) (decimal n ∷ []) (Rounds n) = number_then n h (omega arith, omega (arith, h)) ends_there in
    plan_line_made d planwords.Rounds (codes "rounds") (decimal n ∷ []) (Rounds n) q rounds_head (text_if (codes "rounds") refl refl) f

pub plans_made : (todo done : List Plan) (d : Draft) → d.section ≡ sections.Schedule → d.count ≤ PARTS → d.plans ≡ done → AllByRecursion (IsLawfulPlan d.count) todo → Made (written (plan_lines todo)) d (record d { plans = done ++ todo })
plans_made [] done d q le e h = made_same [] d d (record d { plans = done ++ [] }) (ap (λ (x : List Plan). record d { plans = x }) (e ∙ sym (append-nil done))) (made_none d)
plans_made (p ∷ todo) done d q le e h =
    let next : Draft = with_plan p d in
    made_then (line_text (plan_words p)) (written (plan_lines todo)) d next (record d { plans = done ++ p ∷ todo }) (plan_made d p q le h.0)
    (subst (λ (x : List Plan). Made (written (plan_lines todo)) next (record d { plans = x })) (append_assoc done (p ∷ []) todo)
    (plans_made todo (done ++ p ∷ []) next q le (ap (λ (x : List Plan). x ++ p ∷ []) e) h.1))
