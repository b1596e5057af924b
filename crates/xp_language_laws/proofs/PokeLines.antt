-- A scenario has pokes exactly where a line of its text begins with `poke`.
use Rattle.std.proofs.Common.{◌≡◌, ◌≢◌, ℕ, ◌+◌, ◌<◌, Bool, true, false, cond, ltb, inl, inr, List, [], ◌∷◌, ◌++◌, length, refl, sym, ap, subst, ◌∙◌, arith, Option, Some, None, Ok}
use Rattle.std.specs.Prelude.{codes, bytes_eq, min}
use Rattle.std.proofs.lemmas.List.{length-append}
use Rattle.std.proofs.lemmas.Slice.Eq.{bytes_eq-Decides}
use Rattle.xp_script.specs.declared.limits.TheConstants.{COMMAND_LIMIT, PAYLOAD_BYTES_LIMIT}
use Rattle.xp_script.specs.declared.command.Command.{Command}
use Rattle.xp_script.specs.declared.log.Verb.{Verb}
use Rattle.xp_script.specs.declared.scenario.Scenario.{Scenario}
use Rattle.xp_script.specs.declared.setting.Poke.{Poke}
use Rattle.xp_script.specs.Totals.{command_bytes}
use Rattle.xp_text.specs.declared.parts.TheConstants.{LINE_END}
use Rattle.xp_text.specs.Lines.{Word, Line, parts_of, line_of, after_word, accepted_from, accepted}
use Rattle.xp_forms.specs.Values.{SaysOnly}
use Rattle.xp_commands.specs.Verbs.{verb_in}
use Rattle.xp_settings.specs.declared.word.SettingWord.{SettingWord}
use Rattle.xp_settings.specs.declared.word.SettingWord.TheVariants as words
use Rattle.xp_settings.specs.declared.settings.Settings.{Settings}
use Rattle.xp_settings.specs.Words.{spells, setting_word_in}
use Rattle.xp_settings.specs.Settings.{with_setting, setting_form}
use Rattle.xp_scenario.specs.declared.head.Head.{Head}
use Rattle.xp_scenario.specs.declared.head.Head.TheVariants as heads
use Rattle.xp_scenario.specs.declared.head.PlanWord.{PlanWord}
use Rattle.xp_scenario.specs.declared.draft.Draft.{Draft}
use Rattle.xp_scenario.specs.Heads.{or_else, plan_word_in, section_word_in, head_in}
use Rattle.xp_scenario.specs.Scripts.{command_added}
use Rattle.xp_scenario.specs.Drafts.{fresh, with_command, line_says}
use Rattle.xp_scenario.specs.Pokes.{placed, poke_from, poke_in}
use Rattle.xp_scenario.specs.Spelled.{Lead, Spells}
use Rattle.xp_language_laws.proofs.LineSteps.{HeadStep, LineStep, fits_only, line_step}
use Rattle.xp_language_laws.proofs.MadeTexts.{setting_head}

-- ---- which words are `poke`

poke_word : (w : List ℕ) → bytes_eq w (codes "poke") ≡ true → head_in w ≡ Some (heads.Setting words.Poke)
poke_word w e = ap head_in ((bytes_eq-Decides w (codes "poke")).0 e) ∙ setting_head words.Poke

next_of : (b : Bool) (x y : SettingWord) (o : Option SettingWord) → x ≢ y → cond b (Some x) o ≡ Some y → o ≡ Some y
next_of true x y o ne h = absurd (ne cc)
next_of false x y o ne h = h

last_of : (b : Bool) (x y : SettingWord) → cond b (Some x) None ≡ Some y → b ≡ true
last_of true x y h = refl
last_of false x y h = absurd cc

poke_setting : (w : List ℕ) → setting_word_in w ≡ Some words.Poke → bytes_eq w (codes "poke") ≡ true
unfolding setting_word_in
poke_setting w h =
    last_of (bytes_eq w (codes "poke")) words.Poke words.Poke
    (next_of (spells w words.Restart) words.Restart words.Poke _ (λ e. cc)
    (next_of (spells w words.Stop) words.Stop words.Poke _ (λ e. cc)
    (next_of (spells w words.Fault) words.Fault words.Poke _ (λ e. cc)
    (next_of (spells w words.Warm) words.Warm words.Poke _ (λ e. cc)
    (next_of (spells w words.Minor) words.Minor words.Poke _ (λ e. cc)
    (next_of (spells w words.Check) words.Check words.Poke _ (λ e. cc)
    (next_of (spells w words.Budget) words.Budget words.Poke _ (λ e. cc) h)))))))

no_section_word : (a b c d : Bool) → cond a (Some heads.Xpsim) (cond b (Some heads.Partitions) (cond c (Some heads.Script) (cond d (Some heads.Schedule) None))) ≡ Some (heads.Setting words.Poke) → ⊥
no_section_word true b c d h = cc
no_section_word false true c d h = cc
no_section_word false false true d h = cc
no_section_word false false false true h = cc
no_section_word false false false false h = cc

poke_only : (w : List ℕ) → head_in w ≡ Some (heads.Setting words.Poke) → bytes_eq w (codes "poke") ≡ true
unfolding head_in
poke_only w h = by_verb (verb_in w) h
  where
    by_plan : (o : Option PlanWord) → or_else o heads.Plan (section_word_in w) ≡ Some (heads.Setting words.Poke) → ⊥
    by_plan (Some p) t = cc
    by_plan None t = no_section_word (bytes_eq w (codes "xpsim")) (bytes_eq w (codes "partitions")) (bytes_eq w (codes "script")) (bytes_eq w (codes "schedule")) t

    by_setting : (o : Option SettingWord) → setting_word_in w ≡ o → or_else o heads.Setting (or_else (plan_word_in w) heads.Plan (section_word_in w)) ≡ Some (heads.Setting words.Poke) → bytes_eq w (codes "poke") ≡ true
    by_setting (Some x) e t = let same : x ≡ words.Poke = cc in poke_setting w (e ∙ ap (λ (y : SettingWord). Some y) same)
    by_setting None e t = absurd (by_plan (plan_word_in w) t)

    by_verb : (o : Option Verb) → or_else o heads.Command (or_else (setting_word_in w) heads.Setting (or_else (plan_word_in w) heads.Plan (section_word_in w))) ≡ Some (heads.Setting words.Poke) → bytes_eq w (codes "poke") ≡ true
    by_verb (Some v) t = absurd cc
    by_verb None t = by_setting (setting_word_in w) refl t

-- ---- what a line makes of the pokes so far

abbrev Stay : Settings → Settings → Type 0
Stay s t = t.pokes ≡ s.pokes

abbrev Grows : SettingWord → Settings → Settings → Type 0
Grows words.Poke s t = 0 < length t.pokes
Grows _ s t = Stay s t

grows : (count : ℕ) (s : Settings) (w : SettingWord) → SaysOnly None (λ x. Grows w s (with_setting x s)) (setting_form count s w)
grows count s words.Budget = λ e. λ n hn _. refl
grows count s words.Check = λ e. λ n hn _. refl
grows count s words.Minor = λ seen. λ apart. λ p hp known. λ none. λ v hv _. refl
grows count s words.Warm = λ p hp _. λ q hq _. λ c hc _. λ none. ((λ n hn _. ((λ l hl _. refl), tt)), tt)
grows count s words.Fault = λ p hp _. λ kind. λ k hk _. ((λ j hj _. refl), refl)
grows count s words.Stop = λ p hp _. λ none. ((λ k hk _. refl), ((λ t ht _. refl), tt))
grows count s words.Restart = λ p hp _. λ none. ((λ k hk _. refl), ((λ t ht _. refl), tt))
grows count s words.Poke = λ t ht _. λ o ho _. λ i hi _. λ w hw _. more s.pokes (record { turn = t; owner = o; index = i; word = w })
  where
    more : (xs : List Poke) (x : Poke) → 0 < length (xs ++ x ∷ [])
    more xs x = omega (arith, length-append xs (x ∷ []))

abbrev HeadSays : Head → Settings → Settings → Type 0
HeadSays (heads.Setting w) s t = Grows w s t
HeadSays _ s t = Stay s t

command_stays : (c : Command) (d : Draft) → Stay d.settings (with_command c d).settings
command_stays c d = go (ltb COMMAND_LIMIT d.commands)
  where
    go : (b : Bool) → Stay d.settings (cond b d (record d { scripts = command_added d.own c d.scripts; commands = d.commands + 1; payload_bytes = min (d.payload_bytes + command_bytes c) (PAYLOAD_BYTES_LIMIT + 1) })).settings
    go true = refl
    go false = refl

abbrev pokes : Draft → List Poke
pokes d = d.settings.pokes

head_says : (head : Head) (d : Draft) (ws : List Word) (e : Draft) → HeadStep head d ws e → HeadSays head d.settings e.settings
head_says heads.Xpsim d ws e h = absurd h
head_says heads.Partitions d ws e h = ap pokes h.2
head_says (heads.Setting w) d ws e h =
    subst (λ (x : Draft). Grows w d.settings x.settings) (sym h.is)
    (fits_only (λ x. Grows w d.settings (with_setting x d.settings)) (setting_form d.count d.settings w) ws h.value (grows d.count d.settings w) h.fits)
head_says heads.Script d ws e h = ap pokes h.is
head_says (heads.Command v) d ws e h = ap pokes h.is ∙ command_stays h.value d
head_says heads.Schedule d ws e h = ap pokes h.1
head_says (heads.Plan w) d ws e h = ap pokes h.is

-- by whether the first word is `poke`
abbrev Told : Bool → Settings → Settings → Type 0
Told true s t = 0 < length t.pokes
Told false s t = Stay s t

head_told : (w : List ℕ) (b : Bool) (head : Head) (s t : Settings) → bytes_eq w (codes "poke") ≡ b → head_in w ≡ Some head → HeadSays head s t → Told b s t
head_told w true head s t e f h =
    let same : heads.Setting words.Poke ≡ head = let g = sym (poke_word w e) ∙ f in cc in
    subst (λ (x : Head). HeadSays x s t) (sym same) h
head_told w false (heads.Setting words.Poke) s t e f h = absurd (let g = sym (poke_only w f) ∙ e in cc)
head_told w false (heads.Setting words.Budget) s t e f h = h
head_told w false (heads.Setting words.Check) s t e f h = h
head_told w false (heads.Setting words.Minor) s t e f h = h
head_told w false (heads.Setting words.Warm) s t e f h = h
head_told w false (heads.Setting words.Fault) s t e f h = h
head_told w false (heads.Setting words.Stop) s t e f h = h
head_told w false (heads.Setting words.Restart) s t e f h = h
head_told w false heads.Xpsim s t e f h = h
head_told w false heads.Partitions s t e f h = h
head_told w false heads.Script s t e f h = h
head_told w false heads.Schedule s t e f h = h
head_told w false (heads.Command v) s t e f h = h
head_told w false (heads.Plan p) s t e f h = h

-- by the line's place, where it begins with `poke`
abbrev LineTold : Option Line → Draft → Draft → Type 0
LineTold None d e = Stay d.settings e.settings
LineTold (Some line) d e = 0 < length e.settings.pokes

words_told : (ws : List Word) (line : Line) (d e : Draft) → LineStep d ws e → LineTold (accepted_from (codes "poke") line ws) d e
words_told [] line d e h = ap pokes h
words_told (w ∷ ws) line d e h = by_test (bytes_eq w.bytes (codes "poke")) (after_word line ws w.column) (by_step h)
  where
    by_test : (b : Bool) (after : Line) → Told b d.settings e.settings → LineTold (cond b (Some after) None) d e
    by_test true after t = t
    by_test false after t = t

    by_step : LineStep d (w ∷ ws) e → Told (bytes_eq w.bytes (codes "poke")) d.settings e.settings
    by_step (inl (q, is_xpsim, is)) = subst (λ (v : List ℕ). Told (bytes_eq v (codes "poke")) d.settings e.settings) (sym is_xpsim) (ap pokes is)
    by_step (inr (head, f, step)) = head_told w.bytes (bytes_eq w.bytes (codes "poke")) head d.settings e.settings refl f (head_says head d ws e step)

line_told : (d e : Draft) (bytes : List ℕ) → line_says d (line_of bytes) ≡ Ok e → LineTold (accepted (codes "poke") (line_of bytes)) d e
unfolding accepted
line_told d e bytes h = words_told (line_of bytes).words (line_of bytes) d e (line_step d e bytes h)

-- ---- the lines of a text

abbrev Place : Type 0
Place = Option (ℕ × ℕ)

-- by the place of the first line that begins with `poke`
abbrev TextTold : Place → Draft → Draft → Type 0
TextTold None d e = Stay d.settings e.settings
TextTold (Some place) d e = 0 < length e.settings.pokes

some_stay : (lines : List (List ℕ)) (d e : Draft) → Lead lines d e → 0 < length d.settings.pokes → 0 < length e.settings.pokes
some_stay [] d e h lt = subst (λ (x : Draft). 0 < length x.settings.pokes) h lt
some_stay (bytes ∷ lines) d e (m, r, h) lt = some_stay lines m e h (go (accepted (codes "poke") (line_of bytes)) (line_told d m bytes r))
  where
    go : (o : Option Line) → LineTold o d m → 0 < length m.settings.pokes
    go None t = omega (arith, ap length t, lt)
    go (Some line) t = t

lines_told : (n : ℕ) (lines : List (List ℕ)) (d e : Draft) → Lead lines d e → TextTold (poke_from n lines) d e
lines_told n [] d e h = ap (λ (x : Draft). x.settings.pokes) (sym h)
lines_told n (bytes ∷ lines) d e (m, r, h) = go (accepted (codes "poke") (line_of bytes)) (poke_from (n + 1) lines) (line_told d m bytes r) (lines_told (n + 1) lines m e h)
  where
    go : (o : Option Line) (later : Place) → LineTold o d m → TextTold later m e → TextTold (placed n o later) d e
    go (Some line) later t u = some_stay lines m e h t
    go None None t u = u ∙ t
    go None (Some place) t u = u

-- no line begins with `poke` exactly where the scenario has no pokes
pub placed_or_none : (text : List ℕ) (s : Scenario) → Spells text s → (poke_in text ≡ None → s.pokes ≡ []) × (s.pokes ≡ [] → poke_in text ≡ None)
unfolding poke_in
placed_or_none text s h = go (poke_from 1 (parts_of LINE_END text)) (lines_told 1 (parts_of LINE_END text) fresh h.draft h.right)
  where
    pokes_are : h.draft.settings.pokes ≡ s.pokes
    pokes_are = ap (λ (x : Scenario). x.pokes) h.meaning

    go : (place : Place) → TextTold place fresh h.draft → (place ≡ None → s.pokes ≡ []) × (s.pokes ≡ [] → place ≡ None)
    go None t = ((λ e. sym pokes_are ∙ t), (λ e. refl))
    go (Some place) t = ((λ e. absurd cc), (λ e. absurd (let n = ap length (pokes_are ∙ e) in omega (arith, n, t))))
