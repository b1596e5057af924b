-- Lines that are printed lead from one draft to the next.
use Rattle.std.proofs.Common.{◌≡◌, ℕ, ◌+◌, ◌<◌, ◌≤◌, Bool, ◌⊎◌, inl, inr, List, [], ◌∷◌, ◌++◌, length, refl, sym, ap, subst, ◌∙◌, arith, append_assoc, Option, Some, Ok}
use Rattle.std.specs.Prelude.{codes}
use Rattle.std.specs.Fmt.{decimal}
use Rattle.std.specs.List.{AllByRecursion}
use Rattle.std.proofs.lemmas.Bool.{le-leb}
use Rattle.xp_base.specs.declared.layout.TheConstants.{PARTS}
use Rattle.xp_script.specs.declared.limits.TheConstants.{PAYLOAD_BYTES_LIMIT}
use Rattle.xp_script.specs.declared.command.Command.{Command}
use Rattle.xp_script.specs.declared.log.Verb.{Verb}
use Rattle.xp_script.specs.declared.log.Verb.TheVariants as verbs
use Rattle.xp_script.specs.declared.setting.Setting.{Setting}
use Rattle.xp_script.specs.declared.schedule.Plan.{Plan}
use Rattle.xp_script.specs.Sizes.{IsCount}
use Rattle.xp_script.specs.Settings.{minor_of}
use Rattle.xp_script.specs.Lawful.{IsLawfulCommand}
use Rattle.xp_script.specs.Commands.{verb_of, verb_text}
use Rattle.xp_text.specs.declared.parts.TheConstants.{LINE_END}
use Rattle.xp_text.specs.Lines.{Word, Line, parts_of, line_of}
use Rattle.xp_text.proofs.WordLemmas.{nothing_there}
use Rattle.xp_forms.specs.Forms.{next_word, reads}
use Rattle.xp_forms.proofs.Fitting.{left, fits_read}
use Rattle.xp_commands.specs.declared.command.Owner.{Owner}
use Rattle.xp_commands.specs.Commands.{command_form}
use Rattle.xp_commands.specs.Verbs.{end_verb_in, verb_in}
use Rattle.xp_commands.proofs.LawfulCommands.{keeper}
use Rattle.xp_settings.specs.declared.word.SettingWord.{SettingWord}
use Rattle.xp_settings.specs.declared.word.SettingWord.TheVariants as words
use Rattle.xp_settings.specs.Words.{setting_text, setting_word_in}
use Rattle.xp_settings.specs.Settings.{setting_form}
use Rattle.xp_scenario.specs.declared.head.Head.{Head}
use Rattle.xp_scenario.specs.declared.head.Head.TheVariants as heads
use Rattle.xp_scenario.specs.declared.head.PlanWord.{PlanWord}
use Rattle.xp_scenario.specs.declared.draft.Draft.{Draft}
use Rattle.xp_scenario.specs.declared.draft.Section.{Section}
use Rattle.xp_scenario.specs.declared.draft.Section.TheVariants as sections
use Rattle.xp_scenario.specs.Heads.{plan_word_in, head_in}
use Rattle.xp_scenario.specs.Plans.{plan_form}
use Rattle.xp_scenario.specs.Drafts.{fresh, opened, counted, with_one_setting, with_script, owner_of, with_command, scheduled, with_plan, header_form, count_form, script_form, schedule_form, said, in_section, by_head, after_head, words_say, line_says}
use Rattle.xp_scenario.specs.Spelled.{Lead}
use Rattle.xp_print.specs.Lines.{line_text}
use Rattle.xp_print.specs.Words.{command_words}
use Rattle.xp_language_laws.proofs.Lexing.{IsText, text_if, joined, placed, lexed, all_plain, cut_line}
use Rattle.xp_language_laws.proofs.FormsPrinted.{Prints, ends_there, number_then, word_then}
use Rattle.xp_language_laws.proofs.CommandLines.{after_first, verb_is_text, first_is_verb, command_prints}

-- ---- texts of right lines

pub lead_append : (xs ys : List (List ℕ)) (d m e : Draft) → Lead xs d m → Lead ys m e → Lead (xs ++ ys) d e
lead_append [] ys d m e h k = subst (λ (x : Draft). Lead ys x e) (sym h) k
lead_append (x ∷ xs) ys d m e (n, r, h) k = (n, r, lead_append xs ys n m e h k)

-- the text is right lines, each with its end, that lead from d to e
pub record Made (text : List ℕ) (d e : Draft) : Type 0 where
  pub lines : List (List ℕ)
  pub lead : Lead lines d e
  pub cut : (rest : List ℕ) → parts_of LINE_END (text ++ rest) ≡ lines ++ parts_of LINE_END rest

pub made_none : (d : Draft) → Made [] d d
made_none d = record { lines = []; lead = refl; cut = λ rest. refl }

pub made_then : (a b : List ℕ) (d m e : Draft) → Made a d m → Made b m e → Made (a ++ b) d e
made_then a b d m e x y = record {
  lines = x.lines ++ y.lines;
  lead = lead_append x.lines y.lines d m e x.lead y.lead;
  cut = λ rest.
      ap (parts_of LINE_END) (append_assoc a b rest) ∙ x.cut (b ++ rest)
      ∙ ap (λ (ls : List (List ℕ)). x.lines ++ ls) (y.cut rest) ∙ sym (append_assoc x.lines y.lines (parts_of LINE_END rest));
}

made_line : (words : List (List ℕ)) (d e : Draft) → AllByRecursion IsText words → line_says d (line_of (joined words)) ≡ Ok e → Made (line_text words) d e
made_line words d e t h = record {
  lines = joined words ∷ [];
  lead = (e, h, refl);
  cut = λ rest. cut_line words rest t;
}

pub made_same : (text : List ℕ) (d e f : Draft) → e ≡ f → Made text d e → Made text d f
made_same text d e f h m = subst (λ (x : Draft). Made text d x) h m

-- ---- a line, by what follows its first word

line_after : (d e : Draft) (word : List ℕ) (words : List (List ℕ)) → IsText word → AllByRecursion IsText words → ((k end : ℕ) → after_head d.section word d (left (placed k words) end 1) ≡ Ok e) → Made (line_text (word ∷ words)) d e
unfolding line_says next_word
line_after d e word words t ts h =
    let end : ℕ = 1 + length (joined (word ∷ words)) in
    made_line (word ∷ words) d e (t, ts) (ap (λ (ws : List Word). words_say ws d (left ws end 1)) (lexed (word ∷ words) 1 (t, ts)) ∙ rw (all_plain word t.bytes) (h (1 + length word + 1) end))

-- a line whose first word is a head, in a section behind the opening
abbrev IsBehind : Section → Type 0
IsBehind s = (w : List ℕ) (d : Draft) (line : Line) → after_head s w d line ≡ by_head (head_in w) d line

line_in : (d e : Draft) (s : Section) (head : Head) (word : List ℕ) (words : List (List ℕ)) → d.section ≡ s → IsBehind s → head_in word ≡ Some head → IsText word → AllByRecursion IsText words → ((k end : ℕ) → in_section s head d (left (placed k words) end 1) ≡ Ok e) → Made (line_text (word ∷ words)) d e
line_in d e s head word words q b h t ts i = line_after d e word words t ts (λ k end.
    let line : Line = left (placed k words) end 1 in
    ap (λ (x : Section). after_head x word d line) q ∙ b word d line ∙ ap (λ (x : Option Head). by_head x d line) h
    ∙ ap (λ (x : Section). in_section x head d line) q ∙ i k end)

-- ---- the opening

pub header_made : Made (line_text (codes "xpsim" ∷ codes "1" ∷ [])) fresh (opened fresh)
header_made =
    let p : Prints (header_form fresh) (codes "1" ∷ []) (opened fresh) = word_then (codes "1") (text_if (codes "1") refl refl) ends_there in
    line_after fresh (opened fresh) (codes "xpsim") (codes "1" ∷ []) (text_if (codes "xpsim") refl refl) p.texts
    (λ k end. fits_read (header_form fresh) (placed k (codes "1" ∷ [])) end 1 (opened fresh) (p.fits k))

partitions_head : head_in (codes "partitions") ≡ Some heads.Partitions
unfolding head_in verb_in end_verb_in setting_word_in plan_word_in
partitions_head = refl

pub count_made : (d : Draft) (n : ℕ) → d.section ≡ sections.Counting → IsCount n → Made (line_text (codes "partitions" ∷ decimal n ∷ [])) d (counted n d)
count_made d n q h =
    let high = h.high in
    let p : Prints (count_form d) (decimal n ∷ []) (counted n d) = number_then n (omega (arith, high)) (h.low, h.high) ends_there in
    line_in d (counted n d) sections.Counting heads.Partitions (codes "partitions") (decimal n ∷ []) q (λ w d line. refl) partitions_head (text_if (codes "partitions") refl refl) p.texts
    (λ k end. fits_read (count_form d) (placed k (decimal n ∷ [])) end 1 (counted n d) (p.fits k))

-- ---- settings

pub setting_is_text : (w : SettingWord) → IsText (setting_text w)
setting_is_text words.Budget = text_if (codes "budget") refl refl
setting_is_text words.Check = text_if (codes "check") refl refl
setting_is_text words.Minor = text_if (codes "minor") refl refl
setting_is_text words.Warm = text_if (codes "warm") refl refl
setting_is_text words.Fault = text_if (codes "fault") refl refl
setting_is_text words.Stop = text_if (codes "stop") refl refl
setting_is_text words.Restart = text_if (codes "restart") refl refl
setting_is_text words.Poke = text_if (codes "poke") refl refl

pub setting_head : (w : SettingWord) → head_in (setting_text w) ≡ Some (heads.Setting w)
unfolding head_in verb_in end_verb_in setting_word_in
setting_head words.Budget = refl
setting_head words.Check = refl
setting_head words.Minor = refl
setting_head words.Warm = refl
setting_head words.Fault = refl
setting_head words.Stop = refl
setting_head words.Restart = refl
setting_head words.Poke = refl

pub setting_made : (d : Draft) (w : SettingWord) (words : List (List ℕ)) (x : Setting) → d.section ≡ sections.Settings → Prints (setting_form d.count d.settings w) words x → Made (line_text (setting_text w ∷ words)) d (with_one_setting x d)
setting_made d w words x q p =
    line_in d (with_one_setting x d) sections.Settings (heads.Setting w) (setting_text w) words q (λ w d line. refl) (setting_head w) (setting_is_text w) p.texts
    (λ k end. ap (said with_one_setting d) (fits_read (setting_form d.count d.settings w) (placed k words) end 1 x (p.fits k)))

-- ---- scripts

-- the sections in which a script may begin
abbrev pub IsBody : Section → Type 0
IsBody x = (x ≡ sections.Settings) ⊎ (x ≡ sections.Scripts)

script_head : head_in (codes "script") ≡ Some heads.Script
unfolding head_in verb_in end_verb_in setting_word_in plan_word_in
script_head = refl

pub script_made : (d : Draft) (p : ℕ) → IsBody d.section → d.count ≤ PARTS → p < d.count → Made (line_text (codes "script" ∷ decimal p ∷ [])) d (with_script p d)
script_made d p b le lt = go b
  where
    form : Prints (script_form d) (decimal p ∷ []) (with_script p d)
    form = number_then p (omega (arith, lt, le)) lt ends_there

    go : IsBody d.section → Made (line_text (codes "script" ∷ decimal p ∷ [])) d (with_script p d)
    go (inl q) = line_in d (with_script p d) sections.Settings heads.Script (codes "script") (decimal p ∷ []) q (λ w d line. refl) script_head (text_if (codes "script") refl refl) form.texts
        (λ k end. fits_read (script_form d) (placed k (decimal p ∷ [])) end 1 (with_script p d) (form.fits k))
    go (inr q) = line_in d (with_script p d) sections.Scripts heads.Script (codes "script") (decimal p ∷ []) q (λ w d line. refl) script_head (text_if (codes "script") refl refl) form.texts
        (λ k end. fits_read (script_form d) (placed k (decimal p ∷ [])) end 1 (with_script p d) (form.fits k))

verb_head : (v : Verb) → head_in (verb_text v) ≡ Some (heads.Command v)
unfolding head_in verb_in end_verb_in
verb_head verbs.Register = refl
verb_head verbs.Unregister = refl
verb_head verbs.Connected = refl
verb_head verbs.Closed = refl
verb_head verbs.Send = refl
verb_head verbs.Take = refl
verb_head verbs.Release = refl
verb_head verbs.Drain = refl
verb_head verbs.Net = refl
verb_head verbs.Frames = refl
verb_head verbs.Deactivate = refl
verb_head verbs.Activate = refl
verb_head verbs.Leave = refl
verb_head verbs.Idle = refl
verb_head verbs.Offline = refl
verb_head verbs.Online = refl

-- while payloads are kept
pub command_made : (d : Draft) (c : Command) → d.section ≡ sections.Scripts → d.count ≤ PARTS → d.payload_bytes ≤ PAYLOAD_BYTES_LIMIT → IsLawfulCommand d.count d.own (minor_of d.own d.settings.minors) c → Made (line_text (command_words c)) d (with_command c d)
command_made d c q le few h =
    let minor : ℕ = minor_of d.own d.settings.minors in
    let own : Owner = keeper d.count d.own minor in
    let p : Prints (command_form own (verb_of c)) (after_first (command_words c)) c = command_prints d.count d.own minor le c h in
    let is : owner_of d ≡ own = ap (λ (b : Bool). record { count = d.count; part = d.own; minor = minor; keeps = b }) (le-leb d.payload_bytes PAYLOAD_BYTES_LIMIT few) in
    subst (λ (ws : List (List ℕ)). Made (line_text ws) d (with_command c d)) (sym (first_is_verb c))
    (line_in d (with_command c d) sections.Scripts (heads.Command (verb_of c)) (verb_text (verb_of c)) (after_first (command_words c)) q (λ w d line. refl) (verb_head (verb_of c)) (verb_is_text (verb_of c)) p.texts
    (λ k end. ap (λ (o : Owner). said with_command d (reads (command_form o (verb_of c)) (left (placed k (after_first (command_words c))) end 1))) is
    ∙ ap (said with_command d) (fits_read (command_form own (verb_of c)) (placed k (after_first (command_words c))) end 1 c (p.fits k))))

-- ---- the schedule

schedule_head : head_in (codes "schedule") ≡ Some heads.Schedule
unfolding head_in verb_in end_verb_in setting_word_in plan_word_in
schedule_head = refl

pub schedule_made : (d : Draft) → IsBody d.section → Made (line_text (codes "schedule" ∷ [])) d (scheduled d)
schedule_made d (inl q) =
    line_in d (scheduled d) sections.Settings heads.Schedule (codes "schedule") [] q (λ w d line. refl) schedule_head (text_if (codes "schedule") refl refl) tt
    (λ k end. fits_read (schedule_form d) [] end 1 (scheduled d) refl)
schedule_made d (inr q) =
    line_in d (scheduled d) sections.Scripts heads.Schedule (codes "schedule") [] q (λ w d line. refl) schedule_head (text_if (codes "schedule") refl refl) tt
    (λ k end. fits_read (schedule_form d) [] end 1 (scheduled d) refl)

pub plan_line_made : (d : Draft) (w : PlanWord) (word : List ℕ) (words : List (List ℕ)) (p : Plan) → d.section ≡ sections.Schedule → head_in word ≡ Some (heads.Plan w) → IsText word → Prints (plan_form d.count w) words p → Made (line_text (word ∷ words)) d (with_plan p d)
plan_line_made d w word words p q h t f =
    line_in d (with_plan p d) sections.Schedule (heads.Plan w) word words q (λ w d line. refl) h t f.texts
    (λ k end. ap (said with_plan d) (fits_read (plan_form d.count w) (placed k words) end 1 p (f.fits k)))

-- ---- an empty line

pub blank_line : (d : Draft) → line_says d (line_of []) ≡ Ok d
unfolding line_says
blank_line d = ap (λ (ws : List Word). words_say ws d (left ws 1 1)) (nothing_there 1)
