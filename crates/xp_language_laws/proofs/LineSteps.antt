-- What a right line makes of a draft, by its first word.
use Rattle.std.proofs.Common.{◌≡◌, ℕ, ◌<◌, Bool, true, false, cond, ◌⊎◌, inl, inr, List, [], ◌∷◌, refl, sym, Option, Some, None, Result, Ok, Err}
use Rattle.std.specs.Prelude.{codes, bytes_eq}
use Rattle.std.proofs.lemmas.Slice.Eq.{bytes_eq-Decides}
use Rattle.xp_text.specs.Lines.{Word, Line, line_of}
use Rattle.xp_forms.specs.declared.fault.LineCause.TheVariants as causes
use Rattle.xp_forms.specs.declared.fault.WordFault.{WordFault}
use Rattle.xp_forms.specs.Forms.{◌>>=◌, Form, bad, next_word, is_ascii, reads}
use Rattle.xp_forms.specs.Fits.{Fits}
use Rattle.xp_forms.specs.Values.{SaysOnly}
use Rattle.xp_forms.proofs.Fitting.{left, fits_read, read_fits}
use Rattle.xp_forms.proofs.Valued.{reads_only}
use Rattle.xp_commands.specs.Commands.{command_form}
use Rattle.xp_settings.specs.Settings.{setting_form}
use Rattle.xp_scenario.specs.declared.head.Head.{Head}
use Rattle.xp_scenario.specs.declared.head.Head.TheVariants as heads
use Rattle.xp_scenario.specs.declared.draft.Draft.{Draft}
use Rattle.xp_scenario.specs.declared.draft.Section.{Section}
use Rattle.xp_scenario.specs.declared.draft.Section.TheVariants as sections
use Rattle.xp_scenario.specs.Heads.{head_in}
use Rattle.xp_scenario.specs.Plans.{plan_form}
use Rattle.xp_scenario.specs.Drafts.{opened, counted, with_one_setting, with_script, owner_of, with_command, scheduled, with_plan, header_form, count_form, script_form, schedule_form, said, in_section, by_head, after_head, words_say, line_says}
use Rattle.xp_language_laws.proofs.MadeTexts.{IsBody}

-- where all values that a form can say pass, what words say of it passes
pub fits_only : {A : Type 0} (P : A → Type 0) (form : Form A) (ws : List Word) (y : A) → SaysOnly None P form → Fits form ws y → P y
fits_only P form ws y only h = reads_only P form ws 0 0 y only (fits_read form ws 0 0 y h)

-- a draft with what words say, in one section
pub record Adds {A : Type 0} (form : Form A) (add : A → Draft → Draft) (section : Section) (d : Draft) (ws : List Word) (e : Draft) : Type 0 where
  pub value : A
  pub fits : Fits form ws value
  pub here : d.section ≡ section
  pub is : e ≡ add value d

pub record Begins (d e : Draft) : Type 0 where
  pub part : ℕ
  pub below : part < d.count
  pub here : IsBody d.section
  pub is : e ≡ with_script part d

-- the draft e after a line of this head, whose other words are these
abbrev pub HeadStep : Head → Draft → List Word → Draft → Type 0
HeadStep heads.Xpsim d ws e = ⊥
HeadStep heads.Partitions d ws e = (d.section ≡ sections.Counting) × (n : ℕ) × (e ≡ counted n d)
HeadStep (heads.Setting w) d ws e = Adds (setting_form d.count d.settings w) with_one_setting sections.Settings d ws e
HeadStep heads.Script d ws e = Begins d e
HeadStep (heads.Command v) d ws e = Adds (command_form (owner_of d) v) with_command sections.Scripts d ws e
HeadStep heads.Schedule d ws e = IsBody d.section × (e ≡ scheduled d)
HeadStep (heads.Plan w) d ws e = Adds (plan_form d.count w) with_plan sections.Schedule d ws e

abbrev Opens : Draft → List ℕ → Draft → Type 0
Opens d w e = (d.section ≡ sections.Opening) × (w ≡ codes "xpsim") × (e ≡ opened d)

-- the draft e after a line of these words
abbrev pub LineStep : Draft → List Word → Draft → Type 0
LineStep d [] e = e ≡ d
LineStep d (w ∷ ws) e = Opens d w.bytes e ⊎ ((head : Head) × (head_in w.bytes ≡ Some head) × HeadStep head d ws e)

adds : {A : Type 0} (form : Form A) (add : A → Draft → Draft) (section : Section) (d e : Draft) (ws : List Word) (end last : ℕ) → d.section ≡ section → said add d (reads form (left ws end last)) ≡ Ok e → Adds form add section d ws e
adds {A} form add section d e ws end last q h = go (reads form (left ws end last)) refl h
  where
    go : (r : Result A WordFault) → reads form (left ws end last) ≡ r → said add d r ≡ Ok e → Adds form add section d ws e
    go (Ok x) is t = record { value = x; fits = read_fits form ws end last x is; here = q; is = (let same : add x d ≡ e = cc in sym same) }
    go (Err f) is t = absurd cc

begins : (d e : Draft) (ws : List Word) (end last : ℕ) → IsBody d.section → reads (script_form d) (left ws end last) ≡ Ok e → Begins d e
begins d e ws end last b h = reads_only (λ x. Begins d x) (script_form d) ws end last e (λ p lt _. record { part = p; below = lt; here = b; is = refl }) h

schedules : (d e : Draft) (ws : List Word) (end last : ℕ) → IsBody d.section → reads (schedule_form d) (left ws end last) ≡ Ok e → IsBody d.section × (e ≡ scheduled d)
schedules d e ws end last b h = (b, reads_only (λ x. x ≡ scheduled d) (schedule_form d) ws end last e refl h)

in_step : (s : Section) (head : Head) (d e : Draft) (ws : List Word) (end last : ℕ) → d.section ≡ s → in_section s head d (left ws end last) ≡ Ok e → HeadStep head d ws e
in_step sections.Counting heads.Partitions d e ws end last q h = let r = reads_only (λ x. (n : ℕ) × (x ≡ counted n d)) (count_form d) ws end last e (λ n hn _. (n, refl)) h in (q, r.0, r.1)
in_step sections.Settings (heads.Setting w) d e ws end last q h = adds (setting_form d.count d.settings w) with_one_setting sections.Settings d e ws end last q h
in_step sections.Settings heads.Script d e ws end last q h = begins d e ws end last (inl q) h
in_step sections.Settings heads.Schedule d e ws end last q h = schedules d e ws end last (inl q) h
in_step sections.Scripts heads.Script d e ws end last q h = begins d e ws end last (inr q) h
in_step sections.Scripts (heads.Command v) d e ws end last q h = adds (command_form (owner_of d) v) with_command sections.Scripts d e ws end last q h
in_step sections.Scripts heads.Schedule d e ws end last q h = schedules d e ws end last (inr q) h
in_step sections.Schedule (heads.Plan w) d e ws end last q h = adds (plan_form d.count w) with_plan sections.Schedule d e ws end last q h
in_step s head d e ws end last q h = absurd cc

head_step : (w : List ℕ) (o : Option Head) (d e : Draft) (ws : List Word) (end last : ℕ) → head_in w ≡ o → by_head o d (left ws end last) ≡ Ok e → Opens d w e ⊎ ((head : Head) × (head_in w ≡ Some head) × HeadStep head d ws e)
head_step w None d e ws end last f h = absurd cc
head_step w (Some head) d e ws end last f h = inr (head, f, in_step d.section head d e ws end last refl h)

after_step : (s : Section) (w : List ℕ) (d e : Draft) (ws : List Word) (end last : ℕ) → d.section ≡ s → after_head s w d (left ws end last) ≡ Ok e → Opens d w e ⊎ ((head : Head) × (head_in w ≡ Some head) × HeadStep head d ws e)
after_step sections.Opening w d e ws end last q h = go (bytes_eq w (codes "xpsim")) refl h
  where
    go : (b : Bool) → bytes_eq w (codes "xpsim") ≡ b → cond b (reads (header_form d) (left ws end last)) (bad last causes.Header) ≡ Ok e → Opens d w e ⊎ ((head : Head) × (head_in w ≡ Some head) × HeadStep head d ws e)
    go true f t = inl (q, (bytes_eq-Decides w (codes "xpsim")).0 f, reads_only (λ x. x ≡ opened d) (header_form d) ws end last e (refl, tt) t)
    go false f t = absurd cc
after_step sections.Counting w d e ws end last q h = head_step w (head_in w) d e ws end last refl h
after_step sections.Settings w d e ws end last q h = head_step w (head_in w) d e ws end last refl h
after_step sections.Scripts w d e ws end last q h = head_step w (head_in w) d e ws end last refl h
after_step sections.Schedule w d e ws end last q h = head_step w (head_in w) d e ws end last refl h

abbrev first_word : Bool → List ℕ → Line → ℕ → Result (List ℕ × Line) WordFault
first_word b bytes line column = cond b (Ok (bytes, line)) (bad column causes.Word)

words_step : (ws : List Word) (d e : Draft) (end last : ℕ) → words_say ws d (left ws end last) ≡ Ok e → LineStep d ws e
unfolding next_word
words_step [] d e end last h = let same : d ≡ e = cc in sym same
words_step (w ∷ ws) d e end last h = go (is_ascii w.bytes) h
  where
    go : (b : Bool) → (first_word b w.bytes (left ws end w.column) w.column >>= λ x. after_head d.section x.0 d x.1) ≡ Ok e → LineStep d (w ∷ ws) e
    go true t = after_step d.section w.bytes d e ws end w.column refl t
    go false t = absurd cc

pub line_step : (d e : Draft) (bytes : List ℕ) → line_says d (line_of bytes) ≡ Ok e → LineStep d (line_of bytes).words e
unfolding line_says
line_step d e bytes h = words_step (line_of bytes).words d e (line_of bytes).end (line_of bytes).last h
