-- What reading gives is what the language says.
use Rattle.std.proofs.Common.{◌≡◌, ◌≢◌, ℕ, ◌+◌, ◌<◌, ◌≤◌, Bool, true, false, cond, ◌⊎◌, inl, inr, List, [], ◌∷◌, ◌++◌, length, refl, sym, ap, subst, ◌∙◌, arith, Option, Some, None, Result, Ok, Err}
use Rattle.std.specs.Prelude.{IfOk}
use Rattle.std.proofs.lemmas.List.{length-append}
use Rattle.xp_text.specs.declared.parts.TheConstants.{LINE_END}
use Rattle.xp_text.specs.Lines.{parts_of, line_of}
use Rattle.xp_text.proofs.PayloadLemmas.{some_part}
use Rattle.xp_forms.specs.declared.fault.LineCause.{LineCause}
use Rattle.xp_forms.specs.declared.fault.LineCause.TheVariants as causes
use Rattle.xp_forms.specs.declared.fault.WordFault.{WordFault}
use Rattle.xp_scenario.specs.declared.fault.What.{What}
use Rattle.xp_scenario.specs.declared.fault.ScenarioFault.{ScenarioFault}
use Rattle.xp_scenario.specs.declared.fault.ScenarioFault.TheVariants as faults
use Rattle.xp_script.specs.declared.scenario.Scenario.{Scenario}
use Rattle.xp_scenario.specs.declared.draft.Draft.{Draft}
use Rattle.xp_scenario.specs.declared.draft.Section.{Section}
use Rattle.xp_scenario.specs.declared.draft.Section.TheVariants as sections
use Rattle.xp_forms.specs.Forms.{bad}
use Rattle.xp_scenario.specs.Drafts.{fresh, line_says}
use Rattle.xp_scenario.specs.Limits.{too_many, scenario_of}
use Rattle.xp_scenario.specs.Text.{◌>>>◌, at_line, ended, lines_say, limited, scenario_in, Tells}
use Rattle.xp_scenario.specs.Spelled.{Lead, missing, Spells, IsWrongLine, IsCutShort, IsBadLine, Passes}

-- ---- a line

-- a step that is right, or else a fault
step_ok : {A B : Type 0} (r : Result A ScenarioFault) (f : A → Result B ScenarioFault) (y : B) → (r >>> f) ≡ Ok y → (x : A) × (r ≡ Ok x) × (f x ≡ Ok y)
step_ok (Ok x) f y e = (x, refl, e)
step_ok (Err d) f y e = absurd cc

line_ok : {A : Type 0} (n : ℕ) (r : Result A WordFault) (x : A) → at_line n r ≡ Ok x → r ≡ Ok x
line_ok n (Ok y) x e = cc
line_ok n (Err d) x e = absurd cc

ended_ok : (s : Section) (n k : ℕ) (d e : Draft) → ended s n k d ≡ Ok e → (missing s ≡ None) × (d ≡ e)
ended_ok sections.Opening n k d e h = absurd cc
ended_ok sections.Counting n k d e h = absurd cc
ended_ok sections.Settings n k d e h = (refl, cc)
ended_ok sections.Scripts n k d e h = (refl, cc)
ended_ok sections.Schedule n k d e h = (refl, cc)

ended_again : (s : Section) (n k : ℕ) (d : Draft) → missing s ≡ None → ended s n k d ≡ Ok d
ended_again sections.Opening n k d h = absurd cc
ended_again sections.Counting n k d h = absurd cc
ended_again sections.Settings n k d h = refl
ended_again sections.Scripts n k d h = refl
ended_again sections.Schedule n k d h = refl

ended_lacks : (s : Section) (n k : ℕ) (d : Draft) (cause : LineCause) → missing s ≡ Some cause → ended s n k d ≡ Err (faults.BadLine n k cause)
ended_lacks sections.Opening n k d cause h = let e : causes.Header ≡ cause = cc in ap (λ (c : LineCause). Err (faults.BadLine n k c)) e
ended_lacks sections.Counting n k d cause h = let e : causes.Order ≡ cause = cc in ap (λ (c : LineCause). Err (faults.BadLine n k c)) e
ended_lacks sections.Settings n k d cause h = absurd cc
ended_lacks sections.Scripts n k d cause h = absurd cc
ended_lacks sections.Schedule n k d cause h = absurd cc

-- ---- all lines are right

pub lead_from : (n : ℕ) (lines : List (List ℕ)) (d e : Draft) → 0 < length lines → lines_say n lines d ≡ Ok e → Lead lines d e × (missing e.section ≡ None)
lead_from n [] d e lt h = absurd (omega arith)
lead_from n (bytes ∷ []) d e lt h =
    let a = step_ok (at_line n (line_says d (line_of bytes))) (λ m. ended m.section n (1 + length bytes) m) e h in
    let b = ended_ok a.0.section n (1 + length bytes) a.0 e a.2 in
    ((a.0, line_ok n (line_says d (line_of bytes)) a.0 a.1, b.1), subst (λ (m : Draft). missing m.section ≡ None) b.1 b.0)
lead_from n (bytes ∷ next ∷ more) d e lt h =
    let a = step_ok (at_line n (line_says d (line_of bytes))) (lines_say (n + 1) (next ∷ more)) e h in
    let b = lead_from (n + 1) (next ∷ more) a.0 e (omega arith) a.2 in
    ((a.0, line_ok n (line_says d (line_of bytes)) a.0 a.1, b.0), b.1)

pub lead_again : (n : ℕ) (lines : List (List ℕ)) (d e : Draft) → Lead lines d e → missing e.section ≡ None → lines_say n lines d ≡ Ok e
lead_again n [] d e h w = ap (λ (x : Draft). Ok x) h
lead_again n (bytes ∷ []) d e (m, r, h) w =
    ap (λ (x : Result Draft WordFault). at_line n x >>> λ y. ended y.section n (1 + length bytes) y) r
    ∙ subst (λ (x : Draft). ended m.section n (1 + length bytes) m ≡ Ok x) h (ended_again m.section n (1 + length bytes) m (subst (λ (x : Draft). missing x.section ≡ None) (sym h) w))
lead_again n (bytes ∷ next ∷ more) d e (m, r, h) w =
    ap (λ (x : Result Draft WordFault). at_line n x >>> lines_say (n + 1) (next ∷ more)) r ∙ lead_again (n + 1) (next ∷ more) m e h w

-- ---- a line is wrong, or a section is missing

step_bad : {A B : Type 0} (r : Result A ScenarioFault) (f : A → Result B ScenarioFault) (b : ScenarioFault) → (r >>> f) ≡ Err b → (r ≡ Err b) ⊎ ((x : A) × (r ≡ Ok x) × (f x ≡ Err b))
step_bad (Ok x) f b e = inr (x, refl, e)
step_bad (Err d) f b e = inl (cc)

line_bad : {A : Type 0} (n : ℕ) (r : Result A WordFault) (line column : ℕ) (cause : LineCause) → at_line n r ≡ Err (faults.BadLine line column cause) → (line ≡ n) × (r ≡ bad column cause)
line_bad n (Ok x) line column cause h = absurd cc
line_bad n (Err e) line column cause h =
    let c : e.column ≡ column = cc in
    let k : e.cause ≡ cause = cc in
    (cc, ap (λ (x : ℕ). bad x e.cause) c ∙ ap (λ (x : LineCause). bad column x) k)

ended_bad : (s : Section) (n k : ℕ) (d : Draft) (line column : ℕ) (cause : LineCause) → ended s n k d ≡ Err (faults.BadLine line column cause) → (line ≡ n) × (column ≡ k) × (missing s ≡ Some cause)
ended_bad sections.Opening n k d line column cause h = (cc, cc, cc)
ended_bad sections.Counting n k d line column cause h = (cc, cc, cc)
ended_bad sections.Settings n k d line column cause h = absurd cc
ended_bad sections.Scripts n k d line column cause h = absurd cc
ended_bad sections.Schedule n k d line column cause h = absurd cc

record Wrong (n : ℕ) (lines : List (List ℕ)) (d : Draft) (line column : ℕ) (cause : LineCause) : Type 0 where
  before : List (List ℕ)
  bytes : List ℕ
  after : List (List ℕ)
  parts : lines ≡ before ++ bytes ∷ after
  number : line ≡ length before + n
  draft : Draft
  right : Lead before d draft
  wrong : line_says draft (line_of bytes) ≡ bad column cause

record Cut (n : ℕ) (lines : List (List ℕ)) (d : Draft) (line column : ℕ) (cause : LineCause) : Type 0 where
  before : List (List ℕ)
  bytes : List ℕ
  parts : lines ≡ before ++ bytes ∷ []
  number : line ≡ length before + n
  behind : column ≡ 1 + length bytes
  draft : Draft
  right : Lead lines d draft
  lacks : missing draft.section ≡ Some cause

here : (n : ℕ) (bytes : List ℕ) (after : List (List ℕ)) (d : Draft) (line column : ℕ) (cause : LineCause) → (line ≡ n) × (line_says d (line_of bytes) ≡ bad column cause) → Wrong n (bytes ∷ after) d line column cause
here n bytes after d line column cause h = record { before = []; bytes = bytes; after = after; parts = refl; number = omega (arith, h.0); draft = d; right = refl; wrong = h.1 }

later_wrong : (n : ℕ) (bytes : List ℕ) (lines : List (List ℕ)) (d m : Draft) (line column : ℕ) (cause : LineCause) → line_says d (line_of bytes) ≡ Ok m → Wrong (n + 1) lines m line column cause → Wrong n (bytes ∷ lines) d line column cause
later_wrong n bytes lines d m line column cause h w = record { before = bytes ∷ w.before; bytes = w.bytes; after = w.after; parts = ap (λ (ls : List (List ℕ)). bytes ∷ ls) w.parts; number = omega (arith, w.number); draft = w.draft; right = (m, h, w.right); wrong = w.wrong }

later_cut : (n : ℕ) (bytes : List ℕ) (lines : List (List ℕ)) (d m : Draft) (line column : ℕ) (cause : LineCause) → line_says d (line_of bytes) ≡ Ok m → Cut (n + 1) lines m line column cause → Cut n (bytes ∷ lines) d line column cause
later_cut n bytes lines d m line column cause h w = record { before = bytes ∷ w.before; bytes = w.bytes; parts = ap (λ (ls : List (List ℕ)). bytes ∷ ls) w.parts; number = omega (arith, w.number); behind = w.behind; draft = w.draft; right = (m, h, w.right); lacks = w.lacks }

bad_from : (n : ℕ) (lines : List (List ℕ)) (d : Draft) (line column : ℕ) (cause : LineCause) → lines_say n lines d ≡ Err (faults.BadLine line column cause) → Wrong n lines d line column cause ⊎ Cut n lines d line column cause
bad_from n [] d line column cause h = absurd cc
bad_from n (bytes ∷ []) d line column cause h =
    elim (step_bad (at_line n (line_says d (line_of bytes))) (λ m. ended m.section n (1 + length bytes) m) (faults.BadLine line column cause) h) [
      | inl e ↦ inl (here n bytes [] d line column cause (line_bad n (line_says d (line_of bytes)) line column cause e))
      | inr a ↦ inr (let b = ended_bad a.0.section n (1 + length bytes) a.0 line column cause a.2 in
          record { before = []; bytes = bytes; parts = refl; number = omega (arith, b.0); behind = b.1; draft = a.0; right = (a.0, line_ok n (line_says d (line_of bytes)) a.0 a.1, refl); lacks = b.2 })
    ]
bad_from n (bytes ∷ next ∷ more) d line column cause h =
    elim (step_bad (at_line n (line_says d (line_of bytes))) (lines_say (n + 1) (next ∷ more)) (faults.BadLine line column cause) h) [
      | inl e ↦ inl (here n bytes (next ∷ more) d line column cause (line_bad n (line_says d (line_of bytes)) line column cause e))
      | inr a ↦ let r = line_ok n (line_says d (line_of bytes)) a.0 a.1 in
          elim (bad_from (n + 1) (next ∷ more) a.0 line column cause a.2) [
            | inl w ↦ inl (later_wrong n bytes (next ∷ more) d a.0 line column cause r w)
            | inr w ↦ inr (later_cut n bytes (next ∷ more) d a.0 line column cause r w)
          ]
    ]

-- one right line at the front
lead_step : (n : ℕ) (bytes : List ℕ) (lines : List (List ℕ)) (d m : Draft) → 0 < length lines → line_says d (line_of bytes) ≡ Ok m → lines_say n (bytes ∷ lines) d ≡ lines_say (n + 1) lines m
lead_step n bytes [] d m lt h = absurd (omega arith)
lead_step n bytes (next ∷ more) d m lt h = ap (λ (x : Result Draft WordFault). at_line n x >>> lines_say (n + 1) (next ∷ more)) h

wrong_again : (n : ℕ) (before : List (List ℕ)) (bytes : List ℕ) (after : List (List ℕ)) (d e : Draft) (column : ℕ) (cause : LineCause) → Lead before d e → line_says e (line_of bytes) ≡ bad column cause → lines_say n (before ++ bytes ∷ after) d ≡ Err (faults.BadLine (length before + n) column cause)
wrong_again n [] bytes [] d e column cause h w =
    ap (λ (x : Result Draft WordFault). at_line n x >>> λ y. ended y.section n (1 + length bytes) y) (ap (λ (x : Draft). line_says x (line_of bytes)) h ∙ w) ∙ ap (λ (k : ℕ). Err (faults.BadLine k column cause)) (omega arith)
wrong_again n [] bytes (next ∷ more) d e column cause h w =
    ap (λ (x : Result Draft WordFault). at_line n x >>> lines_say (n + 1) (next ∷ more)) (ap (λ (x : Draft). line_says x (line_of bytes)) h ∙ w) ∙ ap (λ (k : ℕ). Err (faults.BadLine k column cause)) (omega arith)
wrong_again n (b ∷ before) bytes after d e column cause (m, r, h) w =
    lead_step n b (before ++ bytes ∷ after) d m (omega (arith, length-append before (bytes ∷ after))) r ∙ wrong_again (n + 1) before bytes after m e column cause h w ∙ ap (λ (k : ℕ). Err (faults.BadLine k column cause)) (omega arith)

cut_again : (n : ℕ) (before : List (List ℕ)) (bytes : List ℕ) (d e : Draft) (cause : LineCause) → Lead (before ++ bytes ∷ []) d e → missing e.section ≡ Some cause → lines_say n (before ++ bytes ∷ []) d ≡ Err (faults.BadLine (length before + n) (1 + length bytes) cause)
cut_again n [] bytes d e cause (m, r, h) w =
    ap (λ (x : Result Draft WordFault). at_line n x >>> λ y. ended y.section n (1 + length bytes) y) r
    ∙ ended_lacks m.section n (1 + length bytes) m cause (subst (λ (x : Draft). missing x.section ≡ Some cause) (sym h) w)
    ∙ ap (λ (k : ℕ). Err (faults.BadLine k (1 + length bytes) cause)) (omega arith)
cut_again n (b ∷ before) bytes d e cause (m, r, h) w =
    lead_step n b (before ++ bytes ∷ []) d m (omega (arith, length-append before (bytes ∷ []))) r ∙ cut_again (n + 1) before bytes m e cause h w ∙ ap (λ (k : ℕ). Err (faults.BadLine k (1 + length bytes) cause)) (omega arith)

-- ---- texts

limited_ok : (d : Draft) (o : Option (What × ℕ)) (s : Scenario) → limited (scenario_of d) o ≡ Ok s → (o ≡ None) × (scenario_of d ≡ s)
limited_ok d None s h = (refl, cc)
limited_ok d (Some f) s h = absurd cc

limited_bad : (d : Draft) (o : Option (What × ℕ)) (line column : ℕ) (cause : LineCause) → limited (scenario_of d) o ≡ Err (faults.BadLine line column cause) → ⊥
limited_bad d None line column cause h = cc
limited_bad d (Some f) line column cause h = cc

limited_much : (d : Draft) (o : Option (What × ℕ)) (what : What) (limit : ℕ) → limited (scenario_of d) o ≡ Err (faults.TooMany what limit) → o ≡ Some (what, limit)
limited_much d None what limit h = absurd cc
limited_much d (Some (w, l)) what limit h =
    let a : w ≡ what = cc in
    let b : l ≡ limit = cc in
    ap (λ (x : What). Some (x, l)) a ∙ ap (λ (n : ℕ). Some (what, n)) b

pub spelled : (text : List ℕ) (s : Scenario) → scenario_in text ≡ Ok s → Spells text s
unfolding scenario_in
spelled text s h =
    let a = step_ok (lines_say 1 (parts_of LINE_END text) fresh) (λ d. limited (scenario_of d) (too_many (scenario_of d))) s h in
    let b = limited_ok a.0 (too_many (scenario_of a.0)) s a.2 in
    let c = lead_from 1 (parts_of LINE_END text) fresh a.0 (some_part LINE_END text) a.1 in
    record { draft = a.0; right = c.0; whole = c.1; within = b.0; meaning = b.1 }

pub spelled_again : (text : List ℕ) (s : Scenario) → Spells text s → scenario_in text ≡ Ok s
unfolding scenario_in
spelled_again text s h =
    ap (λ (r : Result Draft ScenarioFault). r >>> λ d. limited (scenario_of d) (too_many (scenario_of d))) (lead_again 1 (parts_of LINE_END text) fresh h.draft h.right h.whole)
    ∙ ap (limited (scenario_of h.draft)) h.within ∙ ap (λ (x : Scenario). Ok x) h.meaning

pub first_bad : (text : List ℕ) (line column : ℕ) (cause : LineCause) → scenario_in text ≡ Err (faults.BadLine line column cause) → IsBadLine text line column cause
unfolding scenario_in
first_bad text line column cause h =
    elim (step_bad (lines_say 1 (parts_of LINE_END text) fresh) (λ d. limited (scenario_of d) (too_many (scenario_of d))) (faults.BadLine line column cause) h) [
      | inl e ↦ elim (bad_from 1 (parts_of LINE_END text) fresh line column cause e) [
        | inl w ↦ inl (record { before = w.before; bytes = w.bytes; after = w.after; lines = w.parts; number = w.number; draft = w.draft; right = w.right; wrong = w.wrong })
        | inr w ↦ inr (record { before = w.before; bytes = w.bytes; lines = w.parts; number = w.number; behind = w.behind; draft = w.draft; right = w.right; lacks = w.lacks })
      ]
      | inr a ↦ absurd (limited_bad a.0 (too_many (scenario_of a.0)) line column cause a.2)
    ]

pub each_bad : (text : List ℕ) (line column : ℕ) (cause : LineCause) → IsBadLine text line column cause → scenario_in text ≡ Err (faults.BadLine line column cause)
unfolding scenario_in
each_bad text line column cause (inl w) =
    ap (λ (r : Result Draft ScenarioFault). r >>> λ d. limited (scenario_of d) (too_many (scenario_of d)))
    (ap (λ (ls : List (List ℕ)). lines_say 1 ls fresh) w.lines ∙ wrong_again 1 w.before w.bytes w.after fresh w.draft column cause w.right w.wrong ∙ ap (λ (k : ℕ). Err (faults.BadLine k column cause)) (sym w.number))
each_bad text line column cause (inr w) =
    ap (λ (r : Result Draft ScenarioFault). r >>> λ d. limited (scenario_of d) (too_many (scenario_of d)))
    (ap (λ (ls : List (List ℕ)). lines_say 1 ls fresh) w.lines
    ∙ cut_again 1 w.before w.bytes fresh w.draft cause (subst (λ (ls : List (List ℕ)). Lead ls fresh w.draft) w.lines w.right) w.lacks
    ∙ ap (λ (k : ℕ). Err (faults.BadLine k (1 + length w.bytes) cause)) (sym w.number) ∙ ap (λ (k : ℕ). Err (faults.BadLine line k cause)) (sym w.behind))

much_not_bad : (n : ℕ) (lines : List (List ℕ)) (d : Draft) (what : What) (limit : ℕ) → lines_say n lines d ≡ Err (faults.TooMany what limit) → ⊥
much_not_bad n [] d what limit h = cc
much_not_bad n (bytes ∷ []) d what limit h = go (line_says d (line_of bytes)) h
  where
    by_section : (s : Section) (m : Draft) → ended s n (1 + length bytes) m ≡ Err (faults.TooMany what limit) → ⊥
    by_section sections.Opening m e = cc
    by_section sections.Counting m e = cc
    by_section sections.Settings m e = cc
    by_section sections.Scripts m e = cc
    by_section sections.Schedule m e = cc

    go : (r : Result Draft WordFault) → (at_line n r >>> λ m. ended m.section n (1 + length bytes) m) ≡ Err (faults.TooMany what limit) → ⊥
    go (Ok m) e = by_section m.section m e
    go (Err x) e = cc
much_not_bad n (bytes ∷ next ∷ more) d what limit h = go (line_says d (line_of bytes)) (λ m. much_not_bad (n + 1) (next ∷ more) m what limit) h
  where
    go : (r : Result Draft WordFault) → ((m : Draft) → lines_say (n + 1) (next ∷ more) m ≡ Err (faults.TooMany what limit) → ⊥) → (at_line n r >>> lines_say (n + 1) (next ∷ more)) ≡ Err (faults.TooMany what limit) → ⊥
    go (Ok m) f e = f m e
    go (Err x) f e = cc

pub passes : (text : List ℕ) (what : What) (limit : ℕ) → scenario_in text ≡ Err (faults.TooMany what limit) → Passes text what limit
unfolding scenario_in
passes text what limit h =
    elim (step_bad (lines_say 1 (parts_of LINE_END text) fresh) (λ d. limited (scenario_of d) (too_many (scenario_of d))) (faults.TooMany what limit) h) [
      | inl e ↦ absurd (much_not_bad 1 (parts_of LINE_END text) fresh what limit e)
      | inr a ↦ let c = lead_from 1 (parts_of LINE_END text) fresh a.0 (some_part LINE_END text) a.1 in
          record { draft = a.0; right = c.0; whole = c.1; much = limited_much a.0 (too_many (scenario_of a.0)) what limit a.2 }
    ]

pub passes_again : (text : List ℕ) (what : What) (limit : ℕ) → Passes text what limit → scenario_in text ≡ Err (faults.TooMany what limit)
unfolding scenario_in
passes_again text what limit h =
    ap (λ (r : Result Draft ScenarioFault). r >>> λ d. limited (scenario_of d) (too_many (scenario_of d))) (lead_again 1 (parts_of LINE_END text) fresh h.draft h.right h.whole) ∙ ap (limited (scenario_of h.draft)) h.much

-- ---- what a reader returns

pub is_found : (text : List ℕ) (r : Result Scenario ScenarioFault) → Tells (λ (s : Scenario). s) r (scenario_in text) → IfOk r (λ s. Spells text s)
is_found text (Ok s) h = spelled text s h
is_found text (Err e) h = tt

pub is_told : (text : List ℕ) (r given : Result Scenario ScenarioFault) → scenario_in text ≡ given → Tells (λ (s : Scenario). s) r (scenario_in text) → Tells (λ (s : Scenario). s) r given
is_told text r given e h = subst (λ (x : Result Scenario ScenarioFault). Tells (λ (s : Scenario). s) r x) e h

pub is_bad : (text : List ℕ) (r : Result Scenario ScenarioFault) (line column : ℕ) (cause : LineCause) → r ≡ Err (faults.BadLine line column cause) → Tells (λ (s : Scenario). s) r (scenario_in text) → IsBadLine text line column cause
is_bad text r line column cause e h = first_bad text line column cause (subst (λ (x : Result Scenario ScenarioFault). Tells (λ (s : Scenario). s) x (scenario_in text)) e h)

pub is_much : (text : List ℕ) (r : Result Scenario ScenarioFault) (what : What) (limit : ℕ) → r ≡ Err (faults.TooMany what limit) → Tells (λ (s : Scenario). s) r (scenario_in text) → Passes text what limit
is_much text r what limit e h = passes text what limit (subst (λ (x : Result Scenario ScenarioFault). Tells (λ (s : Scenario). s) x (scenario_in text)) e h)

-- one reading
abbrev right : Scenario → Result Scenario ScenarioFault
right x = Ok x

same_ok : (x y : Scenario) → right x ≡ right y → x ≡ y
same_ok x y e = cc

pub same_reading : (text : List ℕ) (s t : Scenario) → Spells text s → Spells text t → s ≡ t
same_reading text s t a b = same_ok s t (sym (spelled_again text s a) ∙ spelled_again text t b)

apart : (x : Scenario) (f : ScenarioFault) → right x ≡ Err f → ⊥
apart x f e = cc

pub not_both : (text : List ℕ) (s : Scenario) (line column : ℕ) (cause : LineCause) → Spells text s → IsBadLine text line column cause → ⊥
not_both text s line column cause a b = apart s (faults.BadLine line column cause) (sym (spelled_again text s a) ∙ each_bad text line column cause b)
