-- The lines of lawful settings are read as these settings.
use Rattle.std.proofs.Common.{◌≡◌, ◌≢◌, ℕ, ◌+◌, ◌*◌, ◌^◌, ◌<◌, ◌≤◌, Bool, true, false, cond, ltb, leb, eqb, ◌&&◌, ◌||◌, inl, inr, List, [], ◌∷◌, ◌++◌, refl, sym, ap, subst, ◌∙◌, arith, append_assoc, None}
use Rattle.std.specs.Prelude.{codes, min, count_by}
use Rattle.std.specs.Fmt.{decimal}
use Rattle.std.specs.List.{list_any, AllByRecursion}
use Rattle.std.specs.Option.{is_some}
use Rattle.std.proofs.lemmas.Bool.{eq-eqb, lt-leb, cases_eq}
use Rattle.std.proofs.lemmas.Bool.Decides.{nat_tests}
use Rattle.std.proofs.lemmas.List.{append-nil}
use Rattle.std.proofs.lemmas.List.Sums.{sum_by-cons, sum_by-append}
use Rattle.xp_base.specs.declared.layout.TheConstants.{PARTS}
use Rattle.xp_base.specs.Windows.{window_of}
use Rattle.xp_script.specs.declared.limits.TheConstants.{BUDGET_LIMIT, CHECK_WINDOWS, CHECK_LIMIT, RESTART_LIMIT}
use Rattle.xp_script.specs.declared.setting.Minor.{Minor}
use Rattle.xp_script.specs.declared.setting.Warm.{Warm}
use Rattle.xp_script.specs.declared.setting.Fault.{Fault}
use Rattle.xp_script.specs.declared.setting.Moment.{Moment}
use Rattle.xp_script.specs.declared.setting.Moment.TheVariants.{Put, Turn}
use Rattle.xp_script.specs.declared.setting.Stop.{Stop}
use Rattle.xp_script.specs.declared.setting.Restart.{Restart}
use Rattle.xp_script.specs.declared.setting.Poke.{Poke}
use Rattle.xp_script.specs.declared.setting.Setting.{Setting}
use Rattle.xp_script.specs.declared.setting.Setting.TheVariants as settings
use Rattle.xp_script.specs.Settings.{joins, minor_of}
use Rattle.xp_script.specs.Sizes.{longest_limit}
use Rattle.xp_script.specs.Lawful.{IsLawfulCheck, IsLawfulMinor, IsLawfulWarm, IsLawfulFault, IsLawfulMoment, IsLawfulStop, IsLawfulRestart, IsLawfulPoke, AreDistinctWarms, join_the_same, is_minor_of, is_stop_of, is_restart_of}
use Rattle.xp_forms.specs.Values.{IsIn}
use Rattle.xp_forms.specs.Forms.Slot.{Interval}
use Rattle.xp_settings.specs.declared.word.SettingWord.TheVariants as words
use Rattle.xp_settings.specs.Tests.{has_minor, has_warm, has_end, has_stop, has_restarts}
use Rattle.xp_settings.specs.Settings.{setting_form, moment_form, stop_line, restart_line}
use Rattle.xp_scenario.specs.declared.draft.Draft.{Draft}
use Rattle.xp_scenario.specs.declared.draft.Section.TheVariants as sections
use Rattle.xp_scenario.specs.Drafts.{with_one_setting}
use Rattle.xp_print.specs.Lines.{line_text, written}
use Rattle.xp_print.specs.Words.{minor_words, warm_words, fault_words, moment_words, stop_words, restart_words, poke_words}
use Rattle.xp_print.specs.Text.{minor_lines, warm_lines, fault_lines, stop_lines, restart_lines, poke_lines}
use Rattle.xp_language_laws.proofs.Lexing.{text_if}
use Rattle.xp_language_laws.proofs.FormsPrinted.{Prints, ends_there, number_then, kind_then, word_then, other_then, right_then, seen_then}
use Rattle.xp_language_laws.proofs.CommandLines.{entries_is_text, limit_is_text, longest_low}
use Rattle.xp_language_laws.proofs.MadeTexts.{Made, made_none, made_then, made_same, setting_made}
use Rattle.xp_forms.proofs.Fitting.{is_word}

-- ---- lines before a line

abbrev one_if : Bool → ℕ
one_if b = cond b 1 0

count_parts : {X : Type 0} (f : X → Bool) (done : List X) (x : X) (todo : List X) → count_by f (done ++ x ∷ todo) ≡ count_by f done + (one_if (f x) + count_by f todo)
count_parts f done x todo =
    sum_by-append (λ y. one_if (f y)) done (x ∷ todo) ∙ ap (λ (n : ℕ). count_by f done + n) (sum_by-cons (λ y. one_if (f y)) x todo)

none_of : {X : Type 0} (f : X → Bool) (xs : List X) → count_by f xs ≡ 0 → list_any f xs ≡ false
none_of f [] h = refl
none_of f (x ∷ xs) h = go (f x) refl (sum_by-cons (λ y. one_if (f y)) x xs) (none_of f xs)
  where
    go : (b : Bool) → f x ≡ b → count_by f (x ∷ xs) ≡ one_if (f x) + count_by f xs → (count_by f xs ≡ 0 → list_any f xs ≡ false) → list_any f (x ∷ xs) ≡ false
    go true e c ih = absurd (let t : one_if (f x) ≡ 1 = ap one_if e in omega (arith, t, c, h))
    go false e c ih = rw e (ih (let t : one_if (f x) ≡ 0 = ap one_if e in omega (arith, t, c, h)))

-- where at most one line passes, and this one does, none before it does
none_before : {X : Type 0} (f : X → Bool) (done : List X) (x : X) (todo : List X) → f x ≡ true → count_by f (done ++ x ∷ todo) ≤ 1 → list_any f done ≡ false
none_before f done x todo e few =
    let c = count_parts f done x todo in
    let one : one_if (f x) ≡ 1 = ap one_if e in
    none_of f done (omega (arith, c, one, few))

few_before : {X : Type 0} (f : X → Bool) (done : List X) (x : X) (todo : List X) (most : ℕ) → f x ≡ true → count_by f (done ++ x ∷ todo) ≤ most → leb most (count_by f done) ≡ false
few_before f done x todo most e few =
    let c = count_parts f done x todo in
    let one : one_if (f x) ≡ 1 = ap one_if e in
    lt-leb most (count_by f done) (omega (arith, c, one, few))

eqb_sym : (a b : ℕ) → eqb a b ≡ eqb b a
eqb_sym a b = grind (arith, nat_tests)

or_swap : (a b c d : Bool) → (a && b) || (c && d) ≡ (a && b) || (d && c)
or_swap true true c d = refl
or_swap true false true true = refl
or_swap true false true false = refl
or_swap true false false true = refl
or_swap true false false false = refl
or_swap false b true true = refl
or_swap false b true false = refl
or_swap false b false true = refl
or_swap false b false false = refl

joins_sym : (v w : Warm) → joins v.first v.second v.channel w ≡ joins w.first w.second w.channel v
joins_sym v w =
    rw (eqb_sym w.first v.first, eqb_sym w.second v.second, eqb_sym w.first v.second, eqb_sym w.second v.first, eqb_sym w.channel v.channel)
    (ap (λ (b : Bool). b && eqb v.channel w.channel) (or_swap (eqb v.first w.first) (eqb v.second w.second) (eqb v.second w.first) (eqb v.first w.second)))

any_there : {X : Type 0} (f : X → Bool) (done : List X) (x : X) (todo : List X) → list_any f (done ++ x ∷ todo) ≡ false → f x ≡ false
any_there f [] x todo h = go (f x) refl h
  where
    go : (b : Bool) → f x ≡ b → b || list_any f todo ≡ false → f x ≡ false
    go true e t = absurd cc
    go false e t = e
any_there f (y ∷ done) x todo h = go (f y) h (any_there f done x todo)
  where
    go : (b : Bool) → b || list_any f (done ++ x ∷ todo) ≡ false → (list_any f (done ++ x ∷ todo) ≡ false → f x ≡ false) → f x ≡ false
    go true t ih = absurd cc
    go false t ih = ih t

new_warm : (done : List Warm) (w : Warm) (todo : List Warm) → AreDistinctWarms (done ++ w ∷ todo) → list_any (joins w.first w.second w.channel) done ≡ false
new_warm [] w todo h = refl
new_warm (v ∷ done) w todo h =
    rw (sym (joins_sym v w) ∙ any_there (join_the_same v) done w todo h.0) (new_warm done w todo h.1)

-- ---- sizes

shorter : (a b limit : ℕ) → limit ≤ longest_limit a → limit ≤ longest_limit b → limit ≤ longest_limit (min a b)
shorter a b limit x y = go (ltb a b) refl
  where
    go : (c : Bool) → ltb a b ≡ c → limit ≤ longest_limit (min a b)
    go true e = let m : min a b ≡ a = grind (arith, nat_tests) in subst (λ (n : ℕ). limit ≤ longest_limit n) (sym m) x
    go false e = let m : min a b ≡ b = grind (arith, nat_tests) in subst (λ (n : ℕ). limit ≤ longest_limit n) (sym m) y

-- ---- moments

turn_word : codes "turn" ≢ codes "put"
turn_word e = absurd (let t = is_word (codes "turn") (codes "put") e in cc)

moment_prints : (setting : Moment → Setting) (m : Moment) → IsLawfulMoment m → Prints (moment_form setting) (moment_words m) (setting m)
moment_prints setting (Put k) h = word_then (codes "put") (text_if (codes "put") refl refl) (number_then k h.1 (let small = h.1 in (h.0, omega (arith, small))) ends_there)
moment_prints setting (Turn t) h = other_then (codes "turn") turn_word (word_then (codes "turn") (text_if (codes "turn") refl refl) (number_then t h (omega arith, omega (arith, h)) ends_there))

-- ---- single settings

interval_in : (count check : ℕ) → IsLawfulCheck count check → IsIn (Interval (CHECK_WINDOWS * window_of count) CHECK_LIMIT) check
interval_in count check h =
    elim (cases_eq check 0) [
      | inl e ↦ inl e
      | inr ne ↦ inr (h.low ne, h.high)
    ]

pub budget_made : (d : Draft) (n : ℕ) → d.section ≡ sections.Settings → d.settings.budget ≡ None → 1 ≤ n → n ≤ BUDGET_LIMIT → Made (line_text (codes "budget" ∷ decimal n ∷ [])) d (with_one_setting (settings.Budget n) d)
budget_made d n q none low high =
    setting_made d words.Budget (decimal n ∷ []) (settings.Budget n) q (right_then (ap is_some none) (number_then n (omega (arith, high)) (low, high) ends_there))

pub check_made : (d : Draft) (n : ℕ) → d.section ≡ sections.Settings → d.settings.check ≡ None → IsLawfulCheck d.count n → Made (line_text (codes "check" ∷ decimal n ∷ [])) d (with_one_setting (settings.Check n) d)
check_made d n q none h =
    let high = h.high in
    setting_made d words.Check (decimal n ∷ []) (settings.Check n) q (right_then (ap is_some none) (number_then n (omega (arith, high)) (interval_in d.count n h) ends_there))

-- ---- lists of settings

abbrev pub with_minors : List Minor → Draft → Draft
with_minors x d = record d { settings = record d.settings { minors = x } }

abbrev pub with_warms : List Warm → Draft → Draft
with_warms x d = record d { settings = record d.settings { warms = x } }

abbrev pub with_faults : List Fault → Draft → Draft
with_faults x d = record d { settings = record d.settings { faults = x } }

abbrev pub with_stops : List Stop → Draft → Draft
with_stops x d = record d { settings = record d.settings { stops = x } }

abbrev pub with_restarts : List Restart → Draft → Draft
with_restarts x d = record d { settings = record d.settings { restarts = x } }

abbrev pub with_pokes : List Poke → Draft → Draft
with_pokes x d = record d { settings = record d.settings { pokes = x } }

part_small : (count p : ℕ) → count ≤ PARTS → p < count → p < 2 ^ 64
part_small count p le lt = omega (arith, le, lt)

no_ends : (p : ℕ) (warms : List Warm) → warms ≡ [] → has_end p warms ≡ false
unfolding has_end
no_ends p warms e = ap (has_end p) e

no_minor : (done : List Minor) (m : Minor) (todo : List Minor) → count_by (is_minor_of m.part) (done ++ m ∷ todo) ≤ 1 → has_minor m.part done ≡ false
unfolding has_minor
no_minor done m todo h = none_before (is_minor_of m.part) done m todo (eq-eqb m.part m.part refl) h

pub minors_made : (todo done : List Minor) (d : Draft) → d.section ≡ sections.Settings → d.count ≤ PARTS → d.settings.warms ≡ [] → d.settings.minors ≡ done → AllByRecursion (IsLawfulMinor d.count) todo → ((p : ℕ) → p < d.count → count_by (is_minor_of p) (done ++ todo) ≤ 1) → Made (written (minor_lines todo)) d (with_minors (done ++ todo) d)
minors_made [] done d q le w e h one = made_same [] d d (with_minors (done ++ []) d) (ap (λ (x : List Minor). with_minors x d) (e ∙ sym (append-nil done))) (made_none d)
minors_made (m ∷ todo) done d q le w e h one =
    let next : Draft = with_one_setting (settings.Minor m) d in
    let small = part_small d.count m.part le h.0.part in
    let high = h.0.high in
    let new : has_minor m.part d.settings.minors ≡ false = ap (has_minor m.part) e ∙ no_minor done m todo (one m.part h.0.part) in
    let line : Prints (setting_form d.count d.settings words.Minor) (decimal m.part ∷ decimal m.version ∷ []) (settings.Minor m) =
    seen_then m.part small (right_then (no_ends m.part d.settings.warms w) (number_then m.part small h.0.part (right_then new
    (number_then m.version (omega (arith, high)) (h.0.low, h.0.high) ends_there)))) in
    made_then (line_text (minor_words m)) (written (minor_lines todo)) d next (with_minors (done ++ m ∷ todo) d)
    (setting_made d words.Minor (decimal m.part ∷ decimal m.version ∷ []) (settings.Minor m) q line)
    (subst (λ (x : List Minor). Made (written (minor_lines todo)) next (with_minors x d)) (append_assoc done (m ∷ []) todo)
    (minors_made todo (done ++ m ∷ []) next q le w (ap (λ (x : List Minor). x ++ m ∷ []) e) h.1
    (λ p lt. subst (λ (x : List Minor). count_by (is_minor_of p) x ≤ 1) (sym (append_assoc done (m ∷ []) todo)) (one p lt))))

no_warm : (done : List Warm) (w : Warm) (todo : List Warm) → AreDistinctWarms (done ++ w ∷ todo) → has_warm w.first w.second w.channel done ≡ false
unfolding has_warm
no_warm done w todo h = new_warm done w todo h

pub warms_made : (todo done : List Warm) (d : Draft) → d.section ≡ sections.Settings → d.count ≤ PARTS → d.settings.warms ≡ done → AllByRecursion (IsLawfulWarm d.count d.settings.minors) todo → AreDistinctWarms (done ++ todo) → Made (written (warm_lines todo)) d (with_warms (done ++ todo) d)
warms_made [] done d q le e h one = made_same [] d d (with_warms (done ++ []) d) (ap (λ (x : List Warm). with_warms x d) (e ∙ sym (append-nil done))) (made_none d)
warms_made (w ∷ todo) done d q le e h one =
    let next : Draft = with_one_setting (settings.Warm w) d in
    let first = minor_of w.first d.settings.minors in
    let second = minor_of w.second d.settings.minors in
    let channel = h.0.channel in
    let few = h.0.first_size.few in
    let short = h.0.first_size.short in
    let low = longest_low first in
    let new : has_warm w.first w.second w.channel d.settings.warms ≡ false = ap (has_warm w.first w.second w.channel) e ∙ no_warm done w todo one in
    let words_of : List (List ℕ) = decimal w.first ∷ decimal w.second ∷ decimal w.channel ∷ codes "entries" ∷ decimal w.entries ∷ codes "limit" ∷ decimal w.limit ∷ [] in
    let line : Prints (setting_form d.count d.settings words.Warm) words_of (settings.Warm w) =
    number_then w.first (part_small d.count w.first le h.0.first) h.0.first
    (number_then w.second (part_small d.count w.second le h.0.second) (h.0.second, λ s. h.0.different (sym s))
    (number_then w.channel (omega (arith, channel)) channel (right_then new
    (word_then (codes "entries") entries_is_text (number_then w.entries (omega (arith, few)) (h.0.first_size.some, few)
    (word_then (codes "limit") limit_is_text (number_then w.limit (omega (arith, short, low)) (shorter first second w.limit short h.0.second_size.short, h.0.first_size.room) ends_there))))))) in
    made_then (line_text (warm_words w)) (written (warm_lines todo)) d next (with_warms (done ++ w ∷ todo) d)
    (setting_made d words.Warm words_of (settings.Warm w) q line)
    (subst (λ (x : List Warm). Made (written (warm_lines todo)) next (with_warms x d)) (append_assoc done (w ∷ []) todo)
    (warms_made todo (done ++ w ∷ []) next q le (ap (λ (x : List Warm). x ++ w ∷ []) e) h.1
    (subst AreDistinctWarms (sym (append_assoc done (w ∷ []) todo)) one)))

pub faults_made : (todo done : List Fault) (d : Draft) → d.section ≡ sections.Settings → d.count ≤ PARTS → d.settings.faults ≡ done → AllByRecursion (IsLawfulFault d.count) todo → Made (written (fault_lines todo)) d (with_faults (done ++ todo) d)
faults_made [] done d q le e h = made_same [] d d (with_faults (done ++ []) d) (ap (λ (x : List Fault). with_faults x d) (e ∙ sym (append-nil done))) (made_none d)
faults_made (f ∷ todo) done d q le e h =
    let next : Draft = with_one_setting (settings.Fault f) d in
    let copy = h.0.copy in
    let load = h.0.load in
    made_then (line_text (fault_words f)) (written (fault_lines todo)) d next (with_faults (done ++ f ∷ todo) d)
    (setting_made d words.Fault _ (settings.Fault f) q
    (number_then f.part (part_small d.count f.part le h.0.part) h.0.part (kind_then f.kind (number_then f.copy copy (h.0.low, omega (arith, copy))
    (word_then (codes "at") (text_if (codes "at") refl refl) (number_then f.load load (omega arith, omega (arith, load)) ends_there))))))
    (subst (λ (x : List Fault). Made (written (fault_lines todo)) next (with_faults x d)) (append_assoc done (f ∷ []) todo)
    (faults_made todo (done ++ f ∷ []) next q le (ap (λ (x : List Fault). x ++ f ∷ []) e) h.1))

no_stop : (done : List Stop) (x : Stop) (todo : List Stop) → count_by (is_stop_of x.part) (done ++ x ∷ todo) ≤ 1 → has_stop x.part done ≡ false
unfolding has_stop
no_stop done x todo h = none_before (is_stop_of x.part) done x todo (eq-eqb x.part x.part refl) h

pub stops_made : (todo done : List Stop) (d : Draft) → d.section ≡ sections.Settings → d.count ≤ PARTS → d.settings.stops ≡ done → AllByRecursion (IsLawfulStop d.count) todo → ((p : ℕ) → p < d.count → count_by (is_stop_of p) (done ++ todo) ≤ 1) → Made (written (stop_lines todo)) d (with_stops (done ++ todo) d)
stops_made [] done d q le e h one = made_same [] d d (with_stops (done ++ []) d) (ap (λ (x : List Stop). with_stops x d) (e ∙ sym (append-nil done))) (made_none d)
stops_made (s ∷ todo) done d q le e h one =
    let next : Draft = with_one_setting (settings.Stop s) d in
    let new : has_stop s.part d.settings.stops ≡ false = ap (has_stop s.part) e ∙ no_stop done s todo (one s.part h.0.0) in
    made_then (line_text (stop_words s)) (written (stop_lines todo)) d next (with_stops (done ++ s ∷ todo) d)
    (setting_made d words.Stop (decimal s.part ∷ moment_words s.moment) (settings.Stop s) q
    (number_then s.part (part_small d.count s.part le h.0.0) h.0.0 (right_then new (moment_prints (stop_line s.part) s.moment h.0.1))))
    (subst (λ (x : List Stop). Made (written (stop_lines todo)) next (with_stops x d)) (append_assoc done (s ∷ []) todo)
    (stops_made todo (done ++ s ∷ []) next q le (ap (λ (x : List Stop). x ++ s ∷ []) e) h.1
    (λ p lt. subst (λ (x : List Stop). count_by (is_stop_of p) x ≤ 1) (sym (append_assoc done (s ∷ []) todo)) (one p lt))))

few_restarts : (done : List Restart) (x : Restart) (todo : List Restart) → count_by (is_restart_of x.part) (done ++ x ∷ todo) ≤ RESTART_LIMIT → has_restarts x.part done ≡ false
unfolding has_restarts
few_restarts done x todo h = few_before (is_restart_of x.part) done x todo RESTART_LIMIT (eq-eqb x.part x.part refl) h

pub restarts_made : (todo done : List Restart) (d : Draft) → d.section ≡ sections.Settings → d.count ≤ PARTS → d.settings.restarts ≡ done → AllByRecursion (IsLawfulRestart d.count) todo → ((p : ℕ) → p < d.count → count_by (is_restart_of p) (done ++ todo) ≤ RESTART_LIMIT) → Made (written (restart_lines todo)) d (with_restarts (done ++ todo) d)
restarts_made [] done d q le e h few = made_same [] d d (with_restarts (done ++ []) d) (ap (λ (x : List Restart). with_restarts x d) (e ∙ sym (append-nil done))) (made_none d)
restarts_made (s ∷ todo) done d q le e h few =
    let next : Draft = with_one_setting (settings.Restart s) d in
    let room : has_restarts s.part d.settings.restarts ≡ false = ap (has_restarts s.part) e ∙ few_restarts done s todo (few s.part h.0.0) in
    made_then (line_text (restart_words s)) (written (restart_lines todo)) d next (with_restarts (done ++ s ∷ todo) d)
    (setting_made d words.Restart (decimal s.part ∷ moment_words s.moment) (settings.Restart s) q
    (number_then s.part (part_small d.count s.part le h.0.0) h.0.0 (right_then room (moment_prints (restart_line s.part) s.moment h.0.1))))
    (subst (λ (x : List Restart). Made (written (restart_lines todo)) next (with_restarts x d)) (append_assoc done (s ∷ []) todo)
    (restarts_made todo (done ++ s ∷ []) next q le (ap (λ (x : List Restart). x ++ s ∷ []) e) h.1
    (λ p lt. subst (λ (x : List Restart). count_by (is_restart_of p) x ≤ RESTART_LIMIT) (sym (append_assoc done (s ∷ []) todo)) (few p lt))))

pub pokes_made : (todo done : List Poke) (d : Draft) → d.section ≡ sections.Settings → d.count ≤ PARTS → d.settings.pokes ≡ done → AllByRecursion (IsLawfulPoke d.count) todo → Made (written (poke_lines todo)) d (with_pokes (done ++ todo) d)
pokes_made [] done d q le e h = made_same [] d d (with_pokes (done ++ []) d) (ap (λ (x : List Poke). with_pokes x d) (e ∙ sym (append-nil done))) (made_none d)
pokes_made (x ∷ todo) done d q le e h =
    let next : Draft = with_one_setting (settings.Poke x) d in
    let turn = h.0.turn in
    let index = h.0.index in
    let word = h.0.word in
    made_then (line_text (poke_words x)) (written (poke_lines todo)) d next (with_pokes (done ++ x ∷ todo) d)
    (setting_made d words.Poke (decimal x.turn ∷ decimal x.owner ∷ decimal x.index ∷ decimal x.word ∷ []) (settings.Poke x) q
    (number_then x.turn turn (omega arith, omega (arith, turn)) (number_then x.owner (part_small d.count x.owner le h.0.owner) h.0.owner
    (number_then x.index (omega (arith, index)) (omega arith, omega (arith, index)) (number_then x.word word (omega arith, omega (arith, word)) ends_there)))))
    (subst (λ (y : List Poke). Made (written (poke_lines todo)) next (with_pokes y d)) (append_assoc done (x ∷ []) todo)
    (pokes_made todo (done ++ x ∷ []) next q le (ap (λ (y : List Poke). y ++ x ∷ []) e) h.1))
