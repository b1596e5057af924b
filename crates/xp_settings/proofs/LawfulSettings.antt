-- A setting line leaves lawful settings lawful.
use Rattle.std.proofs.Common.{◌≡◌, ◌≢◌, ℕ, ◌+◌, ◌*◌, ◌<◌, ◌≤◌, Bool, true, false, cond, ltb, leb, eqb, ◌&&◌, ◌||◌, ◌⊎◌, inl, inr, List, [], ◌∷◌, ◌++◌, refl, sym, ap, subst, ◌∙◌, arith, Option, Some, None}
use Rattle.std.specs.Prelude.{min, count_by}
use Rattle.std.specs.List.{list_any, AllByRecursion}
use Rattle.std.proofs.lemmas.List.Sums.{sum_by-append}
use Rattle.std.proofs.lemmas.Bool.{eqb-true, lt-ltb, ltb-true}
use Rattle.std.proofs.lemmas.Bool.Decides.{nat_tests}
use Rattle.xp_base.specs.declared.layout.TheConstants.{CHANNELS, LINES, PARTS, FIRST_MINOR}
use Rattle.xp_base.specs.declared.body.TheConstants.{BODY_BYTES, LINE_BYTES}
use Rattle.xp_base.specs.declared.step.CopyKind.{CopyKind}
use Rattle.xp_base.specs.Entries.{lines}
use Rattle.xp_base.specs.Windows.{window_of}
use Rattle.xp_script.specs.declared.limits.TheConstants.{CHECK_WINDOWS, CHECK_LIMIT, RESTART_LIMIT}
use Rattle.xp_script.specs.declared.setting.Minor.{Minor}
use Rattle.xp_script.specs.declared.setting.Warm.{Warm}
use Rattle.xp_script.specs.declared.setting.Stop.{Stop}
use Rattle.xp_script.specs.declared.setting.Restart.{Restart}
use Rattle.xp_script.specs.declared.setting.Moment.{Moment}
use Rattle.xp_script.specs.declared.setting.Moment.TheVariants.{Put, Turn}
use Rattle.xp_script.specs.declared.setting.Setting.{Setting}
use Rattle.xp_script.specs.Settings.{joins, minor_of}
use Rattle.xp_script.specs.Sizes.{IsSize, longest_limit}
use Rattle.xp_script.specs.Lawful.{IsWord, IsLawfulCheck, IsLawfulMinor, IsLawfulWarm, IsLawfulMoment, IsLawfulStop, IsLawfulRestart, IsLawfulFault, IsLawfulPoke, AreDistinctWarms, join_the_same, is_minor_of, is_stop_of, is_restart_of}
use Rattle.xp_forms.specs.Forms.{small}
use Rattle.xp_forms.specs.Values.{SaysOnly}
use Rattle.xp_settings.specs.declared.word.SettingWord.{SettingWord}
use Rattle.xp_settings.specs.declared.word.SettingWord.TheVariants as words
use Rattle.xp_settings.specs.declared.settings.Settings.{Settings}
use Rattle.xp_settings.specs.Tests.{has_minor, has_warm, is_end, has_end, has_stop, has_restarts, longest_between}
use Rattle.xp_settings.specs.Settings.{with_setting, setting_form, names_end, moment_form, minor_line, warm_line, fault_line, stop_line, restart_line}
use Rattle.xp_settings.specs.Lawful.{AreLawful}

-- ---- lists that grow by one

pub all_more : {X : Type 0} (P : X → Type 0) (xs : List X) (x : X) → AllByRecursion P xs → P x → AllByRecursion P (xs ++ x ∷ [])
all_more P [] x h p = (p, h)
all_more P (y ∷ xs) x h p = (h.0, all_more P xs x h.1 p)

any_none : {X : Type 0} (f : X → Bool) (xs : List X) → list_any f xs ≡ false → count_by f xs ≡ 0
any_none f [] h = refl
any_none f (x ∷ xs) h = go (f x) refl h (any_none f xs)
  where
    go : (b : Bool) → f x ≡ b → b || list_any f xs ≡ false → (list_any f xs ≡ false → count_by f xs ≡ 0) → count_by f (x ∷ xs) ≡ 0
    go true e t ih = absurd cc
    go false e t ih = let k = ih t in rw e (omega (arith, k))

abbrev one_if : Bool → ℕ
one_if b = cond b 1 0

count_append : {X : Type 0} (f : X → Bool) (xs : List X) (x : X) → count_by f (xs ++ x ∷ []) ≡ count_by f xs + one_if (f x)
count_append f xs x = let h = sum_by-append (λ y. cond (f y) 1 0) xs (x ∷ []) in omega (arith, h)

-- where no line is of p's kind, one more line is at most one of any q's
one_more : {X : Type 0} (named : ℕ → X → Bool) (part : X → ℕ) (xs : List X) (x : X) (q : ℕ) → ((r : ℕ) (y : X) → named r y ≡ eqb (part y) r) → list_any (named (part x)) xs ≡ false → count_by (named q) xs ≤ 1 → count_by (named q) (xs ++ x ∷ []) ≤ 1
one_more named part xs x q is none few = go (eqb (part x) q) refl
  where
    go : (b : Bool) → eqb (part x) q ≡ b → count_by (named q) (xs ++ x ∷ []) ≤ 1
    go true e =
        let same : part x ≡ q = eqb-true (part x) q e in
        let zero_so_far : count_by (named q) xs ≡ 0 = any_none (named q) xs (subst (λ (r : ℕ). list_any (named r) xs ≡ false) same none) in
        let more = count_append (named q) xs x in
        let one : one_if (named q x) ≡ 1 = ap one_if (is q x ∙ e) in
        omega (arith, more, zero_so_far, one)
    go false e =
        let more = count_append (named q) xs x in
        let none_here : one_if (named q x) ≡ 0 = ap one_if (is q x ∙ e) in
        omega (arith, more, none_here, few)

-- ---- pairs and channels

eqb_sym : (a b : ℕ) → eqb a b ≡ eqb b a
eqb_sym a b = grind (arith, nat_tests)

or_swap : (a b c d : Bool) → (a && b) || (c && d) ≡ (a && b) || (d && c)
or_swap true true c d = refl
or_swap true false true true = refl
or_swap true false true false = refl
or_swap true false false true = refl
or_swap true false false false = refl
or_swap false b true true = refl
or_swap false b true false = refl
or_swap false b false true = refl
or_swap false b false false = refl

joins_sym : (v w : Warm) → joins v.first v.second v.channel w ≡ joins w.first w.second w.channel v
joins_sym v w =
    rw (eqb_sym w.first v.first, eqb_sym w.second v.second, eqb_sym w.first v.second, eqb_sym w.second v.first, eqb_sym w.channel v.channel)
    (ap (λ (b : Bool). b && eqb v.channel w.channel) (or_swap (eqb v.first w.first) (eqb v.second w.second) (eqb v.second w.first) (eqb v.first w.second)))

any_more : {X : Type 0} (f : X → Bool) (xs : List X) (x : X) → list_any f xs ≡ false → f x ≡ false → list_any f (xs ++ x ∷ []) ≡ false
any_more f [] x h e = rw e refl
any_more f (y ∷ xs) x h e = go (f y) h (λ t. any_more f xs x t e)
  where
    go : (b : Bool) → b || list_any f xs ≡ false → (list_any f xs ≡ false → list_any f (xs ++ x ∷ []) ≡ false) → b || list_any f (xs ++ x ∷ []) ≡ false
    go true t ih = absurd cc
    go false t ih = ih t

-- a list none of whose elements pass: neither its first one nor the others
any_parts : {X : Type 0} (f : X → Bool) (x : X) (xs : List X) → list_any f (x ∷ xs) ≡ false → (f x ≡ false) × (list_any f xs ≡ false)
any_parts f x xs h = go (f x) refl h
  where
    go : (b : Bool) → f x ≡ b → b || list_any f xs ≡ false → (f x ≡ false) × (list_any f xs ≡ false)
    go true e t = absurd cc
    go false e t = (e, t)

distinct_more : (ws : List Warm) (w : Warm) → AreDistinctWarms ws → list_any (joins w.first w.second w.channel) ws ≡ false → AreDistinctWarms (ws ++ w ∷ [])
distinct_more [] w h e = (refl, h)
distinct_more (v ∷ ws) w h e =
    let p = any_parts (joins w.first w.second w.channel) v ws e in
    (any_more (join_the_same v) ws w h.0 (joins_sym v w ∙ p.0), distinct_more ws w h.1 p.1)

-- ---- minor versions

longest_low : (a b : ℕ) → longest_limit (min a b) ≤ longest_limit a
longest_low a b = go (ltb FIRST_MINOR (min a b)) (ltb FIRST_MINOR a) refl refl
  where
    go : (c d : Bool) → ltb FIRST_MINOR (min a b) ≡ c → ltb FIRST_MINOR a ≡ d → cond c BODY_BYTES LINE_BYTES ≤ cond d BODY_BYTES LINE_BYTES
    go true true e f = omega arith
    go false true e f = omega arith
    go false false e f = omega arith
    go true false e f =
        let m : FIRST_MINOR < min a b = ltb-true FIRST_MINOR (min a b) e in
        let t : ltb FIRST_MINOR a ≡ true = lt-ltb FIRST_MINOR a (omega (arith, m)) in
        absurd (let x : true ≡ false = sym t ∙ f in cc)

longest_second : (a b : ℕ) → longest_limit (min a b) ≤ longest_limit b
longest_second a b = go (ltb FIRST_MINOR (min a b)) (ltb FIRST_MINOR b) refl refl
  where
    go : (c d : Bool) → ltb FIRST_MINOR (min a b) ≡ c → ltb FIRST_MINOR b ≡ d → cond c BODY_BYTES LINE_BYTES ≤ cond d BODY_BYTES LINE_BYTES
    go true true e f = omega arith
    go false true e f = omega arith
    go false false e f = omega arith
    go true false e f =
        let m : FIRST_MINOR < min a b = ltb-true FIRST_MINOR (min a b) e in
        let t : ltb FIRST_MINOR b ≡ true = lt-ltb FIRST_MINOR b (omega (arith, m)) in
        absurd (let x : true ≡ false = sym t ∙ f in cc)

size_of : (longest low entries limit : ℕ) → low ≤ longest → (1 ≤ entries) × (entries ≤ LINES) → (limit ≤ low) × (entries * lines limit ≤ LINES) → IsSize longest entries limit
size_of longest low entries limit le n l = record { some = n.0; few = n.1; short = (let a = l.0 in omega (arith, a, le)); room = l.1 }

minor_same : (q : ℕ) (ms : List Minor) (m : Minor) → eqb m.part q ≡ false → minor_of q (ms ++ m ∷ []) ≡ minor_of q ms
minor_same q [] m e = rw e refl
minor_same q (n ∷ ms) m e = go (eqb n.part q) (minor_same q ms m e)
  where
    go : (b : Bool) → minor_of q (ms ++ m ∷ []) ≡ minor_of q ms → cond b n.version (minor_of q (ms ++ m ∷ [])) ≡ cond b n.version (minor_of q ms)
    go true ih = refl
    go false ih = ih

or_parts : (a b : Bool) → a || b ≡ false → (a ≡ false) × (b ≡ false)
or_parts true b h = absurd cc
or_parts false b h = (refl, h)

-- a minor version leaves the warm lines lawful that don't name its partition
warms_keep : (count : ℕ) (ms : List Minor) (m : Minor) (ws : List Warm) → list_any (is_end m.part) ws ≡ false → AllByRecursion (IsLawfulWarm count ms) ws → AllByRecursion (IsLawfulWarm count (ms ++ m ∷ [])) ws
warms_keep count ms m [] e h = h
warms_keep count ms m (w ∷ ws) e h =
    let p = any_parts (is_end m.part) w ws e in
    let q = or_parts (eqb w.first m.part) (eqb w.second m.part) p.0 in
    let first : minor_of w.first (ms ++ m ∷ []) ≡ minor_of w.first ms = minor_same w.first ms m (eqb_sym m.part w.first ∙ q.0) in
    let second : minor_of w.second (ms ++ m ∷ []) ≡ minor_of w.second ms = minor_same w.second ms m (eqb_sym m.part w.second ∙ q.1) in (
      record {
        first = h.0.first;
        second = h.0.second;
        different = h.0.different;
        channel = h.0.channel;
        first_size = subst (λ (n : ℕ). IsSize (longest_limit n) w.entries w.limit) (sym first) h.0.first_size;
        second_size = subst (λ (n : ℕ). IsSize (longest_limit n) w.entries w.limit) (sym second) h.0.second_size;
      },
      warms_keep count ms m ws p.1 h.1,
    )

leb_false : (a b : ℕ) → leb a b ≡ false → b < a
leb_false a b h = grind (arith, nat_tests)

-- ---- each kind of line

is_word : (n : ℕ) → n ≤ 18446744073709551615 → IsWord n
is_word n le = omega arith

with_check : (count n : ℕ) → (n ≡ 0) ⊎ ((CHECK_WINDOWS * window_of count ≤ n) × (n ≤ CHECK_LIMIT)) → IsLawfulCheck count n
with_check count n (inl e) = record { low = λ ne. absurd (ne e); high = omega (arith, e) }
with_check count n (inr h) = record { low = λ ne. h.0; high = h.1 }

with_minor : (count p version : ℕ) (s : Settings) → p < count → (1 ≤ version) × (version ≤ 2) → has_end p s.warms ≡ false → has_minor p s.minors ≡ false → AreLawful count s → AreLawful count (with_setting (minor_line p version) s)
unfolding has_end has_minor
with_minor count p version s lt v apart none h =
    let m : Minor = record { part = p; version = version } in
    record {
      budget = h.budget;
      check = h.check;
      minors = record {
        each = all_more (IsLawfulMinor count) s.minors m h.minors.each (record { part = lt; low = v.0; high = v.1 });
        one = λ q l. one_more is_minor_of (λ (y : Minor). y.part) s.minors m q (λ r y. refl) none (h.minors.one q l);
      };
      warms = record { each = warms_keep count s.minors m s.warms apart h.warms.each; one = h.warms.one };
      faults = h.faults;
      stops = h.stops;
      restarts = h.restarts;
      pokes = h.pokes;
    }

with_warm : (count p q c entries limit : ℕ) (s : Settings) → p < count → (q < count) × (q ≢ p) → c < CHANNELS → has_warm p q c s.warms ≡ false → (1 ≤ entries) × (entries ≤ LINES) → (limit ≤ longest_between p q s.minors) × (entries * lines limit ≤ LINES) → AreLawful count s → AreLawful count (with_setting (warm_line p q c entries limit) s)
unfolding has_warm
with_warm count p q c entries limit s lt other ch none n l h =
    let w : Warm = record { first = p; second = q; channel = c; entries = entries; limit = limit } in
    let a = minor_of p s.minors in
    let b = minor_of q s.minors in
    record {
      budget = h.budget;
      check = h.check;
      minors = h.minors;
      warms = record {
        each = all_more (IsLawfulWarm count s.minors) s.warms w h.warms.each (record {
          first = lt;
          second = other.0;
          different = λ e. other.1 (sym e);
          channel = ch;
          first_size = size_of (longest_limit a) (longest_limit (min a b)) entries limit (longest_low a b) n l;
          second_size = size_of (longest_limit b) (longest_limit (min a b)) entries limit (longest_second a b) n l;
        });
        one = distinct_more s.warms w h.warms.one none;
      };
      faults = h.faults;
      stops = h.stops;
      restarts = h.restarts;
      pokes = h.pokes;
    }

with_stop : (count p : ℕ) (moment : Moment) (s : Settings) → p < count → IsLawfulMoment moment → has_stop p s.stops ≡ false → AreLawful count s → AreLawful count (with_setting (stop_line p moment) s)
unfolding has_stop
with_stop count p moment s lt m none h =
    let x : Stop = record { part = p; moment = moment } in
    record {
      budget = h.budget;
      check = h.check;
      minors = h.minors;
      warms = h.warms;
      faults = h.faults;
      stops = record {
        each = all_more (IsLawfulStop count) s.stops x h.stops.each (lt, m);
        one = λ q l. one_more is_stop_of (λ (y : Stop). y.part) s.stops x q (λ r y. refl) none (h.stops.one q l);
      };
      restarts = h.restarts;
      pokes = h.pokes;
    }

with_restart : (count p : ℕ) (moment : Moment) (s : Settings) → p < count → IsLawfulMoment moment → has_restarts p s.restarts ≡ false → AreLawful count s → AreLawful count (with_setting (restart_line p moment) s)
unfolding has_restarts
with_restart count p moment s lt m none h =
    let x : Restart = record { part = p; moment = moment } in
    record {
      budget = h.budget;
      check = h.check;
      minors = h.minors;
      warms = h.warms;
      faults = h.faults;
      stops = h.stops;
      restarts = record {
        each = all_more (IsLawfulRestart count) s.restarts x h.restarts.each (lt, m);
        few = λ q l. few_more q (h.restarts.few q l) (eqb p q) refl;
      };
      pokes = h.pokes;
    }
  where
    few_more : (q : ℕ) → count_by (is_restart_of q) s.restarts ≤ RESTART_LIMIT → (b : Bool) → eqb p q ≡ b → count_by (is_restart_of q) (s.restarts ++ record { part = p; moment = moment } ∷ []) ≤ RESTART_LIMIT
    few_more q few true e =
        let more = count_append (is_restart_of q) s.restarts (record { part = p; moment = moment }) in
        let one : one_if (eqb p q) ≡ 1 = ap one_if e in
        let room : leb RESTART_LIMIT (count_by (is_restart_of q) s.restarts) ≡ false = subst (λ (r : ℕ). leb RESTART_LIMIT (count_by (is_restart_of r) s.restarts) ≡ false) (eqb-true p q e) none in
        let less : count_by (is_restart_of q) s.restarts < RESTART_LIMIT = leb_false RESTART_LIMIT (count_by (is_restart_of q) s.restarts) room in
        omega (arith, more, one, less)
    few_more q few false e =
        let more = count_append (is_restart_of q) s.restarts (record { part = p; moment = moment }) in
        let none_here : one_if (eqb p q) ≡ 0 = ap one_if e in
        omega (arith, more, none_here, few)

-- ---- the forms

moments : (Q : Setting → Type 0) (setting : Moment → Setting) → ((m : Moment) → IsLawfulMoment m → Q (setting m)) → SaysOnly None Q (moment_form setting)
moments Q setting h = ((λ k hk _. h (Put k) (hk.0, is_word k hk.1)), ((λ t ht _. h (Turn t) (is_word t ht.1)), tt))

seen_small : (p count : ℕ) (seen : Option ℕ) → p < count → count ≤ PARTS → small (Some p) ≡ seen → seen ≡ Some p
seen_small p count seen lt le e = sym e ∙ ap (λ (b : Bool). cond b (Some p) None) (lt-ltb p 18446744073709551616 (omega (arith, lt, le)))

pub lawful_setting : (count : ℕ) (s : Settings) (word : SettingWord) → count ≤ PARTS → AreLawful count s → SaysOnly None (λ x. AreLawful count (with_setting x s)) (setting_form count s word)
lawful_setting count s words.Budget le h = λ e. λ n hn _. record { budget = hn; check = h.check; minors = h.minors; warms = h.warms; faults = h.faults; stops = h.stops; restarts = h.restarts; pokes = h.pokes }
lawful_setting count s words.Check le h = λ e. λ n hn _. record { budget = h.budget; check = with_check count n hn; minors = h.minors; warms = h.warms; faults = h.faults; stops = h.stops; restarts = h.restarts; pokes = h.pokes }
lawful_setting count s words.Minor le h = λ seen. λ apart. λ p hp known. λ none. λ v hv _.
    with_minor count p v s hp hv (subst (λ (o : Option ℕ). names_end o s.warms ≡ false) (seen_small p count seen hp le known) apart) none h
lawful_setting count s words.Warm le h = λ p hp _. λ q hq _. λ c hc _. λ none.
    ((λ n hn _. ((λ l hl _. with_warm count p q c n l s hp hq hc none hn hl h), tt)), tt)
lawful_setting count s words.Fault le h = λ p hp _. λ kind. λ k hk _.
    ((λ j hj _. faulty p kind k j hp hk hj), faulty p kind k 0 hp hk (omega arith, omega arith))
  where
    faulty : (p : ℕ) (kind : CopyKind) (k j : ℕ) → p < count → (1 ≤ k) × (k ≤ 18446744073709551615) → (0 ≤ j) × (j ≤ 18446744073709551615) → AreLawful count (with_setting (fault_line p kind k j) s)
    faulty p kind k j lt hk hj = record { budget = h.budget; check = h.check; minors = h.minors; warms = h.warms; faults = all_more (IsLawfulFault count) s.faults (record { part = p; kind = kind; copy = k; load = j }) h.faults (record { part = lt; low = hk.0; copy = is_word k hk.1; load = is_word j hj.1 }); stops = h.stops; restarts = h.restarts; pokes = h.pokes }
lawful_setting count s words.Stop le h = λ p hp _. λ none. moments (λ x. AreLawful count (with_setting x s)) (stop_line p) (λ m hm. with_stop count p m s hp hm none h)
lawful_setting count s words.Restart le h = λ p hp _. λ none. moments (λ x. AreLawful count (with_setting x s)) (restart_line p) (λ m hm. with_restart count p m s hp hm none h)
lawful_setting count s words.Poke le h = λ t ht _. λ o ho _. λ i hi _. λ w hw _. record { budget = h.budget; check = h.check; minors = h.minors; warms = h.warms; faults = h.faults; stops = h.stops; restarts = h.restarts; pokes = all_more (IsLawfulPoke count) s.pokes (record { turn = t; owner = o; index = i; word = w }) h.pokes (record { turn = is_word t ht.1; owner = ho; index = (let a = hi.1 in omega (arith, a)); word = is_word w hw.1 }) }
