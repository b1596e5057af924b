-- What the lines of a text say is lawful, line by line.
use Rattle.std.proofs.Common.{◌≡◌, ℕ, zero, suc, ◌+◌, ◌-◌, ◌<◌, ◌≤◌, Bool, true, false, cond, ltb, inl, inr, List, [], ◌∷◌, ◌++◌, length, get_or, refl, sym, ap, subst, ◌∙◌, arith, Option, Some, None, Result, Ok, Err}
use Rattle.std.specs.Prelude.{min, codes, bytes_eq, replicate, slice_index_or}
use Rattle.std.specs.List.{AllByRecursion}
use Rattle.std.proofs.Math.ListN.{set}
use Rattle.std.proofs.lemmas.Bool.{le-leb, cases_eq}
use Rattle.std.proofs.lemmas.List.{length-append, length-set, length-replicate, get_or-set_same, get_or-set_other}
use Rattle.std.proofs.lemmas.List.Sums.{sum_by-append, sum_by-set}
use Rattle.xp_script.specs.declared.limits.TheConstants.{COMMAND_LIMIT, PAYLOAD_BYTES_LIMIT}
use Rattle.xp_script.specs.declared.command.Command.{Command}
use Rattle.xp_script.specs.declared.log.Verb.{Verb}
use Rattle.xp_script.specs.Sizes.{IsCount}
use Rattle.xp_script.specs.Settings.{minor_of}
use Rattle.xp_script.specs.Totals.{command_bytes, script_bytes, boots_bytes, payload_bytes}
use Rattle.xp_script.specs.Lawful.{IsLawfulCommand, AreLawfulCommands, AreLawfulBoots, IsLawfulPlan}
use Rattle.xp_text.specs.Lines.{Word, Line, line_of}
use Rattle.xp_forms.specs.declared.fault.LineCause.TheVariants as causes
use Rattle.xp_forms.specs.declared.fault.WordFault.{WordFault}
use Rattle.xp_forms.specs.Forms.{◌>>=◌, bad, next_word, is_ascii, reads}
use Rattle.xp_forms.specs.Values.{SaysOnly}
use Rattle.xp_forms.proofs.Fitting.{left}
use Rattle.xp_forms.proofs.Valued.{reads_only}
use Rattle.xp_commands.specs.Commands.{command_form}
use Rattle.xp_commands.proofs.LawfulCommands.{lawful_command, keeper, is_word}
use Rattle.xp_settings.specs.Settings.{no_settings, with_setting, setting_form}
use Rattle.xp_settings.specs.Lawful.{AreLawful}
use Rattle.xp_settings.proofs.LawfulSettings.{all_more, lawful_setting}
use Rattle.xp_scenario.specs.declared.head.Head.{Head}
use Rattle.xp_scenario.specs.declared.head.Head.TheVariants as heads
use Rattle.xp_scenario.specs.declared.head.PlanWord.{PlanWord}
use Rattle.xp_scenario.specs.declared.head.PlanWord.TheVariants as planwords
use Rattle.xp_scenario.specs.declared.draft.Draft.{Draft}
use Rattle.xp_scenario.specs.declared.draft.Section.{Section}
use Rattle.xp_scenario.specs.declared.draft.Section.TheVariants as sections
use Rattle.xp_scenario.specs.Heads.{head_in}
use Rattle.xp_scenario.specs.Plans.{plan_form}
use Rattle.xp_scenario.specs.Scripts.{in_last, command_added}
use Rattle.xp_scenario.specs.Drafts.{fresh, with_one_setting, with_script, owner_of, with_command, with_plan, header_form, count_form, script_form, schedule_form, said, in_section, by_head, after_head, words_say, line_says}

-- ---- lists

all_set : {X : Type 0} (P : X → Type 0) (xs : List X) (i : ℕ) (y : X) → AllByRecursion P xs → P y → AllByRecursion P (set xs i y)
all_set P [] i y h p = h
all_set P (x ∷ xs) zero y h p = (p, h.1)
all_set P (x ∷ xs) (suc i) y h p = (h.0, all_set P xs i y h.1 p)

all_at : {X : Type 0} (P : X → Type 0) (xs : List X) (i : ℕ) (d : X) → AllByRecursion P xs → P d → P (get_or xs i d)
all_at P [] i d h p = p
all_at P (x ∷ xs) zero d h p = h.0
all_at P (x ∷ xs) (suc i) d h p = all_at P xs i d h.1 p

abbrev Boots : Type 0
Boots = List (List Command)

none_yet : (n p : ℕ) → get_or (replicate n (let none : Boots = [] in none)) p [] ≡ []
none_yet zero p = refl
none_yet (suc n) zero = refl
none_yet (suc n) (suc p) = none_yet n p

-- ---- what a draft keeps

pub record IsBlank (d : Draft) : Type 0 where
  pub settings : d.settings ≡ no_settings
  pub plans : d.plans ≡ []
  pub bytes : d.payload_bytes ≡ 0

pub record IsSettled (d : Draft) : Type 0 where
  pub count : IsCount d.count
  pub settings : AreLawful d.count d.settings
  pub plans : AllByRecursion (IsLawfulPlan d.count) d.plans

-- commands are lawful as long as payloads are kept
pub record HasScripts (d : Draft) : Type 0 where
  pub parts : length d.scripts ≡ d.count
  pub bytes : d.payload_bytes ≤ payload_bytes d.scripts
  pub lawful : d.payload_bytes ≤ PAYLOAD_BYTES_LIMIT → (p : ℕ) → p < d.count → AreLawfulBoots d.count p (minor_of p d.settings.minors) (slice_index_or d.scripts p [])

pub record HasOwn (d : Draft) : Type 0 where
  pub own : d.own < d.count
  pub begun : 0 < length (slice_index_or d.scripts d.own [])

abbrev pub IsSoundIn : Section → Draft → Type 0
IsSoundIn sections.Opening d = IsBlank d
IsSoundIn sections.Counting d = IsBlank d
IsSoundIn sections.Settings d = IsSettled d × (d.scripts ≡ replicate d.count []) × (d.payload_bytes ≡ 0)
IsSoundIn sections.Scripts d = IsSettled d × HasScripts d × HasOwn d
IsSoundIn sections.Schedule d = IsSettled d × HasScripts d

abbrev pub IsSound : Draft → Type 0
IsSound d = IsSoundIn d.section d

pub blank_scripts : (d : Draft) → d.scripts ≡ replicate d.count [] → d.payload_bytes ≡ 0 → HasScripts d
blank_scripts d e z = record {
  parts = ap length e ∙ length-replicate d.count [];
  bytes = omega (arith, z);
  lawful = λ few p lt. subst (λ (b : Boots). AreLawfulBoots d.count p (minor_of p d.settings.minors) b) (sym (ap (λ (s : List Boots). get_or s p []) e ∙ none_yet d.count p)) tt;
}

-- ---- bytes of payloads

bytes_begun : (boots : Boots) → boots_bytes (boots ++ [] ∷ []) ≡ boots_bytes boots
unfolding boots_bytes script_bytes
bytes_begun boots = let h = sum_by-append script_bytes boots ([] ∷ []) in omega (arith, h)

bytes_in_last : (c : Command) (boots : Boots) → 0 < length boots → boots_bytes (in_last c boots) ≡ boots_bytes boots + command_bytes c
unfolding boots_bytes script_bytes
bytes_in_last c boots lt =
    let k : ℕ = length boots - 1 in
    let last : List Command = get_or boots k [] in
    let a = sum_by-set script_bytes boots k (last ++ c ∷ []) [] (omega (arith, lt)) in
    let b = sum_by-append command_bytes last (c ∷ []) in
    omega (arith, a, b)

bytes_set : (scripts : List Boots) (p more : ℕ) (boots : Boots) → p < length scripts → boots_bytes boots ≡ boots_bytes (get_or scripts p []) + more → payload_bytes (set scripts p boots) ≡ payload_bytes scripts + more
bytes_set scripts p more boots lt e =
    let a = sum_by-set boots_bytes scripts p boots [] lt in
    omega (arith, a, e)

-- ---- one step

-- the lines that stay in their section keep it sound
script_sound : (d : Draft) (p : ℕ) → IsSettled d → HasScripts d → p < d.count → IsSoundIn sections.Scripts (with_script p d)
script_sound d p settled scripts lt =
    let boots : Boots = get_or d.scripts p [] in
    let next : Boots = boots ++ [] ∷ [] in
    let parts = scripts.parts in
    let within : p < length d.scripts = omega (arith, parts, lt) in
    let same : get_or (set d.scripts p next) p [] ≡ next = get_or-set_same d.scripts p next [] within in
    let sum = bytes_set d.scripts p 0 next within (let k = bytes_begun boots in omega (arith, k)) in
    let bytes = scripts.bytes in (
      record { count = settled.count; settings = settled.settings; plans = settled.plans },
      record {
        parts = length-set d.scripts p next ∙ scripts.parts;
        bytes = omega (arith, sum, bytes);
        lawful = λ few q ltq. elim (cases_eq q p) [
          | inl e ↦ subst (λ (r : ℕ). AreLawfulBoots d.count r (minor_of r d.settings.minors) (get_or (set d.scripts p next) r [])) (sym e)
              (subst (λ (b : Boots). AreLawfulBoots d.count p (minor_of p d.settings.minors) b) (sym same) (all_more (AreLawfulCommands d.count p (minor_of p d.settings.minors)) boots [] (scripts.lawful few p lt) tt))
          | inr ne ↦ subst (λ (b : Boots). AreLawfulBoots d.count q (minor_of q d.settings.minors) b) (sym (get_or-set_other d.scripts p q next [] ne)) (scripts.lawful few q ltq)
        ];
      },
      record { own = lt; begun = subst (λ (b : Boots). 0 < length b) (sym same) (let k = length-append boots ([] ∷ []) in omega (arith, k)) },
    )

record IsCommandIn (d : Draft) (c : Command) : Type 0 where
  lawful : d.payload_bytes ≤ PAYLOAD_BYTES_LIMIT → IsLawfulCommand d.count d.own (minor_of d.own d.settings.minors) c

command_sound : (d : Draft) (c : Command) → IsSettled d → HasScripts d → HasOwn d → IsCommandIn d c → IsSoundIn sections.Scripts (with_command c d)
command_sound d c settled scripts own is = go (ltb COMMAND_LIMIT d.commands)
  where
    go : (b : Bool) → IsSoundIn sections.Scripts (cond b d (record d { scripts = command_added d.own c d.scripts; commands = d.commands + 1; payload_bytes = min (d.payload_bytes + command_bytes c) (PAYLOAD_BYTES_LIMIT + 1) }))
    go true = (settled, scripts, own)
    go false =
        let boots : Boots = get_or d.scripts d.own [] in
        let k : ℕ = length boots - 1 in
        let last : List Command = get_or boots k [] in
        let next : Boots = in_last c boots in
        let minor : ℕ = minor_of d.own d.settings.minors in
        let parts = scripts.parts in
        let ltp = own.own in
        let within : d.own < length d.scripts = omega (arith, parts, ltp) in
        let same : get_or (set d.scripts d.own next) d.own [] ≡ next = get_or-set_same d.scripts d.own next [] within in
        let sum = bytes_set d.scripts d.own (command_bytes c) next within (bytes_in_last c boots own.begun) in
        let bytes = scripts.bytes in (
          record { count = settled.count; settings = settled.settings; plans = settled.plans },
          record {
            parts = length-set d.scripts d.own next ∙ scripts.parts;
            bytes = omega (arith, sum, bytes);
            lawful = λ few q ltq.
                let fewer : d.payload_bytes ≤ PAYLOAD_BYTES_LIMIT = omega (arith, few) in
                elim (cases_eq q d.own) [
                  | inl e ↦ subst (λ (r : ℕ). AreLawfulBoots d.count r (minor_of r d.settings.minors) (get_or (set d.scripts d.own next) r [])) (sym e)
                      (subst (λ (b : Boots). AreLawfulBoots d.count d.own minor b) (sym same)
                      (let all = scripts.lawful fewer d.own own.own in
                      all_set (AreLawfulCommands d.count d.own minor) boots k (last ++ c ∷ []) all
                      (all_more (IsLawfulCommand d.count d.own minor) last c (all_at (AreLawfulCommands d.count d.own minor) boots k [] all tt) (is.lawful fewer))))
                  | inr ne ↦ subst (λ (b : Boots). AreLawfulBoots d.count q (minor_of q d.settings.minors) b) (sym (get_or-set_other d.scripts d.own q next [] ne)) (scripts.lawful fewer q ltq)
                ];
          },
          record { own = own.own; begun = subst (λ (b : Boots). 0 < length b) (sym same) (let j = length-set boots k (last ++ c ∷ []) in let g = own.begun in omega (arith, j, g)) },
        )

-- a line that adds what it says
said_ok : {A : Type 0} (add : A → Draft → Draft) (d e : Draft) (r : Result A WordFault) → said add d r ≡ Ok e → (x : A) × (r ≡ Ok x) × (add x d ≡ e)
said_ok add d e (Ok x) h = (x, refl, cc)
said_ok add d e (Err f) h = absurd cc

command_is : (d : Draft) (v : Verb) (ws : List Word) (end last : ℕ) (c : Command) → reads (command_form (owner_of d) v) (left ws end last) ≡ Ok c → IsCommandIn d c
command_is d v ws end last c h = record {
  lawful = λ few.
      let minor : ℕ = minor_of d.own d.settings.minors in
      reads_only (IsLawfulCommand d.count d.own minor) (command_form (keeper d.count d.own minor) v) ws end last c (lawful_command d.count d.own minor v)
      (subst (λ (b : Bool). reads (command_form (record { count = d.count; part = d.own; minor = minor; keeps = b }) v) (left ws end last) ≡ Ok c) (le-leb d.payload_bytes PAYLOAD_BYTES_LIMIT few) h);
}

lawful_plan : (count : ℕ) (w : PlanWord) → SaysOnly None (IsLawfulPlan count) (plan_form count w)
lawful_plan count planwords.Turns = λ p hp _. λ n hn _. (hp, is_word n hn.1)
lawful_plan count planwords.Rounds = λ n hn _. is_word n hn.1

count_high : (count : ℕ) → IsCount count → count ≤ 64
count_high count h = h.high

at_section : (s : Section) (d : Draft) → d.section ≡ s → IsSoundIn s d → IsSound d
at_section s d q h = subst (λ (x : Section). IsSoundIn x d) (sym q) h

abbrev no_lawful : (count : ℕ) → AreLawful count no_settings
no_lawful count = record {
  budget = tt;
  check = tt;
  minors = record { each = tt; one = λ p lt. omega arith };
  warms = record { each = tt; one = tt };
  faults = tt;
  stops = record { each = tt; one = λ p lt. omega arith };
  restarts = record { each = tt; few = λ p lt. omega arith };
  pokes = tt;
}

in_step : (s : Section) (head : Head) (d e : Draft) (ws : List Word) (end last : ℕ) → d.section ≡ s → IsSoundIn s d → in_section s head d (left ws end last) ≡ Ok e → IsSound e
in_step sections.Counting heads.Partitions d e ws end last q i h =
    reads_only IsSound (count_form d) ws end last e (λ n hn _.
    (record { count = record { low = hn.0; high = hn.1 }; settings = subst (AreLawful n) (sym i.settings) (no_lawful n); plans = subst (AllByRecursion (IsLawfulPlan n)) (sym i.plans) tt }, refl, i.bytes)) h
in_step sections.Settings (heads.Setting w) d e ws end last q i h =
    let a = said_ok with_one_setting d e (reads (setting_form d.count d.settings w) (left ws end last)) h in
    let lawful = reads_only (λ x. AreLawful d.count (with_setting x d.settings)) (setting_form d.count d.settings w) ws end last a.0 (lawful_setting d.count d.settings w (count_high d.count i.0.count) i.0.settings) a.1 in
    subst IsSound a.2 (at_section sections.Settings (with_one_setting a.0 d) q (record { count = i.0.count; settings = lawful; plans = i.0.plans }, i.1, i.2))
in_step sections.Settings heads.Script d e ws end last q i h =
    reads_only IsSound (script_form d) ws end last e (λ p hp _. script_sound d p i.0 (blank_scripts d i.1 i.2) hp) h
in_step sections.Settings heads.Schedule d e ws end last q i h =
    let b = blank_scripts d i.1 i.2 in
    reads_only IsSound (schedule_form d) ws end last e (record { count = i.0.count; settings = i.0.settings; plans = i.0.plans }, record { parts = b.parts; bytes = b.bytes; lawful = b.lawful }) h
in_step sections.Scripts heads.Script d e ws end last q i h =
    reads_only IsSound (script_form d) ws end last e (λ p hp _. script_sound d p i.0 i.1 hp) h
in_step sections.Scripts (heads.Command v) d e ws end last q i h =
    let a = said_ok with_command d e (reads (command_form (owner_of d) v) (left ws end last)) h in
    subst IsSound a.2 (at_section sections.Scripts (with_command a.0 d) (stays a.0 d q) (command_sound d a.0 i.0 i.1 i.2 (command_is d v ws end last a.0 a.1)))
  where
    stays : (c : Command) (d : Draft) → d.section ≡ sections.Scripts → (with_command c d).section ≡ sections.Scripts
    stays c d q = go (ltb COMMAND_LIMIT d.commands)
      where
        go : (b : Bool) → (cond b d (record d { scripts = command_added d.own c d.scripts; commands = d.commands + 1; payload_bytes = min (d.payload_bytes + command_bytes c) (PAYLOAD_BYTES_LIMIT + 1) })).section ≡ sections.Scripts
        go true = q
        go false = q
in_step sections.Scripts heads.Schedule d e ws end last q i h =
    reads_only IsSound (schedule_form d) ws end last e (record { count = i.0.count; settings = i.0.settings; plans = i.0.plans }, record { parts = i.1.parts; bytes = i.1.bytes; lawful = i.1.lawful }) h
in_step sections.Schedule (heads.Plan w) d e ws end last q i h =
    let a = said_ok with_plan d e (reads (plan_form d.count w) (left ws end last)) h in
    let p = reads_only (IsLawfulPlan d.count) (plan_form d.count w) ws end last a.0 (lawful_plan d.count w) a.1 in
    subst IsSound a.2 (at_section sections.Schedule (with_plan a.0 d) q
    (record { count = i.0.count; settings = i.0.settings; plans = all_more (IsLawfulPlan d.count) d.plans a.0 i.0.plans p }, record { parts = i.1.parts; bytes = i.1.bytes; lawful = i.1.lawful }))
in_step s head d e ws end last q i h = absurd cc

head_step : (o : Option Head) (d e : Draft) (ws : List Word) (end last : ℕ) → IsSound d → by_head o d (left ws end last) ≡ Ok e → IsSound e
head_step None d e ws end last i h = absurd cc
head_step (Some head) d e ws end last i h = in_step d.section head d e ws end last refl i h

after_step : (s : Section) (w : List ℕ) (d e : Draft) (ws : List Word) (end last : ℕ) → d.section ≡ s → IsSound d → after_head s w d (left ws end last) ≡ Ok e → IsSound e
after_step sections.Opening w d e ws end last q i h = go (bytes_eq w (codes "xpsim")) (subst (λ (x : Section). IsSoundIn x d) q i) h
  where
    go : (b : Bool) → IsBlank d → cond b (reads (header_form d) (left ws end last)) (bad last causes.Header) ≡ Ok e → IsSound e
    go true k t = reads_only IsSound (header_form d) ws end last e (record { settings = k.settings; plans = k.plans; bytes = k.bytes }, tt) t
    go false k t = absurd cc
after_step sections.Counting w d e ws end last q i h = head_step (head_in w) d e ws end last i h
after_step sections.Settings w d e ws end last q i h = head_step (head_in w) d e ws end last i h
after_step sections.Scripts w d e ws end last q i h = head_step (head_in w) d e ws end last i h
after_step sections.Schedule w d e ws end last q i h = head_step (head_in w) d e ws end last i h

abbrev first_word : Bool → List ℕ → Line → ℕ → Result (List ℕ × Line) WordFault
first_word b bytes line column = cond b (Ok (bytes, line)) (bad column causes.Word)

line_step : (ws : List Word) (d e : Draft) (end last : ℕ) → IsSound d → words_say ws d (left ws end last) ≡ Ok e → IsSound e
unfolding next_word
line_step [] d e end last i h = let same : d ≡ e = cc in subst IsSound same i
line_step (w ∷ ws) d e end last i h = go (is_ascii w.bytes) h
  where
    go : (b : Bool) → (first_word b w.bytes (left ws end w.column) w.column >>= λ x. after_head d.section x.0 d x.1) ≡ Ok e → IsSound e
    go true t = after_step d.section w.bytes d e ws end w.column refl i t
    go false t = absurd cc

-- a right line leaves a sound draft sound
pub sound_step : (d e : Draft) (bytes : List ℕ) → IsSound d → line_says d (line_of bytes) ≡ Ok e → IsSound e
unfolding line_says
sound_step d e bytes i h = line_step (line_of bytes).words d e (line_of bytes).end (line_of bytes).last i h

pub sound_first : IsSound fresh
sound_first = record { settings = refl; plans = refl; bytes = refl }
