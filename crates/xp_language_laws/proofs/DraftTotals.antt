-- What a draft counts is what its scripts have, and what the lines of its text say.
use Rattle.std.proofs.Common.{◌≡◌, ℕ, zero, suc, ◌+◌, ◌-◌, ◌<◌, ◌≤◌, Bool, true, false, cond, ltb, leb, inl, inr, List, [], ◌∷◌, ◌++◌, length, get_or, refl, sym, ap, subst, ◌∙◌, arith, Option, Some, None, Ok, Err}
use Rattle.std.specs.Prelude.{codes, bytes_eq, min, replicate, sum_by}
use Rattle.std.specs.Option.{unwrap_or}
use Rattle.std.proofs.Math.ListN.{set}
use Rattle.std.proofs.lemmas.Bool.{cases_lt, lt-leb, ltb-true, ltb-false, leb-false}
use Rattle.std.proofs.lemmas.List.{length-append}
use Rattle.std.proofs.lemmas.List.Sums.{sum_by-cons, sum_by-append, sum_by-set}
use Rattle.xp_base.specs.declared.body.TheConstants.{SEND_BYTES}
use Rattle.xp_base.specs.declared.frame.TheConstants.{HEADER_BYTES, FRAME_BYTES}
use Rattle.xp_script.specs.declared.limits.TheConstants.{COMMAND_LIMIT, PAYLOAD_BYTES_LIMIT}
use Rattle.xp_script.specs.declared.command.Command.{Command}
use Rattle.xp_script.specs.declared.command.Command.TheVariants as commands
use Rattle.xp_script.specs.declared.log.Verb.{Verb}
use Rattle.xp_script.specs.declared.log.Verb.TheVariants as verbs
use Rattle.xp_script.specs.Totals.{command_bytes, script_bytes, boots_bytes, boots_commands, command_count, payload_bytes}
use Rattle.xp_text.specs.Lines.{Word, line_of}
use Rattle.xp_text.specs.Payloads.{payload_of, at_most}
use Rattle.xp_forms.specs.declared.fault.LineCause.{LineCause}
use Rattle.xp_forms.specs.Forms.{kept, sized, ends}
use Rattle.xp_forms.specs.Fits.{Fits}
use Rattle.xp_forms.specs.Values.{SaysOnly}
use Rattle.xp_commands.specs.declared.command.Owner.{Owner}
use Rattle.xp_commands.specs.Commands.{command_form}
use Rattle.xp_commands.specs.Verbs.{end_verb_in, verb_in}
use Rattle.xp_settings.specs.declared.word.SettingWord.{SettingWord}
use Rattle.xp_settings.specs.Words.{setting_word_in}
use Rattle.xp_scenario.specs.declared.head.Head.{Head}
use Rattle.xp_scenario.specs.declared.head.Head.TheVariants as heads
use Rattle.xp_scenario.specs.declared.head.PlanWord.{PlanWord}
use Rattle.xp_scenario.specs.declared.draft.Draft.{Draft}
use Rattle.xp_scenario.specs.declared.draft.Section.{Section}
use Rattle.xp_scenario.specs.declared.draft.Section.TheVariants as sections
use Rattle.xp_scenario.specs.Heads.{or_else, plan_word_in, section_word_in, head_in}
use Rattle.xp_scenario.specs.Scripts.{in_last, command_added}
use Rattle.xp_scenario.specs.Drafts.{fresh, counted, with_script, owner_of, with_command}
use Rattle.xp_scenario.specs.Spelled.{Lead}
use Rattle.xp_scenario.proofs.Sound.{HasScripts, IsSoundIn, IsSound, blank_scripts, sound_step, sound_first}
use Rattle.xp_language_laws.specs.Counts.{sent, sent_by, words_bytes, one_if_some, words_commands, line_bytes, line_commands, bytes_in, commands_in}
use Rattle.xp_language_laws.proofs.CommandLines.{flags_form}
use Rattle.xp_language_laws.proofs.MadeTexts.{IsBody}
use Rattle.xp_language_laws.proofs.LineSteps.{HeadStep, LineStep, fits_only, line_step}

abbrev Boots : Type 0
Boots = List (List Command)

-- ---- sums over scripts

-- a script more, of weight 0
sum_begun : (f : List Command → ℕ) (boots : Boots) → f [] ≡ 0 → sum_by f (boots ++ [] ∷ []) ≡ sum_by f boots
sum_begun f boots e = let h = sum_by-append f boots ([] ∷ []) in omega (arith, h, e)

-- a command of this weight more in the last script
sum_in_last : (f : List Command → ℕ) (c : Command) (weight : ℕ) (boots : Boots) → 0 < length boots → ((cs : List Command) → f (cs ++ c ∷ []) ≡ f cs + weight) → sum_by f (in_last c boots) ≡ sum_by f boots + weight
sum_in_last f c weight boots lt e =
    let k : ℕ = length boots - 1 in
    let last : List Command = get_or boots k [] in
    let a = sum_by-set f boots k (last ++ c ∷ []) [] (omega (arith, lt)) in
    let b = e last in
    omega (arith, a, b)

-- boots that weigh so much more
sum_set : (f : Boots → ℕ) (scripts : List Boots) (p more : ℕ) (boots : Boots) → p < length scripts → f boots ≡ f (get_or scripts p []) + more → sum_by f (set scripts p boots) ≡ sum_by f scripts + more
sum_set f scripts p more boots lt e = let a = sum_by-set f scripts p boots [] lt in omega (arith, a, e)

commands_begun : (boots : Boots) → boots_commands (boots ++ [] ∷ []) ≡ boots_commands boots + 0
unfolding boots_commands
commands_begun boots = let h = sum_begun length boots refl in omega (arith, h)

commands_in_last : (c : Command) (boots : Boots) → 0 < length boots → boots_commands (in_last c boots) ≡ boots_commands boots + 1
unfolding boots_commands
commands_in_last c boots lt = sum_in_last length c 1 boots lt (λ cs. length-append cs (c ∷ []))

bytes_begun : (boots : Boots) → boots_bytes (boots ++ [] ∷ []) ≡ boots_bytes boots + 0
unfolding boots_bytes script_bytes
bytes_begun boots = let h = sum_begun script_bytes boots refl in omega (arith, h)

bytes_in_last : (c : Command) (boots : Boots) → 0 < length boots → boots_bytes (in_last c boots) ≡ boots_bytes boots + command_bytes c
unfolding boots_bytes script_bytes
bytes_in_last c boots lt = sum_in_last script_bytes c (command_bytes c) boots lt (λ cs. let h = sum_by-append command_bytes cs (c ∷ []) in omega (arith, h))

-- ---- what a draft counts

pub record Counts (d : Draft) : Type 0 where
  pub commands : d.commands ≡ command_count d.scripts
  pub bytes : d.payload_bytes ≡ min (payload_bytes d.scripts) (PAYLOAD_BYTES_LIMIT + 1)

blank_counts : (n : ℕ) → (command_count (replicate n []) ≡ 0) × (payload_bytes (replicate n []) ≡ 0)
unfolding boots_commands boots_bytes
blank_counts zero = (refl, refl)
blank_counts (suc n) = blank_counts n

script_counts : (d : Draft) (p : ℕ) → p < length d.scripts → Counts d → Counts (with_script p d)
script_counts d p lt h =
    let boots : Boots = get_or d.scripts p [] in
    let next : Boots = boots ++ [] ∷ [] in
    let n = sum_set boots_commands d.scripts p 0 next lt (commands_begun boots) in
    let k = sum_set boots_bytes d.scripts p 0 next lt (bytes_begun boots) in
    let commands = h.commands in
    let bytes = h.bytes in
    record { commands = omega (arith, n, commands); bytes = omega (arith, k, bytes) }

-- past the limit a line says a command without bytes
abbrev IsKept : Draft → Command → Type 0
IsKept d c = PAYLOAD_BYTES_LIMIT < d.payload_bytes → command_bytes c ≡ 0

capped : (more counted old new : ℕ) → counted ≡ min old (PAYLOAD_BYTES_LIMIT + 1) → new ≡ old + more → (PAYLOAD_BYTES_LIMIT < counted → more ≡ 0) → min (counted + more) (PAYLOAD_BYTES_LIMIT + 1) ≡ min new (PAYLOAD_BYTES_LIMIT + 1)
capped more counted old new e f none = elim (cases_lt PAYLOAD_BYTES_LIMIT counted) [
  | inl past ↦ let z = none past in omega (arith, e, f, z)
  | inr within ↦ omega (arith, e, f, within)
]

command_counts : (d : Draft) (c : Command) → d.own < length d.scripts → 0 < length (get_or d.scripts d.own []) → IsKept d c → Counts d → Counts (with_command c d)
command_counts d c lt begun kept h = go (ltb COMMAND_LIMIT d.commands)
  where
    go : (b : Bool) → Counts (cond b d (record d { scripts = command_added d.own c d.scripts; commands = d.commands + 1; payload_bytes = min (d.payload_bytes + command_bytes c) (PAYLOAD_BYTES_LIMIT + 1) }))
    go true = h
    go false =
        let boots : Boots = get_or d.scripts d.own [] in
        let n = sum_set boots_commands d.scripts d.own 1 (in_last c boots) lt (commands_in_last c boots begun) in
        let k = sum_set boots_bytes d.scripts d.own (command_bytes c) (in_last c boots) lt (bytes_in_last c boots begun) in
        let commands = h.commands in
        record { commands = omega (arith, n, commands); bytes = capped (command_bytes c) d.payload_bytes (payload_bytes d.scripts) (payload_bytes (command_added d.own c d.scripts)) h.bytes k kept }

-- what isn't kept has no bytes
unkept : (own : Owner) (v : Verb) → own.keeps ≡ false → SaysOnly None (λ c. command_bytes c ≡ 0) (command_form own v)
unkept own verbs.Register e = λ q hq _. λ c hc _. ((λ n hn _. ((λ l hl _. refl), tt)), tt)
unkept own verbs.Unregister e = λ q hq _. λ c hc _. refl
unkept own verbs.Connected e = λ q hq _. λ c hc _. refl
unkept own verbs.Closed e = λ q hq _. λ c hc _. refl
unkept own verbs.Drain e = λ q hq _. λ c hc _. refl
unkept own verbs.Send e = λ q hq _. λ c hc _. λ bytes hb. let z = ap (λ (b : Bool). length (kept b bytes)) e in ((z, z), (z, z))
unkept own verbs.Take e = λ q hq _. λ c hc _. (refl, refl)
unkept own verbs.Release e = λ q hq _. λ c hc _. λ n hn _. refl
unkept own verbs.Net e = λ bytes hb. ap (λ (b : Bool). length (kept b bytes)) e
unkept own verbs.Frames e = λ n hn _. refl
unkept own verbs.Deactivate e = λ q hq _. refl
unkept own verbs.Activate e = λ q hq _. refl
unkept own verbs.Leave e = refl
unkept own verbs.Idle e = λ n hn _. refl
unkept own verbs.Offline e = refl
unkept own verbs.Online e = refl

command_kept : (d : Draft) (v : Verb) (ws : List Word) (c : Command) → Fits (command_form (owner_of d) v) ws c → IsKept d c
command_kept d v ws c h = λ past.
    fits_only (λ x. command_bytes x ≡ 0) (command_form (owner_of d) v) ws c (unkept (owner_of d) v (lt-leb d.payload_bytes PAYLOAD_BYTES_LIMIT past)) h

-- ---- counters and scripts, line by line

-- before the count of partitions no command stands
abbrev Blank : Section → Draft → Type 0
Blank sections.Opening d = d.commands ≡ 0
Blank sections.Counting d = d.commands ≡ 0
Blank _ d = Unit {0}

-- what a draft keeps from line to line
abbrev Keeps : Draft → Type 0
Keeps d = Counts d × Blank d.section d

-- the counters and the scripts stay
same_counts : (d e : Draft) → e.scripts ≡ d.scripts → e.commands ≡ d.commands → e.payload_bytes ≡ d.payload_bytes → Counts d → Counts e
same_counts d e s n b h = record { commands = n ∙ h.commands ∙ ap command_count (sym s); bytes = b ∙ h.bytes ∙ ap (λ (x : List Boots). min (payload_bytes x) (PAYLOAD_BYTES_LIMIT + 1)) (sym s) }

blank_in : (s : Section) (d : Draft) → d.section ≡ s → Blank s d → Blank d.section d
blank_in s d q b = subst (λ (x : Section). Blank x d) (sym q) b

stays : (c : Command) (d : Draft) → (with_command c d).section ≡ d.section
stays c d = go (ltb COMMAND_LIMIT d.commands)
  where
    go : (b : Bool) → (cond b d (record d { scripts = command_added d.own c d.scripts; commands = d.commands + 1; payload_bytes = min (d.payload_bytes + command_bytes c) (PAYLOAD_BYTES_LIMIT + 1) })).section ≡ d.section
    go true = refl
    go false = refl

count_counts : (d : Draft) (n : ℕ) → d.commands ≡ 0 → d.payload_bytes ≡ 0 → Counts (counted n d)
count_counts d n none empty =
    let b = blank_counts n in
    let commands = b.0 in
    let bytes = b.1 in
    record { commands = omega (arith, commands, none); bytes = omega (arith, bytes, empty) }

has_scripts : (d : Draft) → IsBody d.section → IsSound d → HasScripts d
has_scripts d (inl q) i = let j = subst (λ (x : Section). IsSoundIn x d) q i in blank_scripts d j.1 j.2
has_scripts d (inr q) i = let j = subst (λ (x : Section). IsSoundIn x d) q i in j.1

head_keeps : (head : Head) (d : Draft) (ws : List Word) (e : Draft) → IsSound d → Keeps d → HeadStep head d ws e → Keeps e
head_keeps heads.Xpsim d ws e i k h = absurd h
head_keeps heads.Partitions d ws e i k h =
    let j = subst (λ (x : Section). IsSoundIn x d) h.0 i in
    subst Keeps (sym h.2) (count_counts d h.1 (subst (λ (x : Section). Blank x d) h.0 k.1) j.bytes, tt)
head_keeps (heads.Setting w) d ws e i k h = subst Keeps (sym h.is) (same_counts d _ refl refl refl k.0, blank_in sections.Settings _ h.here tt)
head_keeps heads.Script d ws e i k h =
    let has = has_scripts d h.here i in
    let parts = has.parts in
    let below = h.below in
    subst Keeps (sym h.is) (script_counts d h.part (omega (arith, parts, below)) k.0, tt)
head_keeps (heads.Command v) d ws e i k h =
    let j = subst (λ (x : Section). IsSoundIn x d) h.here i in
    let parts = j.1.parts in
    let own = j.2.own in
    subst Keeps (sym h.is)
    (command_counts d h.value (omega (arith, parts, own)) j.2.begun (command_kept d v ws h.value h.fits) k.0, blank_in sections.Scripts (with_command h.value d) (stays h.value d ∙ h.here) tt)
head_keeps heads.Schedule d ws e i k h = subst Keeps (sym h.1) (same_counts d _ refl refl refl k.0, tt)
head_keeps (heads.Plan w) d ws e i k h = subst Keeps (sym h.is) (same_counts d _ refl refl refl k.0, blank_in sections.Schedule _ h.here tt)

words_keep : (ws : List Word) (d e : Draft) → IsSound d → Keeps d → LineStep d ws e → Keeps e
words_keep [] d e i k h = subst Keeps (sym h) k
words_keep (w ∷ ws) d e i k (inl (q, is_xpsim, is)) = subst Keeps (sym is) (same_counts d _ refl refl refl k.0, subst (λ (x : Section). Blank x d) q k.1)
words_keep (w ∷ ws) d e i k (inr (head, f, h)) = head_keeps head d ws e i k h

lines_keep : (lines : List (List ℕ)) (d e : Draft) → IsSound d → Keeps d → Lead lines d e → Keeps e
lines_keep [] d e i k h = subst Keeps h k
lines_keep (bytes ∷ lines) d e i k (m, r, h) = lines_keep lines m e (sound_step d m bytes i r) (words_keep (line_of bytes).words d m i k (line_step d m bytes r)) h

pub counts : (lines : List (List ℕ)) (d : Draft) → Lead lines fresh d → Counts d
counts lines d h = (lines_keep lines fresh d sound_first (record { commands = refl; bytes = refl }, refl) h).0

-- ---- counters and lines

-- the verb of a line, by its head
abbrev verb_of_head : Head → Option Verb
verb_of_head (heads.Command v) = Some v
verb_of_head _ = None

head_verb : (w : List ℕ) (head : Head) → head_in w ≡ Some head → verb_in w ≡ verb_of_head head
unfolding head_in
head_verb w head h = by_verb (verb_in w) h
  where
    same : (x : Head) → Some x ≡ Some head → x ≡ head
    same x e = cc

    by_section : (a b c d : Bool) → cond a (Some heads.Xpsim) (cond b (Some heads.Partitions) (cond c (Some heads.Script) (cond d (Some heads.Schedule) None))) ≡ Some head → None ≡ verb_of_head head
    by_section true b c d t = ap verb_of_head (same heads.Xpsim t)
    by_section false true c d t = ap verb_of_head (same heads.Partitions t)
    by_section false false true d t = ap verb_of_head (same heads.Script t)
    by_section false false false true t = ap verb_of_head (same heads.Schedule t)
    by_section false false false false t = absurd cc

    by_plan : (o : Option PlanWord) → or_else o heads.Plan (section_word_in w) ≡ Some head → None ≡ verb_of_head head
    by_plan (Some p) t = ap verb_of_head (same (heads.Plan p) t)
    by_plan None t = by_section (bytes_eq w (codes "xpsim")) (bytes_eq w (codes "partitions")) (bytes_eq w (codes "script")) (bytes_eq w (codes "schedule")) t

    by_setting : (o : Option SettingWord) → or_else o heads.Setting (or_else (plan_word_in w) heads.Plan (section_word_in w)) ≡ Some head → None ≡ verb_of_head head
    by_setting (Some x) t = ap verb_of_head (same (heads.Setting x) t)
    by_setting None t = by_plan (plan_word_in w) t

    by_verb : (o : Option Verb) → or_else o heads.Command (or_else (setting_word_in w) heads.Setting (or_else (plan_word_in w) heads.Plan (section_word_in w))) ≡ Some head → o ≡ verb_of_head head
    by_verb (Some v) t = ap verb_of_head (same (heads.Command v) t)
    by_verb None t = by_setting (setting_word_in w) t

xpsim_verb : verb_in (codes "xpsim") ≡ None
unfolding verb_in end_verb_in
xpsim_verb = refl

-- a payload that is kept is what its word spells
sized_spelled : (least most : ℕ) (o : Option (List ℕ)) (bs : List ℕ) → sized true least (at_most most o) ≡ Ok bs → length bs ≡ length (unwrap_or o [])
sized_spelled least most None bs h = absurd cc
sized_spelled least most (Some x) bs h = go (leb (length x) most) h
  where
    by_least : (c : Bool) (cause : LineCause) → cond c (Ok x) (Err cause) ≡ Ok bs → length bs ≡ length x
    by_least true cause t = let same : x ≡ bs = cc in ap length (sym same)
    by_least false cause t = absurd cc

    go : (c : Bool) → sized true least (cond c (Some x) None) ≡ Ok bs → length bs ≡ length x
    go true t = by_least (leb least (length x)) _ t
    go false t = absurd cc

-- the optional words of a send don't change its bytes
send_flags : (q c : ℕ) (bs : List ℕ) → SaysOnly None (λ x. command_bytes x ≡ length bs) (flags_form q c bs)
send_flags q c bs = ((refl, refl), (refl, refl))

none_sent : (own : Owner) (v : Verb) (ws : List Word) (c : Command) → SaysOnly None (λ x. command_bytes x ≡ 0) (command_form own v) → Fits (command_form own v) ws c → command_bytes c ≡ 0
none_sent own v ws c only h = fits_only (λ x. command_bytes x ≡ 0) (command_form own v) ws c only h

abbrev keeping : ℕ → ℕ → ℕ → Owner
keeping count part minor = record { count = count; part = part; minor = minor; keeps = true }

sent_is : (count part minor : ℕ) (v : Verb) (ws : List Word) (c : Command) → Fits (command_form (keeping count part minor) v) ws c → command_bytes c ≡ sent v ws
sent_is count part minor verbs.Send [] c h = absurd h
sent_is count part minor verbs.Send (a ∷ []) c h = absurd h.3
sent_is count part minor verbs.Send (a ∷ b ∷ []) c h = absurd h.3.3
sent_is count part minor verbs.Send (a ∷ b ∷ w ∷ ws) c (p, q, e, (r, x, f, (s, bs, g, t))) =
    fits_only (λ y. command_bytes y ≡ length bs) (flags_form q x bs) ws c (send_flags q x bs) t ∙ sized_spelled 0 SEND_BYTES (payload_of w.bytes) bs g
sent_is count part minor verbs.Net [] c h = absurd h
sent_is count part minor verbs.Net (w ∷ ws) c (s, bs, g, t) =
    fits_only (λ y. command_bytes y ≡ length bs) (ends (commands.Net bs)) ws c refl t ∙ sized_spelled HEADER_BYTES FRAME_BYTES (payload_of w.bytes) bs g
sent_is count part minor verbs.Register ws c h = none_sent (keeping count part minor) verbs.Register ws c (λ q hq _. λ c hc _. ((λ n hn _. ((λ l hl _. refl), tt)), tt)) h
sent_is count part minor verbs.Unregister ws c h = none_sent (keeping count part minor) verbs.Unregister ws c (λ q hq _. λ c hc _. refl) h
sent_is count part minor verbs.Connected ws c h = none_sent (keeping count part minor) verbs.Connected ws c (λ q hq _. λ c hc _. refl) h
sent_is count part minor verbs.Closed ws c h = none_sent (keeping count part minor) verbs.Closed ws c (λ q hq _. λ c hc _. refl) h
sent_is count part minor verbs.Drain ws c h = none_sent (keeping count part minor) verbs.Drain ws c (λ q hq _. λ c hc _. refl) h
sent_is count part minor verbs.Take ws c h = none_sent (keeping count part minor) verbs.Take ws c (λ q hq _. λ c hc _. (refl, refl)) h
sent_is count part minor verbs.Release ws c h = none_sent (keeping count part minor) verbs.Release ws c (λ q hq _. λ c hc _. λ n hn _. refl) h
sent_is count part minor verbs.Frames ws c h = none_sent (keeping count part minor) verbs.Frames ws c (λ n hn _. refl) h
sent_is count part minor verbs.Deactivate ws c h = none_sent (keeping count part minor) verbs.Deactivate ws c (λ q hq _. refl) h
sent_is count part minor verbs.Activate ws c h = none_sent (keeping count part minor) verbs.Activate ws c (λ q hq _. refl) h
sent_is count part minor verbs.Leave ws c h = none_sent (keeping count part minor) verbs.Leave ws c refl h
sent_is count part minor verbs.Idle ws c h = none_sent (keeping count part minor) verbs.Idle ws c (λ n hn _. refl) h
sent_is count part minor verbs.Offline ws c h = none_sent (keeping count part minor) verbs.Offline ws c refl h
sent_is count part minor verbs.Online ws c h = none_sent (keeping count part minor) verbs.Online ws c refl h

-- what lines with so many commands and bytes add to the counters
record Adds (d e : Draft) (commands bytes : ℕ) : Type 0 where
  commands_are : e.commands ≡ min (d.commands + commands) (COMMAND_LIMIT + 1)
  bytes_are : d.commands + commands ≤ COMMAND_LIMIT → e.payload_bytes ≡ min (d.payload_bytes + bytes) (PAYLOAD_BYTES_LIMIT + 1)

abbrev IsCapped : Draft → Type 0
IsCapped d = (d.commands ≤ COMMAND_LIMIT + 1) × (d.payload_bytes ≤ PAYLOAD_BYTES_LIMIT + 1)

adds_none : (d e : Draft) → IsCapped d → e.commands ≡ d.commands → e.payload_bytes ≡ d.payload_bytes → Adds d e 0 0
adds_none d e low n k =
    let a = low.0 in
    let b = low.1 in
    record { commands_are = omega (arith, a, n); bytes_are = λ few. omega (arith, b, k) }

adds_command : (d : Draft) (v : Verb) (ws : List Word) (c : Command) → IsCapped d → Fits (command_form (owner_of d) v) ws c → Adds d (with_command c d) 1 (sent v ws)
adds_command d v ws c low h = go (ltb COMMAND_LIMIT d.commands) refl (bytes (leb d.payload_bytes PAYLOAD_BYTES_LIMIT) refl h)
  where
    bytes : (keeps : Bool) → leb d.payload_bytes PAYLOAD_BYTES_LIMIT ≡ keeps → Fits (command_form (record { count = d.count; part = d.own; minor = (owner_of d).minor; keeps = keeps }) v) ws c → min (d.payload_bytes + command_bytes c) (PAYLOAD_BYTES_LIMIT + 1) ≡ min (d.payload_bytes + sent v ws) (PAYLOAD_BYTES_LIMIT + 1)
    bytes true e t = ap (λ (n : ℕ). min (d.payload_bytes + n) (PAYLOAD_BYTES_LIMIT + 1)) (sent_is d.count d.own (owner_of d).minor v ws c t)
    bytes false e t = let past = leb-false d.payload_bytes PAYLOAD_BYTES_LIMIT e in let b = low.1 in omega (arith, past, b)

    go : (b : Bool) → ltb COMMAND_LIMIT d.commands ≡ b → min (d.payload_bytes + command_bytes c) (PAYLOAD_BYTES_LIMIT + 1) ≡ min (d.payload_bytes + sent v ws) (PAYLOAD_BYTES_LIMIT + 1) → Adds d (cond b d (record d { scripts = command_added d.own c d.scripts; commands = d.commands + 1; payload_bytes = min (d.payload_bytes + command_bytes c) (PAYLOAD_BYTES_LIMIT + 1) })) 1 (sent v ws)
    go true e same =
        let past = ltb-true COMMAND_LIMIT d.commands e in
        let a = low.0 in
        record { commands_are = omega (arith, past, a); bytes_are = λ few. absurd (omega (arith, past, few)) }
    go false e same =
        let within = ltb-false COMMAND_LIMIT d.commands e in
        record { commands_are = omega (arith, within); bytes_are = λ few. same }

abbrev head_commands : Head → ℕ
head_commands head = one_if_some (verb_of_head head)

head_adds : (head : Head) (d : Draft) (ws : List Word) (e : Draft) → IsCapped d → HeadStep head d ws e → Adds d e (head_commands head) (sent_by (verb_of_head head) ws)
head_adds heads.Xpsim d ws e low h = absurd h
head_adds heads.Partitions d ws e low h = adds_none d e low (ap (λ (x : Draft). x.commands) h.2) (ap (λ (x : Draft). x.payload_bytes) h.2)
head_adds (heads.Setting w) d ws e low h = adds_none d e low (ap (λ (x : Draft). x.commands) h.is) (ap (λ (x : Draft). x.payload_bytes) h.is)
head_adds heads.Script d ws e low h = adds_none d e low (ap (λ (x : Draft). x.commands) h.is) (ap (λ (x : Draft). x.payload_bytes) h.is)
head_adds (heads.Command v) d ws e low h = subst (λ (x : Draft). Adds d x 1 (sent v ws)) (sym h.is) (adds_command d v ws h.value low h.fits)
head_adds heads.Schedule d ws e low h = adds_none d e low (ap (λ (x : Draft). x.commands) h.1) (ap (λ (x : Draft). x.payload_bytes) h.1)
head_adds (heads.Plan w) d ws e low h = adds_none d e low (ap (λ (x : Draft). x.commands) h.is) (ap (λ (x : Draft). x.payload_bytes) h.is)

words_add : (ws : List Word) (d e : Draft) → IsCapped d → LineStep d ws e → Adds d e (words_commands ws) (words_bytes ws)
words_add [] d e low h = adds_none d e low (ap (λ (x : Draft). x.commands) h) (ap (λ (x : Draft). x.payload_bytes) h)
words_add (w ∷ ws) d e low (inl (q, is_xpsim, is)) =
    subst (λ (o : Option Verb). Adds d e (one_if_some o) (sent_by o ws)) (sym (ap verb_in is_xpsim ∙ xpsim_verb))
    (adds_none d e low (ap (λ (x : Draft). x.commands) is) (ap (λ (x : Draft). x.payload_bytes) is))
words_add (w ∷ ws) d e low (inr (head, f, h)) =
    subst (λ (o : Option Verb). Adds d e (one_if_some o) (sent_by o ws)) (sym (head_verb w.bytes head f)) (head_adds head d ws e low h)

adds_then : (d m e : Draft) (n k i j : ℕ) → Adds d m n k → Adds m e i j → Adds d e (n + i) (k + j)
adds_then d m e n k i j a b =
    let c = a.commands_are in
    let f = b.commands_are in
    record {
      commands_are = omega (arith, c, f);
      bytes_are = λ few. let g = a.bytes_are (omega (arith, few)) in let h = b.bytes_are (omega (arith, few, c)) in omega (arith, g, h);
    }

still_capped : (d e : Draft) (n k : ℕ) → Counts e → Adds d e n k → IsCapped e
still_capped d e n k h a = let c = a.commands_are in let b = h.bytes in (omega (arith, c), omega (arith, b))

lines_add : (lines : List (List ℕ)) (d e : Draft) → IsSound d → Keeps d → IsCapped d → Lead lines d e → Adds d e (commands_in lines) (bytes_in lines)
lines_add [] d e i k low h = adds_none d e low (ap (λ (x : Draft). x.commands) (sym h)) (ap (λ (x : Draft). x.payload_bytes) (sym h))
lines_add (bytes ∷ lines) d e i k low (m, r, h) =
    let step = line_step d m bytes r in
    let a = words_add (line_of bytes).words d m low step in
    let next = words_keep (line_of bytes).words d m i k step in
    let b = lines_add lines m e (sound_step d m bytes i r) next (still_capped d m (line_commands bytes) (line_bytes bytes) next.0 a) h in
    let c = adds_then d m e (line_commands bytes) (line_bytes bytes) (commands_in lines) (bytes_in lines) a b in
    subst (λ (n : ℕ). Adds d e n (bytes_in (bytes ∷ lines))) (sym (sum_by-cons line_commands bytes lines))
    (subst (λ (n : ℕ). Adds d e (line_commands bytes + commands_in lines) n) (sym (sum_by-cons line_bytes bytes lines)) c)

all_add : (lines : List (List ℕ)) (d : Draft) → Lead lines fresh d → Adds fresh d (commands_in lines) (bytes_in lines)
all_add lines d h = lines_add lines fresh d sound_first (record { commands = refl; bytes = refl }, refl) (omega arith, omega arith) h

pub commands_told : (lines : List (List ℕ)) (d : Draft) → Lead lines fresh d → command_count d.scripts ≡ min (commands_in lines) (COMMAND_LIMIT + 1)
commands_told lines d h = let a = (all_add lines d h).commands_are in let c = (counts lines d h).commands in omega (arith, a, c)

pub bytes_told : (lines : List (List ℕ)) (d : Draft) → Lead lines fresh d → commands_in lines ≤ COMMAND_LIMIT → min (payload_bytes d.scripts) (PAYLOAD_BYTES_LIMIT + 1) ≡ min (bytes_in lines) (PAYLOAD_BYTES_LIMIT + 1)
bytes_told lines d h few = let a = (all_add lines d h).bytes_are (omega (arith, few)) in let c = (counts lines d h).bytes in omega (arith, a, c)
