-- What the parser of command lines makes of words that aren't flags.
use Rattle.std.proofs.Common.{◌≡◌, ◌&&◌, ◌||◌, ℕ, Bool, true, false, cond, List, [], ◌∷◌, ◌++◌, length, Option, Some, None, is_some, refl, ap, sym, ◌∙◌, subst, codes, map, option_map, if◌then◌else◌, option_and_then, ◌≢◌, inl, inr, ◌+◌, ◌<◌, ◌≤◌, drop, slice_index_or, string_bytes, append-nil, append_assoc, ap₂, Box}
use Rattle.std.specs.Prelude.{fold, nat_le}
use Rattle.std.specs.Box.{box_value}
use Rattle.std.specs.List.{list_any}
use Rattle.std.specs.Option.{option_map_or}
use Rattle.std.specs.Str.{bytes_eq}
use Rattle.std.proofs.lemmas.List.{at_drop_more, at_drop_all}
use Rattle.std.specs.declared.string.String.{String}
use Rattle.std.specs.declared.alloc.Global.{Global}
use Rattle.std.specs.Cmp.Lexicographic.{bytes_decides}
use Rattle.clap.specs.Walk.{Text, Names, Held, Walk, Rule, Row, Step, idle, value, trailing, walk, walked, walked_from, walk_from, after_step, nothing_held, arg_by_index, subcommand_met, subcommand_or_other, long_or_other, short_or_plain, settled, finished, rows_after, rows_of, first_of}
use Rattle.clap.specs.Lexer.{long_of, short_of, long_of_rest, short_of_rest, strip_byte}
use Rattle.clap.specs.Kinds.{HasKind, Kinds, IsAmong, or_else}
use Rattle.clap.specs.Values.{kind_of}
use Rattle.clap.specs.Matches.{found_of, first_value, subcommand_name_of}
use Rattle.clap.specs.Simple.{HasMatchesOf, subcommand_rows, subcommand_rows_of, App, Shape, new_shape, built_leaf, inherited, built, is_simple, names_of, subcommand_of, entered}
use Rattle.clap.specs.Faults.{fault_of, is_simple_and_free, walk_fault, turn_fault, other_fault, step_fault, stray_fault, flag_word_fault, bundle_fault, positional_fault, level_fault, entered_fault, settle_fault, defaults_fault, check_fault}
use Rattle.clap.specs.declared.error.Error.{Error}
use Rattle.clap.specs.declared.parser.matches.ArgMatches.{ArgMatches}
use Rattle.clap.specs.declared.parser.matches.ArgMatches.TheViews.{out-ArgMatches, out-SubCommand}
use Rattle.clap.specs.declared.parser.matches.SubCommand.{SubCommand}
use Rattle.clap.specs.declared.error.kind.ErrorKind.{ErrorKind}
use Rattle.clap.specs.declared.error.kind.ErrorKind.TheVariants as kind
use Rattle.clap.proofs.OnLiterals.{clap_on_literals}
use Rattle.clap.proofs.WalkLemmas.{first_value-rows}
use Rattle.xp_text.specs.Numbers.{digits_of}
use Rattle.xp_tool.specs.declared.command.ToolCommand.TheVariants.{Replay, Run, Dump, Decode, Gen, Big}
use Rattle.xp_tool.specs.declared.words.TheConstants.{NUMBER_DIGITS}
use Rattle.xp_tool.specs.Words.{named_of, numbered_of, number_of, number_id, numbered_app, command_met, spelled_by, command_in, grammar_app, is_flag}

pub is_free : is_simple_and_free grammar_app ≡ true
unfolding clap_on_literals
is_free = refl

pub simple : is_simple grammar_app ≡ true
unfolding clap_on_literals
simple = refl

-- the program as it is built, and its names of commands
abbrev whole : App
whole = built grammar_app

abbrev names : Names
names = names_of whole

abbrev replay : Text
replay = codes "replay"

abbrev run : Text
run = codes "run"

abbrev dump : Text
dump = codes "dump"

abbrev decode : Text
decode = codes "decode"

abbrev gen : Text
gen = codes "gen"

abbrev big : Text
big = codes "big"

-- a command that is a name alone, and one with a number, as they are built
abbrev leaf : Text → Shape
leaf name = built_leaf (inherited whole.top (new_shape name))

abbrev numbered_leaf : Text → Shape
numbered_leaf name = built_leaf (inherited whole.top (numbered_app name).top)

-- the word names no command
record IsUnknown (w : Text) : Type 0 where
  no_replay : bytes_eq replay w ≡ false
  no_run : bytes_eq run w ≡ false
  no_dump : bytes_eq dump w ≡ false
  no_decode : bytes_eq decode w ≡ false
  no_gen : bytes_eq gen w ≡ false
  no_big : bytes_eq big w ≡ false

-- which command a word names
data Which (w : Text) : Type 0 where
  is_replay : replay ≡ w → Which w
  is_run : run ≡ w → Which w
  is_dump : dump ≡ w → Which w
  is_decode : decode ≡ w → Which w
  is_gen : gen ≡ w → Which w
  is_big : big ≡ w → Which w
  unknown : IsUnknown w → Which w

same_text : (name w : Text) → bytes_eq name w ≡ true → name ≡ w
same_text name w e = (bytes_decides name w).0 e

which : (w : Text) → Which w
which w = by (bytes_eq replay w) (bytes_eq run w) (bytes_eq dump w) (bytes_eq decode w) (bytes_eq gen w) (bytes_eq big w) refl refl refl refl refl refl where
  by : (a z b c d e : Bool) → bytes_eq replay w ≡ a → bytes_eq run w ≡ z → bytes_eq dump w ≡ b → bytes_eq decode w ≡ c → bytes_eq gen w ≡ d → bytes_eq big w ≡ e → Which w
  by true z b c d e p o q r s t = is_replay (same_text replay w p)
  by false true b c d e p o q r s t = is_run (same_text run w o)
  by false false true c d e p o q r s t = is_dump (same_text dump w q)
  by false false false true d e p o q r s t = is_decode (same_text decode w r)
  by false false false false true e p o q r s t = is_gen (same_text gen w s)
  by false false false false false true p o q r s t = is_big (same_text big w t)
  by false false false false false false p o q r s t = unknown (record { no_replay = p; no_run = o; no_dump = q; no_decode = r; no_gen = s; no_big = t })

front : (a b : Kinds) → or_else a b ≡ [] → a ≡ []
front [] b e = refl
front (k ∷ ks) b e = absurd (cc)

back : (a b : Kinds) → or_else a b ≡ [] → b ≡ []
back [] b e = e
back (k ∷ ks) b e = absurd (cc)

-- a word that isn't a flag

not_dashes : (w : Text) → is_flag w ≡ false → bytes_eq w (45 ∷ 45 ∷ []) ≡ false
not_dashes [] e = refl
not_dashes (b ∷ bs) e = let P : Bool → Type 0 = λ t. (t && bytes_eq bs (45 ∷ [])) ≡ false in subst P (sym e) refl

not_long : (w : Text) → is_flag w ≡ false → long_of w ≡ None
not_long [] e = refl
not_long (b ∷ bs) e =
    let P : Bool → Type 0 = λ t. option_and_then long_of_rest (option_and_then (strip_byte 45) (if t then Some bs else None)) ≡ None in
    subst P (sym e) refl

not_short : (w : Text) → is_flag w ≡ false → short_of w ≡ None
not_short [] e = refl
not_short (b ∷ bs) e =
    let P : Bool → Type 0 = λ t. option_and_then short_of_rest (if t then Some bs else None) ≡ None in
    subst P (sym e) refl

-- such a word at this position, where no subcommand answers to it: what it is, and its faults

abbrev met_by : List Rule → ℕ → Held → Bool → Option (Text × Option Text) → Text → Held × Step
met_by c i h dashes long w = if dashes then (h, trailing i) else long_or_other c idle w long h

plain_met : (c : List Rule) (i : ℕ) (h : Held) (w : Text) → is_flag w ≡ false → subcommand_or_other c None idle i w h ≡ (h, value)
plain_met c i h w f =
    ap (λ (d : Bool). met_by c i h d (long_of w) w) (not_dashes w f)
    ∙ ap (λ (l : Option (Text × Option Text)). met_by c i h false l w) (not_long w f)
    ∙ ap (λ (t : Option Text). short_or_plain c idle w t h) (not_short w f)

abbrev turn_of : Shape → Option Text → ℕ → Held → Text → Kinds
turn_of s met i h w =
    let m = subcommand_or_other s.rules met idle i w h in
    or_else (other_fault s met w h) (step_fault s i m.0 m.1)

abbrev turn_by : Shape → ℕ → Held → Bool → Option (Text × Option Text) → Text → Kinds
turn_by s i h dashes long w =
    let m = met_by s.rules i h dashes long w in
    or_else (if dashes then [] else flag_word_fault s.rules s.args_override_self long w h) (step_fault s i m.0 m.1)

abbrev turn_without_long : Shape → ℕ → Held → Option Text → Text → Kinds
turn_without_long s i h short w =
    let m = short_or_plain s.rules idle w short h in
    or_else (option_map_or (λ flags. bundle_fault s.rules s.args_override_self flags h) short []) (step_fault s i m.0 m.1)

plain_turn : (s : Shape) (i : ℕ) (h : Held) (w : Text) → is_flag w ≡ false → turn_of s None i h w ≡ step_fault s i h value
plain_turn s i h w f =
    ap (λ (d : Bool). turn_by s i h d (long_of w) w) (not_dashes w f)
    ∙ ap (λ (l : Option (Text × Option Text)). turn_by s i h false l w) (not_long w f)
    ∙ ap (λ (t : Option Text). turn_without_long s i h t w) (not_short w f)

abbrev stray_kinds : Bool → Kinds
stray_kinds leaf = if leaf then kind.UnknownArgument ∷ [] else kind.UnknownArgument ∷ kind.InvalidSubcommand ∷ []

some_stray : (leaf : Bool) → stray_kinds leaf ≡ [] → ⊥
some_stray true e = cc
some_stray false e = cc

-- a word that no positional takes fails
stray : (s : Shape) (i : ℕ) (h : Held) (w : Text) → arg_by_index s.rules i ≡ None → is_flag w ≡ false → turn_of s None i h w ≡ [] → ⊥
stray s i h w n f e =
    let P : Option Rule → Type 0 = λ o. option_map_or (λ a. positional_fault s.rules s.args_override_self a h) o (stray_fault s) ≡ [] in
    some_stray s.is_leaf (subst P n (sym (plain_turn s i h w f) ∙ e))

-- a first word that names no command

unmet : (w : Text) → IsUnknown w → subcommand_met names idle w ≡ None
unmet w u =
    let found : Bool → Bool → Bool → Bool → Bool → Bool → Option Text = λ a z b c d e. option_map (λ (s : Text × List Text). s.0) (cond (a || false) (Some (replay, [])) (cond (z || false) (Some (run, [])) (cond (b || false) (Some (dump, [])) (cond (c || false) (Some (decode, [])) (cond (d || false) (Some (gen, [])) (cond (e || false) (Some (big, [])) None)))))) in
    let A : Bool → Type 0 = λ a. found a (bytes_eq run w) (bytes_eq dump w) (bytes_eq decode w) (bytes_eq gen w) (bytes_eq big w) ≡ None in
    let Z : Bool → Type 0 = λ z. found false z (bytes_eq dump w) (bytes_eq decode w) (bytes_eq gen w) (bytes_eq big w) ≡ None in
    let B : Bool → Type 0 = λ b. found false false b (bytes_eq decode w) (bytes_eq gen w) (bytes_eq big w) ≡ None in
    let C : Bool → Type 0 = λ c. found false false false c (bytes_eq gen w) (bytes_eq big w) ≡ None in
    let D : Bool → Type 0 = λ d. found false false false false d (bytes_eq big w) ≡ None in
    let E : Bool → Type 0 = λ e. found false false false false false e ≡ None in
    subst A (sym u.no_replay) (subst Z (sym u.no_run) (subst B (sym u.no_dump) (subst C (sym u.no_decode) (subst D (sym u.no_gen) (subst E (sym u.no_big) refl)))))

unnamed : (w : Text) → IsUnknown w → named_of w ≡ None
unnamed w u =
    let P : Bool → Type 0 = λ a. (if a then Some Replay else (if bytes_eq run w then Some Run else (if bytes_eq dump w then Some Dump else (if bytes_eq decode w then Some Decode else None)))) ≡ None in
    let O : Bool → Type 0 = λ z. (if z then Some Run else (if bytes_eq dump w then Some Dump else (if bytes_eq decode w then Some Decode else None))) ≡ None in
    let Q : Bool → Type 0 = λ b. (if b then Some Dump else (if bytes_eq decode w then Some Decode else None)) ≡ None in
    let R : Bool → Type 0 = λ c. (if c then Some Decode else None) ≡ None in
    subst P (sym u.no_replay) (subst O (sym u.no_run) (subst Q (sym u.no_dump) (subst R (sym u.no_decode) refl)))

-- no number makes a command of such a name
abbrev IsUnnumbered : Text → Type 0
IsUnnumbered name = (n : ℕ) → numbered_of name n ≡ None

unnumbered : (w : Text) → IsUnknown w → IsUnnumbered w
unnumbered w u n =
    let P : Bool → Type 0 = λ a. (if a then Some (Gen n) else (if bytes_eq big w then Some (Big n) else None)) ≡ None in
    let Q : Bool → Type 0 = λ b. (if b then Some (Big n) else None) ≡ None in
    subst P (sym u.no_gen) (subst Q (sym u.no_big) refl)

no_command : (name x : Text) → IsUnnumbered name → command_met name (Some x) ≡ None
no_command name x none = by (number_of x) where
  by : (o : Option ℕ) → option_and_then (numbered_of name) o ≡ None
  by None = refl
  by (Some n) = none n

unknown_turn : (w : Text) → is_flag w ≡ false → IsUnknown w → turn_fault whole.top names (walk_from nothing_held) w ≡ [] → ⊥
unknown_turn w f u e =
    let P : Option Text → Type 0 = λ met. turn_of whole.top met 1 nothing_held w ≡ [] in
    stray whole.top 1 nothing_held w refl f (subst P (unmet w u) e)

-- what follows the walk over the words
abbrev after_walk : List Text → Kinds
after_walk words =
    let end = walk whole.top.rules names nothing_held words in
    or_else (entered_fault whole end.stopped)
    (or_else (settle_fault whole.top.rules whole.top.args_override_self end.held)
    (or_else (defaults_fault (settled whole.top.rules end.held).rows whole.top.rules)
    (check_fault whole.top (finished whole.top.rules end.held) (is_some (entered whole end.stopped)))))

abbrev over_walk : List Text → Kinds
over_walk words = walk_fault whole.top names (walk_from nothing_held) words

of_unknown : (w : Text) (rest : List Text) → is_flag w ≡ false → IsUnknown w → fault_of grammar_app (w ∷ rest) ≡ [] → ⊥
unfolding clap_on_literals
of_unknown w rest f u e =
    let words = w ∷ rest in
    let first = front (over_walk words) (after_walk words) e in
    let turn = turn_fault whole.top names (walk_from nothing_held) w in
    let others = walk_fault whole.top names (walked whole.top.rules names (walk_from nothing_held) w) rest in
    unknown_turn w f u (front turn others first)

-- a first word that names a command, and the words behind it

-- behind the command's word the walk only keeps the words
keeps : (rules : List Rule) (others : Names) (w : Walk) (name : Text) (some rest : List Text) → w.stopped ≡ Some (name, some) → (fold (walked rules others) w rest).stopped ≡ Some (name, some ++ rest)
unfolding clap_on_literals
keeps rules others w name some [] e = e ∙ ap (λ (ws : List Text). Some (name, ws)) (sym (append-nil some))
keeps rules others w name some (x ∷ rest) e =
    let P : Option (Text × List Text) → Type 0 = λ o. (walked_from rules others o w x).stopped ≡ Some (name, some ++ x ∷ []) in
    keeps rules others (walked rules others w x) name (some ++ x ∷ []) rest (subst P (sym e) refl)
    ∙ ap (λ (ws : List Text). Some (name, ws)) (append_assoc some (x ∷ []) rest)

-- the command of the name was entered with these words, and they have no fault
abbrev IsEntered : Text → List Text → Type 0
IsEntered name words = entered_fault whole (Some (name, words)) ≡ []

-- the walk meets the command of the name
abbrev IsMet : Text → Type 0
IsMet name = (walked whole.top.rules names (walk_from nothing_held) name).stopped ≡ Some (name, [])

of_entered : (name : Text) (rest : List Text) → IsMet name → (IsEntered name rest → ⊥) → fault_of grammar_app (name ∷ rest) ≡ [] → ⊥
unfolding clap_on_literals
of_entered name rest met wrong e =
    let words = name ∷ rest in
    let kept = keeps whole.top.rules names (walked whole.top.rules names (walk_from nothing_held) name) name [] rest met in
    let first = front (entered_fault whole (walk whole.top.rules names nothing_held words).stopped) _ (back (over_walk words) (after_walk words) e) in
    let P : Option (Text × List Text) → Type 0 = λ o. entered_fault whole o ≡ [] in
    wrong (subst P kept first)

-- a command that is a name alone takes no words

over_leaf : (name x : Text) (more : List Text) → is_flag x ≡ false → walk_fault (leaf name) [] (walk_from nothing_held) (x ∷ more) ≡ [] → ⊥
unfolding clap_on_literals
over_leaf name x more f first =
    let turn = turn_fault (leaf name) [] (walk_from nothing_held) x in
    let others = walk_fault (leaf name) [] (walked (leaf name).rules [] (walk_from nothing_held) x) more in
    stray (leaf name) 1 nothing_held x refl f (front turn others first)

wrong_replay : (x : Text) (more : List Text) → is_flag x ≡ false → fault_of grammar_app (replay ∷ x ∷ more) ≡ [] → ⊥
unfolding clap_on_literals
wrong_replay x more f = of_entered replay (x ∷ more) refl (λ e. over_leaf replay x more f (front (walk_fault (leaf replay) [] (walk_from nothing_held) (x ∷ more)) _ e))

wrong_run : (x : Text) (more : List Text) → is_flag x ≡ false → fault_of grammar_app (run ∷ x ∷ more) ≡ [] → ⊥
unfolding clap_on_literals
wrong_run x more f = of_entered run (x ∷ more) refl (λ e. over_leaf run x more f (front (walk_fault (leaf run) [] (walk_from nothing_held) (x ∷ more)) _ e))

wrong_dump : (x : Text) (more : List Text) → is_flag x ≡ false → fault_of grammar_app (dump ∷ x ∷ more) ≡ [] → ⊥
unfolding clap_on_literals
wrong_dump x more f = of_entered dump (x ∷ more) refl (λ e. over_leaf dump x more f (front (walk_fault (leaf dump) [] (walk_from nothing_held) (x ∷ more)) _ e))

wrong_decode : (x : Text) (more : List Text) → is_flag x ≡ false → fault_of grammar_app (decode ∷ x ∷ more) ≡ [] → ⊥
unfolding clap_on_literals
wrong_decode x more f = of_entered decode (x ∷ more) refl (λ e. over_leaf decode x more f (front (walk_fault (leaf decode) [] (walk_from nothing_held) (x ∷ more)) _ e))

-- a command with a number takes one word

-- where the walk stands behind it
abbrev after_number : Text → Walk
after_number x = record {
  held = record { rows = []; pending = Some (number_id, x ∷ []); skip = 0 };
  waiting = idle;
  position = 2;
  is_trailing = false;
  stopped = None;
}

walks_number : (name x : Text) → is_flag x ≡ false → walked (numbered_leaf name).rules [] (walk_from nothing_held) x ≡ after_number x
unfolding clap_on_literals
walks_number name x f =
    let rules = (numbered_leaf name).rules in
    ap (λ (m : Held × Step). after_step rules x (walk_from nothing_held) m.0 m.1) (plain_met rules 1 nothing_held x f)

-- what is found for it
abbrev number_rows : Text → List Row
number_rows x = finished (numbered_leaf gen).rules (after_number x).held

finds_number : (name x : Text) → is_flag x ≡ false → rows_after (numbered_leaf name).rules [] (x ∷ []) ≡ number_rows x
unfolding clap_on_literals
finds_number name x f = ap (λ (w : Walk). finished (numbered_leaf name).rules w.held) (walks_number name x f)

-- the faults of its level, by those of the word and by where the walk stands behind it
abbrev level_by : Shape → Kinds → Walk → Kinds
level_by s turn w =
    or_else (or_else turn [])
    (or_else (settle_fault s.rules s.args_override_self w.held)
    (or_else (defaults_fault (settled s.rules w.held).rows s.rules)
    (check_fault s (finished s.rules w.held) false)))

number_fits : (name x : Text) → is_flag x ≡ false → level_fault (numbered_leaf name) [] nothing_held (x ∷ []) false [] ≡ []
unfolding clap_on_literals
number_fits name x f =
    let s = numbered_leaf name in
    ap (λ (turn : Kinds). level_by s turn (walked s.rules [] (walk_from nothing_held) x)) (plain_turn s 1 nothing_held x f)
    ∙ ap (λ (w : Walk). level_by s [] w) (walks_number name x f)

over_number : (name x y : Text) (more : List Text) → is_flag x ≡ false → is_flag y ≡ false → walk_fault (numbered_leaf name) [] (walk_from nothing_held) (x ∷ y ∷ more) ≡ [] → ⊥
unfolding clap_on_literals
over_number name x y more f g e =
    let s = numbered_leaf name in
    let P : Walk → Type 0 = λ w. walk_fault s [] w (y ∷ more) ≡ [] in
    let later = subst P (walks_number name x f) (back (turn_fault s [] (walk_from nothing_held) x) (walk_fault s [] (walked s.rules [] (walk_from nothing_held) x) (y ∷ more)) e) in
    let turn = turn_fault s [] (after_number x) y in
    let others = walk_fault s [] (walked s.rules [] (after_number x) y) more in
    stray s 2 (after_number x).held y refl g (front turn others later)

wrong_gen : (x y : Text) (more : List Text) → is_flag x ≡ false → is_flag y ≡ false → fault_of grammar_app (gen ∷ x ∷ y ∷ more) ≡ [] → ⊥
unfolding clap_on_literals
wrong_gen x y more f g = of_entered gen (x ∷ y ∷ more) refl (λ e. over_number gen x y more f g (front (walk_fault (numbered_leaf gen) [] (walk_from nothing_held) (x ∷ y ∷ more)) _ e))

wrong_big : (x y : Text) (more : List Text) → is_flag x ≡ false → is_flag y ≡ false → fault_of grammar_app (big ∷ x ∷ y ∷ more) ≡ [] → ⊥
unfolding clap_on_literals
wrong_big x y more f g = of_entered big (x ∷ y ∷ more) refl (λ e. over_number big x y more f g (front (walk_fault (numbered_leaf big) [] (walk_from nothing_held) (x ∷ y ∷ more)) _ e))

-- the faults of a command with a number, by those of the number's level
abbrev with_number : Text → Text → Kinds → Kinds
with_number name x below = level_fault whole.top names nothing_held (name ∷ x ∷ []) true below

right_gen : (x : Text) → is_flag x ≡ false → fault_of grammar_app (gen ∷ x ∷ []) ≡ []
unfolding clap_on_literals
right_gen x f = ap (with_number gen x) (number_fits gen x f)

right_big : (x : Text) → is_flag x ≡ false → fault_of grammar_app (big ∷ x ∷ []) ≡ []
unfolding clap_on_literals
right_big x f = ap (with_number big x) (number_fits big x f)

met_gen : (x : Text) → is_flag x ≡ false → subcommand_of grammar_app (gen ∷ x ∷ []) ≡ Some (gen, number_rows x)
unfolding clap_on_literals
met_gen x f = ap (λ (rows : List Row). Some (gen, rows)) (finds_number gen x f)

met_big : (x : Text) → is_flag x ≡ false → subcommand_of grammar_app (big ∷ x ∷ []) ≡ Some (big, number_rows x)
unfolding clap_on_literals
met_big x f = ap (λ (rows : List Row). Some (big, rows)) (finds_number big x f)

-- what is parsed is the command, and what fails is none

no_words : fault_of grammar_app [] ≡ [] → ⊥
unfolding clap_on_literals
no_words e = cc

one_replay : fault_of grammar_app (replay ∷ []) ≡ []
unfolding clap_on_literals
one_replay = refl

one_run : fault_of grammar_app (run ∷ []) ≡ []
unfolding clap_on_literals
one_run = refl

one_dump : fault_of grammar_app (dump ∷ []) ≡ []
unfolding clap_on_literals
one_dump = refl

one_decode : fault_of grammar_app (decode ∷ []) ≡ []
unfolding clap_on_literals
one_decode = refl

one_gen : fault_of grammar_app (gen ∷ []) ≡ [] → ⊥
unfolding clap_on_literals
one_gen e = cc

one_big : fault_of grammar_app (big ∷ []) ≡ [] → ⊥
unfolding clap_on_literals
one_big e = cc

met_replay : subcommand_of grammar_app (replay ∷ []) ≡ Some (replay, [])
unfolding clap_on_literals
met_replay = refl

met_run : subcommand_of grammar_app (run ∷ []) ≡ Some (run, [])
unfolding clap_on_literals
met_run = refl

met_dump : subcommand_of grammar_app (dump ∷ []) ≡ Some (dump, [])
unfolding clap_on_literals
met_dump = refl

met_decode : subcommand_of grammar_app (decode ∷ []) ≡ Some (decode, [])
unfolding clap_on_literals
met_decode = refl

or_first : (a b : Bool) → (a || b) ≡ false → a ≡ false
or_first false b e = refl
or_first true b e = absurd (cc)

or_second : (a b : Bool) → (a || b) ≡ false → b ≡ false
or_second false b e = e
or_second true b e = absurd (cc)

-- the fault of words without flags, with the command that they are
abbrev Told : List Text → Type 0
Told words = (fault_of grammar_app words ≡ [] → command_in (subcommand_of grammar_app words) ≡ spelled_by words)
    × ((k : ErrorKind) → IsAmong k (fault_of grammar_app words) → spelled_by words ≡ None)

none_among : (k : ErrorKind) (ks : Kinds) → ks ≡ [] → IsAmong k ks → ⊥
none_among k ks e h = let P : Kinds → Type 0 = λ x. IsAmong k x in subst P e h

told_right : (words : List Text) (met : Text × List Row) → fault_of grammar_app words ≡ [] → subcommand_of grammar_app words ≡ Some met → command_in (Some met) ≡ spelled_by words → Told words
told_right words met free of is = ((λ h. ap command_in of ∙ is), λ k h. absurd (none_among k _ free h))

told_wrong : (words : List Text) → (fault_of grammar_app words ≡ [] → ⊥) → spelled_by words ≡ None → Told words
told_wrong words wrong none = ((λ h. absurd (wrong h)), λ k h. none)

told_one : (w : Text) → Which w → is_flag w ≡ false → Told (w ∷ [])
told_one w (is_replay e) f = subst (λ (v : Text). Told (v ∷ [])) e (told_right (replay ∷ []) (replay, []) one_replay met_replay refl)
told_one w (is_run e) f = subst (λ (v : Text). Told (v ∷ [])) e (told_right (run ∷ []) (run, []) one_run met_run refl)
told_one w (is_dump e) f = subst (λ (v : Text). Told (v ∷ [])) e (told_right (dump ∷ []) (dump, []) one_dump met_dump refl)
told_one w (is_decode e) f = subst (λ (v : Text). Told (v ∷ [])) e (told_right (decode ∷ []) (decode, []) one_decode met_decode refl)
told_one w (is_gen e) f = subst (λ (v : Text). Told (v ∷ [])) e (told_wrong (gen ∷ []) one_gen refl)
told_one w (is_big e) f = subst (λ (v : Text). Told (v ∷ [])) e (told_wrong (big ∷ []) one_big refl)
told_one w (unknown u) f = told_wrong (w ∷ []) (of_unknown w [] f u) (unnamed w u)

told_two : (w x : Text) → Which w → is_flag w ≡ false → is_flag x ≡ false → Told (w ∷ x ∷ [])
told_two w x (is_replay e) f g = subst (λ (v : Text). Told (v ∷ x ∷ [])) e (told_wrong (replay ∷ x ∷ []) (wrong_replay x [] g) (no_command replay x (λ n. refl)))
told_two w x (is_run e) f g = subst (λ (v : Text). Told (v ∷ x ∷ [])) e (told_wrong (run ∷ x ∷ []) (wrong_run x [] g) (no_command run x (λ n. refl)))
told_two w x (is_dump e) f g = subst (λ (v : Text). Told (v ∷ x ∷ [])) e (told_wrong (dump ∷ x ∷ []) (wrong_dump x [] g) (no_command dump x (λ n. refl)))
told_two w x (is_decode e) f g = subst (λ (v : Text). Told (v ∷ x ∷ [])) e (told_wrong (decode ∷ x ∷ []) (wrong_decode x [] g) (no_command decode x (λ n. refl)))
told_two w x (is_gen e) f g = subst (λ (v : Text). Told (v ∷ x ∷ [])) e (told_right (gen ∷ x ∷ []) (gen, number_rows x) (right_gen x g) (met_gen x g) refl)
told_two w x (is_big e) f g = subst (λ (v : Text). Told (v ∷ x ∷ [])) e (told_right (big ∷ x ∷ []) (big, number_rows x) (right_big x g) (met_big x g) refl)
told_two w x (unknown u) f g = told_wrong (w ∷ x ∷ []) (of_unknown w (x ∷ []) f u) (no_command w x (unnumbered w u))

told_more : (w x y : Text) (rest : List Text) → Which w → is_flag w ≡ false → is_flag x ≡ false → is_flag y ≡ false → Told (w ∷ x ∷ y ∷ rest)
told_more w x y rest (is_replay e) f g h = subst (λ (v : Text). Told (v ∷ x ∷ y ∷ rest)) e (told_wrong (replay ∷ x ∷ y ∷ rest) (wrong_replay x (y ∷ rest) g) refl)
told_more w x y rest (is_run e) f g h = subst (λ (v : Text). Told (v ∷ x ∷ y ∷ rest)) e (told_wrong (run ∷ x ∷ y ∷ rest) (wrong_run x (y ∷ rest) g) refl)
told_more w x y rest (is_dump e) f g h = subst (λ (v : Text). Told (v ∷ x ∷ y ∷ rest)) e (told_wrong (dump ∷ x ∷ y ∷ rest) (wrong_dump x (y ∷ rest) g) refl)
told_more w x y rest (is_decode e) f g h = subst (λ (v : Text). Told (v ∷ x ∷ y ∷ rest)) e (told_wrong (decode ∷ x ∷ y ∷ rest) (wrong_decode x (y ∷ rest) g) refl)
told_more w x y rest (is_gen e) f g h = subst (λ (v : Text). Told (v ∷ x ∷ y ∷ rest)) e (told_wrong (gen ∷ x ∷ y ∷ rest) (wrong_gen x y rest g h) refl)
told_more w x y rest (is_big e) f g h = subst (λ (v : Text). Told (v ∷ x ∷ y ∷ rest)) e (told_wrong (big ∷ x ∷ y ∷ rest) (wrong_big x y rest g h) refl)
told_more w x y rest (unknown u) f g h = told_wrong (w ∷ x ∷ y ∷ rest) (of_unknown w (x ∷ y ∷ rest) f u) refl

pub told : (words : List Text) → list_any is_flag words ≡ false → Told words
told [] n = told_wrong [] no_words refl
told (w ∷ []) n = told_one w (which w) (or_first (is_flag w) false n)
told (w ∷ x ∷ []) n =
    let later = or_second (is_flag w) (is_flag x || false) n in
    told_two w x (which w) (or_first (is_flag w) _ n) (or_first (is_flag x) false later)
told (w ∷ x ∷ y ∷ rest) n =
    let later = or_second (is_flag w) (is_flag x || (is_flag y || list_any is_flag rest)) n in
    let last = or_second (is_flag x) (is_flag y || list_any is_flag rest) later in
    told_more w x y rest (which w) (or_first (is_flag w) _ n) (or_first (is_flag x) _ later) (or_first (is_flag y) _ last)

or_left : (a : Bool) → (a || false) ≡ true → a ≡ true
or_left true e = refl
or_left false e = e

-- no flag is a command

-- a text that begins with a hyphen is no name
flag_is : (w : Text) (A : Text → Type 0) → is_flag w ≡ true → ((bs : List ℕ) → A (45 ∷ bs)) → A w
flag_is [] A e a = absurd (cc)
flag_is (b ∷ bs) A e a =
    let T : Bool → Type 0 = λ t. (t && true) ≡ true in
    let P : List ℕ → Type 0 = λ l. A (l ++ bs) in
    subst P (sym ((bytes_decides (b ∷ []) (45 ∷ [])).0 (subst T (sym e) refl))) (a bs)

flagged_one : (w : Text) → is_flag w ≡ true → named_of w ≡ None
flagged_one w e = flag_is w (λ v. named_of v ≡ None) e (λ bs. refl)

-- a flag isn't a number
unnumbered_flag : (x : Text) → is_flag x ≡ true → number_of x ≡ None
unfolding digits_of
unnumbered_flag x e = flag_is x (λ v. number_of v ≡ None) e (λ bs. no_digits (nat_le 1 (length (45 ∷ bs)) && nat_le (length (45 ∷ bs)) NUMBER_DIGITS)) where
  nothing : Option ℕ
  nothing = None

  no_digits : (b : Bool) → (if b then nothing else nothing) ≡ nothing
  no_digits true = refl
  no_digits false = refl

flagged_two : (w x : Text) → list_any is_flag (w ∷ x ∷ []) ≡ true → spelled_by (w ∷ x ∷ []) ≡ None
flagged_two w x e = by (is_flag w) refl where
  by : (b : Bool) → is_flag w ≡ b → command_met w (Some x) ≡ None
  by true f = no_command w x (λ n. flag_is w (λ v. numbered_of v n ≡ None) f (λ bs. refl))
  by false f =
      let later : is_flag x ≡ true = or_left (is_flag x) (subst (λ (b : Bool). (b || (is_flag x || false)) ≡ true) f e) in
      ap (option_and_then (numbered_of w)) (unnumbered_flag x later)

pub flagged : (words : List Text) → list_any is_flag words ≡ true → spelled_by words ≡ None
flagged [] e = refl
flagged (w ∷ []) e = flagged_one w (or_left (is_flag w) e)
flagged (w ∷ x ∷ []) e = flagged_two w x e
flagged (w ∷ x ∷ y ∷ rest) e = refl

-- the command that was met, by its name and by the word of its number
pub met : (m own : ArgMatches) (name : Text) (word : Option Text) → Some name ≡ subcommand_name_of m → Some (rows_of (found_of own)) ≡ option_map (λ p. p.1) (subcommand_rows_of m) → word ≡ first_value (found_of own) number_id → command_in (subcommand_rows_of m) ≡ command_met name word
met m own name word named rows is = by (out-ArgMatches m).subcommand named rows where
  by : {Z : Type 0} (o : Option (Box SubCommand Z)) → Some name ≡ option_map (λ b. (out-SubCommand (box_value b)).name.now) o → Some (rows_of (found_of own)) ≡ option_map (λ p. p.1) (subcommand_rows o) → command_in (subcommand_rows o) ≡ command_met name word
  by None n r = absurd cc
  by (Some b) n r =
      let same : (out-SubCommand (box_value b)).name.now ≡ name = cc in
      let found : rows_of (found_of (out-SubCommand (box_value b)).matches) ≡ rows_of (found_of own) = cc in
      ap₂ command_met same (ap (first_of number_id) found ∙ sym (first_value-rows (found_of own) number_id) ∙ sym is)

-- what a parse of such words met is their command
pub parsed : (g : App) (words : List Text) (m : ArgMatches) → g ≡ grammar_app → list_any is_flag words ≡ false → (is_simple_and_free g ≡ true → fault_of g words ≡ []) → HasMatchesOf g words m → command_in (subcommand_rows_of m) ≡ spelled_by words
parsed g words m is n kinds matches =
    let P : App → Type 0 = λ a. is_simple_and_free a ≡ true → fault_of a words ≡ [] in
    let Q : App → Type 0 = λ a. HasMatchesOf a words m in
    let no = subst P is kinds is_free in
    let rows = (subst Q is matches simple).1 in
    ap command_in rows ∙ (told words n).0 no

-- such words of which the parse fails, but for want of memory, are no command
pub failed : (g : App) (words : List Text) (e : Error) → g ≡ grammar_app → list_any is_flag words ≡ false → (is_simple_and_free g ≡ true → HasKind (fault_of g words) e) → kind_of e ≢ kind.OutOfMemory → spelled_by words ≡ None
failed g words e is n kinds other =
    let P : App → Type 0 = λ a. is_simple_and_free a ≡ true → HasKind (fault_of a words) e in
    elim (subst P is kinds is_free) [
      | inl x ↦ absurd (other x)
      | inr h ↦ (told words n).1 (kind_of e) h
    ]

-- a search for flags from some word on

abbrev pub has_flag_in : List (String Global) → Bool
has_flag_in words = list_any is_flag (map string_bytes words)

pub flag_here : (words : List (String Global)) (i : ℕ) (w : String Global) → i < length words → w ≡ slice_index_or words i w → is_flag (string_bytes w) ≡ true → has_flag_in (drop i words) ≡ true
flag_here words i w lt is e =
    let P : String Global → Type 0 = λ x. (is_flag (string_bytes x) || has_flag_in (drop (i + 1) words)) ≡ true in
    let Q : Bool → Type 0 = λ t. (t || has_flag_in (drop (i + 1) words)) ≡ true in
    at_drop_more has_flag_in words i w lt ∙ subst P is (subst Q (sym e) refl)

pub flag_later : (words : List (String Global)) (i : ℕ) (w : String Global) → i < length words → w ≡ slice_index_or words i w → is_flag (string_bytes w) ≡ false → has_flag_in (drop i words) ≡ has_flag_in (drop (i + 1) words)
flag_later words i w lt is e =
    let later = has_flag_in (drop (i + 1) words) in
    let P : String Global → Type 0 = λ x. (is_flag (string_bytes x) || later) ≡ later in
    let Q : Bool → Type 0 = λ t. (t || later) ≡ later in
    at_drop_more has_flag_in words i w lt ∙ subst P is (subst Q (sym e) refl)

pub no_flag_left : (words : List (String Global)) (i : ℕ) → length words ≤ i → has_flag_in (drop i words) ≡ false
no_flag_left words i le = at_drop_all has_flag_in words i le
