-- What one more word of a dump makes of a reader's stage.
use Rattle.std.proofs.Common.{◌≡◌, ℕ, zero, suc, ◌+◌, ◌-◌, ◌*◌, ◌/◌, ◌%◌, ◌<◌, ◌≤◌, Bool, true, false, List, [], length, get_or, set, replicate, refl, ap, sym, ◌∙◌, subst, arith, inl, inr, ◌==◌, nat_lt}
use Rattle.std.specs.Prelude.{if◌then◌else◌, Result, Ok, Err, OnOk, IfErr, MatchResult}
use Rattle.std.proofs.lemmas.Bool.{cases_lt, cases_eq}
use Rattle.std.proofs.lemmas.Bool.Decides.{nat_tests}
use Rattle.std.proofs.lemmas.List.{length-set, length-replicate, get_or-replicate}
use Rattle.std.proofs.lemmas.Nat.{div-mul-add}
use Rattle.std.proofs.Math.Nat.{mul-add-mod_self_left, mod-eq_of_lt}
use Rattle.xp_base.specs.declared.layout.TheConstants.{PART_WORDS, VERSION_AT}
use Rattle.xp_base.specs.Memory.{Memory}
use Rattle.xp_base.specs.Rows.{blank}
use Rattle.xp_page.specs.declared.grammar.Row.{Row}
use Rattle.xp_page.specs.declared.grammar.PageCause.{PageCause}
use Rattle.xp_page.specs.declared.grammar.PageFault.{PageFault}
use Rattle.xp_page.specs.Grammar.{allows}
use Rattle.xp_dump_table.specs.declared.layout.Layout.{Layout}
use Rattle.xp_dump_table.specs.declared.layout.Layout.TheVariants.{Older, Newer}
use Rattle.xp_dump_table.specs.declared.layout.Field.{Field}
use Rattle.xp_dump_table.specs.Layouts.{room, words_of, place_of, field_of}
use Rattle.xp_dump_table.specs.Table.{older_word, moved_word, has_room}
use Rattle.xp_dump.specs.declared.fault.DumpFault.{DumpFault}
use Rattle.xp_dump.specs.declared.parts.Parts.{Parts}
use Rattle.xp_dump.specs.declared.stage.Stage.{Stage}
use Rattle.xp_dump.specs.declared.stage.Stage.TheVariants.{Count, Words}
use Rattle.xp_dump.specs.Grammar.{Numbered, is_header, is_count, layout_of, number_of, owner_at, index_at, version_before, part_row, row_at_word, word_allowed, cause_at, AreAllowed}
use Rattle.xp_dump.specs.Parts.{AreKept, known, stored, after_word, row_next, taken_in}
use Rattle.xp_dump.specs.Stages.{IsPlaced, Follows, Steps, IsRefusedAt, refused_at, opened, taken, is_whole}
use Rattle.xp_dump.proofs.Memories.{AreSized, AreTold, put_sized, known_past, stored_told}

length-blank : (size n : ℕ) → length (blank size n) ≡ n
unfolding blank
length-blank size n = length-replicate n (replicate size 0)

row-blank : (size n o : ℕ) → o < n → get_or (blank size n) o [] ≡ replicate size 0
unfolding blank
row-blank size n o h = get_or-replicate n o (replicate size 0) [] h

few : (l : Layout) (n : ℕ) → is_count l n ≡ true → n ≤ room l
few l n h = grind (arith, nat_tests)

some : (l : Layout) (n : ℕ) → is_count l n ≡ true → 2 ≤ n
some l n h = grind (arith, nat_tests)

pub opened_placed : (l : Layout) (n : ℕ) (p : Parts) → is_count l n ≡ true → p ≡ opened l n
    → IsPlaced p
opened_placed l n p h e =
    let many : length (blank PART_WORDS n) ≤ room l =
    omega (arith, length-blank PART_WORDS n, few l n h) in
    subst IsPlaced (sym e) (record { owner = omega arith; count = many; index = omega arith })

older_blank : (w : ℕ → ℕ) (field : Field) → (w (place_of Older field) ≡ 0) → older_word w field ≡ 0
older_blank w field h = cases (has_room field) refl
  where
    cases : (b : Bool) → has_room field ≡ b → older_word w field ≡ 0
    cases true e = rw (e, h) refl
    cases false e = rw e refl

blank_told : (l : Layout) (f : Numbered) (n : ℕ) → AreTold l f 2 (blank PART_WORDS n)
blank_told Newer f n o i h k =
    let low : o < n = omega (arith, length-blank PART_WORDS n) in
    ap (λ (r : List ℕ). get_or r i 0) (row-blank PART_WORDS n o low)
    ∙ get_or-replicate PART_WORDS i 0 0 k
    ∙ sym (known_past f 2 (number_of Newer o i) (omega arith))
blank_told Older f n o i h k =
    let low : o < n = omega (arith, length-blank PART_WORDS n) in
    ap (λ (r : List ℕ). get_or r i 0) (row-blank PART_WORDS n o low)
    ∙ get_or-replicate PART_WORDS i 0 0 k
    ∙ sym (older_blank (λ j. known f 2 (number_of Older o j)) (field_of Newer i)
    (known_past f 2 (number_of Older o (place_of Older (field_of Newer i))) (omega arith)))

first_two : (f : Numbered) → is_header (f 0) ≡ true → is_count (layout_of (f 0)) (f 1) ≡ true
    → AreAllowed f 2
first_two f h c zero k = h
first_two f h c (suc zero) k = c
first_two f h c (suc (suc n)) k = absurd (omega arith)

pub opened_kept : (f : Numbered) (l : Layout) (n : ℕ) (p : Parts) → is_header (f 0) ≡ true
    → l ≡ layout_of (f 0) → f 1 ≡ n → is_count l n ≡ true → p ≡ opened l n
    → Steps f (Count l) (Words p)
opened_kept f l n p header layout count counted e =
    let two : number_of l 0 0 ≡ 2 = omega arith in
    let length_is = length-blank PART_WORDS n in
    let fits : is_count (layout_of (f 0)) (f 1) ≡ true =
    subst (λ (k : Layout). is_count k (f 1) ≡ true) layout
    (subst (λ (k : ℕ). is_count l k ≡ true) (sym count) counted) in
    let kept : AreKept f (opened l n) =
    record {
      header = header;
      layout = layout;
      count = length_is ∙ sym count;
      counted = fits;
      owner = omega arith;
      index = omega arith;
      last = λ _. refl;
      allowed = subst (AreAllowed f) (sym two) (first_two f header fits);
      version = refl;
      sized = λ o h. ap length (row-blank PART_WORDS n o (omega arith))
          ∙ length-replicate {A = ℕ} PART_WORDS 0;
      words = subst (λ (k : ℕ). AreTold l f k (blank PART_WORDS n)) (sym two) (blank_told l f n);
    } in
    subst (λ (q : Parts). Steps f (Count l) (Words q)) (sym e)
    (record { follows = kept; more = two })

-- the row of the next word is the table's row of that word
index_is : (size owner index : ℕ) → index < size → (size * owner + index) % size ≡ index
index_is size owner index h = mul-add-mod_self_left size owner index ∙ mod-eq_of_lt h

next_owner : (l : Layout) (owner index : ℕ) → index < words_of l
    → owner_at l (number_of l owner index) ≡ owner
next_owner l owner index h =
    let e : number_of l owner index - 2 ≡ owner * words_of l + index = omega arith in
    ap (λ (x : ℕ). x / words_of l) e ∙ div-mul-add owner (words_of l) index h

next_index : (l : Layout) (owner index : ℕ) → index < words_of l
    → index_at l (number_of l owner index) ≡ index
next_index l owner index h =
    let e : number_of l owner index - 2 ≡ words_of l * owner + index = omega arith in
    ap (λ (x : ℕ). x % words_of l) e ∙ index_is (words_of l) owner index h

next_row : (f : Numbered) (p : Parts) → AreKept f p → row_at_word f (taken_in p) ≡ row_next p
unfolding row_at_word
next_row f p k =
    let l = p.layout in
    let n = taken_in p in
    let o = next_owner l p.owner p.index k.index in
    let i = next_index l p.owner p.index k.index in
    ap (λ (g : Layout). part_row g (f 1) (version_before f g (owner_at g n) (index_at g n))
    (owner_at g n) (index_at g n)) (sym k.layout)
    ∙ ap (λ (x : ℕ). part_row l (f 1) (version_before f l x (index_at l n)) x (index_at l n)) o
    ∙ ap (λ (x : ℕ). part_row l (f 1) (version_before f l p.owner x) p.owner x) i
    ∙ ap (λ (x : ℕ). part_row l (f 1) x p.owner p.index) (sym k.version)
    ∙ ap (λ (x : ℕ). part_row l x p.version p.owner p.index) (sym k.count)

past_two : (f : Numbered) (n : ℕ) → 2 ≤ n
    → word_allowed f n ≡ allows (row_at_word f n).allowed (f n)
past_two f n h =
    let s : (n == 0) ≡ false = grind (arith, nat_tests) in
    let t : (n == 1) ≡ false = grind (arith, nat_tests) in
    rw (s, t) refl

past_two_cause : (f : Numbered) (n : ℕ) → 2 ≤ n → cause_at f n ≡ (row_at_word f n).cause
past_two_cause f n h =
    let s : (n == 0) ≡ false = grind (arith, nat_tests) in
    let t : (n == 1) ≡ false = grind (arith, nat_tests) in
    rw (s, t) refl

next_allowed : (f : Numbered) (p : Parts) (w : ℕ) → AreKept f p → f (taken_in p) ≡ w
    → word_allowed f (taken_in p) ≡ allows (row_next p).allowed w
next_allowed f p w k e =
    past_two f (taken_in p) (omega arith)
    ∙ ap (λ (r : Row). allows r.allowed (f (taken_in p))) (next_row f p k)
    ∙ ap (allows (row_next p).allowed) e

one_more : (f : Numbered) (n : ℕ) → AreAllowed f n → word_allowed f n ≡ true → AreAllowed f (n + 1)
one_more f n before here k h = elim (cases_lt k n) [
  | inl low ↦ before k low
  | inr high ↦ let e : n ≡ k = omega arith in subst (λ (j : ℕ). word_allowed f j ≡ true) e here
]

version_steps : (f : Numbered) (l : Layout) (owner index version w : ℕ)
    → version ≡ version_before f l owner index → f (number_of l owner index) ≡ w
    → (if index == VERSION_AT then w else version) ≡ version_before f l owner (index + 1)
version_steps f l owner index version w v e = elim (cases_lt index VERSION_AT) [
  | inl low ↦
      let a : (index == VERSION_AT) ≡ false = grind (arith, nat_tests) in
      let b : nat_lt VERSION_AT index ≡ false = grind (arith, nat_tests) in
      let c : nat_lt VERSION_AT (index + 1) ≡ false = grind (arith, nat_tests) in
      let none : version ≡ 0 = v ∙ rw b refl in
      rw (a, c) none
  | inr high ↦ elim (cases_lt VERSION_AT index) [
    | inl low ↦
        let a : (index == VERSION_AT) ≡ false = grind (arith, nat_tests) in
        let b : nat_lt VERSION_AT index ≡ true = grind (arith, nat_tests) in
        let c : nat_lt VERSION_AT (index + 1) ≡ true = grind (arith, nat_tests) in
        let told : version ≡ f (number_of l owner VERSION_AT) = v ∙ rw b refl in
        rw (a, c) told
    | inr equal ↦
        let same : index ≡ VERSION_AT = omega arith in
        let a : (index == VERSION_AT) ≡ true = grind (arith, nat_tests) in
        let c : nat_lt VERSION_AT (index + 1) ≡ true = grind (arith, nat_tests) in
        let told : w ≡ f (number_of l owner VERSION_AT) = sym e
        ∙ ap (λ (i : ℕ). f (number_of l owner i)) same in
        rw (a, c) told
  ]
]

-- what storing a word keeps, whichever word comes next
record Stored (f : Numbered) (p : Parts) (m : Memory) (n : ℕ) : Type 0 where
  pub count : length m ≡ length p.words
  pub allowed : AreAllowed f n
  pub sized : AreSized m
  pub words : AreTold p.layout f n m

length-stored : (l : Layout) (m : Memory) (p i w : ℕ) → length (stored l m p i w) ≡ length m
length-stored Older m p i w =
    length-set m p (set (get_or m p []) (place_of Newer (field_of Older i))
    (moved_word (field_of Older i) w))
length-stored Newer m p i w = length-set m p (set (get_or m p []) i w)

sized-stored : (l : Layout) (m : Memory) (p i w : ℕ) → p < length m → AreSized m
    → AreSized (stored l m p i w)
sized-stored Older m p i w h s = put_sized m p (place_of Newer (field_of Older i))
    (moved_word (field_of Older i) w) h s
sized-stored Newer m p i w h s = put_sized m p i w h s

word_stored : (f : Numbered) (p : Parts) (w : ℕ) → AreKept f p → p.owner < length p.words
    → f (taken_in p) ≡ w → word_allowed f (taken_in p) ≡ true
    → Stored f p (stored p.layout p.words p.owner p.index w) (taken_in p + 1)
word_stored f p w k going e ok =
    record {
      count = length-stored p.layout p.words p.owner p.index w;
      allowed = one_more f (taken_in p) k.allowed ok;
      sized = sized-stored p.layout p.words p.owner p.index w going k.sized;
      words = subst (λ (x : ℕ). AreTold p.layout f (taken_in p + 1)
          (stored p.layout p.words p.owner p.index x)) e
          (stored_told p.layout f
          (taken_in p) p.words p.owner p.index going k.sized k.index refl k.words);
    }

if_true : (b : Bool) (x y : Parts) → b ≡ true → (if b then x else y) ≡ x
if_true true x y h = refl
if_true false x y h = absurd (cc)

if_false : (b : Bool) (x y : Parts) → b ≡ false → (if b then x else y) ≡ y
if_false true x y h = absurd (cc)
if_false false x y h = refl

-- the first word of the next partition comes next
wrapped : (f : Numbered) (p : Parts) (m : Memory) → AreKept f p → p.owner < length p.words
    → p.index + 1 ≡ words_of p.layout → Stored f p m (taken_in p + 1)
    → Steps f (Words p) (Words
    (record { layout = p.layout; words = m; owner = p.owner + 1; index = 0; version = 0 }))
wrapped f p m k going whole s =
    let size : ℕ = words_of p.layout in
    let next : number_of p.layout (p.owner + 1) 0 ≡ taken_in p + 1 = omega arith in
    let same = s.count in
    record {
      follows = record {
        header = k.header;
        layout = k.layout;
        count = s.count ∙ k.count;
        counted = k.counted;
        owner = omega arith;
        index = omega arith;
        last = λ _. refl;
        allowed = subst (AreAllowed f) (sym next) s.allowed;
        version = refl;
        sized = s.sized;
        words = subst (λ (n : ℕ). AreTold p.layout f n m) (sym next) s.words;
      };
      more = next;
    }

-- another word of the partition comes next
moved_on : (f : Numbered) (p : Parts) (m : Memory) (w : ℕ) → AreKept f p → p.owner < length p.words
    → p.index + 1 < words_of p.layout → f (taken_in p) ≡ w → Stored f p m (taken_in p + 1)
    → Steps f (Words p) (Words
    (record {
      layout = p.layout;
      words = m;
      owner = p.owner;
      index = p.index + 1;
      version = if p.index == VERSION_AT then w else p.version;
    }))
moved_on f p m w k going more e s =
    let next : number_of p.layout p.owner (p.index + 1) ≡ taken_in p + 1 = omega arith in
    let same = s.count in
    record {
      follows = record {
        header = k.header;
        layout = k.layout;
        count = s.count ∙ k.count;
        counted = k.counted;
        owner = omega arith;
        index = more;
        last = λ q. absurd (omega arith);
        allowed = subst (AreAllowed f) (sym next) s.allowed;
        version = version_steps f p.layout p.owner p.index p.version w k.version e;
        sized = s.sized;
        words = subst (λ (n : ℕ). AreTold p.layout f n m) (sym next) s.words;
      };
      more = next;
    }

step_on : (f : Numbered) (p : Parts) (w : ℕ) → AreKept f p → p.owner < length p.words
    → f (taken_in p) ≡ w → word_allowed f (taken_in p) ≡ true
    → Steps f (Words p) (Words (after_word p w))
step_on f p w k going e ok =
    let m : Memory = stored p.layout p.words p.owner p.index w in
    let s = word_stored f p w k going e ok in
    elim (cases_eq (p.index + 1) (words_of p.layout)) [
      | inl whole ↦
          let t : (p.index + 1 == words_of p.layout) ≡ true = grind (arith, nat_tests) in
          subst (λ (q : Parts). Steps f (Words p) (Words q))
          (sym (if_true (p.index + 1 == words_of p.layout) _ _ t))
          (wrapped f p m k going whole s)
      | inr other ↦
          let t : (p.index + 1 == words_of p.layout) ≡ false = grind (arith, nat_tests) in
          let low = k.index in
          let more : p.index + 1 < words_of p.layout = omega (arith, other) in
          subst (λ (q : Parts). Steps f (Words p) (Words q))
          (sym (if_false (p.index + 1 == words_of p.layout) _ _ t))
          (moved_on f p m w k going more e s)
    ]

abbrev page_fault : ℕ → PageCause → PageFault
page_fault k x = record { offset = 8 * k; cause = x }

-- the answer of a word of a partition
pub word_put : (f : Numbered) (p q : Parts) (w : ℕ) (r : Result (Unit {0}) DumpFault) → AreKept f p
    → p.owner < length p.words → f (taken_in p) ≡ w
    → OnOk r ((allows (row_next p).allowed w ≡ true) × (q ≡ after_word p w))
    → IfErr r (λ fault. (allows (row_next p).allowed w ≡ false)
    × (fault ≡ refused_at (taken_in p) (row_next p).cause))
    → MatchResult r (λ _. Steps f (Words p) (Words q)) (λ fault. IsRefusedAt f (taken_in p) fault)
word_put f p q w (Ok x) k going e ok err =
    subst (λ (z : Parts). Steps f (Words p) (Words z)) (sym ok.1)
    (step_on f p w k going e (next_allowed f p w k e ∙ ok.0))
word_put f p q w (Err fault) k going e ok err =
    let cause : (row_next p).cause ≡ cause_at f (taken_in p) =
    sym (past_two_cause f (taken_in p) (omega arith)
    ∙ ap (λ (r : Row). r.cause) (next_row f p k)) in
    subst (λ (z : DumpFault). IsRefusedAt f (taken_in p) z) (sym err.1)
    (next_allowed f p w k e ∙ err.0, ap (λ (x : PageCause). page_fault (taken_in p) x) cause)

-- a word of a partition comes next, where not all came
still_going : (p : Parts) → p.owner ≤ length p.words → is_whole (Words p) ≡ false
    → p.owner < length p.words
still_going p h t = grind (arith, nat_tests)

pub count_step : (f : Numbered) (s : Stage) (l : Layout) (n : ℕ) (p : Parts) → s ≡ Count l
    → is_count l n ≡ true → p ≡ opened l n → Follows f s → f (taken s) ≡ n → Steps f s (Words p)
count_step f s l n p e counted same =
    let P : Stage → Type 0 = λ x. Follows f x → f (taken x) ≡ n → Steps f x (Words p) in
    subst P (sym e) (λ h g. opened_kept f l n p h.0 h.1 g counted same)

pub word_step : (f : Numbered) (s : Stage) (p q : Parts) (w : ℕ) (r : Result (Unit {0}) DumpFault)
    → s ≡ Words p → is_whole s ≡ false
    → OnOk r ((allows (row_next p).allowed w ≡ true) × (q ≡ after_word p w))
    → IfErr r (λ fault. (allows (row_next p).allowed w ≡ false)
    × (fault ≡ refused_at (taken_in p) (row_next p).cause))
    → Follows f s → f (taken s) ≡ w
    → MatchResult r (λ _. Steps f s (Words q)) (λ fault. IsRefusedAt f (taken s) fault)
word_step f s p q w r e going ok err =
    let P : Stage → Type 0 = λ x. is_whole x ≡ false → Follows f x → f (taken x) ≡ w
    → MatchResult r (λ _. Steps f x (Words q)) (λ fault. IsRefusedAt f (taken x) fault) in
    let at : P (Words p) = λ t k g. word_put f p q w r k (still_going p k.owner t) g ok err in
    subst P (sym e) at going
