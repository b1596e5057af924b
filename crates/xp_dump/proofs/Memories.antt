-- A word of a dump is put into memory: the memory then has the words up to it.
use Rattle.std.proofs.Common.{◌≡◌, ◌≢◌, ℕ, ◌+◌, ◌*◌, ◌/◌, ◌<◌, ◌≤◌, Bool, true, false, List, [], length, get_or, set, refl, ap, sym, ◌∙◌, subst, arith, inl, inr, nat_lt}
use Rattle.std.proofs.lemmas.Bool.{cases_lt}
use Rattle.std.proofs.lemmas.Bool.Decides.{nat_tests}
use Rattle.std.proofs.lemmas.List.{get_or-set_same, get_or-set_other, length-set}
use Rattle.std.proofs.lemmas.Nat.{div-mul-add}
use Rattle.xp_base.specs.declared.layout.TheConstants.{PART_WORDS}
use Rattle.xp_base.specs.Memory.{Memory, word_at, put_at}
use Rattle.xp_dump_table.specs.declared.layout.Layout.{Layout}
use Rattle.xp_dump_table.specs.declared.layout.Layout.TheVariants.{Older, Newer}
use Rattle.xp_dump_table.specs.declared.layout.Field.{Field}
use Rattle.xp_dump_table.specs.Layouts.{words_of, place_of, field_of}
use Rattle.xp_dump_table.specs.Table.{memory_word, older_word, moved_word, has_room}
use Rattle.xp_dump_table.proofs.Fields.{field_stands, field_of-place_of, place_within, in_newer, in_older, has_room-in_older}
use Rattle.xp_dump.specs.Grammar.{Numbered, number_of}
use Rattle.xp_dump.specs.Parts.{known, stored}

-- a place in a row of rows belongs to one row
pub same_part : (size o p i j : ℕ) → i < size → j < size → size * o + i ≡ size * p + j → o ≡ p
same_part size o p i j h k e =
    let f : o * size + i ≡ p * size + j = omega arith in
    sym (div-mul-add o size i h) ∙ ap (λ (x : ℕ). x / size) f ∙ div-mul-add p size j k

pub known_now : (f : Numbered) (n : ℕ) → known f (n + 1) n ≡ f n
known_now f n = let t : nat_lt n (n + 1) ≡ true = grind (arith, nat_tests) in rw t refl

pub known_other : (f : Numbered) (n k : ℕ) → (k ≡ n → ⊥) → known f (n + 1) k ≡ known f n k
known_other f n k ne = elim (cases_lt k n) [
  | inl low ↦
      let s : nat_lt k (n + 1) ≡ true = grind (arith, nat_tests) in
      let t : nat_lt k n ≡ true = grind (arith, nat_tests) in
      rw (s, t) refl
  | inr high ↦
      let apart : n < k = omega arith in
      let s : nat_lt k (n + 1) ≡ false = grind (arith, nat_tests) in
      let t : nat_lt k n ≡ false = grind (arith, nat_tests) in
      rw (s, t) refl
]

pub known_past : (f : Numbered) (n k : ℕ) → n ≤ k → known f n k ≡ 0
known_past f n k h = let t : nat_lt k n ≡ false = grind (arith, nat_tests) in rw t refl

pub known_before : (f : Numbered) (n k : ℕ) → k < n → known f n k ≡ f k
known_before f n k h = let t : nat_lt k n ≡ true = grind (arith, nat_tests) in rw t refl

-- each partition has its words
abbrev pub AreSized : Memory → Type 0
AreSized m = (o : ℕ) → o < length m → length (get_or m o []) ≡ PART_WORDS

pub put_sized : (m : Memory) (p i v : ℕ) → p < length m → AreSized m → AreSized (put_at m p i v)
put_sized m p i v h sized o k =
    let low : o < length m = omega (arith, length-set m p (set (get_or m p []) i v)) in
    elim (cases_lt o p) [
      | inl less ↦ let ne : o ≢ p = omega arith in
          ap length (get_or-set_other m p o (set (get_or m p []) i v) [] ne) ∙ sized o low
      | inr more ↦ elim (cases_lt p o) [
        | inl less ↦ let ne : o ≢ p = omega arith in
            ap length (get_or-set_other m p o (set (get_or m p []) i v) [] ne) ∙ sized o low
        | inr same ↦
            let e : p ≡ o = omega arith in
            subst (λ (q : ℕ). length (get_or (put_at m p i v) q []) ≡ PART_WORDS) e
            (ap length (get_or-set_same m p (set (get_or m p []) i v) [] h)
            ∙ length-set (get_or m p []) i v ∙ sized p h)
      ]
    ]

put_here : (m : Memory) (p i v : ℕ) → p < length m → i < length (get_or m p [])
    → word_at (put_at m p i v) p i ≡ v
put_here m p i v h k =
    ap (λ (r : List ℕ). get_or r i 0) (get_or-set_same m p (set (get_or m p []) i v) [] h)
    ∙ get_or-set_same (get_or m p []) i v 0 k

put_beside : (m : Memory) (p i v j : ℕ) → p < length m → j ≢ i
    → word_at (put_at m p i v) p j ≡ word_at m p j
put_beside m p i v j h ne =
    ap (λ (r : List ℕ). get_or r j 0) (get_or-set_same m p (set (get_or m p []) i v) [] h)
    ∙ get_or-set_other (get_or m p []) i j v 0 ne

put_elsewhere : (m : Memory) (p i v o j : ℕ) → o ≢ p → word_at (put_at m p i v) o j ≡ word_at m o j
put_elsewhere m p i v o j ne =
    ap (λ (r : List ℕ). get_or r j 0) (get_or-set_other m p o (set (get_or m p []) i v) [] ne)

-- where one word is put, and all others are told as before
put_told : (m : Memory) (p t v : ℕ) (before after : ℕ → ℕ → ℕ) → p < length m → AreSized m
    → t < PART_WORDS → after p t ≡ v
    → ((o i : ℕ) → o < length m → i < PART_WORDS → (o ≡ p → i ≡ t → ⊥) → after o i ≡ before o i)
    → ((o i : ℕ) → o < length m → i < PART_WORDS → word_at m o i ≡ before o i)
    → (o i : ℕ) → o < length m → i < PART_WORDS → word_at (put_at m p t v) o i ≡ after o i
put_told m p t v before after h sized low here others words o i ho hi =
    let size = sized p h in
    elim (cases_lt o p) [
      | inl less ↦ let ne : o ≢ p = omega arith in put_elsewhere m p t v o i ne ∙ words o i ho hi
          ∙ sym (others o i ho hi (λ e f. ne e))
      | inr more ↦ elim (cases_lt p o) [
        | inl less ↦ let ne : o ≢ p = omega arith in put_elsewhere m p t v o i ne ∙ words o i ho hi
            ∙ sym (others o i ho hi (λ e f. ne e))
        | inr same ↦
            let e : p ≡ o = omega arith in
            subst (λ (q : ℕ). word_at (put_at m p t v) q i ≡ after q i) e (elim (cases_lt i t) [
              | inl below ↦ let ne : i ≢ t = omega arith in
                  put_beside m p t v i h ne ∙ words p i h hi ∙ sym (others p i h hi (λ a b. ne b))
              | inr above ↦ elim (cases_lt t i) [
                | inl below ↦ let ne : i ≢ t = omega arith in
                    put_beside m p t v i h ne ∙ words p i h hi ∙ sym (others p i h hi (λ a b. ne b))
                | inr equal ↦
                    let f : t ≡ i = omega arith in
                    subst (λ (j : ℕ). word_at (put_at m p t v) p j ≡ after p j) f
                    (put_here m p t v h (omega arith) ∙ sym here)
              ]
            ])
      ]
    ]

-- what memory tells of partition o, of a dump of which n words came
abbrev pub told : Layout → Numbered → ℕ → ℕ → ℕ → ℕ
told l f n o i = memory_word l (λ j. known f n (number_of l o j)) i

abbrev pub AreTold : Layout → Numbered → ℕ → Memory → Type 0
AreTold l f n m = (o i : ℕ) → o < length m → i < PART_WORDS → word_at m o i ≡ told l f n o i

number_apart : (l : Layout) (o p i j : ℕ) → i < words_of l → j < words_of l → (o ≡ p → i ≡ j → ⊥)
    → number_of l o i ≡ number_of l p j → ⊥
number_apart l o p i j hi hj ne e =
    let row : words_of l * o + i ≡ words_of l * p + j = omega arith in
    let part = same_part (words_of l) o p i j hi hj row in
    let s : words_of l * o ≡ words_of l * p = ap (λ (x : ℕ). words_of l * x) part in
    ne part (omega arith)

pub older_same : (w v : ℕ → ℕ) (field : Field)
    → (has_room field ≡ true → w (place_of Older field) ≡ v (place_of Older field))
    → older_word w field ≡ older_word v field
older_same w v field h = cases (has_room field) refl
  where
    cases : (b : Bool) → has_room field ≡ b → older_word w field ≡ older_word v field
    cases true e = let s = h e in rw (e, s) refl
    cases false e = rw e refl

pub older_at : (w : ℕ → ℕ) (field : Field) → has_room field ≡ true
    → older_word w field ≡ moved_word field (w (place_of Older field))
older_at w field h = rw h refl

-- word n of a dump, stored
pub stored_told : (l : Layout) (f : Numbered) (n : ℕ) (m : Memory) (p i : ℕ) → p < length m
    → AreSized m → i < words_of l → n ≡ number_of l p i → AreTold l f n m
    → AreTold l f (n + 1) (stored l m p i (f n))
stored_told Newer f n m p i h sized low e words o j ho hj =
    let same : length (put_at m p i (f n)) ≡ length m =
    length-set m p (set (get_or m p []) i (f n)) in
    put_told m p i (f n) (told Newer f n) (told Newer f (n + 1)) h sized low
    (ap (known f (n + 1)) (sym e) ∙ known_now f n)
    (λ q k hq hk ne. known_other f n (number_of Newer q k)
    (λ g. number_apart Newer q p k i hk low ne (g ∙ e)))
    words o j (omega arith) hj
stored_told Older f n m p i h sized low e words o j ho hj =
    let field = field_of Older i in
    let stands = field_stands Older i low in
    let newer = in_newer field stands.within in
    let t = place_of Newer field in
    let v = moved_word field (f n) in
    let same : length (put_at m p t v) ≡ length m = length-set m p (set (get_or m p []) t v) in
    let at : t < PART_WORDS = place_within Newer field newer in
    let back = field_of-place_of Newer field newer in
    let number : number_of Older p (place_of Older field) ≡ n = ap (number_of Older p) stands.place
    ∙ sym e in
    put_told m p t v (told Older f n) (told Older f (n + 1)) h sized at
    (ap (older_word (λ k. known f (n + 1) (number_of Older p k))) back
    ∙ older_at (λ k. known f (n + 1) (number_of Older p k)) field
    (has_room-in_older field stands.within)
    ∙ ap (moved_word field) (ap (known f (n + 1)) number ∙ known_now f n))
    (λ q k hq hk ne.
    let there = field_stands Newer k hk in
    older_same (λ x. known f (n + 1) (number_of Older q x)) (λ x. known f n (number_of Older q x))
    (field_of Newer k)
    (λ room.
    let old = in_older (field_of Newer k) there.within room in
    let apart : (q ≡ p → place_of Older (field_of Newer k) ≡ i → ⊥) =
    λ a b. ne a (sym there.place
    ∙ ap (place_of Newer) (sym (field_of-place_of Older (field_of Newer k) old)
    ∙ ap (field_of Older) b)) in
    known_other f n (number_of Older q (place_of Older (field_of Newer k)))
    (λ g. number_apart Older q p (place_of Older (field_of Newer k)) i
    (place_within Older (field_of Newer k) old) low apart (g ∙ e))))
    words o j (omega arith) hj
