-- The dump of a memory in the grammar tells that memory, and no other.
use Rattle.std.proofs.Common.{◌≡◌, ℕ, zero, suc, ◌+◌, ◌-◌, ◌*◌, ◌/◌, ◌%◌, ◌^◌, ◌<◌, ◌≤◌, true, false, List, [], ◌∷◌, ◌++◌, length, get_or, refl, ap, sym, ◌∙◌, subst, arith, inl, inr, nat_lt}
use Rattle.std.specs.Prelude.{Result, Ok, Err, IfErr, MatchResult, Option, None}
use Rattle.std.specs.List.{concat}
use Rattle.std.proofs.lemmas.Bool.{cases_lt}
use Rattle.std.proofs.lemmas.Bool.Decides.{nat_tests}
use Rattle.std.proofs.lemmas.List.{append-nil, length-append, get_or_append_left, get_or-append-add, ext_get_or, get_or_past}
use Rattle.std.proofs.Math.Nat.{div-add-mod', mod-lt, mul-le-mul_left}
use Rattle.xp_base.specs.declared.layout.TheConstants.{PART_WORDS, VERSION_AT}
use Rattle.xp_base.specs.Memory.{Memory, word_at}
use Rattle.xp_page.specs.declared.grammar.Row.{Row}
use Rattle.xp_page.specs.Grammar.{allows}
use Rattle.xp_page.specs.Reading.{word_in}
use Rattle.xp_page.proofs.ReadLemmas.{word_in-written, length-bytes_of_words}
use Rattle.xp_dump_table.specs.declared.layout.Layout.{Layout}
use Rattle.xp_dump_table.specs.declared.layout.Layout.TheVariants.{Newer}
use Rattle.xp_dump_table.specs.Layouts.{words_of, field_of}
use Rattle.xp_dump.specs.declared.writer.TheConstants.{NEWER_HEADER}
use Rattle.xp_dump.specs.declared.fault.DumpFault.{DumpFault}
use Rattle.xp_dump.specs.declared.fault.DumpFault.TheVariants.{Page, Trailing, Memory as NoMemory}
use Rattle.xp_dump.specs.Grammar.{Numbered, dump_bytes, is_header, is_count, layout_of, total, number_of, owner_at, index_at, version_before, part_row, row_at_word, word_allowed, AreWordsOf, IsFault, IsDump, IsMissing, IsInGrammar}
use Rattle.xp_dump_table.specs.Table.{memory_word}
use Rattle.xp_dump.proofs.Same.{number_back, later_word, fault_stays}
use Rattle.xp_dump.specs.declared.tape.Tape.{Tape}
use Rattle.xp_dump.specs.Standing.{IsStanding}
use Rattle.xp_dump.specs.Tapes.{IsRead}
use Rattle.xp_dump.specs.Progress.{Progress, Reading, Faulted, IsFed, IsFinished, IsFrontOf, progress_of}

-- the words of a dump, as a list
abbrev dumped_words : Memory → List ℕ
dumped_words m = NEWER_HEADER ∷ length m ∷ concat m

abbrev AreSized : Memory → Type 0
AreSized m = (o : ℕ) → o < length m → length (get_or m o []) ≡ PART_WORDS

length-concat : (m : Memory) → AreSized m → length (concat m) ≡ PART_WORDS * length m
length-concat [] sized = refl
length-concat (row ∷ m) sized =
    let first = sized 0 (omega arith) in
    let rest = length-concat m (λ o h. sized (suc o) (omega arith)) in
    omega (arith, length-append row (concat m))

concat-at : (m : Memory) (o i : ℕ) → AreSized m → o < length m → i < PART_WORDS
    → get_or (concat m) (PART_WORDS * o + i) 0 ≡ word_at m o i
concat-at [] o i sized h low = absurd (omega arith)
concat-at (row ∷ m) zero i sized h low =
    let first = sized 0 (omega arith) in
    let e : PART_WORDS * 0 + i ≡ i = omega arith in
    ap (λ (k : ℕ). get_or (row ++ concat m) k 0) e
    ∙ get_or_append_left row (concat m) 0 i (omega arith)
concat-at (row ∷ m) (suc o) i sized h low =
    let first = sized 0 (omega arith) in
    let e : PART_WORDS * suc o + i ≡ length row + (PART_WORDS * o + i) = omega arith in
    ap (λ (k : ℕ). get_or (row ++ concat m) k 0) e
    ∙ get_or-append-add row (concat m) (PART_WORDS * o + i) 0
    ∙ concat-at m o i (λ p k. sized (suc p) (omega arith)) (omega arith) low

div_low : (k size count : ℕ) → 0 < size → k < size * count → k / size < count
div_low k size count some h = elim (cases_lt (k / size) count) [
  | inl low ↦ low
  | inr high ↦
      let rows : size * count ≤ size * (k / size) = mul-le-mul_left size high in
      let e = div-add-mod' k size in
      absurd (omega arith)
]

small_concat : (m : Memory) → AreSized m → ((o i : ℕ) → word_at m o i < 2 ^ 64) → (k : ℕ)
    → get_or (concat m) k 0 < 2 ^ 64
small_concat m sized small k = elim (cases_lt k (PART_WORDS * length m)) [
  | inl low ↦
      let o : ℕ = k / PART_WORDS in
      let i : ℕ = k % PART_WORDS in
      let e : PART_WORDS * o + i ≡ k = omega (arith, div-add-mod' k PART_WORDS) in
      let part : o < length m = div_low k PART_WORDS (length m) (omega arith) low in
      let place : i < PART_WORDS = mod-lt k (omega arith) in
      subst (λ (x : ℕ). get_or (concat m) x 0 < 2 ^ 64) e
      (subst (λ (x : ℕ). x < 2 ^ 64) (sym (concat-at m o i sized part place)) (small o i))
  | inr high ↦
      let none = get_or_past (concat m) k 0 (omega (arith, length-concat m sized)) in
      subst (λ (x : ℕ). x < 2 ^ 64) (sym none) (omega arith)
]

small_words : (m : Memory) → IsInGrammar m → (k : ℕ) → get_or (dumped_words m) k 0 < 2 ^ 64
small_words m g zero = omega arith
small_words m g (suc zero) = let most = g.most in omega arith
small_words m g (suc (suc k)) = small_concat m g.sized g.small k

-- a word of the dump's bytes is one of its words
word_is : (m : Memory) → IsInGrammar m → (k : ℕ) → k < length (dumped_words m)
    → word_in (dump_bytes m) k ≡ get_or (dumped_words m) k 0
word_is m g k h =
    ap (λ (xs : List ℕ). word_in xs k) (sym (append-nil (dump_bytes m)))
    ∙ word_in-written (dumped_words m) [] k h (small_words m g)

length-dump : (m : Memory) → IsInGrammar m → length (dump_bytes m) ≡ 8 * (2 + PART_WORDS * length m)
length-dump m g = omega (arith, length-bytes_of_words (dumped_words m), length-concat m g.sized)

part_word : (m : Memory) → IsInGrammar m → (o i : ℕ) → o < length m → i < PART_WORDS
    → word_in (dump_bytes m) (number_of Newer o i) ≡ word_at m o i
part_word m g o i h low =
    let next : o + 1 ≤ length m = omega arith in
    let rows : PART_WORDS * (o + 1) ≤ PART_WORDS * length m = mul-le-mul_left PART_WORDS next in
    let within : number_of Newer o i < length (dumped_words m) =
    omega (arith, length-concat m g.sized) in
    let e : number_of Newer o i ≡ suc (suc (PART_WORDS * o + i)) = omega arith in
    word_is m g (number_of Newer o i) within ∙ ap (λ (k : ℕ). get_or (dumped_words m) k 0) e
    ∙ concat-at m o i g.sized h low

-- no word up to the version depends on it
version_free : (count v w o i : ℕ) → i ≤ VERSION_AT
    → part_row Newer count v o i ≡ part_row Newer count w o i
unfolding field_of
version_free count v w o zero h = refl
version_free count v w o (suc zero) h = refl
version_free count v w o (suc (suc i)) h = absurd (omega arith)

version_known : (m : Memory) → IsInGrammar m → (o i : ℕ) → o < length m
    → part_row Newer (length m) (version_before (word_in (dump_bytes m)) Newer o i) o i
    ≡ part_row Newer (length m) (word_at m o VERSION_AT) o i
version_known m g o i h = elim (cases_lt VERSION_AT i) [
  | inl past ↦
      let t : nat_lt VERSION_AT i ≡ true = grind (arith, nat_tests) in
      let e : version_before (word_in (dump_bytes m)) Newer o i ≡ word_at m o VERSION_AT =
      rw t (part_word m g o VERSION_AT h (omega arith)) in
      ap (λ (v : ℕ). part_row Newer (length m) v o i) e
  | inr before ↦ version_free (length m) (version_before (word_in (dump_bytes m)) Newer o i)
      (word_at m o VERSION_AT) o i before
]

later_row : (f : Numbered) (l : Layout) (n k : ℕ) → layout_of (f 0) ≡ l → f 1 ≡ n
    → row_at_word f k ≡ part_row l n (version_before f l (owner_at l k) (index_at l k))
    (owner_at l k) (index_at l k)
unfolding row_at_word
later_row f l n k e h =
    ap (λ (x : Layout). part_row x (f 1) (version_before f x (owner_at x k) (index_at x k))
    (owner_at x k) (index_at x k)) e
    ∙ ap (λ (c : ℕ). part_row l c (version_before f l (owner_at l k) (index_at l k)) (owner_at l k)
    (index_at l k)) h

header_is : (m : Memory) → IsInGrammar m → word_in (dump_bytes m) 0 ≡ NEWER_HEADER
header_is m g = word_is m g 0 (omega arith)

count_is : (m : Memory) → IsInGrammar m → word_in (dump_bytes m) 1 ≡ length m
count_is m g = word_is m g 1 (omega arith)

layout_is : (m : Memory) → IsInGrammar m → layout_of (word_in (dump_bytes m) 0) ≡ Newer
layout_is m g = ap layout_of (header_is m g)

all_allowed : (m : Memory) → IsInGrammar m → (k : ℕ) → k < 2 + PART_WORDS * length m
    → word_allowed (word_in (dump_bytes m)) k ≡ true
all_allowed m g zero h = ap is_header (header_is m g)
all_allowed m g (suc zero) h =
    let least = g.least in
    let most = g.most in
    let counted : is_count Newer (length m) ≡ true = grind (arith, nat_tests) in
    ap (λ (l : Layout). is_count l (word_in (dump_bytes m) 1)) (layout_is m g)
    ∙ ap (is_count Newer) (count_is m g) ∙ counted
all_allowed m g (suc (suc k)) h =
    let n : ℕ = suc (suc k) in
    let o : ℕ = owner_at Newer n in
    let i : ℕ = index_at Newer n in
    let part : o < length m = div_low (n - 2) PART_WORDS (length m) (omega arith) (omega arith) in
    let place : i < PART_WORDS = mod-lt (n - 2) (omega arith) in
    let row = later_row (word_in (dump_bytes m)) Newer (length m) n (layout_is m g) (count_is m g)
    ∙ version_known m g o i part in
    let word : word_in (dump_bytes m) n ≡ word_at m o i =
    ap (word_in (dump_bytes m)) (sym (number_back Newer n (omega arith)))
    ∙ part_word m g o i part place in
    later_word (word_in (dump_bytes m)) k
    ∙ ap (λ (r : Row). allows r.allowed (word_in (dump_bytes m) n)) row
    ∙ ap (allows (part_row Newer (length m) (word_at m o VERSION_AT) o i).allowed) word
    ∙ g.words o i part place

total_is : (m : Memory) → IsInGrammar m → total (word_in (dump_bytes m)) ≡ 2 + PART_WORDS * length m
total_is m g =
    ap (λ (l : Layout). 2 + words_of l * word_in (dump_bytes m) 1) (layout_is m g)
    ∙ ap (λ (n : ℕ). 2 + PART_WORDS * n) (count_is m g)

-- the dump of a memory in the grammar is a dump, and tells that memory
pub dump_tells : (m : Memory) → IsInGrammar m → IsDump (dump_bytes m) m
dump_tells m g =
    let size = length-dump m g in
    let whole = total_is m g in
    record {
      fine = record { allowed = λ k h. all_allowed m g k (omega arith); within = omega arith };
      whole = omega arith;
      told = record {
        count = sym (count_is m g);
        sized = g.sized;
        words = λ o i h low.
            sym (part_word m g o i h low)
            ∙ ap (λ (l : Layout). memory_word l
            (λ j. word_in (dump_bytes m) (number_of l o j)) i) (sym (layout_is m g));
      };
    }

same_memory : (f : Numbered) (v w : Memory) → AreWordsOf f v → AreWordsOf f w → v ≡ w
same_memory f v w a b =
    let rows : length v ≡ length w = a.count ∙ sym b.count in
    ext_get_or [] v w rows
    (λ o h.
    let k : o < length w = omega arith in
    let size : length (get_or v o []) ≡ length (get_or w o []) = a.sized o h ∙ sym (b.sized o k) in
    let long = a.sized o h in
    ext_get_or 0 (get_or v o []) (get_or w o []) size
    (λ i low. let at : i < PART_WORDS = omega arith in
    a.words o i h at ∙ sym (b.words o i k at)))

-- what a reader of a memory's dump answers at the end
pub read_back : (m : Memory) (old : Progress) (r : Result Memory DumpFault) → IsFinished old r
    → old ≡ Reading (dump_bytes m) → IsInGrammar m → r ≡ Ok m
read_back m old r h e g = answer r (subst (λ (p : Progress). IsFinished p r) e h)
  where
    answer : (q : Result Memory DumpFault) → IsFinished (Reading (dump_bytes m)) q → q ≡ Ok m
    answer (Ok w) d = ap Ok (same_memory (word_in (dump_bytes m)) w m d.told (dump_tells m g).told)
    answer (Err (Page fault)) cut = let short = cut.short in let whole = (dump_tells m g).whole in
        absurd (omega arith)
    answer (Err (Trailing offset)) cut = absurd cut
    answer (Err NoMemory) cut = absurd cut

-- a reader without a fault answers for its bytes
pub finished : (old : Progress) (told : Option DumpFault) (bytes : List ℕ) (t : Tape)
    (r : Result Memory DumpFault) → progress_of told bytes ≡ old → told ≡ None
    → IsStanding told bytes t
    → ((bs : List ℕ) → IsRead bs t
    → MatchResult r (λ w. IsDump bs w) (λ fault. IsMissing bs fault)) → IsFinished old r
finished old told bytes t r view none standing answer =
    let e : Reading bytes ≡ old = sym (ap (λ (x : Option DumpFault). progress_of x bytes) none)
    ∙ view in
    let here : IsStanding None bytes t =
    subst (λ (x : Option DumpFault). IsStanding x bytes t) none standing in
    subst (λ (p : Progress). IsFinished p r) e (by_answer r (answer bytes here.1))
  where
    by_answer : (q : Result Memory DumpFault)
        → MatchResult q (λ w. IsDump bytes w) (λ fault. IsMissing bytes fault)
        → IsFinished (Reading bytes) q
    by_answer (Ok w) h = h
    by_answer (Err fault) h = h

-- the only fault of what is written is want of memory
unfaulted : (m : Memory) (fault : DumpFault) → IsInGrammar m → IsFault (dump_bytes m) fault
    → fault ≡ NoMemory
unfaulted m (Page fault) g h =
    let within : h.word < 2 + PART_WORDS * length m = let low = h.within in
    omega (arith, low, total_is m g) in
    let wrong : true ≡ false = sym (all_allowed m g h.word within) ∙ h.refused in
    absurd (cc)
unfaulted m (Trailing offset) g h = let past = h.past in let whole = (dump_tells m g).whole in
    absurd (omega arith)
unfaulted m NoMemory g h = refl

pub front_unfaulted : (m : Memory) (front rest : List ℕ) (fault : DumpFault) → IsInGrammar m
    → front ++ rest ≡ dump_bytes m → IsFault front fault → fault ≡ NoMemory
front_unfaulted m front rest fault g e h =
    unfaulted m fault g (subst (λ (xs : List ℕ). IsFault xs fault) e
    (fault_stays front rest fault h))

-- no piece of what is written is refused
pub fed_back : (m : Memory) (old new : Progress) (piece rest : List ℕ)
    (r : Result (Unit {0}) DumpFault) → IsFed old piece r new
    → IsInGrammar m → IsFrontOf old piece rest (dump_bytes m) → IfErr r (λ fault. fault ≡ NoMemory)
fed_back m (Reading bytes) new piece rest (Ok x) fed g e = tt
fed_back m (Reading bytes) new piece rest (Err fault) fed g e =
    front_unfaulted m (bytes ++ piece) rest fault g e fed.1
fed_back m (Faulted told) new piece rest r fed g e = absurd e

-- what is written tells its words, where they are in the grammar
pub bytes_tell : (m : Memory) (bytes : List ℕ) → bytes ≡ dump_bytes m → IsInGrammar m
    → IsDump bytes m
bytes_tell m bytes e g = subst (λ (xs : List ℕ). IsDump xs m) (sym e) (dump_tells m g)

-- a dump tells one memory
pub told_once : (bytes : List ℕ) (v w : Memory) → IsDump bytes v → IsDump bytes w → v ≡ w
told_once bytes v w a b = same_memory (word_in bytes) v w a.told b.told
