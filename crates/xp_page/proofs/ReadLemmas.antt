-- Words in bytes, the way back from the bytes of words, and the one answer that a read gives.
use Rattle.std.proofs.Common.{◌≡◌, ℕ, zero, suc, ◌+◌, ◌*◌, ◌^◌, ◌<◌, ◌≤◌, List, [], ◌∷◌, ◌++◌, length, get_or, take, drop, refl, ap, sym, ◌∙◌, subst, arith, inl, inr}
use Rattle.std.specs.Prelude.{Result, Ok, Err, ◌⊎◌}
use Rattle.std.proofs.lemmas.Bool.{cases_lt}
use Rattle.std.proofs.lemmas.List.{append_assoc, length-append, drop_at, drop_more, drop_all}
use Rattle.byteorder.specs.Endian.{little_from, little_bytes}
use Rattle.byteorder.specs.Numbers.{little_from-take, little_number-reads_back, length-bytes_low_first}
use Rattle.xp_base.proofs.BodyLemmas.{little_from-drop}
use Rattle.xp_page.specs.declared.grammar.Row.{Row}
use Rattle.xp_page.specs.declared.grammar.PageFault.{PageFault}
use Rattle.xp_page.specs.Grammar.{allows}
use Rattle.xp_page.specs.Reading.{IsRefused, IsCut, word_in, words_in, bytes_of_words, row_at, AllowedTo, IsFirstFault, IsReadOf, IsOf}

pub length-bytes_of_words : (ws : List ℕ) → length (bytes_of_words ws) ≡ 8 * length ws
unfolding bytes_of_words
length-bytes_of_words [] = refl
length-bytes_of_words (w ∷ ws) =
    omega (
      arith,
      length-append (little_bytes 8 w) (bytes_of_words ws),
      length-bytes_low_first 0 8 w,
      length-bytes_of_words ws,
    )

-- a word behind the first eight bytes
pub word_in-next : (xs : List ℕ) (k : ℕ) → word_in xs (suc k) ≡ word_in (drop 8 xs) k
unfolding word_in
word_in-next xs k =
    let e : 8 * suc k ≡ 8 + 8 * k = omega arith in
    ap (λ (i : ℕ). little_from i 8 xs) e ∙ sym (little_from-drop 8 (8 * k) 8 xs)

word_in-first : (w : ℕ) (ys : List ℕ) → w < 2 ^ 64 → word_in (little_bytes 8 w ++ ys) 0 ≡ w
unfolding word_in
word_in-first w ys h = little_number-reads_back 8 w ys h

pub word_in-written : (ws rest : List ℕ) (k : ℕ) → k < length ws
    → ((i : ℕ) → get_or ws i 0 < 2 ^ 64) → word_in (bytes_of_words ws ++ rest) k ≡ get_or ws k 0
unfolding bytes_of_words
word_in-written [] rest k h small = absurd (omega arith)
word_in-written (w ∷ ws) rest zero h small =
    ap (λ (xs : List ℕ). word_in xs 0) (append_assoc (little_bytes 8 w) (bytes_of_words ws) rest)
    ∙ word_in-first w (bytes_of_words ws ++ rest) (small 0)
word_in-written (w ∷ ws) rest (suc k) h small =
    let e : drop 8 (little_bytes 8 w ++ (bytes_of_words ws ++ rest)) ≡ bytes_of_words ws
    ++ rest = drop_at (little_bytes 8 w) (bytes_of_words ws ++ rest) 8
    (length-bytes_low_first 0 8 w) in
    ap (λ (xs : List ℕ). word_in xs (suc k))
    (append_assoc (little_bytes 8 w) (bytes_of_words ws) rest)
    ∙ word_in-next (little_bytes 8 w ++ (bytes_of_words ws ++ rest)) k
    ∙ ap (λ (xs : List ℕ). word_in xs k) e
    ∙ word_in-written ws rest k (omega arith) (λ i. small (suc i))

pub words_in-are : (bytes ws : List ℕ) (k n : ℕ) → k + n ≡ length ws
    → ((i : ℕ) → i < length ws → word_in bytes i ≡ get_or ws i 0) → words_in bytes k n ≡ drop k ws
words_in-are bytes ws k zero e h = sym (drop_all k ws (omega arith))
words_in-are bytes ws k (suc n) e h =
    let here = drop_more ws k 0 (omega arith) in
    let rest = words_in-are bytes ws (k + 1) n (omega arith) h in
    rw (here, h k (omega arith), rest) refl

-- words of a table are read from their bytes
pub written-allowed : (rows : List Row) (ws rest : List ℕ) → length rows ≡ length ws
    → ((i : ℕ) → get_or ws i 0 < 2 ^ 64) → IsOf rows ws
    → AllowedTo rows (bytes_of_words ws ++ rest) (length rows)
written-allowed rows ws rest e small h k low =
    let word = word_in-written ws rest k (omega arith) small in (
      omega (arith, length-append (bytes_of_words ws) rest, length-bytes_of_words ws),
      ap (allows (row_at rows k).allowed) word ∙ h k low,
    )

-- where all words are allowed there is no fault
pub no_fault : (rows : List Row) (offset : ℕ) (bytes : List ℕ) (f : PageFault)
    → AllowedTo rows bytes (length rows) → IsFirstFault rows offset bytes f → ⊥
no_fault rows offset bytes f h q = elim q.here [
  | inl r ↦ let a = (h q.word q.within).1 in let b = r.1 in absurd (cc)
  | inr r ↦ let a = (h q.word q.within).0 in let b = r.0 in absurd (omega arith)
]

pub read_back : {X : Type 0}
    → (words : X → List ℕ) (rows : List Row) (offset : ℕ) (x : X) (rest : List ℕ)
    (r : Result X PageFault)
    → ((y : X) → words y ≡ words x → y ≡ x) → length rows ≡ length (words x)
    → ((i : ℕ) → get_or (words x) i 0 < 2 ^ 64) → IsOf rows (words x)
    → IsReadOf words rows offset (bytes_of_words (words x) ++ rest) r → r ≡ Ok x
read_back words rows offset x rest (Ok y) same e small h q =
    let all : words_in (bytes_of_words (words x) ++ rest) 0 (length rows) ≡ words x =
    words_in-are (bytes_of_words (words x) ++ rest) (words x) 0 (length rows) (omega arith)
    (λ i low. word_in-written (words x) rest i low small) in
    ap Ok (same y (q.1 ∙ all))
read_back words rows offset x rest (Err f) same e small h q =
    absurd (no_fault rows offset (bytes_of_words (words x) ++ rest) f
    (written-allowed rows (words x) rest e small h) q)

-- the words of an array from a place on are those of the table's words
pub words_in-at : (bytes : List ℕ) (k n i : ℕ) → i < n
    → get_or (words_in bytes k n) i 0 ≡ word_in bytes (k + i)
words_in-at bytes k zero i h = absurd (omega arith)
words_in-at bytes k (suc n) zero h = let e : k + 0 ≡ k = omega arith in ap (word_in bytes) (sym e)
words_in-at bytes k (suc n) (suc i) h =
    let e : k + 1 + i ≡ k + suc i = omega arith in
    words_in-at bytes (k + 1) n i (omega arith) ∙ ap (word_in bytes) e

pub length-words_in : (bytes : List ℕ) (k n : ℕ) → length (words_in bytes k n) ≡ n
length-words_in bytes k zero = refl
length-words_in bytes k (suc n) = ap suc (length-words_in bytes (k + 1) n)

-- a word read from its first byte on
pub word_in-drop : (bytes : List ℕ) (k : ℕ) → little_from 0 8 (drop (8 * k) bytes) ≡ word_in bytes k
unfolding word_in
word_in-drop bytes k =
    let e : 8 * k + 0 ≡ 8 * k = omega arith in
    little_from-drop (8 * k) 0 8 bytes ∙ ap (λ (i : ℕ). little_from i 8 bytes) e

-- a word within a part of the bytes
pub word_in-part : (bytes : List ℕ) (start size k : ℕ) → 8 * k + 8 ≤ 8 * size
    → little_from 0 8 (drop (8 * k) (take (8 * size) (drop (8 * start) bytes))) ≡ word_in bytes
    (start + k)
unfolding word_in
word_in-part bytes start size k h =
    let e : 8 * k + 0 ≡ 8 * k = omega arith in
    let f : 8 * start + 8 * k ≡ 8 * (start + k) = omega arith in
    little_from-drop (8 * k) 0 8 (take (8 * size) (drop (8 * start) bytes))
    ∙ ap (λ (i : ℕ). little_from i 8 (take (8 * size) (drop (8 * start) bytes))) e
    ∙ little_from-take (8 * k) 8 (8 * size) (drop (8 * start) bytes) h
    ∙ little_from-drop (8 * start) (8 * k) 8 bytes ∙ ap (λ (i : ℕ). little_from i 8 bytes) f

-- a word before the first fault's is whole and allowed, so it has none
not_before : (rows : List Row) (offset : ℕ) (bytes : List ℕ) (f g : PageFault)
    (p : IsFirstFault rows offset bytes f) (q : IsFirstFault rows offset bytes g) → p.word < q.word
    → ⊥
not_before rows offset bytes f g p q h = elim p.here [
  | inl r ↦ let a = (q.before p.word h).1 in let b = r.1 in absurd (cc)
  | inr r ↦ let a = (q.before p.word h).0 in let b = r.0 in absurd (omega arith)
]

same_place : (rows : List Row) (offset : ℕ) (bytes : List ℕ) (k : ℕ) (f g : PageFault)
    → IsRefused rows offset bytes k f ⊎ IsCut offset bytes k f
    → IsRefused rows offset bytes k g ⊎ IsCut offset bytes k g → f ≡ g
same_place rows offset bytes k f g p q = elim p [
  | inl r ↦ elim q [
    | inl s ↦ r.2 ∙ sym s.2
    | inr s ↦ let a = r.0 in let b = s.0 in absurd (omega arith)
  ]
  | inr r ↦ elim q [
    | inl s ↦ let a = r.0 in let b = s.0 in absurd (omega arith)
    | inr s ↦ r.1 ∙ sym s.1
  ]
]

-- there is one first fault
pub one_fault : (rows : List Row) (offset : ℕ) (bytes : List ℕ) (f g : PageFault)
    → IsFirstFault rows offset bytes f → IsFirstFault rows offset bytes g → f ≡ g
one_fault rows offset bytes f g p q = elim (cases_lt p.word q.word) [
  | inl less ↦ absurd (not_before rows offset bytes f g p q less)
  | inr more ↦ elim (cases_lt q.word p.word) [
    | inl less ↦ absurd (not_before rows offset bytes g f q p less)
    | inr equal ↦
        let e : q.word ≡ p.word = omega arith in
        same_place rows offset bytes p.word f g p.here
        (subst (λ (k : ℕ). IsRefused rows offset bytes k g ⊎ IsCut offset bytes k g) e q.here)
  ]
]
