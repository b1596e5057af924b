-- What is known of the words that came depends on these words alone, whatever comes behind them.
use Rattle.std.proofs.Common.{◌≡◌, ℕ, zero, suc, ◌+◌, ◌-◌, ◌*◌, ◌/◌, ◌%◌, ◌<◌, ◌≤◌, true, false, List, ◌++◌, length, refl, ap, sym, ◌∙◌, subst, arith, inl, inr, ◌==◌, nat_lt}
use Rattle.std.proofs.lemmas.Bool.{cases_lt}
use Rattle.std.proofs.lemmas.Bool.Decides.{nat_tests}
use Rattle.std.proofs.lemmas.List.{length-append, get_or_append_left}
use Rattle.std.proofs.Math.Nat.{div-add-mod'}
use Rattle.byteorder.specs.Endian.{little_from}
use Rattle.xp_base.specs.declared.layout.TheConstants.{VERSION_AT}
use Rattle.xp_page.specs.declared.grammar.Row.{Row}
use Rattle.xp_page.specs.declared.grammar.PageCause.{PageCause}
use Rattle.xp_page.specs.declared.grammar.PageFault.{PageFault}
use Rattle.xp_page.specs.Grammar.{allows}
use Rattle.xp_page.specs.Reading.{word_in}
use Rattle.xp_dump_table.specs.declared.layout.Layout.{Layout}
use Rattle.xp_dump_table.specs.Layouts.{words_of}
use Rattle.xp_dump_table.specs.Table.{memory_word}
use Rattle.xp_dump.specs.declared.fault.DumpFault.{DumpFault}
use Rattle.xp_dump.specs.declared.fault.DumpFault.TheVariants.{Page, Trailing, Memory as NoMemory}
use Rattle.xp_dump.specs.declared.parts.Parts.{Parts}
use Rattle.xp_dump.specs.declared.stage.Stage.{Stage}
use Rattle.xp_dump.specs.declared.stage.Stage.TheVariants.{Header, Count, Words}
use Rattle.xp_dump.specs.Grammar.{Numbered, is_header, is_count, layout_of, total, number_of, owner_at, index_at, version_before, part_row, row_at_word, word_allowed, cause_at, AreAllowed, IsFault}
use Rattle.xp_dump.specs.Parts.{AreKept, known, taken_in}
use Rattle.xp_dump.specs.Stages.{Follows, taken}
use Rattle.xp_dump.proofs.Memories.{told}

-- the words below n are the same
abbrev pub AreSame : Numbered → Numbered → ℕ → Type 0
AreSame f g n = (k : ℕ) → k < n → f k ≡ g k

pub number_back : (l : Layout) (k : ℕ) → 2 ≤ k → number_of l (owner_at l k) (index_at l k) ≡ k
number_back l k h =
    let e : (k - 2) / words_of l * words_of l + (k - 2) % words_of l ≡ k - 2 =
    div-add-mod' (k - 2) (words_of l) in
    omega arith

version_same : (f g : Numbered) (l : Layout) (o i n : ℕ) → number_of l o i ≤ n → AreSame f g n
    → version_before f l o i ≡ version_before g l o i
version_same f g l o i n low same = elim (cases_lt VERSION_AT i) [
  | inl past ↦
      let t : nat_lt VERSION_AT i ≡ true = grind (arith, nat_tests) in
      let e : f (number_of l o VERSION_AT) ≡ g (number_of l o VERSION_AT) =
      same (number_of l o VERSION_AT) (omega arith) in
      rw t e
  | inr before ↦ let t : nat_lt VERSION_AT i ≡ false = grind (arith, nat_tests) in rw t refl
]

row_same : (f g : Numbered) (k : ℕ) → 2 ≤ k → AreSame f g k → row_at_word f k ≡ row_at_word g k
unfolding row_at_word
row_same f g k h same =
    let first = same 0 (omega arith) in
    let second = same 1 (omega arith) in
    let l : Layout = layout_of (g 0) in
    let version = version_same f g l (owner_at l k) (index_at l k) k
    (omega (arith, number_back l k h)) same in
    ap (λ (x : ℕ). part_row (layout_of x) (f 1)
    (version_before f (layout_of x) (owner_at (layout_of x) k) (index_at (layout_of x) k))
    (owner_at (layout_of x) k) (index_at (layout_of x) k)) first
    ∙ ap (λ (x : ℕ). part_row l x (version_before f l (owner_at l k) (index_at l k)) (owner_at l k)
    (index_at l k)) second
    ∙ ap (λ (x : ℕ). part_row l (g 1) x (owner_at l k) (index_at l k)) version

first_word : (f : Numbered) → word_allowed f 0 ≡ is_header (f 0)
first_word f = refl

second_word : (f : Numbered) → word_allowed f 1 ≡ is_count (layout_of (f 0)) (f 1)
second_word f = refl

pub later_word : (f : Numbered) (k : ℕ)
    → word_allowed f (suc (suc k)) ≡ allows (row_at_word f (suc (suc k))).allowed (f (suc (suc k)))
later_word f k =
    let s : (suc (suc k) == 0) ≡ false = grind (arith, nat_tests) in
    let t : (suc (suc k) == 1) ≡ false = grind (arith, nat_tests) in
    rw (s, t) refl

later_cause : (f : Numbered) (k : ℕ)
    → cause_at f (suc (suc k)) ≡ (row_at_word f (suc (suc k))).cause
later_cause f k =
    let s : (suc (suc k) == 0) ≡ false = grind (arith, nat_tests) in
    let t : (suc (suc k) == 1) ≡ false = grind (arith, nat_tests) in
    rw (s, t) refl

pub allowed_same : (f g : Numbered) (k : ℕ) → AreSame f g (k + 1)
    → word_allowed f k ≡ word_allowed g k
allowed_same f g zero same = ap is_header (same 0 (omega arith))
allowed_same f g (suc zero) same =
    ap (λ (x : ℕ). is_count (layout_of x) (f 1)) (same 0 (omega arith))
    ∙ ap (is_count (layout_of (g 0))) (same 1 (omega arith))
allowed_same f g (suc (suc k)) same =
    let n : ℕ = suc (suc k) in
    let row = row_same f g n (omega arith) (λ j h. same j (omega arith)) in
    later_word f k ∙ ap (λ (r : Row). allows r.allowed (f n)) row
    ∙ ap (allows (row_at_word g n).allowed) (same n (omega arith)) ∙ sym (later_word g k)

pub cause_same : (f g : Numbered) (k : ℕ) → AreSame f g (k + 1) → cause_at f k ≡ cause_at g k
cause_same f g zero same = refl
cause_same f g (suc zero) same = refl
cause_same f g (suc (suc k)) same =
    let row = row_same f g (suc (suc k)) (omega arith) (λ j h. same j (omega arith)) in
    later_cause f k ∙ ap (λ (r : Row). r.cause) row ∙ sym (later_cause g k)

pub all_same : (f g : Numbered) (n : ℕ) → AreSame f g n → AreAllowed f n → AreAllowed g n
all_same f g n same all k h = sym (allowed_same f g k (λ j low. same j (omega arith))) ∙ all k h

pub total_same : (f g : Numbered) → AreSame f g 2 → total f ≡ total g
total_same f g same =
    ap (λ (x : ℕ). 2 + words_of (layout_of x) * f 1) (same 0 (omega arith))
    ∙ ap (λ (x : ℕ). 2 + words_of (layout_of (g 0)) * x) (same 1 (omega arith))

known_same : (f g : Numbered) (n k : ℕ) → AreSame f g n → known f n k ≡ known g n k
known_same f g n k same = elim (cases_lt k n) [
  | inl low ↦ let t : nat_lt k n ≡ true = grind (arith, nat_tests) in let e = same k low in rw t e
  | inr high ↦ let t : nat_lt k n ≡ false = grind (arith, nat_tests) in rw t refl
]

told_same : (l : Layout) (f g : Numbered) (n o i : ℕ) → AreSame f g n
    → told l f n o i ≡ told l g n o i
told_same l f g n o i same =
    let e : (λ (j : ℕ). known f n (number_of l o j)) ≡ (λ (j : ℕ). known g n (number_of l o j)) =
    λ d j. known_same f g n (number_of l o j) same d in
    ap (λ (w : ℕ → ℕ). memory_word l w i) e

kept_same : (f g : Numbered) (p : Parts) → AreSame f g (taken_in p) → AreKept f p → AreKept g p
kept_same f g p same k =
    let first = same 0 (omega arith) in
    let second = same 1 (omega arith) in
    record {
      header = subst (λ (x : ℕ). is_header x ≡ true) first k.header;
      layout = k.layout ∙ ap layout_of first;
      count = k.count ∙ second;
      counted = subst (λ (x : ℕ). is_count (layout_of (g 0)) x ≡ true) second
          (subst (λ (x : ℕ). is_count (layout_of x) (f 1) ≡ true) first k.counted);
      owner = k.owner;
      index = k.index;
      last = k.last;
      allowed = all_same f g (taken_in p) same k.allowed;
      version = k.version ∙ version_same f g p.layout p.owner p.index (taken_in p)
          (omega arith) same;
      sized = k.sized;
      words = λ o i h low. k.words o i h low ∙ told_same p.layout f g (taken_in p) o i same;
    }

pub follows_same : (f g : Numbered) (s : Stage) → AreSame f g (taken s) → Follows f s → Follows g s
follows_same f g Header same h = tt
follows_same f g (Count l) same h =
    let first = same 0 (omega arith) in
    (subst (λ (x : ℕ). is_header x ≡ true) first h.0, h.1 ∙ ap layout_of first)
follows_same f g (Words p) same h = kept_same f g p same h

-- the words of bytes, whatever comes behind
little_same : (i n : ℕ) (xs ys : List ℕ) → i + n ≤ length xs
    → little_from i n (xs ++ ys) ≡ little_from i n xs
little_same i zero xs ys h = refl
little_same i (suc n) xs ys h =
    rw (get_or_append_left xs ys 0 i (omega arith), little_same (suc i) n xs ys (omega arith)) refl

pub words_same : (bytes more : List ℕ) (n : ℕ) → 8 * n ≤ length bytes
    → AreSame (word_in bytes) (word_in (bytes ++ more)) n
unfolding word_in
words_same bytes more n h k low = sym (little_same (8 * k) 8 bytes more (omega arith))

abbrev page_fault : ℕ → PageCause → PageFault
page_fault k x = record { offset = 8 * k; cause = x }

-- a fault stays the first one, whatever comes behind
pub fault_stays : (bytes more : List ℕ) (fault : DumpFault) → IsFault bytes fault
    → IsFault (bytes ++ more) fault
fault_stays bytes more (Page fault) r =
    let f : Numbered = word_in bytes in
    let g : Numbered = word_in (bytes ++ more) in
    let whole = r.whole in
    let within = r.within in
    let here : AreSame f g (r.word + 1) = words_same bytes more (r.word + 1) (omega arith) in
    record {
      word = r.word;
      whole = omega (arith, length-append bytes more);
      within = elim (cases_lt r.word 2) [
        | inl low ↦ omega arith
        | inr high ↦ subst (λ (t : ℕ). r.word < t)
            (total_same f g (λ k low. here k (omega arith))) within
      ];
      before = all_same f g r.word (λ k low. here k (omega arith)) r.before;
      refused = sym (allowed_same f g r.word here) ∙ r.refused;
      is = r.is ∙ ap (λ (x : PageCause). page_fault r.word x) (cause_same f g r.word here);
    }
fault_stays bytes more (Trailing offset) r =
    let f : Numbered = word_in bytes in
    let g : Numbered = word_in (bytes ++ more) in
    let past = r.past in
    let here : AreSame f g (total f) = words_same bytes more (total f) (omega arith) in
    let same = total_same f g (λ k low. here k (omega arith)) in
    record {
      before = subst (AreAllowed g) same (all_same f g (total f) here r.before);
      past = subst (λ (t : ℕ). 8 * t < length (bytes ++ more)) same
          (omega (arith, length-append bytes more));
      is = r.is ∙ ap (λ (t : ℕ). 8 * t) same;
    }
fault_stays bytes more NoMemory r = tt
