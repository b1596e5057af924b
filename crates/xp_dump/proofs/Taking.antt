-- What one more byte, or the bytes of one more word, make of a tape.
use Rattle.std.proofs.Common.{◌≡◌, ◌≢◌, ℕ, zero, suc, ◌+◌, ◌*◌, ◌<◌, ◌≤◌, true, false, List, [], ◌∷◌, ◌++◌, length, set, refl, ap, sym, ◌∙◌, subst, arith, inl, inr}
use Rattle.std.specs.Prelude.{slice_index, Option, None, MatchOption, Result, Ok, Err, MatchResult}
use Rattle.std.proofs.lemmas.Bool.{cases_lt}
use Rattle.std.proofs.lemmas.Bool.Decides.{nat_tests}
use Rattle.std.proofs.lemmas.List.{length-append, get_or_append_left, get_or-append-add, get_or-set_same, get_or-set_other}
use Rattle.byteorder.specs.Endian.{little_from}
use Rattle.xp_page.specs.Reading.{word_in}
use Rattle.std.proofs.Math.Nat.{mul-le-mul_left}
use Rattle.xp_dump_table.specs.declared.layout.Layout.{Layout}
use Rattle.xp_dump_table.specs.Layouts.{words_of}
use Rattle.xp_dump.specs.declared.fault.DumpFault.{DumpFault}
use Rattle.xp_dump.specs.declared.fault.DumpFault.TheVariants.{Page, Trailing, Memory}
use Rattle.xp_dump.specs.declared.stage.Stage.{Stage}
use Rattle.xp_dump.specs.declared.stage.Stage.TheVariants.{Header, Count, Words}
use Rattle.xp_dump.specs.declared.tape.Tape.{Tape}
use Rattle.xp_dump.specs.Grammar.{Numbered, total, AreAllowed, IsPast, IsFault}
use Rattle.xp_dump.specs.Parts.{taken_in}
use Rattle.xp_dump.specs.Stages.{Follows, Steps, IsRefusedAt, taken, is_whole}
use Rattle.xp_dump.specs.Tapes.{IsRead, IsTaken}
use Rattle.xp_dump.proofs.Same.{AreSame, words_same, follows_same, total_same, all_same}

-- the words that came are allowed
pub follows_allowed : (f : Numbered) (s : Stage) → Follows f s → AreAllowed f (taken s)
follows_allowed f Header h k low = absurd (omega arith)
follows_allowed f (Count l) h zero low = h.0
follows_allowed f (Count l) h (suc k) low = absurd (omega arith)
follows_allowed f (Words p) h k low = h.allowed k low

-- where not all words came, there is one to come
pub not_whole : (f : Numbered) (s : Stage) → Follows f s → is_whole s ≡ false → taken s < total f
not_whole f Header h t = omega arith
not_whole f (Count l) h t = omega arith
not_whole f (Words p) h t =
    let at = h.owner in
    let going : p.owner + 1 ≤ length p.words = grind (arith, nat_tests) in
    let size : ℕ = words_of p.layout in
    let rows : size * (p.owner + 1) ≤ size * length p.words = mul-le-mul_left size going in
    let low = h.index in
    let under : taken_in p < 2 + size * length p.words = omega arith in
    let e : 2 + size * length p.words ≡ total f = ap (λ (n : ℕ). 2 + size * n) h.count
    ∙ ap (λ (l : Layout). 2 + words_of l * f 1) h.layout in
    omega (arith, e)

-- where all words came, they are as many as the dump has
pub whole_total : (f : Numbered) (s : Stage) → Follows f s → is_whole s ≡ true → taken s ≡ total f
whole_total f Header h t = absurd (cc)
whole_total f (Count l) h t = absurd (cc)
whole_total f (Words p) h t =
    let all : p.owner ≡ length p.words = grind (arith, nat_tests) in
    let first = h.last all in
    let e : taken_in p ≡ 2 + words_of p.layout * length p.words =
    ap (λ (o : ℕ). 2 + words_of p.layout * o + p.index) all ∙ (omega arith) in
    e ∙ ap (λ (n : ℕ). 2 + words_of p.layout * n) h.count
    ∙ ap (λ (l : Layout). 2 + words_of l * f 1) h.layout

-- the last byte of some bytes and one more
last_byte : (bytes : List ℕ) (b : ℕ) → slice_index (bytes ++ b ∷ []) (length bytes) ≡ b
last_byte bytes b = let e : length bytes + 0 ≡ length bytes = omega arith in
    ap (λ (k : ℕ). slice_index (bytes ++ b ∷ []) k) (sym e) ∙ get_or-append-add bytes (b ∷ []) 0 0

-- the bytes of the word that isn't whole, with one more
pending_more : (pending bytes : List ℕ) (n filled b : ℕ) → filled < length pending
    → length bytes ≡ n + filled
    → ((i : ℕ) → i < filled → slice_index pending i ≡ slice_index bytes (n + i))
    → (i : ℕ) → i < filled + 1
    → slice_index (set pending filled b) i ≡ slice_index (bytes ++ b ∷ []) (n + i)
pending_more pending bytes n filled b room size before i h = elim (cases_lt i filled) [
  | inl low ↦
      let ne : i ≢ filled = omega arith in
      get_or-set_other pending filled i b 0 ne ∙ before i low
      ∙ sym (get_or_append_left bytes (b ∷ []) 0 (n + i) (omega arith))
  | inr high ↦
      let e : filled ≡ i = omega arith in
      let f : length bytes ≡ n + i = omega arith in
      ap (slice_index (set pending filled b)) (sym e) ∙ get_or-set_same pending filled b 0 room
      ∙ sym (ap (slice_index (bytes ++ b ∷ [])) (sym f) ∙ last_byte bytes b)
]

little_equal : (i j n : ℕ) (xs ys : List ℕ)
    → ((k : ℕ) → k < n → slice_index xs (i + k) ≡ slice_index ys (j + k))
    → little_from i n xs ≡ little_from j n ys
little_equal i j zero xs ys h = refl
little_equal i j (suc n) xs ys h =
    let a : i + 0 ≡ i = omega arith in
    let b : j + 0 ≡ j = omega arith in
    let here : slice_index xs i ≡ slice_index ys j = ap (slice_index xs) (sym a)
    ∙ h 0 (omega arith) ∙ ap (slice_index ys) b in
    let rest = little_equal (suc i) (suc j) n xs ys (λ k low.
    let c : suc i + k ≡ i + suc k = omega arith in
    let d : suc j + k ≡ j + suc k = omega arith in
    ap (slice_index xs) c ∙ h (suc k) (omega arith) ∙ ap (slice_index ys) (sym d)) in
    rw (here, rest) refl

-- eight bytes are the next word
pub whole_word : (pending bytes : List ℕ) (n : ℕ)
    → ((i : ℕ) → i < 8 → slice_index pending i ≡ slice_index bytes (8 * n + i))
    → little_from 0 8 pending ≡ word_in bytes n
unfolding word_in
whole_word pending bytes n h = little_equal 0 (8 * n) 8 pending bytes
    (λ k low. let e : 0 + k ≡ k = omega arith in ap (slice_index pending) e ∙ h k low)

-- the words that came stay the same
came : (bytes more : List ℕ) (n filled : ℕ) → length bytes ≡ 8 * n + filled
    → AreSame (word_in bytes) (word_in (bytes ++ more)) n
came bytes more n filled e = words_same bytes more n (omega arith)

pub read_past : (bytes more : List ℕ) (t : Tape) (offset : ℕ) → IsRead bytes t
    → is_whole t.stage ≡ true → 0 < length more
    → offset ≡ 8 * taken t.stage → IsPast (bytes ++ more) offset
read_past bytes more t offset r whole some e =
    let f : Numbered = word_in bytes in
    let g : Numbered = word_in (bytes ++ more) in
    let all = whole_total f t.stage r.follows whole in
    let size = r.size in
    let same = came bytes more (taken t.stage) t.filled r.size in
    let two : 2 ≤ taken t.stage = omega arith in
    let here = all ∙ total_same f g (λ k low. same k (omega arith)) in
    record {
      before = subst (AreAllowed g) here
          (all_same f g (taken t.stage) same (follows_allowed f t.stage r.follows));
      past = subst (λ (n : ℕ). 8 * n < length (bytes ++ more)) here
          (omega (arith, length-append bytes more));
      is = e ∙ ap (λ (n : ℕ). 8 * n) here;
    }

-- any byte behind a whole dump is a fault
pub taken_past : (bytes more : List ℕ) (t new : Tape) (fault : DumpFault) → IsRead bytes t
    → 0 < length more
    → (is_whole t.stage ≡ true) × (fault ≡ Trailing (8 * taken t.stage))
    → IsTaken bytes more (Err fault) new
taken_past bytes more t new fault r some told =
    subst (IsFault (bytes ++ more)) (sym told.1)
    (read_past bytes more t (8 * taken t.stage) r told.0 some refl)

pub read_more : (bytes : List ℕ) (t : Tape) (b : ℕ) → length t.pending ≡ 8 → IsRead bytes t
    → is_whole t.stage ≡ false
    → t.filled + 1 < 8 → IsRead (bytes ++ b ∷ [])
    (record { pending = set t.pending t.filled b; filled = t.filled + 1; stage = t.stage })
read_more bytes t b room r going low =
    let f : Numbered = word_in bytes in
    let g : Numbered = word_in (bytes ++ b ∷ []) in
    let size = r.size in
    let same = came bytes (b ∷ []) (taken t.stage) t.filled r.size in
    let follows = follows_same f g t.stage same r.follows in
    let more = not_whole g t.stage follows going in
    record {
      size = omega (arith, length-append bytes (b ∷ []));
      pending = pending_more t.pending bytes (8 * taken t.stage) t.filled b
          (omega arith) size r.pending;
      follows = follows;
      within = omega (arith, length-append bytes (b ∷ []));
    }

-- what the next word, once it is whole, may be answered
abbrev IsPut : ℕ → Tape → Stage → Result (Unit {0}) DumpFault → Type 0
IsPut w t new r =
    (f : Numbered) → Follows f t.stage → f (taken t.stage) ≡ w
    → MatchResult r (λ _. Steps f t.stage new) (λ fault. IsRefusedAt f (taken t.stage) fault)

-- the next word is whole with these bytes
next_word : (bytes more pending : List ℕ) (t : Tape) (filled w : ℕ) (new : Stage)
    (r : Result (Unit {0}) DumpFault) → IsRead bytes t
    → is_whole t.stage ≡ false → filled ≡ 0 → length (bytes ++ more) ≡ 8 * (taken t.stage + 1)
    → word_in (bytes ++ more) (taken t.stage) ≡ w → IsPut w t new r
    → IsTaken bytes more r (record { pending = pending; filled = filled; stage = new })
next_word bytes more pending t filled w new r read going none long here step =
    let f : Numbered = word_in bytes in
    let g : Numbered = word_in (bytes ++ more) in
    let same = came bytes more (taken t.stage) t.filled read.size in
    let follows = follows_same f g t.stage same read.follows in
    let within = not_whole g t.stage follows going in
    answer r (step g follows here) within follows
  where
    answer : (q : Result (Unit {0}) DumpFault)
        → MatchResult q (λ _. Steps (word_in (bytes ++ more)) t.stage new)
        (λ fault. IsRefusedAt (word_in (bytes ++ more)) (taken t.stage) fault)
        → taken t.stage < total (word_in (bytes ++ more))
        → Follows (word_in (bytes ++ more)) t.stage
        → IsTaken bytes more q (record { pending = pending; filled = filled; stage = new })
    answer (Ok x) s within follows =
        let next = s.more in
        record {
          size = omega (arith, long);
          pending = λ i h. absurd (omega arith);
          follows = s.follows;
          within = omega (arith, long);
        }
    answer (Err (Page fault)) s within follows =
        record {
          word = taken t.stage;
          whole = omega (arith, long);
          within = within;
          before = follows_allowed (word_in (bytes ++ more)) t.stage follows;
          refused = s.0;
          is = s.1;
        }
    answer (Err (Trailing offset)) s within follows = absurd s
    answer (Err Memory) s within follows = tt

-- with one more byte
pub read_word : (bytes : List ℕ) (t : Tape) (b w : ℕ) (new : Stage)
    (r : Result (Unit {0}) DumpFault) → length t.pending ≡ 8
    → IsRead bytes t → is_whole t.stage ≡ false → t.filled + 1 ≡ 8
    → w ≡ little_from 0 8 (set t.pending t.filled b) → IsPut w t new r
    → IsTaken bytes (b ∷ []) r
    (record { pending = set t.pending t.filled b; filled = 0; stage = new })
read_word bytes t b w new r room read going last word step =
    let size = read.size in
    let long : length (bytes ++ b ∷ []) ≡ 8 * (taken t.stage + 1) =
    omega (arith, length-append bytes (b ∷ [])) in
    let eight = pending_more t.pending bytes (8 * taken t.stage) t.filled b
    (omega arith) size read.pending in
    let whole = whole_word (set t.pending t.filled b) (bytes ++ b ∷ []) (taken t.stage)
    (λ i low. eight i (omega arith)) in
    next_word bytes (b ∷ []) (set t.pending t.filled b) t 0 w new r read going refl long
    (sym (word ∙ whole)) step

-- with all its eight bytes
pub read_eight : (bytes more : List ℕ) (t : Tape) (w : ℕ) (new : Stage)
    (r : Result (Unit {0}) DumpFault) → length more ≡ 8 → t.filled ≡ 0
    → IsRead bytes t → is_whole t.stage ≡ false → w ≡ little_from 0 8 more → IsPut w t new r
    → IsTaken bytes more r (record { pending = t.pending; filled = t.filled; stage = new })
read_eight bytes more t w new r eight none read going word step =
    let size = read.size in
    let long : length (bytes ++ more) ≡ 8 * (taken t.stage + 1) =
    omega (arith, length-append bytes more) in
    let at : length bytes ≡ 8 * taken t.stage = omega (arith, size, none) in
    let same : (i : ℕ) → i < 8
    → slice_index more i ≡ slice_index (bytes ++ more) (8 * taken t.stage + i) =
    λ i low. sym (get_or-append-add bytes more i 0)
    ∙ ap (λ (n : ℕ). slice_index (bytes ++ more) (n + i)) at in
    next_word bytes more t.pending t t.filled w new r read going none long
    (sym (word ∙ whole_word more (bytes ++ more) (taken t.stage) same)) step

-- where no byte is a fault by itself, not all words came
pub still_going : (fault : Option DumpFault) (t : Tape)
    → MatchOption fault (is_whole t.stage ≡ false)
    (λ x. (is_whole t.stage ≡ true) × (x ≡ Trailing (8 * taken t.stage))) → fault ≡ None
    → is_whole t.stage ≡ false
still_going fault t h none =
    subst (λ (x : Option DumpFault). MatchOption x (is_whole t.stage ≡ false)
    (λ y. (is_whole t.stage ≡ true) × (y ≡ Trailing (8 * taken t.stage)))) none h
