-- The word of a payload spells its bytes.
use Rattle.std.proofs.Common.{◌≡◌, ◌≢◌, ℕ, zero, suc, ◌+◌, ◌/◌, ◌%◌, ◌^◌, ◌<◌, ◌≤◌, Bool, true, false, cond, not, ltb, leb, eqb, ◌&&◌, inl, inr, List, [], ◌∷◌, ◌++◌, length, get_or, refl, sym, ap, subst, ◌∙◌, arith, add-one, append_assoc, lit<, Option, Some, None}
use Rattle.std.specs.Prelude.{codes, replicate, slice_index}
use Rattle.std.specs.Fmt.{decimal}
use Rattle.std.specs.List.{list_all, AllByRecursion}
use Rattle.std.specs.Result.{result_ok}
use Rattle.std.proofs.lemmas.Bool.{and_parts, cases_lt, lt-ltb, le-leb, leb-true, ne_eqb, eqb-true}
use Rattle.std.proofs.lemmas.List.{append-nil, length-append, length-replicate}
use Rattle.hex.specs.Hex.{encode_lower, encode_with, lower_digits, IsBytes}
use Rattle.hex.proofs.HexLemmas.{length-encode_with, decode_of-encode_lower, decode_of-even}
use Rattle.xp_text.specs.declared.payloads.TheConstants.{RUN_BYTES}
use Rattle.xp_text.specs.Lines.{parts_of}
use Rattle.xp_text.specs.Numbers.{is_digit}
use Rattle.xp_text.specs.Payloads.{hex_of, only, one_byte, repeated, run_of, piece_in, piece_of, pieces_in, payload_of}
use Rattle.xp_forms.proofs.Fitting.{isnt_word}
use Rattle.xp_print.specs.declared.payload.TheConstants.{SHORTEST_RUN}
use Rattle.xp_print.specs.declared.payload.Before.{Before}
use Rattle.xp_print.specs.declared.payload.Before.TheVariants as before
use Rattle.xp_print.specs.Payloads.{Run, runs_from, after, digits_text, piece_text, run_text, runs_text, payload_word}
use Rattle.xp_print.specs.Payloads.{run_of as run_with}
use Rattle.xp_language_laws.proofs.Lexing.{visible, IsText, text_if, number_text, number_read, all_append}

-- ---- bytes of words of payloads

-- a byte that is no mark of payloads: 42 is `*` and 43 is `+`
abbrev high : ℕ → Bool
high b = leb 48 b && leb b 126

-- a byte of a word of a payload; 45 is `-`
abbrev spelling : ℕ → Bool
spelling b = leb 42 b && leb b 126

high_low : (b : ℕ) → high b ≡ true → 48 ≤ b
high_low b e = leb-true 48 b (and_parts (leb 48 b) (leb b 126) e).0

all_spelling : (w : List ℕ) → list_all high w ≡ true → list_all spelling w ≡ true
all_spelling [] e = refl
all_spelling (b ∷ w) e =
    let h = and_parts (high b) (list_all high w) e in
    let k = and_parts (leb 48 b) (leb b 126) h.0 in
    let low : 48 ≤ b = high_low b h.0 in
    rw (le-leb 42 b (omega (arith, low)), k.1, all_spelling w h.1) refl

all_visible : (w : List ℕ) → list_all spelling w ≡ true → list_all visible w ≡ true
all_visible [] e = refl
all_visible (b ∷ w) e =
    let h = and_parts (spelling b) (list_all spelling w) e in
    let k = and_parts (leb 42 b) (leb b 126) h.0 in
    let low : 42 ≤ b = leb-true 42 b k.0 in
    rw (le-leb 33 b (omega (arith, low)), k.1, all_visible w h.1) refl

digits_high : (w : List ℕ) → list_all is_digit w ≡ true → list_all high w ≡ true
digits_high [] e = refl
digits_high (b ∷ w) e =
    let h = and_parts (is_digit b) (list_all is_digit w) e in
    let d = and_parts (leb 48 b) (leb b 57) h.0 in
    let top : b ≤ 57 = leb-true b 57 d.1 in
    rw (d.0, le-leb b 126 (omega (arith, top)), digits_high w h.1) refl

decimal_high : (n : ℕ) → n < 2 ^ 64 → list_all high (decimal n) ≡ true
decimal_high n lt = digits_high (decimal n) (number_text n lt).digits

-- ---- hexadecimal digits

-- the first so many digits of the table are high
abbrev are_high : ℕ → Bool
are_high zero = true
are_high (suc n) = high (slice_index lower_digits n) && are_high n

high_at : (n k : ℕ) → are_high n ≡ true → k < n → high (slice_index lower_digits k) ≡ true
high_at zero k h lt = absurd (omega arith)
high_at (suc n) k h lt =
    let p = and_parts (high (slice_index lower_digits n)) (are_high n) h in
    elim (cases_lt k n) [
      | inl below ↦ high_at n k p.1 below
      | inr top ↦ let e : k ≡ n = omega arith in subst (λ (m : ℕ). high (slice_index lower_digits m) ≡ true) (sym e) p.0
    ]

hex_high : (bs : List ℕ) → IsBytes bs → list_all high (encode_lower bs) ≡ true
unfolding encode_with
hex_high [] h = refl
hex_high (b ∷ bs) h =
    let lt : b < 256 = h 0 in
    rw (high_at 16 (b / 16) refl (omega (arith, lt)), high_at 16 (b % 16) refl (omega arith), hex_high bs (λ i. h (suc i))) refl

hex_again : (bs : List ℕ) → IsBytes bs → hex_of (encode_lower bs) ≡ Some bs
hex_again bs h = ap result_ok (decode_of-encode_lower bs h)

hex_append : (xs ys : List ℕ) → encode_lower (xs ++ ys) ≡ encode_lower xs ++ encode_lower ys
unfolding encode_with
hex_append [] ys = refl
hex_append (x ∷ xs) ys = ap (λ (t : List ℕ). slice_index lower_digits (x / 16) ∷ slice_index lower_digits (x % 16) ∷ t) (hex_append xs ys)

bytes_append : (xs ys : List ℕ) → IsBytes xs → IsBytes ys → IsBytes (xs ++ ys)
bytes_append [] ys h k i = k i
bytes_append (x ∷ xs) ys h k zero = h 0
bytes_append (x ∷ xs) ys h k (suc i) = bytes_append xs ys (λ j. h (suc j)) k i

bytes_replicate : (n b : ℕ) → b < 256 → IsBytes (replicate n b)
bytes_replicate zero b h i = lit< tt
bytes_replicate (suc n) b h zero = h
bytes_replicate (suc n) b h (suc i) = bytes_replicate n b h i

-- ---- cutting at a mark

-- bytes none of which joins two pieces
abbrev calm : ℕ → Bool
calm b = not (eqb b 43)

high_calm : (w : List ℕ) → list_all high w ≡ true → list_all calm w ≡ true
high_calm [] e = refl
high_calm (b ∷ w) e =
    let h = and_parts (high b) (list_all high w) e in
    let low : 48 ≤ b = high_low b h.0 in
    rw (ne_eqb b 43 (λ x. omega (arith, x, low)), high_calm w h.1) refl

not_false : (b : Bool) → not b ≡ true → b ≡ false
not_false true e = absurd cc
not_false false e = refl

cut_plus : (w rest : List ℕ) → list_all calm w ≡ true → parts_of 43 (w ++ 43 ∷ rest) ≡ w ∷ parts_of 43 rest
unfolding parts_of
cut_plus [] rest e = refl
cut_plus (b ∷ w) rest e =
    let h = and_parts (calm b) (list_all calm w) e in
    rw (not_false (eqb b 43) h.0, cut_plus w rest h.1) refl

one_plus : (w : List ℕ) → list_all calm w ≡ true → parts_of 43 w ≡ w ∷ []
unfolding parts_of
one_plus [] e = refl
one_plus (b ∷ w) e =
    let h = and_parts (calm b) (list_all calm w) e in
    rw (not_false (eqb b 43) h.0, one_plus w h.1) refl

cut_times : (w rest : List ℕ) → list_all high w ≡ true → parts_of 42 (w ++ 42 ∷ rest) ≡ w ∷ parts_of 42 rest
unfolding parts_of
cut_times [] rest e = refl
cut_times (b ∷ w) rest e =
    let h = and_parts (high b) (list_all high w) e in
    let low : 48 ≤ b = high_low b h.0 in
    rw (ne_eqb b 42 (λ x. omega (arith, x, low)), cut_times w rest h.1) refl

no_times : (w : List ℕ) → list_all high w ≡ true → parts_of 42 w ≡ w ∷ []
unfolding parts_of
no_times [] e = refl
no_times (b ∷ w) e =
    let h = and_parts (high b) (list_all high w) e in
    let low : 48 ≤ b = high_low b h.0 in
    rw (ne_eqb b 42 (λ x. omega (arith, x, low)), no_times w h.1) refl

-- ---- pieces

-- a piece that spells these bytes
record Piece (text bytes : List ℕ) : Type 0 where
  calm : list_all calm text ≡ true
  spelling : list_all spelling text ≡ true
  read : piece_of text ≡ Some bytes

hex_some : (bs : List ℕ) → 0 < length bs → 0 < length (encode_lower bs)
hex_some bs lt = let n = length-encode_with lower_digits bs in omega (arith, n, lt)

digits_piece : (bs : List ℕ) → 0 < length bs → IsBytes bs → Piece (encode_lower bs) bs
unfolding piece_of
digits_piece bs lt h =
    let digits : List ℕ = encode_lower bs in
    record {
      calm = high_calm digits (hex_high bs h);
      spelling = all_spelling digits (hex_high bs h);
      read = ap piece_in (no_times digits (hex_high bs h)) ∙ rw (lt-ltb 0 (length digits) (hex_some bs lt)) (hex_again bs h);
    }

one_byte_again : (b : ℕ) → b < 256 → one_byte (encode_lower (b ∷ [])) ≡ Some b
unfolding encode_with
one_byte_again b lt = ap only (sym (decode_of-even (encode_lower (b ∷ [])) refl) ∙ decode_of-encode_lower (b ∷ []) (bytes_replicate 1 b lt))

repeated_run : (n b : ℕ) → 1 ≤ n → n ≤ RUN_BYTES → repeated n b ≡ Some (replicate n b)
repeated_run n b low most = rw (le-leb 1 n low, le-leb n RUN_BYTES most) refl

run_piece : (n b : ℕ) → 1 ≤ n → n ≤ RUN_BYTES → b < 256 → Piece (decimal n ++ 42 ∷ encode_lower (b ∷ [])) (replicate n b)
unfolding piece_of run_of
run_piece n b low most lt =
    let small : n < 2 ^ 64 = omega (arith, most) in
    let digits : List ℕ = encode_lower (b ∷ []) in
    let number = decimal_high n small in
    let hex = hex_high (b ∷ []) (bytes_replicate 1 b lt) in
    record {
      calm = all_append calm (decimal n) (42 ∷ digits) (high_calm (decimal n) number) (high_calm digits hex);
      spelling = all_append spelling (decimal n) (42 ∷ digits) (all_spelling (decimal n) number) (all_spelling digits hex);
      read = ap piece_in (cut_times (decimal n) digits number ∙ ap (λ (ps : List (List ℕ)). decimal n ∷ ps) (no_times digits hex)) ∙ rw (number_read n small, one_byte_again b lt) (repeated_run n b low most);
    }

-- ---- runs

record IsRun (r : Run) : Type 0 where
  some : 1 ≤ r.count
  few : r.count ≤ RUN_BYTES
  byte : r.byte < 256

abbrev bytes_of : List Run → List ℕ
bytes_of [] = []
bytes_of (r ∷ rs) = replicate r.count r.byte ++ bytes_of rs

-- what the pieces of a text spell
abbrev spelled : List ℕ → Option (List ℕ)
spelled text = pieces_in (parts_of 43 text)

-- the texts, by what stands before them, spell these bytes behind a piece, or behind digits
record Reads (texts : Before → List ℕ) (bytes : List ℕ) : Type 0 where
  piece : (p pb : List ℕ) → Piece p pb → spelled (p ++ texts before.Piece) ≡ Some (pb ++ bytes)
  digits : (bs : List ℕ) → 0 < length bs → IsBytes bs → spelled (encode_lower bs ++ texts before.Digits) ≡ Some (bs ++ bytes)

last_piece : (p pb : List ℕ) → Piece p pb → spelled (p ++ []) ≡ Some (pb ++ [])
last_piece p pb x = ap spelled (append-nil p) ∙ ap pieces_in (one_plus p x.calm) ∙ rw x.read refl

piece_then : (p pb rest bytes : List ℕ) → Piece p pb → spelled rest ≡ Some bytes → spelled (p ++ 43 ∷ rest) ≡ Some (pb ++ bytes)
piece_then p pb rest bytes x h = ap pieces_in (cut_plus p rest x.calm) ∙ rw (x.read, h) refl

-- a run's text, where it is short or isn't
abbrev shown : Bool → Before → Run → List ℕ
shown c what r =
    cond c (digits_text what (encode_lower (replicate r.count r.byte)))
    (piece_text what (decimal r.count ++ 42 ∷ encode_lower (r.byte ∷ [])))

abbrev then_after : Bool → Before
then_after c = cond c before.Digits before.Piece

run_shown : (what : Before) (r : Run) → run_text what r ≡ shown (ltb r.count SHORTEST_RUN) what r
unfolding run_text
run_shown what r = refl

copies_some : (n b : ℕ) → 1 ≤ n → 0 < length (replicate n b)
copies_some n b le = let m = length-replicate n b in omega (arith, m, le)

reads_more : (c : Bool) (r : Run) (rs : List Run) → IsRun r → Reads (λ what. runs_text what rs) (bytes_of rs) → Reads (λ what. shown c what r ++ runs_text (then_after c) rs) (bytes_of (r ∷ rs))
reads_more true r rs run more =
    let copies : List ℕ = replicate r.count r.byte in
    let some = copies_some r.count r.byte run.some in
    let bytes = bytes_replicate r.count r.byte run.byte in
    record {
      piece = λ p pb x. piece_then p pb (encode_lower copies ++ runs_text before.Digits rs) (copies ++ bytes_of rs) x (more.digits copies some bytes);
      digits = λ bs lt h.
          ap spelled (sym (append_assoc (encode_lower bs) (encode_lower copies) (runs_text before.Digits rs)) ∙ ap (λ (t : List ℕ). t ++ runs_text before.Digits rs) (sym (hex_append bs copies)))
          ∙ more.digits (bs ++ copies) (let n = length-append bs copies in omega (arith, n, lt)) (bytes_append bs copies h bytes)
          ∙ ap (λ (t : List ℕ). Some t) (append_assoc bs copies (bytes_of rs));
    }
reads_more false r rs run more =
    let copies : List ℕ = replicate r.count r.byte in
    let text : List ℕ = decimal r.count ++ 42 ∷ encode_lower (r.byte ∷ []) in
    let p = run_piece r.count r.byte run.some run.few run.byte in
    record {
      piece = λ q qb x. piece_then q qb (text ++ runs_text before.Piece rs) (copies ++ bytes_of rs) x (more.piece text copies p);
      digits = λ bs lt h. piece_then (encode_lower bs) bs (text ++ runs_text before.Piece rs) (copies ++ bytes_of rs) (digits_piece bs lt h) (more.piece text copies p);
    }

reads_runs : (rs : List Run) → AllByRecursion IsRun rs → Reads (λ what. runs_text what rs) (bytes_of rs)
reads_runs [] h = record {
  piece = λ p pb x. last_piece p pb x;
  digits = λ bs lt k. last_piece (encode_lower bs) bs (digits_piece bs lt k);
}
reads_runs (r ∷ rs) h =
    let m = reads_more (ltb r.count SHORTEST_RUN) r rs h.0 (reads_runs rs h.1) in
    record {
      piece = λ p pb x. ap (λ (t : List ℕ). spelled (p ++ (t ++ runs_text (after r) rs))) (run_shown before.Piece r) ∙ m.piece p pb x;
      digits = λ bs lt k. ap (λ (t : List ℕ). spelled (encode_lower bs ++ (t ++ runs_text (after r) rs))) (run_shown before.Digits r) ∙ m.digits bs lt k;
    }

first_run : (r : Run) (rs : List Run) → IsRun r → AllByRecursion IsRun rs → spelled (runs_text before.Nothing (r ∷ rs)) ≡ Some (bytes_of (r ∷ rs))
first_run r rs run h = ap (λ (t : List ℕ). spelled (t ++ runs_text (after r) rs)) (run_shown before.Nothing r) ∙ go (ltb r.count SHORTEST_RUN)
  where
    go : (c : Bool) → spelled (shown c before.Nothing r ++ runs_text (then_after c) rs) ≡ Some (bytes_of (r ∷ rs))
    go true = (reads_runs rs h).digits (replicate r.count r.byte) (copies_some r.count r.byte run.some) (bytes_replicate r.count r.byte run.byte)
    go false = (reads_runs rs h).piece (decimal r.count ++ 42 ∷ encode_lower (r.byte ∷ [])) (replicate r.count r.byte) (run_piece r.count r.byte run.some run.few run.byte)

-- the bytes of the words of runs
run_spelling : (what : Before) (r : Run) → IsRun r → list_all spelling (run_text what r) ≡ true
run_spelling what r run = ap (list_all spelling) (run_shown what r) ∙ go (ltb r.count SHORTEST_RUN) what
  where
    go : (c : Bool) (what : Before) → list_all spelling (shown c what r) ≡ true
    go true before.Nothing = (digits_piece (replicate r.count r.byte) (copies_some r.count r.byte run.some) (bytes_replicate r.count r.byte run.byte)).spelling
    go true before.Digits = (digits_piece (replicate r.count r.byte) (copies_some r.count r.byte run.some) (bytes_replicate r.count r.byte run.byte)).spelling
    go true before.Piece = (digits_piece (replicate r.count r.byte) (copies_some r.count r.byte run.some) (bytes_replicate r.count r.byte run.byte)).spelling
    go false before.Nothing = (run_piece r.count r.byte run.some run.few run.byte).spelling
    go false before.Digits = (run_piece r.count r.byte run.some run.few run.byte).spelling
    go false before.Piece = (run_piece r.count r.byte run.some run.few run.byte).spelling

runs_spelling : (what : Before) (rs : List Run) → AllByRecursion IsRun rs → list_all spelling (runs_text what rs) ≡ true
runs_spelling what [] h = refl
runs_spelling what (r ∷ rs) h = all_append spelling (run_text what r) (runs_text (after r) rs) (run_spelling what r h.0) (runs_spelling (after r) rs h.1)

-- ---- the runs of bytes

replicate_last : (n b : ℕ) (rest : List ℕ) → replicate (suc n) b ++ rest ≡ replicate n b ++ b ∷ rest
replicate_last zero b rest = refl
replicate_last (suc n) b rest = ap (λ (t : List ℕ). b ∷ t) (replicate_last n b rest)

one_more : (n b : ℕ) (rest : List ℕ) → replicate (n + 1) b ++ rest ≡ replicate n b ++ b ∷ rest
one_more n b rest = ap (λ (m : ℕ). replicate m b ++ rest) (add-one n) ∙ replicate_last n b rest

runs_bytes : (n b : ℕ) (cs : List ℕ) → bytes_of (runs_from n b cs) ≡ replicate n b ++ cs
runs_bytes n b [] = refl
runs_bytes n b (c ∷ cs) = go (eqb c b) refl (runs_bytes (n + 1) b cs) (runs_bytes 1 c cs)
  where
    go : (e : Bool) → eqb c b ≡ e → bytes_of (runs_from (n + 1) b cs) ≡ replicate (n + 1) b ++ cs → bytes_of (runs_from 1 c cs) ≡ c ∷ cs → bytes_of (cond e (runs_from (n + 1) b cs) (run_with n b ∷ runs_from 1 c cs)) ≡ replicate n b ++ c ∷ cs
    go true e same other = same ∙ one_more n b cs ∙ ap (λ (x : ℕ). replicate n b ++ x ∷ cs) (sym (eqb-true c b e))
    go false e same other = ap (λ (t : List ℕ). replicate n b ++ t) other

runs_lawful : (n b : ℕ) (cs : List ℕ) → 1 ≤ n → n + length cs ≤ RUN_BYTES → b < 256 → IsBytes cs → AllByRecursion IsRun (runs_from n b cs)
runs_lawful n b [] low most lt h = (record { some = low; few = omega (arith, most); byte = lt }, tt)
runs_lawful n b (c ∷ cs) low most lt h =
    go (eqb c b) (runs_lawful (n + 1) b cs (omega arith) (omega (arith, most)) lt (λ i. h (suc i)))
    (runs_lawful 1 c cs (omega arith) (omega (arith, most, low)) (h 0) (λ i. h (suc i)))
  where
    go : (e : Bool) → AllByRecursion IsRun (runs_from (n + 1) b cs) → AllByRecursion IsRun (runs_from 1 c cs) → AllByRecursion IsRun (cond e (runs_from (n + 1) b cs) (run_with n b ∷ runs_from 1 c cs))
    go true same other = same
    go false same other = (record { some = low; few = omega (arith, most); byte = lt }, other)

-- ---- payloads

-- the word of a payload is a word, and spells the payload
pub record IsAgain (bs : List ℕ) : Type 0 where
  pub text : IsText (payload_word bs)
  pub spelled : payload_of (payload_word bs) ≡ Some bs

no_dash : pieces_in (parts_of 43 (codes "-")) ≡ None
unfolding parts_of piece_of
no_dash = refl

no_text : pieces_in (parts_of 43 []) ≡ None
unfolding parts_of piece_of
no_text = refl

abbrev some_bytes : List ℕ → Option (List ℕ)
some_bytes bs = Some bs

never_none : (bs : List ℕ) → some_bytes bs ≡ None → ⊥
never_none bs e = cc

first_spelling : (w bs : List ℕ) → list_all spelling w ≡ true → pieces_in (parts_of 43 w) ≡ Some bs → get_or w 0 35 ≢ 35
first_spelling [] bs h r = absurd (never_none bs (sym r ∙ no_text))
first_spelling (b ∷ w) bs h r =
    let low : 42 ≤ b = leb-true 42 b (and_parts (leb 42 b) (leb b 126) (and_parts (spelling b) (list_all spelling w) h).0).0 in
    λ e. omega (arith, e, low)

of_pieces : (w bs : List ℕ) → pieces_in (parts_of 43 w) ≡ Some bs → payload_of w ≡ Some bs
unfolding payload_of
of_pieces w bs r = rw (isnt_word w (codes "-") (λ d. never_none bs (sym r ∙ ap (λ (v : List ℕ). pieces_in (parts_of 43 v)) d ∙ no_dash))) r

runs_again : (rs : List Run) → AllByRecursion IsRun rs → 0 < length (bytes_of rs) → spelled (runs_text before.Nothing rs) ≡ Some (bytes_of rs)
runs_again [] h lt = absurd (omega arith)
runs_again (r ∷ rs) h lt = first_run r rs h.0 h.1

pub again : (bs : List ℕ) → IsBytes bs → length bs ≤ RUN_BYTES → IsAgain bs
unfolding payload_of payload_word
again [] h few = record { text = text_if (codes "-") refl refl; spelled = refl }
again (b ∷ bs) h few =
    let rs : List Run = runs_from 1 b bs in
    let lawful = runs_lawful 1 b bs (omega arith) (omega (arith, few)) (h 0) (λ i. h (suc i)) in
    let made : bytes_of rs ≡ b ∷ bs = runs_bytes 1 b bs in
    let read : spelled (runs_text before.Nothing rs) ≡ Some (b ∷ bs) = runs_again rs lawful (let n = ap length made in omega (arith, n)) ∙ ap (λ (t : List ℕ). Some t) made in
    let w = runs_spelling before.Nothing rs lawful in
    record {
      text = record { bytes = all_visible (runs_text before.Nothing rs) w; first = first_spelling (runs_text before.Nothing rs) (b ∷ bs) w read };
      spelled = of_pieces (runs_text before.Nothing rs) (b ∷ bs) read;
    }
