-- Words that are written with a space between them are read again.
use Rattle.std.proofs.Common.{◌≡◌, ◌≢◌, ℕ, ◌+◌, ◌-◌, ◌*◌, ◌%◌, ◌^◌, ◌<◌, ◌≤◌, Bool, true, false, ltb, leb, eqb, ◌&&◌, List, [], ◌∷◌, ◌++◌, length, get_or, take, refl, sym, ap, ◌∙◌, arith, append_assoc, Some}
use Rattle.std.specs.Fmt.{decimal}
use Rattle.std.specs.List.{list_all, AllByRecursion, prefix_len}
use Rattle.std.proofs.lemmas.Bool.{and_parts, lt-ltb, le-leb, leb-true, ne_eqb, eqb-false}
use Rattle.std.proofs.lemmas.List.{take_at, append-nil, length-append}
use Rattle.std.proofs.lemmas.Fmt.{decimal_by_steps}
use Rattle.xp_text.specs.Lines.{Word, is_blank, is_solid, words_from, parts_of}
use Rattle.xp_text.specs.Numbers.{is_digit, value_from, digits_of}
use Rattle.xp_text.proofs.WordLemmas.{at_blank, inside_word, at_word, nothing_there, nothing_left}
use Rattle.xp_forms.specs.Forms.{is_ascii}
use Rattle.xp_print.specs.Lines.{line_text}

-- ---- bytes of words

-- a printing byte, but no space
abbrev pub visible : ℕ → Bool
visible b = leb 33 b && leb b 126

pub visible_solid : (b : ℕ) → visible b ≡ true → is_blank b ≡ false
visible_solid b e =
    let h = and_parts (leb 33 b) (leb b 126) e in
    let low : 33 ≤ b = leb-true 33 b h.0 in
    rw (ne_eqb b 32 (λ x. omega (arith, x, low)), ne_eqb b 9 (λ x. omega (arith, x, low)), ne_eqb b 13 (λ x. omega (arith, x, low))) refl

visible_plain : (b : ℕ) → visible b ≡ true → ltb b 128 ≡ true
visible_plain b e =
    let h = and_parts (leb 33 b) (leb b 126) e in
    let high : b ≤ 126 = leb-true b 126 h.1 in
    lt-ltb b 128 (omega (arith, high))

digit_visible : (b : ℕ) → is_digit b ≡ true → visible b ≡ true
digit_visible b e =
    let h = and_parts (leb 48 b) (leb b 57) e in
    let low : 48 ≤ b = leb-true 48 b h.0 in
    let high : b ≤ 57 = leb-true b 57 h.1 in
    rw (le-leb 33 b (omega (arith, low)), le-leb b 126 (omega (arith, high))) refl

pub all_plain : (w : List ℕ) → list_all visible w ≡ true → is_ascii w ≡ true
all_plain [] e = refl
all_plain (b ∷ w) e = let h = and_parts (visible b) (list_all visible w) e in rw (visible_plain b h.0, all_plain w h.1) refl

all_visible : (w : List ℕ) → list_all is_digit w ≡ true → list_all visible w ≡ true
all_visible [] e = refl
all_visible (b ∷ w) e = let h = and_parts (is_digit b) (list_all is_digit w) e in rw (digit_visible b h.0, all_visible w h.1) refl

-- what is read as a word again: visible bytes, the first no `#`
pub record IsText (w : List ℕ) : Type 0 where
  pub bytes : list_all visible w ≡ true
  pub first : get_or w 0 35 ≢ 35

-- by two tests that compute
pub text_if : (w : List ℕ) → list_all visible w ≡ true → eqb (get_or w 0 35) 35 ≡ false → IsText w
text_if w e f = record { bytes = e; first = eqb-false (get_or w 0 35) 35 f }

-- ---- numbers

pub record IsNumber (n : ℕ) (ds : List ℕ) : Type 0 where
  pub digits : list_all is_digit ds ≡ true
  pub value : value_from 0 ds ≡ n
  pub some : 0 < length ds

digit_is : (n : ℕ) → n < 10 → is_digit (48 + n) ≡ true
digit_is n lt = rw (le-leb 48 (48 + n) (omega arith), le-leb (48 + n) 57 (omega arith)) refl

all_more : (ds : List ℕ) (d : ℕ) → list_all is_digit ds ≡ true → is_digit d ≡ true → list_all is_digit (ds ++ d ∷ []) ≡ true
all_more [] d e f = rw f refl
all_more (b ∷ ds) d e f = let h = and_parts (is_digit b) (list_all is_digit ds) e in rw (h.0, all_more ds d h.1 f) refl

value_more : (m : ℕ) (ds : List ℕ) (d : ℕ) → value_from m (ds ++ d ∷ []) ≡ 10 * value_from m ds + (d - 48)
value_more m [] d = refl
value_more m (b ∷ ds) d = value_more (10 * m + (b - 48)) ds d

pub number_text : (n : ℕ) → n < 2 ^ 64 → IsNumber n (decimal n)
number_text n lt = decimal_by_steps IsNumber
    (λ m h. record { digits = rw (digit_is m h) refl; value = omega arith; some = omega arith })
    (λ m ds h p. record { digits = all_more ds (48 + m % 10) p.digits (digit_is (m % 10) (omega arith)); value = value_more 0 ds (48 + m % 10) ∙ (let v = p.value in omega (arith, v)); some = omega (arith, length-append ds ((48 + m % 10) ∷ [])) })
    n lt

pub number_read : (n : ℕ) → n < 2 ^ 64 → digits_of (decimal n) ≡ Some n
unfolding digits_of
number_read n lt = let h = number_text n lt in rw (h.digits, h.value) refl

first_digit : (ds : List ℕ) → list_all is_digit ds ≡ true → 0 < length ds → get_or ds 0 35 ≢ 35
first_digit [] e lt h = omega arith
first_digit (b ∷ ds) e lt h = let d = and_parts (is_digit b) (list_all is_digit ds) e in let low : 48 ≤ b = leb-true 48 b (and_parts (leb 48 b) (leb b 57) d.0).0 in omega (arith, low, h)

pub number_is_text : (n : ℕ) → n < 2 ^ 64 → IsText (decimal n)
number_is_text n lt = let h = number_text n lt in record { bytes = all_visible (decimal n) h.digits; first = first_digit (decimal n) h.digits h.some }

-- ---- words and spaces

-- words with a space between them
abbrev pub joined : List (List ℕ) → List ℕ
joined [] = []
joined (w ∷ []) = w
joined (w ∷ v ∷ ws) = w ++ 32 ∷ joined (v ∷ ws)

inside_then : (v rest : List ℕ) (k : ℕ) → list_all visible v ≡ true → words_from true k (v ++ 32 ∷ rest) ≡ words_from false (k + length v + 1) rest
inside_then [] rest k e = at_blank true k 32 rest refl ∙ ap (λ (n : ℕ). words_from false n rest) (omega arith)
inside_then (b ∷ v) rest k e =
    let h = and_parts (visible b) (list_all visible v) e in
    inside_word k b (v ++ 32 ∷ rest) (visible_solid b h.0) ∙ inside_then v rest (k + 1) h.1 ∙ ap (λ (n : ℕ). words_from false n rest) (omega arith)

inside_end : (v : List ℕ) (k : ℕ) → list_all visible v ≡ true → words_from true k v ≡ []
inside_end [] k e = nothing_left k k ∙ nothing_there k
inside_end (b ∷ v) k e = let h = and_parts (visible b) (list_all visible v) e in inside_word k b v (visible_solid b h.0) ∙ inside_end v (k + 1) h.1

solid_len : (v rest : List ℕ) → list_all visible v ≡ true → prefix_len is_solid (v ++ 32 ∷ rest) ≡ length v
solid_len [] rest e = refl
solid_len (b ∷ v) rest e = let h = and_parts (visible b) (list_all visible v) e in rw (visible_solid b h.0) (let n = solid_len v rest h.1 in omega (arith, n))

solid_all : (v : List ℕ) → list_all visible v ≡ true → prefix_len is_solid v ≡ length v
solid_all [] e = refl
solid_all (b ∷ v) e = let h = and_parts (visible b) (list_all visible v) e in rw (visible_solid b h.0) (let n = solid_all v h.1 in omega (arith, n))

-- the words at their columns
abbrev pub placed : ℕ → List (List ℕ) → List Word
placed k [] = []
placed k (w ∷ ws) = record { column = k; bytes = w } ∷ placed (k + length w + 1) ws

pub lexed : (ws : List (List ℕ)) (k : ℕ) → AllByRecursion IsText ws → words_from false k (joined ws) ≡ placed k ws
lexed [] k h = nothing_there k
lexed ([] ∷ ws) k h = absurd (h.0.first refl)
lexed ((b ∷ v) ∷ []) k h =
    let e = and_parts (visible b) (list_all visible v) h.0.bytes in
    let n : prefix_len is_solid (b ∷ v) ≡ length (b ∷ v) = solid_all (b ∷ v) h.0.bytes in
    let t : take (prefix_len is_solid (b ∷ v)) (b ∷ v) ≡ b ∷ v = ap (λ (xs : List ℕ). take (prefix_len is_solid (b ∷ v)) xs) (sym (append-nil (b ∷ v))) ∙ take_at (b ∷ v) [] (prefix_len is_solid (b ∷ v)) (sym n) in
    at_word k b v (visible_solid b e.0) (ne_eqb b 35 h.0.first) ∙ rw (t, inside_end v (k + 1) e.1) refl
lexed ((b ∷ v) ∷ w ∷ ws) k h =
    let e = and_parts (visible b) (list_all visible v) h.0.bytes in
    let rest : List ℕ = joined (w ∷ ws) in
    let t : take (prefix_len is_solid (b ∷ v ++ 32 ∷ rest)) (b ∷ v ++ 32 ∷ rest) ≡ b ∷ v = take_at (b ∷ v) (32 ∷ rest) (prefix_len is_solid (b ∷ v ++ 32 ∷ rest)) (sym (solid_len (b ∷ v) rest h.0.bytes)) in
    let i = inside_then v rest (k + 1) e.1 in
    let n : k + 1 + length v + 1 ≡ k + length (b ∷ v) + 1 = omega arith in
    at_word k b (v ++ 32 ∷ rest) (visible_solid b e.0) (ne_eqb b 35 h.0.first) ∙ rw (t, i, n, lexed (w ∷ ws) (k + length (b ∷ v) + 1) h.1) refl

-- ---- lines and their ends

pub line_joined : (ws : List (List ℕ)) → line_text ws ≡ joined ws ++ 10 ∷ []
line_joined [] = refl
line_joined (w ∷ []) = refl
line_joined (w ∷ v ∷ ws) = ap (λ (t : List ℕ). w ++ 32 ∷ t) (line_joined (v ∷ ws)) ∙ sym (append_assoc w (32 ∷ joined (v ∷ ws)) (10 ∷ []))

-- no byte that ends a line
abbrev inline : ℕ → Bool
inline b = leb 32 b && leb b 126

visible_inline : (w : List ℕ) → list_all visible w ≡ true → list_all inline w ≡ true
visible_inline [] e = refl
visible_inline (b ∷ w) e =
    let h = and_parts (visible b) (list_all visible w) e in
    let k = and_parts (leb 33 b) (leb b 126) h.0 in
    let low : 33 ≤ b = leb-true 33 b k.0 in
    rw (le-leb 32 b (omega (arith, low)), k.1, visible_inline w h.1) refl

pub all_append : (f : ℕ → Bool) (v w : List ℕ) → list_all f v ≡ true → list_all f w ≡ true → list_all f (v ++ w) ≡ true
all_append f [] w e g = g
all_append f (b ∷ v) w e g = let h = and_parts (f b) (list_all f v) e in rw (h.0, all_append f v w h.1 g) refl

joined_inline : (ws : List (List ℕ)) → AllByRecursion IsText ws → list_all inline (joined ws) ≡ true
joined_inline [] h = refl
joined_inline (w ∷ []) h = visible_inline w h.0.bytes
joined_inline (w ∷ v ∷ ws) h = all_append inline w (32 ∷ joined (v ∷ ws)) (visible_inline w h.0.bytes) (joined_inline (v ∷ ws) h.1)

cut_end : (line rest : List ℕ) → list_all inline line ≡ true → parts_of 10 (line ++ 10 ∷ rest) ≡ line ∷ parts_of 10 rest
unfolding parts_of
cut_end [] rest e = refl
cut_end (b ∷ line) rest e =
    let h = and_parts (inline b) (list_all inline line) e in
    let low : 32 ≤ b = leb-true 32 b (and_parts (leb 32 b) (leb b 126) h.0).0 in
    rw (ne_eqb b 10 (λ x. omega (arith, x, low)), cut_end line rest h.1) refl

-- a line that is written is cut off before what follows
pub cut_line : (ws : List (List ℕ)) (rest : List ℕ) → AllByRecursion IsText ws → parts_of 10 (line_text ws ++ rest) ≡ joined ws ∷ parts_of 10 rest
cut_line ws rest h =
    ap (λ (t : List ℕ). parts_of 10 (t ++ rest)) (line_joined ws) ∙ ap (parts_of 10) (append_assoc (joined ws) (10 ∷ []) rest)
    ∙ cut_end (joined ws) rest (joined_inline ws h)
