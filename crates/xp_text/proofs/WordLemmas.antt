-- The next word of a line.
use Rattle.std.proofs.Common.{◌≡◌, ◌≢◌, ℕ, suc, ◌+◌, ◌<◌, ◌≤◌, cond, Bool, true, false, not, eqb, List, [], ◌∷◌, length, get_or, take, drop, refl, ap, sym, ◌∙◌, arith, length-take}
use Rattle.std.proofs.lemmas.Bool.{eq-eqb, ne_eqb}
use Rattle.std.specs.List.{prefix_len, take_while}
use Rattle.xp_text.specs.Lines.{Word, is_blank, is_solid, words_from}

one_more : (n : ℕ) → 1 + n ≡ suc n
one_more n = omega arith

pub nothing_there : (k : ℕ) → words_from false k [] ≡ []
unfolding words_from
nothing_there k = refl

pub nothing_left : (k j : ℕ) → words_from true k [] ≡ words_from false j []
unfolding words_from
nothing_left k j = refl

pub at_blank : (inside : Bool) (k b : ℕ) (bs : List ℕ) → is_blank b ≡ true → words_from inside k (b ∷ bs) ≡ words_from false (k + 1) bs
unfolding words_from
at_blank inside k b bs e = rw e refl

pub inside_word : (k b : ℕ) (bs : List ℕ) → is_blank b ≡ false → words_from true k (b ∷ bs) ≡ words_from true (k + 1) bs
unfolding words_from
inside_word k b bs e = rw e refl

at_comment : (k b : ℕ) (bs : List ℕ) → is_blank b ≡ false → eqb b 35 ≡ true → words_from false k (b ∷ bs) ≡ []
unfolding words_from
at_comment k b bs e f = rw (e, f) refl

pub at_word : (k b : ℕ) (bs : List ℕ) → is_blank b ≡ false → eqb b 35 ≡ false → words_from false k (b ∷ bs) ≡ record { column = k; bytes = take_while is_solid (b ∷ bs) } ∷ words_from true (k + 1) bs
unfolding words_from
at_word k b bs e f = rw (e, f) refl

-- words begin behind the blanks
pub behind_blanks : (bs : List ℕ) (k : ℕ) → words_from false k bs ≡ words_from false (k + prefix_len is_blank bs) (drop (prefix_len is_blank bs) bs)
behind_blanks [] k = ap (λ (n : ℕ). words_from false n []) (omega arith)
behind_blanks (b ∷ bs) k = go (is_blank b) refl (behind_blanks bs (k + 1))
  where
    go : (c : Bool) → is_blank b ≡ c → words_from false (k + 1) bs ≡ words_from false (k + 1 + prefix_len is_blank bs) (drop (prefix_len is_blank bs) bs) → words_from false k (b ∷ bs) ≡ words_from false (k + cond (is_blank b) (1 + prefix_len is_blank bs) 0) (drop (cond (is_blank b) (1 + prefix_len is_blank bs) 0) (b ∷ bs))
    go true e ih =
        let n : k + 1 + prefix_len is_blank bs ≡ k + (1 + prefix_len is_blank bs) = omega arith in
        rw e (at_blank false k b bs e ∙ ih ∙ ap (λ (m : ℕ). words_from false m (drop (prefix_len is_blank bs) bs)) n ∙ ap (λ (m : ℕ). words_from false (k + (1 + prefix_len is_blank bs)) (drop m (b ∷ bs))) (sym (one_more (prefix_len is_blank bs))))
    go false e ih = rw e (ap (λ (n : ℕ). words_from false n (b ∷ bs)) (omega arith))

-- behind a word that goes on
pub behind_word : (bs : List ℕ) (k : ℕ) → words_from true k bs ≡ words_from false (k + prefix_len is_solid bs) (drop (prefix_len is_solid bs) bs)
behind_word [] k = nothing_left k (k + 0)
behind_word (b ∷ bs) k = go (is_blank b) refl (behind_word bs (k + 1))
  where
    go : (c : Bool) → is_blank b ≡ c → words_from true (k + 1) bs ≡ words_from false (k + 1 + prefix_len is_solid bs) (drop (prefix_len is_solid bs) bs) → words_from true k (b ∷ bs) ≡ words_from false (k + cond (not (is_blank b)) (1 + prefix_len is_solid bs) 0) (drop (cond (not (is_blank b)) (1 + prefix_len is_solid bs) 0) (b ∷ bs))
    go true e ih =
        rw e (at_blank true k b bs e ∙ sym (at_blank false k b bs e) ∙ ap (λ (n : ℕ). words_from false n (b ∷ bs)) (omega arith))
    go false e ih =
        let n : k + 1 + prefix_len is_solid bs ≡ k + (1 + prefix_len is_solid bs) = omega arith in
        rw e (inside_word k b bs e ∙ ih ∙ ap (λ (m : ℕ). words_from false m (drop (prefix_len is_solid bs) bs)) n ∙ ap (λ (m : ℕ). words_from false (k + (1 + prefix_len is_solid bs)) (drop m (b ∷ bs))) (sym (one_more (prefix_len is_solid bs))))

-- what stands behind the blanks doesn't begin with one
pub solid_behind : (bs : List ℕ) (b : ℕ) (more : List ℕ) → drop (prefix_len is_blank bs) bs ≡ b ∷ more → is_blank b ≡ false
solid_behind [] b more e = absurd cc
solid_behind (x ∷ xs) b more e = go (is_blank x) refl (solid_behind xs b more) e
  where
    go : (c : Bool) → is_blank x ≡ c → (drop (prefix_len is_blank xs) xs ≡ b ∷ more → is_blank b ≡ false) → drop (cond (is_blank x) (1 + prefix_len is_blank xs) 0) (x ∷ xs) ≡ b ∷ more → is_blank b ≡ false
    go true f ih h = ih (sym (ap (λ (m : ℕ). drop m (x ∷ xs)) (one_more (prefix_len is_blank xs))) ∙ (rw f at h))
    go false f ih h =
        let g : x ∷ xs ≡ b ∷ more = rw f at h in
        let same : x ≡ b = cc in
        ap is_blank (sym same) ∙ f

-- no byte behind the blanks
pub no_words : (bs from : List ℕ) (k : ℕ) → from ≡ drop (prefix_len is_blank bs) bs → length from ≡ 0 → words_from false k bs ≡ []
no_words bs [] k e h = behind_blanks bs k ∙ ap (words_from false (k + prefix_len is_blank bs)) (sym e) ∙ nothing_there (k + prefix_len is_blank bs)
no_words bs (b ∷ more) k e h = absurd (omega arith)

-- a comment behind the blanks
pub no_words_left : (bs from : List ℕ) (k : ℕ) → from ≡ drop (prefix_len is_blank bs) bs → 0 < length from → get_or from 0 0 ≡ 35 → words_from false k bs ≡ []
no_words_left bs [] k e lt h = absurd (omega arith)
no_words_left bs (b ∷ more) k e lt h =
    behind_blanks bs k ∙ ap (words_from false (k + prefix_len is_blank bs)) (sym e)
    ∙ at_comment (k + prefix_len is_blank bs) b more (solid_behind bs b more (sym e)) (eq-eqb b 35 h)

-- a word behind the blanks
pub one_word : (bs from : List ℕ) (k : ℕ) → from ≡ drop (prefix_len is_blank bs) bs → 0 < length from → get_or from 0 0 ≢ 35
    → words_from false k bs ≡ record { column = k + prefix_len is_blank bs; bytes = take (prefix_len is_solid from) from } ∷ words_from false (k + prefix_len is_blank bs + prefix_len is_solid from) (drop (prefix_len is_solid from) from)
one_word bs [] k e lt h = absurd (omega arith)
one_word bs (b ∷ more) k e lt h =
    let at : ℕ = k + prefix_len is_blank bs in
    let solid : is_blank b ≡ false = solid_behind bs b more (sym e) in
    let len : prefix_len is_solid (b ∷ more) ≡ 1 + prefix_len is_solid more = rw solid refl in
    let n : at + 1 + prefix_len is_solid more ≡ at + prefix_len is_solid (b ∷ more) = omega (arith, len) in
    let rest : drop (prefix_len is_solid (b ∷ more)) (b ∷ more) ≡ drop (prefix_len is_solid more) more = ap (λ (m : ℕ). drop m (b ∷ more)) (len ∙ one_more (prefix_len is_solid more)) in
    behind_blanks bs k ∙ ap (words_from false at) (sym e) ∙ at_word at b more solid (ne_eqb b 35 h)
    ∙ ap (λ (ws : List Word). record { column = at; bytes = take (prefix_len is_solid (b ∷ more)) (b ∷ more) } ∷ ws)
    (behind_word more (at + 1) ∙ ap (λ (m : ℕ). words_from false m (drop (prefix_len is_solid more) more)) n ∙ ap (words_from false (at + prefix_len is_solid (b ∷ more))) (sym rest))

-- the same of what was cut off
pub word_cut : (bs from word rest : List ℕ) (k blanks len : ℕ) → blanks ≡ prefix_len is_blank bs → from ≡ drop blanks bs → len ≡ prefix_len is_solid from → len ≤ length from → word ≡ take len from → rest ≡ drop len from → 0 < length from → get_or from 0 0 ≢ 35
    → words_from false k bs ≡ record { column = k + blanks; bytes = word } ∷ words_from false (k + blanks + length word) rest
word_cut bs from word rest k blanks len eb ef el within ew er lt ne =
    let h = one_word bs from k (ef ∙ ap (λ (n : ℕ). drop n bs) eb) lt ne in
    let n : length word ≡ prefix_len is_solid from = omega (arith, length-take len from, ap length ew, el) in
    let w : word ≡ take (prefix_len is_solid from) from = ew ∙ ap (λ (m : ℕ). take m from) el in
    let r : rest ≡ drop (prefix_len is_solid from) from = er ∙ ap (λ (m : ℕ). drop m from) el in
    rw (eb, n, w, r) h
