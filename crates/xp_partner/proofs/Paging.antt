-- One more word of a page: the look goes on, or is whole.
use Rattle.std.proofs.Common.{◌≡◌, ℕ, ◌+◌, ◌<◌, Bool, true, false, List, [], ◌∷◌, ◌++◌, length, take, set, Some, None, ap, sym, ◌∙◌, arith}
use Rattle.std.specs.Prelude.{if◌then◌else◌, nat_eq}
use Rattle.std.proofs.lemmas.Bool.{ne_eqb, eq-eqb}
use Rattle.std.proofs.lemmas.List.{take_more_set, length-take-le, length-set, length-append}
use Rattle.std.proofs.Math.Seq.{take-length}
use Rattle.xp_discover.specs.Looking.{look_answer}
use Rattle.xp_partner.specs.Page.{words_after, shown_after}

length_pushed : (words : List ℕ) (n w : ℕ) → length words ≡ 5 → n < 5 → length (take n words ++ w ∷ []) ≡ n + 1
length_pushed words n w l h = length-append (take n words) (w ∷ []) ∙ ap (λ (k : ℕ). k + 1) (length-take-le n words (omega (arith, l, h)))

not_whole : (words : List ℕ) (n w : ℕ) → length words ≡ 5 → n + 1 < 5 → nat_eq (length (take n words ++ w ∷ [])) 5 ≡ false
not_whole words n w l h = ne_eqb (length (take n words ++ w ∷ [])) 5 (λ e. let k = length_pushed words n w l (omega (arith, h)) in omega (arith, k, e, h))

is_whole : (words : List ℕ) (n w : ℕ) → length words ≡ 5 → n + 1 ≡ 5 → nat_eq (length (take n words ++ w ∷ [])) 5 ≡ true
is_whole words n w l h = eq-eqb (length (take n words ++ w ∷ [])) 5 (length_pushed words n w l (omega (arith, h)) ∙ h)

pub words_part : (words : List ℕ) (n w : ℕ) → length words ≡ 5 → n + 1 < 5 → take (n + 1) (set words n w) ≡ words_after (take n words ++ w ∷ [])
words_part words n w l h =
    take_more_set words n w (omega (arith, l, h))
    ∙ sym (ap (λ (b : Bool). if b then [] else take n words ++ w ∷ []) (not_whole words n w l h))

pub shown_part : (words : List ℕ) (n w : ℕ) → length words ≡ 5 → n + 1 < 5 → None ≡ shown_after (take n words ++ w ∷ [])
shown_part words n w l h = sym (ap (λ (b : Bool). if b then Some (look_answer (take n words ++ w ∷ [])) else None) (not_whole words n w l h))

pub words_whole : (words : List ℕ) (n w : ℕ) → length words ≡ 5 → n + 1 ≡ 5 → [] ≡ words_after (take n words ++ w ∷ [])
words_whole words n w l h = sym (ap (λ (b : Bool). if b then [] else take n words ++ w ∷ []) (is_whole words n w l h))

pub shown_whole : (words : List ℕ) (n w : ℕ) → length words ≡ 5 → n + 1 ≡ 5 → Some (look_answer (set words n w)) ≡ shown_after (take n words ++ w ∷ [])
shown_whole words n w l h =
    ap (λ (ws : List ℕ). Some (look_answer ws)) (sym (take-length (set words n w)) ∙ ap (λ (k : ℕ). take k (set words n w)) (length-set words n w ∙ l ∙ sym h) ∙ take_more_set words n w (omega (arith, l, h)))
    ∙ sym (ap (λ (b : Bool). if b then Some (look_answer (take n words ++ w ∷ [])) else None) (is_whole words n w l h))

pub ruleset paging = (words_part, shown_part, words_whole, shown_whole)
