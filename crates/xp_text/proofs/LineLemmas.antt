-- The first part.
use Rattle.std.proofs.Common.{◌≡◌, ℕ, zero, suc, ◌+◌, ◌-◌, ◌<◌, cond, Bool, List, [], ◌∷◌, length, get_or, take, drop, refl, ap, sym, ◌∙◌, arith, add-one}
use Rattle.std.proofs.lemmas.Bool.{eq-eqb, ne_eqb}
use Rattle.std.proofs.lemmas.List.{take_rest}
use Rattle.xp_text.specs.Lines.{parts_of, grown}

first_part : (s : ℕ) (text : List ℕ) (i : ℕ) → i < length text → get_or text i 0 ≡ s → ((k : ℕ) → k < i → get_or text k 0 ≡ s → ⊥) → parts_of s text ≡ take i text ∷ parts_of s (drop (suc i) text)
unfolding parts_of
first_part s [] i lt at before = absurd (omega arith)
first_part s (b ∷ bs) zero lt at before = ap (λ (c : Bool). cond c ([] ∷ parts_of s bs) (grown b (parts_of s bs))) (eq-eqb b s at)
first_part s (b ∷ bs) (suc i) lt at before =
    let rest : parts_of s bs ≡ take i bs ∷ parts_of s (drop (suc i) bs) = first_part s bs i (omega arith) at (λ k h. before (suc k) (omega arith)) in
    ap (λ (c : Bool). cond c ([] ∷ parts_of s bs) (grown b (parts_of s bs))) (ne_eqb b s (before 0 (omega arith))) ∙ ap (grown b) rest

pub one_part : (s : ℕ) (text : List ℕ) → ((k : ℕ) → k < length text → get_or text k 0 ≡ s → ⊥) → parts_of s text ≡ text ∷ []
unfolding parts_of
one_part s [] h = refl
one_part s (b ∷ bs) h =
    ap (λ (c : Bool). cond c ([] ∷ parts_of s bs) (grown b (parts_of s bs))) (ne_eqb b s (h 0 (omega arith))) ∙ ap (grown b) (one_part s bs (λ k lt. h (suc k) (omega arith)))

pub part_then : (s : ℕ) (text : List ℕ) (i : ℕ) → i < length text → get_or text i 0 ≡ s → ((k : ℕ) → k < i → get_or text k 0 ≡ s → ⊥) → parts_of s text ≡ take i text ∷ parts_of s (take (length text - (i + 1)) (drop (i + 1) text))
part_then s text i lt at before =
    first_part s text i lt at before ∙ ap (λ (r : List ℕ). take i text ∷ parts_of s r) (ap (λ (k : ℕ). drop k text) (sym (add-one i)) ∙ sym (take_rest text (i + 1)))
