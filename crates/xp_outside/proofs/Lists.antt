-- Fronts and rests of lists.
use Rattle.std.proofs.Common.{◌≡◌, ℕ, zero, suc, ◌+◌, ◌-◌, ◌≤◌, List, [], ◌∷◌, ◌++◌, length, take, drop, ap, sym, ◌∙◌, arith, length-drop}
use Rattle.std.proofs.Math.Seq.{take-nil, take-length, take-append_seam}
use Rattle.std.proofs.lemmas.List.{take-append-drop, drop-drop}

-- two fronts, one after the other, are one front
take-joined : (n m : ℕ) (xs : List ℕ) → take n xs ++ take m (drop n xs) ≡ take (n + m) xs
take-joined zero m xs = ap (λ (k : ℕ). take k xs) (omega arith)
take-joined (suc n) m [] = take-nil m ∙ sym (take-nil (suc n + m))
take-joined (suc n) m (x ∷ xs) = ap (λ (r : List ℕ). x ∷ r) (take-joined n m xs) ∙ ap (λ (k : ℕ). take k (x ∷ xs)) (let e : suc (n + m) ≡ suc n + m = omega arith in e)

take-rest : (n : ℕ) (xs : List ℕ) → take (length xs - n) (drop n xs) ≡ drop n xs
take-rest n xs = ap (λ (k : ℕ). take k (drop n xs)) (sym (length-drop n xs)) ∙ take-length (drop n xs)

-- what a write took after n bytes makes a longer front
pub take-written : (n m : ℕ) (xs : List ℕ) → take n xs ++ take m (take (length xs - n) (drop n xs)) ≡ take (n + m) xs
take-written n m xs = ap (λ (ys : List ℕ). take n xs ++ take m ys) (take-rest n xs) ∙ take-joined n m xs

pub fits_written : (n m : ℕ) (xs : List ℕ) → n ≤ length xs → m ≤ length (take (length xs - n) (drop n xs)) → n + m ≤ length xs
fits_written n m xs h k = omega (arith, h, k, length-drop n xs, ap length (take-rest n xs))

-- what was moved to the front of a piece, and then what is left
pub drop-moved : (items : List ℕ) (given n : ℕ) (moved rest : List ℕ) → length moved ≡ n → moved ≡ take n (drop given items) → drop given items ≡ take n (moved ++ rest) ++ drop (given + n) items
drop-moved items given n moved rest h e =
    let front : take n (moved ++ rest) ≡ moved = ap (λ (k : ℕ). take k (moved ++ rest)) (sym h) ∙ take-append_seam moved rest in
    sym (take-append-drop n (drop given items)) ∙ ap (λ (l : List ℕ). l ++ drop n (drop given items)) (sym e ∙ sym front) ∙ ap (λ (l : List ℕ). take n (moved ++ rest) ++ l) (drop-drop n given items)
