-- A run of one entry more: what is wrong with it, and its bodies.
use Rattle.std.proofs.Common.{◌≡◌, ℕ, zero, suc, ◌+◌, ◌-◌, ◌*◌, ◌<◌, ◌≤◌, mul-le-mul_left, List, ◌∷◌, ◌++◌, [], length, take, drop, refl, ap, sym, ◌∙◌, subst, arith, Option, Some, None}
use Rattle.std.proofs.lemmas.List.{length-drop, append_assoc}
use Rattle.xp_base.specs.declared.reason.Reason.{Reason}
use Rattle.xp_base.specs.Entries.{body_of, lines, entry_words}
use Rattle.xp_protocol.specs.Effects.{first_reason}
use Rattle.xp_protocol.specs.Pulling.{entry_fault, run_fault, run_bodies}
use Rattle.xp_pull.specs.Cached.{IsFitting, AreFitting}

take_whole : (n : ℕ) (xs : List ℕ) → length xs ≤ n → take n xs ≡ xs
take_whole zero [] h = refl
take_whole (suc n) [] h = refl
take_whole zero (x ∷ xs) h = absurd (omega (arith, h))
take_whole (suc n) (x ∷ xs) h = ap (λ (ys : List ℕ). x ∷ ys) (take_whole n xs (omega (arith, h)))

pub tail_of : (n : ℕ) (xs : List ℕ) → take (length xs - n) (drop n xs) ≡ drop n xs
tail_of n xs = take_whole (length xs - n) (drop n xs) (omega (arith, length-drop n xs))

-- a run of b entries, whose first one stands apart
less_one : (b : ℕ) → suc b - 1 ≡ b
less_one b = omega arith

pub fault_more : (limit number b : ℕ) (words : List ℕ) → (b ≡ 0 → ⊥) → run_fault limit number b words ≡ first_reason (entry_fault limit number words) (run_fault limit (number + 1) (b - 1) (drop (entry_words limit) words))
fault_more limit number zero words d = absurd (d refl)
fault_more limit number (suc b) words d = ap (λ (k : ℕ). first_reason (entry_fault limit number words) (run_fault limit (number + 1) k (drop (entry_words limit) words))) (sym (less_one b))

pub bodies_more : (limit b : ℕ) (words : List ℕ) → (b ≡ 0 → ⊥) → run_bodies limit b words ≡ body_of words ∷ run_bodies limit (b - 1) (drop (entry_words limit) words)
bodies_more limit zero words d = absurd (d refl)
bodies_more limit (suc b) words d = ap (λ (k : ℕ). body_of words ∷ run_bodies limit k (drop (entry_words limit) words)) (sym (less_one b))

pub fitting_first : (limit b : ℕ) (words : List ℕ) → (b ≡ 0 → ⊥) → AreFitting limit b words → IsFitting limit words
fitting_first limit zero words d h = absurd (d refl)
fitting_first limit (suc b) words d h = h.0

pub fitting_rest : (limit b : ℕ) (words : List ℕ) → (b ≡ 0 → ⊥) → AreFitting limit b words → AreFitting limit (b - 1) (drop (entry_words limit) words)
fitting_rest limit zero words d h = absurd (d refl)
fitting_rest limit (suc b) words d h = subst (λ (k : ℕ). AreFitting limit k (drop (entry_words limit) words)) (sym (less_one b)) h.1

pub fitting_more : (limit b : ℕ) (words : List ℕ) → (b ≡ 0 → ⊥) → IsFitting limit words → AreFitting limit (b - 1) (drop (entry_words limit) words) → AreFitting limit b words
fitting_more limit zero words d h k = absurd (d refl)
fitting_more limit (suc b) words d h k = (h, subst (λ (j : ℕ). AreFitting limit j (drop (entry_words limit) words)) (less_one b) k)

pub length_bodies : (limit b : ℕ) (words : List ℕ) → length (run_bodies limit b words) ≡ b
length_bodies limit zero words = refl
length_bodies limit (suc b) words = ap suc (length_bodies limit b (drop (entry_words limit) words))

-- a run of b entries has the words of one where b isn't 0, and behind it those of the others
pub one_of : (w b : ℕ) → (b ≡ 0 → ⊥) → w ≤ w * b
one_of w zero d = absurd (d refl)
one_of w (suc b) d = omega arith

pub less_of : (w b : ℕ) → (b ≡ 0 → ⊥) → w * b - w ≡ w * (b - 1)
less_of w zero d = absurd (d refl)
less_of w (suc b) d = let e : suc b - 1 ≡ b = less_one b in rw e (rest_times w b)
  where
    rest_times : (w b : ℕ) → w * suc b - w ≡ w * b
    rest_times w b = omega arith

-- the words of a run lie in the queue
pub slot_within : (limit n k run length : ℕ) → n * lines limit ≤ 8 → k + run ≤ n → length < entry_words limit * run → entry_words limit * k + length < 128
slot_within limit n k run length h r l = let p : entry_words limit * (k + run) ≤ entry_words limit * n = mul-le-mul_left (entry_words limit) r in omega (arith, h, l, p)

-- a run of one entry more, as its fault and as its bodies
pub ruleset fault_steps = (one_of, less_of, fault_more, fitting_more)

pub ruleset body_steps = (one_of, less_of, bodies_more, fitting_first, fitting_rest)
