-- The written turns, one round and one line more.
use Rattle.std.proofs.Common.{◌≡◌, ℕ, zero, suc, ◌+◌, List, [], ◌∷◌, ◌++◌, get_or, take, refl, ap, sym, ◌∙◌, arith, add-one, append-nil, append_assoc, replicate, subst, Some}
use Rattle.std.specs.List.{slice_get}
use Rattle.std.specs.List.{AllByRecursion}
use Rattle.std.proofs.lemmas.List.{take_more, replicate-append-replicate}
use Rattle.std.proofs.lemmas.Option.{slice_get_within, slice_get-get_or, same_Some}
use Rattle.xp_script.specs.declared.schedule.Plan.{Plan}
use Rattle.xp_script.specs.Lawful.{IsLawfulPlan}
use Rattle.xp_script.specs.Turns.{one_round, some_rounds, plan_parts, written_plans}

one_round-push : (p n : ℕ) → one_round p (suc n) ≡ one_round p n ++ (p + n) ∷ []
unfolding one_round
one_round-push p zero = let e : p ≡ p + 0 = omega arith in ap (λ (x : ℕ). x ∷ []) e
one_round-push p (suc n) =
    let e : p + 1 + n ≡ p + suc n = omega arith in
    ap (λ (xs : List ℕ). p ∷ xs) (one_round-push (p + 1) n ∙ ap (λ (x : ℕ). one_round (p + 1) n ++ x ∷ []) e)

pub one_round-zero : (p : ℕ) → one_round p 0 ≡ []
unfolding one_round
one_round-zero p = refl

pub one_round-more : (n : ℕ) → one_round 0 (n + 1) ≡ one_round 0 n ++ n ∷ []
one_round-more n =
    let e : 0 + n ≡ n = omega arith in
    ap (one_round 0) (add-one n) ∙ one_round-push 0 n ∙ ap (λ (x : ℕ). one_round 0 n ++ x ∷ []) e

pub some_rounds-zero : (count : ℕ) → some_rounds count 0 ≡ []
unfolding some_rounds
some_rounds-zero count = refl

pub some_rounds-more : (count n : ℕ) → some_rounds count (n + 1) ≡ some_rounds count n ++ one_round 0 count
unfolding some_rounds
some_rounds-more count n = ap (some_rounds count) (add-one n)

written_plans-push : (count : ℕ) (xs : List Plan) (x : Plan) → written_plans count (xs ++ x ∷ []) ≡ written_plans count xs ++ plan_parts count x
written_plans-push count [] x = append-nil (plan_parts count x)
written_plans-push count (y ∷ ys) x =
    ap (λ (zs : List ℕ). plan_parts count y ++ zs) (written_plans-push count ys x) ∙ sym (append_assoc (plan_parts count y) (written_plans count ys) (plan_parts count x))

taken_more : (plans : List Plan) (i : ℕ) (x : Plan) → slice_get plans i ≡ Some x → take (i + 1) plans ≡ take i plans ++ x ∷ []
taken_more plans i x e =
    let low = slice_get_within plans i x e in
    let same : get_or plans i x ≡ x = same_Some (get_or plans i x) x (sym (slice_get-get_or plans i x low) ∙ e) in
    take_more plans i x low ∙ ap (λ (y : Plan). take i plans ++ y ∷ []) same

pub written_plans-more : (count : ℕ) (plans : List Plan) (i : ℕ) (x : Plan) → slice_get plans i ≡ Some x → written_plans count (take (i + 1) plans) ≡ written_plans count (take i plans) ++ plan_parts count x
written_plans-more count plans i x e = ap (written_plans count) (taken_more plans i x e) ∙ written_plans-push count (take i plans) x

-- a line of a lawful schedule is lawful
pub plan_lawful : (count : ℕ) (plans : List Plan) (i : ℕ) (x : Plan) → AllByRecursion (IsLawfulPlan count) plans → slice_get plans i ≡ Some x → IsLawfulPlan count x
plan_lawful count [] i x h e = absurd cc
plan_lawful count (y ∷ ys) zero x h e = let d : y ≡ x = cc in subst (λ (z : Plan). IsLawfulPlan count z) d h.0
plan_lawful count (y ∷ ys) (suc i) x h e = plan_lawful count ys i x h.1 e

-- one turn more of a partition
pub turns-more : (p n : ℕ) → replicate (n + 1) p ≡ replicate n p ++ p ∷ []
turns-more p n = sym (replicate-append-replicate n 1 p)
