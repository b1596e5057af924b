-- Histories of single steps, and the items of each partition, where they go on by one.
use Rattle.std.proofs.Common.{◌≡◌, ℕ, Bool, true, false, cond, eqb, List, [], ◌∷◌, ◌++◌, map, length, drop, refl, ap, sym, subst, ◌∙◌, append_assoc}
use Rattle.xp_base.specs.Memory.{Memory}
use Rattle.xp_base.specs.History.{Event, Turned, IsAnswer, after_answer, Legal}
use Rattle.xp_base.specs.declared.step.Step.{Step}
use Rattle.xp_base.proofs.HistoryLemmas.{Legal-push}
use Rattle.xp_fabric.specs.declared.part_item.PartItem.{PartItem}
use Rattle.xp_fabric.specs.Steps.{PartStep, PartsBelow, items_of, part_step, turn_of, events_of, steps_from, IsExtendedBy, LegalSteps}

module _ {T : Type 0} where
  cons-append : (b : Bool) (t : T) (xs ys zs : List T) → zs ≡ xs ++ ys → cond b (t ∷ zs) zs ≡ cond b (t ∷ xs) xs ++ ys
  cons-append true t xs ys zs e = ap (λ (r : List T). t ∷ r) e
  cons-append false t xs ys zs e = e

  pub items_of-append : (p : ℕ) (xs ys : List (PartItem T)) → items_of p (xs ++ ys) ≡ items_of p xs ++ items_of p ys
  items_of-append p [] ys = refl
  items_of-append p (x ∷ xs) ys = cons-append (eqb x.part p) x.item (items_of p xs) (items_of p ys) (items_of p (xs ++ ys)) (items_of-append p xs ys)

  pub below-append : (n : ℕ) (xs ys : List (PartItem T)) → PartsBelow n xs → PartsBelow n ys → PartsBelow n (xs ++ ys)
  below-append n [] ys a b = b
  below-append n (x ∷ xs) ys a b = (a.0, below-append n xs ys a.1 b)

pub events_of-push : (xs : List PartStep) (x : PartStep) → events_of (xs ++ x ∷ []) ≡ events_of xs ++ Turned x.part (turn_of x.item) ∷ []
events_of-push [] x = refl
events_of-push (y ∷ ys) x = ap (λ (es : List Event). Turned y.part (turn_of y.item) ∷ es) (events_of-push ys x)

pub map-push : {A B : Type 0} (f : A → B) (xs : List A) (x : A) → map f (xs ++ x ∷ []) ≡ map f xs ++ f x ∷ []
map-push f [] x = refl
map-push f (y ∷ ys) x = ap (λ l. f y ∷ l) (map-push f ys x)

-- one step more, by an answer that the memory gives
pub LegalSteps-push : (xs : List PartStep) (p : ℕ) (s : Step) (a b : Memory) → LegalSteps a xs b → IsAnswer b s.op s.answer → LegalSteps a (xs ++ part_step p s ∷ []) (after_answer b s.op s.answer)
LegalSteps-push xs p s a b h k =
    subst (λ es. Legal a es (after_answer b s.op s.answer)) (sym (events_of-push xs (part_step p s))) (Legal-push (events_of xs) (Turned p (turn_of s)) a b h k)

drop-length_append : {A : Type 0} (xs ys : List A) → drop (length xs) (xs ++ ys) ≡ ys
drop-length_append [] ys = refl
drop-length_append (x ∷ xs) ys = drop-length_append xs ys

steps-part_step : (p : ℕ) (ss : List Step) → map (λ (x : PartStep). x.item) (map (part_step p) ss) ≡ ss
steps-part_step p [] = refl
steps-part_step p (s ∷ ss) = ap (λ (l : List Step). s ∷ l) (steps-part_step p ss)

pub steps_from-part_step : (p : ℕ) (xs : List PartStep) (ss : List Step) → steps_from (length xs) (xs ++ map (part_step p) ss) ≡ ss
steps_from-part_step p xs ss = ap (map (λ (x : PartStep). x.item)) (drop-length_append xs (map (part_step p) ss)) ∙ steps-part_step p ss

extended-split : (p : ℕ) (xs ys : List PartStep) (s : Step) → IsExtendedBy p xs ys → ys ++ part_step p s ∷ [] ≡ xs ++ map (part_step p) (steps_from (length xs) ys ++ s ∷ [])
extended-split p xs ys s h =
    ap (λ (l : List PartStep). l ++ part_step p s ∷ []) h ∙ (append_assoc xs (map (part_step p) (steps_from (length xs) ys)) (part_step p s ∷ [])
    ∙ ap (λ (l : List PartStep). xs ++ l) (sym (map-push (part_step p) (steps_from (length xs) ys) s)))

-- the steps that were made since are one more
pub steps_from-push : (p : ℕ) (xs ys : List PartStep) (s : Step) → IsExtendedBy p xs ys → steps_from (length xs) (ys ++ part_step p s ∷ []) ≡ steps_from (length xs) ys ++ s ∷ []
steps_from-push p xs ys s h = ap (steps_from (length xs)) (extended-split p xs ys s h) ∙ steps_from-part_step p xs (steps_from (length xs) ys ++ s ∷ [])

pub extended-push : (p : ℕ) (xs ys : List PartStep) (s : Step) → IsExtendedBy p xs ys → IsExtendedBy p xs (ys ++ part_step p s ∷ [])
extended-push p xs ys s h = extended-split p xs ys s h ∙ ap (λ (l : List Step). xs ++ map (part_step p) l) (sym (steps_from-push p xs ys s h))
