-- Each of the seven kinds of step on the shared words keeps their rule.
use Rattle.std.proofs.Common.{◌≡◌, ◌≢◌, ◌⊎◌, ℕ, zero, suc, ◌+◌, ◌*◌, ◌/◌, ◌%◌, ◌<◌, Bool, cond, eqb, eq-eqb, ne_eqb, List, [], ◌∷◌, ◌++◌, length, get_or, set, bit_or, bit_and, refl, ap, sym, subst, ◌∙◌, ⊎_elim, inl, inr, append-nil, mul_comm, arith}
use Rattle.std.proofs.lemmas.List.{set-get_or, length-set}
use Rattle.std.proofs.lemmas.Nat.{div-mul-add, mod-mul-add}
use mathlib.Core.Option.{some, none, some-injective, some-ne-none}
use lib.ListN.{get_elem?}
use Rattle.atomic_table.specs.Table.{State, Me, keeps, step, stepped, Allows, Splits, Joins, opening}
use Rattle.atomic_table.proofs.Lists.{at_set, set_again}
use Rattle.xp_base.specs.declared.step.Op.{Op}
use Rattle.xp_base.specs.declared.step.OpKind.{OpKind}
use Rattle.xp_base.specs.declared.step.OpKind.TheVariants.{Load, Store, Or, And, Take}
use Rattle.xp_base.specs.declared.step.Answer.TheVariants.{Word}
use Rattle.xp_base.specs.declared.step.Step.{Step}
use Rattle.xp_base.specs.Memory.{Memory, word_at, put_at, answer_of, after_kind}
use Rattle.xp_base.specs.Rows.{rows}
use Rattle.xp_base.proofs.RowLemmas.{rows-word, rows-set}
use Rattle.xp_fabric.specs.declared.rule.PartSteps.{PartSteps}
use Rattle.xp_fabric.specs.Steps.{PartStep, part_step, step_of, items_of, LegalSteps}
use Rattle.xp_fabric.specs.Rule.{View, part_steps, fresh_parts, first_part, other_parts, Lacks, Knows, HistoryHolds, StandsForOne, op_at, AddsStep, LoadAdds, StoreAdds, OrAdds, AndAdds, TakeAdds}
use Rattle.xp_fabric.proofs.StepLemmas.{LegalSteps-push, items_of-append, below-append}

abbrev pub op_of : ℕ → ℕ → OpKind → Op
op_of o i k = record { owner = o; index = i; kind = k }

pub op_at-is : (size o i : ℕ) (k : OpKind) → i < size → op_at size (size * o + i) k ≡ op_of o i k
op_at-is size o i k low =
    let e : size * o + i ≡ o * size + i = ap (λ (z : ℕ). z + i) (mul_comm size o) in
    let d : (size * o + i) / size ≡ o = ap (λ (z : ℕ). z / size) e ∙ div-mul-add o size i low in
    let m : (size * o + i) % size ≡ i = ap (λ (z : ℕ). z % size) e ∙ mod-mul-add o size i low in
    λ j. op_of (d j) (m j) k

-- the word after a step of this kind
abbrev pub new_word : OpKind → ℕ → ℕ
new_word Load n = n
new_word (Store v) n = v
new_word (Or v) n = bit_or n v
new_word (And v) n = bit_and n v
new_word Take n = 0

rows_put : (size n : ℕ) (ws : List ℕ) (o i : ℕ) (k : OpKind) → o < n → i < size → length ws ≡ size * n
    → rows size n (set ws (size * o + i) (new_word k (get_or ws (size * o + i) 0))) ≡ after_kind (rows size n ws) o i k
rows_put size n ws o i Load h l e = ap (rows size n) (set-get_or ws (size * o + i) 0)
rows_put size n ws o i (Store v) h l e = rows-set size n ws o i v h l e
rows_put size n ws o i (Or v) h l e = rows-set size n ws o i (bit_or (get_or ws (size * o + i) 0) v) h l e ∙ ap (λ (w : ℕ). put_at (rows size n ws) o i (bit_or w v)) (sym (rows-word size n ws o i h l))
rows_put size n ws o i (And v) h l e = rows-set size n ws o i (bit_and (get_or ws (size * o + i) 0) v) h l e ∙ ap (λ (w : ℕ). put_at (rows size n ws) o i (bit_and w v)) (sym (rows-word size n ws o i h l))
rows_put size n ws o i Take h l e = rows-set size n ws o i 0 h l e

items_of-own : (p : ℕ) (s : Step) (xs : List PartStep) → items_of p (xs ++ part_step p s ∷ []) ≡ items_of p xs ++ s ∷ []
items_of-own p s xs = items_of-append p xs (part_step p s ∷ []) ∙ ap (λ (b : Bool). items_of p xs ++ cond b (s ∷ []) []) (eq-eqb p p refl)

items_of-other : (p q : ℕ) (s : Step) (xs : List PartStep) → p ≢ q → items_of q (xs ++ part_step p s ∷ []) ≡ items_of q xs
items_of-other p q s xs ne = items_of-append q xs (part_step p s ∷ []) ∙ (ap (λ (b : Bool). items_of q xs ++ cond b (s ∷ []) []) (ne_eqb p q ne) ∙ append-nil (items_of q xs))

-- what another seat knows stays
still_known : (n p id : ℕ) (s : Step) (xs : List PartStep) (seat : ℕ → ℕ) (j : ℕ) (v : View) → seat p ≡ id → j ≢ id → Knows n xs seat j v → Knows n (xs ++ part_step p s ∷ []) seat j v
still_known n p id s xs seat j [] own other h = tt
still_known n p id s xs seat j (k ∷ ks) own other h =
    let apart : p ≢ k.part = λ e. other (sym h.0.2 ∙ (ap seat (sym e) ∙ own)) in
    ((h.0.0, h.0.1 ∙ sym (items_of-other p k.part s xs apart), h.0.2, h.0.3), still_known n p id s xs seat j ks own other h.1)

abbrev step_made : ℕ → ℕ → OpKind → ℕ → Step
step_made o i k n = step_of (op_of o i k) (Word (answer_of k n))

abbrev after : ℕ → ℕ → OpKind → PartSteps → ℕ → View
after o i k x n = part_steps x.part (x.steps ++ step_made o i k n ∷ []) ∷ []

module _ (size : ℕ) (m₀ : Memory) (id : ℕ) (own : PartSteps) (o i : ℕ) (k : OpKind) (c : List (ℕ × ℕ)) (low : o < length m₀) (within : i < size) where
  abbrev p : ℕ
  p = own.part

  abbrev place : ℕ
  place = size * o + i

  held : (s : State ℕ View) → HistoryHolds size m₀ s → get_elem? s.views id ≡ some (own ∷ [])
      → HistoryHolds size m₀ (stepped s place (new_word k (get_or s.words place 0)) id c (after o i k own (get_or s.words place 0)) keeps)
  held s h at =
      let n = length m₀ in
      let old = get_or s.words place 0 in
      let x = step_made o i k old in
      let own_is = h.knows id (own ∷ []) at in
      let word : old ≡ word_at (rows size n s.words) o i = sym (rows-word size n s.words o i low within) in
      let put = rows_put size n s.words o i k low within h.word_count in
      record {
        history = h.history ++ part_step p x ∷ [];
        seat_of = h.seat_of;
        legal = subst (LegalSteps m₀ (h.history ++ part_step p x ∷ [])) (sym put) (LegalSteps-push h.history p x m₀ (rows size n s.words) h.legal (ap (answer_of k) word));
        word_count = length-set s.words place (new_word k old) ∙ h.word_count;
        below = below-append n h.history (part_step p x ∷ []) h.below (own_is.0.0, tt);
        knows = λ j v e. ⊎_elim
            (λ (t : (j ≡ id) × (after o i k own old ≡ v)). subst (Knows n (h.history ++ part_step p x ∷ []) h.seat_of j) t.1 ((own_is.0.0, ap (λ (l : List Step). l ++ x ∷ []) own_is.0.1 ∙ sym (items_of-own p x h.history), own_is.0.2 ∙ sym t.0, tt), tt))
            (λ (t : (j ≢ id) × (get_elem? s.views j ≡ some v)). still_known n p id x h.history h.seat_of j v own_is.0.2 t.0 (h.knows j v t.1))
            (at_set s.views id j (after o i k own old) v e);
      }

  allows : (slots : ℕ) (then : ℕ → Me ℕ View → Type 0) → ((n : ℕ) → then n (after o i k own n, c)) → Allows (HistoryHolds size m₀) slots id (own ∷ [], c) place (new_word k) then
  allows slots then told s h homes at fits = (after o i k own (get_or s.words place 0), keeps, tt, held s h at, told (get_or s.words place 0))

  adds : (n : ℕ) → AddsStep (own ∷ [], c) (step_of (op_at size place k) (Word (answer_of k n))) (after o i k own n, c)
  adds n = ap (λ (q : Op). (part_steps p (own.steps ++ step_of q (Word (answer_of k n)) ∷ []) ∷ [], c)) (sym (op_at-is size o i k within))

-- what the five steps on the words ask
module _ (size : ℕ) (m₀ : Memory) (slots id o i : ℕ) (me : Me ℕ View) (low : o < length m₀) (within : i < size) (one : StandsForOne me) where
  abbrev at : ℕ
  at = size * o + i

  abbrev x : PartSteps
  x = one.0

  pub loads : Allows (HistoryHolds size m₀) slots id me at (λ n. n) (LoadAdds size (step slots at 0 0 none) me)
  loads = subst (λ (m : Me ℕ View). Allows (HistoryHolds size m₀) slots id m at (λ n. n) (LoadAdds size (step slots at 0 0 none) m)) (sym one.1)
      (allows size m₀ id x o i Load [] low within slots (LoadAdds size (step slots at 0 0 none) (x ∷ [], [])) (adds size m₀ id x o i Load [] low within))

  pub stores : (v : ℕ) → Allows (HistoryHolds size m₀) slots id me at (λ _. v) (λ _. StoreAdds size (step slots at v 0 none) me v)
  stores v = subst (λ (m : Me ℕ View). Allows (HistoryHolds size m₀) slots id m at (λ _. v) (λ _. StoreAdds size (step slots at v 0 none) m v)) (sym one.1)
      (allows size m₀ id x o i (Store v) [] low within slots (λ _. StoreAdds size (step slots at v 0 none) (x ∷ [], []) v) (adds size m₀ id x o i (Store v) [] low within))

  pub ors : (v : ℕ) → Allows (HistoryHolds size m₀) slots id me at (λ n. bit_or n v) (OrAdds size (step slots at v 0 none) me)
  ors v = subst (λ (m : Me ℕ View). Allows (HistoryHolds size m₀) slots id m at (λ n. bit_or n v) (OrAdds size (step slots at v 0 none) m)) (sym one.1)
      (allows size m₀ id x o i (Or v) [] low within slots (OrAdds size (step slots at v 0 none) (x ∷ [], [])) (adds size m₀ id x o i (Or v) [] low within))

  pub ands : (v : ℕ) → Allows (HistoryHolds size m₀) slots id me at (λ n. bit_and n v) (AndAdds size (step slots at v 0 none) me)
  ands v = subst (λ (m : Me ℕ View). Allows (HistoryHolds size m₀) slots id m at (λ n. bit_and n v) (AndAdds size (step slots at v 0 none) m)) (sym one.1)
      (allows size m₀ id x o i (And v) [] low within slots (AndAdds size (step slots at v 0 none) (x ∷ [], [])) (adds size m₀ id x o i (And v) [] low within))

  pub takes : Allows (HistoryHolds size m₀) slots id me at (λ _. 0) (TakeAdds size (step slots at 0 0 none) me)
  takes = subst (λ (m : Me ℕ View). Allows (HistoryHolds size m₀) slots id m at (λ _. 0) (TakeAdds size (step slots at 0 0 none) m)) (sym one.1)
      (allows size m₀ id x o i Take [] low within slots (TakeAdds size (step slots at 0 0 none) (x ∷ [], [])) (adds size m₀ id x o i Take [] low within))

lacks-fresh_parts : (p q k : ℕ) → q < p → Lacks q (fresh_parts p k)
lacks-fresh_parts p q zero h = tt
lacks-fresh_parts p q (suc k) h = ((λ e. let f : p ≡ q = e in absurd (omega arith)), lacks-fresh_parts (suc p) q k (omega arith))

knows-fresh_parts : (n p k : ℕ) → p + k ≡ n → Knows n [] (λ _. 0) 0 (fresh_parts p k)
knows-fresh_parts n p zero e = tt
knows-fresh_parts n p (suc k) e = ((omega arith, refl, refl, lacks-fresh_parts (suc p) p k (omega arith)), knows-fresh_parts n (suc p) k (omega arith))

only_first : (j : ℕ) (u v : View) → get_elem? (u ∷ []) j ≡ some v → (j ≡ 0) × (u ≡ v)
only_first zero u v e = (refl, some-injective u v e)
only_first (suc j) u v e = absurd (some-ne-none v (sym e))

-- the rule holds at the opening
pub opens : (size : ℕ) (m : Memory) (ws : List ℕ) → rows size (length m) ws ≡ m → length ws ≡ size * length m → HistoryHolds size m (opening ws [] (fresh_parts 0 (length m)))
opens size m ws is size_is = record {
  history = [];
  seat_of = λ _. 0;
  legal = is;
  word_count = size_is;
  below = tt;
  knows = λ j v e. let o = only_first j (fresh_parts 0 (length m)) v e in
      subst (λ (k : ℕ). Knows (length m) [] (λ _. 0) k v) (sym o.0) (subst (Knows (length m) [] (λ _. 0) 0) o.1 (knows-fresh_parts (length m) 0 (length m) (omega arith)));
}

at_end : {A : Type 0} (l : List A) (a b : A) (j : ℕ) → get_elem? (l ++ a ∷ []) j ≡ some b → (get_elem? l j ≡ some b) ⊎ ((j ≡ length l) × (a ≡ b))
at_end [] a b zero e = inr (refl, some-injective a b e)
at_end [] a b (suc j) e = absurd (some-ne-none b (sym e))
at_end (x ∷ xs) a b zero e = inl e
at_end (x ∷ xs) a b (suc j) e = ⊎_elim inl (λ (t : (j ≡ length xs) × (a ≡ b)). inr (ap suc t.0, t.1)) (at_end xs a b j e)

moved_to : ℕ → ℕ → (ℕ → ℕ) → ℕ → ℕ
moved_to p to seat q = cond (eqb q p) to (seat q)

moved-own : (p to : ℕ) (seat : ℕ → ℕ) → moved_to p to seat p ≡ to
unfolding moved_to
moved-own p to seat = ap (λ (b : Bool). cond b to (seat p)) (eq-eqb p p refl)

moved-other : (p to q : ℕ) (seat : ℕ → ℕ) → q ≢ p → moved_to p to seat q ≡ seat q
unfolding moved_to
moved-other p to q seat ne = ap (λ (b : Bool). cond b to (seat q)) (ne_eqb q p ne)

-- where a seat lacks a partition, that this one goes elsewhere doesn't matter
knows_moved : (n : ℕ) (xs : List PartStep) (seat : ℕ → ℕ) (p to j : ℕ) (v : View) → Lacks p v → Knows n xs seat j v → Knows n xs (moved_to p to seat) j v
knows_moved n xs seat p to j [] l h = tt
knows_moved n xs seat p to j (k ∷ ks) l h = ((h.0.0, h.0.1, moved-other p to k.part seat l.0 ∙ h.0.2, h.0.3), knows_moved n xs seat p to j ks l.1 h.1)

lacks_elsewhere : (n : ℕ) (xs : List PartStep) (seat : ℕ → ℕ) (p j : ℕ) (v : View) → seat p ≢ j → Knows n xs seat j v → Lacks p v
lacks_elsewhere n xs seat p j [] ne h = tt
lacks_elsewhere n xs seat p j (k ∷ ks) ne h = ((λ e. ne (ap seat (sym e) ∙ h.0.2)), lacks_elsewhere n xs seat p j ks ne h.1)

-- a seat for the first partition is cut off
splits_on : (size : ℕ) (m : Memory) (id : ℕ) (v : View) (s : State ℕ View) → HistoryHolds size m s → get_elem? s.views id ≡ some v
    → HistoryHolds size m record { words = s.words; homes = s.homes; views = set s.views id (other_parts v) ++ first_part v ∷ [] }
splits_on size m id [] s h at = record {
  history = h.history;
  seat_of = h.seat_of;
  legal = h.legal;
  word_count = h.word_count;
  below = h.below;
  knows = λ j u e. ⊎_elim
      (λ was. h.knows j u (subst (λ (l : List View). get_elem? l j ≡ some u) (set_again s.views id [] at) was))
      (λ (t : (j ≡ length (set s.views id [])) × ([] ≡ u)). subst (Knows (length m) h.history h.seat_of j) t.1 tt)
      (at_end (set s.views id []) [] u j e);
}
splits_on size m id (k ∷ ks) s h at =
    let n = length m in
    let p = k.part in
    let to = length s.views in
    let own = h.knows id (k ∷ ks) at in
    let seat = moved_to p to h.seat_of in
    record {
      history = h.history;
      seat_of = seat;
      legal = h.legal;
      word_count = h.word_count;
      below = h.below;
      knows = λ j u e. ⊎_elim
          (λ (was : get_elem? (set s.views id ks) j ≡ some u). ⊎_elim
          (λ (t : (j ≡ id) × (ks ≡ u)). subst (Knows n h.history seat j) t.1 (knows_moved n h.history h.seat_of p to j ks own.0.3 (subst (λ (i : ℕ). Knows n h.history h.seat_of i ks) (sym t.0) own.1)))
          (λ (t : (j ≢ id) × (get_elem? s.views j ≡ some u)). let there = h.knows j u t.1 in knows_moved n h.history h.seat_of p to j u (lacks_elsewhere n h.history h.seat_of p j u (λ z. t.0 (sym z ∙ own.0.2)) there) there)
          (at_set s.views id j ks u was))
          (λ (t : (j ≡ length (set s.views id ks)) × (k ∷ [] ≡ u)). subst (Knows n h.history seat j) t.1
          ((own.0.0, own.0.1, moved-own p to h.seat_of ∙ sym (t.0 ∙ length-set s.views id ks), tt), tt))
          (at_end (set s.views id ks) (k ∷ []) u j e);
    }

pub splits : (size : ℕ) (m : Memory) (id : ℕ) (v : View) → Splits (HistoryHolds size m) id v (other_parts v) (first_part v)
splits size m id v s h at = splits_on size m id v s h at

joined_to : ℕ → ℕ → (ℕ → ℕ) → ℕ → ℕ
joined_to other id seat q = cond (eqb (seat q) other) id (seat q)

joined-from : (other id : ℕ) (seat : ℕ → ℕ) (q : ℕ) → seat q ≡ other → joined_to other id seat q ≡ id
unfolding joined_to
joined-from other id seat q e = ap (λ (b : Bool). cond b id (seat q)) (eq-eqb (seat q) other e)

joined-stays : (other id : ℕ) (seat : ℕ → ℕ) (q : ℕ) → seat q ≢ other → joined_to other id seat q ≡ seat q
unfolding joined_to
joined-stays other id seat q ne = ap (λ (b : Bool). cond b id (seat q)) (ne_eqb (seat q) other ne)

knows_from : (n : ℕ) (xs : List PartStep) (seat : ℕ → ℕ) (other id : ℕ) (v : View) → Knows n xs seat other v → Knows n xs (joined_to other id seat) id v
knows_from n xs seat other id [] h = tt
knows_from n xs seat other id (k ∷ ks) h = ((h.0.0, h.0.1, joined-from other id seat k.part h.0.2, h.0.3), knows_from n xs seat other id ks h.1)

knows_stays : (n : ℕ) (xs : List PartStep) (seat : ℕ → ℕ) (other id j : ℕ) (v : View) → j ≢ other → Knows n xs seat j v → Knows n xs (joined_to other id seat) j v
knows_stays n xs seat other id j [] ne h = tt
knows_stays n xs seat other id j (k ∷ ks) ne h = ((h.0.0, h.0.1, joined-stays other id seat k.part (λ e. ne (sym h.0.2 ∙ e)) ∙ h.0.2, h.0.3), knows_stays n xs seat other id j ks ne h.1)

lacks_both : (p : ℕ) (v w : View) → Lacks p v → Lacks p w → Lacks p (v ++ w)
lacks_both p [] w a b = b
lacks_both p (k ∷ ks) w a b = (a.0, lacks_both p ks w a.1 b)

-- two views that know their parts at one seat, where what the first stands for was at another seat than the second's
knows_both : (n : ℕ) (xs : List PartStep) (seat : ℕ → ℕ) (other id : ℕ) (w v : View) → id ≢ other → Knows n xs seat other w → Knows n xs seat id v → Knows n xs (joined_to other id seat) id (w ++ v)
knows_both n xs seat other id [] v ne b a = knows_stays n xs seat other id id v ne a
knows_both n xs seat other id (k ∷ ks) v ne b a =
    ((b.0.0, b.0.1, joined-from other id seat k.part b.0.2, lacks_both k.part ks v b.0.3 (lacks_elsewhere n xs seat k.part id v (λ e. ne (sym e ∙ b.0.2)) a)), knows_both n xs seat other id ks v ne b.1 a)

-- a seat takes in another, whose history it then holds too
pub joins : (size : ℕ) (m : Memory) (id : ℕ) (v : View) (other : ℕ) (w : View) → Joins (HistoryHolds size m) id v other w (w ++ v) []
joins size m id v other w s h at apart there =
    let n = length m in
    let seat = joined_to other id h.seat_of in
    let ne : id ≢ other = λ e. apart (sym e) in
    let was : get_elem? s.views other ≡ some w = ⊎_elim (λ (t : (other ≡ id) × (w ++ v ≡ w)). absurd (apart t.0)) (λ (t : (other ≢ id) × (get_elem? s.views other ≡ some w)). t.1) (at_set s.views id other (w ++ v) w there) in
    record {
      history = h.history;
      seat_of = seat;
      legal = h.legal;
      word_count = h.word_count;
      below = h.below;
      knows = λ j u e. ⊎_elim
          (λ (t : (j ≡ other) × ([] ≡ u)). subst (Knows n h.history seat j) t.1 tt)
          (λ (t : (j ≢ other) × (get_elem? (set s.views id (w ++ v)) j ≡ some u)). ⊎_elim
          (λ (a : (j ≡ id) × (w ++ v ≡ u)). subst (Knows n h.history seat j) a.1 (subst (λ (i : ℕ). Knows n h.history seat i (w ++ v)) (sym a.0) (knows_both n h.history h.seat_of other id w v ne (h.knows other w was) (h.knows id v at))))
          (λ (a : (j ≢ id) × (get_elem? s.views j ≡ some u)). knows_stays n h.history h.seat_of other id j u t.0 (h.knows j u a.1))
          (at_set s.views id j (w ++ v) u t.1))
          (at_set (set s.views id (w ++ v)) other j [] u e);
    }
