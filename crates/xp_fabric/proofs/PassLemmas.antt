-- Passes: their histories with and without the failed loads, and the one history that they are made into at the end.
use Rattle.std.proofs.Common.{◌≡◌, ℕ, zero, suc, ◌<◌, ◌⊎◌, Bool, true, false, cond, eqb, eq-eqb, List, [], ◌∷◌, ◌++◌, length, Option, Some, None, refl, ap, sym, subst, ◌∙◌, ⊎_elim, inl, inr, append-nil, arith}
use Rattle.std.specs.Prelude.{slice_get}
use Rattle.std.proofs.lemmas.Option.{slice_get_within}
use Rattle.atomic_table.specs.Table.{Final, Seen}
use Rattle.atomic_table.specs.Seated.{TableId}
use Rattle.xp_base.specs.declared.step.Op.{Op}
use Rattle.xp_base.specs.declared.step.Answer.{Answer}
use Rattle.xp_base.specs.declared.step.Answer.TheVariants.{Word, Failed}
use Rattle.xp_base.specs.declared.step.Step.{Step}
use Rattle.xp_base.specs.Memory.{Memory}
use Rattle.xp_base.specs.History.{after_answer}
use Rattle.xp_base.specs.Rows.{rows}
use Rattle.xp_fabric.specs.Steps.{PartStep, part_step, step_of, items_of, PartsBelow, LegalSteps}
use Rattle.std.proofs.lemmas.List.Elements.{filter_map-append}
use Rattle.xp_fabric.specs.Passes.{AreFresh, IsFreshPass, AreOfTable, Merges, OnlyLoadsFailIn, joined_view, answered_steps, if_word, answered_step, LoadIfFailed, OnlyLoadsFail}
use Rattle.xp_fabric.specs.Rule.{Knows, HistoryHolds}
use Rattle.xp_fabric.specs.Views.{PassView}
use Rattle.xp_fabric.proofs.Weaving.{cons_item, filter_map_items, weave}

history_at : List PassView → ℕ → List Step
history_at [] k = []
history_at (p ∷ ps) zero = p.history
history_at (p ∷ ps) (suc k) = history_at ps k

Some-injective : {A : Type 0} (a b : A) → Some a ≡ Some b → a ≡ b
Some-injective a b e = ap (or_else a) e
  where
    or_else : {A : Type 0} → A → Option A → A
    or_else d None = d
    or_else d (Some x) = x

None-ne-Some : {A : Type 0} (a : A) → None ≡ Some a → ⊥
None-ne-Some a e = subst IsNone e tt
  where
    IsNone : {A : Type 0} → Option A → Type 0
    IsNone None = Unit {0}
    IsNone (Some x) = ⊥

history_at-is : (ps : List PassView) (k : ℕ) (p : PassView) → slice_get ps k ≡ Some p → history_at ps k ≡ p.history
unfolding history_at
history_at-is [] k p e = absurd (None-ne-Some p e)
history_at-is (q ∷ ps) zero p e = ap (λ (x : PassView). x.history) (Some-injective q p e)
history_at-is (q ∷ ps) (suc k) p e = history_at-is ps k p e

at_known : (n : ℕ) (xs : List PartStep) (seat : ℕ → ℕ) (j : ℕ) (ps : List PassView) (k : ℕ) (p : PassView) → Knows n xs seat j (joined_view ps) → slice_get ps k ≡ Some p → items_of p.part xs ≡ answered_steps p.history
at_known n xs seat j [] k p h e = absurd (None-ne-Some p e)
at_known n xs seat j (q ∷ ps) zero p h e = let same = Some-injective q p e in subst (λ (x : PassView). items_of x.part xs ≡ answered_steps x.history) same (sym h.0.1)
at_known n xs seat j (q ∷ ps) (suc k) p h e = at_known n xs seat j ps k p h.1 e

loads_at : (ps : List PassView) (k : ℕ) → OnlyLoadsFailIn ps → OnlyLoadsFail (history_at ps k)
unfolding history_at
loads_at [] k h = tt
loads_at (p ∷ ps) zero h = h.0
loads_at (p ∷ ps) (suc k) h = loads_at ps k h.1

there_is : (ps : List PassView) (k : ℕ) → k < length ps → (p : PassView) × (slice_get ps k ≡ Some p)
there_is [] k h = absurd (omega arith)
there_is (p ∷ ps) zero h = (p, refl)
there_is (p ∷ ps) (suc k) h = there_is ps k (omega arith)

-- in a history loads alone fail
abbrev OnlyLoadsFailBy : List PartStep → Type 0
OnlyLoadsFailBy [] = Unit {0}
OnlyLoadsFailBy (x ∷ xs) = LoadIfFailed x.item.op.kind x.item.answer × OnlyLoadsFailBy xs

loads-rest : (b : Bool) (s : Step) (ss : List Step) → OnlyLoadsFail (cond b (s ∷ ss) ss) → OnlyLoadsFail ss
loads-rest true s ss h = h.1
loads-rest false s ss h = h

loads-by_parts : (n : ℕ) (xs : List PartStep) → PartsBelow n xs → ((p : ℕ) → p < n → OnlyLoadsFail (items_of p xs)) → OnlyLoadsFailBy xs
loads-by_parts n [] a h = tt
loads-by_parts n (x ∷ xs) a h = (
  (subst (λ (b : Bool). OnlyLoadsFail (cond b (x.item ∷ items_of x.part xs) (items_of x.part xs))) (eq-eqb x.part x.part refl) (h x.part a.0)).0,
  loads-by_parts n xs a.1 (λ p low. loads-rest (eqb x.part p) x.item (items_of p xs) (h p low)),
)

-- failed loads change nothing
legal_on : (p : ℕ) (op : Op) (w : Answer) (xs : List PartStep) (m m' : Memory) → LoadIfFailed op.kind w
    → ((n : Memory) → LegalSteps n (filter_map_items answered_step xs) m' → LegalSteps n xs m')
    → LegalSteps m (cons_item p (if_word (step_of op w) w) (filter_map_items answered_step xs)) m' → LegalSteps m (part_step p (step_of op w) ∷ xs) m'
legal_on p op (Word w) xs m m' is more h = (h.0, more (after_answer m op (Word w)) h.1)
legal_on p op Failed xs m m' is more h = (is, more m h)

legal_with : (xs : List PartStep) (m m' : Memory) → OnlyLoadsFailBy xs → LegalSteps m (filter_map_items answered_step xs) m' → LegalSteps m xs m'
legal_with [] m m' l h = h
legal_with (x ∷ xs) m m' l h = legal_on x.part x.item.op x.item.answer xs m m' l.0 (λ n. legal_with xs n m' l.1) h

pub merges : (size : ℕ) (m : Memory) (ps : List PassView) (ws xs : List ℕ) (id : ℕ) → length ps ≡ length m → ((k : ℕ) (p : PassView) → slice_get ps k ≡ Some p → p.part ≡ k) → OnlyLoadsFailIn ps
    → Final (Seen (HistoryHolds size m) id (joined_view ps)) ws xs → Merges m ps (rows size (length m) ws)
merges size m ps ws slots id count order loads final =
    let s = final.0 in
    let held = final.1.0 in
    let knows = held.knows id (joined_view ps) final.1.1 in
    let n = length ps in
    let hs = history_at ps in
    let below : PartsBelow n held.history = subst (λ (k : ℕ). PartsBelow k held.history) (sym count) held.below in
    let w = weave answered_step n held.history hs below (λ k low. let t = there_is ps k low in
    ap (λ (q : ℕ). items_of q held.history) (sym (order k t.0 t.1)) ∙ (at_known (length m) held.history held.seat_of id ps k t.0 knows t.1 ∙ ap answered_steps (sym (history_at-is ps k t.0 t.1)))) in
    let words : rows size (length m) s.words ≡ rows size (length m) ws = ap (rows size (length m)) final.2 in
    let legal : LegalSteps m held.history (rows size (length m) ws) = subst (LegalSteps m held.history) words held.legal in
    let seen : LegalSteps m (filter_map_items answered_step w.woven) (rows size (length m) ws) = subst (λ (xs : List PartStep). LegalSteps m xs (rows size (length m) ws)) (sym w.shows) legal in
    record {
      history = w.woven;
      legal = legal_with w.woven m (rows size (length m) ws) (loads-by_parts n w.woven w.below (λ k low. subst OnlyLoadsFail (sym (w.parts k low)) (loads_at ps k loads))) seen;
      below = w.below;
      parts = λ k p e. w.parts k (slice_get_within ps k p e) ∙ history_at-is ps k p e;
    }

pub answered_steps-word : (ss : List Step) (op : Op) (w : ℕ) → answered_steps (ss ++ step_of op (Word w) ∷ []) ≡ answered_steps ss ++ step_of op (Word w) ∷ []
answered_steps-word ss op w = filter_map-append answered_step ss (step_of op (Word w) ∷ [])

pub answered_steps-failed : (ss : List Step) (op : Op) → answered_steps (ss ++ step_of op Failed ∷ []) ≡ answered_steps ss
answered_steps-failed ss op = filter_map-append answered_step ss (step_of op Failed ∷ []) ∙ append-nil (answered_steps ss)

pub loads-push : (ss : List Step) (s : Step) → OnlyLoadsFail ss → LoadIfFailed s.op.kind s.answer → OnlyLoadsFail (ss ++ s ∷ [])
loads-push [] s h l = (l, tt)
loads-push (x ∷ ss) s h l = (h.0, loads-push ss s h.1 l)

slice_get-push : (xs : List PassView) (p : PassView) (k : ℕ) (q : PassView) → slice_get (xs ++ p ∷ []) k ≡ Some q → (slice_get xs k ≡ Some q) ⊎ ((k ≡ length xs) × (p ≡ q))
slice_get-push [] p zero q e = inr (refl, Some-injective p q e)
slice_get-push [] p (suc k) q e = absurd (None-ne-Some q e)
slice_get-push (x ∷ xs) p zero q e = inl e
slice_get-push (x ∷ xs) p (suc k) q e = ⊎_elim inl (λ (h : (k ≡ length xs) × (p ≡ q)). inr (ap suc h.0, h.1)) (slice_get-push xs p k q e)

pub fresh-push : (t : TableId) (xs : List PassView) (p : PassView) → AreFresh t xs → IsFreshPass t (length xs) p → AreFresh t (xs ++ p ∷ [])
fresh-push t xs p h l k q e = ⊎_elim (h k q) (λ (z : (k ≡ length xs) × (p ≡ q)). subst (λ (i : ℕ). IsFreshPass t i q) (sym z.0) (subst (IsFreshPass t (length xs)) z.1 l)) (slice_get-push xs p k q e)

pub table-split : (t : TableId) (xs : List PassView) (p : PassView) (ys : List PassView) → AreOfTable t (xs ++ p ∷ ys) → p.table ≡ t
table-split t [] p ys h = h.0
table-split t (x ∷ xs) p ys h = table-split t xs p ys h.1

pub tables-each : (t : TableId) (ps : List PassView) → ((k : ℕ) (p : PassView) → slice_get ps k ≡ Some p → p.table ≡ t) → AreOfTable t ps
tables-each t [] h = tt
tables-each t (p ∷ ps) h = (h 0 p refl, tables-each t ps (λ k q e. h (suc k) q e))

pub length-push : {A : Type 0} (xs : List A) (x : A) → length (xs ++ x ∷ []) ≡ suc (length xs)
length-push [] x = refl
length-push (y ∷ ys) x = ap suc (length-push ys x)
