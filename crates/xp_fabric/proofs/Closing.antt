-- What the loops of the opening and of the closing of a shared memory keep.
use Rattle.std.proofs.Common.{◌≡◌, ℕ, zero, suc, ◌+◌, ◌*◌, ◌/◌, ◌%◌, ◌<◌, ◌≤◌, List, [], ◌∷◌, ◌++◌, length, get_or, set, take, drop, Some, refl, ap, sym, subst, ◌∙◌, mul_comm, div-lt_iff_lt-mul, mod-lt, arith, take_all}
use Rattle.std.specs.Prelude.{slice_get}
use Rattle.std.proofs.Math.Nat.{div-add-mod}
use Rattle.std.proofs.lemmas.List.{length-set}
use mathlib.Core.Option.{some, some-injective, some-ne-none}
use lib.ListN.{get_elem?}
use Rattle.atomic_table.specs.Seated.{TableId}
use Rattle.atomic_table.specs.Table.{Me}
use Rattle.xp_base.specs.Memory.{Memory, put_at}
use Rattle.xp_base.specs.Rows.{rows}
use Rattle.xp_base.proofs.RowLemmas.{rows-set}
use Rattle.xp_fabric.specs.Passes.{IsFreshPass, joined_view, OnlyLoadsFailIn}
use Rattle.xp_fabric.specs.Rule.{View, fresh_parts}
use Rattle.xp_fabric.specs.Views.{PassView}

-- the passes of the first partitions are made, and the seat stands for the others
pub record SomePassesMade (t at : TableId) (number left : ℕ) (me : Me ℕ View) (ps : List PassView) : Type 0 where
  pub table : at ≡ t
  pub seat : me ≡ (fresh_parts number left, [])
  pub count : length ps ≡ number
  pub each : (k : ℕ) (p : PassView) → slice_get ps k ≡ Some p → IsFreshPass t k p

-- the passes at the end of the list are joined
pub record SomePassesJoined (t at : TableId) (all now : List PassView) (me : Me ℕ View) : Type 0 where
  pub joined : List PassView
  pub whole : all ≡ now ++ joined
  pub table : at ≡ t
  pub seat : me ≡ (joined_view joined, [])
  pub loads : OnlyLoadsFailIn joined

module _ (size : ℕ) where
  -- the words before this place are put
  pub record SomeWordsPut (items : List ℕ) (count place : ℕ) (now : Memory) : Type 0 where
    pub words : List ℕ
    pub are : rows size count words ≡ now
    pub word_count : length words ≡ size * count
    pub same : take place words ≡ take place items

take-set_next : (i : ℕ) (ws items : List ℕ) (v : ℕ) → i < length ws → get_elem? items i ≡ some v → take i ws ≡ take i items → take (suc i) (set ws i v) ≡ take (suc i) items
take-set_next i [] items v h at e = absurd (omega arith)
take-set_next zero (x ∷ xs) [] v h at e = absurd (some-ne-none v (sym at))
take-set_next zero (x ∷ xs) (y ∷ ys) v h at e = ap (λ (z : ℕ). z ∷ []) (sym (some-injective y v at))
take-set_next (suc i) (x ∷ xs) [] v h at e = absurd (some-ne-none v (sym at))
take-set_next (suc i) (x ∷ xs) (y ∷ ys) v h at e =
    let first : x ≡ y = ap (λ (l : List ℕ). get_or l 0 0) e in
    let others : take i xs ≡ take i ys = ap (drop 1) e in
    ap (λ (l : List ℕ). x ∷ l) (take-set_next i xs ys v (omega arith) at others) ∙ ap (λ (z : ℕ). z ∷ take (suc i) ys) first

-- the partition of a place
pub owner_low : (size place n : ℕ) → 0 < size → place < size * n → place / size < n
owner_low size place n positive low = (div-lt_iff_lt-mul {k = size} {x = place} {y = n} positive).1 (subst (λ (k : ℕ). place < k) (mul_comm size n) low)

pub put-next : (size : ℕ) (items : List ℕ) (n place v : ℕ) (now : Memory) → 0 < size → place < size * n → get_elem? items place ≡ some v
    → SomeWordsPut size items n place now → SomeWordsPut size items n (place + 1) (put_at now (place / size) (place % size) v)
put-next size items n place v now positive low at h =
    let o = place / size in
    let i = place % size in
    let within : i < size = mod-lt place positive in
    let e : size * o + i ≡ place = div-add-mod place size in
    let one : place + 1 ≡ suc place = omega arith in
    record {
      words = set h.words place v;
      are = ap (λ (k : ℕ). rows size n (set h.words k v)) (sym e) ∙ (rows-set size n h.words o i v (owner_low size place n positive low) within h.word_count ∙ ap (λ (m : Memory). put_at m o i v) h.are);
      word_count = length-set h.words place v ∙ h.word_count;
      same = ap (λ (k : ℕ). take k (set h.words place v)) one
          ∙ (take-set_next place h.words items v (subst (λ (k : ℕ). place < k) (sym h.word_count) low) at h.same ∙ ap (λ (k : ℕ). take k items) (sym one));
    }

pub put-none : (size : ℕ) (items ws : List ℕ) (n : ℕ) (now : Memory) → rows size n ws ≡ now → length ws ≡ size * n → SomeWordsPut size items n 0 now
put-none size items ws n now are count = record { words = ws; are = are; word_count = count; same = refl }

pub put-all : (size : ℕ) (items : List ℕ) (n place : ℕ) (now : Memory) → size * n ≤ place → length items ≡ size * n → SomeWordsPut size items n place now → now ≡ rows size n items
put-all size items n place now past count h =
    let a : take place h.words ≡ h.words = take_all place h.words (subst (λ (k : ℕ). k ≤ place) (sym h.word_count) past) in
    let b : take place items ≡ items = take_all place items (subst (λ (k : ℕ). k ≤ place) (sym count) past) in
    sym h.are ∙ ap (rows size n) (sym a ∙ (h.same ∙ b))

pub length-put_at : (m : Memory) (o i v : ℕ) → length (put_at m o i v) ≡ length m
length-put_at m o i v = length-set m o (set (get_or m o []) i v)
