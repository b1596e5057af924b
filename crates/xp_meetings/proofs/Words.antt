-- Memory by places: the lists of words are tied to it once.
use Rattle.xp_base.specs.declared.layout.TheConstants.{PART_WORDS}
use Rattle.std.proofs.Common.{◌≡◌, ◌≢◌, ℕ, ◌<◌, List, [], length, Bool, true, false, ◌&&◌, cond, eqb, refl, ap, sym, ◌∙◌, arith, get_or, get_or-set_same, get_or-set_other, inl, inr, ◌⊎◌, bit_and, bit_or}
use Rattle.std.proofs.lemmas.Bool.{cases_eq, eq-eqb, ne_eqb, eqb-true, and_parts}
use Rattle.std.proofs.Math.ListN.{length-set}
use Rattle.xp_base.specs.declared.step.OpKind.{OpKind}
use Rattle.xp_base.specs.declared.step.OpKind.TheVariants.{Load, Store, Or, And, Take}
use Rattle.xp_base.specs.Memory.{Memory, word_at, put_at, after_kind}
use Rattle.xp_base.specs.Places.{Place, Open, Record, Flag, Args, Counter, Entry, Pool, Beyond, IsWithin, index_of, place_of, place_of-index_of}
use Rattle.xp_protocol.proofs.Undo.{index_low}

-- a memory of n partitions
pub record HasShape (n : ℕ) (m : Memory) : Type 0 where
  pub count : length m ≡ n
  pub rows : (p : ℕ) → p < n → length (get_or m p []) ≡ PART_WORDS

abbrev pub Words : Type 0
Words = ℕ → Place → ℕ

-- the same place; another kind of place is told at once
abbrev pub same : Place → Place → Bool
same (Open o) (Open o') = eqb o o'
same (Record q f) (Record q' f') = eqb f f' && eqb q q'
same (Flag q) (Flag q') = eqb q q'
same (Args q c f) (Args q' c' f') = eqb f f' && (eqb c c' && eqb q q')
same (Counter q c f) (Counter q' c' f') = eqb f f' && (eqb c c' && eqb q q')
same (Entry q c k) (Entry q' c' k') = eqb k k' && (eqb c c' && eqb q q')
same (Pool b f) (Pool b' f') = eqb f f' && eqb b b'
same Beyond Beyond = true
same x y = false

pub self : (n : ℕ) → eqb n n ≡ true
self n = eq-eqb n n refl

pub same_self : (x : Place) → same x x ≡ true
same_self (Open o) = self o
same_self (Record q f) = rw (self q, self f) refl
same_self (Flag q) = self q
same_self (Args q c f) = rw (self q, self c, self f) refl
same_self (Counter q c f) = rw (self q, self c, self f) refl
same_self (Entry q c k) = rw (self q, self c, self k) refl
same_self (Pool b f) = rw (self b, self f) refl
same_self Beyond = refl

pub same_told : (x y : Place) → same x y ≡ true → x ≡ y
same_told (Open o) (Open o') h = ap Open (eqb-true o o' h)
same_told (Record q f) (Record q' f') h = let a = and_parts _ _ h in λ i. Record (eqb-true q q' a.1 i) (eqb-true f f' a.0 i)
same_told (Flag q) (Flag q') h = ap Flag (eqb-true q q' h)
same_told (Args q c f) (Args q' c' f') h = let a = and_parts _ _ h in let b = and_parts _ _ a.1 in λ i. Args (eqb-true q q' b.1 i) (eqb-true c c' b.0 i) (eqb-true f f' a.0 i)
same_told (Counter q c f) (Counter q' c' f') h = let a = and_parts _ _ h in let b = and_parts _ _ a.1 in λ i. Counter (eqb-true q q' b.1 i) (eqb-true c c' b.0 i) (eqb-true f f' a.0 i)
same_told (Entry q c k) (Entry q' c' k') h = let a = and_parts _ _ h in let b = and_parts _ _ a.1 in λ i. Entry (eqb-true q q' b.1 i) (eqb-true c c' b.0 i) (eqb-true k k' a.0 i)
same_told (Pool b f) (Pool b' f') h = let a = and_parts _ _ h in λ i. Pool (eqb-true b b' a.1 i) (eqb-true f f' a.0 i)
same_told Beyond Beyond h = refl
same_told x y h = absurd (cc)

abbrev pub write : Words → ℕ → Place → ℕ → Words
write w o pl v = λ o' pl'. cond (same pl pl' && eqb o o') v (w o' pl')

abbrev pub does : OpKind → ℕ → Place → Words → Words
does Load o pl w = w
does (Store v) o pl w = write w o pl v
does (Or v) o pl w = write w o pl (bit_or (w o pl) v)
does (And v) o pl w = write w o pl (bit_and (w o pl) v)
does Take o pl w = write w o pl 0

-- a step on another place leaves the word
pub leaves : (k : OpKind) (o : ℕ) (pl : Place) (w : Words) (p : ℕ) (pl' : Place) → same pl pl' ≡ false → does k o pl w p pl' ≡ w p pl'
leaves Load o pl w p pl' e = refl
leaves (Store v) o pl w p pl' e = rw e refl
leaves (Or v) o pl w p pl' e = rw e refl
leaves (And v) o pl w p pl' e = rw e refl
leaves Take o pl w p pl' e = rw e refl

-- a step at another partition leaves the word
far_at : (b : Bool) (o p v x : ℕ) → o ≢ p → cond (b && eqb o p) v x ≡ x
far_at true o p v x d = rw (ne_eqb o p d) refl
far_at false o p v x d = refl

pub far : (k : OpKind) (o : ℕ) (pl : Place) (w : Words) (p : ℕ) (pl' : Place) → o ≢ p → does k o pl w p pl' ≡ w p pl'
far Load o pl w p pl' d = refl
far (Store v) o pl w p pl' d = far_at (same pl pl') o p v (w p pl') d
far (Or v) o pl w p pl' d = far_at (same pl pl') o p _ (w p pl') d
far (And v) o pl w p pl' d = far_at (same pl pl') o p _ (w p pl') d
far Take o pl w p pl' d = far_at (same pl pl') o p 0 (w p pl') d

pub record Agrees (n : ℕ) (m : Memory) (w : Words) : Type 0 where
  pub shape : HasShape n m
  pub words : (p : ℕ) (pl : Place) → p < n → IsWithin pl → word_at m p (index_of pl) ≡ w p pl

index_one : (x y : Place) → IsWithin x → IsWithin y → index_of x ≡ index_of y → x ≡ y
index_one x y h k e = sym (place_of-index_of x h) ∙ ap place_of e ∙ place_of-index_of y k

rows_put : (n : ℕ) (m : Memory) (o i v p : ℕ) → HasShape n m → o < n → p < n → (p ≡ o) ⊎ (p ≡ o → ⊥) → length (get_or (put_at m o i v) p []) ≡ PART_WORDS
rows_put n m o i v p h l k (inl e) = ap (λ (x : ℕ). length (get_or (put_at m o i v) x [])) e ∙ ap length (get_or-set_same m o _ [] (omega (arith, h.count))) ∙ length-set (get_or m o []) i v ∙ h.rows o l
rows_put n m o i v p h l k (inr d) = ap length (get_or-set_other m o p _ [] d) ∙ h.rows p k

shape_put : (n : ℕ) (m : Memory) (o i v : ℕ) → HasShape n m → o < n → HasShape n (put_at m o i v)
shape_put n m o i v h l = record { count = length-set m o _ ∙ h.count; rows = λ p k. rows_put n m o i v p h l k (cases_eq p o) }

by_same : (b : Bool) (pl pl' : Place) → same pl pl' ≡ b → ((pl ≡ pl') × (same pl pl' ≡ true)) ⊎ ((pl ≡ pl' → ⊥) × (same pl pl' ≡ false))
by_same true pl pl' e = inl (same_told pl pl' e, e)
by_same false pl pl' e = inr ((λ q. let f : same pl pl' ≡ true = ap (λ (x : Place). same pl x) (sym q) ∙ same_self pl in absurd (cc)), e)

word_put : (n : ℕ) (m : Memory) (w : Words) (o : ℕ) (pl : Place) (v p : ℕ) (pl' : Place) → Agrees n m w → o < n → IsWithin pl → p < n → IsWithin pl' → (p ≡ o) ⊎ (p ≡ o → ⊥) → ((pl ≡ pl') × (same pl pl' ≡ true)) ⊎ ((pl ≡ pl' → ⊥) × (same pl pl' ≡ false)) → word_at (put_at m o (index_of pl) v) p (index_of pl') ≡ write w o pl v p pl'
word_put n m w o pl v p pl' a l k l' k' (inl e) (inl f) =
    rw (f.1, eq-eqb o p (sym e), e, sym f.0) (ap (λ (r : List ℕ). get_or r (index_of pl) 0) (get_or-set_same m o _ [] (omega (arith, a.shape.count))) ∙ get_or-set_same (get_or m o []) (index_of pl) v 0 (omega (arith, a.shape.rows o l, index_low pl k)))
word_put n m w o pl v p pl' a l k l' k' (inl e) (inr f) =
    rw (f.1, e) (ap (λ (r : List ℕ). get_or r (index_of pl') 0) (get_or-set_same m o _ [] (omega (arith, a.shape.count))) ∙ get_or-set_other (get_or m o []) (index_of pl) (index_of pl') v 0 (λ q. f.0 (index_one pl pl' k k' (sym q))) ∙ a.words o pl' l k')
word_put n m w o pl v p pl' a l k l' k' (inr d) f =
    let e : write w o pl v p pl' ≡ w p pl' = far_at (same pl pl') o p v (w p pl') (λ q. d (sym q)) in
    ap (λ (r : List ℕ). get_or r (index_of pl') 0) (get_or-set_other m o p _ [] d) ∙ a.words p pl' l' k' ∙ sym e

pub agrees_put : (n : ℕ) (m : Memory) (w : Words) (o : ℕ) (pl : Place) (v : ℕ) → Agrees n m w → o < n → IsWithin pl → Agrees n (put_at m o (index_of pl) v) (write w o pl v)
agrees_put n m w o pl v a l k = record { shape = shape_put n m o _ v a.shape l; words = λ p pl' l' k'. word_put n m w o pl v p pl' a l k l' k' (cases_eq p o) (by_same (same pl pl') pl pl' refl) }

-- a step keeps the tie
pub agrees : (n : ℕ) (m : Memory) (w : Words) (k : OpKind) (o : ℕ) (pl : Place) → Agrees n m w → o < n → IsWithin pl → Agrees n (after_kind m o (index_of pl) k) (does k o pl w)
agrees n m w Load o pl a l h = a
agrees n m w (Store v) o pl a l h = agrees_put n m w o pl v a l h
agrees n m w (Or v) o pl a l h = rw (sym (a.words o pl l h)) (agrees_put n m w o pl _ a l h)
agrees n m w (And v) o pl a l h = rw (sym (a.words o pl l h)) (agrees_put n m w o pl _ a l h)
agrees n m w Take o pl a l h = agrees_put n m w o pl 0 a l h
