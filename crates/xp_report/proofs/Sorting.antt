-- Lists in the order of a test, and that a stable sort by it makes no other list.
use Rattle.std.proofs.Common.{◌≡◌, refl, sym, ap, ◌∙◌, ℕ, zero, suc, ◌<◌, ◌≤◌, Bool, true, false, true≢false, not, ◌&&◌, cond, List, [], ◌∷◌, map, length, get_or, add-one, arith}
use Rattle.std.specs.Cmp.{IsStrictWeakOrder}
use Rattle.std.specs.List.{filter}
use Rattle.std.specs.List.Sorted.{IsSortedBy, IsStableBy, ties}
use Rattle.std.proofs.lemmas.List.Sorted.{sorted_far}
use Rattle.xp_report.specs.Order.{placed, in_order}

module _ {X : Type 0} (first : X → X → Bool) where
  -- none of some items comes before an item; each item comes before none that stands before it
  abbrev Least : X → List X → Type 0
  Least x [] = Unit {0}
  Least x (y ∷ ys) = (first y x ≡ false) × Least x ys

  abbrev Rises : List X → Type 0
  Rises [] = Unit {0}
  Rises (x ∷ xs) = Least x xs × Rises xs

  least_of : (x : X) (xs : List X) → ((k : ℕ) → k < length xs → first (get_or xs k x) x ≡ false) → Least x xs
  least_of x [] h = tt
  least_of x (y ∷ ys) h = (h 0 (omega arith), least_of x ys (λ k l. h (suc k) (omega arith)))

  rises_of : (xs : List X) → ((i j : ℕ) (d : X) → i ≤ j → j < length xs → first (get_or xs j d) (get_or xs i d) ≡ false) → Rises xs
  rises_of [] h = tt
  rises_of (x ∷ xs) h = (
    least_of x xs (λ k l. h 0 (suc k) x (omega arith) (omega arith)),
    rises_of xs (λ i j d l m. h (suc i) (suc j) d (omega arith) (omega arith)),
  )

  next_rises : (xs : List X) (k : ℕ) (d : X) → Rises xs → suc k < length xs → first (get_or xs (suc k) d) (get_or xs k d) ≡ false
  next_rises [] k d h l = absurd (omega arith)
  next_rises (x ∷ []) k d h l = absurd (omega arith)
  next_rises (x ∷ y ∷ more) zero d h l = h.0.0
  next_rises (x ∷ y ∷ more) (suc k) d h l = next_rises (y ∷ more) k d h.1 (omega arith)

  sorted_rises : (xs : List X) → Rises xs → IsSortedBy first xs
  sorted_rises xs h k d low l = ap (λ n. first (get_or xs n d) (get_or xs k d)) (add-one k) ∙ next_rises xs k d h (omega arith)

  module _ (o : IsStrictWeakOrder first) where
    not_both : (x : X) (b : Bool) → first x x ≡ b → b ≡ false
    not_both x true e = sym e ∙ o.one_way x x e
    not_both x false e = refl

    itself : (x : X) → first x x ≡ false
    itself x = not_both x (first x x) refl

    least_through : (x y : X) (xs : List X) → first y x ≡ false → Least y xs → Least x xs
    least_through x y [] e h = tt
    least_through x y (z ∷ zs) e h = (o.chain z y x h.0 e, least_through x y zs e h.1)

    least_if : (z x y : X) (l m : List X) (b : Bool) → first x z ≡ false → first y z ≡ false → Least z l → Least z m → Least z (cond b (y ∷ l) (x ∷ (y ∷ m)))
    least_if z x y l m true e f h g = (f, h)
    least_if z x y l m false e f h g = (e, (f, g))

    least_placed : (z x : X) (xs : List X) → first x z ≡ false → Least z xs → Least z (placed first x xs)
    unfolding placed
    least_placed z x [] e h = (e, tt)
    least_placed z x (y ∷ more) e h = least_if z x y (placed first x more) more (first y x) e h.0 (least_placed z x more e h.1) h.1

    rises_if : (x y : X) (l m : List X) (b : Bool) → first y x ≡ b → (first x y ≡ false → Least y l) → Rises l → Rises (y ∷ m) → Rises (cond b (y ∷ l) (x ∷ (y ∷ m)))
    rises_if x y l m true e f h g = (f (o.one_way y x e), h)
    rises_if x y l m false e f h g = ((e, least_through x y m e g.0), g)

    rises_placed : (x : X) (xs : List X) → Rises xs → Rises (placed first x xs)
    unfolding placed
    rises_placed x [] h = (tt, tt)
    rises_placed x (y ∷ more) h = rises_if x y (placed first x more) more (first y x) refl (λ e. least_placed y x more e h.0) (rises_placed x more h.1) h

    rises_in_order : (xs : List X) → Rises (in_order first xs)
    unfolding in_order
    rises_in_order [] = tt
    rises_in_order (x ∷ xs) = rises_placed x (in_order first xs) (rises_in_order xs)

    pub in_order-sorted : (xs : List X) → IsSortedBy first (in_order first xs)
    in_order-sorted xs = sorted_rises (in_order first xs) (rises_in_order xs)

    -- what ties with an item isn't before it, nor behind it
    both_not : (a b : Bool) → not a && not b ≡ true → (a ≡ false) × (b ≡ false)
    both_not true b e = absurd (true≢false (sym e))
    both_not false true e = absurd (true≢false (sym e))
    both_not false false e = (refl, refl)

    tied : (x y : X) → ties first x y ≡ true → (first x y ≡ false) × (first y x ≡ false)
    tied x y e = both_not (first x y) (first y x) e

    ties_if : (a b : Bool) → a ≡ false → b ≡ false → not a && not b ≡ true
    ties_if a b e f = λ i. not (e i) && not (f i)

    ties_itself : (x : X) → ties first x x ≡ true
    ties_itself x = ties_if (first x x) (first x x) (itself x) (itself x)

    -- of two items that don't tie with the same, at most one is kept, so their order doesn't matter
    exchanged : (x y : X) (l : List X) (a b : Bool) → (a ≡ true → b ≡ true → ⊥) → cond b (y ∷ cond a (x ∷ l) l) (cond a (x ∷ l) l) ≡ cond a (x ∷ cond b (y ∷ l) l) (cond b (y ∷ l) l)
    exchanged x y l true true h = absurd (h refl refl)
    exchanged x y l true false h = refl
    exchanged x y l false true h = refl
    exchanged x y l false false h = refl

    apart : (z x y : X) → first y x ≡ true → ties first z x ≡ true → ties first z y ≡ true → ⊥
    apart z x y e a b = true≢false (sym e ∙ o.chain y z x (tied z y b).1 (tied z x a).0)

    kept_if : (z x y : X) (l m : List X) (b : Bool) → first y x ≡ b → filter (ties first z) l ≡ filter (ties first z) (x ∷ m) → filter (ties first z) (cond b (y ∷ l) (x ∷ (y ∷ m))) ≡ filter (ties first z) (x ∷ (y ∷ m))
    kept_if z x y l m true e h =
        ap (λ k. cond (ties first z y) (y ∷ k) k) h
        ∙ exchanged x y (filter (ties first z) m) (ties first z x) (ties first z y) (apart z x y e)
    kept_if z x y l m false e h = refl

    kept_placed : (z x : X) (xs : List X) → filter (ties first z) (placed first x xs) ≡ filter (ties first z) (x ∷ xs)
    unfolding placed
    kept_placed z x [] = refl
    kept_placed z x (y ∷ more) = kept_if z x y (placed first x more) more (first y x) refl (kept_placed z x more)

    pub in_order-stable : (xs : List X) → IsStableBy first xs (in_order first xs)
    unfolding in_order
    in_order-stable [] z = refl
    in_order-stable (x ∷ xs) z =
        kept_placed z x (in_order first xs)
        ∙ ap (λ k. cond (ties first z x) (x ∷ k) k) (in_order-stable xs z)

    -- an item with which one of a list ties comes before none of which that list comes before none
    reached_if : (y z w : X) (a : X) (l m : List X) (b : Bool) → ties first y w ≡ b → first w z ≡ false → (m ≡ a ∷ l → first y z ≡ false) → cond b (w ∷ m) m ≡ a ∷ l → first y z ≡ false
    reached_if y z w a l m true e f h g = o.chain y w z (tied y w e).0 f
    reached_if y z w a l m false e f h g = h g

    is_empty : List X → Bool
    is_empty [] = true
    is_empty (x ∷ xs) = false

    reached : (y z a : X) (l ws : List X) → Least z ws → filter (ties first y) ws ≡ a ∷ l → first y z ≡ false
    unfolding is_empty
    reached y z a l [] h e = absurd (true≢false (ap is_empty e))
    reached y z a l (w ∷ ws) h e = reached_if y z w a l (filter (ties first y) ws) (ties first y w) refl h.0 (λ g. reached y z a l ws h.1 g) e

    -- two lists that rise and keep the same items that tie with each are one
    put_first : (x : X) (xs : List X) → filter (ties first x) (x ∷ xs) ≡ x ∷ filter (ties first x) xs
    put_first x xs = ap (λ b. cond b (x ∷ filter (ties first x) xs) (filter (ties first x) xs)) (ties_itself x)

    rest : List X → List X
    rest [] = []
    rest (x ∷ xs) = xs

    cut : (y z : X) (l m : List X) (b c : Bool) → b ≡ c → cond b (y ∷ l) l ≡ cond c (z ∷ m) m → l ≡ m
    unfolding rest
    cut y z l m true true e h = ap rest h
    cut y z l m true false e h = absurd (true≢false e)
    cut y z l m false true e h = absurd (true≢false (sym e))
    cut y z l m false false e h = h

    abbrev KeepAlike : List X → List X → Type 0
    KeepAlike ys zs = (x : X) → filter (ties first x) ys ≡ filter (ties first x) zs

    same_first : (y z : X) (ys zs : List X) → Least y ys → Least z zs → KeepAlike (y ∷ ys) (z ∷ zs) → y ≡ z
    same_first y z ys zs a b h =
        let left = reached y z y (filter (ties first y) ys) (z ∷ zs) (itself z, b) (sym (h y) ∙ put_first y ys) in
        let right = reached z y z (filter (ties first z) zs) (y ∷ ys) (itself y, a) (h z ∙ put_first z zs) in
        let tie : ties first y z ≡ true = ties_if (first y z) (first z y) left right in
        ap (λ l. get_or l 0 y) (sym (put_first y ys) ∙ h y ∙ ap (λ c. cond c (z ∷ filter (ties first y) zs) (filter (ties first y) zs)) tie)

    same : (ys zs : List X) → Rises ys → Rises zs → KeepAlike ys zs → ys ≡ zs
    unfolding is_empty
    same [] [] a b h = refl
    same [] (z ∷ zs) a b h = absurd (true≢false (ap is_empty (h z ∙ put_first z zs)))
    same (y ∷ ys) [] a b h = absurd (true≢false (sym (ap is_empty (sym (put_first y ys) ∙ h y))))
    same (y ∷ ys) (z ∷ zs) a b h =
        let p = same_first y z ys zs a.0 b.0 h in
        let q = same ys zs a.1 b.1 (λ x. cut y z (filter (ties first x) ys) (filter (ties first x) zs) (ties first x y) (ties first x z) (ap (ties first x) p) (h x)) in
        λ i. p i ∷ q i

    -- what a stable sort makes is the list in order
    pub sorted_is : (xs ys : List X) → IsSortedBy first ys → IsStableBy first xs ys → ys ≡ in_order first xs
    sorted_is xs ys up stable = same ys (in_order first xs) (rises_of ys (sorted_far first o ys up)) (rises_in_order xs) (λ x. stable x ∙ sym (in_order-stable xs x))

-- the order of what is seen of items
module _ {X Y : Type 0} (f : X → Y) (first : Y → Y → Bool) where
  abbrev seen_first : X → X → Bool
  seen_first x y = first (f x) (f y)

  map_if : (x y : X) (l m : List X) (k : List Y) (b : Bool) → map f l ≡ k → map f (cond b (y ∷ l) (x ∷ (y ∷ m))) ≡ cond b (f y ∷ k) (f x ∷ (f y ∷ map f m))
  map_if x y l m k true e = ap (λ j. f y ∷ j) e
  map_if x y l m k false e = refl

  map-placed : (x : X) (xs : List X) → map f (placed seen_first x xs) ≡ placed first (f x) (map f xs)
  unfolding placed
  map-placed x [] = refl
  map-placed x (y ∷ more) = map_if x y (placed seen_first x more) more (placed first (f x) (map f more)) (first (f y) (f x)) (map-placed x more)

  pub map-in_order : (xs : List X) → map f (in_order seen_first xs) ≡ in_order first (map f xs)
  unfolding in_order
  map-in_order [] = refl
  map-in_order (x ∷ xs) =
      map-placed x (in_order seen_first xs) ∙ ap (placed first (f x)) (map-in_order xs)
