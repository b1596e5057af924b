-- What a change of one item of a list leaves, or of each item, and of one partner or one end among those of a partition.
use Rattle.std.proofs.Common.{◌≡◌, ℕ, zero, suc, ◌+◌, ◌<◌, ◌≤◌, List, [], ◌∷◌, length, refl, ap, sym, ◌∙◌, subst, arith, get_or, set, get_or-set_same, get_or-set_other, inl, inr, ◌⊎◌}
use Rattle.std.proofs.lemmas.Bool.{cases_eq, cases_lt}
use Rattle.std.proofs.lemmas.List.{get_or_past, length-set}
use Rattle.xp_protocol.specs.State.{End, Peer, Old, cold_peer, idle_end, link_at, peer_at, end_at, set_link, set_end, each}

slot_by : {A : Type 0} (P : A → Type 0) (xs : List A) (k j : ℕ) (x d : A) → (j ≡ k) ⊎ (j ≡ k → ⊥) → (k < length xs) ⊎ (length xs ≤ k) → (j ≡ k → P x) → P (get_or xs j d) → P (get_or (set xs k x) j d)
slot_by P xs k j x d (inl e) (inl l) new old = subst P (sym (ap (λ i. get_or (set xs k x) i d) e ∙ get_or-set_same xs k x d l)) (new e)
slot_by P xs k j x d (inl e) (inr l) new old = subst P (get_or_past xs j d (omega (arith, l, e)) ∙ sym (get_or_past (set xs k x) j d (omega (arith, l, e, length-set xs k x)))) old
slot_by P xs k j x d (inr n) l new old = subst P (sym (get_or-set_other xs k j x d n)) old

-- a fact of an item after one item was replaced; no bound on k is needed
pub at_slot : {A : Type 0} (P : A → Type 0) (xs : List A) (k j : ℕ) (x d : A) → (j ≡ k → P x) → P (get_or xs j d) → P (get_or (set xs k x) j d)
at_slot P xs k j x d new old = slot_by P xs k j x d (cases_eq j k) (cases_lt k (length xs)) new old

-- a fact of an item after each changed, by its number
each_from : {A : Type 0} (f : ℕ → A → A) (n : ℕ) (xs : List A) (j : ℕ) (d : A) (P : A → Type 0) → (j < length xs → P (f (n + j) (get_or xs j d))) → (length xs ≤ j → P d) → P (get_or (each f n xs) j d)
each_from f n [] j d P new old = old (omega arith)
each_from f n (x ∷ xs) zero d P new old = let e : n + 0 ≡ n = omega arith in subst (λ (i : ℕ). P (f i x)) e (new (omega arith))
each_from f n (x ∷ xs) (suc j) d P new old = let e : n + suc j ≡ n + 1 + j = omega arith in each_from f (n + 1) xs j d P (λ l. subst (λ (i : ℕ). P (f i (get_or xs j d))) e (new (omega (arith, l)))) (λ l. old (omega (arith, l)))

pub at_each : {A : Type 0} (P : A → Type 0) (f : ℕ → A → A) (xs : List A) (j : ℕ) (d : A) → P (f j (get_or xs j d)) → (length xs ≤ j → P d) → P (get_or (each f 0 xs) j d)
at_each P f xs j d new old = let e : j ≡ 0 + j = omega arith in each_from f 0 xs j d P (λ l. subst (λ (i : ℕ). P (f i (get_or xs j d))) e new) old

-- a fact of a partner after one was replaced
pub at_peer : (P : Peer → Type 0) (peers : List Peer) (k : ℕ) (x : Peer) (q : ℕ) → (q ≡ k → P x) → P (peer_at peers q) → P (peer_at (set peers k x) q)
at_peer P peers k x q new old = at_slot P peers k q x (cold_peer Old) new old

-- a fact of an end after one was replaced
pub at_end : (P : End → Type 0) (peers : List Peer) (k d : ℕ) (x : End) (q c : ℕ) → (q ≡ k → c ≡ d → P x) → P (end_at peers q c) → P (end_at (set_end peers k d x) q c)
at_end P peers k d x q c new old =
    at_peer (λ (p : Peer). P (link_at p.links c)) peers k (set_link (peer_at peers k) d x) q
    (λ e. at_slot P (peer_at peers k).links d c x idle_end (λ f. new e f) (subst (λ (j : ℕ). P (end_at peers j c)) e old)) old

-- the first items changed, by their numbers: what a loop over them has done
abbrev pub each_to : {A : Type 0} → (ℕ → A → A) → ℕ → ℕ → List A → List A
each_to f n zero xs = xs
each_to f n (suc k) [] = []
each_to f n (suc k) (x ∷ xs) = f n x ∷ each_to f (n + 1) k xs

pub each_to-get : {A : Type 0} (f : ℕ → A → A) (n k : ℕ) (xs : List A) (d : A) → get_or (each_to f n k xs) k d ≡ get_or xs k d
each_to-get f n zero xs d = refl
each_to-get f n (suc k) [] d = refl
each_to-get f n (suc k) (x ∷ xs) d = each_to-get f (n + 1) k xs d

pub each_to-next : {A : Type 0} (f : ℕ → A → A) (n k : ℕ) (xs : List A) (d : A) → k < length xs → each_to f n (suc k) xs ≡ set (each_to f n k xs) k (f (n + k) (get_or xs k d))
each_to-next f n k [] d l = absurd (omega (arith, l))
each_to-next f n zero (x ∷ xs) d l = let e : n ≡ n + 0 = omega arith in ap (λ (i : ℕ). f i x ∷ xs) e
each_to-next f n (suc k) (x ∷ xs) d l = let e : n + 1 + k ≡ n + suc k = omega arith in ap (λ (ys : List _). f n x ∷ ys) (each_to-next f (n + 1) k xs d (omega (arith, l)) ∙ ap (λ (i : ℕ). set (each_to f (n + 1) k xs) k (f i (get_or xs k d))) e)

pub each_to-all : {A : Type 0} (f : ℕ → A → A) (n k : ℕ) (xs : List A) → length xs ≤ k → each_to f n k xs ≡ each f n xs
each_to-all f n zero [] l = refl
each_to-all f n zero (x ∷ xs) l = absurd (omega (arith, l))
each_to-all f n (suc k) [] l = refl
each_to-all f n (suc k) (x ∷ xs) l = ap (λ (ys : List _). f n x ∷ ys) (each_to-all f (n + 1) k xs (omega (arith, l)))
