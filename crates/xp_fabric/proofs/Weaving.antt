-- Weaving: from a history of what is seen of some lists, a history of the lists themselves is made. What isn't seen
-- stands in it where its own list's order has it.
use Rattle.std.proofs.Common.{◌≡◌, ◌≢◌, ℕ, zero, suc, ◌<◌, ◌≤◌, Bool, cond, eqb, eq-eqb, ne_eqb, List, [], ◌∷◌, ◌++◌, Option, Some, None, refl, ap, sym, subst, ◌∙◌, append-nil, arith}
use mathlib.Core.Logic.{dite}
use native.Mathlib.Decide.{ℕ_discrete}
use Rattle.xp_fabric.specs.declared.part_item.PartItem.{PartItem}
use Rattle.xp_fabric.specs.Steps.{items_of, PartsBelow}
use Rattle.std.specs.List.{cons_option, filter_map}
use Rattle.xp_fabric.proofs.StepLemmas.{items_of-append, below-append}

module _ {T : Type 0} where
  abbrev pub all_of : ℕ → List T → List (PartItem T)
  all_of p [] = []
  all_of p (t ∷ ts) = record { part = p; item = t } ∷ all_of p ts

  below-all_of : (n p : ℕ) (ts : List T) → p < n → PartsBelow n (all_of p ts)
  below-all_of n p [] h = tt
  below-all_of n p (t ∷ ts) h = (h, below-all_of n p ts h)

  items_of-all_of : (p : ℕ) (ts : List T) → items_of p (all_of p ts) ≡ ts
  items_of-all_of p [] = refl
  items_of-all_of p (t ∷ ts) = ap (λ (b : Bool). cond b (t ∷ items_of p (all_of p ts)) (items_of p (all_of p ts))) (eq-eqb p p refl) ∙ ap (λ (l : List T). t ∷ l) (items_of-all_of p ts)

  items_of-all_of_others : (p q : ℕ) (ts : List T) → p ≢ q → items_of q (all_of p ts) ≡ []
  items_of-all_of_others p q [] ne = refl
  items_of-all_of_others p q (t ∷ ts) ne = ap (λ (b : Bool). cond b (t ∷ items_of q (all_of p ts)) (items_of q (all_of p ts))) (ne_eqb p q ne) ∙ items_of-all_of_others p q ts ne

module _ {S : Type 0} where
  -- what is seen of one item, before the others
  abbrev pub cons_item : ℕ → Option S → List (PartItem S) → List (PartItem S)
  cons_item p None xs = xs
  cons_item p (Some s) xs = record { part = p; item = s } ∷ xs

module _ {T S : Type 0} (look : T → Option S) where
  -- what is seen of each item, with its partition
  abbrev pub filter_map_items : List (PartItem T) → List (PartItem S)
  filter_map_items [] = []
  filter_map_items (x ∷ xs) = cons_item x.part (look x.item) (filter_map_items xs)

  cons_item-append : (p : ℕ) (o : Option S) (xs ys zs : List (PartItem S)) → zs ≡ xs ++ ys → cons_item p o zs ≡ cons_item p o xs ++ ys
  cons_item-append p None xs ys zs e = e
  cons_item-append p (Some s) xs ys zs e = ap (λ (l : List (PartItem S)). record { part = p; item = s } ∷ l) e

  filter_map_items-append : (xs ys : List (PartItem T)) → filter_map_items (xs ++ ys) ≡ filter_map_items xs ++ filter_map_items ys
  filter_map_items-append [] ys = refl
  filter_map_items-append (x ∷ xs) ys = cons_item-append x.part (look x.item) (filter_map_items xs) (filter_map_items ys) (filter_map_items (xs ++ ys)) (filter_map_items-append xs ys)

  cons_item-all_of : (p : ℕ) (o : Option S) (xs : List (PartItem S)) (ss : List S) → xs ≡ all_of p ss → cons_item p o xs ≡ all_of p (cons_option o ss)
  cons_item-all_of p None xs ss e = e
  cons_item-all_of p (Some s) xs ss e = ap (λ (l : List (PartItem S)). record { part = p; item = s } ∷ l) e

  filter_map_items-all_of : (p : ℕ) (ts : List T) → filter_map_items (all_of p ts) ≡ all_of p (filter_map look ts)
  filter_map_items-all_of p [] = refl
  filter_map_items-all_of p (t ∷ ts) = cons_item-all_of p (look t) (filter_map_items (all_of p ts)) (filter_map look ts) (filter_map_items-all_of p ts)

  -- a list is cut before the first that is seen: those before it, that one, and the rest
  pub record Cut (ts : List T) (s : S) (rest : List S) : Type 0 where
    pub hidden : List T
    pub at : T
    pub after : List T
    pub whole : ts ≡ hidden ++ at ∷ after
    pub unseen : filter_map look hidden ≡ []
    pub is : look at ≡ Some s
    pub seen : filter_map look after ≡ rest

  first_or : S → List S → S
  first_or d [] = d
  first_or d (x ∷ l) = x

  tail : List S → List S
  tail [] = []
  tail (x ∷ l) = l

  IsNone : List S → Type 0
  IsNone [] = Unit {0}
  IsNone (x ∷ l) = ⊥

  none_cons : (s : S) (xs : List S) → [] ≡ s ∷ xs → ⊥
  unfolding IsNone
  none_cons s xs e = subst IsNone e tt

  head_eq : (s t : S) (xs ys : List S) → s ∷ xs ≡ t ∷ ys → s ≡ t
  unfolding first_or
  head_eq s t xs ys e = ap (first_or s) e

  tail_eq : (s t : S) (xs ys : List S) → s ∷ xs ≡ t ∷ ys → xs ≡ ys
  unfolding tail
  tail_eq s t xs ys e = ap tail e

  cut_on : (t : T) (ts : List T) (s : S) (rest : List S) → (filter_map look ts ≡ s ∷ rest → Cut ts s rest) → (o : Option S) → look t ≡ o → cons_option o (filter_map look ts) ≡ s ∷ rest → Cut (t ∷ ts) s rest
  cut_on t ts s rest before (Some u) is e = record {
    hidden = [];
    at = t;
    after = ts;
    whole = refl;
    unseen = refl;
    is = is ∙ ap (λ (v : S). Some v) (head_eq u s (filter_map look ts) rest e);
    seen = tail_eq u s (filter_map look ts) rest e;
  }
  cut_on t ts s rest before None is e =
      let c = before e in record {
        hidden = t ∷ c.hidden;
        at = c.at;
        after = c.after;
        whole = ap (λ (l : List T). t ∷ l) c.whole;
        unseen = ap (λ (o : Option S). cons_option o (filter_map look c.hidden)) is ∙ c.unseen;
        is = c.is;
        seen = c.seen;
      }

  cut : (ts : List T) (s : S) (rest : List S) → filter_map look ts ≡ s ∷ rest → Cut ts s rest
  cut [] s rest e = absurd (none_cons s rest e)
  cut (t ∷ ts) s rest e = cut_on t ts s rest (cut ts s rest) (look t) refl e

  -- a history of the lists hs, of which xs is what is seen
  pub record Woven (n : ℕ) (xs : List (PartItem S)) (hs : ℕ → List T) : Type 0 where
    pub woven : List (PartItem T)
    pub below : PartsBelow n woven
    pub shows : filter_map_items woven ≡ xs
    pub parts : (p : ℕ) → p < n → items_of p woven ≡ hs p

  pub items_of-beyond : {X : Type 0} (n p : ℕ) (xs : List (PartItem X)) → PartsBelow n xs → n ≤ p → items_of p xs ≡ []
  items_of-beyond n p [] a h = refl
  items_of-beyond n p (x ∷ xs) a h =
      let low = a.0 in
      ap (λ (b : Bool). cond b (x.item ∷ items_of p xs) (items_of p xs)) (ne_eqb x.part p (λ e. let f = e in absurd (omega arith))) ∙ items_of-beyond n p xs a.1 h

  below-more : {X : Type 0} (n : ℕ) (xs : List (PartItem X)) → PartsBelow n xs → PartsBelow (suc n) xs
  below-more n [] a = tt
  below-more n (x ∷ xs) a = (let low = a.0 in omega arith, below-more n xs a.1)

  flush : (n : ℕ) (hs : ℕ → List T) → ((p : ℕ) → p < n → [] ≡ filter_map look (hs p)) → Woven n [] hs
  flush zero hs none = record { woven = []; below = tt; shows = refl; parts = λ p h. absurd (omega arith) }
  flush (suc n) hs none =
      let w = flush n hs (λ p h. none p (omega arith)) in
      let last = all_of n (hs n) in
      record {
        woven = w.woven ++ last;
        below = below-append (suc n) w.woven last (below-more n w.woven w.below) (below-all_of (suc n) n (hs n) (omega arith));
        shows = filter_map_items-append w.woven last ∙ (ap (λ (l : List (PartItem S)). l ++ filter_map_items last) w.shows ∙ (filter_map_items-all_of n (hs n) ∙ ap (all_of n) (sym (none n (omega arith)))));
        parts = λ p h. dite (ℕ_discrete n p)
            (λ (e : n ≡ p). subst (λ (q : ℕ). items_of q (w.woven ++ last) ≡ hs q) e
            (items_of-append n w.woven last ∙ (ap (λ (l : List T). l ++ items_of n last) (items_of-beyond n n w.woven w.below (omega arith)) ∙ items_of-all_of n (hs n))))
            (λ (ne : n ≢ p). items_of-append p w.woven last ∙ (ap (λ (l : List T). items_of p w.woven ++ l) (items_of-all_of_others n p (hs n) ne) ∙ (append-nil (items_of p w.woven) ∙ w.parts p (omega arith))));
      }

  less : (q : ℕ) (after : List T) (hs : ℕ → List T) → ℕ → List T
  less q after hs p = cond (eqb p q) after (hs p)

  less-own : (q : ℕ) (after : List T) (hs : ℕ → List T) → less q after hs q ≡ after
  unfolding less
  less-own q after hs = ap (λ (b : Bool). cond b after (hs q)) (eq-eqb q q refl)

  less-other : (q p : ℕ) (after : List T) (hs : ℕ → List T) → p ≢ q → less q after hs p ≡ hs p
  unfolding less
  less-other q p after hs ne = ap (λ (b : Bool). cond b after (hs p)) (ne_eqb p q ne)

  items_of-first : {X : Type 0} (x : PartItem X) (xs : List (PartItem X)) → items_of x.part (x ∷ xs) ≡ x.item ∷ items_of x.part xs
  items_of-first x xs = ap (λ (b : Bool). cond b (x.item ∷ items_of x.part xs) (items_of x.part xs)) (eq-eqb x.part x.part refl)

  items_of-next : {X : Type 0} (p : ℕ) (x : PartItem X) (xs : List (PartItem X)) → p ≢ x.part → items_of p (x ∷ xs) ≡ items_of p xs
  items_of-next p x xs ne = ap (λ (b : Bool). cond b (x.item ∷ items_of p xs) (items_of p xs)) (ne_eqb x.part p (λ e. ne (sym e)))

  pub weave : (n : ℕ) (xs : List (PartItem S)) (hs : ℕ → List T) → PartsBelow n xs → ((p : ℕ) → p < n → items_of p xs ≡ filter_map look (hs p)) → Woven n xs hs
  weave n [] hs a parts = flush n hs parts
  weave n (x ∷ xs) hs a parts =
      let q = x.part in
      let c = cut (hs q) x.item (items_of q xs) (sym (parts q a.0) ∙ items_of-first x xs) in
      let hs' = less q c.after hs in
      let w = weave n xs hs' a.1 (λ p h. dite (ℕ_discrete p q)
      (λ (e : p ≡ q). ap (λ (k : ℕ). items_of k xs) e ∙ (sym c.seen ∙ ap (filter_map look) (sym (ap hs' e ∙ less-own q c.after hs))))
      (λ (ne : p ≢ q). sym (items_of-next p x xs ne) ∙ (parts p h ∙ ap (filter_map look) (sym (less-other q p c.after hs ne))))) in
      let front = all_of q c.hidden in
      let y : PartItem T = record { part = q; item = c.at } in
      record {
        woven = front ++ y ∷ w.woven;
        below = below-append n front (y ∷ w.woven) (below-all_of n q c.hidden a.0) (a.0, w.below);
        shows = filter_map_items-append front (y ∷ w.woven)
            ∙ (ap (λ (l : List (PartItem S)). l ++ filter_map_items (y ∷ w.woven)) (filter_map_items-all_of q c.hidden ∙ ap (all_of q) c.unseen)
            ∙ (ap (λ (o : Option S). cons_item q o (filter_map_items w.woven)) c.is ∙ ap (λ (l : List (PartItem S)). x ∷ l) w.shows));
        parts = λ p h. dite (ℕ_discrete p q)
            (λ (e : p ≡ q). subst (λ (k : ℕ). items_of k (front ++ y ∷ w.woven) ≡ hs k) (sym e)
            (items_of-append q front (y ∷ w.woven)
            ∙ (ap (λ (l : List T). l ++ items_of q (y ∷ w.woven)) (items_of-all_of q c.hidden)
            ∙ (ap (λ (l : List T). c.hidden ++ l) (items_of-first y w.woven ∙ ap (λ (l : List T). c.at ∷ l) (w.parts q a.0 ∙ less-own q c.after hs)) ∙ sym c.whole))))
            (λ (ne : p ≢ q). items_of-append p front (y ∷ w.woven)
            ∙ (ap (λ (l : List T). l ++ items_of p (y ∷ w.woven)) (items_of-all_of_others q p c.hidden (λ e. ne (sym e)))
            ∙ (items_of-next p y w.woven ne ∙ (w.parts p h ∙ less-other q p c.after hs ne))));
      }
