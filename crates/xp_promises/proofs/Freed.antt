-- The numbers that an end has released: all below its front, and those that stand marked above it.
use Rattle.std.proofs.Common.{◌≡◌, ℕ, zero, suc, ◌+◌, ◌-◌, ◌<◌, ◌≤◌, Bool, true, false, not, ltb, List, [], ◌∷◌, ◌++◌, length, set, refl, ap, sym, subst, arith, Some, None, inl, inr, ◌⊎◌}
use Rattle.std.specs.List.{Contains, slice_get}
use Rattle.std.proofs.lemmas.Bool.{cases_eq, and_parts}
use Rattle.std.proofs.lemmas.Bool.Decides.{nat_tests}
use Rattle.std.proofs.lemmas.List.Elements.{Contains-append_left, Contains-push}
use Rattle.xp_base.specs.declared.link.LinkState.{LinkState}
use Rattle.xp_base.specs.declared.link.LinkState.TheVariants.{Idle, Opening, Connected, Closing}
use Rattle.xp_protocol.specs.Releasing.{Releasing, is_held, is_unreleased, message_held, message_released, fronted, unless_held, release_refusal}
use Rattle.xp_meetings.proofs.Gets.{get_both}

-- the numbers, among them all that an end has released
pub record Freed (ns : List ℕ) (x : Releasing) : Type 0 where
  pub below : (number : ℕ) → number < x.front → Contains ns number
  pub above : (i : ℕ) → slice_get x.released_from_front i ≡ Some true → Contains ns (x.front + i)

-- the front moves past what was released
below_next : (ns : List ℕ) (front : ℕ) → Contains ns front → ((number : ℕ) → number < front → Contains ns number) → (number : ℕ) → number < front + 1 → Contains ns number
below_next ns front here below number l = by (cases_eq number front)
  where
    by : (number ≡ front) ⊎ (number ≡ front → ⊥) → Contains ns number
    by (inl e) = subst (λ (n : ℕ). Contains ns n) (sym e) here
    by (inr d) = below number (omega (arith, d, l))

freed_fronted : (ns : List ℕ) (front : ℕ) (later : List Bool) → ((number : ℕ) → number < front → Contains ns number) → ((i : ℕ) → slice_get later i ≡ Some true → Contains ns (front + i)) → Freed ns (fronted front later)
freed_fronted ns front [] below above = record { below = below; above = λ i e. absurd (cc) }
freed_fronted ns front (false ∷ more) below above = record { below = below; above = above }
freed_fronted ns front (true ∷ more) below above =
    let none : front + 0 ≡ front = omega arith in
    freed_fronted ns (front + 1) more (below_next ns front (subst (λ (n : ℕ). Contains ns n) none (above 0 refl)) below)
    (λ i e. let next : front + suc i ≡ front + 1 + i = omega arith in subst (λ (n : ℕ). Contains ns n) next (above (suc i) e))

-- a message is released
marked : (later : List Bool) (k i : ℕ) → slice_get (set later k true) i ≡ Some true → (i ≡ k) ⊎ (slice_get later i ≡ Some true)
marked [] k i e = absurd (cc)
marked (b ∷ later) zero zero e = inl refl
marked (b ∷ later) zero (suc i) e = inr e
marked (b ∷ later) (suc k) zero e = inr e
marked (b ∷ later) (suc k) (suc i) e = elim (marked later k i e) [
  | inl d ↦ inl (ap suc d)
  | inr d ↦ inr d
]

held_from : (number : ℕ) (x : Releasing) → is_held number x ≡ true → x.front ≤ number
held_from number x h = let front : not (ltb number x.front) ≡ true = (and_parts (not (ltb number x.front)) (is_unreleased (slice_get x.released_from_front (number - x.front))) h).0 in grind (arith, nat_tests)

pub freed_released : (ns : List ℕ) (number : ℕ) (x : Releasing) → is_held number x ≡ true → Freed ns x → Freed (ns ++ number ∷ []) (message_released number x)
freed_released ns number x held h =
    freed_fronted (ns ++ number ∷ []) x.front (set x.released_from_front (number - x.front) true)
    (λ n l. Contains-append_left ns (number ∷ []) n (h.below n l))
    (λ i e. above i (marked x.released_from_front (number - x.front) i e))
  where
    above : (i : ℕ) → (i ≡ number - x.front) ⊎ (slice_get x.released_from_front i ≡ Some true) → Contains (ns ++ number ∷ []) (x.front + i)
    above i (inl d) = let e : number ≡ x.front + i = omega (arith, d, held_from number x held) in subst (λ (n : ℕ). Contains (ns ++ number ∷ []) n) e (Contains-push ns number)
    above i (inr d) = Contains-append_left ns (number ∷ []) (x.front + i) (h.above i d)

held_unless : (b : Bool) → unless_held b ≡ None → b ≡ true
held_unless true e = refl
held_unless false e = absurd (cc)

pub unrefused_held : (state : LinkState) (number : ℕ) (x : Releasing) → release_refusal state number x ≡ None → (state ≡ Connected) × (is_held number x ≡ true)
unrefused_held Connected number x e = (refl, held_unless (is_held number x) e)
unrefused_held Idle number x e = absurd (cc)
unrefused_held Opening number x e = absurd (cc)
unrefused_held (Closing reason) number x e = absurd (cc)

-- a message is taken
new_marked : (i : ℕ) → slice_get (false ∷ []) i ≡ Some true → ⊥
new_marked zero e = cc
new_marked (suc i) e = cc

pub freed_held : (ns : List ℕ) (x : Releasing) → Freed ns x → Freed ns (message_held x)
freed_held ns x h = record { below = h.below; above = λ i e. above i (get_both x.released_from_front (false ∷ []) i true e) }
  where
    above : (i : ℕ) → (slice_get x.released_from_front i ≡ Some true) ⊎ ((length x.released_from_front ≤ i) × (slice_get (false ∷ []) (i - length x.released_from_front) ≡ Some true)) → Contains ns (x.front + i)
    above i (inl e) = h.above i e
    above i (inr e) = absurd (new_marked (i - length x.released_from_front) e.1)
