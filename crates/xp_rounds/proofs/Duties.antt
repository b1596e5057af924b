-- What is due at an errand of a place is done in time: within VISIT_TURNS turns a place, and VISIT_TURNS more.
use Rattle.std.proofs.Common.{◌≡◌, ℕ, ◌+◌, ◌-◌, ◌*◌, ◌<◌, ◌≤◌, List, [], ◌∷◌, length, refl, ◌∙◌, subst, arith, inl, inr, ◌⊎◌, Option, Some}
use Rattle.xp_rounds.specs.declared.rounds.TheConstants.{VISIT_TURNS}
use Rattle.xp_rounds.specs.Ring.{IsRing}
use Rattle.xp_rounds.specs.Visit.{Plan, Visit, planned, Follows}
use Rattle.xp_rounds.proofs.Comes.{left, left_low}
use Rattle.xp_rounds.proofs.Visits.{Fits, Busy, Comes, Closer, Waits, turn_waits, planned_on, busy_turn}

-- turns that follow a plan, of which something more is known
module _ {State Errand Rule T : Type 0} (p : Plan State Errand Rule) (mid after : State → T → State) (did : State → T → Option Rule) (count : ℕ) (More : Visit Errand → State → List T → Type 0)
    (next : (v : Visit Errand) (st : State) (t : T) (ts : List T) → did (mid st t) t ≡ (planned p v (mid st t)).rule → More v st (t ∷ ts) → More (planned p v (mid st t)).visit (after st t) ts) where
  pub record Along (v : Visit Errand) (st : State) (ts : List T) : Type 0 where
    pub ring : IsRing v.ring
    pub places : v.ring.count ≡ count
    pub follows : Follows p mid after did v st ts
    pub more : More v st ts

  pub along_next : (v : Visit Errand) (st : State) (t : T) (ts : List T) → Along v st (t ∷ ts) → Along (planned p v (mid st t)).visit (after st t) ts
  along_next v st t ts a =
      let o = planned_on p (mid st t) v a.ring in
      record { ring = o.0; places = o.1 ∙ a.places; follows = a.follows.1; more = next v st t ts a.follows.0 a.more }

  -- what is due may come in phases, as a copy that is begun and then over; each has its own claim on the turns that are left.
  -- A step of a duty makes its claim good, or leaves fewer steps to make and a claim that makes it good.
  pub record Moved (Phase : Type 0) (Work : Phase → ℕ → ℕ → State → Type 0) (P : Phase → State → List T → Type 0) (ph : Phase) (n used : ℕ) (st : State) (t : T) (ts : List T) : Type 0 where
    pub fewer : ℕ
    pub low : fewer < n
    pub phase : Phase
    pub work : Work phase fewer (used + 1) (after st t)
    pub lift : P phase (after st t) ts → P ph st (t ∷ ts)

  -- the errand e at place k does what is due. Where it had so many turns, and n more than the next one are to be made, it asks for that one.
  pub record Duty (k : ℕ) (e : Errand) (room : ℕ) (Due : State → Type 0) (Phase : Type 0) (first : Phase) (Work : Phase → ℕ → ℕ → State → Type 0) (P : Phase → State → List T → Type 0) : Type 0 where
    pub later : (st : State) (t : T) (ts : List T) → P first (after st t) ts → P first st (t ∷ ts)
    pub stays : (v : Visit Errand) (st : State) (t : T) (ts : List T) → Along v st (t ∷ ts) → room ≤ length ts → Due st → P first st (t ∷ ts) ⊎ Due (after st t)
    pub fits : (v : Visit Errand) (st : State) (t : T) (ts : List T) → Along v st (t ∷ ts) → Due st → Fits p e (p.errands k (mid st t))
    pub begins : (v : Visit Errand) (st : State) (t : T) (ts : List T) → Along v st (t ∷ ts) → Due st → (n : ℕ) × (n < p.quota e) × Work first n 0 st
    pub asks : (ph : Phase) (n used : ℕ) (v : Visit Errand) (st : State) (t : T) (ts : List T) → Along v st (t ∷ ts) → room ≤ length ts → used + n < p.quota e → Work ph n used st
        → (x : Option Rule) × (p.ask k e used (mid st t) ≡ Some x) × (did (mid st t) t ≡ x → P ph st (t ∷ ts) ⊎ Moved Phase Work P ph n used st t ts)

  module _ (k : ℕ) (e : Errand) (room : ℕ) (Due : State → Type 0) (Phase : Type 0) (first : Phase) (Work : Phase → ℕ → ℕ → State → Type 0) (P : Phase → State → List T → Type 0) (d : Duty k e room Due Phase first Work P) where
    or_go : (A Q : Type 0) → (B : Type 0) → A ⊎ B → (A → Q) → (B → Q) → Q
    or_go A Q B (inl a) f g = f a
    or_go A Q B (inr b) f g = g b

    -- at the errand
    pub works : (ph : Phase) (n used : ℕ) (v : Visit Errand) (st : State) (ts : List T) → used + n < p.quota e → n + room < length ts → Along v st ts → Busy p k e used v → Work ph n used st → P ph st ts
    works ph n used v st [] low long a b w = absurd (omega (arith, long))
    works ph n used v st (t ∷ ts) low long a b w =
        let x = d.asks ph n used v st t ts a (omega (arith, long)) low w in
        let y = busy_turn p k e used v (mid st t) x.0 b (omega (arith, low)) x.1 in
        or_go (P ph st (t ∷ ts)) (P ph st (t ∷ ts)) (Moved Phase Work P ph n used st t ts) (x.2 (a.follows.0 ∙ y.0)) (λ q. q)
        (λ z. let less = z.low in z.lift (works z.phase z.fewer (used + 1) (planned p v (mid st t)).visit (after st t) ts (omega (arith, low, less)) (omega (arith, long, less)) (along_next v st t ts a) (y.1 (omega (arith, low, less))) z.work))

    come : (v : Visit Errand) (st : State) (t : T) (ts : List T) → p.quota e + room ≤ length ts → Along v st (t ∷ ts) → Due st → Comes p k e (mid st t) (planned p v (mid st t)) → P first st (t ∷ ts)
    come v st t ts long a due c =
        let g = d.begins v st t ts a due in
        let few : g.0 < p.quota e = g.1 in
        let x = d.asks first g.0 0 v st t ts a (omega (arith, long)) (omega (arith, few)) g.2 in
        let y = c x.0 x.1 in
        or_go (P first st (t ∷ ts)) (P first st (t ∷ ts)) (Moved Phase Work P first g.0 0 st t ts) (x.2 (a.follows.0 ∙ y.0)) (λ q. q)
        (λ z. let less = z.low in z.lift (works z.phase z.fewer 1 (planned p v (mid st t)).visit (after st t) ts (omega (arith, few, less)) (omega (arith, few, less, long)) (along_next v st t ts a) (y.1 (omega (arith, few, less))) (subst (λ (j : ℕ). Work z.phase z.fewer j (after st t)) (let e : 0 + 1 ≡ 1 = refl in e) z.work)))

    waits : (n : ℕ) (v : Visit Errand) (st : State) (ts : List T) → k < count → 1 ≤ p.quota e → n + p.quota e + room < length ts → Along v st ts → Due st → Waits p k e n v → P first st ts
    waits n v st [] low some long a due w = absurd (omega (arith, long))
    waits n v st (t ∷ ts) low some long a due w =
        let c = a.places in
        or_go (Comes p k e (mid st t) (planned p v (mid st t))) (P first st (t ∷ ts)) (Closer p k e n (planned p v (mid st t)).visit)
        (turn_waits p k e n (mid st t) v some (d.fits v st t ts a due) (omega (arith, low, c)) a.ring w)
        (λ here. come v st t ts (omega (arith, long)) a due here)
        (λ on.
        let less = on.low in
        or_go (P first st (t ∷ ts)) (P first st (t ∷ ts)) (Due (after st t)) (d.stays v st t ts a (omega (arith, long)) due) (λ q. q)
        (λ g. d.later st t ts (waits on.fewer (planned p v (mid st t)).visit (after st t) ts low some (omega (arith, long, less)) (along_next v st t ts a) g on.waits)))

    pub done : (v : Visit Errand) (st : State) (ts : List T) → k < count → 1 ≤ p.quota e → p.quota e ≤ VISIT_TURNS → VISIT_TURNS * count + VISIT_TURNS + room < length ts → Along v st ts → Due st → P first st ts
    done v st ts low some most long a due =
        let c = a.places in
        let l = left_low k v.ring (omega (arith, low, c)) a.ring in
        waits (left k v.ring + VISIT_TURNS - p.quota e) v st ts low some (omega (arith, long, l, c, most)) a due (inr (inr (omega arith)))
