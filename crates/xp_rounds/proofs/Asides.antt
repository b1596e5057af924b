-- The same of an errand before which another one may be at work at the same place: while it is, the
-- errand that is waited for only comes nearer, and where it comes, something more is known.
use Rattle.std.proofs.Common.{◌≡◌, ℕ, ◌+◌, ◌-◌, ◌*◌, ◌<◌, ◌≤◌, List, [], ◌∷◌, length, refl, ◌∙◌, subst, arith, inl, inr, ◌⊎◌, Option, Some}
use Rattle.xp_rounds.specs.declared.rounds.TheConstants.{VISIT_TURNS}
use Rattle.xp_rounds.specs.Visit.{Plan, Visit, planned}
use Rattle.xp_rounds.proofs.Comes.{left, left_low}
use Rattle.xp_rounds.proofs.Visits.{Fits, Busy, Comes, Closer, Waits, Aside, turn_waits, aside_waits, busy_turn}
use Rattle.xp_rounds.proofs.Duties.{Along, along_next, Moved}

module _ {State Errand Rule T : Type 0} (p : Plan State Errand Rule) (mid after : State → T → State) (did : State → T → Option Rule) (count : ℕ) (More : Visit Errand → State → List T → Type 0)
    (next : (v : Visit Errand) (st : State) (t : T) (ts : List T) → did (mid st t) t ≡ (planned p v (mid st t)).rule → More v st (t ∷ ts) → More (planned p v (mid st t)).visit (after st t) ts) where
  abbrev IsAlong : Visit Errand → State → List T → Type 0
  IsAlong v st ts = Along p mid after did count More next v st ts

  -- as Duty; Free is known where the errand comes
  pub record Duty (k : ℕ) (e : Errand) (room : ℕ) (Free : State → T → Type 0) (Due : State → Type 0) (Phase : Type 0) (first : Phase) (Work : Phase → ℕ → ℕ → State → Type 0) (P : Phase → State → List T → Type 0) : Type 0 where
    pub later : (st : State) (t : T) (ts : List T) → P first (after st t) ts → P first st (t ∷ ts)
    pub aside : (v : Visit Errand) (st : State) (t : T) (ts : List T) → IsAlong v st (t ∷ ts) → Due st → Aside p e v (mid st t) ⊎ Free st t
    pub stays : (v : Visit Errand) (st : State) (t : T) (ts : List T) → IsAlong v st (t ∷ ts) → room ≤ length ts → Due st → P first st (t ∷ ts) ⊎ Due (after st t)
    pub fits : (v : Visit Errand) (st : State) (t : T) (ts : List T) → IsAlong v st (t ∷ ts) → Due st → Fits p e (p.errands k (mid st t))
    pub begins : (v : Visit Errand) (st : State) (t : T) (ts : List T) → IsAlong v st (t ∷ ts) → Free st t → Due st → (n : ℕ) × (n < p.quota e) × Work first n 0 st
    pub asks : (ph : Phase) (n used : ℕ) (v : Visit Errand) (st : State) (t : T) (ts : List T) → IsAlong v st (t ∷ ts) → (used ≡ 0 → Free st t) → room ≤ length ts → used + n < p.quota e → Work ph n used st
        → (x : Option Rule) × (p.ask k e used (mid st t) ≡ Some x) × (did (mid st t) t ≡ x → P ph st (t ∷ ts) ⊎ Moved p mid after did count More next Phase Work P ph n used st t ts)

  module _ (k : ℕ) (e : Errand) (room : ℕ) (Free : State → T → Type 0) (Due : State → Type 0) (Phase : Type 0) (first : Phase) (Work : Phase → ℕ → ℕ → State → Type 0) (P : Phase → State → List T → Type 0) (d : Duty k e room Free Due Phase first Work P) where
    or_go : (A Q : Type 0) → (B : Type 0) → A ⊎ B → (A → Q) → (B → Q) → Q
    or_go A Q B (inl a) f g = f a
    or_go A Q B (inr b) f g = g b

    abbrev Moves : Phase → ℕ → ℕ → State → T → List T → Type 0
    Moves ph n used st t ts = Moved p mid after did count More next Phase Work P ph n used st t ts

    works : (ph : Phase) (n used : ℕ) (v : Visit Errand) (st : State) (ts : List T) → 0 < used → used + n < p.quota e → n + room < length ts → IsAlong v st ts → Busy p k e used v → Work ph n used st → P ph st ts
    works ph n used v st [] some low long a b w = absurd (omega (arith, long))
    works ph n used v st (t ∷ ts) some low long a b w =
        let x = d.asks ph n used v st t ts a (λ z. absurd (omega (arith, some, z))) (omega (arith, long)) low w in
        let y = busy_turn p k e used v (mid st t) x.0 b (omega (arith, low)) x.1 in
        or_go (P ph st (t ∷ ts)) (P ph st (t ∷ ts)) (Moves ph n used st t ts) (x.2 (a.follows.0 ∙ y.0)) (λ q. q)
        (λ z. let less = z.low in z.lift (works z.phase z.fewer (used + 1) (planned p v (mid st t)).visit (after st t) ts (omega arith) (omega (arith, low, less)) (omega (arith, long, less)) (along_next p mid after did count More next v st t ts a) (y.1 (omega (arith, low, less))) z.work))

    come : (v : Visit Errand) (st : State) (t : T) (ts : List T) → p.quota e + room ≤ length ts → IsAlong v st (t ∷ ts) → Free st t → Due st → Comes p k e (mid st t) (planned p v (mid st t)) → P first st (t ∷ ts)
    come v st t ts long a free due c =
        let g = d.begins v st t ts a free due in
        let few : g.0 < p.quota e = g.1 in
        let x = d.asks first g.0 0 v st t ts a (λ z. free) (omega (arith, long)) (omega (arith, few)) g.2 in
        let y = c x.0 x.1 in
        or_go (P first st (t ∷ ts)) (P first st (t ∷ ts)) (Moves first g.0 0 st t ts) (x.2 (a.follows.0 ∙ y.0)) (λ q. q)
        (λ z. let less = z.low in z.lift (works z.phase z.fewer 1 (planned p v (mid st t)).visit (after st t) ts (omega arith) (omega (arith, few, less)) (omega (arith, few, less, long)) (along_next p mid after did count More next v st t ts a) (y.1 (omega (arith, few, less))) (subst (λ (j : ℕ). Work z.phase z.fewer j (after st t)) (let e : 0 + 1 ≡ 1 = refl in e) z.work)))

    -- the errand is nearer after a turn
    on_turn : (n : ℕ) (v : Visit Errand) (st : State) (t : T) (ts : List T) → n + p.quota e + room ≤ length ts → IsAlong v st (t ∷ ts) → Due st → Closer p k e n (planned p v (mid st t)).visit
        → ((fewer : ℕ) → fewer < n → Due (after st t) → Waits p k e fewer (planned p v (mid st t)).visit → P first (after st t) ts) → P first st (t ∷ ts)
    on_turn n v st t ts long a due x go =
        or_go (P first st (t ∷ ts)) (P first st (t ∷ ts)) (Due (after st t)) (d.stays v st t ts a (omega (arith, long)) due) (λ q. q)
        (λ g. d.later st t ts (go x.fewer x.low g x.waits))

    waits : (n : ℕ) (v : Visit Errand) (st : State) (ts : List T) → k < count → 1 ≤ p.quota e → p.quota e ≤ VISIT_TURNS → n + p.quota e + room < length ts → IsAlong v st ts → Due st → Waits p k e n v → P first st ts
    waits n v st [] low some most long a due w = absurd (omega (arith, long))
    waits n v st (t ∷ ts) low some most long a due w =
        let c = a.places in
        let more : k < v.ring.count = omega (arith, low, c) in
        let go : (fewer : ℕ) → fewer < n → Due (after st t) → Waits p k e fewer (planned p v (mid st t)).visit → P first (after st t) ts = λ fewer less g x. waits fewer (planned p v (mid st t)).visit (after st t) ts low some most (omega (arith, long, less)) (along_next p mid after did count More next v st t ts a) g x in
        or_go (Aside p e v (mid st t)) (P first st (t ∷ ts)) (Free st t) (d.aside v st t ts a due)
        (λ x. on_turn n v st t ts (omega (arith, long)) a due (aside_waits p k e n (mid st t) v some most more a.ring x w) go)
        (λ free. or_go (Comes p k e (mid st t) (planned p v (mid st t))) (P first st (t ∷ ts)) (Closer p k e n (planned p v (mid st t)).visit)
        (turn_waits p k e n (mid st t) v some (d.fits v st t ts a due) more a.ring w)
        (λ here. come v st t ts (omega (arith, long)) a free due here)
        (λ x. on_turn n v st t ts (omega (arith, long)) a due x go))

    pub done : (v : Visit Errand) (st : State) (ts : List T) → k < count → 1 ≤ p.quota e → p.quota e ≤ VISIT_TURNS → VISIT_TURNS * count + VISIT_TURNS + room < length ts → IsAlong v st ts → Due st → P first st ts
    done v st ts low some most long a due =
        let c = a.places in
        let l = left_low k v.ring (omega (arith, low, c)) a.ring in
        waits (left k v.ring + VISIT_TURNS - p.quota e) v st ts low some most (omega (arith, long, l, c, most)) a due (inr (inr (omega arith)))
