-- Each step is made for some errand, which is at work then: where all errands of each program fit into a visit, none is cut by its end.
use Rattle.std.proofs.Common.{◌≡◌, ℕ, ◌+◌, ◌<◌, ◌≤◌, Bool, true, false, cond, List, [], ◌∷◌, refl, ap, sym, ◌∙◌, subst, arith, inl, inr, ◌⊎◌, Option, Some, None}
use Rattle.std.specs.Prelude.{nat_lt, nat_eq}
use Rattle.std.proofs.lemmas.Bool.Decides.{nat_tests}
use Rattle.xp_rounds.specs.declared.rounds.TheConstants.{VISIT_TURNS}
use Rattle.xp_rounds.specs.Ring.{Ring, passed, after_turn}
use Rattle.xp_rounds.specs.Visit.{Plan, Visit, Found, Planned, pick, seek, seek_anew, seek_on, turn_spent, planned_next, planned_here, planned, cost}
use Rattle.xp_rounds.proofs.Visits.{Begun, begun_fresh, Busy, on_turn}

module _ {State Errand Rule : Type 0} (p : Plan State Errand Rule) (whole : (k : ℕ) (st : State) → cost p (p.errands k st) ≤ VISIT_TURNS) where
  -- what is left of a visit fits into it
  pub record Paced (v : Visit Errand) : Type 0 where
    pub begun : 0 < v.ring.made → Begun p v.rest v.used
    pub low : 0 < v.ring.made → v.ring.made + cost p v.rest ≤ VISIT_TURNS + v.used

  -- the errand that was found, and what it asked for
  pub record Sought (k : ℕ) (st : State) (es : List Errand) (used : ℕ) (f : Found Errand Rule) (x : Option Rule) : Type 0 where
    pub errand : Errand
    pub back : List Errand
    pub rest : f.rest ≡ errand ∷ back
    pub few : f.used < p.quota errand
    pub asks : p.ask k errand f.used st ≡ Some x
    pub low : cost p back + p.quota errand + used ≤ cost p es + f.used

  abbrev Seeks : ℕ → State → List Errand → ℕ → Found Errand Rule → Type 0
  Seeks k st es used f = (f.turn ≡ None) ⊎ ((x : Option Rule) × (f.turn ≡ Some x) × Sought k st es used f x)

  longer : (k : ℕ) (st : State) (es : List Errand) (e : Errand) (used : ℕ) (f : Found Errand Rule) → used ≤ p.quota e → Seeks k st es 0 f → Seeks k st (e ∷ es) used f
  longer k st es e used f h (inl n) = inl n
  longer k st es e used f h (inr y) =
      let z = y.2 in
      let l = z.low in
      inr (y.0, y.1, record { errand = z.errand; back = z.back; rest = z.rest; few = z.few; asks = z.asks; low = omega (arith, l, h) })

  pub sought : (k : ℕ) (st : State) (es : List Errand) (used : ℕ) → Begun p es used → Seeks k st es used (seek p k st es used)
  sought k st [] used h = inl refl
  sought k st (e ∷ es) used h = by (p.ask k e used st) refl (nat_lt used (p.quota e)) (at_work (nat_lt used (p.quota e)) refl) (sought k st es 0 (begun_fresh p es)) where
    at_work : (b : Bool) → nat_lt used (p.quota e) ≡ b → b ≡ true → used < p.quota e
    at_work b i j = grind (arith, nat_tests)

    by : (a : Option (Option Rule)) → p.ask k e used st ≡ a → (b : Bool) → (b ≡ true → used < p.quota e) → Seeks k st es 0 (seek p k st es 0) → Seeks k st (e ∷ es) used (pick b a (e ∷ es) used (seek p k st es 0))
    by (Some x) i true g later = inr (x, refl, record { errand = e; back = es; rest = refl; few = g refl; asks = i; low = omega arith })
    by None i true g later = longer k st es e used _ h later
    by a i false g later = longer k st es e used _ h later

  -- for which errand of which place a step is made
  pub record Source (st : State) (x : Planned Errand Rule) (r : Rule) : Type 0 where
    pub place : ℕ
    pub errand : Errand
    pub used : ℕ
    pub few : used < p.quota errand
    pub asks : p.ask place errand used st ≡ Some (Some r)
    pub busy : used + 1 < p.quota errand → Busy p place errand (used + 1) x.visit

  from : (r : Ring) (st : State) (es : List Errand) (used : ℕ) (f : Found Errand Rule) (x : Option Rule) (rule : Rule) → r.made + cost p es ≤ VISIT_TURNS + used → Sought r.at st es used f x → x ≡ Some rule → Source st (record { visit = turn_spent r f; rule = x }) rule
  from r st es used f x rule low s e = record {
    place = r.at;
    errand = s.errand;
    used = f.used;
    few = s.few;
    asks = s.asks ∙ ap (λ (o : Option Rule). Some o) e;
    busy = λ more. by more (on_turn p r (let l = s.low in omega (arith, l, low, more)));
  }
    where
      by : f.used + 1 < p.quota s.errand → after_turn true r ≡ record r { made = r.made + 1 } → Busy p r.at s.errand (f.used + 1) (turn_spent r f)
      by more i =
          let m : (after_turn true r).made ≡ r.made + 1 = ap (λ (y : Ring). y.made) i in
          let l = s.low in
          record {
            at = ap (λ (y : Ring). y.at) i;
            back = s.back;
            rest = s.rest;
            is = refl;
            some = omega (arith, m);
            low = omega (arith, m, l, low);
          }

  -- the errands from which a turn is planned
  record Opens (r : Ring) (st : State) (f : Found Errand Rule) : Type 0 where
    es : List Errand
    used : ℕ
    low : r.made + cost p es ≤ VISIT_TURNS + used
    seeks : Seeks r.at st es used f

  opens_new : (r : Ring) (st : State) → r.made ≡ 0 → Opens r st (seek_anew p r st)
  opens_new r st none = let w = whole r.at st in record { es = p.errands r.at st; used = 0; low = omega (arith, none, w); seeks = sought r.at st (p.errands r.at st) 0 (begun_fresh p (p.errands r.at st)) }

  opens : (v : Visit Errand) (st : State) → Paced v → Opens v.ring st (seek_on p v st)
  opens v st h = by (nat_eq v.ring.made 0) (test (nat_eq v.ring.made 0) refl) where
    test : (b : Bool) → nat_eq v.ring.made 0 ≡ b → (b ≡ true → v.ring.made ≡ 0) × (b ≡ false → 0 < v.ring.made)
    test b e = (λ f. grind (arith, nat_tests), λ f. grind (arith, nat_tests))

    by : (b : Bool) → (b ≡ true → v.ring.made ≡ 0) × (b ≡ false → 0 < v.ring.made) → Opens v.ring st (cond b (seek_anew p v.ring st) (seek p v.ring.at st v.rest v.used))
    by true t = opens_new v.ring st (t.0 refl)
    by false t = record { es = v.rest; used = v.used; low = h.low (t.1 refl); seeks = sought v.ring.at st v.rest v.used (h.begun (t.1 refl)) }

  -- after a turn at a place
  paced_spent : (r : Ring) (st : State) (f : Found Errand Rule) (es : List Errand) (used : ℕ) (x : Option Rule) → r.made + cost p es ≤ VISIT_TURNS + used → Sought r.at st es used f x → Paced (turn_spent r f)
  paced_spent r st f es used x low s = by (nat_lt (r.made + 1) VISIT_TURNS) where
    begun : Begun p f.rest (f.used + 1)
    begun = let w = s.few in subst (λ (xs : List Errand). Begun p xs (f.used + 1)) (sym s.rest) (omega (arith, w))

    costs : cost p f.rest ≡ p.quota s.errand + cost p s.back
    costs = ap (λ (xs : List Errand). cost p xs) s.rest

    by : (b : Bool) → Paced (record { ring = cond b (record r { made = r.made + 1 }) (passed r); rest = f.rest; used = f.used + 1 })
    by true = let l = s.low in let c = costs in record { begun = λ m. begun; low = λ m. omega (arith, l, c, low) }
    by false = record { begun = λ m. begun; low = λ m. absurd (omega (arith, m)) }

  come_paced : (r : Ring) (st : State) (f : Found Errand Rule) → r.made ≡ 0 → Opens r st f → Paced (planned_next r f f.turn).visit
  come_paced r st f none o = by o.seeks where
    by : Seeks r.at st o.es o.used f → Paced (planned_next r f f.turn).visit
    by (inl n) = subst (λ (a : Option (Option Rule)). Paced (planned_next r f a).visit) (sym n) (record { begun = λ m. absurd (omega (arith, m, none)); low = λ m. absurd (omega (arith, m, none)) })
    by (inr y) = subst (λ (a : Option (Option Rule)). Paced (planned_next r f a).visit) (sym y.1) (paced_spent r st f o.es o.used y.0 o.low y.2)

  pub planned_paced : (v : Visit Errand) (st : State) → Paced v → Paced (planned p v st).visit
  planned_paced v st h = by (opens v st h).seeks where
    by : Seeks v.ring.at st (opens v st h).es (opens v st h).used (seek_on p v st) → Paced (planned p v st).visit
    by (inl n) = subst (λ (a : Option (Option Rule)). Paced (planned_here p v.ring st (seek_on p v st) a).visit) (sym n) (come_paced (passed v.ring) st (seek_anew p (passed v.ring) st) refl (opens_new (passed v.ring) st refl))
    by (inr y) = subst (λ (a : Option (Option Rule)). Paced (planned_here p v.ring st (seek_on p v st) a).visit) (sym y.1) (paced_spent v.ring st (seek_on p v st) (opens v st h).es (opens v st h).used y.0 (opens v st h).low y.2)

  come_source : (r : Ring) (st : State) (f : Found Errand Rule) (rule : Rule) → Opens r st f → (planned_next r f f.turn).rule ≡ Some rule → Source st (planned_next r f f.turn) rule
  come_source r st f rule o = by o.seeks where
    by : Seeks r.at st o.es o.used f → (planned_next r f f.turn).rule ≡ Some rule → Source st (planned_next r f f.turn) rule
    by (inl n) = subst (λ (a : Option (Option Rule)). (planned_next r f a).rule ≡ Some rule → Source st (planned_next r f a) rule) (sym n) (λ e. absurd (cc))
    by (inr y) = subst (λ (a : Option (Option Rule)). (planned_next r f a).rule ≡ Some rule → Source st (planned_next r f a) rule) (sym y.1) (λ e. from r st o.es o.used f y.0 rule o.low y.2 e)

  -- each step has its source
  pub source : (v : Visit Errand) (st : State) (rule : Rule) → Paced v → (planned p v st).rule ≡ Some rule → Source st (planned p v st) rule
  source v st rule h = by (opens v st h).seeks where
    by : Seeks v.ring.at st (opens v st h).es (opens v st h).used (seek_on p v st) → (planned p v st).rule ≡ Some rule → Source st (planned p v st) rule
    by (inl n) = subst (λ (a : Option (Option Rule)). (planned_here p v.ring st (seek_on p v st) a).rule ≡ Some rule → Source st (planned_here p v.ring st (seek_on p v st) a) rule) (sym n) (come_source (passed v.ring) st (seek_anew p (passed v.ring) st) rule (opens_new (passed v.ring) st refl))
    by (inr y) = subst (λ (a : Option (Option Rule)). (planned_here p v.ring st (seek_on p v st) a).rule ≡ Some rule → Source st (planned_here p v.ring st (seek_on p v st) a) rule) (sym y.1) (λ e. from v.ring st (opens v st h).es (opens v st h).used (seek_on p v st) y.0 rule (opens v st h).low y.2 e)
