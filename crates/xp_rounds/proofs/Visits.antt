-- Each errand of a place's program comes in time: the turns that can pass before are counted down.
use Rattle.std.proofs.Common.{◌≡◌, ℕ, ◌+◌, ◌-◌, ◌<◌, ◌≤◌, Bool, true, false, cond, List, [], ◌∷◌, ◌++◌, refl, ap, sym, ◌∙◌, subst, arith, inl, inr, ◌⊎◌, Option, Some, None}
use Rattle.std.specs.Prelude.{nat_lt, nat_eq}
use Rattle.std.proofs.lemmas.Bool.Decides.{nat_tests}
use Rattle.xp_rounds.specs.declared.rounds.TheConstants.{VISIT_TURNS}
use Rattle.xp_rounds.specs.Ring.{Ring, IsRing, passed, after_turn, IsCome}
use Rattle.xp_rounds.specs.Visit.{Plan, Visit, Found, Planned, pick, seek, seek_anew, seek_on, turn_spent, planned_next, planned_here, planned, cost}
use Rattle.xp_rounds.proofs.Comes.{left, Nearer, passes, turns_on, some_hops, passed_ring, turned_ring, turned_count, turned_own}

pub below : (a b : ℕ) → a < b → nat_lt a b ≡ true
below a b h = grind (arith, nat_tests)

pub not_zero : (a : ℕ) → 0 < a → nat_eq a 0 ≡ false
not_zero a h = grind (arith, nat_tests)

pub is_zero : (a : ℕ) → a ≡ 0 → nat_eq a 0 ≡ true
is_zero a h = grind (arith, nat_tests)

module _ {State Errand Rule : Type 0} (p : Plan State Errand Rule) where
  -- the first of some errands has had this many turns
  abbrev pub Begun : List Errand → ℕ → Type 0
  Begun [] used = used ≡ 0
  Begun (e ∷ es) used = used ≤ p.quota e

  -- it has had some of them, and this was one of them
  abbrev pub IsAtWork : List Errand → ℕ → Type 0
  IsAtWork [] used = ⊥
  IsAtWork (e ∷ es) used = used < p.quota e

  pub begun_fresh : (es : List Errand) → Begun es 0
  begun_fresh [] = refl
  begun_fresh (e ∷ es) = omega arith

  -- an errand before the one that is waited for asks for a turn
  pub record Before (back front : List Errand) (used : ℕ) (f : Found Errand Rule) : Type 0 where
    pub now : List Errand
    pub rest : f.rest ≡ now ++ back
    pub work : IsAtWork now f.used
    pub turn : Option Rule
    pub is : f.turn ≡ Some turn
    pub low : cost p now + used ≤ cost p front + f.used

  before_by : (back now : List Errand) (a b : ℕ) (es front : List Errand) (x : Option Rule) → IsAtWork now a → es ≡ now ++ back → cost p now + b ≤ cost p front + a → Before back front b (record { rest = es; used = a; turn = Some x })
  before_by back now a b es front x w e l = record { now = now; rest = e; work = w; turn = x; is = refl; low = l }

  longer : (back front : List Errand) (e : Errand) (used : ℕ) (f : Found Errand Rule) → used ≤ p.quota e → Before back front 0 f → Before back (e ∷ front) used f
  longer back front e used f h b = let l = b.low in record { now = b.now; rest = b.rest; work = b.work; turn = b.turn; is = b.is; low = omega (arith, l, h) }

  pub seeks : (k : ℕ) (st : State) (back front : List Errand) (used : ℕ) → Begun front used → (seek p k st (front ++ back) used ≡ seek p k st back 0) ⊎ Before back front used (seek p k st (front ++ back) used)
  seeks k st back [] used h = inl (ap (λ (n : ℕ). seek p k st back n) h)
  seeks k st back (e ∷ front) used h = by (p.ask k e used st) (nat_lt used (p.quota e)) (at_work (nat_lt used (p.quota e)) refl) (seeks k st back front 0 (begun_fresh front)) where
    at_work : (b : Bool) → nat_lt used (p.quota e) ≡ b → b ≡ true → used < p.quota e
    at_work b i j = grind (arith, nat_tests)

    at_last : (f : Found Errand Rule) → (seek p k st (front ++ back) 0 ≡ seek p k st back 0) ⊎ Before back front 0 (seek p k st (front ++ back) 0) → f ≡ seek p k st (front ++ back) 0 → (f ≡ seek p k st back 0) ⊎ Before back (e ∷ front) used f
    at_last f (inl i) j = inl (j ∙ i)
    at_last f (inr b) j = inr (longer back front e used f h (subst (λ (g : Found Errand Rule). Before back front 0 g) (sym j) b))

    by : (a : Option (Option Rule)) (b : Bool) → (b ≡ true → used < p.quota e) → (seek p k st (front ++ back) 0 ≡ seek p k st back 0) ⊎ Before back front 0 (seek p k st (front ++ back) 0) → (pick b a (e ∷ front ++ back) used (seek p k st (front ++ back) 0) ≡ seek p k st back 0) ⊎ Before back (e ∷ front) used (pick b a (e ∷ front ++ back) used (seek p k st (front ++ back) 0))
    by (Some x) true g later = inr (before_by back (e ∷ front) used used (e ∷ front ++ back) (e ∷ front) x (g refl) refl (omega arith))
    by None true g later = at_last _ later refl
    by a false g later = at_last _ later refl

  begun_low : (es : List Errand) (used : ℕ) → Begun es used → used ≤ cost p es
  begun_low [] used h = omega (arith, h)
  begun_low (e ∷ es) used h = omega (arith, h)

  -- an errand is at work, and had this many turns
  pub record Busy (k : ℕ) (e : Errand) (used : ℕ) (v : Visit Errand) : Type 0 where
    pub at : v.ring.at ≡ k
    pub back : List Errand
    pub rest : v.rest ≡ e ∷ back
    pub is : v.used ≡ used
    pub some : 0 < v.ring.made
    pub low : v.ring.made + p.quota e ≤ VISIT_TURNS + used

  -- an errand of a place comes: where it asks for a turn, this turn is it, and it goes on
  abbrev pub Comes : ℕ → Errand → State → Planned Errand Rule → Type 0
  Comes k e st x = (t : Option Rule) → p.ask k e 0 st ≡ Some t → (x.rule ≡ t) × (1 < p.quota e → Busy k e 1 x.visit)

  -- at most n turns pass before: it comes in this visit; its place was come to just now; it is further on
  pub record Going (k : ℕ) (e : Errand) (n : ℕ) (v : Visit Errand) : Type 0 where
    pub at : v.ring.at ≡ k
    pub some : 0 < v.ring.made
    pub front : List Errand
    pub back : List Errand
    pub rest : v.rest ≡ front ++ (e ∷ back)
    pub begun : Begun front v.used
    pub low : v.ring.made + cost p front + p.quota e ≤ VISIT_TURNS + v.used
    pub few : cost p front ≤ n + v.used

  pub record Fresh (k : ℕ) (e : Errand) (n : ℕ) (r : Ring) : Type 0 where
    pub at : r.at ≡ k
    pub none : r.made ≡ 0
    pub few : VISIT_TURNS ≤ n + p.quota e

  abbrev pub Waits : ℕ → Errand → ℕ → Visit Errand → Type 0
  Waits k e n v = Going k e n v ⊎ (Fresh k e n v.ring ⊎ (left k v.ring + VISIT_TURNS ≤ n + p.quota e))

  -- an errand of a program, with few turns before it
  pub record Fits (e : Errand) (es : List Errand) : Type 0 where
    pub front : List Errand
    pub back : List Errand
    pub is : es ≡ front ++ (e ∷ back)
    pub low : cost p front + p.quota e ≤ VISIT_TURNS

  -- a turn at a place goes on there or to the next one
  pub on_turn : (r : Ring) → r.made + 1 < VISIT_TURNS → after_turn true r ≡ record r { made = r.made + 1 }
  on_turn r h = ap (λ (b : Bool). cond b (record r { made = r.made + 1 }) (passed r)) (below (r.made + 1) VISIT_TURNS h)

  found_at : (a : Option (Option Rule)) (b : Bool) (t : Option Rule) (es : List Errand) (later : Found Errand Rule) → b ≡ true → a ≡ Some t → pick b a es 0 later ≡ record { rest = es; used = 0; turn = Some t }
  found_at a b t es later i j = ap (λ (c : Bool). pick c a es 0 later) i ∙ ap (λ (o : Option (Option Rule)). pick true o es 0 later) j

  -- what is found where the errand is ahead: itself, or another one before it
  pub record Itself (e : Errand) (r : Ring) (st : State) (f : Found Errand Rule) : Type 0 where
    pub turn : (t : Option Rule) → p.ask r.at e 0 st ≡ Some t → f.turn ≡ Some t
    pub busy : (t : Option Rule) → p.ask r.at e 0 st ≡ Some t → 1 < p.quota e → Busy r.at e 1 (turn_spent r f)

  pub record Another (e : Errand) (n : ℕ) (r : Ring) (f : Found Errand Rule) : Type 0 where
    pub turn : Option Rule
    pub is : f.turn ≡ Some turn
    pub fewer : ℕ
    pub low : fewer < n
    pub going : Going r.at e fewer (turn_spent r f)

  itself : (e : Errand) (r : Ring) (st : State) (back : List Errand) (f : Found Errand Rule) → 1 ≤ p.quota e → r.made + p.quota e ≤ VISIT_TURNS → f ≡ seek p r.at st (e ∷ back) 0 → Itself e r st f
  itself e r st back f some low is = record {
    turn = λ t a. ap (λ (g : Found Errand Rule). g.turn) (found t a);
    busy = λ t a two. busy_at t a (on_turn r (omega (arith, low, two)));
  }
    where
      found : (t : Option Rule) → p.ask r.at e 0 st ≡ Some t → f ≡ record { rest = e ∷ back; used = 0; turn = Some t }
      found t a = is ∙ found_at (p.ask r.at e 0 st) (nat_lt 0 (p.quota e)) t (e ∷ back) (seek p r.at st back 0) (below 0 (p.quota e) some) a

      busy_at : (t : Option Rule) → p.ask r.at e 0 st ≡ Some t → after_turn true r ≡ record r { made = r.made + 1 } → Busy r.at e 1 (turn_spent r f)
      busy_at t a i =
          let m : (after_turn true r).made ≡ r.made + 1 = ap (λ (x : Ring). x.made) i in
          let u : f.used ≡ 0 = ap (λ (g : Found Errand Rule). g.used) (found t a) in
          record {
            at = ap (λ (x : Ring). x.at) i;
            back = back;
            rest = ap (λ (g : Found Errand Rule). g.rest) (found t a);
            is = omega (arith, u);
            some = omega (arith, m);
            low = omega (arith, m, low);
          }

  at_work_low : (es : List Errand) (used : ℕ) → IsAtWork es used → used + 1 ≤ cost p es
  at_work_low [] used h = absurd h
  at_work_low (e ∷ es) used h = omega (arith, h)

  at_work_begun : (es : List Errand) (used : ℕ) → IsAtWork es used → Begun es (used + 1)
  at_work_begun [] used h = absurd h
  at_work_begun (e ∷ es) used h = omega (arith, h)

  another : (e : Errand) (n : ℕ) (r : Ring) (back front : List Errand) (used : ℕ) (f : Found Errand Rule) → 1 ≤ p.quota e → r.made + cost p front + p.quota e ≤ VISIT_TURNS + used → cost p front ≤ n + used → Before (e ∷ back) front used f → Another e n r f
  another e n r back front used f some low few b =
      let w = at_work_low b.now f.used b.work in
      let l = b.low in
      by (on_turn r (omega (arith, w, l, low, some)))
    where
      by : after_turn true r ≡ record r { made = r.made + 1 } → Another e n r f
      by i =
          let w = at_work_low b.now f.used b.work in
          let l = b.low in
          let m : (after_turn true r).made ≡ r.made + 1 = ap (λ (x : Ring). x.made) i in
          record {
            turn = b.turn;
            is = b.is;
            fewer = cost p b.now - (f.used + 1);
            low = omega (arith, w, l, few);
            going = record {
              at = ap (λ (x : Ring). x.at) i;
              some = omega (arith, m);
              front = b.now;
              back = back;
              rest = b.rest;
              begun = at_work_begun b.now f.used b.work;
              low = omega (arith, m, l, low);
              few = omega arith;
            };
          }

  -- the errands at a place, up to this one
  pub ahead : (e : Errand) (n : ℕ) (r : Ring) (st : State) (back front es : List Errand) (used : ℕ) → 1 ≤ p.quota e → es ≡ front ++ (e ∷ back) → Begun front used → r.made + cost p front + p.quota e ≤ VISIT_TURNS + used → cost p front ≤ n + used
      → Itself e r st (seek p r.at st es used) ⊎ Another e n r (seek p r.at st es used)
  ahead e n r st back front es used some is begun low few = by (seeks r.at st (e ∷ back) front used begun) where
    i : seek p r.at st es used ≡ seek p r.at st (front ++ (e ∷ back)) used
    i = ap (λ (xs : List Errand). seek p r.at st xs used) is

    by : (seek p r.at st (front ++ (e ∷ back)) used ≡ seek p r.at st (e ∷ back) 0) ⊎ Before (e ∷ back) front used (seek p r.at st (front ++ (e ∷ back)) used) → Itself e r st (seek p r.at st es used) ⊎ Another e n r (seek p r.at st es used)
    by (inl j) = let b = begun_low front used begun in inl (itself e r st back (seek p r.at st es used) some (omega (arith, b, low)) (i ∙ j))
    by (inr b) = inr (another e n r back front used (seek p r.at st es used) some low few (subst (λ (f : Found Errand Rule). Before (e ∷ back) front used f) (sym i) b))

  -- a turn comes to the errand, or leaves fewer turns to pass
  pub record Closer (k : ℕ) (e : Errand) (n : ℕ) (v : Visit Errand) : Type 0 where
    pub fewer : ℕ
    pub low : fewer < n
    pub waits : Waits k e fewer v

  abbrev Outcome : ℕ → Errand → ℕ → State → Planned Errand Rule → Type 0
  Outcome k e n st x = Comes k e st x ⊎ Closer k e n x.visit

  -- at the place that was come to
  stay_itself : (e : Errand) (n : ℕ) (r : Ring) (st : State) (f : Found Errand Rule) → Itself e r st f → Comes r.at e st (planned_here p r st f f.turn)
  stay_itself e n r st f h = λ t a. subst (λ (o : Option (Option Rule)). ((planned_here p r st f o).rule ≡ t) × (1 < p.quota e → Busy r.at e 1 (planned_here p r st f o).visit)) (sym (h.turn t a)) (refl, λ two. h.busy t a two)

  stay_another : (e : Errand) (n : ℕ) (r : Ring) (st : State) (f : Found Errand Rule) → Another e n r f → Closer r.at e n (planned_here p r st f f.turn).visit
  stay_another e n r st f h = subst (λ (o : Option (Option Rule)). Closer r.at e n (planned_here p r st f o).visit) (sym h.is) (record { fewer = h.fewer; low = h.low; waits = inl h.going })

  come_itself : (e : Errand) (n : ℕ) (r : Ring) (st : State) (f : Found Errand Rule) → Itself e r st f → Comes r.at e st (planned_next r f f.turn)
  come_itself e n r st f h = λ t a. subst (λ (o : Option (Option Rule)). ((planned_next r f o).rule ≡ t) × (1 < p.quota e → Busy r.at e 1 (planned_next r f o).visit)) (sym (h.turn t a)) (refl, λ two. h.busy t a two)

  come_another : (e : Errand) (n : ℕ) (r : Ring) (f : Found Errand Rule) → Another e n r f → Closer r.at e n (planned_next r f f.turn).visit
  come_another e n r f h = subst (λ (o : Option (Option Rule)). Closer r.at e n (planned_next r f o).visit) (sym h.is) (record { fewer = h.fewer; low = h.low; waits = inl h.going })

  going_on : (e : Errand) (n : ℕ) (st : State) (v : Visit Errand) → 1 ≤ p.quota e → Going v.ring.at e n v → Outcome v.ring.at e n st (planned p v st)
  going_on e n st v some h = subst (λ (f : Found Errand Rule). Outcome v.ring.at e n st (planned_here p v.ring st f f.turn)) (sym found) (by (ahead e n v.ring st h.back h.front v.rest v.used some h.rest h.begun h.low h.few)) where
    found : seek_on p v st ≡ seek p v.ring.at st v.rest v.used
    found = ap (λ (b : Bool). cond b (seek_anew p v.ring st) (seek p v.ring.at st v.rest v.used)) (not_zero v.ring.made h.some)

    by : Itself e v.ring st (seek p v.ring.at st v.rest v.used) ⊎ Another e n v.ring (seek p v.ring.at st v.rest v.used) → Outcome v.ring.at e n st (planned_here p v.ring st (seek p v.ring.at st v.rest v.used) (seek p v.ring.at st v.rest v.used).turn)
    by (inl i) = inl (stay_itself e n v.ring st _ i)
    by (inr a) = inr (stay_another e n v.ring st _ a)

  entering : (e : Errand) (n : ℕ) (r : Ring) (st : State) → 1 ≤ p.quota e → Fits e (p.errands r.at st) → r.made ≡ 0 → VISIT_TURNS ≤ n + p.quota e → Itself e r st (seek_anew p r st) ⊎ Another e n r (seek_anew p r st)
  entering e n r st some fits none few =
      let l = fits.low in
      ahead e n r st fits.back fits.front (p.errands r.at st) 0 some fits.is (begun_fresh fits.front) (omega (arith, none, l)) (omega (arith, l, few, some))

  fresh_on : (e : Errand) (n : ℕ) (st : State) (v : Visit Errand) → 1 ≤ p.quota e → Fits e (p.errands v.ring.at st) → v.ring.made ≡ 0 → VISIT_TURNS ≤ n + p.quota e → Outcome v.ring.at e n st (planned p v st)
  fresh_on e n st v some fits none few = subst (λ (f : Found Errand Rule). Outcome v.ring.at e n st (planned_here p v.ring st f f.turn)) (sym found) (by (entering e n v.ring st some fits none few)) where
    found : seek_on p v st ≡ seek_anew p v.ring st
    found = ap (λ (b : Bool). cond b (seek_anew p v.ring st) (seek p v.ring.at st v.rest v.used)) (is_zero v.ring.made none)

    by : Itself e v.ring st (seek_anew p v.ring st) ⊎ Another e n v.ring (seek_anew p v.ring st) → Outcome v.ring.at e n st (planned_here p v.ring st (seek_anew p v.ring st) (seek_anew p v.ring st).turn)
    by (inl i) = inl (stay_itself e n v.ring st _ i)
    by (inr a) = inr (stay_another e n v.ring st _ a)

  -- further on
  nearer : (k : ℕ) (e : Errand) (n : ℕ) (r : Ring) (v : Visit Errand) → p.quota e ≤ VISIT_TURNS → left k r + VISIT_TURNS ≤ n + p.quota e → IsCome k v.ring ⊎ Nearer k 1 r v.ring → k < r.count → IsRing r → Closer k e n v
  nearer k e n r v most few (inl c) low h =
      let s = some_hops k r.count r.at low h.at in
      let m = h.made in
      record { fewer = VISIT_TURNS - p.quota e; low = omega (arith, s, m, few, most); waits = inr (inl (record { at = c.0; none = c.1; few = omega arith })) }
  nearer k e n r v most few (inr x) low h = let l = x.low in record { fewer = left k v.ring + VISIT_TURNS - p.quota e; low = omega (arith, l, few, most); waits = inr (inr (omega arith)) }

  passed_nearer : (k : ℕ) (e : Errand) (n : ℕ) (r x : Ring) (f : Found Errand Rule) (a : Option (Option Rule)) → p.quota e ≤ VISIT_TURNS → left k r + VISIT_TURNS ≤ n + p.quota e → Nearer k 1 r x → k < r.count → IsRing r → Closer k e n (planned_next x f a).visit
  passed_nearer k e n r x f None most few near low h = let l = near.low in record { fewer = left k x + VISIT_TURNS - p.quota e; low = omega (arith, l, few, most); waits = inr (inr (omega arith)) }
  passed_nearer k e n r x f (Some t) most few near low h =
      let l = near.low in
      let more : k < x.count = subst (λ (c : ℕ). k < c) (sym near.count) low in
      nearer k e n x (turn_spent x f) most (omega (arith, l, few)) (turns_on k true x more near.ring) more near.ring

  pass_on : (k : ℕ) (e : Errand) (n : ℕ) (r : Ring) (st : State) → 1 ≤ p.quota e → Fits e (p.errands k st) → left k r + VISIT_TURNS ≤ n + p.quota e → k < r.count → IsRing r
      → Outcome k e n st (planned_next (passed r) (seek_anew p (passed r) st) (seek_anew p (passed r) st).turn)
  pass_on k e n r st some fits few low h = by (passes k 1 r low h (omega arith)) where
    s : 1 ≤ left k r
    s = let g = some_hops k r.count r.at low h.at in let m = h.made in omega (arith, g, m)

    most : p.quota e ≤ VISIT_TURNS
    most = let l = fits.low in omega (arith, l)

    here : Fits e (p.errands (passed r).at st) → VISIT_TURNS ≤ n + p.quota e → Outcome (passed r).at e n st (planned_next (passed r) (seek_anew p (passed r) st) (seek_anew p (passed r) st).turn)
    here fit long = at (entering e n (passed r) st some fit refl long) where
      at : Itself e (passed r) st (seek_anew p (passed r) st) ⊎ Another e n (passed r) (seek_anew p (passed r) st) → Outcome (passed r).at e n st (planned_next (passed r) (seek_anew p (passed r) st) (seek_anew p (passed r) st).turn)
      at (inl i) = inl (come_itself e n (passed r) st _ i)
      at (inr a) = inr (come_another e n (passed r) _ a)

    by : IsCome k (passed r) ⊎ Nearer k 1 r (passed r) → Outcome k e n st (planned_next (passed r) (seek_anew p (passed r) st) (seek_anew p (passed r) st).turn)
    by (inl c) =
        let fit = subst (λ (j : ℕ). Fits e (p.errands j st)) (sym c.0) fits in
        let o = here fit (omega (arith, s, few)) in
        subst (λ (j : ℕ). Outcome j e n st (planned_next (passed r) (seek_anew p (passed r) st) (seek_anew p (passed r) st).turn)) c.0 o
    by (inr near) = inr (passed_nearer k e n r (passed r) (seek_anew p (passed r) st) (seek_anew p (passed r) st).turn most few near low h)

  far_on : (k : ℕ) (e : Errand) (n : ℕ) (st : State) (v : Visit Errand) → 1 ≤ p.quota e → Fits e (p.errands k st) → left k v.ring + VISIT_TURNS ≤ n + p.quota e → k < v.ring.count → IsRing v.ring → Outcome k e n st (planned p v st)
  far_on k e n st v some fits few low h = by (seek_on p v st).turn where
    by : (a : Option (Option Rule)) → Outcome k e n st (planned_here p v.ring st (seek_on p v st) a)
    by (Some t) = inr (nearer k e n v.ring (turn_spent v.ring (seek_on p v st)) (let l = fits.low in omega (arith, l)) few (turns_on k true v.ring low h) low h)
    by None = pass_on k e n v.ring st some fits few low h

  pub turn_waits : (k : ℕ) (e : Errand) (n : ℕ) (st : State) (v : Visit Errand) → 1 ≤ p.quota e → Fits e (p.errands k st) → k < v.ring.count → IsRing v.ring → Waits k e n v → Outcome k e n st (planned p v st)
  turn_waits k e n st v some fits low h (inl g) = subst (λ (j : ℕ). Outcome j e n st (planned p v st)) g.at (going_on e n st v some (subst (λ (j : ℕ). Going j e n v) (sym g.at) g))
  turn_waits k e n st v some fits low h (inr (inl f)) = subst (λ (j : ℕ). Outcome j e n st (planned p v st)) f.at (fresh_on e n st v some (subst (λ (j : ℕ). Fits e (p.errands j st)) (sym f.at) fits) f.none f.few)
  turn_waits k e n st v some fits low h (inr (inr f)) = far_on k e n st v some fits f low h

  -- the rounds go on as rounds of the same partition
  abbrev pub IsOn : Ring → Ring → Type 0
  IsOn r x = IsRing x × (x.count ≡ r.count) × (x.own ≡ r.own)

  on_passed : (r : Ring) → IsRing r → IsOn r (passed r)
  on_passed r h = (passed_ring r h, refl, refl)

  on_turned : (r : Ring) → IsRing r → IsOn r (after_turn true r)
  on_turned r h = (turned_ring true r h, turned_count true r, turned_own true r)

  on_come : (r x : Ring) (f : Found Errand Rule) (a : Option (Option Rule)) → IsOn r x → IsOn r (planned_next x f a).visit.ring
  on_come r x f None h = h
  on_come r x f (Some t) h = let g = on_turned x h.0 in (g.0, g.1 ∙ h.1, g.2 ∙ h.2)

  on_stay : (r : Ring) (st : State) (f : Found Errand Rule) (a : Option (Option Rule)) → IsRing r → IsOn r (planned_here p r st f a).visit.ring
  on_stay r st f (Some t) h = on_turned r h
  on_stay r st f None h = on_come r (passed r) (seek_anew p (passed r) st) (seek_anew p (passed r) st).turn (on_passed r h)

  pub planned_on : (st : State) (v : Visit Errand) → IsRing v.ring → IsOn v.ring (planned p v st).visit.ring
  planned_on st v h = on_stay v.ring st (seek_on p v st) (seek_on p v st).turn h

  -- an errand at work that asks for a turn has it, and goes on while it may
  busy_found : (k : ℕ) (e : Errand) (used : ℕ) (v : Visit Errand) (st : State) (t : Option Rule) → (b : Busy k e used v) → used < p.quota e → p.ask k e used st ≡ Some t → seek_on p v st ≡ record { rest = e ∷ b.back; used = used; turn = Some t }
  busy_found k e used v st t b more asks =
      ap (λ (c : Bool). cond c (seek_anew p v.ring st) (seek p v.ring.at st v.rest v.used)) (not_zero v.ring.made b.some)
      ∙ ap (λ (j : ℕ). seek p j st v.rest v.used) b.at
      ∙ ap (λ (xs : List Errand). seek p k st xs v.used) b.rest
      ∙ ap (λ (j : ℕ). seek p k st (e ∷ b.back) j) b.is
      ∙ ap (λ (c : Bool). pick c (p.ask k e used st) (e ∷ b.back) used (seek p k st b.back 0)) (below used (p.quota e) more)
      ∙ ap (λ (a : Option (Option Rule)). pick true a (e ∷ b.back) used (seek p k st b.back 0)) asks

  busy_on : (k : ℕ) (e : Errand) (used : ℕ) (v : Visit Errand) (es : List Errand) (t : Option Rule) → (b : Busy k e used v) → es ≡ e ∷ b.back → used + 1 < p.quota e → Busy k e (used + 1) (turn_spent v.ring (record { rest = es; used = used; turn = Some t }))
  busy_on k e used v es t b same two = by (on_turn v.ring (let l = b.low in omega (arith, l, two))) where
    by : after_turn true v.ring ≡ record v.ring { made = v.ring.made + 1 } → Busy k e (used + 1) (turn_spent v.ring (record { rest = es; used = used; turn = Some t }))
    by i =
        let m : (after_turn true v.ring).made ≡ v.ring.made + 1 = ap (λ (x : Ring). x.made) i in
        let l = b.low in
        record {
          at = ap (λ (x : Ring). x.at) i ∙ b.at;
          back = b.back;
          rest = same;
          is = refl;
          some = omega (arith, m);
          low = omega (arith, m, l);
        }

  pub busy_turn : (k : ℕ) (e : Errand) (used : ℕ) (v : Visit Errand) (st : State) (t : Option Rule) → Busy k e used v → used < p.quota e → p.ask k e used st ≡ Some t
      → ((planned p v st).rule ≡ t) × (used + 1 < p.quota e → Busy k e (used + 1) (planned p v st).visit)
  busy_turn k e used v st t b more asks =
      let G : Found Errand Rule → Type 0 = λ f. ((planned_here p v.ring st f f.turn).rule ≡ t) × (used + 1 < p.quota e → Busy k e (used + 1) (planned_here p v.ring st f f.turn).visit) in
      subst G (sym (busy_found k e used v st t b more asks)) (refl, λ two. busy_on k e used v (e ∷ b.back) t b refl two)

  -- another errand is at work and asks for the turn: the errand that is waited for comes nearer
  pub record Aside (e : Errand) (v : Visit Errand) (st : State) : Type 0 where
    pub place : ℕ
    pub errand : Errand
    pub used : ℕ
    pub busy : Busy place errand used v
    pub few : used < p.quota errand
    pub turn : Option Rule
    pub asks : p.ask place errand used st ≡ Some turn
    pub other : errand ≡ e → 0 < used

  aside_first : (e x : Errand) (used : ℕ) (v : Visit Errand) (front back rest : List Errand) → front ++ (e ∷ back) ≡ x ∷ rest → Begun front v.used → v.used ≡ used → (x ≡ e → 0 < used) → (fronts : List Errand) × (front ≡ x ∷ fronts)
  aside_first e x used v [] back rest same begun is other = absurd (let h = other (cc) in omega (arith, h, is, begun))
  aside_first e x used v (y ∷ fronts) back rest same begun is other = let i : y ≡ x = cc in (fronts, ap (λ (z : Errand). z ∷ fronts) i)

  pub aside_waits : (k : ℕ) (e : Errand) (n : ℕ) (st : State) (v : Visit Errand) → 1 ≤ p.quota e → p.quota e ≤ VISIT_TURNS → k < v.ring.count → IsRing v.ring → Aside e v st → Waits k e n v → Closer k e n (planned p v st).visit
  aside_waits k e n st v some most low h a w =
      let G : Found Errand Rule → Type 0 = λ f. Closer k e n (planned_here p v.ring st f f.turn).visit in
      subst G (sym (busy_found a.place a.errand a.used v st a.turn a.busy a.few a.asks)) (by w)
    where
      by : Waits k e n v → Closer k e n (turn_spent v.ring (record { rest = a.errand ∷ a.busy.back; used = a.used; turn = Some a.turn }))
      by (inr (inl f)) = absurd (let s = a.busy.some in let z = f.none in omega (arith, s, z))
      by (inr (inr few)) = nearer k e n v.ring (turn_spent v.ring (record { rest = a.errand ∷ a.busy.back; used = a.used; turn = Some a.turn })) most few (turns_on k true v.ring low h) low h
      by (inl g) = at (aside_first e a.errand a.used v g.front g.back a.busy.back (sym g.rest ∙ a.busy.rest) g.begun a.busy.is a.other) where
        at : (fronts : List Errand) × (g.front ≡ a.errand ∷ fronts) → Closer k e n (turn_spent v.ring (record { rest = a.errand ∷ a.busy.back; used = a.used; turn = Some a.turn }))
        at y =
            let c : cost p g.front ≡ p.quota a.errand + cost p y.0 = ap (λ (es : List Errand). cost p es) y.1 in
            let l = g.low in
            let u = a.busy.is in
            let f = a.few in
            let m = g.few in
            let t = on_turn v.ring (omega (arith, c, l, u, f, some)) in
            let made : (after_turn true v.ring).made ≡ v.ring.made + 1 = ap (λ (x : Ring). x.made) t in
            record {
              fewer = n - 1;
              low = omega (arith, c, u, f, m);
              waits = inl (record {
                at = ap (λ (x : Ring). x.at) t ∙ g.at;
                some = omega (arith, made);
                front = g.front;
                back = g.back;
                rest = sym a.busy.rest ∙ g.rest;
                begun = subst (λ (es : List Errand). Begun es (a.used + 1)) (sym y.1) (omega (arith, f));
                low = omega (arith, made, l, u);
                few = omega (arith, m, u, c, f);
              });
            }
