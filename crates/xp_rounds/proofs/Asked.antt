-- Each planned step was asked for by an errand of a place of the ring: one that was left of the
-- visit, or one of the errands of a place.
use Rattle.std.proofs.Common.{◌≡◌, ℕ, ◌<◌, Bool, true, false, cond, List, [], ◌∷◌, refl, ap, ◌∙◌, Option, Some, None}
use Rattle.std.specs.Prelude.{nat_lt, nat_eq}
use Rattle.std.specs.List.{AllByRecursion}
use Rattle.xp_rounds.specs.Ring.{Ring, IsRing, passed}
use Rattle.xp_rounds.specs.Visit.{Plan, Visit, Found, pick, seek, seek_anew, seek_on, planned_next, planned_here, planned}
use Rattle.xp_rounds.proofs.Comes.{passed_ring}

-- errands of which something holds
module _ {State Errand Rule : Type 0} (p : Plan State Errand Rule) (Holds : Errand → Type 0) (given : (k : ℕ) (st : State) → AllByRecursion Holds (p.errands k st)) where
  pub record Asked (count : ℕ) (st : State) (rule : Rule) : Type 0 where
    pub place : ℕ
    pub low : place < count
    pub errand : Errand
    pub holds : Holds errand
    pub used : ℕ
    pub asks : p.ask place errand used st ≡ Some (Some rule)

  seek_asks : (count k : ℕ) (st : State) (es : List Errand) (used : ℕ) (rule : Rule) → k < count → AllByRecursion Holds es → (seek p k st es used).turn ≡ Some (Some rule) → Asked count st rule
  seek_asks count k st [] used rule low all is = absurd (cc)
  seek_asks count k st (e ∷ es) used rule low all is = by (p.ask k e used st) refl (nat_lt used (p.quota e)) (seek_asks count k st es 0 rule low all.1) is where
    by : (a : Option (Option Rule)) → p.ask k e used st ≡ a → (b : Bool) → ((seek p k st es 0).turn ≡ Some (Some rule) → Asked count st rule) → (pick b a (e ∷ es) used (seek p k st es 0)).turn ≡ Some (Some rule) → Asked count st rule
    by (Some x) i true later h = record { place = k; low = low; errand = e; holds = all.0; used = used; asks = i ∙ h }
    by None i true later h = later h
    by a i false later h = later h

  on_asks : (v : Visit Errand) (st : State) (rule : Rule) (b : Bool) → v.ring.at < v.ring.count → AllByRecursion Holds v.rest → (cond b (seek_anew p v.ring st) (seek p v.ring.at st v.rest v.used)).turn ≡ Some (Some rule) → Asked v.ring.count st rule
  on_asks v st rule true low all is = seek_asks v.ring.count v.ring.at st (p.errands v.ring.at st) 0 rule low (given v.ring.at st) is
  on_asks v st rule false low all is = seek_asks v.ring.count v.ring.at st v.rest v.used rule low all is

  pub planned_asks : (v : Visit Errand) (st : State) (rule : Rule) → IsRing v.ring → AllByRecursion Holds v.rest → (planned p v st).rule ≡ Some rule → Asked v.ring.count st rule
  planned_asks v st rule h all = by (seek_on p v st).turn refl where
    next : (a : Option (Option Rule)) → (seek_anew p (passed v.ring) st).turn ≡ a → (planned_next (passed v.ring) (seek_anew p (passed v.ring) st) a).rule ≡ Some rule → Asked v.ring.count st rule
    next (Some x) i e = seek_asks v.ring.count (passed v.ring).at st (p.errands (passed v.ring).at st) 0 rule (passed_ring v.ring h).at (given (passed v.ring).at st) (i ∙ ap (λ (o : Option Rule). Some o) e)
    next None i e = absurd (cc)

    by : (a : Option (Option Rule)) → (seek_on p v st).turn ≡ a → (planned_here p v.ring st (seek_on p v st) a).rule ≡ Some rule → Asked v.ring.count st rule
    by (Some x) i e = on_asks v st rule (nat_eq v.ring.made 0) h.at all (i ∙ ap (λ (o : Option Rule). Some o) e)
    by None i e = next (seek_anew p (passed v.ring) st).turn refl e

  -- what is left of a visit is left of these errands
  seek_left : (k : ℕ) (st : State) (es : List Errand) (used : ℕ) → AllByRecursion Holds es → AllByRecursion Holds (seek p k st es used).rest
  seek_left k st [] used all = all
  seek_left k st (e ∷ es) used all = by (p.ask k e used st) (nat_lt used (p.quota e)) (seek_left k st es 0 all.1) where
    by : (a : Option (Option Rule)) (b : Bool) → AllByRecursion Holds (seek p k st es 0).rest → AllByRecursion Holds (pick b a (e ∷ es) used (seek p k st es 0)).rest
    by (Some x) true later = all
    by None true later = later
    by a false later = later

  on_left : (v : Visit Errand) (st : State) (b : Bool) → AllByRecursion Holds v.rest → AllByRecursion Holds (cond b (seek_anew p v.ring st) (seek p v.ring.at st v.rest v.used)).rest
  on_left v st true all = seek_left v.ring.at st (p.errands v.ring.at st) 0 (given v.ring.at st)
  on_left v st false all = seek_left v.ring.at st v.rest v.used all

  next_left : (r : Ring) (f : Found Errand Rule) (a : Option (Option Rule)) → AllByRecursion Holds f.rest → AllByRecursion Holds (planned_next r f a).visit.rest
  next_left r f None all = tt
  next_left r f (Some x) all = all

  pub planned_left : (v : Visit Errand) (st : State) → AllByRecursion Holds v.rest → AllByRecursion Holds (planned p v st).visit.rest
  planned_left v st all = by (seek_on p v st).turn where
    by : (a : Option (Option Rule)) → AllByRecursion Holds (planned_here p v.ring st (seek_on p v st) a).visit.rest
    by (Some x) = on_left v st (nat_eq v.ring.made 0) all
    by None = next_left (passed v.ring) (seek_anew p (passed v.ring) st) (seek_anew p (passed v.ring) st).turn (seek_left (passed v.ring).at st (p.errands (passed v.ring).at st) 0 (given (passed v.ring).at st))
