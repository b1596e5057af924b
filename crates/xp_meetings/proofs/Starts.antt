-- A fact that each moment keeps holds after the moments of turn 0, where it holds before them.
use Rattle.std.proofs.Common.{◌≡◌, ℕ, zero, suc, ◌<◌, ◌≤◌, List, [], ◌∷◌, refl, ap, ◌∙◌, subst, arith, None, inl, inr, ◌⊎◌}
use Rattle.std.specs.List.{AllByRecursion}
use Rattle.std.proofs.lemmas.Bool.{cases_eq, cases_lt, eq-eqb, ne_eqb}
use Rattle.xp_script.specs.declared.part.ScenarioPart.{ScenarioPart}
use Rattle.xp_script.specs.declared.scenario.Scenario.{Scenario}
use Rattle.xp_script.specs.declared.setting.Restart.{Restart}
use Rattle.xp_script.specs.declared.setting.Stop.{Stop}
use Rattle.xp_script.specs.Lawful.{IsLawful, IsLawfulStop, IsLawfulRestart}
use Rattle.xp_script.specs.Parts.{part_of, stop_of, restarts_of}
use Rattle.xp_meetings.proofs.Always.{at_one}
use Rattle.xp_meetings.proofs.Parts.{Part, part_moment, part_opened, part_start}
use Rattle.xp_meetings.proofs.Words.{Words}

-- a part for which no moment is planned
quiet : (su : ScenarioPart) → su.stop ≡ None → su.restarts ≡ [] → part_opened su ≡ part_start su
quiet su e f = rw (e, f) refl

-- no line names a partition that the scenario hasn't
no_stop : (n p : ℕ) (xs : List Stop) → n ≤ p → AllByRecursion (IsLawfulStop n) xs → stop_of p xs ≡ None
no_stop n p [] l h = refl
no_stop n p (x ∷ xs) l h = rw (ne_eqb x.part p (λ e. absurd (omega (arith, e, h.0.0, l)))) (no_stop n p xs l h.1)

no_restarts : (n p : ℕ) (xs : List Restart) → n ≤ p → AllByRecursion (IsLawfulRestart n) xs → restarts_of p xs ≡ []
no_restarts n p [] l h = refl
no_restarts n p (x ∷ xs) l h = rw (ne_eqb x.part p (λ e. absurd (omega (arith, e, h.0.0, l)))) (no_restarts n p xs l h.1)

module _ (s : Scenario) (law : IsLawful s) (Inv : Words → (ℕ → Part) → Type 0)
    (keeps_moment : (w : Words) (σ : ℕ → Part) (q earlier turns : ℕ) → q < s.count → Inv w σ → Inv w (at_one σ q (part_moment (part_of s q) earlier turns (σ q))))
    (w : Words) (first : Inv w (λ p. part_opened (part_of s p))) where
  -- the partitions below n have had their moment
  abbrev some : ℕ → ℕ → Part
  some zero = λ p. part_opened (part_of s p)
  some (suc n) = at_one (some n) n (part_moment (part_of s n) 0 0 (some n n))

  holds : (n : ℕ) → n ≤ s.count → Inv w (some n)
  holds zero l = first
  holds (suc n) l = keeps_moment w (some n) n 0 0 (omega (arith, l)) (holds n (omega (arith, l)))

  before : (n p : ℕ) → n ≤ p → some n p ≡ part_opened (part_of s p)
  before zero p l = refl
  before (suc n) p l = rw (ne_eqb n p (λ e. absurd (omega (arith, e, l)))) (before n p (omega (arith, l)))

  after : (n p : ℕ) → p < n → some n p ≡ part_start (part_of s p)
  after zero p l = absurd (omega (arith, l))
  after (suc n) p l = by (cases_eq n p) (λ d. after n p (omega (arith, l, d))) where
    by : (n ≡ p) ⊎ (n ≡ p → ⊥) → ((n ≡ p → ⊥) → some n p ≡ part_start (part_of s p)) → some (suc n) p ≡ part_start (part_of s p)
    by (inl e) more =
        rw (eq-eqb n p e) (ap (part_moment (part_of s n) 0 0) (before n n (omega arith)) ∙ ap (λ (k : ℕ). part_start (part_of s k)) e)
    by (inr d) more = rw (ne_eqb n p d) (more d)

  each_one : (p : ℕ) → some s.count p ≡ part_start (part_of s p)
  each_one p = by (cases_lt p s.count) where
    by : (p < s.count) ⊎ (s.count ≤ p) → some s.count p ≡ part_start (part_of s p)
    by (inl l) = after s.count p l
    by (inr l) = before s.count p l ∙ quiet (part_of s p) (no_stop s.count p s.stops l law.settings.stops.each) (no_restarts s.count p s.restarts l law.settings.restarts.each)

  pub starts : Inv w (λ p. part_start (part_of s p))
  starts = let P : (ℕ → Part) → Type 0 = λ τ. Inv w τ in subst P (λ i p. each_one p i) (holds s.count (omega arith))
