-- What fits stays so.
use Rattle.std.proofs.Common.{◌≡◌, ℕ, ◌+◌, ◌≤◌, Bool, List, [], ◌∷◌, arith, Option, Some, None, ◌∙◌, sym, length-append}
use Rattle.std.proofs.lemmas.Bool.Decides.{nat_tests}
use Rattle.xp_protocol.specs.declared.rule.PullRule.{PullRule}
use Rattle.xp_protocol.specs.declared.rule.PullRule.TheVariants.{ReadCounters, ReadEntry}
use Rattle.xp_protocol.specs.Pulling.{Pulling, SenderCounters, new_pulling, pull_effect, pull_failed, counters_pulled, take_due, found_by, found}
use Rattle.xp_protocol.specs.Releasing.{Releasing}
use Rattle.xp_protocol.specs.Linking.{copies_over}
use Rattle.xp_protocol.specs.Parts.{IsRequestSize}
use Rattle.xp_pull.specs.Planned.{kind_of, taken_side}
use Rattle.xp_sides.specs.Viewed.{Fits, held_after}

-- no step changes what was taken, and the partner's put fits its queue beside this front
pulled_counts : (b : SenderCounters) (x : Pulling) (m : PullRule) (w : ℕ) → x.entries ≤ 8 → x.pulled_put ≤ b.front + 8 → let y = (pull_effect b x m w).local in (y.taken ≡ x.taken) × (y.entries ≡ x.entries) × (y.pulled_put ≤ b.front + 8)
pulled_counts b x ReadCounters w f h = by x.counters where
  by : (o : Option ℕ) → let y = (counters_pulled b o x w).local in (y.taken ≡ x.taken) × (y.entries ≡ x.entries) × (y.pulled_put ≤ b.front + 8)
  by None = (grind (arith, nat_tests), grind (arith, nat_tests), grind (arith, nat_tests))
  by (Some get) = (grind (arith, nat_tests), grind (arith, nat_tests), grind (arith, nat_tests))
pulled_counts b x ReadEntry w f h = (grind (arith, nat_tests), grind (arith, nat_tests), grind (arith, nat_tests))

pub fits_pulled : (b : SenderCounters) (x : Pulling) (r : Releasing) (m : PullRule) (w : ℕ) → b.front ≡ r.front → Fits x r → Fits (pull_effect b x m w).local r
fits_pulled b x r m w e h = let c = pulled_counts b x m w h.few (omega (arith, e, h.put)) in record { held = c.0 ∙ h.held; few = omega (arith, c.1, h.few); put = omega (arith, c.2, e) }

pub fits_failed : (x : Pulling) (r : Releasing) (m : PullRule) → Fits x r → Fits (pull_failed (kind_of m) x) r
fits_failed x r ReadCounters h = record { held = h.held; few = h.few; put = h.put }
fits_failed x r ReadEntry h = record { held = h.held; few = h.few; put = h.put }

pub fits_taken : (x : Pulling) (r : Releasing) → Fits x r → Fits (taken_side (take_due x) x) (held_after (take_due x) r)
fits_taken x r h = by x.take where
  queue : (o : Option ℕ) (cache : List (List ℕ)) → let a = found x.taken o cache in Fits (taken_side a x) (held_after a r)
  queue (Some put) cache = record { held = h.held; few = h.few; put = h.put }
  queue None [] = h
  queue None (body ∷ more) = record { held = let k = h.held in grind (arith, length-append); few = h.few; put = h.put }

  by : (o : Option Bool) → let a = found_by o x in Fits (taken_side a x) (held_after a r)
  by None = h
  by (Some wait) = queue x.empty x.cache

pub fits_new : (x : Pulling) (r : Releasing) (n limit : ℕ) → IsRequestSize n limit → x.taken ≡ 0 → Fits x r → Fits (new_pulling n limit) r
fits_new x r n limit z t h = record { held = sym t ∙ h.held; few = z.1; put = omega arith }

pub fits_over : (x : Pulling) (r : Releasing) → Fits x r → Fits (copies_over x) r
fits_over x r h = record { held = h.held; few = h.few; put = h.put }
