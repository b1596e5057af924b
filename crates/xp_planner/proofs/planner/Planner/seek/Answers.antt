use Rattle.std.proofs.Common.{rules, ◌≡◌, sym, ◌∙◌}
use Rattle.xp_rounds.specs.Ring.{place_at}
use Rattle.xp_planner.proofs.Seeking.{step_asked, none_asked_here, quota_used}
use Rattle.xp_planner.proofs.planner.Planner.seek.Goals as goal
use Rattle.xp_planner.proofs.planner.Planner.seek.Goals.{then-self-quota+else-is_some, else-self-quota}

pub returns-then-is_some-clause-found : goal.returns-then-is_some-clause-found
returns-then-is_some-clause-found g c =
    let place : c.at-place.result ≡ place_at (g.A.Affairs.part c.args.affairs.now).part c.args.self.now.ring.at = search rules in
    step_asked (g.A.Affairs.part c.args.affairs.now) c.args.self.now.ring.at c.at-place.result (g.A.Affairs.state c.args.affairs.now) c.loop-errand.self-inside.agenda c.loop-errand.self-inside.at c.loop-errand.self-inside.used c.in-Some.errand c.step-rule.result place (sym c.errand_at.ensures.value ∙ c.in-Some.is) (search rules) c.step-rule.ensures (sym c.is_some.ensures ∙ c.if-is_some.true)
    ∙ c.loop-errand.invariant.1

pub loop-errand-preserved : goal.loop-errand-preserved
loop-errand-preserved g c =
    let s = g.A.Affairs.part c.args.affairs.now in
    let k = c.args.self.now.ring.at in
    let st = g.A.Affairs.state c.args.affairs.now in
    let place : c.at-place.result ≡ place_at s.part k = search rules in
    let first = sym c.errand_at.ensures.value ∙ c.in-Some.is in (
      c.loop-errand.invariant.0,
      sym (elim c.if-self-quota.branch [
        | then-self-quota+else-is_some w ↦ none_asked_here s k c.at-place.result st c.loop-errand.self-inside.agenda c.loop-errand.self-inside.at c.loop-errand.self-inside.used c.in-Some.errand w.step-rule.result place first w.step-rule.ensures (sym w.is_some.ensures ∙ w.if-is_some.false)
        | else-self-quota w ↦ quota_used s k st c.loop-errand.self-inside.agenda c.loop-errand.self-inside.at c.loop-errand.self-inside.used c.in-Some.errand first (search rules)
      ]) ∙ c.loop-errand.invariant.1,
    )
