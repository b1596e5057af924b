use Rattle.std.proofs.Common.{◌≡◌, drop, ◌-◌}
use Rattle.xp_rounds.specs.Visit.{seek}
use Rattle.xp_planner.specs.declared.agenda.TheConstants.{ERRANDS}
use Rattle.xp_plan.specs.Plan.{plan_of, errands_of}
use Rattle.xp_planner.proofs.planner.Planner.seek.Given as goal

abbrev pub invariant-loop-errand : goal.invariant-loop-errand
invariant-loop-errand g l =
    let p = plan_of (g.A.Affairs.part l.affairs) in
    let st = g.A.Affairs.state l.affairs in
    (l.self-inside.rounds ≡ l.fn.self.ring)
    × (seek p l.fn.self.ring.at st (drop l.self-inside.at (errands_of l.self-inside.agenda)) l.self-inside.used
    ≡ seek p l.fn.self.ring.at st l.fn.self.rest l.fn.self.used)

abbrev pub decreases-loop-errand : goal.decreases-loop-errand
decreases-loop-errand g l = ERRANDS - l.self-inside.at
