use Rattle.std.proofs.Common.{◌≡◌, ℕ, List, length, take, refl, sym, ◌∙◌, subst, Some}
use Rattle.std.specs.List.{slice_get}
use Rattle.std.proofs.lemmas.Option.{slice_get_read}
use Rattle.xp_script.specs.declared.schedule.Plan.{Plan}
use Rattle.xp_script.specs.Turns.{plan_parts, written_plans}
use Rattle.xp_world.specs.Replay.{ReplayTakes}
use Rattle.xp_world.proofs.Schedules.{written_plans-more}
use Rattle.xp_world.proofs.Replays.{ReplayTakes-append}
use Rattle.xp_world.proofs.replay.Replay.follow_plans.Goals as goal

pub loop-plan-preserved : goal.loop-plan-preserved
loop-plan-preserved c =
    let old = c.args.self.now in
    let mid = c.loop-plan.self in
    let new = c.follow_plan.new.self in
    let count = length old.nodes.items in
    let plans = c.args.schedule.now in
    let i = c.loop-plan.plan-index in
    let plan = c.plan-item.result in
    let same : c.deref-plan-items.result.now ≡ plans = c.deref-plan-items.ensures.value ∙ c.schedule.view_is in
    let items = c.deref-plan-items.result.now in
    let found = slice_get_read items (length items) i plan refl c.loop-plan-test.true c.plan-item.is in
    let item : slice_get plans i ≡ Some plan = subst (λ (xs : List Plan). slice_get xs i ≡ Some plan) same found in
    let made = subst (λ (k : ℕ). ReplayTakes (plan_parts k plan) mid new) c.loop-plan.invariant.count c.in_ok-follow_plan.ensures.ok in
    let turns = ReplayTakes-append (written_plans count (take i plans)) (plan_parts count plan) old mid new c.loop-plan.invariant.turns made in record {
      turns = subst (λ (ps : List ℕ). ReplayTakes ps old new) (sym (written_plans-more count plans i plan item)) turns;
      ready = c.in_ok-follow_plan.ensures.ready;
      count = c.follow_plan.ensures.count ∙ c.loop-plan.invariant.count;
    }
