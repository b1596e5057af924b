use Rattle.std.proofs.Common.{ℕ, [], refl, sym, subst}
use Rattle.std.specs.List.{AllByRecursion}
use Rattle.xp_script.specs.Lawful.{IsLawfulPlan}
use Rattle.xp_script.specs.Totals.{plans_of}
use Rattle.xp_script.specs.Turns.{written_plans, written}
use Rattle.xp_world.specs.declared.replay.Replay.{Replay}
use Rattle.xp_world.specs.declared.world.World.{World}
use Rattle.xp_world.specs.Replay.{ReplayTakes}
use Rattle.xp_world.specs.World.{Reaches}
use Rattle.xp_world.proofs.Promising.{promised}
use Rattle.xp_world.proofs.Replays.{keeps_none, keeps_turns, replay_reaches}
use Rattle.xp_world.proofs.world.World.replay.Goals as goal

pub follow-requires-clause-plans : goal.follow-requires-clause-plans
follow-requires-clause-plans c =
    subst (λ (k : ℕ). AllByRecursion (IsLawfulPlan k) (plans_of c.args.scenario.now.schedule)) (sym c.in_ok-words.ensures.reached.count) c.requires.plans

pub returns-clause-replayed : goal.returns-clause-replayed
returns-clause-replayed c =
    let s = c.args.scenario.now in
    let opened : World = c.in_ok-words.field-0 in
    let reached = c.in_ok-words.ensures.reached in
    let old : Replay = record { count = s.count; memory = c.in_ok-open.field-0; nodes = opened.nodes } in
    let new = c.follow.new.self in
    let world : World = record { words = c.close.new.into; nodes = new.nodes } in
    let turns = subst (λ (k : ℕ). ReplayTakes (written_plans k (plans_of s.schedule)) old new) reached.count c.in_ok-follow.ensures.ok in
    let keeps = keeps_turns s [] (written s) old new (keeps_none s old opened reached refl (sym c.in_ok-open.ensures.opening) c.in_ok-open.ensures.history) turns in
    let reaches : Reaches s (written s) world = replay_reaches s (written s) new world refl keeps c.close.ensures.legal in
    record {
      history = reaches.0;
      reached = reaches.1;
      scheduled = reaches.2;
      promised = promised c.all_promised.ensures c.visits_serve.ensures s reaches.0 world c.requires reaches.1;
    }
