use Rattle.std.proofs.Common.{◌≡◌, length, take}
use Rattle.xp_script.specs.Turns.{written_plans}
use Rattle.xp_world.specs.Replay.{IsReadyReplay, ReplayTakes}
use Rattle.xp_world.proofs.replay.Replay.follow_plans.Given as goal

abbrev pub invariant-loop-plan : goal.invariant-loop-plan
invariant-loop-plan l = record {
  turns : ReplayTakes (written_plans (length l.initial.self.nodes.items) (take l.plan-index l.schedule)) l.initial.self l.self;
  ready : IsReadyReplay l.self;
  count : length l.self.nodes.items ≡ length l.initial.self.nodes.items;
}
