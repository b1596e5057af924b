use Rattle.std.proofs.Common.{◌≡◌, length}
use Rattle.xp_script.specs.Turns.{one_round}
use Rattle.xp_world.specs.Replay.{IsReadyReplay, ReplayTakes}
use Rattle.xp_world.proofs.replay.Replay.round.Given as goal

abbrev pub invariant-loop-number : goal.invariant-loop-number
invariant-loop-number l = record {
  turns : ReplayTakes (one_round 0 l.number) l.initial.self l.self;
  ready : IsReadyReplay l.self;
  count : length l.self.nodes.items ≡ length l.initial.self.nodes.items;
}
