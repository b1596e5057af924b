use Rattle.std.proofs.Common.{◌≡◌, length, replicate}
use Rattle.xp_world.specs.Replay.{IsReadyReplay, ReplayTakes}
use Rattle.xp_world.proofs.replay.Replay.turns.Given as goal

abbrev pub invariant-loop-turn : goal.invariant-loop-turn
invariant-loop-turn l = record {
  turns : ReplayTakes (replicate l._turn l.part) l.initial.self l.self;
  ready : IsReadyReplay l.self;
  count : length l.self.nodes.items ≡ length l.initial.self.nodes.items;
}
