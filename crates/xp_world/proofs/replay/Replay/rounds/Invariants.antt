use Rattle.std.proofs.Common.{◌≡◌, length}
use Rattle.xp_script.specs.Turns.{some_rounds}
use Rattle.xp_world.specs.Replay.{IsReadyReplay, ReplayTakes}
use Rattle.xp_world.proofs.replay.Replay.rounds.Given as goal

abbrev pub invariant-loop-round : goal.invariant-loop-round
invariant-loop-round l = record {
  turns : ReplayTakes (some_rounds (length l.initial.self.nodes.items) l._round) l.initial.self l.self;
  ready : IsReadyReplay l.self;
  count : length l.self.nodes.items ≡ length l.initial.self.nodes.items;
}
