use Rattle.std.proofs.Common.{◌≡◌, ◌≤◌, length}
use Rattle.xp_outside.proofs.Passing.{HasPassed}
use Rattle.xp_outside.proofs.source.feed_all.Given as goal

abbrev pub invariant-loop-turn : goal.invariant-loop-turn
invariant-loop-turn g l = record {
  passed : HasPassed g.T.Taker.takes (g.S.Source.left l.initial.source) (g.S.Source.left l.source) l.initial.taker l.taker l.fed;
  count : l._turn ≤ l.fed;
  within : l.fed ≤ l.limit;
  piece : length l.piece ≡ 8192;
  faults : g.S.Source.faults l.source ≡ g.S.Source.faults l.initial.source;
}
