use Rattle.std.proofs.Common.{◌≡◌, drop}
use Rattle.xp_report.specs.Summary.{plus, totals_of}
use Rattle.xp_report.proofs.summary.all_totals.Given as goal

abbrev pub invariant-loop-node : goal.invariant-loop-node
invariant-loop-node l = plus l.totals (totals_of (drop l.node-index l.nodes)) ≡ totals_of l.nodes
