use Rattle.std.proofs.Common.{◌≡◌, take}
use Rattle.xp_report.specs.Summary.{done_of}
use Rattle.xp_report.proofs.summary.done.Given as goal

abbrev pub invariant-loop-node : goal.invariant-loop-node
invariant-loop-node l = l.done ≡ done_of (take l.node-index l.nodes)
