use Rattle.std.proofs.Common.{◌≡◌, ◌++◌, drop, string_bytes}
use Rattle.xp_report.specs.Report.{nodes_text}
use Rattle.xp_report.proofs.text.report.Given as goal

abbrev pub invariant-loop-node : goal.invariant-loop-node
invariant-loop-node l = string_bytes l.out ++ nodes_text (drop l.node-index l.nodes) ≡ string_bytes l.initial.out ++ nodes_text l.nodes
