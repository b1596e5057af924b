use Rattle.std.proofs.Common.{◌≡◌}
use Rattle.xp_report.specs.Summary.{plus, node_totals}
use Rattle.xp_report.proofs.Sums.{partners_left}
use Rattle.xp_report.proofs.summary.Totals.add_node.Given as goal

abbrev pub invariant-loop-partner : goal.invariant-loop-partner
invariant-loop-partner l = plus l.self (partners_left l.node l.partner) ≡ plus l.initial.self (node_totals l.node)
