use Rattle.std.proofs.Common.{◌≡◌}
use Rattle.xp_report.specs.Begun.{begun_with}
use Rattle.xp_report.specs.Summary.{plus, records_totals}
use Rattle.xp_report.proofs.Sums.{ends_left}
use Rattle.xp_report.proofs.summary.Totals.add_partner.Given as goal

abbrev pub invariant-loop-channel : goal.invariant-loop-channel
invariant-loop-channel l = plus l.self (ends_left l.node l.partner l.channel) ≡ plus l.initial.self (records_totals (begun_with l.node l.partner))
