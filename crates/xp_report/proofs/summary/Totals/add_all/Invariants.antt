use Rattle.std.proofs.Common.{◌≡◌, drop, map}
use Rattle.xp_connections.specs.Page.{said_of}
use Rattle.xp_report.specs.Summary.{plus, records_totals}
use Rattle.xp_report.proofs.summary.Totals.add_all.Given as goal

abbrev pub invariant-loop-connection : goal.invariant-loop-connection
invariant-loop-connection l = plus l.self (records_totals (map said_of (drop l.connection-index l.connections))) ≡ plus l.initial.self (records_totals (map said_of l.connections))
