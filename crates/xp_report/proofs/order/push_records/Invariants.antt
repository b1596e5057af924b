use Rattle.std.proofs.Common.{◌≡◌, ◌++◌, drop, map}
use Rattle.xp_connections.specs.Page.{said_of}
use Rattle.xp_report.proofs.order.push_records.Given as goal

abbrev pub invariant-loop-record : goal.invariant-loop-record
invariant-loop-record l = map (λ r. said_of r.now) l.list.items ++ map said_of (drop l.record-index l.records) ≡ map (λ r. said_of r.now) l.initial.list.items ++ map said_of l.records
