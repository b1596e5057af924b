use Rattle.std.proofs.Common.{◌≡◌, ◌++◌, drop, map, string_bytes}
use Rattle.xp_connections.specs.Page.{said_of}
use Rattle.xp_report.specs.Links.{records_text}
use Rattle.xp_report.proofs.links.write_records.Given as goal

abbrev pub invariant-loop-connection : goal.invariant-loop-connection
invariant-loop-connection l = string_bytes l.out ++ records_text (map (λ r. said_of r.now) (drop l.connection-index l.records)) ≡ string_bytes l.initial.out ++ records_text (map (λ r. said_of r.now) l.records)
