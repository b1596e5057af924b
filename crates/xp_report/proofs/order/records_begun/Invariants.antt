use Rattle.std.proofs.Common.{◌≡◌, ◌-◌, ◌++◌, map}
use Rattle.xp_base.specs.declared.layout.TheConstants.{CHANNELS}
use Rattle.xp_connections.specs.Page.{said_of}
use Rattle.xp_report.specs.Begun.{begun_from, begun_with}
use Rattle.xp_report.proofs.order.records_begun.Given as goal

abbrev pub invariant-loop-channel : goal.invariant-loop-channel
invariant-loop-channel l = map (λ r. said_of r.now) l.records.items ++ begun_from l.node l.partner l.channel (CHANNELS - l.channel) ≡ begun_with l.node l.partner
