use Rattle.std.proofs.Common.{◌≡◌, drop, map}
use Rattle.xp_protocol.specs.Runs.{some_owe}
use Rattle.xp_partner.specs.Partner.{peer_seen}
use Rattle.xp_partition.proofs.partners.Partners.owe.Given as goal

abbrev pub invariant-loop-partner : goal.invariant-loop-partner
invariant-loop-partner l = some_owe (map peer_seen (drop l.partner-index l.partner-items)) ≡ some_owe (map peer_seen l.partner-items)
