use Rattle.std.proofs.Common.{◌≡◌, drop, map}
use Rattle.xp_plan.specs.PeerSteps.{any_left}
use Rattle.xp_partner.specs.Partner.{peer_seen}
use Rattle.xp_partition.proofs.partners.Partners.any_left.Given as goal

abbrev pub invariant-loop-number : goal.invariant-loop-number
invariant-loop-number l = any_left l.own l.number (map peer_seen (drop l.number l.self.list)) ≡ any_left l.own 0 (map peer_seen l.self.list)
