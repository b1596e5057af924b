use Rattle.std.proofs.Common.{◌≡◌, drop, map, bit_or}
use Rattle.xp_protocol.specs.Peering.{mask_from}
use Rattle.xp_partner.specs.Partner.{peer_seen}
use Rattle.xp_partition.proofs.partners.Partners.mask.Given as goal

abbrev pub invariant-loop-number : goal.invariant-loop-number
invariant-loop-number l = bit_or l.mask (mask_from l.number (map peer_seen (drop l.number l.self.list))) ≡ mask_from 0 (map peer_seen l.self.list)
