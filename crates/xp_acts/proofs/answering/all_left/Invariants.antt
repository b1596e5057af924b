use Rattle.std.proofs.Common.{◌≡◌, map, drop}
use Rattle.xp_protocol.specs.Acts.{all_gone}
use Rattle.xp_partner.specs.Partner.{peer_seen}
use Rattle.xp_acts.proofs.answering.all_left.Given as goal

abbrev pub invariant-loop-number : goal.invariant-loop-number
invariant-loop-number l = all_gone l.own l.number (map peer_seen (drop l.number l.partners.list)) ≡ all_gone l.own 0 (map peer_seen l.partners.list)
