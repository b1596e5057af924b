use Rattle.std.proofs.Common.{drop}
use Rattle.xp_partition.specs.Opening.{Opens}
use Rattle.xp_partition.proofs.partners.Partners.«open».Given as goal

abbrev pub invariant-loop-link : goal.invariant-loop-link
invariant-loop-link l = Opens l.part (drop l.link-index l.link-items) l.mask l.partners
