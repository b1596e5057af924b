use Rattle.std.proofs.Common.{◌≡◌, drop, bit_or}
use Rattle.xp_script.specs.Opening.{partner_mask}
use Rattle.xp_script.proofs.opening.mask_of.Given as goal

abbrev pub invariant-loop-link : goal.invariant-loop-link
invariant-loop-link l = bit_or l.mask (partner_mask (drop l.link-index l.links)) ≡ partner_mask l.links
