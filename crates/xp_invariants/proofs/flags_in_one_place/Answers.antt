use Rattle.xp_invariants.proofs.FlagsKept.{flags_kept}
use Rattle.xp_invariants.proofs.flags_in_one_place.Goals as goal

pub returns : goal.returns
returns c = flags_kept
