use Rattle.xp_invariants.proofs.LinesKept.{limits_kept}
use Rattle.xp_invariants.proofs.limits_agree.Goals as goal

pub returns : goal.returns
returns c = limits_kept
