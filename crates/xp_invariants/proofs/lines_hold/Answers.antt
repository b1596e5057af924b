use Rattle.xp_invariants.proofs.LinesKept.{lines_kept}
use Rattle.xp_invariants.proofs.lines_hold.Goals as goal

pub returns : goal.returns
returns c = lines_kept
