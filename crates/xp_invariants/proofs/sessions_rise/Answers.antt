use Rattle.xp_invariants.proofs.SessionsKept.{sessions_kept}
use Rattle.xp_invariants.proofs.sessions_rise.Goals as goal

pub returns : goal.returns
returns c = sessions_kept
