use Rattle.xp_promises.proofs.Guard.{guarded_kept}
use Rattle.xp_promises.proofs.promises.memory_guarded.Goals as goal

pub returns : goal.returns
returns c = guarded_kept
