use Rattle.xp_promises.proofs.Reuses.{reuse_kept}
use Rattle.xp_promises.proofs.promises.entries_reused.Goals as goal

pub returns : goal.returns
returns c = reuse_kept
