use Rattle.xp_promises.proofs.Versions.{versions_kept}
use Rattle.xp_promises.proofs.promises.versions_stand.Goals as goal

pub returns : goal.returns
returns c = versions_kept
