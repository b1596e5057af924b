use Rattle.xp_promises.proofs.NoticesKept.{notices_kept}
use Rattle.xp_promises.proofs.promises.notices_told.Goals as goal

pub returns : goal.returns
returns c = notices_kept
