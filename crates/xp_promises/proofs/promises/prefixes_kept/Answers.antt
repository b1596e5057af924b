use Rattle.xp_promises.proofs.Headline.{kept}
use Rattle.xp_promises.proofs.promises.prefixes_kept.Goals as goal

pub returns : goal.returns
returns c = kept
