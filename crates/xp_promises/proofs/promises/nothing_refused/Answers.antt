use Rattle.xp_promises.proofs.Headline.{none_refused}
use Rattle.xp_promises.proofs.promises.nothing_refused.Goals as goal

pub returns : goal.returns
returns c = none_refused
