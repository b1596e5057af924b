use Rattle.xp_promises.proofs.Headline.{none_survives}
use Rattle.xp_promises.proofs.promises.registrations_withdrawn.Goals as goal

pub returns : goal.returns
returns c = none_survives
