use Rattle.xp_acts.proofs.Composing.{acts_then}
use Rattle.xp_acts.proofs.laws.acts_compose.Goals as goal

pub returns-clause-more : goal.returns-clause-more
returns-clause-more c = acts_then
