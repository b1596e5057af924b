use Rattle.xp_plan.proofs.Visiting.{agenda_fits}
use Rattle.xp_plan.proofs.laws.visits_fit.Goals as goal

pub returns : goal.returns
returns c = agenda_fits
