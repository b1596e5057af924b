use Rattle.xp_plan.proofs.Visiting.{next_is}
use Rattle.xp_plan.proofs.laws.visits_go_on.Goals as goal

pub returns-clause-next : goal.returns-clause-next
returns-clause-next c = next_is
