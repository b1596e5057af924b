use Rattle.xp_plan.proofs.Permits.{permits}
use Rattle.xp_plan.proofs.laws.planned_can.Goals as goal

pub returns : goal.returns
returns c = permits
