use Rattle.xp_steps.proofs.Planned.{planned_boot, planned_session}
use Rattle.xp_steps.proofs.laws.planned_can_be_made.Goals as goal

pub returns : goal.returns
returns c = record { boot = planned_boot; session = planned_session }
