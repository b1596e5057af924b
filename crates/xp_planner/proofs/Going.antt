-- The visits of a partition go on.
use Rattle.std.proofs.Common.{◌≡◌, subst, sym}
use Rattle.xp_rounds.specs.Visit.{Visit, planned}
use Rattle.xp_script.specs.declared.part.ScenarioPart.{ScenarioPart}
use Rattle.xp_protocol.specs.State.{State}
use Rattle.xp_plan.specs.declared.errand.Errand.{Errand}
use Rattle.xp_plan.specs.Plan.{plan_of, IsVisit}
use Rattle.xp_plan.proofs.Visiting.{next_is}

pub goes_on : (s : ScenarioPart) (st : State) (v w : Visit Errand) → IsVisit s v → w ≡ (planned (plan_of s) v st).visit → IsVisit s w
goes_on s st v w h is = subst (IsVisit s) (sym is) (next_is s st v h)
