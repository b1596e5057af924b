-- A partition's visits begin at its own place, and go on.
use Rattle.std.proofs.Common.{◌≤◌, refl, ◌∙◌, arith}
use Rattle.xp_rounds.specs.declared.rounds.TheConstants.{VISIT_TURNS}
use Rattle.xp_rounds.specs.Visit.{Visit, planned, cost}
use Rattle.xp_rounds.proofs.Visits.{planned_on}
use Rattle.xp_rounds.proofs.Asked.{planned_left}
use Rattle.xp_script.specs.declared.part.ScenarioPart.{ScenarioPart}
use Rattle.xp_protocol.specs.Parts.{IsLawfulPart}
use Rattle.xp_protocol.specs.State.{State}
use Rattle.xp_plan.specs.declared.errand.Agenda.{Agenda}
use Rattle.xp_plan.specs.declared.errand.Agenda.TheVariants as agendas
use Rattle.xp_plan.specs.declared.errand.Errand.{Errand}
use Rattle.xp_plan.specs.Plan.{errands_of, plan_of, IsErrand, IsVisit, first_visit}
use Rattle.xp_plan.proofs.Permits.{given}

pub first_is : (s : ScenarioPart) → IsLawfulPart s → IsVisit s (first_visit s)
first_is s lawful =
    let l = lawful.part in
    record {
      ring = record { own = lawful.part; count = lawful.count; at = omega (arith, l); made = omega arith };
      own = refl;
      count = refl;
      errands = tt;
    }

pub next_is : (s : ScenarioPart) (st : State) (v : Visit Errand) → IsVisit s v → IsVisit s (planned (plan_of s) v st).visit
next_is s st v h =
    let o = planned_on (plan_of s) st v h.ring in
    record {
      ring = o.0;
      own = o.2 ∙ h.own;
      count = o.1 ∙ h.count;
      errands = planned_left (plan_of s) IsErrand (given s) v st h.errands;
    }

pub agenda_fits : (s : ScenarioPart) (x : Agenda) → cost (plan_of s) (errands_of x) ≤ VISIT_TURNS
agenda_fits s agendas.Boot = omega arith
agenda_fits s agendas.Own = omega arith
agenda_fits s agendas.Apart = omega arith
agenda_fits s agendas.Joined = omega arith
