use Rattle.std.proofs.Common.{sym, subst}
use Rattle.xp_script.specs.declared.part.ScenarioPart.{ScenarioPart}
use Rattle.xp_protocol.specs.Parts.{IsLawfulPart}
use Rattle.xp_protocol.proofs.LawfulParts.{lawful_part}
use Rattle.xp_counts.specs.Planned.{HasFewPlans}
use Rattle.xp_counts.proofs.Planned.{lawful_few}
use Rattle.xp_node.proofs.node.Node.new.Goals as goal

pub open-requires-clause-lawful : goal.open-requires-clause-lawful
open-requires-clause-lawful c =
    subst (λ (s : ScenarioPart). IsLawfulPart s) (sym c.in_ok-part.ensures) (lawful_part c.args.scenario.now c.args.part c.requires.lawful c.requires.part)

pub open-requires-clause-few : goal.open-requires-clause-few
open-requires-clause-few c =
    subst (λ (s : ScenarioPart). HasFewPlans s) (sym c.in_ok-part.ensures) (lawful_few c.args.scenario.now c.args.part c.requires.lawful c.requires.part)
