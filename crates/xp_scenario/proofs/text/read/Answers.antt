use Rattle.xp_scenario.specs.Text.{scenario_in}
use Rattle.xp_scenario.proofs.text.read.Goals as goal

pub returns : goal.returns
unfolding scenario_in
returns c =
    let told = rw c.scenario.ensures at c.within_limits.ensures in
    rw c.in_ok-draft.ensures told
