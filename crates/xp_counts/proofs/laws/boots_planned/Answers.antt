use Rattle.xp_counts.proofs.Planned.{start_planned, turn_planned, history_planned}
use Rattle.xp_counts.proofs.laws.boots_planned.Goals as goal

pub returns-clause-start : goal.returns-clause-start
returns-clause-start c = start_planned

pub returns-clause-turn : goal.returns-clause-turn
returns-clause-turn c = turn_planned

pub returns-clause-history : goal.returns-clause-history
returns-clause-history c = history_planned
