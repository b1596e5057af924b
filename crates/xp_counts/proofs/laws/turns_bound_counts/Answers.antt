use Rattle.xp_counts.proofs.States.{start_bounded, turn_bounded, history_bounded}
use Rattle.xp_counts.proofs.laws.turns_bound_counts.Goals as goal

pub returns-clause-start : goal.returns-clause-start
returns-clause-start c = start_bounded

pub returns-clause-turn : goal.returns-clause-turn
returns-clause-turn c = turn_bounded

pub returns-clause-history : goal.returns-clause-history
returns-clause-history c = history_bounded
