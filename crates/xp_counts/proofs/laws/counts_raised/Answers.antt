use Rattle.xp_counts.proofs.States.{acts_counted, step_counted, ended, turn_counts}
use Rattle.xp_counts.proofs.laws.counts_raised.Goals as goal

pub returns-clause-acts : goal.returns-clause-acts
returns-clause-acts c = acts_counted

pub returns-clause-step : goal.returns-clause-step
returns-clause-step c = λ s st rule answer n h. step_counted s st n h rule answer

pub returns-clause-end : goal.returns-clause-end
returns-clause-end c = λ s earlier st n h. ended s st n h earlier

pub returns-clause-turn : goal.returns-clause-turn
returns-clause-turn c = turn_counts
