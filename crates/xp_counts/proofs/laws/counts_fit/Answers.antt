use Rattle.xp_counts.proofs.States.{more_counted, counts_low}
use Rattle.xp_counts.proofs.laws.counts_fit.Goals as goal

pub returns-clause-more : goal.returns-clause-more
returns-clause-more c = more_counted

pub returns-clause-fit : goal.returns-clause-fit
returns-clause-fit c = counts_low
