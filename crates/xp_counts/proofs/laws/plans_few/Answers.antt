use Rattle.xp_counts.proofs.Planned.{lawful_few, few_begun}
use Rattle.xp_counts.proofs.laws.plans_few.Goals as goal

pub returns-clause-lawful : goal.returns-clause-lawful
returns-clause-lawful c = lawful_few

pub returns-clause-boots : goal.returns-clause-boots
returns-clause-boots c = λ s st few h. (few_begun s st few h).0

pub returns-clause-begun : goal.returns-clause-begun
returns-clause-begun c = λ s st few h. (few_begun s st few h).1
