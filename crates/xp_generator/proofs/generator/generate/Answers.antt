use Rattle.xp_generator.proofs.LawfulGenerated.{told_lawful}
use Rattle.xp_generator.proofs.generator.generate.Goals as goal

pub returns-clause-lawful : goal.returns-clause-lawful
returns-clause-lawful c = told_lawful c.args.n c.ring.result c.ring.ensures
