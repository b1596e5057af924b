use Rattle.xp_language_laws.proofs.WholeTexts.{spells, read_again}
use Rattle.xp_language_laws.proofs.texts.read_back.Goals as goal

pub returns-clause-spelled : goal.returns-clause-spelled
returns-clause-spelled c = λ s h. spells s h

pub returns-clause-read : goal.returns-clause-read
returns-clause-read c = λ s h. read_again s h
