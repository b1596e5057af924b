use Rattle.xp_language_laws.proofs.DraftTotals.{counts, commands_told, bytes_told}
use Rattle.xp_language_laws.proofs.totals.totals_told.Goals as goal

pub returns-clause-commands : goal.returns-clause-commands
returns-clause-commands c = λ lines d h. commands_told lines d h

pub returns-clause-bytes : goal.returns-clause-bytes
returns-clause-bytes c = λ lines d h few. bytes_told lines d h few

pub returns-clause-counted_commands : goal.returns-clause-counted_commands
returns-clause-counted_commands c = λ lines d h. (counts lines d h).commands

pub returns-clause-counted_bytes : goal.returns-clause-counted_bytes
returns-clause-counted_bytes c = λ lines d h. (counts lines d h).bytes
