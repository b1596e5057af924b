use Rattle.xp_sound.proofs.Notices.{start_told, acts_told, boot_told, turn_told}
use Rattle.xp_sound.proofs.States.{history_told}
use Rattle.xp_sound.proofs.laws.notices_given.Goals as goal

pub returns-clause-start : goal.returns-clause-start
returns-clause-start c = start_told

pub returns-clause-acts : goal.returns-clause-acts
returns-clause-acts c = acts_told

pub returns-clause-boot : goal.returns-clause-boot
returns-clause-boot c = boot_told

pub returns-clause-turn : goal.returns-clause-turn
returns-clause-turn c = turn_told

pub returns-clause-history : goal.returns-clause-history
returns-clause-history c = history_told
