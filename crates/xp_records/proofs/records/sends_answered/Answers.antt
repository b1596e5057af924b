use Rattle.xp_records.proofs.Answered.{all_answered}
use Rattle.xp_records.proofs.records.sends_answered.Goals as goal

pub returns : goal.returns
returns c = all_answered
