use Rattle.xp_records.proofs.Recorded.{all_recorded}
use Rattle.xp_records.proofs.records.notices_recorded.Goals as goal

pub returns : goal.returns
returns c = all_recorded
