use Rattle.xp_records.proofs.Acknowledged.{all_acked}
use Rattle.xp_records.proofs.records.delivered_acknowledged.Goals as goal

pub returns : goal.returns
returns c = all_acked
