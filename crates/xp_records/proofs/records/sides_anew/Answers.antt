use Rattle.xp_records.proofs.Anew.{sides_new}
use Rattle.xp_records.proofs.records.sides_anew.Goals as goal

pub returns : goal.returns
returns c = sides_new
