use Rattle.xp_node.proofs.Histories.{made_more}
use Rattle.xp_node.proofs.laws.histories_extend.Goals as goal

pub returns : goal.returns
returns c = made_more
