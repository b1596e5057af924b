use Rattle.xp_promises.proofs.Headline.{flags_in_turn}
use Rattle.xp_promises.proofs.promises.flags_in_order.Goals as goal

pub returns : goal.returns
returns c = flags_in_turn
