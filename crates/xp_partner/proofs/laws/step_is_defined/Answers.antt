use Rattle.xp_partner.proofs.Linked.{link_known}
use Rattle.xp_partner.proofs.laws.step_is_defined.Goals as goal

pub returns : goal.returns
returns c = λ own q n mark m a ch x. link_known own q n mark m a ch x
