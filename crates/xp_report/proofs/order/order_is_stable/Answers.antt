use Rattle.xp_report.proofs.PlaceOrder.{printed-sorted, printed-stable}
use Rattle.xp_report.proofs.order.order_is_stable.Goals as goal

pub returns-clause-sorted : goal.returns-clause-sorted
returns-clause-sorted c = printed-sorted

pub returns-clause-stable : goal.returns-clause-stable
returns-clause-stable c = printed-stable
