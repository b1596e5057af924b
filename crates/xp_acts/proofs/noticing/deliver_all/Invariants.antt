use Rattle.xp_acts.specs.Noticing.{waiting_at, Notices}
use Rattle.xp_acts.proofs.noticing.deliver_all.Given as goal

abbrev pub invariant-deliveries : goal.invariant-deliveries
invariant-deliveries l = Notices l.initial.keeping l.keeping

abbrev pub decreases-deliveries : goal.decreases-deliveries
decreases-deliveries l = waiting_at l.keeping l.number l.channel
