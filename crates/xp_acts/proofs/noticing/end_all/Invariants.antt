use Rattle.xp_acts.specs.Noticing.{ended_at, Notices}
use Rattle.xp_acts.proofs.noticing.end_all.Given as goal

abbrev pub invariant-ends : goal.invariant-ends
invariant-ends l = Notices l.initial.keeping l.keeping

abbrev pub decreases-ends : goal.decreases-ends
decreases-ends l = ended_at l.keeping l.number l.channel
