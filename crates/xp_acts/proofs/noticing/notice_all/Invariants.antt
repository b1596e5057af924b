use Rattle.xp_acts.specs.Noticing.{Notices}
use Rattle.xp_acts.proofs.Given.{AllToldBelow}
use Rattle.xp_acts.proofs.noticing.notice_all.Given as goal

abbrev pub invariant-loop-number : goal.invariant-loop-number
invariant-loop-number l = Notices l.initial.keeping l.keeping × AllToldBelow l.number l.keeping
