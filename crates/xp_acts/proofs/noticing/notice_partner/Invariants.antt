use Rattle.xp_acts.specs.Noticing.{Notices}
use Rattle.xp_acts.proofs.Given.{AreToldBelow}
use Rattle.xp_acts.proofs.noticing.notice_partner.Given as goal

abbrev pub invariant-loop-channel : goal.invariant-loop-channel
invariant-loop-channel l = Notices l.initial.keeping l.keeping × AreToldBelow l.number l.channel l.keeping
