use Rattle.std.proofs.Common.{false}
use Rattle.xp_acts.proofs.Wants.{Turned}
use Rattle.xp_acts.proofs.wanting.leave.Given as goal

abbrev pub invariant-loop-number : goal.invariant-loop-number
invariant-loop-number l = Turned false l.initial.partners 0 l.number l.partners
