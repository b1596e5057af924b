use Rattle.xp_steps.specs.Telling.{AreToldBelow}
use Rattle.xp_steps.proofs.telling.tell_all.Given as goal

abbrev pub invariant-loop-number : goal.invariant-loop-number
invariant-loop-number l = AreToldBelow l.number l.word l.initial.partners l.partners
