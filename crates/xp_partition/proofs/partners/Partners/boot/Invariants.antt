use Rattle.xp_partition.proofs.Restarting.{Booting}
use Rattle.xp_partition.proofs.partners.Partners.boot.Given as goal

abbrev pub invariant-loop-number : goal.invariant-loop-number
invariant-loop-number l = Booting l.initial.self l.number l.self
