use Rattle.xp_partition.proofs.Opened.{AreCold}
use Rattle.xp_partition.proofs.partners.Partners.cold.Given as goal

abbrev pub invariant-loop-number : goal.invariant-loop-number
invariant-loop-number l = AreCold l.part l.number l.list.items
