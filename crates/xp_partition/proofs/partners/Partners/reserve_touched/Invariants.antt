use Rattle.xp_partition.proofs.Roomy.{Reserving, HaveRoomBelow}
use Rattle.xp_partition.proofs.partners.Partners.reserve_touched.Given as goal

abbrev pub invariant-loop-number : goal.invariant-loop-number
invariant-loop-number l =
    Reserving l.initial.self l.number l.self
    × HaveRoomBelow l.number l.self
