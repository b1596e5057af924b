use Rattle.xp_page.specs.Reading.{AllowedTo}
use Rattle.xp_page.proofs.reading.first_fault.Given as goal

abbrev pub invariant-loop-k : goal.invariant-loop-k
invariant-loop-k l = AllowedTo l.rows l.bytes l.k
