-- What a reader keeps beside a fault: where there is none, the tape of the bytes that came.
use Rattle.std.specs.Prelude.{ℕ, List, Option, Some, None}
use Rattle.xp_dump.specs.declared.fault.DumpFault.{DumpFault}
use Rattle.xp_dump.specs.declared.tape.Tape.{Tape}
use Rattle.xp_dump.specs.Tapes.{IsTape, IsRead}

abbrev pub IsStanding : Option DumpFault → List ℕ → Tape → Type 0
IsStanding None bytes tape = IsTape tape × IsRead bytes tape
IsStanding (Some fault) bytes tape = Unit {0}
