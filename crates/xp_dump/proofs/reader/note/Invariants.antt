use Rattle.std.proofs.Common.{◌≡◌, ◌++◌, take}
use Rattle.xp_dump.proofs.reader.note.Given as goal

abbrev pub invariant-loop-byte : goal.invariant-loop-byte
invariant-loop-byte l = l.read ≡ l.initial.read ++ take l.byte-index l.piece
