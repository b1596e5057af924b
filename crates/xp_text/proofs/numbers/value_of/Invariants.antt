use Rattle.std.proofs.Common.{◌≡◌, drop}
use Rattle.xp_text.specs.Numbers.{value_from}
use Rattle.xp_text.proofs.numbers.value_of.Given as goal

abbrev pub invariant-loop-byte : goal.invariant-loop-byte
invariant-loop-byte l = value_from l.value (drop l.byte-index l.word) ≡ value_from 0 l.word
