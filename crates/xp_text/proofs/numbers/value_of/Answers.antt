use Rattle.std.proofs.Common.{arith, refl}
use Rattle.xp_text.proofs.DigitLemmas.{too_great}
use Rattle.xp_text.proofs.numbers.value_of.Goals as goal

pub returns-then-value-digit : goal.returns-then-value-digit
returns-then-value-digit c = too_great c.args.word.now c.loop-byte.byte-index c.loop-byte.value _ c.loop-byte-test.true c.loop-byte.invariant refl (omega (arith, c.type_inv.word c.loop-byte.byte-index)) c.if-value-digit.true
