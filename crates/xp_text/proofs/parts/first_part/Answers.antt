use Rattle.std.proofs.Common.{arith}
use Rattle.xp_text.proofs.LineLemmas.{part_then, one_part}
use Rattle.xp_text.proofs.parts.first_part.Goals as goal

pub returns-then-byte-separator-clause-parts : goal.returns-then-byte-separator-clause-parts
returns-then-byte-separator-clause-parts c = part_then c.args.separator c.args.bytes.now c.loop-place.place (omega arith) c.if-byte-separator.true c.loop-place.invariant

pub returns-clause-parts : goal.returns-clause-parts
returns-clause-parts c = one_part c.args.separator c.args.bytes.now (λ k lt. c.loop-place.invariant k (omega arith))
