use Rattle.std.proofs.Common.{sym, arith}
use Rattle.xp_page.proofs.NumberLemmas.{no_high_bit}
use Rattle.xp_page.proofs.grammar.has_bit.Goals as goal

pub returns-else-place-lt64 : goal.returns-else-place-lt64
returns-else-place-lt64 c =
    sym (no_high_bit c.args.word c.args.place c.ranges.word.fits (omega arith))
