use Rattle.std.proofs.Common.{sym, arith}
use Rattle.xp_page.proofs.NumberLemmas.{not_so_many}
use Rattle.xp_page.proofs.grammar.has_all.Goals as goal

pub returns-else-count-eq64 : goal.returns-else-count-eq64
returns-else-count-eq64 c =
    sym (not_so_many c.args.word c.args.count c.ranges.word.fits (omega arith))
