use Rattle.std.proofs.Common.{ℕ, ◌==◌, ap, sym, arith}
use Rattle.xp_page.proofs.NumberLemmas.{no_high_bits}
use Rattle.xp_page.proofs.grammar.none_from.Goals as goal

pub returns-else-count-lt64 : goal.returns-else-count-lt64
returns-else-count-lt64 c =
    sym (ap (λ (x : ℕ). x == 0)
    (no_high_bits c.args.word c.args.count c.ranges.word.fits (omega arith)))
