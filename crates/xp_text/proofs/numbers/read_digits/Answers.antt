use Rattle.std.proofs.Common.{refl, sym, ◌∙◌}
use Rattle.xp_text.proofs.DigitLemmas.{all_digits}
use Rattle.xp_text.specs.Numbers.{value_from}
use Rattle.xp_text.proofs.numbers.read_digits.Goals as goal

pub returns-in-Some : goal.returns-in-Some
returns-in-Some c = all_digits c.args.word.now c.in-Some.number (sym c.are_digits.ensures ∙ c.if-not-are_digits.false) c.in-Some.ensures

pub returns-in-None : goal.returns-in-None
returns-in-None c = (value_from 0 c.args.word.now, all_digits c.args.word.now (value_from 0 c.args.word.now) (sym c.are_digits.ensures ∙ c.if-not-are_digits.false) refl, c.in-None.ensures)
