use Rattle.std.proofs.Common.{ap, sym, subst, ◌∙◌, ◌<◌, ◌^◌, arith, List, ℕ}
use Rattle.xp_text.specs.Numbers.{digits_of, Reads}
use Rattle.xp_tool.proofs.NumberLemmas.{fits, no_number}
use Rattle.xp_tool.proofs.words.number.Goals as goal

pub overflow_cast-result : goal.overflow_cast-result
overflow_cast-result c =
    let h : c.in-Number.n < 2 ^ 32 = fits c.args.word.now c.in-Number.n c.if-word-gt-NUMBER_DIGITS.false (ap digits_of (sym c.as_bytes.ensures.value) ∙ c.in-Number.ensures) in
    omega (arith, h)

pub returns-in-Other : goal.returns-in-Other
returns-in-Other c =
    no_number c.args.word.now c.read_digits.result c.if-word-gt-NUMBER_DIGITS.false
    (subst (λ (w : List ℕ). Reads c.read_digits.result (digits_of w)) c.as_bytes.ensures.value c.read_digits.ensures) c.in-Other.is
