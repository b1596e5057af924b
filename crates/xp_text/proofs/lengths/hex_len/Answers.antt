use Rattle.std.proofs.Common.{sym, ◌∙◌}
use Rattle.xp_text.proofs.LengthLemmas.{hex_is, hex_isnt}
use Rattle.xp_text.proofs.lengths.hex_len.Goals as goal
use Rattle.xp_text.proofs.lengths.hex_len.Goals.{else-digits-eq0-via-then-digits-eq0+else-are_hex_digits, else-digits-eq0-via-else-digits-eq0}

pub returns-then-are_hex_digits : goal.returns-then-are_hex_digits
returns-then-are_hex_digits c = sym (hex_is c.args.digits.now c.if-digits-eq0.true (sym c.are_hex_digits.ensures ∙ c.if-are_hex_digits.true))

pub returns-else-digits-eq0 : goal.returns-else-digits-eq0
returns-else-digits-eq0 c = sym (hex_isnt c.args.digits.now (elim c.else-digits-eq0.branch [
  | else-digits-eq0-via-then-digits-eq0+else-are_hex_digits w ↦ λ even. sym w.are_hex_digits.ensures ∙ w.if-are_hex_digits.false
  | else-digits-eq0-via-else-digits-eq0 w ↦ λ even. absurd (w.if-digits-eq0.false even)
]))
