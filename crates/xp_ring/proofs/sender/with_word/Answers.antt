use Rattle.std.proofs.Common.{◌≡◌, ℕ, ◌*◌, ◌^◌, ◌<◌, ◌%◌, bit_or, ap, sym, subst, arith}
use Rattle.std.proofs.Math.Nat.{mod-eq_of_lt}
use Rattle.xp_ring.proofs.Missing.{power_below, one_more}
use Rattle.xp_ring.proofs.sender.with_word.Goals as goal

pub returns-clause-range : goal.returns-clause-range
returns-clause-range c =
    let l : 1 * 2 ^ c.args.field < 2 ^ 128 = let p = power_below c.args.field 128 (omega (arith, c.requires.words, c.requires.field)) in omega (arith, p) in
    let e : 1 * 2 ^ c.args.field ≡ 2 ^ c.args.field = omega arith in
    subst (λ (k : ℕ). bit_or c.args.stored k < 2 ^ c.args.words) (sym (mod-eq_of_lt l)) (subst (λ (k : ℕ). bit_or c.args.stored k < 2 ^ c.args.words) (sym e) (one_more c.args.stored c.args.field c.args.words c.requires.stored c.requires.field))
