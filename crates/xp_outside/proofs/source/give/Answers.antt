use Rattle.std.proofs.Common.{ℕ, take, drop, arith, ap, ◌∙◌, length-take}
use Rattle.xp_outside.proofs.Lists.{drop-moved}
use Rattle.xp_outside.proofs.source.give.Goals as goal

pub returns-clause-moved : goal.returns-clause-moved
returns-clause-moved c =
    let n = c.min-count.result in
    let given = c.args.given in
    let bytes = c.args.bytes.now in
    drop-moved bytes given n c.copy_from_slice.new.self (drop n c.args.into.now) (omega (arith, c.copy_from_slice.ensures.len, c.min-count.ensures, c.min.ensures, length-take n c.args.into.now)) (c.copy_from_slice.ensures.after ∙ ap (λ (k : ℕ). take k (drop given bytes)) (omega arith))
