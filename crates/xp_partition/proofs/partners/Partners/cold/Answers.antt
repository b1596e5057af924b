use Rattle.std.proofs.Common.{◌≡◌, ℕ, subst, arith}
use Rattle.xp_partition.proofs.Opened.{AreCold, cold_opens}
use Rattle.xp_partition.proofs.partners.Partners.cold.Goals as goal

pub returns : goal.returns
returns c =
    let part = c.args.part.now in
    let xs = c.loop-number.list.items in
    let whole : c.loop-number.number ≡ part.count = omega arith in
    cold_opens part xs 0 (subst (λ (n : ℕ). AreCold part n xs) whole c.loop-number.invariant)
