use Rattle.std.proofs.Common.{◌≡◌, ℕ, ◌≤◌, ◌∙◌, subst, ap}
use Rattle.std.specs.List.{count_by}
use Rattle.xp_script.specs.Lawful.{is_minor_of}
use Rattle.xp_lawful.proofs.Below.{below_more}
use Rattle.xp_lawful.proofs.lawful.is_one_minor_each.Goals as goal

pub loop-part-preserved : goal.loop-part-preserved
loop-part-preserved c =
    let xs = c.args.minors.now in
    let here : c.minor_count.result ≡ count_by (is_minor_of c.loop-part.part) xs = c.minor_count.ensures ∙ ap (λ (p : ℕ). count_by (is_minor_of p) xs) c.known.ensures in
    below_more (λ p. count_by (is_minor_of p) xs ≤ 1) c.loop-part.part c.loop-part.invariant (subst (λ (n : ℕ). n ≤ 1) here c.if-minor_count-gt1.false)
