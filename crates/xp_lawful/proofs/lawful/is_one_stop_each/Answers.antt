use Rattle.std.proofs.Common.{◌≡◌, ℕ, ◌≤◌, ◌∙◌, subst, ap}
use Rattle.std.specs.List.{count_by}
use Rattle.xp_script.specs.Lawful.{is_stop_of}
use Rattle.xp_lawful.proofs.Below.{below_more}
use Rattle.xp_lawful.proofs.lawful.is_one_stop_each.Goals as goal

pub loop-part-preserved : goal.loop-part-preserved
loop-part-preserved c =
    let xs = c.args.stops.now in
    let here : c.stop_count.result ≡ count_by (is_stop_of c.loop-part.part) xs = c.stop_count.ensures ∙ ap (λ (p : ℕ). count_by (is_stop_of p) xs) c.known.ensures in
    below_more (λ p. count_by (is_stop_of p) xs ≤ 1) c.loop-part.part c.loop-part.invariant (subst (λ (n : ℕ). n ≤ 1) here c.if-stop_count-gt1.false)
