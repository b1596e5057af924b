use Rattle.std.proofs.Common.{◌≡◌, ℕ, ◌≤◌, ◌∙◌, subst, ap}
use Rattle.std.specs.List.{count_by}
use Rattle.xp_script.specs.declared.limits.TheConstants.{RESTART_LIMIT}
use Rattle.xp_script.specs.Lawful.{is_restart_of}
use Rattle.xp_lawful.proofs.Below.{below_more}
use Rattle.xp_lawful.proofs.lawful.are_few_restarts_each.Goals as goal

pub loop-part-preserved : goal.loop-part-preserved
loop-part-preserved c =
    let xs = c.args.restarts.now in
    let here : c.restart_count.result ≡ count_by (is_restart_of c.loop-part.part) xs = c.restart_count.ensures ∙ ap (λ (p : ℕ). count_by (is_restart_of p) xs) c.known.ensures in
    below_more (λ p. count_by (is_restart_of p) xs ≤ RESTART_LIMIT) c.loop-part.part c.loop-part.invariant (subst (λ (n : ℕ). n ≤ RESTART_LIMIT) here c.if-restart_count-gt-RESTART_LIMIT.false)
