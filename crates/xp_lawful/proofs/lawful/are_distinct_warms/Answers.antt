use Rattle.std.proofs.Common.{◌≡◌, ◌+◌, true, false, drop, ap, sym, ◌∙◌}
use Rattle.std.specs.List.{list_any}
use Rattle.std.proofs.lemmas.List.{take_rest}
use Rattle.xp_script.specs.Lawful.{join_the_same}
use Rattle.xp_lawful.proofs.DistinctWarms.{distinct_more, not_distinct}
use Rattle.xp_lawful.proofs.lawful.are_distinct_warms.Goals as goal

pub returns-then-is_joined : goal.returns-then-is_joined
returns-then-is_joined c =
    let ws = c.args.warms.now in
    let i = c.loop-place.place in
    let w = c.index-warms-place.result in
    let some : list_any (join_the_same w) (drop (i + 1) ws) ≡ true = ap (list_any (join_the_same w)) (sym (take_rest ws (i + 1))) ∙ sym c.is_joined.ensures ∙ c.if-is_joined.true in
    ((λ t. absurd cc), (λ h. sym (not_distinct ws i w c.loop-place-test.true c.index-warms-place.is some c.loop-place.invariant h)))

pub loop-place-preserved : goal.loop-place-preserved
loop-place-preserved c =
    let ws = c.args.warms.now in
    let i = c.loop-place.place in
    let w = c.index-warms-place.result in
    let none : list_any (join_the_same w) (drop (i + 1) ws) ≡ false = ap (list_any (join_the_same w)) (sym (take_rest ws (i + 1))) ∙ sym c.is_joined.ensures ∙ c.if-is_joined.false in
    distinct_more ws i w c.loop-place-test.true c.index-warms-place.is none c.loop-place.invariant
