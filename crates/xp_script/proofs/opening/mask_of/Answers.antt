use Rattle.std.proofs.Common.{◌+◌, ◌*◌, ◌%◌, ◌^◌, ℕ, drop, bit_or, ap, sym, ◌∙◌}
use Rattle.xp_script.specs.Opening.{partner_mask}
use Rattle.xp_script.proofs.Openings.{mask_more, mask_end}
use Rattle.xp_script.proofs.opening.mask_of.Goals as goal

pub loop-link-preserved : goal.loop-link-preserved
loop-link-preserved c =
    let ls = c.args.links.now in
    let i = c.loop-link.link-index in
    let l = c.link-item.result in
    let items = c.deref-link-items.ensures.value ∙ c.links.view_is in
    let low = rw items at c.loop-link-test.true in
    let is = rw items at c.link-item.is in
    let more = mask_more c.loop-link.mask ls i l low is c.get.ensures.range in
    ap (λ (k : ℕ). bit_or (bit_or c.loop-link.mask (1 * 2 ^ k % 18446744073709551616)) (partner_mask (drop (i + 1) ls))) c.get.ensures.value ∙ sym more ∙ c.loop-link.invariant

pub returns : goal.returns
returns c =
    let items = c.deref-link-items.ensures.value ∙ c.links.view_is in
    let end = rw items at c.loop-link-test.false in
    sym (mask_end c.loop-link.mask c.args.links.now c.loop-link.link-index end) ∙ c.loop-link.invariant
