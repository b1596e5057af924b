use Rattle.std.proofs.Common.{◌≡◌, ℕ, ◌++◌, append-nil, append_assoc, ap, sym, ◌∙◌}
use Rattle.xp_base.specs.declared.layout.TheConstants.{CHANNELS}
use Rattle.xp_script.specs.Parts.{links_to}
use Rattle.xp_script.proofs.Links.{links_from-more, links_from-end}
use Rattle.xp_script.proofs.scenario.Scenario.links.Goals as goal

pub loop-partner-preserved : goal.loop-partner-preserved
loop-partner-preserved c =
    let more = links_from-more c.args.part c.loop-partner.partner c.args.self.now.count c.args.self.now.warms (rw c.get-count.ensures.value at c.loop-partner-test.true) in
    let p = c.args.part in
    let q = c.loop-partner.partner in
    let ws = c.args.self.now.warms in
    let pushed : c.push_links.new.links.items ≡ c.loop-partner.list.items ++ links_to p q 0 CHANNELS ws =
    c.in_ok-push_links.ensures ∙ ap (λ (k : ℕ). c.loop-partner.list.items ++ links_to p k 0 CHANNELS ws) c.known.ensures in
    let was = rw more at c.loop-partner.invariant in
    rw (pushed, append_assoc) was

pub returns : goal.returns
returns c =
    let none = links_from-end c.args.part c.loop-partner.partner c.args.self.now.count c.args.self.now.warms (rw c.get-count.ensures.value at c.loop-partner-test.false) in
    let was = rw none at c.loop-partner.invariant in
    sym (append-nil c.loop-partner.list.items) ∙ was
