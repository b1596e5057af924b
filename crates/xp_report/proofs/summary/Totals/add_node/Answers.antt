use Rattle.std.proofs.Common.{ap, ◌∙◌, ◌+◌, ◌<◌, ◌≤◌, arith}
use Rattle.xp_report.specs.Begun.{begun_with}
use Rattle.xp_report.specs.Summary.{plus, node_totals, records_totals}
use Rattle.xp_report.proofs.Sums.{partners_left, partner_counted, partners_done}
use Rattle.xp_report.proofs.summary.Totals.add_node.Goals as goal

pub loop-partner-preserved : goal.loop-partner-preserved
loop-partner-preserved c =
    let n = c.args.node.now in
    let below : c.loop-partner.partner < n.part.count = omega (arith, c.loop-partner-test.true, c.get-partner-end.ensures.value, c.count.ensures) in
    ap (λ t. plus t (partners_left n (c.loop-partner.partner + 1))) (c.in_ok-add_partner.ensures ∙ ap (λ q. plus c.loop-partner.self (records_totals (begun_with n q))) c.known.ensures)
    ∙ partner_counted c.loop-partner.self (plus c.args.self.now (node_totals n)) n c.loop-partner.partner below c.loop-partner.invariant

pub returns : goal.returns
returns c =
    let n = c.args.node.now in
    let past : n.part.count ≤ c.loop-partner.partner = omega (arith, c.loop-partner-test.false, c.get-partner-end.ensures.value, c.count.ensures) in
    partners_done c.loop-partner.self (plus c.args.self.now (node_totals n)) n c.loop-partner.partner past c.loop-partner.invariant
