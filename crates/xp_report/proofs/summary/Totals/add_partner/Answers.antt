use Rattle.std.proofs.Common.{ap, ◌∙◌, ◌+◌}
use Rattle.xp_connections.specs.Page.{said_of}
use Rattle.xp_node.specs.Node.{records_at}
use Rattle.xp_report.specs.Begun.{begun_with}
use Rattle.xp_report.specs.Summary.{plus, records_totals}
use Rattle.xp_report.proofs.Begins.{lent_at}
use Rattle.xp_report.proofs.Sums.{ends_left, first_end, end_counted, ends_done}
use Rattle.xp_report.proofs.summary.Totals.add_partner.Goals as goal

pub loop-channel-init : goal.loop-channel-init
loop-channel-init c = ap (plus c.args.self.now) (first_end c.args.node.now c.args.partner)

pub loop-channel-preserved : goal.loop-channel-preserved
loop-channel-preserved c =
    let n = c.args.node.now in
    let q = c.args.partner in
    let channel = c.loop-channel.channel in
    let lent = lent_at said_of c.records.result.now n q channel (c.records.ensures ∙ ap (records_at n q) c.known.ensures) in
    ap (λ t. plus t (ends_left n q (channel + 1))) (c.in_ok-add_all.ensures ∙ ap (λ xs. plus c.loop-channel.self (records_totals xs)) lent)
    ∙ end_counted c.loop-channel.self (plus c.args.self.now (records_totals (begun_with n q))) n q channel c.loop-channel-test.true c.loop-channel.invariant

pub returns : goal.returns
returns c =
    ends_done c.loop-channel.self (plus c.args.self.now (records_totals (begun_with c.args.node.now c.args.partner))) c.args.node.now c.args.partner c.loop-channel.channel
    c.loop-channel-test.false c.loop-channel.invariant
