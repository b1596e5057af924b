use Rattle.std.proofs.Common.{ap, ◌∙◌, ◌-◌, ◌++◌, map}
use Rattle.xp_base.specs.declared.layout.TheConstants.{CHANNELS}
use Rattle.xp_connections.specs.Page.{said_of}
use Rattle.xp_node.specs.Node.{records_at}
use Rattle.xp_report.specs.Begun.{begun_from, begun_with}
use Rattle.xp_report.proofs.Begins.{lent_at, begun_all, next_begun, last_begun}
use Rattle.xp_report.proofs.order.records_begun.Goals as goal

pub loop-channel-init : goal.loop-channel-init
loop-channel-init c =
    ap (λ xs. map (λ r. said_of r.now) xs ++ begun_from c.args.node.now c.args.partner 0 (CHANNELS - 0)) c.new-records.ensures.items
    ∙ begun_all c.args.node.now c.args.partner

pub loop-channel-preserved : goal.loop-channel-preserved
loop-channel-preserved c =
    let n = c.args.node.now in
    let q = c.args.partner in
    let channel = c.loop-channel.channel in
    let lent = lent_at said_of c.records.result.now n q channel (c.records.ensures ∙ ap (records_at n q) c.known.ensures) in
    next_begun (map (λ r. said_of r.now) c.loop-channel.records.items) (map (λ r. said_of r.now) c.push_records.new.list.items) (begun_with n q) n q channel
    c.loop-channel-test.true (c.in_ok-push_records.ensures ∙ ap (λ xs. map (λ r. said_of r.now) c.loop-channel.records.items ++ xs) lent) c.loop-channel.invariant

pub returns : goal.returns
returns c =
    last_begun (map (λ r. said_of r.now) c.loop-channel.records.items) (begun_with c.args.node.now c.args.partner) c.args.node.now c.args.partner c.loop-channel.channel
    c.loop-channel-test.false c.loop-channel.invariant
