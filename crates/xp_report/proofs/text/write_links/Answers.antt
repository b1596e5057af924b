use Rattle.std.proofs.Common.{ap, ◌∙◌, ◌<◌, ◌≤◌, ◌++◌, map, string_bytes, arith}
use Rattle.xp_connections.specs.Page.{said_of}
use Rattle.xp_report.specs.Links.{records_text}
use Rattle.xp_report.specs.Order.{as_printed}
use Rattle.xp_report.specs.Begun.{begun_with}
use Rattle.xp_report.specs.Report.{links_text}
use Rattle.xp_report.proofs.Linked.{next_partner, last_partner}
use Rattle.xp_report.proofs.text.write_links.Goals as goal

pub loop-partner-preserved : goal.loop-partner-preserved
loop-partner-preserved c =
    let n = c.args.node.now in
    let q = c.loop-partner.partner in
    let below : q < n.part.count = omega (arith, c.loop-partner-test.true, c.get-partner-end.ensures.value, c.count.ensures) in
    let printed = ap (map (λ r. said_of r.now)) c.deref.ensures.value ∙ c.in_ok-records.ensures ∙ ap (λ p. as_printed (begun_with n p)) c.known.ensures in
    next_partner (string_bytes c.loop-partner.out) (string_bytes c.write_records.new.out) (string_bytes c.args.out.now ++ links_text n) n q n.part.count
    below (c.in_ok-write_records.ensures ∙ ap (λ rs. string_bytes c.loop-partner.out ++ records_text rs) printed) c.loop-partner.invariant

pub returns : goal.returns
returns c =
    let n = c.args.node.now in
    let past : n.part.count ≤ c.loop-partner.partner = omega (arith, c.loop-partner-test.false, c.get-partner-end.ensures.value, c.count.ensures) in
    last_partner (string_bytes c.loop-partner.out) (string_bytes c.args.out.now ++ links_text n) n c.loop-partner.partner n.part.count past c.loop-partner.invariant
