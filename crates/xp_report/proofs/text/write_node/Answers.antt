use Rattle.std.proofs.Common.{refl, string_bytes}
use Rattle.xp_report.specs.Log.{entries_text}
use Rattle.xp_report.specs.Report.{head_text, pool_text, links_text, node_text}
use Rattle.xp_report.proofs.Texts.{joined4}
use Rattle.xp_report.proofs.text.write_node.Goals as goal

pub returns : goal.returns
unfolding node_text
returns c =
    joined4 c.write_links.result (string_bytes c.write_links.new.out) (string_bytes c.write_pool.new.out) (string_bytes c.write_entries.new.out) (string_bytes c.write_head.new.out) (string_bytes c.args.out.now)
    (head_text c.part.result c.ended.result c.boots.result) (entries_text c.log.result.now) (pool_text c.pool.result) (links_text c.args.node.now) (node_text c.args.node.now)
    c.in_ok-write_head.ensures c.in_ok-write_entries.ensures c.in_ok-write_pool.ensures c.write_links.ensures
    (rw (c.part.ensures, c.ended.ensures, c.boots.ensures, c.log.ensures, c.pool.ensures) refl)
