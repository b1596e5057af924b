use Rattle.std.proofs.Common.{◌-◌, arith}
use Rattle.xp_node.proofs.Listed.{last_set}
use Rattle.xp_node.proofs.journal.answer_last.Goals as goal

pub returns-then-count-gt0 : goal.returns-then-count-gt0
returns-then-count-gt0 c =
    last_set c.args.log.now.items (c.len-count.result - 1) c.index_mut-entry.result.now c.args.answer
    (omega (arith, c.len-count.ensures, c.if-count-gt0.true)) c.index_mut-entry.ensures.value
