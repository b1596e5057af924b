use Rattle.xp_node.proofs.Ending.{told_by, noticed_counts}
use Rattle.xp_node.proofs.turn.tell.Goals as goal

pub answer-requires-clause-counts : goal.answer-requires-clause-counts
answer-requires-clause-counts c = noticed_counts c.args.keeping.now c.notice.new.keeping c.requires c.notice.ensures.gives

pub returns-clause-told : goal.returns-clause-told
returns-clause-told c =
    let x = c.answer.ensures in
    told_by c.args.keeping.now c.notice.new.keeping c.answer.new.keeping c.answer.result c.requires
    c.notice.ensures.gives c.notice.ensures.noticed x.value x.down x.some x.none
