use Rattle.std.proofs.Common.{refl}
use Rattle.xp_partition.specs.declared.partition.Partition.{Partition}
use Rattle.xp_node.proofs.Ending.{ends_by}
use Rattle.xp_node.proofs.turn.end_turn.Goals as goal

pub returns : goal.returns
returns c =
    let old = c.args.partition.now in
    let mid : Partition = record { keeping = c.tell-answer.new.keeping; planner = old.planner } in
    let x = c.count.ensures in
    let y = c.moment.ensures in
    ends_by old mid c.count.new.partition c.moment.new.self c.args.earlier c.tell-answer.result c.tell-answer.ensures.told refl
    x.state x.records x.part x.visit y.state (λ q k low few. y.records q k low) y.part y.visit y.partition
