use Rattle.std.proofs.Common.{refl}
use Rattle.xp_partition.specs.declared.partition.Partition.{Partition}
use Rattle.xp_node.proofs.Making.{makes_by}
use Rattle.xp_node.proofs.turn.make_step.Goals as goal

pub returns-clause-makes : goal.returns-clause-makes
returns-clause-makes c =
    let old = c.args.partition.now in
    let new : Partition = record { keeping = c.step.new.keeping; planner = old.planner } in
    let w = c.args.waiting.now in
    let x = c.step.ensures in
    let r = c.requires in
    makes_by old new w.rule w.wanted c.args.answer r.partition r.can r.wanted r.planned x.state x.records x.part x.kept x.roomy refl
