use Rattle.std.proofs.Common.{refl, false, None}
use Rattle.xp_node.specs.declared.node.Node.TheInside.{Inside}
use Rattle.xp_node.proofs.Shown.{opened, opened_stands}
use Rattle.xp_node.proofs.node.Node.open.Goals as goal

pub invariant_of-result : goal.invariant_of-result
invariant_of-result c =
    let n : Inside = record { partition = c.moment.new.self; journal = c.new.result; waiting = None; before = c.of-before.result; ended = c.has_ended-ended.result; ready = false } in
    let x = c.in_ok-partition.ensures in
    let y = c.moment.ensures in
    opened_stands n c.in_ok-partition.partition c.args.part refl c.requires.lawful c.requires.few
    x.state x.part y.state y.part y.partition c.has_ended-ended.ensures refl

pub returns-clause-made : goal.returns-clause-made
returns-clause-made c =
    let n : Inside = record { partition = c.moment.new.self; journal = c.new.result; waiting = None; before = c.of-before.result; ended = c.has_ended-ended.result; ready = false } in
    let x = c.in_ok-partition.ensures in
    let y = c.moment.ensures in
    opened n c.in_ok-partition.partition c.args.part refl c.requires.lawful x.state x.visit x.records x.part
    y.state y.visit y.records y.part c.new.ensures.entries c.new.ensures.steps
