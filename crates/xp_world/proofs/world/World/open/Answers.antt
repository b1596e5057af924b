use Rattle.xp_world.specs.declared.world.World.{World}
use Rattle.xp_world.proofs.Worlds.{opened_reached, opened_ready}
use Rattle.xp_world.proofs.world.World.open.Goals as goal

pub returns-clause-reached : goal.returns-clause-reached
returns-clause-reached c =
    let w : World = record { words = c.in_ok-opening.field-0; nodes = c.in_ok-new_nodes.field-0 } in
    opened_reached c.args.scenario.now w c.in_ok-opening.ensures.words c.in_ok-new_nodes.ensures.nodes c.in_ok-new_nodes.ensures.count

pub returns-clause-ready : goal.returns-clause-ready
returns-clause-ready c =
    let w : World = record { words = c.in_ok-opening.field-0; nodes = c.in_ok-new_nodes.field-0 } in
    opened_ready c.args.scenario.now w c.in_ok-opening.ensures.count c.in_ok-new_nodes.ensures.nodes c.in_ok-new_nodes.ensures.count
