use Rattle.std.proofs.Common.{◌∙◌, subst}
use Rattle.xp_base.specs.Memory.{Memory}
use Rattle.xp_fabric.specs.Steps.{LegalSteps}
use Rattle.xp_world.proofs.Turned.{closed}
use Rattle.xp_world.proofs.turning.turn_node.Goals as goal

pub returns-clause-ok : goal.returns-clause-ok
returns-clause-ok c =
    let opened = c.in_ok-memory.memory in
    let turned = c.take_turn.new.memory in
    let into = c.close.new.into in
    let legal = subst (λ (m : Memory). LegalSteps m turned.history into) (c.take_turn.ensures.opening ∙ c.in_ok-memory.ensures.opening) c.close.ensures.legal in
    closed c.args.part c.args.words.now into c.args.node.now c.take_turn.new.node opened.history turned.history c.in_ok-memory.ensures.history c.in_ok-take_turn.ensures.ok legal
