use Rattle.std.proofs.Common.{ap}
use Rattle.xp_fabric.specs.Views.{PassView}
use Rattle.xp_threads.proofs.Works.{goes_on}
use Rattle.xp_threads.proofs.worker.worker.Goals as goal

pub loop-turn-preserved : goal.loop-turn-preserved
loop-turn-preserved g c =
    let h = c.loop-turn.invariant in
    let n = c.reserve_turn.new.self in
    let p = c.reserve.new.self in
    let q = c.turn_over.new.port in
    let history = ap (λ (x : PassView). x.history) c.reserve.ensures.same in
    let part = ap (λ (x : PassView). x.part) c.reserve.ensures.same in
    let memory = ap (λ (b : _). b.now) c.reserve.ensures.memory in
    goes_on c.args.node.now c.loop-turn.node n c.turn_over.new.node c.args.port.now.pass.history c.loop-turn.port.pass.history p.pass.history q.pass.history
    c.args.port.now.pass.part c.loop-turn.port.pass.part p.pass.part q.pass.part c.loop-turn.turn
    c.args.port.now.memory.now c.loop-turn.port.memory.now p.memory.now q.memory.now
    h c.reserve_turn.ensures.same c.reserve_turn.ensures.room history part memory c.turn_over.ensures.turns c.turn_over.ensures.partition c.turn_over.ensures.opening
