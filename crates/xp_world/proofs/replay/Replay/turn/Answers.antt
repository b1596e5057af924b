use Rattle.std.proofs.Common.{◌≡◌, ℕ, length, set, refl, ap}
use Rattle.std.specs.Vec.{with_item}
use Rattle.std.proofs.lemmas.Option.{slice_get_read}
use Rattle.std.proofs.lemmas.Result.{on_ok_weaker}
use Rattle.xp_world.specs.declared.replay.Replay.{Replay}
use Rattle.xp_world.proofs.Replays.{ready_replay}
use Rattle.xp_world.proofs.replay.Replay.turn.Goals as goal

pub returns-clause-ready : goal.returns-clause-ready
returns-clause-ready c =
    let old = c.args.self.now in
    let p = c.args.part in
    let before = c.index_mut.result.now in
    let after = c.take_turn.new.node in
    let new : Replay = record { count = old.count; memory = c.take_turn.new.memory; nodes = with_item old.nodes c.get.result after } in
    let value = rw c.get.ensures.value at c.index_mut.ensures.value in
    let was = slice_get_read old.nodes.items (length old.nodes.items) p before refl c.requires.part value in
    let nodes : new.nodes.items ≡ set old.nodes.items p after = ap (λ (i : ℕ). set old.nodes.items i after) c.get.ensures.value in
    on_ok_weaker c.take_turn.result (λ t. ready_replay old new p refl c.requires.ready (record { before = before; after = after; was = was; nodes = nodes; turn = t; opening = c.take_turn.ensures.opening })) c.take_turn.ensures.ok
