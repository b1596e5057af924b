use Rattle.std.proofs.Common.{◌≡◌, ℕ, length, set, refl, ap, sym, ◌∙◌}
use Rattle.std.specs.Vec.{with_item}
use Rattle.std.proofs.lemmas.Option.{slice_get_read}
use Rattle.xp_world.specs.declared.world.World.{World}
use Rattle.xp_world.specs.World.{StaysReached}
use Rattle.xp_world.proofs.Promising.{stays_promised}
use Rattle.xp_world.proofs.Worlds.{turned_on, same_on, reached_on, ready_on}
use Rattle.xp_world.proofs.world.World.turn.Goals as goal

pub turn_node-requires-clause-part : goal.turn_node-requires-clause-part
turn_node-requires-clause-part c =
    let w = c.args.self.now in
    let p = c.args.part in
    let before = c.index_mut.result.now in
    let value = rw c.get.ensures.value at c.index_mut.ensures.value in
    let was = slice_get_read w.nodes.items (length w.nodes.items) p before refl c.requires.part value in
    (c.requires.ready.nodes p before was).part

pub turn_node-requires-clause-count : goal.turn_node-requires-clause-count
turn_node-requires-clause-count c =
    let w = c.args.self.now in
    let p = c.args.part in
    let before = c.index_mut.result.now in
    let value = rw c.get.ensures.value at c.index_mut.ensures.value in
    let was = slice_get_read w.nodes.items (length w.nodes.items) p before refl c.requires.part value in
    (c.requires.ready.nodes p before was).count ∙ sym c.requires.ready.words

pub turn_node-requires-clause-idle : goal.turn_node-requires-clause-idle
turn_node-requires-clause-idle c =
    let w = c.args.self.now in
    let p = c.args.part in
    let before = c.index_mut.result.now in
    let value = rw c.get.ensures.value at c.index_mut.ensures.value in
    let was = slice_get_read w.nodes.items (length w.nodes.items) p before refl c.requires.part value in
    (c.requires.ready.nodes p before was).idle

pub returns-clause-ok : goal.returns-clause-ok
returns-clause-ok c =
    let w = c.args.self.now in
    let r = c.turn_node.result in
    let p = c.args.part in
    let before = c.index_mut.result.now in
    let after = c.turn_node.new.node in
    let w' : World = record { words = c.turn_node.new.words; nodes = with_item w.nodes c.get.result after } in
    let value = rw c.get.ensures.value at c.index_mut.ensures.value in
    let was = slice_get_read w.nodes.items (length w.nodes.items) p before refl c.requires.part value in
    let nodes : w'.nodes.items ≡ set w.nodes.items p after = ap (λ (i : ℕ). set w.nodes.items i after) c.get.ensures.value in
    turned_on r w w' p before after was nodes c.turn_node.ensures.ok

pub returns-clause-err : goal.returns-clause-err
returns-clause-err c =
    let w = c.args.self.now in
    let r = c.turn_node.result in
    let p = c.args.part in
    let before = c.index_mut.result.now in
    let after = c.turn_node.new.node in
    let w' : World = record { words = c.turn_node.new.words; nodes = with_item w.nodes c.get.result after } in
    let value = rw c.get.ensures.value at c.index_mut.ensures.value in
    let was = slice_get_read w.nodes.items (length w.nodes.items) p before refl c.requires.part value in
    let nodes : w'.nodes.items ≡ set w.nodes.items p after = ap (λ (i : ℕ). set w.nodes.items i after) c.get.ensures.value in
    same_on r w w' p before after was nodes c.turn_node.ensures.err c.turn_node.ensures.err_words

pub returns-clause-reached : goal.returns-clause-reached
returns-clause-reached c =
    let w = c.args.self.now in
    let r = c.turn_node.result in
    let p = c.args.part in
    let before = c.index_mut.result.now in
    let after = c.turn_node.new.node in
    let w' : World = record { words = c.turn_node.new.words; nodes = with_item w.nodes c.get.result after } in
    let value = rw c.get.ensures.value at c.index_mut.ensures.value in
    let was = slice_get_read w.nodes.items (length w.nodes.items) p before refl c.requires.part value in
    let nodes : w'.nodes.items ≡ set w.nodes.items p after = ap (λ (i : ℕ). set w.nodes.items i after) c.get.ensures.value in
    reached_on r w w' p (turned_on r w w' p before after was nodes c.turn_node.ensures.ok) (same_on r w w' p before after was nodes c.turn_node.ensures.err c.turn_node.ensures.err_words)

pub returns-clause-promised : goal.returns-clause-promised
returns-clause-promised c =
    let w = c.args.self.now in
    let r = c.turn_node.result in
    let p = c.args.part in
    let before = c.index_mut.result.now in
    let after = c.turn_node.new.node in
    let w' : World = record { words = c.turn_node.new.words; nodes = with_item w.nodes c.get.result after } in
    let value = rw c.get.ensures.value at c.index_mut.ensures.value in
    let was = slice_get_read w.nodes.items (length w.nodes.items) p before refl c.requires.part value in
    let nodes : w'.nodes.items ≡ set w.nodes.items p after = ap (λ (i : ℕ). set w.nodes.items i after) c.get.ensures.value in
    let stays : StaysReached p w w' = reached_on r w w' p (turned_on r w w' p before after was nodes c.turn_node.ensures.ok) (same_on r w w' p before after was nodes c.turn_node.ensures.err c.turn_node.ensures.err_words) in
    stays_promised c.all_promised.ensures c.visits_serve.ensures p w w' stays

pub returns-clause-ready : goal.returns-clause-ready
returns-clause-ready c =
    let w = c.args.self.now in
    let r = c.turn_node.result in
    let p = c.args.part in
    let before = c.index_mut.result.now in
    let after = c.turn_node.new.node in
    let w' : World = record { words = c.turn_node.new.words; nodes = with_item w.nodes c.get.result after } in
    let value = rw c.get.ensures.value at c.index_mut.ensures.value in
    let was = slice_get_read w.nodes.items (length w.nodes.items) p before refl c.requires.part value in
    let nodes : w'.nodes.items ≡ set w.nodes.items p after = ap (λ (i : ℕ). set w.nodes.items i after) c.get.ensures.value in
    ready_on r w w' p c.requires.ready c.turn_node.ensures.count (turned_on r w w' p before after was nodes c.turn_node.ensures.ok) (same_on r w w' p before after was nodes c.turn_node.ensures.err c.turn_node.ensures.err_words)
