use Rattle.std.proofs.Common.{◌≡◌, ◌<◌, ℕ, sym, ap, subst, ◌∙◌, length}
use Rattle.std.proofs.lemmas.Option.{slice_get_within}
use Rattle.xp_base.specs.Memory.{Memory}
use Rattle.xp_world.specs.declared.world.World.{World}
use Rattle.xp_fabric.specs.Passes.{Merges}
use Rattle.xp_world.proofs.Promising.{promised}
use Rattle.xp_threads.specs.Jobs.{AreReady}
use Rattle.xp_threads.proofs.Places.{there}
use Rattle.xp_threads.proofs.Running.{Ended, ended, first_ready, ended_ready}
use Rattle.xp_threads.proofs.run.run_threads.Goals as goal

pub run_nodes-requires-clause-nodes : goal.run_nodes-requires-clause-nodes
run_nodes-requires-clause-nodes g c κs within =
    let w = c.in_ok-words.field-0 in
    let among : length c.in_ok-memory.memory.opening ≡ length w.nodes.items = ap length c.in_ok-memory.ensures.opening ∙ c.in_ok-words.ensures.ready.words in
    first_ready c.args.scenario.now w (length c.in_ok-memory.memory.opening) among c.in_ok-words.ensures.reached c.in_ok-words.ensures.ready

pub close-requires-clause-passes : goal.close-requires-clause-passes
close-requires-clause-passes g c =
    let parts = c.in_ok-nodes.ensures in
    let olds = c.in_ok-words.field-0.nodes.items in
    let news = c.in_ok-nodes.nodes.items in
    let ps = c.in_ok-nodes.passes.items in
    let among : length c.in_ok-memory.memory.opening ≡ length olds = ap length c.in_ok-memory.ensures.opening ∙ c.in_ok-words.ensures.ready.words in
    record {
      count = parts.passes;
      each = λ k p is.
          (let low : k < length c.in_ok-memory.memory.opening = subst (λ (n : ℕ). k < n) parts.passes (slice_get_within ps k p is) in
          let old = there olds k (subst (λ (n : ℕ). k < n) among low) in
          let new = there news k (subst (λ (n : ℕ). k < n) (sym parts.nodes) low) in
          (parts.done k old.0 new.0 p old.1 new.1 is).pass);
    }

pub returns : goal.returns
returns g c =
    let s = c.args.scenario.now in
    let opened = c.in_ok-words.field-0 in
    let reached = c.in_ok-words.ensures.reached in
    let m = c.in_ok-memory.memory in
    let parts = c.in_ok-nodes.ensures in
    let world : World = record { words = c.close.new.into; nodes = c.in_ok-nodes.nodes } in
    let words = c.in_ok-memory.ensures.opening in
    let count : length m.opening ≡ s.count = ap length words ∙ (c.in_ok-words.ensures.ready.words ∙ reached.count) in
    let e : Ended s world = ended s m opened.nodes.items c.in_ok-nodes.passes.items world (words ∙ reached.words.legal) count (reached.count ∙ sym count) parts.nodes parts.passes reached.nodes parts.done c.close.ensures.merged in
    record {
      ran = record {
        history = e.history;
        reached = e.reached;
        finished = e.finished;
        promised = promised c.all_promised.ensures c.visits_serve.ensures s e.history world c.requires e.reached;
      };
      ready = ended_ready s world (c.close.ensures.count ∙ (ap length (sym words) ∙ count)) e;
    }
