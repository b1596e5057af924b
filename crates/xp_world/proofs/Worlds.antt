-- A reached world that takes turns is reached.
use Rattle.std.proofs.Common.{◌≡◌, ℕ, List, [], ◌∷◌, ◌++◌, length, refl, ap, sym, ◌∙◌, subst, Option, Some, None, Result, Ok, Err, set, slice_get, inl, inr}
use Rattle.std.proofs.Math.ListN.{length-set}
use Rattle.std.specs.Result.{OnOk, OnErr}
use Rattle.std.specs.declared.alloc.AllocError.{AllocError}
use Rattle.std.proofs.lemmas.Result.{on_ok_weaker}
use Rattle.xp_base.specs.Memory.{Memory}
use Rattle.xp_base.specs.History.{Marked, Turn, Event, Turned, Legal, turns_of, IsAnswered, CanHappen, happens, after_made}
use Rattle.xp_base.proofs.HistoryLemmas.{Legal-push}
use Rattle.xp_script.specs.declared.part.ScenarioPart.{ScenarioPart}
use Rattle.xp_script.specs.declared.scenario.Scenario.{Scenario}
use Rattle.xp_script.specs.Opening.{opening}
use Rattle.xp_protocol.specs.Reached.{ReachedWords}
use Rattle.xp_node.specs.Node.{NodeView, HasMade}
use Rattle.xp_world.specs.declared.world.World.{World}
use Rattle.xp_world.specs.Turning.{TurnsOnce, StaysEnded, TakesTurn, IsSameNode}
use Rattle.xp_world.specs.World.{IsNodeOf, Reached, AreNew, IsReadyNode, IsReady, WorldTurns, IsSameWorld, StaysReached}
use Rattle.xp_world.proofs.Each.{each_after_set}
use Rattle.xp_world.proofs.Partitions.{Plays, plays_turn, plays_ended}

-- the history after a turn that was taken
happened : (m m' : Memory) (p : ℕ) (t : Turn) (made : Option Marked) → t.made ≡ made → m' ≡ after_made m made → m' ≡ happens m (Turned p t)
happened m m' p t made e w = w ∙ ap (after_made m) (sym e)

plays_of : (s : Scenario) (h : List Event) (w : World) → Reached s h w → Plays s h w.nodes.items
plays_of s h w r = record { parts = r.words.parts; runs = r.words.runs; count = r.count; nodes = r.nodes }

-- the turns that the partitions have made lead to the words of the world
pub reached_by : (s : Scenario) (h : List Event) (w : World) → Plays s h w.nodes.items → Legal (opening s) h w.words → Reached s h w
reached_by s h w k legal = record { words = record { parts = k.parts; legal = legal; runs = k.runs }; count = k.count; nodes = k.nodes }

turned : (s : Scenario) (h : List Event) (w w' : World) (p : ℕ) → Reached s h w → (t : WorldTurns w w' p) → (k : TurnsOnce w.words t.before w'.words t.after) → Reached s (h ++ Turned p k.turns.turn ∷ []) w'
turned s h w w' p r t k =
    let e = Turned p k.turns.turn in
    let g = h ++ e ∷ [] in
    let can : CanHappen w.words e = subst (IsAnswered w.words) (sym k.turns.step) k.answered in
    let words : w'.words ≡ happens w.words e = happened w.words w'.words p k.turns.turn k.made k.turns.step k.words in
    let legal = subst (λ (m : Memory). Legal (opening s) g m) (sym words) (Legal-push h e (opening s) w.words r.words.legal can) in
    reached_by s g w' (plays_turn s h w.nodes.items w'.nodes.items p t.before t.after k.made k.turns t.was t.nodes (plays_of s h w r)) legal

-- the same history where the partition has ended
stayed : (s : Scenario) (h : List Event) (w w' : World) (p : ℕ) → Reached s h w → (t : WorldTurns w w' p) → StaysEnded w.words t.before w'.words t.after → Reached s h w'
stayed s h w w' p r t k =
    reached_by s h w' (plays_ended s h w.nodes.items w'.nodes.items p t.before t.after t.was t.nodes k.node (plays_of s h w r)) (subst (λ (m : Memory). Legal (opening s) h m) (sym k.words) r.words.legal)

-- before the first turn
pub opened_reached : (s : Scenario) (w : World) → w.words ≡ opening s → AreNew s w.nodes.items → length w.nodes.items ≡ s.count → Reached s [] w
opened_reached s w words new count = record {
  words = record { parts = tt; legal = words; runs = λ p low. tt };
  count = count;
  nodes = λ p n is. (new p n is).node;
}

pub opened_ready : (s : Scenario) (w : World) → length w.words ≡ s.count → AreNew s w.nodes.items → length w.nodes.items ≡ s.count → IsReady w
opened_ready s w words new count = record {
  words = words ∙ sym count;
  nodes = λ k n is. record {
    part = ap (λ (x : ScenarioPart). x.part) (new k n is).node.part;
    count = ap (λ (x : ScenarioPart). x.count) (new k n is).node.part ∙ sym count;
    idle = (new k n is).waiting;
  };
}

-- the history of the old world, or it with the turn, reaches the new one
stays_reached : (w w' : World) (p : ℕ) → WorldTurns w w' p → StaysReached p w w'
stays_reached w w' p t s h r =
    elim t.turn [
      | inl k ↦ (h, inl refl, stayed s h w w' p r t k)
      | inr k ↦ (h ++ Turned p k.turns.turn ∷ [], inr (k.turns.turn, refl), turned s h w w' p r t k)
    ]

-- the world is ready after a turn, and after a refusal
pub record Settles (old new : NodeView) : Type 0 where
  pub part : new.part ≡ old.part
  pub waiting : new.waiting ≡ old.waiting

settles : (m : Memory) (n : NodeView) (m' : Memory) (n' : NodeView) → n.waiting ≡ None → TakesTurn m n m' n' → Settles n n'
settles m n m' n' idle t =
    elim t [
      | inl k ↦ record { part = ap (λ (x : NodeView). x.part) k.node; waiting = ap (λ (x : NodeView). x.waiting) k.node }
      | inr k ↦ record { part = k.turns.part; waiting = k.turns.waiting ∙ sym idle }
    ]

pub ready_own : (among p : ℕ) (n n' : NodeView) → Settles n n' → IsReadyNode among p n → IsReadyNode among p n'
ready_own among p n n' k r = record {
  part = ap (λ (s : ScenarioPart). s.part) k.part ∙ r.part;
  count = ap (λ (s : ScenarioPart). s.count) k.part ∙ r.count;
  idle = k.waiting ∙ r.idle;
}

ready_by : (w w' : World) (p : ℕ) (before after : NodeView) → IsReady w → length w'.words ≡ length w.words → slice_get w.nodes.items p ≡ Some before → w'.nodes.items ≡ set w.nodes.items p after → Settles before after → IsReady w'
ready_by w w' p before after r words was nodes s =
    let count : length w'.nodes.items ≡ length w.nodes.items = ap length nodes ∙ length-set w.nodes.items p after in
    let N : ℕ → List NodeView → Type 0 = λ among ns. (k : ℕ) (n : NodeView) → slice_get ns k ≡ Some n → IsReadyNode among k n in
    let each : N (length w.nodes.items) (set w.nodes.items p after) = each_after_set w.nodes.items (IsReadyNode (length w.nodes.items)) p after before was (ready_own (length w.nodes.items) p before after s (r.nodes p before was)) (λ k n ne. r.nodes k n) in
    record {
      words = words ∙ r.words ∙ sym count;
      nodes = subst (λ (among : ℕ). N among w'.nodes.items) (sym count) (subst (λ (ns : List NodeView). N (length w.nodes.items) ns) (sym nodes) each);
    }

ready_turn : (w w' : World) (p : ℕ) → IsReady w → length w'.words ≡ length w.words → WorldTurns w w' p → IsReady w'
ready_turn w w' p r words t =
    ready_by w w' p t.before t.after r words t.was t.nodes (settles w.words t.before w'.words t.after (r.nodes p t.before t.was).idle t.turn)

ready_same : (w w' : World) (p : ℕ) → IsReady w → IsSameWorld w w' p → IsReady w'
ready_same w w' p r t =
    ready_by w w' p t.before t.after r (ap length t.words) t.was t.nodes (record { part = ap (λ (x : NodeView). x.part) t.same.same; waiting = ap (λ (x : NodeView). x.waiting) t.same.same })

-- a refusal keeps the history
pub room_made : (n : NodeView) (room : ℕ) (ts : List Turn) → HasMade n ts → HasMade (record n { room = room }) ts
room_made n room ts m = record {
  runs = m.runs;
  visited = m.visited;
  state = m.state;
  visit = m.visit;
  entries = m.entries;
  records = m.records;
  steps = m.steps;
}

same_node : (s : Scenario) (h : List Event) (p : ℕ) (n n' : NodeView) → IsSameNode n n' → IsNodeOf s h p n → IsNodeOf s h p n'
same_node s h p n n' k was = subst (IsNodeOf s h p) (sym k.same) (record { part = was.part; made = room_made n n'.room (turns_of p h) was.made })

same_reached : (w w' : World) (p : ℕ) → IsSameWorld w w' p → StaysReached p w w'
same_reached w w' p t s h r =
    let N : List NodeView → Type 0 = λ ns. (k : ℕ) (n : NodeView) → slice_get ns k ≡ Some n → IsNodeOf s h k n in (
      h,
      inl refl,
      record {
        words = subst (λ (m : Memory). ReachedWords s h m) (sym t.words) r.words;
        count = ap length t.nodes ∙ length-set w.nodes.items p t.after ∙ r.count;
        nodes = subst N (sym t.nodes) (each_after_set w.nodes.items (IsNodeOf s h) p t.after t.before t.was (same_node s h p t.before t.after t.same (r.nodes p t.before t.was)) (λ k n ne. r.nodes k n));
      },
    )

-- what the call of a node's turn gives, whether it is made or refused
pub turned_on : (r : Result (Unit {0}) AllocError) (w w' : World) (p : ℕ) (before after : NodeView) → slice_get w.nodes.items p ≡ Some before → w'.nodes.items ≡ set w.nodes.items p after → OnOk r (TakesTurn w.words before w'.words after) → OnOk r (WorldTurns w w' p)
turned_on r w w' p before after was nodes ok = on_ok_weaker r (λ t. record { before = before; after = after; was = was; nodes = nodes; turn = t }) ok

pub same_on : (r : Result (Unit {0}) AllocError) (w w' : World) (p : ℕ) (before after : NodeView) → slice_get w.nodes.items p ≡ Some before → w'.nodes.items ≡ set w.nodes.items p after → OnErr r (IsSameNode before after) → OnErr r (w'.words ≡ w.words) → OnErr r (IsSameWorld w w' p)
same_on (Ok x) w w' p before after was nodes same words = tt
same_on (Err e) w w' p before after was nodes same words = record { before = before; after = after; was = was; nodes = nodes; same = same; words = words }

pub reached_on : (r : Result (Unit {0}) AllocError) (w w' : World) (p : ℕ) → OnOk r (WorldTurns w w' p) → OnErr r (IsSameWorld w w' p) → StaysReached p w w'
reached_on (Ok x) w w' p ok err = stays_reached w w' p ok
reached_on (Err e) w w' p ok err = same_reached w w' p err

pub ready_on : (r : Result (Unit {0}) AllocError) (w w' : World) (p : ℕ) → IsReady w → length w'.words ≡ length w.words → OnOk r (WorldTurns w w' p) → OnErr r (IsSameWorld w w' p) → IsReady w'
ready_on (Ok x) w w' p ready words ok err = ready_turn w w' p ready words ok
ready_on (Err e) w w' p ready words ok err = ready_same w w' p ready err
