-- From the steps of all ports to the turns of all partitions: one history leads to the world.
use Rattle.std.proofs.Common.{◌≡◌, ◌⊎◌, ℕ, suc, ◌<◌, ◌≤◌, Bool, cond, eqb, List, [], ◌∷◌, ◌++◌, map, length, Option, Some, None, refl, ap, sym, subst, ◌∙◌, inl, inr, arith}
use native.Mathlib.Decide.{dec_le}
use Rattle.std.specs.Prelude.{slice_get}
use Rattle.std.specs.List.{cons_option, filter_map}
use Rattle.std.proofs.lemmas.Option.{slice_get_within, same_Some}
use Rattle.xp_base.specs.declared.step.Step.{Step}
use Rattle.xp_base.specs.Memory.{Memory}
use Rattle.xp_base.specs.History.{Marked, Turn, Event, Turned, Legal, turns_of}
use Rattle.xp_fabric.specs.declared.part_item.PartItem.{PartItem}
use Rattle.xp_fabric.specs.Steps.{PartStep, LegalSteps, PartsBelow, items_of}
use Rattle.xp_fabric.specs.Views.{SharedView, PassView}
use Rattle.xp_fabric.specs.Passes.{Merges}
use Rattle.xp_fabric.proofs.Weaving.{cons_item, filter_map_items, weave}
use Rattle.xp_script.specs.declared.part.ScenarioPart.{ScenarioPart}
use Rattle.xp_script.specs.declared.scenario.Scenario.{Scenario}
use Rattle.xp_script.specs.Parts.{part_of}
use Rattle.xp_script.specs.Opening.{opening}
use Rattle.xp_protocol.specs.Reached.{AreTurnsOf, HasEnded}
use Rattle.xp_protocol.specs.Runs.{start, state_after, Runs}
use Rattle.xp_protocol.specs.State.{State}
use Rattle.xp_node.specs.Node.{NodeView, HasMade, steps_made, steps_of}
use Rattle.xp_world.specs.declared.world.World.{World}
use Rattle.xp_world.specs.World.{IsNodeOf, Reached, IsReadyNode, IsReady}
use Rattle.xp_world.proofs.Partitions.{Plays, has_ended}
use Rattle.xp_world.proofs.Stepping.{step_by, steps_in, legal_events}
use Rattle.xp_world.proofs.Worlds.{reached_by}
use Rattle.xp_threads.specs.Working.{IsFinished, IsWithin}
use Rattle.xp_threads.specs.Jobs.{IsReadyToRun, AreReady, IsDone, AreDone}
use Rattle.xp_threads.specs.Running.{Finished}
use Rattle.xp_threads.proofs.Counting.{start_counts, all_counted}
use Rattle.xp_threads.proofs.Places.{there}

-- ---- the history of turns of which the steps are seen
step_in : Option Marked → Option Step
step_in None = None
step_in (Some x) = Some x.step

abbrev step_seen : Turn → Option Step
step_seen t = step_in t.made

seen_made : (o : Option Marked) (ss : List Step) → cons_option (step_in o) ss ≡ steps_made o ++ ss
unfolding step_in
seen_made None ss = refl
seen_made (Some x) ss = refl

seen_steps : (ts : List Turn) → filter_map step_seen ts ≡ steps_of ts
seen_steps [] = refl
seen_steps (t ∷ ts) = seen_made t.made (filter_map step_seen ts) ∙ ap (λ (l : List Step). steps_made t.made ++ l) (seen_steps ts)

-- the events that some partitions' turns are
abbrev pub turned : List (PartItem Turn) → List Event
turned [] = []
turned (x ∷ xs) = Turned x.part x.item ∷ turned xs

turns_are : (p : ℕ) (xs : List (PartItem Turn)) → turns_of p (turned xs) ≡ items_of p xs
turns_are p [] = refl
turns_are p (x ∷ xs) = ap (λ (l : List Turn). cond (eqb x.part p) (x.item ∷ l) l) (turns_are p xs)

parts_are : (n : ℕ) (xs : List (PartItem Turn)) → PartsBelow n xs → AreTurnsOf n (turned xs)
parts_are n [] h = tt
parts_are n (x ∷ xs) h = (h.0, parts_are n xs h.1)

step_is : (p : ℕ) (o : Option Marked) (xs ys : List PartStep) → xs ≡ ys → step_by p o ++ xs ≡ cons_item p (step_in o) ys
unfolding step_in
step_is p None xs ys e = e
step_is p (Some x) xs ys e = ap (λ (l : List PartStep). record { part = p; item = x.step } ∷ l) e

steps_are : (xs : List (PartItem Turn)) → steps_in (turned xs) ≡ filter_map_items step_seen xs
steps_are [] = refl
steps_are (x ∷ xs) = step_is x.part x.item.made (steps_in (turned xs)) (filter_map_items step_seen xs) (steps_are xs)

-- ---- each partition's turns
-- the turns of partition k, with its node and its pass
record Played (s : Scenario) (news : List NodeView) (ps : List PassView) (k : ℕ) (ts : List Turn) : Type 0 where
  node : NodeView
  is : slice_get news k ≡ Some node
  pass : PassView
  at : slice_get ps k ≡ Some pass
  part : node.part ≡ part_of s k
  made : HasMade node ts
  steps : pass.history ≡ steps_of ts
  idle : node.waiting ≡ None
  finished : IsFinished node
  within : IsWithin node

-- nothing was done before
abbrev pub AreFirst : Scenario → List NodeView → Type 0
AreFirst s olds = (k : ℕ) (n : NodeView) → slice_get olds k ≡ Some n → IsNodeOf s [] k n

played : (s : Scenario) (m : SharedView) (olds news : List NodeView) (ps : List PassView) (k : ℕ) → AreFirst s olds → AreDone m olds news ps
    → k < length olds → k < length news → k < length ps → (ts : List Turn) × Played s news ps k ts
played s m olds news ps k first done a b c =
    let old = there olds k a in
    let new = there news k b in
    let pass = there ps k c in
    let d = done k old.0 new.0 pass.0 old.1 new.1 pass.1 in
    let was = first k old.0 old.1 in
    let w = d.works in (
      w.turns,
      record {
        node = new.0;
        is = new.1;
        pass = pass.0;
        at = pass.1;
        part = w.part ∙ was.part;
        made = w.runs [] was.made;
        steps = w.steps;
        idle = w.idle;
        finished = d.finished;
        within = d.within;
      },
    )

-- turns for each number, which are those of a partition where there is one
choose : (Q : ℕ → List Turn → Type 0) (n k : ℕ) → (k < n → (ts : List Turn) × Q k ts) → (ts : List Turn) × (k < n → Q k ts)
choose Q n k some = by (dec_le (suc k) n)
  where
    by : Dec (suc k ≤ n) → (ts : List Turn) × (k < n → Q k ts)
    by (yes low) = let f = some (omega (arith, low)) in (f.0, λ same. f.1)
    by (no high) = ([], λ low. absurd (high (omega (arith, low))))

finished_in : (s : Scenario) (h : List Event) (p : ℕ) (n : NodeView) → IsNodeOf s h p n → IsFinished n → HasEnded s p h ⊎ (length (turns_of p h) ≡ s.budget)
finished_in s h p n k f =
    elim f [
      | inl e ↦ inl (has_ended s h p n k e)
      | inr e ↦ inr (sym (all_counted n.part (turns_of p h)) ∙ (ap (λ (st : State). st.clock.turns) (sym k.made.state) ∙ (e ∙ ap (λ (a : ScenarioPart). a.budget) k.part)))
    ]

within_in : (s : Scenario) (h : List Event) (p : ℕ) (n : NodeView) → IsNodeOf s h p n → IsWithin n → length (turns_of p h) ≤ s.budget
within_in s h p n k f =
    let turns = ap (λ (st : State). st.clock.turns) k.made.state ∙ all_counted n.part (turns_of p h) in
    let budget = ap (λ (a : ScenarioPart). a.budget) k.part in
    omega (arith, f, turns, budget)

-- what the passes' histories are merged into, with the turns that made their steps
pub record Ended (s : Scenario) (w : World) : Type 0 where
  pub history : List Event
  pub reached : Reached s history w
  pub finished : Finished s history
  pub idle : (k : ℕ) (n : NodeView) → slice_get w.nodes.items k ≡ Some n → n.waiting ≡ None

pub ended : (s : Scenario) (m : SharedView) (olds : List NodeView) (ps : List PassView) (w : World) → m.opening ≡ opening s → length m.opening ≡ s.count
    → length olds ≡ length m.opening → length w.nodes.items ≡ length m.opening → length ps ≡ length m.opening
    → AreFirst s olds → AreDone m olds w.nodes.items ps → Merges m.opening ps w.words → Ended s w
ended s m olds ps w opened count a b c first done merged =
    let n = s.count in
    let news = w.nodes.items in
    let Q : ℕ → List Turn → Type 0 = Played s news ps in
    let all : (k : ℕ) → (ts : List Turn) × (k < n → Q k ts) = λ k. choose Q n k (λ low. played s m olds news ps k first done (omega (arith, low, a, count)) (omega (arith, low, b, count)) (omega (arith, low, c, count))) in
    let hs : ℕ → List Turn = λ k. (all k).0 in
    let same : length ps ≡ n = c ∙ count in
    let below : PartsBelow n merged.history = subst (λ (i : ℕ). PartsBelow i merged.history) same merged.below in
    let woven = weave step_seen n merged.history hs below (λ k low.
    let q = (all k).1 low in
    merged.parts k q.pass q.at ∙ (q.steps ∙ sym (seen_steps (hs k)))) in
    let h = turned woven.woven in
    let turns : (k : ℕ) → k < n → turns_of k h ≡ hs k = λ k low. turns_are k woven.woven ∙ woven.parts k low in
    let nodes : (k : ℕ) (x : NodeView) → slice_get news k ≡ Some x → IsNodeOf s h k x = λ k x e.
    (let within = slice_get_within news k x e in
    let low : k < n = omega (arith, within, b, count) in
    let q = (all k).1 low in
    subst (IsNodeOf s h k) (same_Some q.node x (sym q.is ∙ e)) (record { part = q.part; made = subst (HasMade q.node) (sym (turns k low)) q.made })) in
    let runs : (k : ℕ) → k < n → Runs (part_of s k) (turns_of k h) = λ k low.
    (let q = (all k).1 low in
    subst (λ (ts : List Turn). Runs (part_of s k) ts) (sym (turns k low)) (subst (λ (p : ScenarioPart). Runs p (hs k)) q.part q.made.runs)) in
    let parts : AreTurnsOf n h = parts_are n woven.woven woven.below in
    let plays : Plays s h news = record { parts = parts; runs = runs; count = b ∙ count; nodes = nodes } in
    let steps : LegalSteps (opening s) (steps_in h) w.words =
    subst (λ (xs : List PartStep). LegalSteps (opening s) xs w.words) (sym (steps_are woven.woven ∙ woven.shows)) (subst (λ (o : Memory). LegalSteps o merged.history w.words) opened merged.legal) in
    record {
      history = h;
      reached = reached_by s h w plays (legal_events n h (opening s) w.words parts steps);
      finished = record {
        ended = λ k low. (let q = (all k).1 low in finished_in s h k q.node (nodes k q.node q.is) q.finished);
        within = λ k low. (let q = (all k).1 low in within_in s h k q.node (nodes k q.node q.is) q.within);
      };
      idle = λ k x e.
          (let within = slice_get_within news k x e in
          let low : k < n = omega (arith, within, b, count) in
          let q = (all k).1 low in
          ap (λ (y : NodeView). y.waiting) (sym (same_Some q.node x (sym q.is ∙ e))) ∙ q.idle);
    }

-- ---- before the threads
pub first_ready : (s : Scenario) (w : World) (among : ℕ) → among ≡ length w.nodes.items → Reached s [] w → IsReady w → AreReady among w.nodes.items
first_ready s w among e reached ready k n is =
    let node = reached.nodes k n is in
    let turns : n.state.clock.turns ≡ 0 = ap (λ (st : State). st.clock.turns) node.made.state ∙ start_counts n.part in
    record {
      ready = subst (λ (i : ℕ). IsReadyNode i k n) (sym e) (ready.nodes k n is);
      budget = omega (arith, turns);
    }

-- a world whose partitions have ended is ready for more turns
pub ended_ready : (s : Scenario) (w : World) → length w.words ≡ s.count → Ended s w → IsReady w
ended_ready s w words h =
    let count = h.reached.count in
    record {
      words = words ∙ sym count;
      nodes = λ k n is.
          (let node = h.reached.nodes k n is in record {
            part = ap (λ (p : ScenarioPart). p.part) node.part;
            count = ap (λ (p : ScenarioPart). p.count) node.part ∙ sym count;
            idle = h.idle k n is;
          });
    }
