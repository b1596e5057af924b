-- What a replay leaves: the history of its turns, whose steps its memory keeps.
use Rattle.std.proofs.Common.{◌≡◌, ℕ, List, [], ◌∷◌, ◌++◌, length, refl, ap, sym, ◌∙◌, subst, Some, None, set, slice_get, inl, inr, append_assoc, append-nil}
use Rattle.std.proofs.Math.ListN.{length-set}
use Rattle.xp_base.specs.Memory.{Memory}
use Rattle.xp_base.specs.History.{Event, Turned}
use Rattle.xp_fabric.specs.Steps.{PartStep, LegalSteps}
use Rattle.xp_script.specs.declared.scenario.Scenario.{Scenario}
use Rattle.xp_script.specs.Opening.{opening}
use Rattle.xp_protocol.specs.Reached.{Follows}
use Rattle.xp_node.specs.Node.{NodeView}
use Rattle.xp_world.specs.declared.replay.Replay.{Replay}
use Rattle.xp_world.specs.declared.world.World.{World}
use Rattle.xp_world.specs.Turning.{TakesPlain}
use Rattle.xp_world.specs.Replay.{IsReadyReplay, ReplayTurns, ReplayTakes}
use Rattle.xp_world.specs.World.{Reaches, Reached, IsReadyNode}
use Rattle.xp_world.proofs.Each.{each_after_set}
use Rattle.xp_world.proofs.Partitions.{Plays, plays_turn, plays_ended, Follows-ended, Follows-turned, has_ended, is_ended}
use Rattle.xp_world.proofs.Stepping.{steps_in, step_by, steps_in-push, legal_events}
use Rattle.xp_world.proofs.Worlds.{reached_by, Settles, ready_own}

-- the partitions have made the turns of the history, and the memory keeps their steps
pub record Keeps (s : Scenario) (h : List Event) (r : Replay) : Type 0 where
  pub plays : Plays s h r.nodes.items
  pub opening : r.memory.opening ≡ opening s
  pub steps : r.memory.history ≡ steps_in h

-- the turns of these partitions, in this order, those of ended ones left out
abbrev pub KeepsTurns : Scenario → List ℕ → Replay → Type 0
KeepsTurns s ps r = (h : List Event) × Keeps s h r × Follows s [] ps h

-- one turn more
keeps_turn : (s : Scenario) (ps : List ℕ) (r r' : Replay) (p : ℕ) → KeepsTurns s ps r → ReplayTurns r r' p → KeepsTurns s (ps ++ p ∷ []) r'
keeps_turn s ps r r' p k t =
    let h = k.0 in
    let node = k.1.plays.nodes p t.before t.was in
    let opened = t.opening ∙ k.1.opening in
    elim t.turn [
      | inl e ↦ (
        h,
        record { plays = plays_ended s h r.nodes.items r'.nodes.items p t.before t.after t.was t.nodes e.2 k.1.plays; opening = opened; steps = e.1 ∙ k.1.steps },
        Follows-ended s [] ps h p k.2 (has_ended s h p t.before node e.0),
      )
      | inr e ↦ (
        h ++ Turned p e.1.turns.turn ∷ [],
        record {
          plays = plays_turn s h r.nodes.items r'.nodes.items p t.before t.after e.1.made e.1.turns t.was t.nodes k.1.plays;
          opening = opened;
          steps = e.1.steps ∙ ap (λ (xs : List PartStep). xs ++ step_by p e.1.made) k.1.steps
              ∙ ap (λ made. steps_in h ++ step_by p made) (sym e.1.turns.step) ∙ sym (steps_in-push h p e.1.turns.turn);
        },
        Follows-turned s [] ps h p e.1.turns.turn k.2 (λ x. e.0 (is_ended s h p t.before node x)),
      )
    ]

pub keeps_turns : (s : Scenario) (before ps : List ℕ) (r r' : Replay) → KeepsTurns s before r → ReplayTakes ps r r' → KeepsTurns s (before ++ ps) r'
keeps_turns s before [] r r' k t =
    let P : Replay → Type 0 = λ x. KeepsTurns s (before ++ []) x in
    let Q : List ℕ → Type 0 = λ qs. KeepsTurns s qs r in
    subst P (sym t) (subst Q (sym (append-nil before)) k)
keeps_turns s before (p ∷ ps) r r' k t =
    let Q : List ℕ → Type 0 = λ qs. KeepsTurns s qs r' in
    subst Q (append_assoc before (p ∷ []) ps) (keeps_turns s (before ++ p ∷ []) ps t.0 r' (keeps_turn s before r t.0 p k t.1) t.2)

-- before the first turn
pub keeps_none : (s : Scenario) (r : Replay) (w : World) → Reached s [] w → w.nodes ≡ r.nodes → w.words ≡ r.memory.opening → r.memory.history ≡ [] → KeepsTurns s [] r
keeps_none s r w reached nodes words none =
    let ns = ap (λ v. v.items) nodes in (
      [],
      record {
        plays = subst (Plays s []) ns (record { parts = reached.words.parts; runs = reached.words.runs; count = reached.count; nodes = reached.nodes });
        opening = sym words ∙ reached.words.legal;
        steps = none;
      },
      refl,
    )

-- the words that the memory leaves are those of a reached world
pub replay_reaches : (s : Scenario) (ps : List ℕ) (r : Replay) (w : World) → w.nodes ≡ r.nodes → KeepsTurns s ps r → LegalSteps r.memory.opening r.memory.history w.words → Reaches s ps w
replay_reaches s ps r w nodes k legal =
    let h = k.0 in
    let plays = subst (Plays s h) (sym (ap (λ v. v.items) nodes)) k.1.plays in
    let steps : LegalSteps (opening s) (steps_in h) w.words =
    subst (λ (xs : List PartStep). LegalSteps (opening s) xs w.words) k.1.steps (subst (λ (m : Memory). LegalSteps m r.memory.history w.words) k.1.opening legal) in
    (h, reached_by s h w plays (legal_events s.count h (opening s) w.words plays.parts steps), k.2)

-- turns one after the other
pub ReplayTakes-append : (ps qs : List ℕ) (a b c : Replay) → ReplayTakes ps a b → ReplayTakes qs b c → ReplayTakes (ps ++ qs) a c
ReplayTakes-append [] qs a b c t u = let P : Replay → Type 0 = λ x. ReplayTakes qs x c in subst P t u
ReplayTakes-append (p ∷ ps) qs a b c t u = (t.0, t.1, ReplayTakes-append ps qs t.0 b c t.2 u)

pub ReplayTakes-push : (ps : List ℕ) (p : ℕ) (a b c : Replay) → ReplayTakes ps a b → ReplayTurns b c p → ReplayTakes (ps ++ p ∷ []) a c
ReplayTakes-push ps p a b c t u = ReplayTakes-append ps (p ∷ []) a b c t (c, u, refl)

-- a replay is ready after a turn
settles_plain : (p : ℕ) (n n' : NodeView) (xs ys : List PartStep) → n.waiting ≡ None → TakesPlain p n xs n' ys → Settles n n'
settles_plain p n n' xs ys idle t =
    elim t [
      | inl k ↦ record { part = ap (λ (x : NodeView). x.part) k.2; waiting = ap (λ (x : NodeView). x.waiting) k.2 }
      | inr k ↦ record { part = k.1.turns.part; waiting = k.1.turns.waiting ∙ sym idle }
    ]

pub ready_replay : (r r' : Replay) (p : ℕ) → r'.count ≡ r.count → IsReadyReplay r → ReplayTurns r r' p → IsReadyReplay r'
ready_replay r r' p same ready t =
    let alike : length r'.nodes.items ≡ length r.nodes.items = ap length t.nodes ∙ length-set r.nodes.items p t.after in
    let N : ℕ → List NodeView → Type 0 = λ among ns. (k : ℕ) (n : NodeView) → slice_get ns k ≡ Some n → IsReadyNode among k n in
    let was = ready.nodes p t.before t.was in
    let own = ready_own (length r.nodes.items) p t.before t.after (settles_plain p t.before t.after r.memory.history r'.memory.history was.idle t.turn) was in
    let each : N (length r.nodes.items) (set r.nodes.items p t.after) = each_after_set r.nodes.items (IsReadyNode (length r.nodes.items)) p t.after t.before t.was own (λ k n ne. ready.nodes k n) in
    record {
      count = same ∙ ready.count ∙ sym alike;
      words = ap length t.opening ∙ ready.words ∙ sym alike;
      nodes = subst (λ (among : ℕ). N among r'.nodes.items) (sym alike) (subst (λ (ns : List NodeView). N (length r.nodes.items) ns) (sym t.nodes) each);
    }
