-- The partitions of a scenario with the turns of a history, and one turn more.
use Rattle.std.proofs.Common.{◌≡◌, ℕ, ◌<◌, List, [], ◌∷◌, ◌++◌, length, Bool, cond, refl, ap, sym, ◌∙◌, subst, arith, Option, Some, set, slice_get, inl, inr, ◌⊎◌, append_assoc, append-nil}
use Rattle.std.proofs.Math.ListN.{length-set}
use Rattle.std.proofs.lemmas.Option.{slice_get_within}
use Rattle.std.proofs.lemmas.Bool.{eq-eqb, ne_eqb, cases_eq}
use Rattle.xp_base.specs.History.{Marked, Turn, Event, Poked, Turned, turns_of}
use Rattle.xp_base.proofs.HistoryLemmas.{turns_of-append}
use Rattle.xp_script.specs.declared.part.ScenarioPart.{ScenarioPart}
use Rattle.xp_script.specs.declared.scenario.Scenario.{Scenario}
use Rattle.xp_script.specs.Parts.{part_of}
use Rattle.xp_protocol.specs.State.{State}
use Rattle.xp_protocol.specs.Runs.{start, Runs, IsDone, state_after}
use Rattle.xp_protocol.specs.Reached.{AreTurnsOf, HasEnded, Follows}
use Rattle.xp_node.specs.Node.{NodeView, IsEnded, MakesTurn, HasMade}
use Rattle.xp_node.proofs.Histories.{made_more}
use Rattle.xp_world.specs.World.{IsNodeOf}
use Rattle.xp_world.proofs.Each.{each_after_set, set_same}

-- a partition that has ended is left out
pub Follows-ended : (s : Scenario) (done : List Event) (ps : List ℕ) (h : List Event) (p : ℕ) → Follows s done ps h → HasEnded s p (done ++ h) → Follows s done (ps ++ p ∷ []) h
Follows-ended s done [] [] p f e = let P : List Event → Type 0 = λ g. HasEnded s p g in (subst P (append-nil done) e, refl)
Follows-ended s done [] (x ∷ h) p f e = absurd (cc)
Follows-ended s done (q ∷ ps) [] p f e = (f.0, Follows-ended s done ps [] p f.1 e)
Follows-ended s done (q ∷ ps) (x ∷ h) p f e =
    let P : List Event → Type 0 = λ g. HasEnded s p g in
    elim f [
      | inl a ↦ inl (a.0, Follows-ended s done ps (x ∷ h) p a.1 e)
      | inr a ↦ inr (a.0, a.1, Follows-ended s (done ++ x ∷ []) ps h p a.2 (subst P (sym (append_assoc done (x ∷ []) h)) e))
    ]

-- a partition that hasn't takes its turn
pub Follows-turned : (s : Scenario) (done : List Event) (ps : List ℕ) (h : List Event) (p : ℕ) (t : Turn) → Follows s done ps h → (HasEnded s p (done ++ h) → ⊥) → Follows s done (ps ++ p ∷ []) (h ++ Turned p t ∷ [])
Follows-turned s done [] [] p t f e =
    let P : List Event → Type 0 = λ g. HasEnded s p g in
    inr ((λ x. e (subst P (sym (append-nil done)) x)), refl, refl)
Follows-turned s done [] (x ∷ h) p t f e = absurd (cc)
Follows-turned s done (q ∷ ps) [] p t f e = inl (f.0, Follows-turned s done ps [] p t f.1 e)
Follows-turned s done (q ∷ ps) (x ∷ h) p t f e =
    let P : List Event → Type 0 = λ g. HasEnded s p g in
    elim f [
      | inl a ↦ inl (a.0, Follows-turned s done ps (x ∷ h) p t a.1 e)
      | inr a ↦ inr (a.0, a.1, Follows-turned s (done ++ x ∷ []) ps h p t a.2 (λ y. e (subst P (append_assoc done (x ∷ []) h) y)))
    ]

Ended : ScenarioPart → List Turn → Type 0
Ended a x = IsDone a (state_after a (start a) x)

-- a node has ended exactly where its partition has in the history
done_by : (a b : ScenarioPart) (st : State) (ts : List Turn) → a ≡ b → st ≡ state_after a (start a) ts → IsDone a st → Ended b ts
unfolding Ended
done_by a b st ts e f h = subst (λ (u : ScenarioPart). Ended u ts) e (subst (IsDone a) f h)

done_back : (a b : ScenarioPart) (st : State) (ts : List Turn) → a ≡ b → st ≡ state_after a (start a) ts → Ended b ts → IsDone a st
unfolding Ended
done_back a b st ts e f h = subst (IsDone a) (sym f) (subst (λ (u : ScenarioPart). Ended u ts) (sym e) h)

pub has_ended : (s : Scenario) (h : List Event) (p : ℕ) (n : NodeView) → IsNodeOf s h p n → IsEnded n → HasEnded s p h
unfolding Ended
has_ended s h p n k e = done_by n.part (part_of s p) n.state (turns_of p h) k.part k.made.state e

pub is_ended : (s : Scenario) (h : List Event) (p : ℕ) (n : NodeView) → IsNodeOf s h p n → HasEnded s p h → IsEnded n
unfolding Ended
is_ended s h p n k e = done_back n.part (part_of s p) n.state (turns_of p h) k.part k.made.state e

turns_of-own : (p : ℕ) (h : List Event) (t : Turn) → turns_of p (h ++ Turned p t ∷ []) ≡ turns_of p h ++ t ∷ []
turns_of-own p h t = turns_of-append p h (Turned p t ∷ []) ∙ ap (λ (b : Bool). turns_of p h ++ cond b (t ∷ []) []) (eq-eqb p p refl)

turns_of-other : (k p : ℕ) (h : List Event) (t : Turn) → (p ≡ k → ⊥) → turns_of k (h ++ Turned p t ∷ []) ≡ turns_of k h
turns_of-other k p h t ne =
    turns_of-append k h (Turned p t ∷ []) ∙ ap (λ (b : Bool). turns_of k h ++ cond b (t ∷ []) []) (ne_eqb p k ne) ∙ append-nil (turns_of k h)

own_node : (s : Scenario) (h : List Event) (p : ℕ) (before after : NodeView) (made : Option Marked) (k : MakesTurn before after made) → IsNodeOf s h p before → IsNodeOf s (h ++ Turned p k.turn ∷ []) p after
own_node s h p before after made k was =
    record {
      part = k.part ∙ was.part;
      made = subst (λ (ts : List Turn). HasMade after ts) (sym (turns_of-own p h k.turn)) (made_more before after made k (turns_of p h) was.made);
    }

other_runs : (s : Scenario) (h : List Event) (p k : ℕ) (t : Turn) → (p ≡ k → ⊥) → Runs (part_of s k) (turns_of k h) → Runs (part_of s k) (turns_of k (h ++ Turned p t ∷ []))
other_runs s h p k t ne was = subst (λ (x : List Turn). Runs (part_of s k) x) (sym (turns_of-other k p h t ne)) was

other_node : (s : Scenario) (h : List Event) (p k : ℕ) (n : NodeView) (t : Turn) → (p ≡ k → ⊥) → IsNodeOf s h k n → IsNodeOf s (h ++ Turned p t ∷ []) k n
other_node s h p k n t ne was =
    record { part = was.part; made = subst (λ (ts : List Turn). HasMade n ts) (sym (turns_of-other k p h t ne)) was.made }

-- each partition runs by the rules after p's turn
runs_by : (s : Scenario) (h : List Event) (p : ℕ) (t : Turn) → Runs (part_of s p) (turns_of p (h ++ Turned p t ∷ [])) → (k : ℕ) → Runs (part_of s k) (turns_of k h) → (p ≡ k) ⊎ (p ≡ k → ⊥) → Runs (part_of s k) (turns_of k (h ++ Turned p t ∷ []))
runs_by s h p t own k was (inl e) = subst (λ (j : ℕ). Runs (part_of s j) (turns_of j (h ++ Turned p t ∷ []))) e own
runs_by s h p t own k was (inr ne) = other_runs s h p k t ne was

parts-push : (count : ℕ) (h : List Event) (p : ℕ) (t : Turn) → AreTurnsOf count h → p < count → AreTurnsOf count (h ++ Turned p t ∷ [])
parts-push count [] p t f low = (low, tt)
parts-push count (Turned q u ∷ h) p t f low = (f.0, parts-push count h p t f.1 low)
parts-push count (Poked o i v ∷ h) p t f low = absurd f

-- the nodes are the partitions of the scenario, and have made the turns of the history
pub record Plays (s : Scenario) (h : List Event) (ns : List NodeView) : Type 0 where
  pub parts : AreTurnsOf s.count h
  pub runs : (p : ℕ) → p < s.count → Runs (part_of s p) (turns_of p h)
  pub count : length ns ≡ s.count
  pub nodes : (p : ℕ) (n : NodeView) → slice_get ns p ≡ Some n → IsNodeOf s h p n

-- node p makes one turn more
pub plays_turn : (s : Scenario) (h : List Event) (ns ns' : List NodeView) (p : ℕ) (before after : NodeView) (made : Option Marked) (k : MakesTurn before after made) → slice_get ns p ≡ Some before → ns' ≡ set ns p after → Plays s h ns → Plays s (h ++ Turned p k.turn ∷ []) ns'
plays_turn s h ns ns' p before after made k was nodes r =
    let own = own_node s h p before after made k (r.nodes p before was) in
    let g = h ++ Turned p k.turn ∷ [] in
    let N : List NodeView → Type 0 = λ xs. (q : ℕ) (n : NodeView) → slice_get xs q ≡ Some n → IsNodeOf s g q n in
    let low : p < s.count = omega (arith, slice_get_within ns p before was, r.count) in
    let runs : Runs (part_of s p) (turns_of p g) = subst (λ (a : ScenarioPart). Runs a (turns_of p g)) own.part own.made.runs in
    record {
      parts = parts-push s.count h p k.turn r.parts low;
      runs = λ q f. runs_by s h p k.turn runs q (r.runs q f) (cases_eq p q);
      count = ap length nodes ∙ length-set ns p after ∙ r.count;
      nodes = subst N (sym nodes) (each_after_set ns (IsNodeOf s g) p after before was own (λ q n ne is. other_node s h p q n k.turn ne (r.nodes q n is)));
    }

-- a node that has ended stays as it is
pub plays_ended : (s : Scenario) (h : List Event) (ns ns' : List NodeView) (p : ℕ) (before after : NodeView) → slice_get ns p ≡ Some before → ns' ≡ set ns p after → after ≡ before → Plays s h ns → Plays s h ns'
plays_ended s h ns ns' p before after was nodes same r =
    let e : ns' ≡ ns = nodes ∙ ap (set ns p) same ∙ set_same ns p before was in
    subst (Plays s h) (sym e) r
