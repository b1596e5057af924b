-- Turns of a node that follow each other.
use Rattle.std.proofs.Common.{◌≡◌, ℕ, ◌+◌, ◌≤◌, true, List, [], ◌∷◌, ◌++◌, Option, None, refl, ap, sym, ◌∙◌, subst, arith, inl, inr, append_assoc, append-nil}
use Rattle.std.specs.Prelude.{is_some}
use Rattle.xp_base.specs.declared.step.Step.{Step}
use Rattle.xp_base.specs.History.{Marked, Turn}
use Rattle.xp_fabric.specs.Openings.{TableId, Opening, MemoryId, Loan, SharedTable}
use Rattle.xp_fabric.specs.Views.{SharedView}
use Rattle.xp_script.specs.declared.part.ScenarioPart.{ScenarioPart}
use Rattle.xp_node.specs.Node.{NodeView, MakesTurn, HasMade, steps_made, steps_of, ended_of}
use Rattle.xp_node.proofs.Histories.{made_more}
use Rattle.xp_world.specs.Turning.{IsSameNode, TurnsOver}
use Rattle.xp_world.proofs.Turned.{same_turn, is_over}
use Rattle.xp_world.proofs.Worlds.{room_made}
use Rattle.xp_threads.specs.Working.{MakesJust, MakesTurns, Works, IsFinished, IsWithin, Goes}
use Rattle.xp_threads.proofs.Counting.{turn_counts}

pub same_node : (n : NodeView) → IsSameNode n n
same_node n = record { same = refl; room = omega arith }

-- a node that is the same but for its room, and once more
same_twice : (a b c : NodeView) → IsSameNode a b → IsSameNode b c → IsSameNode a c
same_twice a b c h k = record {
  same = k.same ∙ ap (λ (n : NodeView). record n { room = c.room }) h.same;
  room = omega (arith, h.room, k.room);
}

same_first : (a b c : NodeView) (t : Turn) → IsSameNode a b → MakesJust b t c → MakesJust a t c
unfolding same_turn
same_first a b c t h k =
    let at = subst (λ (n : NodeView). MakesJust n t c) h.same k in
    record { made = at.made; makes = same_turn a c a.waiting b.room at.made h.room at.makes; is = at.is }

makes_same : (a b c : NodeView) (ts : List Turn) → MakesTurns a ts b → IsSameNode b c → MakesTurns a ts c
makes_same a b c [] h k = same_twice a b c h k
makes_same a b c (t ∷ ts) h k = (h.0, h.1, makes_same h.0 b c ts h.2 k)

makes_push : (a b c : NodeView) (ts : List Turn) (t : Turn) → MakesTurns a ts b → MakesJust b t c → MakesTurns a (ts ++ t ∷ []) c
makes_push a b c [] t h k = (c, same_first a b c t h k, same_node c)
makes_push a b c (u ∷ ts) t h k = (h.0, h.1, makes_push h.0 b c ts t h.2 k)

-- a node that has made some turns, and makes these, has made all of them
pub makes_more : (a b : NodeView) (ts us : List Turn) → MakesTurns a us b → HasMade a ts → HasMade b (ts ++ us)
makes_more a b ts [] h made =
    subst (HasMade b) (sym (append-nil ts)) (subst (λ (n : NodeView). HasMade n ts) (sym h.same) (room_made a b.room ts made))
makes_more a b ts (u ∷ us) h made =
    let k = h.1 in
    let one = subst (λ (t : Turn). HasMade h.0 (ts ++ t ∷ [])) k.is (made_more a h.0 k.made k.makes ts made) in
    subst (HasMade b) (append_assoc ts (u ∷ []) us) (makes_more h.0 b (ts ++ u ∷ []) us h.2 one)

steps_push : (ts : List Turn) (t : Turn) → steps_of (ts ++ t ∷ []) ≡ steps_of ts ++ steps_made t.made
steps_push [] t = append-nil (steps_made t.made)
steps_push (u ∷ ts) t = ap (λ (xs : List Step). steps_made u.made ++ xs) (steps_push ts t) ∙ sym (append_assoc (steps_made u.made) (steps_of ts) (steps_made t.made))

-- before the first turn
pub works_none : (n : NodeView) (before : List Step) → n.waiting ≡ None → Works n before n before
works_none n before idle = record {
  turns = [];
  made = same_node n;
  runs = λ ts h. makes_more n n ts [] (same_node n) h;
  steps = sym (append-nil before);
  part = refl;
  idle = idle;
}

-- more room changes nothing
pub works_same : (a b c : NodeView) (before after : List Step) → Works a before b after → IsSameNode b c → Works a before c after
works_same a b c before after h k = record {
  turns = h.turns;
  made = makes_same a b c h.turns h.made k;
  runs = λ ts m. makes_more a c ts h.turns (makes_same a b c h.turns h.made k) m;
  steps = h.steps;
  part = ap (λ (n : NodeView). n.part) k.same ∙ h.part;
  idle = ap (λ (n : NodeView). n.waiting) k.same ∙ h.idle;
}

pub works_roomy : (a b c : NodeView) (before after : List Step) → Works a before b after → c ≡ record b { room = c.room } → b.room ≤ c.room → Works a before c after
works_roomy a b c before after h same room = works_same a b c before after h (record { same = same; room = room })

-- one turn more
works_turn : (a b c : NodeView) (before mid after : List Step) → Works a before b mid → TurnsOver b mid c after → Works a before c after
works_turn a b c before mid after h k =
    let t = k.turns.turn in
    let made = makes_push a b c h.turns t h.made (record { made = k.made; makes = k.turns; is = refl }) in
    record {
      turns = h.turns ++ t ∷ [];
      made = made;
      runs = λ ts m. makes_more a c ts (h.turns ++ t ∷ []) made m;
      steps = k.steps ∙ ap (λ (xs : List Step). xs ++ steps_made k.made) h.steps ∙ append_assoc before (steps_of h.turns) (steps_made k.made)
          ∙ ap (λ (xs : List Step). before ++ xs) (ap (λ (m : Option Marked). steps_of h.turns ++ steps_made m) (sym k.turns.step) ∙ sym (steps_push h.turns t));
      part = k.turns.part ∙ h.part;
      idle = k.turns.waiting;
    }

-- what tells a shared memory tells all that is seen of it
table_or : TableId → MemoryId → TableId
table_or t (Loan name before) = t
table_or t (SharedTable u) = u

abbrev pub opened : SharedView → Opening
opened m = record { words = m.opening; memory = SharedTable m.table }

same_memory : (m n : SharedView) → opened m ≡ opened n → m ≡ n
unfolding table_or
same_memory m n e = λ j. record { opening = (e j).words; table = table_or m.table (e j).memory }

-- one turn more of a worker
pub goes_on : (old now roomy new : NodeView) (before steps roomy_steps after : List Step) (part part1 part2 part3 turn : ℕ) (m m1 m2 m3 : SharedView)
    → Goes old before part m turn now steps part1 m1 → roomy ≡ record now { room = roomy.room } → now.room ≤ roomy.room
    → roomy_steps ≡ steps → part2 ≡ part1 → m2 ≡ m1
    → TurnsOver roomy roomy_steps new after → part3 ≡ part2 → opened m3 ≡ opened m2
    → Goes old before part m (turn + 1) new after part3 m3
goes_on old now roomy new before steps roomy_steps after part part1 part2 part3 turn m m1 m2 m3 h same room kept part_kept memory_kept turned part_same memory_same =
    let works = works_roomy old now roomy before steps h.works same room in
    let over = subst (λ (xs : List Step). TurnsOver roomy xs new after) kept turned in
    record {
      works = works_turn old roomy new before steps after works over;
      turns = ap (λ st. st.clock.turns) turned.turns.state ∙ (turn_counts roomy.part roomy.state turned.turns.turn
          ∙ ap (λ (k : ℕ). k + 1) (ap (λ (n : NodeView). n.state.clock.turns) same ∙ h.turns));
      part_same = part_same ∙ part_kept ∙ h.part_same;
      memory_same = same_memory m3 m2 memory_same ∙ memory_kept ∙ h.memory_same;
    }

-- a worker has finished
pub finished_ended : (n : NodeView) → is_some (ended_of n) ≡ true → IsFinished n
finished_ended n e = inl (is_over n e)

pub finished_budget : (old now : NodeView) → now.part ≡ old.part → now.state.clock.turns ≡ old.part.budget → IsFinished now
finished_budget old now same turns = inr (turns ∙ ap (λ (s : ScenarioPart). s.budget) (sym same))

-- and has made no more turns than it may
pub within_turn : (old now : NodeView) (before steps : List Step) (part part1 turn : ℕ) (m m1 : SharedView)
    → Goes old before part m turn now steps part1 m1 → turn ≤ old.part.budget → IsWithin now
within_turn old now before steps part part1 turn m m1 h low =
    let turns = h.turns in
    let budget = ap (λ (s : ScenarioPart). s.budget) h.works.part in
    omega (arith, low, turns, budget)

pub within_roomy : (now roomy : NodeView) → roomy ≡ record now { room = roomy.room } → IsWithin now → IsWithin roomy
within_roomy now roomy same h = subst IsWithin (sym same) h

pub ruleset working = (works_none, works_roomy, finished_ended, finished_budget, within_turn, within_roomy)
