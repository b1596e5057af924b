-- How a node is seen that was opened, that got room, and that made a turn.
use Rattle.std.proofs.Common.{◌≡◌, ℕ, zero, suc, ◌+◌, ◌<◌, ◌≤◌, Bool, true, false, List, [], ◌∷◌, ◌++◌, refl, ap, sym, ◌∙◌, subst, arith, append-nil, Option, Some, None}
use Rattle.std.specs.Prelude.{if◌then◌else◌, nat_eq, slice_index_or, IsTrue, IfSome}
use Rattle.xp_base.specs.declared.layout.TheConstants.{CHANNELS, LINES}
use Rattle.xp_base.specs.declared.step.Answer.{Answer}
use Rattle.xp_base.specs.declared.step.Step.{Step}
use Rattle.xp_base.specs.declared.step.Wanted.{Wanted}
use Rattle.xp_base.specs.History.{Marked}
use Rattle.xp_rounds.specs.Visit.{Visit}
use Rattle.xp_script.specs.declared.log.Entry.{Entry}
use Rattle.xp_script.specs.declared.log.LogAnswer.{LogAnswer}
use Rattle.xp_script.specs.declared.part.ScenarioPart.{ScenarioPart}
use Rattle.xp_protocol.specs.declared.rule.Rule.{Rule}
use Rattle.xp_protocol.specs.Effects.{with_notes}
use Rattle.xp_protocol.specs.Rules.{wanted_of}
use Rattle.xp_protocol.specs.Records.{Recorded}
use Rattle.xp_protocol.specs.Parts.{IsLawfulPart}
use Rattle.xp_protocol.specs.State.{State, opened_state}
use Rattle.xp_protocol.specs.Runs.{start, moment, has_ended}
use Rattle.xp_counts.specs.Planned.{HasFewPlans}
use Rattle.xp_protocol.specs.Logged.{noted_turn, opened_records}
use Rattle.xp_plan.specs.declared.errand.Errand.{Errand}
use Rattle.xp_plan.specs.Plan.{first_visit}
use Rattle.xp_partition.specs.declared.keeping.Keeping.{Keeping}
use Rattle.xp_partition.specs.declared.partition.Partition.{Partition}
use Rattle.xp_partition.specs.Keeping.{state_of, records_at as kept_at, IsKept}
use Rattle.xp_partition.specs.Partition.{IsPartition}
use Rattle.xp_partition.specs.Partners.{partner_at, AreSameButRoom, AllHaveNotes}
use Rattle.xp_partition.proofs.Recording.{rooms_records}
use Rattle.xp_steps.specs.Stepping.{CanStep}
use Rattle.xp_node.specs.declared.node.Node.TheInside.{Inside}
use Rattle.xp_node.specs.declared.turn.Waiting.{Waiting}
use Rattle.xp_node.specs.Books.{each_of, books_of}
use Rattle.xp_node.specs.Journal.{Journal, with_entry, with_answer, with_step}
use Rattle.xp_node.specs.Node.{NodeView, records_in, records_at, steps_made, answered_by, IsEnded, IsStep, MakesTurn, HasMade}
use Rattle.xp_node.specs.NodeInside.{shown, shown_by, wanted_by, view_of, HasRoom, Stands, Waits, IsNodeBy, IsNode}
use Rattle.xp_node.specs.Turning.{Rests, IsIdle, CanTurn, Begins, Makes, Ends, Turned}
use Rattle.xp_node.proofs.Making.{makes_none}
use Rattle.xp_node.proofs.Resting.{rests_first}
use Rattle.xp_node.proofs.Stepping.{wanted_step}
use Rattle.xp_node.proofs.Turned.{turned}

-- the i-th of the items of some numbers
each_at : {A : Type 0} → (f : ℕ → A) (n count i : ℕ) (d : A) → i < count → slice_index_or (each_of f n count) i d ≡ f (n + i)
each_at f n zero i d l = absurd (omega (arith, l))
each_at f n (suc count) zero d l = ap f (omega arith)
each_at f n (suc count) (suc i) d l =
    let below : i < count = omega (arith, l) in
    let same : n + 1 + i ≡ n + suc i = omega arith in
    each_at f (n + 1) count i d below ∙ ap f same

each_same : {A : Type 0} → (f g : ℕ → A) (n count : ℕ) → ((i : ℕ) → n ≤ i → i < n + count → f i ≡ g i) → each_of f n count ≡ each_of g n count
each_same f g n zero h = refl
each_same {A} f g n (suc count) h =
    ap (λ (x : A). x ∷ each_of f (n + 1) count) (h n (omega arith) (omega arith))
    ∙ ap (λ (xs : List A). g n ∷ xs) (each_same f g (n + 1) count (λ i l m. h i (omega (arith, l)) (omega (arith, m))))

-- the records of an end in the books
books_at : (x : Keeping) (q c : ℕ) → q < x.part.count → c < CHANNELS → records_in (books_of x) q c ≡ kept_at x q c
books_at x q c low few =
    let here = λ (k : ℕ). each_of (λ (j : ℕ). kept_at x k j) 0 CHANNELS in
    ap (λ (rs : List (List Recorded)). slice_index_or rs c []) (each_at here 0 x.part.count q [] low)
    ∙ each_at (λ (j : ℕ). kept_at x (0 + q) j) 0 CHANNELS c [] few
    ∙ ap (λ (k : ℕ). kept_at x k (0 + c)) (omega arith) ∙ ap (λ (j : ℕ). kept_at x q j) (omega arith)

books_same : (x y : Keeping) → y.part ≡ x.part → ((q c : ℕ) → q < x.part.count → c < CHANNELS → kept_at y q c ≡ kept_at x q c) → books_of y ≡ books_of x
books_same x y part h =
    ap (λ (s : ScenarioPart). each_of (λ q. each_of (λ c. kept_at y q c) 0 CHANNELS) 0 s.count) part
    ∙ each_same (λ (q : ℕ). each_of (λ c. kept_at y q c) 0 CHANNELS) (λ (q : ℕ). each_of (λ c. kept_at x q c) 0 CHANNELS) 0 x.part.count
    (λ q l m. each_same (λ (c : ℕ). kept_at y q c) (λ (c : ℕ). kept_at x q c) 0 CHANNELS (λ c j k. h q c (omega (arith, m)) (omega (arith, k))))

-- a turn takes one turn's room at most
room_spent : (a b : Bool) → (if a then 1 else 0) ≤ (if b then 1 else 0) + 1
room_spent true true = omega arith
room_spent true false = omega arith
room_spent false true = omega arith
room_spent false false = omega arith

abbrev pub step_of : Option Marked → Option Step
step_of None = None
step_of (Some x) = Some x.step

stepped : (made : Option Marked) (xs : List Step) → with_step (step_of made) xs ≡ xs ++ steps_made made
stepped None xs = sym (append-nil xs)
stepped (Some x) xs = refl

-- two nodes that differ in nothing but their room
same_seen : (a b : NodeView) → a.part ≡ b.part → a.state ≡ b.state → a.visit ≡ b.visit → a.entries ≡ b.entries → a.records ≡ b.records → a.steps ≡ b.steps → a.waiting ≡ b.waiting → a ≡ record b { room = a.room }
same_seen a b p s v e r t w =
    ap (λ (x : ScenarioPart). record a { part = x }) p ∙ ap (λ (x : State). record a { part = b.part; state = x }) s
    ∙ ap (λ (x : Visit Errand). record a { part = b.part; state = b.state; visit = x }) v
    ∙ ap (λ (x : List Entry). record a { part = b.part; state = b.state; visit = b.visit; entries = x }) e
    ∙ ap (λ (x : List (List (List Recorded))). record a { part = b.part; state = b.state; visit = b.visit; entries = b.entries; records = x }) r
    ∙ ap (λ (x : List Step). record b { steps = x; waiting = a.waiting; room = a.room }) t
    ∙ ap (λ (x : Option Wanted). record b { waiting = x; room = a.room }) w

-- ---- turns
pub turn_shown : (n m : Inside) (x y : Partition) (entry : Option Entry) (made : Option Marked) (answer : Option LogAnswer) → shown n ≡ x → shown m ≡ y → Turned x.keeping.part (state_of x.keeping) x y entry made answer
    → m.waiting ≡ None → m.journal.entries ≡ with_answer answer (with_entry entry n.journal.entries) → m.journal.steps ≡ with_step (step_of made) n.journal.steps → MakesTurn (view_of n) (view_of m) made
turn_shown n m x y entry made answer e f turned idle entries steps =
    let a = (shown n).keeping in
    let b = (shown m).keeping in
    let t1 : Turned a.part (state_of a) (shown n) y entry made answer = subst (λ (z : Partition). Turned z.keeping.part (state_of z.keeping) z y entry made answer) (sym e) turned in
    let t : Turned a.part (state_of a) (shown n) (shown m) entry made answer = subst (λ (z : Partition). Turned a.part (state_of a) (shown n) z entry made answer) (sym f) t1 in
    record {
      turn = t.turn;
      step = t.step;
      may = t.may;
      prompt = t.prompt;
      none = t.none;
      once = t.once;
      first = t.first;
      follows = t.follows;
      state = t.state;
      visit = t.visit;
      entries = entries ∙ sym (t.entries n.journal.entries);
      records = λ q c low few.
          books_at b q c (subst (λ (s : ScenarioPart). q < s.count) (sym t.part) low) few ∙ t.records q c low few
          ∙ ap (λ (rs : List Recorded). with_notes q c (noted_turn a.part (state_of a) t.turn q c) rs) (sym (books_at a q c low few));
      steps = steps ∙ stepped made n.journal.steps;
      part = t.part;
      waiting = ap wanted_by idle;
      room = room_spent n.ready m.ready;
    }

-- between turns it is shown as it is, and else as it was before the turn
shown_now : (n : Inside) → n.waiting ≡ None → shown n ≡ n.partition
shown_now n e = ap (λ (o : Option Waiting). shown_by o n.before.value n.partition) e

shown_before : (n : Inside) (w : Waiting) → n.waiting ≡ Some w → shown n ≡ n.before.value
shown_before n w e = ap (λ (o : Option Waiting). shown_by o n.before.value n.partition) e

-- the turn of a step that was answered, and one that makes no step
pub fed : (n m : Inside) (w : Waiting) (y : Partition) (a : Answer) (answer : Option LogAnswer) → Waits n w → n.waiting ≡ Some w
    → Makes n.partition.keeping.part (state_of n.partition.keeping) n.partition y (Some w.rule) (Some (answered_by w.wanted a))
    → Ends y.keeping.part (state_of y.keeping) w.earlier y m.partition answer
    → Turned n.before.value.keeping.part (state_of n.before.value.keeping) n.before.value m.partition w.entry (Some (answered_by w.wanted a)) answer
fed n m w y a answer h e makes ends =
    turned n.before.value n.partition y m.partition w.entry (Some w.rule) (Some (answered_by w.wanted a)) answer h.turn.idle h.running h.begins makes
    (subst (λ (k : ℕ). Ends y.keeping.part (state_of y.keeping) k y m.partition answer) h.earlier ends)

pub fed_made : (n m : Inside) (w : Waiting) (y : Partition) (a : Answer) (answer : Option LogAnswer) → Waits n w → n.waiting ≡ Some w
    → Makes n.partition.keeping.part (state_of n.partition.keeping) n.partition y (Some w.rule) (Some (answered_by w.wanted a))
    → Ends y.keeping.part (state_of y.keeping) w.earlier y m.partition answer
    → m.waiting ≡ None → m.journal.entries ≡ with_answer answer (with_entry w.entry n.journal.entries) → m.journal.steps ≡ n.journal.steps ++ (answered_by w.wanted a).step ∷ []
    → MakesTurn (view_of n) (view_of m) (Some (answered_by w.wanted a))
fed_made n m w y a answer h e makes ends idle entries steps =
    turn_shown n m n.before.value m.partition w.entry (Some (answered_by w.wanted a)) answer (shown_before n w e) (shown_now m idle) (fed n m w y a answer h e makes ends) idle entries steps

-- as callers see it
pub fed_shown : (n m : Inside) (v : NodeView) (w : Waiting) (y : Partition) (a : Answer) (answer : Option LogAnswer) → view_of n ≡ v → Waits n w → n.waiting ≡ Some w
    → Makes n.partition.keeping.part (state_of n.partition.keeping) n.partition y (Some w.rule) (Some (answered_by w.wanted a))
    → Ends y.keeping.part (state_of y.keeping) w.earlier y m.partition answer
    → m.waiting ≡ None → m.journal.entries ≡ with_answer answer (with_entry w.entry n.journal.entries) → m.journal.steps ≡ n.journal.steps ++ (answered_by w.wanted a).step ∷ []
    → IfSome v.waiting (λ wanted. MakesTurn v (view_of m) (Some (answered_by wanted a)))
fed_shown n m v w y a answer seen h e makes ends idle entries steps =
    subst (λ (x : NodeView). IfSome x.waiting (λ wanted. MakesTurn x (view_of m) (Some (answered_by wanted a)))) seen
    (subst (λ (o : Option Waiting). IfSome (wanted_by o) (λ wanted. MakesTurn (view_of n) (view_of m) (Some (answered_by wanted a)))) (sym e)
    (fed_made n m w y a answer h e makes ends idle entries steps))

pub passed : (n m : Inside) (x : Partition) (entry : Option Entry) (answer : Option LogAnswer) → Stands n → has_ended n.partition.keeping.part (state_of n.partition.keeping) ≡ false
    → Begins n.partition.keeping.part (state_of n.partition.keeping) n.partition x entry None
    → Ends x.keeping.part (state_of x.keeping) n.partition.keeping.clock.puts x m.partition answer
    → Turned n.partition.keeping.part (state_of n.partition.keeping) n.partition m.partition entry None answer
passed n m x entry answer h running b ends =
    turned n.partition x x m.partition entry None None answer h.idle running b (makes_none x b.partition) ends

pub passed_made : (n m : Inside) (x : Partition) (entry : Option Entry) (answer : Option LogAnswer) → Stands n → n.waiting ≡ None → has_ended n.partition.keeping.part (state_of n.partition.keeping) ≡ false
    → Begins n.partition.keeping.part (state_of n.partition.keeping) n.partition x entry None
    → Ends x.keeping.part (state_of x.keeping) n.partition.keeping.clock.puts x m.partition answer
    → m.waiting ≡ None → m.journal.entries ≡ with_answer answer (with_entry entry n.journal.entries) → m.journal.steps ≡ n.journal.steps
    → MakesTurn (view_of n) (view_of m) None
passed_made n m x entry answer h e running b ends idle entries steps =
    turn_shown n m n.partition m.partition entry None answer (shown_now n e) (shown_now m idle) (passed n m x entry answer h running b ends) idle entries steps

-- and the node stands between turns again
pub stands_then : (m : Inside) (x : Partition) (entry : Option Entry) (made : Option Marked) (answer : Option LogAnswer) → Turned x.keeping.part (state_of x.keeping) x m.partition entry made answer
    → m.waiting ≡ None → m.ended ≡ has_ended m.partition.keeping.part (state_of m.partition.keeping) → m.ready ≡ false → IsNode m
stands_then m x entry made answer t idle ended ready =
    subst (λ (o : Option Waiting). IsNodeBy o m) (sym idle) (record {
      idle = t.idle;
      ended = ended;
      room = λ r. absurd (let f : true ≡ false = sym r ∙ ready in cc);
    })

-- ---- what is known of a node between its turns
pub stands : (n : Inside) → wanted_by n.waiting ≡ None → IsNode n → (n.waiting ≡ None) × Stands n
stands n e h = by n.waiting refl e h where
  by : (o : Option Waiting) → n.waiting ≡ o → wanted_by o ≡ None → IsNodeBy o n → (n.waiting ≡ None) × Stands n
  by None i e h = (i, h)
  by (Some w) i e h = absurd (cc)

pub waits : (n : Inside) (w : Waiting) → n.waiting ≡ Some w → IsNode n → Waits n w
waits n w e h = subst (λ (o : Option Waiting). IsNodeBy o n) e h

pub not_ready : (n : Inside) → IsNode n → n.ready ≡ false → (n.waiting ≡ None) × Stands n
not_ready n h r = by n.waiting refl h where
  by : (o : Option Waiting) → n.waiting ≡ o → IsNodeBy o n → (n.waiting ≡ None) × Stands n
  by None i h = (i, h)
  by (Some w) i h = absurd (let f : true ≡ false = sym h.ready ∙ r in cc)

pub records_shown : (n : Inside) (v : NodeView) (q c : ℕ) → view_of n ≡ v → v.waiting ≡ None → q < v.part.count → c < CHANNELS → IsNode n → kept_at n.partition.keeping q c ≡ records_at v q c
records_shown n v q c e idle low few h =
    let s = stands n (ap (λ (x : NodeView). x.waiting) e ∙ idle) h in
    let same = shown_now n s.0 in
    ap (λ (x : Partition). kept_at x.keeping q c) (sym same)
    ∙ sym (books_at (shown n).keeping q c (subst (λ (x : NodeView). q < x.part.count) (sym e) low) few)
    ∙ ap (λ (x : NodeView). records_at x q c) e

ready_if : (b : Bool) → 0 < (if b then 1 else 0) → b ≡ true
ready_if true l = refl
ready_if false l = absurd (omega (arith, l))

not_true : (b : Bool) → (IsTrue b → ⊥) → b ≡ false
not_true true h = absurd (h refl)
not_true false h = refl

-- a node of which a turn can be begun
pub record IsReady (n : Inside) : Type 0 where
  pub waiting : n.waiting ≡ None
  pub stands : Stands n
  pub room : HasRoom n
  pub ready : n.ready ≡ true
  pub running : has_ended n.partition.keeping.part (state_of n.partition.keeping) ≡ false

pub ready_of : (n : Inside) (v : NodeView) → view_of n ≡ v → IsNode n → 0 < v.room → (IsEnded v → ⊥) → v.waiting ≡ None → IsReady n
ready_of n v e h room running idle =
    let s = stands n (ap (λ (x : NodeView). x.waiting) e ∙ idle) h in
    let ready = ready_if n.ready (subst (λ (x : NodeView). 0 < x.room) (sym e) room) in
    let over = has_ended n.partition.keeping.part (state_of n.partition.keeping) in
    record {
      waiting = s.0;
      stands = s.1;
      room = s.1.room ready;
      ready = ready;
      running = not_true over (λ t. running (subst (λ (x : NodeView). IsEnded x) e (subst (λ (x : Partition). IsTrue (has_ended x.keeping.part (state_of x.keeping))) (sym (shown_now n s.0)) t)));
    }

-- ---- a step waits
-- a node as it is shown
abbrev seen : Partition → Journal → Option Wanted → Bool → NodeView
seen x j w ready = record {
  part = x.keeping.part;
  state = state_of x.keeping;
  visit = x.planner;
  entries = j.entries;
  records = books_of x.keeping;
  steps = j.steps;
  waiting = w;
  room = if ready then 1 else 0;
}

pub waits_then : (n m : Inside) (w : Waiting) (rule : Option Rule) → IsReady n → m.before.value ≡ n.partition → rule ≡ Some w.rule
    → Begins n.partition.keeping.part (state_of n.partition.keeping) n.partition m.partition w.entry rule → IfSome rule (λ r. CanStep m.partition.keeping r) → AllHaveNotes (LINES + 2) m.partition.keeping.partners
    → w.wanted ≡ wanted_of m.partition.keeping.part (state_of m.partition.keeping) w.rule → w.earlier ≡ n.partition.keeping.clock.puts
    → m.journal ≡ n.journal → m.ended ≡ n.ended → m.ready ≡ n.ready → Waits m w
waits_then n m w rule h before is begins can notes wanted earlier journal ended ready =
    let b = sym before in
    record {
      turn = subst (λ (x : Partition). CanTurn x) b h.room.turn;
      running = subst (λ (x : Partition). has_ended x.keeping.part (state_of x.keeping) ≡ false) b h.running;
      begins = subst (λ (x : Partition). Begins x.keeping.part (state_of x.keeping) x m.partition w.entry (Some w.rule)) b
          (subst (λ (o : Option Rule). Begins n.partition.keeping.part (state_of n.partition.keeping) n.partition m.partition w.entry o) is begins);
      can = let c = subst (λ (o : Option Rule). IfSome o (λ r. CanStep m.partition.keeping r)) is can in c;
      wanted = wanted;
      earlier = subst (λ (x : Partition). w.earlier ≡ x.keeping.clock.puts) b earlier;
      ended = ended ∙ h.stands.ended ∙ h.running;
      ready = ready ∙ h.ready;
      notes = notes;
      entry = subst (λ (j : Journal). 0 < j.entry_room) (sym journal) h.room.entry;
      step = subst (λ (j : Journal). 0 < j.step_room) (sym journal) h.room.step;
    }

pub step_wanted : (n : Inside) (v : NodeView) (x : Partition) (r : Rule) (w : Wanted) (entry : Option Entry) (rule : Option Rule) → view_of n ≡ v → IsReady n → rule ≡ Some r
    → Begins n.partition.keeping.part (state_of n.partition.keeping) n.partition x entry rule → IfSome rule (λ r. CanStep x.keeping r)
    → w ≡ wanted_of x.keeping.part (state_of x.keeping) r → IsStep v.part w
step_wanted n v x r w entry rule e h is begins can wanted =
    let c : CanStep x.keeping r = subst (λ (o : Option Rule). IfSome o (λ r. CanStep x.keeping r)) is can in
    let part : x.keeping.part ≡ v.part = begins.part ∙ ap (λ (z : Partition). z.keeping.part) (sym (shown_now n h.waiting)) ∙ ap (λ (z : NodeView). z.part) e in
    subst (λ (s : ScenarioPart). IsStep s w) part (subst (λ (z : Wanted). IsStep x.keeping.part z) (sym wanted)
    (wanted_step x.keeping.part (state_of x.keeping) r c.kept.lawful c.can))

pub waiting_view : (n m : Inside) (w : Waiting) → n.waiting ≡ None → m.waiting ≡ Some w → m.before.value ≡ n.partition → m.journal ≡ n.journal → m.ready ≡ n.ready → view_of m ≡ record (view_of n) { waiting = Some w.wanted }
waiting_view n m w e f b j r =
    let same : shown m ≡ shown n = shown_before m w f ∙ b ∙ sym (shown_now n e) in
    ap (λ (x : Partition). seen x m.journal (wanted_by m.waiting) m.ready) same
    ∙ ap (λ (k : Journal). seen (shown n) k (wanted_by m.waiting) m.ready) j
    ∙ ap (λ (o : Option Waiting). seen (shown n) n.journal (wanted_by o) m.ready) f
    ∙ ap (λ (a : Bool). seen (shown n) n.journal (Some w.wanted) a) r

-- ---- room is made
pub reserved_view : (n m : Inside) → n.waiting ≡ None → m.waiting ≡ n.waiting → IsKept n.partition.keeping
    → state_of m.partition.keeping ≡ state_of n.partition.keeping → m.partition.planner ≡ n.partition.planner → m.partition.keeping.part ≡ n.partition.keeping.part
    → AreSameButRoom n.partition.keeping.partners m.partition.keeping.partners
    → m.journal.entries ≡ n.journal.entries → m.journal.steps ≡ n.journal.steps → view_of m ≡ record (view_of n) { room = (view_of m).room }
reserved_view n m e f kept st visit part same entries steps =
    let a = shown_now n e in
    let b = shown_now m (f ∙ e) in
    let books : books_of m.partition.keeping ≡ books_of n.partition.keeping = books_same n.partition.keeping m.partition.keeping part
    (λ q c low few. rooms_records (partner_at n.partition.keeping.partners.list q) (partner_at m.partition.keeping.partners.list q) c (same.each q (subst (λ (k : ℕ). q < k) (sym kept.count) low))) in
    let p : (shown m).keeping.part ≡ (shown n).keeping.part = ap (λ (x : Partition). x.keeping.part) b ∙ part ∙ ap (λ (x : Partition). x.keeping.part) (sym a) in
    let s : state_of (shown m).keeping ≡ state_of (shown n).keeping = ap (λ (x : Partition). state_of x.keeping) b ∙ st ∙ ap (λ (x : Partition). state_of x.keeping) (sym a) in
    let v : (shown m).planner ≡ (shown n).planner = ap (λ (x : Partition). x.planner) b ∙ visit ∙ ap (λ (x : Partition). x.planner) (sym a) in
    let k : books_of (shown m).keeping ≡ books_of (shown n).keeping = ap (λ (x : Partition). books_of x.keeping) b ∙ books ∙ ap (λ (x : Partition). books_of x.keeping) (sym a) in
    same_seen (view_of m) (view_of n) p s v entries k steps (ap wanted_by f)

pub idle_reserved : (x y : Partition) → IsIdle x → IsPartition y → state_of y.keeping ≡ state_of x.keeping → y.keeping.part ≡ x.keeping.part → IsIdle y
idle_reserved x y h is st part = record {
  partition = is;
  few = subst (λ (s : ScenarioPart). HasFewPlans s) (sym part) h.few;
  rests = subst (λ (s : ScenarioPart). Rests s (state_of y.keeping)) (sym part) (subst (λ (z : State). Rests x.keeping.part z) (sym st) h.rests);
}

pub reserved_stands : (n m : Inside) → n.waiting ≡ None → m.waiting ≡ n.waiting → Stands n → m.ended ≡ n.ended → IsPartition m.partition
    → state_of m.partition.keeping ≡ state_of n.partition.keeping → m.partition.keeping.part ≡ n.partition.keeping.part → (m.ready ≡ true → HasRoom m) → IsNode m
reserved_stands n m e f h ended is st part room =
    subst (λ (o : Option Waiting). IsNodeBy o m) (sym (f ∙ e)) (record {
      idle = idle_reserved n.partition m.partition h.idle is st part;
      ended = ended ∙ h.ended ∙ ap (λ (s : ScenarioPart). has_ended s (state_of n.partition.keeping)) (sym part) ∙ ap (λ (z : State). has_ended m.partition.keeping.part z) (sym st);
      room = room;
    })

-- ---- the opening
visit_first : (b : Bool) (v : Visit Errand) → (if b then v else v) ≡ v
visit_first true v = refl
visit_first false v = refl

pub opened : (n : Inside) (x : Partition) (s : ScenarioPart) → n.waiting ≡ None → IsLawfulPart s
    → state_of x.keeping ≡ opened_state s → x.planner ≡ first_visit s → ((q c : ℕ) → q < s.count → c < CHANNELS → kept_at x.keeping q c ≡ opened_records s.links q c) → x.keeping.part ≡ s
    → state_of n.partition.keeping ≡ moment x.keeping.part 0 (state_of x.keeping)
    → n.partition.planner ≡ (if nat_eq n.partition.keeping.clock.boots x.keeping.clock.boots then x.planner else first_visit x.keeping.part)
    → ((q c : ℕ) → q < x.keeping.part.count → kept_at n.partition.keeping q c ≡ kept_at x.keeping q c) → n.partition.keeping.part ≡ x.keeping.part
    → n.journal.entries ≡ [] → n.journal.steps ≡ [] → HasMade (view_of n) []
opened n x s e lawful st visit records part st2 visit2 records2 part2 entries steps =
    let a = shown_now n e in
    let p : (shown n).keeping.part ≡ s = ap (λ (y : Partition). y.keeping.part) a ∙ part2 ∙ part in
    let began : state_of n.partition.keeping ≡ start s = st2 ∙ ap (λ (z : ScenarioPart). moment z 0 (state_of x.keeping)) part ∙ ap (λ (z : State). moment s 0 z) st in
    let from : n.partition.planner ≡ first_visit s = visit2
    ∙ ap (λ (z : ScenarioPart). if nat_eq n.partition.keeping.clock.boots x.keeping.clock.boots then x.planner else first_visit z) part
    ∙ ap (λ (v : Visit Errand). if nat_eq n.partition.keeping.clock.boots x.keeping.clock.boots then v else first_visit s) visit
    ∙ visit_first (nat_eq n.partition.keeping.clock.boots x.keeping.clock.boots) (first_visit s) in
    let known : (shown n).keeping.part ≡ n.partition.keeping.part = ap (λ (y : Partition). y.keeping.part) a in
    let state : state_of (shown n).keeping ≡ start s = ap (λ (y : Partition). state_of y.keeping) a ∙ began in
    let first : (shown n).planner ≡ first_visit s = ap (λ (y : Partition). y.planner) a ∙ from in
    record {
      runs = tt;
      visited = record { follows = tt; prompt = tt };
      state = state ∙ ap start (sym p);
      visit = first ∙ ap first_visit (sym p);
      entries = entries;
      records = λ q c low few.
          let within : q < s.count = subst (λ (z : ScenarioPart). q < z.count) p low in
          books_at (shown n).keeping q c low few ∙ ap (λ (y : Partition). kept_at y.keeping q c) a
          ∙ records2 q c (subst (λ (z : ScenarioPart). q < z.count) (sym part) within) ∙ records q c within few
          ∙ ap (λ (z : ScenarioPart). opened_records z.links q c) (sym p);
      steps = steps;
    }

pub opened_stands : (n : Inside) (x : Partition) (s : ScenarioPart) → n.waiting ≡ None → IsLawfulPart s → HasFewPlans s
    → state_of x.keeping ≡ opened_state s → x.keeping.part ≡ s → state_of n.partition.keeping ≡ moment x.keeping.part 0 (state_of x.keeping) → n.partition.keeping.part ≡ x.keeping.part
    → IsPartition n.partition → n.ended ≡ has_ended n.partition.keeping.part (state_of n.partition.keeping) → n.ready ≡ false → IsNode n
opened_stands n x s e lawful few st part st2 part2 is ended ready =
    let p : n.partition.keeping.part ≡ s = part2 ∙ part in
    let began : state_of n.partition.keeping ≡ start s = st2 ∙ ap (λ (z : ScenarioPart). moment z 0 (state_of x.keeping)) part ∙ ap (λ (z : State). moment s 0 z) st in
    subst (λ (o : Option Waiting). IsNodeBy o n) (sym e) (record {
      idle = record {
        partition = is;
        few = subst (λ (z : ScenarioPart). HasFewPlans z) (sym p) few;
        rests = subst (λ (z : ScenarioPart). Rests z (state_of n.partition.keeping)) (sym p) (subst (λ (z : State). Rests s z) (sym began) (rests_first s lawful));
      };
      ended = ended;
      room = λ r. absurd (let f : true ≡ false = sym r ∙ ready in cc);
    })
