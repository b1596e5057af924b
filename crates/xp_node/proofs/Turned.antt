-- The parts of a turn are a turn.
use Rattle.std.proofs.Common.{◌≡◌, ℕ, ◌≤◌, Bool, true, false, ◌||◌, List, ◌++◌, refl, ap, sym, ◌∙◌, subst, arith, Option, Some, None}
use Rattle.std.specs.Prelude.{if◌then◌else◌, nat_eq}
use Rattle.xp_base.specs.History.{Act, Marked, Turn}
use Rattle.xp_rounds.specs.Visit.{Visit, planned}
use Rattle.xp_script.specs.declared.log.Entry.{Entry}
use Rattle.xp_script.specs.declared.log.LogAnswer.{LogAnswer}
use Rattle.xp_script.specs.declared.part.ScenarioPart.{ScenarioPart}
use Rattle.xp_protocol.specs.declared.rule.Rule.{Rule}
use Rattle.xp_protocol.specs.Effects.{with_notes}
use Rattle.xp_protocol.specs.Records.{Recorded}
use Rattle.xp_protocol.specs.State.{State}
use Rattle.xp_protocol.specs.Acts.{due, after_acts, must_answer}
use Rattle.xp_protocol.specs.Runs.{after_step, after_turn, has_ended, May}
use Rattle.xp_protocol.specs.Logged.{entries_acts, noted_acts, noted_step, noted_turn}
use Rattle.xp_counts.specs.Counted.{calls_in}
use Rattle.xp_counts.specs.Planned.{HasFewPlans}
use Rattle.xp_plan.specs.declared.errand.Errand.{Errand}
use Rattle.xp_plan.specs.Plan.{plan_of, first_visit}
use Rattle.xp_windows.specs.Windows.{answers}
use Rattle.xp_windows.specs.Visited.{visit_after, IsPrompt}
use Rattle.xp_windows.proofs.Lives.{acts_boots, step_boots}
use Rattle.xp_partition.specs.declared.partition.Partition.{Partition}
use Rattle.xp_partition.specs.Keeping.{state_of, records_at}
use Rattle.xp_node.specs.Journal.{with_entry}
use Rattle.xp_node.specs.Turning.{Idles, Rests, IsIdle, begun_acts, Begins, Makes, Ends, Turned}
use Rattle.xp_node.proofs.Histories.{notes_more}
use Rattle.xp_node.proofs.Resting.{idles_begun, idles_step, rests_next}

-- no message is accepted that isn't answered, where no answer is due
none_must : (s : ScenarioPart) (st : State) → due s st ≡ None → must_answer s st ≡ false
none_must s st e = rw e refl

begun_calls : (entry : Option Entry) → calls_in (begun_acts entry) ≤ 1
begun_calls None = omega arith
begun_calls (Some x) = omega arith

or_true : (a b : Bool) → b ≡ true → (a || b) ≡ true
or_true true b e = refl
or_true false b e = e

module _ (s : ScenarioPart) (st : State) (v : Visit Errand) (before : List Act) (made : Option Marked) (after : List Act) where
  abbrev one : State
  one = after_acts s st before

  abbrev two : State
  two = after_step s one made

  abbrev turn : Turn
  turn = record { before = before; made = made; after = after }

  -- the boots are those before it until the moment of its end
  boots_same : two.clock.boots ≡ st.clock.boots
  boots_same = step_boots s one made ∙ acts_boots s st before

  visits : (x y w : Visit Errand) (boots : ℕ) → x ≡ (planned (plan_of s) v one).visit → y ≡ x → boots ≡ (after_turn s st turn).clock.boots → w ≡ (if nat_eq boots two.clock.boots then y else first_visit s) → w ≡ visit_after s v st turn
  visits x y w boots a b n e =
      e ∙ ap (λ (k : ℕ). if nat_eq boots k then y else first_visit s) boots_same
      ∙ ap (λ (k : ℕ). if nat_eq k st.clock.boots then y else first_visit s) n
      ∙ ap (λ (z : Visit Errand). if nat_eq (after_turn s st turn).clock.boots st.clock.boots then z else first_visit s) (b ∙ a)

  notes : (q c : ℕ) (r0 r1 r2 r3 : List Recorded) → r1 ≡ with_notes q c (noted_acts s st before q c) r0 → r2 ≡ with_notes q c (noted_step s one made q c) r1 → r3 ≡ with_notes q c (noted_acts s two after q c) r2 → r3 ≡ with_notes q c (noted_turn s st turn q c) r0
  notes q c r0 r1 r2 r3 a b d =
      let x = noted_acts s st before q c in
      let y = noted_step s one made q c in
      let z = noted_acts s two after q c in
      d ∙ ap (λ (rs : List Recorded). with_notes q c z rs) (b ∙ ap (λ (rs : List Recorded). with_notes q c y rs) a)
      ∙ sym (notes_more q c x (y ++ z) r0 ∙ notes_more q c y z (with_notes q c x r0))

pub turned : (old mid mid2 new : Partition) (entry : Option Entry) (rule : Option Rule) (made : Option Marked) (answer : Option LogAnswer) → let s = old.keeping.part in let st = state_of old.keeping in IsIdle old → has_ended s st ≡ false → Begins s st old mid entry rule → Makes mid.keeping.part (state_of mid.keeping) mid mid2 rule made → Ends mid2.keeping.part (state_of mid2.keeping) st.clock.puts mid2 new answer → Turned s st old new entry made answer
turned old mid mid2 new entry rule made answer idle running b m e =
    let s = old.keeping.part in
    let st = state_of old.keeping in
    let before = begun_acts entry in
    let st1 = after_acts s st before in
    let st2 = after_step s st1 made in
    let m1 : Makes s (state_of mid.keeping) mid mid2 rule made = subst (λ (p : ScenarioPart). Makes p (state_of mid.keeping) mid mid2 rule made) b.part m in
    let m2 : Makes s st1 mid mid2 rule made = subst (λ (y : State). Makes s y mid mid2 rule made) b.state m1 in
    let e1 : Ends s (state_of mid2.keeping) st.clock.puts mid2 new answer = subst (λ (p : ScenarioPart). Ends p (state_of mid2.keeping) st.clock.puts mid2 new answer) m2.part e in
    let e2 : Ends s st2 st.clock.puts mid2 new answer = subst (λ (y : State). Ends s y st.clock.puts mid2 new answer) m2.state e1 in
    let after = e2.acts in
    let t : Turn = record { before = before; made = made; after = after } in
    let may : May s st t = record {
      running = running;
      before = b.may;
      made = m2.may;
      after = e2.may;
      answered = none_must s (after_acts s st2 after) e2.none;
      noticed = λ q c how low lower. e2.told q c low lower how;
    } in
    let idles : Idles s st → Idles s st2 = λ i. idles_step s st1 made (idles_begun s st entry b.may i) in
    let prompt : IsPrompt s st t = record {
      begins = λ up none left. b.prompt (up, (none, left));
      answers = λ some. or_true (answers before) (answers after) (e2.prompt (idles (idle.rests.due some)));
    } in
    let state : state_of new.keeping ≡ after_turn s st t = e2.state in
    let rests : Rests s (after_turn s st t) = rests_next s st t idle.partition.kept.lawful idle.rests may (omega (arith, begun_calls entry, e2.calls)) e2.none in
    record {
      turn = t;
      step = refl;
      may = may;
      prompt = prompt;
      none = e2.none;
      once = omega (arith, begun_calls entry, e2.calls);
      first = e2.first;
      follows = m2.follows ∙ b.follows ∙ ap (λ (y : State). (planned (plan_of s) old.planner y).rule) b.state;
      state = state;
      visit = visits s st old.planner before made after mid.planner mid2.planner new.planner new.keeping.clock.boots
          (b.visit ∙ ap (λ (y : State). (planned (plan_of s) old.planner y).visit) b.state) m2.visit (ap (λ (y : State). y.clock.boots) state) e2.visit;
      entries = λ xs. ap (λ (ys : List Entry). entries_acts s st2 after ys) (b.entries xs) ∙ e2.entries (with_entry entry xs);
      records = λ q c low lower. notes s st old.planner before made after q c (records_at old.keeping q c) (records_at mid.keeping q c) (records_at mid2.keeping q c) (records_at new.keeping q c)
          (b.records q c low lower) (m2.records q c low lower) (e2.records q c low lower);
      part = e2.part;
      idle = record {
        partition = e2.partition;
        few = subst (λ (p : ScenarioPart). HasFewPlans p) (sym e2.part) idle.few;
        rests = subst (λ (p : ScenarioPart). Rests p (state_of new.keeping)) (sym e2.part) (subst (λ (y : State). Rests s y) (sym state) rests);
      };
    }
