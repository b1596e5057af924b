-- How many turns a partition has made: as many as its list has.
use Rattle.std.proofs.Common.{◌≡◌, ℕ, ◌+◌, Bool, true, false, not, ◌&&◌, List, [], ◌∷◌, length, Option, Some, None, refl, ap, ◌∙◌, arith}
use Rattle.xp_base.specs.History.{Act, Marked, Turn}
use Rattle.xp_script.specs.declared.part.ScenarioPart.{ScenarioPart}
use Rattle.xp_protocol.specs.declared.rule.Rule.{Rule}
use Rattle.xp_protocol.specs.Acts.{Aim, aimed, with_aim, after_act, after_acts}
use Rattle.xp_protocol.specs.Decode.{rule_of}
use Rattle.xp_protocol.specs.Runs.{start, acted, after_ruled, after_step, after_turn, state_after, turn_counted, moment_by, restart_comes, stop_comes, is_over}
use Rattle.xp_protocol.specs.State.{State, opened_state}

acts_turns : (s : ScenarioPart) (st : State) (acts : List Act) → (after_acts s st acts).clock.turns ≡ st.clock.turns
acts_turns s st [] = refl
acts_turns s st (a ∷ acts) = acts_turns s (after_act s st a) acts ∙ by (aimed s st a)
  where
    by : (o : Option Aim) → (with_aim o st).clock.turns ≡ st.clock.turns
    by None = refl
    by (Some y) = refl

step_turns : (s : ScenarioPart) (st : State) (o : Option Marked) → (after_step s st o).clock.turns ≡ st.clock.turns
step_turns s st None = refl
step_turns s st (Some x) = by (rule_of s st x.step.op x.mark)
  where
    by : (o : Option Rule) → (after_ruled s st o x.step.answer).clock.turns ≡ st.clock.turns
    by None = refl
    by (Some r) = refl

moment_turns : (s : ScenarioPart) (restarts stops : Bool) (st : State) → (moment_by s restarts stops st).clock.turns ≡ st.clock.turns
moment_turns s true stops st = refl
moment_turns s false true st = refl
moment_turns s false false st = refl

-- a turn more
pub turn_counts : (s : ScenarioPart) (st : State) (t : Turn) → (after_turn s st t).clock.turns ≡ st.clock.turns + 1
turn_counts s st t =
    let x = turn_counted (acted s st t) in
    moment_turns s (restart_comes s st.clock.puts x && not (is_over x)) (stop_comes s st.clock.puts x && not (is_over x)) x
    ∙ ap (λ (k : ℕ). k + 1) (acts_turns s (after_step s (after_acts s st t.before) t.made) t.after ∙ (step_turns s (after_acts s st t.before) t.made ∙ acts_turns s st t.before))

pub start_counts : (s : ScenarioPart) → (start s).clock.turns ≡ 0
start_counts s =
    let x = opened_state s in
    moment_turns s (restart_comes s 0 x && not (is_over x)) (stop_comes s 0 x && not (is_over x)) x

turns_count : (s : ScenarioPart) (st : State) (ts : List Turn) → (state_after s st ts).clock.turns ≡ st.clock.turns + length ts
turns_count s st [] = omega arith
turns_count s st (t ∷ ts) =
    let e = turns_count s (after_turn s st t) ts in
    let f = turn_counts s st t in
    omega (arith, e, f)

-- all turns that were made are counted
pub all_counted : (s : ScenarioPart) (ts : List Turn) → (state_after s (start s) ts).clock.turns ≡ length ts
all_counted s ts =
    let e = turns_count s (start s) ts in
    let f = start_counts s in
    omega (arith, e, f)
