-- A partition has as many partners at every moment, each with its channels.
use Rattle.std.proofs.Common.{ℕ, Bool, true, false, ◌&&◌, List, [], ◌∷◌, Option, Some, None}
use Rattle.std.specs.Prelude.{not}
use Rattle.xp_base.specs.History.{Act, Marked, Turn}
use Rattle.xp_script.specs.declared.part.ScenarioPart.{ScenarioPart}
use Rattle.xp_protocol.specs.declared.rule.Rule.{Rule}
use Rattle.xp_protocol.specs.State.{State, opened_state}
use Rattle.xp_protocol.specs.Acts.{after_act, after_acts}
use Rattle.xp_protocol.specs.Decode.{rule_of}
use Rattle.xp_protocol.specs.Runs.{after_ruled, after_step, after_turn, acted, turn_counted, moment, moment_by, restart_comes, stop_comes, is_over, start, state_after}
use Rattle.xp_protocol.proofs.Frames.{AreAll, rule_all, act_all, cold_all}
use Rattle.xp_protocol.proofs.Opened.{start_all}

abbrev All : ScenarioPart → State → Type 0
All s st = AreAll s.count st.peers

acts_all : (s : ScenarioPart) (st : State) (list : List Act) → All s st → All s (after_acts s st list)
acts_all s st [] h = h
acts_all s st (a ∷ more) h = acts_all s (after_act s st a) more (act_all s st a h)

ruled_all : (s : ScenarioPart) (st : State) (x : Marked) (o : Option Rule) → All s st → All s (after_ruled s st o x.step.answer)
ruled_all s st x None h = h
ruled_all s st x (Some r) h = rule_all s st r x.step.answer h

step_all : (s : ScenarioPart) (st : State) (o : Option Marked) → All s st → All s (after_step s st o)
step_all s st None h = h
step_all s st (Some x) h = ruled_all s st x (rule_of s st x.step.op x.mark) h

moment_all_by : (s : ScenarioPart) (b d : Bool) (st : State) → All s st → All s (moment_by s b d st)
moment_all_by s true d st h = cold_all st.peers h
moment_all_by s false true st h = h
moment_all_by s false false st h = h

moment_all : (s : ScenarioPart) (earlier : ℕ) (st : State) → All s st → All s (moment s earlier st)
moment_all s earlier st h = moment_all_by s (restart_comes s earlier st && not (is_over st)) (stop_comes s earlier st && not (is_over st)) st h

pub begun_all : (s : ScenarioPart) → All s (start s)
begun_all s = moment_all s 0 (opened_state s) (start_all s)

pub turn_all : (s : ScenarioPart) (st : State) (t : Turn) → All s st → All s (after_turn s st t)
turn_all s st t h = moment_all s st.clock.puts (turn_counted (acted s st t)) (acts_all s (after_step s (after_acts s st t.before) t.made) t.after (step_all s (after_acts s st t.before) t.made (acts_all s st t.before h)))

pub turns_all : (s : ScenarioPart) (st : State) (ts : List Turn) → All s st → All s (state_after s st ts)
turns_all s st [] h = h
turns_all s st (t ∷ ts) h = turns_all s (after_turn s st t) ts (turn_all s st t h)
