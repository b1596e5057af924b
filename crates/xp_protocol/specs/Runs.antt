-- Turns: which are permitted, what is known after them, what comes at their moments, and when a
-- partition has ended.
use Rattle.xp_base.specs.declared.layout.TheConstants.{CHANNELS}
use Rattle.std.specs.Prelude.{◌≡◌, ℕ, ◌+◌, ◌<◌, Bool, true, false, not, ◌&&◌, ◌||◌, is_some, IsTrue, nat_lt, nat_eq, List, [], ◌∷◌, length, Option, Some, None}
use Rattle.xp_base.specs.declared.step.Answer.{Answer}
use Rattle.xp_base.specs.declared.step.Answer.TheVariants.{Word, Failed}
use Rattle.xp_base.specs.History.{Marked, Turn, NoticeKind}
use Rattle.xp_script.specs.declared.part.ScenarioPart.{ScenarioPart}
use Rattle.xp_protocol.specs.declared.rule.Rule.{Rule}
use Rattle.xp_protocol.specs.Parts.{script_in, fails_at, any_comes, some_comes}
use Rattle.xp_protocol.specs.State.{State, Life, Booting, Up, Halted, no_boot, masked_beats, End, Peer, end_of, opened_state, is_connected, each}
use Rattle.xp_protocol.specs.Peering.{booted_peer}
use Rattle.xp_base.specs.declared.link.Kind.TheVariants.{CloseRequest, CloseReply, OpenRequest, OpenReply, OpenComplete}
use Rattle.xp_protocol.specs.Linking.{owed}
use Rattle.xp_protocol.specs.Rules.{Can, op_of, mark_of, after_answer}
use Rattle.xp_protocol.specs.Decode.{rule_of}
use Rattle.xp_protocol.specs.Acts.{after_acts, MayActs, must_answer, notice_due}

-- what is known after a step: the rule that it follows tells
abbrev pub after_ruled : ScenarioPart → State → Option Rule → Answer → State
after_ruled s st None a = st
after_ruled s st (Some r) a = after_answer s st r a

abbrev pub after_step : ScenarioPart → State → Option Marked → State
after_step s st None = st
after_step s st (Some x) = after_ruled s st (rule_of s st x.step.op x.mark) x.step.answer

-- at a restart all is as at a boot's begin, but for what counts over all boots
abbrev pub restarted : ScenarioPart → State → State
restarted s st = record {
  stopped = false;
  life = Booting;
  boot = no_boot;
  stamp = 0;
  beats = masked_beats 0;
  clock = record st.clock { boots = st.clock.boots + 1 };
  script = record { begun = 0; doing = false; since = 0 };
  peers = each (λ q p. booted_peer p) 0 st.peers;
}

-- a partition that stops keeps what it knows
abbrev pub stopped : State → State
stopped st = record st { stopped = true }

abbrev pub is_halted : Life → Bool
is_halted Booting = false
is_halted Up = false
is_halted Halted = true

-- no moment comes any more for a partition that has stopped or halted
abbrev pub is_over : State → Bool
is_over st = st.stopped || is_halted st.life

-- what is planned after a turn, before which `earlier` messages were put: a stop comes before a
-- restart
abbrev pub stop_comes : ScenarioPart → ℕ → State → Bool
stop_comes s earlier st = some_comes st.clock.turns earlier st.clock.puts s.stop

abbrev pub restart_comes : ScenarioPart → ℕ → State → Bool
restart_comes s earlier st =
    any_comes st.clock.turns earlier st.clock.puts s.restarts && not (stop_comes s earlier st)

abbrev pub moment_by : ScenarioPart → Bool → Bool → State → State
moment_by s true stops st = restarted s st
moment_by s false true st = stopped st
moment_by s false false st = st

abbrev pub moment : ScenarioPart → ℕ → State → State
moment s earlier st =
    moment_by s (restart_comes s earlier st && not (is_over st)) (stop_comes s earlier st
    && not (is_over st)) st

-- what is known at the opening: a moment of turn 0 comes before the first turn
abbrev pub start : ScenarioPart → State
start s = moment s 0 (opened_state s)

abbrev pub turned : ℕ → State → State
turned turns st = record st { clock = record st.clock { turns = turns } }

abbrev pub turn_counted : State → State
turn_counted st = turned (st.clock.turns + 1) st

-- what is known when the acts of a turn are done, and after the turn
abbrev pub acted : ScenarioPart → State → Turn → State
acted s st t = after_acts s (after_step s (after_acts s st t.before) t.made) t.after

abbrev pub after_turn : ScenarioPart → State → Turn → State
after_turn s st t = moment s st.clock.puts (turn_counted (acted s st t))

abbrev pub state_after : ScenarioPart → State → List Turn → State
state_after s st [] = st
state_after s st (t ∷ ts) = state_after s (after_turn s st t) ts

-- what an end owes by itself: a store of get, a control flag of its handshake, or a message request
abbrev pub owes : End → Bool
owes e =
    (is_connected e && nat_lt e.sides.local_get e.sides.ack.front)
    || ((owed OpenRequest e
    || (owed OpenReply e
    || (owed OpenComplete e || (owed CloseRequest e || owed CloseReply e))))
    || e.shake.owes_message)

abbrev pub any_owes : List End → Bool
any_owes [] = false
any_owes (e ∷ es) = owes e || any_owes es

abbrev pub some_owe : List Peer → Bool
some_owe [] = false
some_owe (p ∷ peers) = (is_some p.contact && any_owes p.links) || some_owe peers

-- the script is answered to its end, and no store of get and no flag is owed
abbrev pub is_done : ScenarioPart → State → Bool
is_done s st =
    (nat_eq st.script.begun (length (script_in s st.clock.boots)) && not st.script.doing)
    && not (some_owe st.peers)

-- no turn comes any more
abbrev pub has_ended : ScenarioPart → State → Bool
has_ended s st = is_over st || is_done s st

abbrev pub IsDone : ScenarioPart → State → Type 0
IsDone s st = IsTrue (has_ended s st)

-- a step is permitted: it is the one that a rule makes, the rule can be followed, and it fails
-- exactly where that is planned
abbrev pub is_failed : Answer → Bool
is_failed (Word w) = false
is_failed Failed = true

pub record MayStep (s : ScenarioPart) (st : State) (x : Marked) : Type 0 where
  pub rule : Rule
  pub decoded : rule_of s st x.step.op x.mark ≡ Some rule
  pub op : x.step.op ≡ op_of s st rule
  pub mark : x.mark ≡ mark_of s st rule
  pub can : Can s st rule
  pub fails : is_failed x.step.answer ≡ fails_at s x.mark

abbrev pub MayMake : ScenarioPart → State → Option Marked → Type 0
MayMake s st None = Unit {0}
MayMake s st (Some x) = MayStep s st x

-- a turn is permitted
pub record May (s : ScenarioPart) (st : State) (t : Turn) : Type 0 where
  pub running : has_ended s st ≡ false
  pub before : MayActs s st t.before
  pub made : MayMake s (after_acts s st t.before) t.made
  pub after : MayActs s (after_step s (after_acts s st t.before) t.made) t.after
  pub answered : must_answer s (acted s st t) ≡ false
  pub noticed : (q c : ℕ) (how : NoticeKind) → q < s.count → c < CHANNELS →
      notice_due how (end_of (acted s st t) q c) ≡ None

-- each turn is permitted in the state that the turns before it give
abbrev pub RunsFrom : ScenarioPart → State → List Turn → Type 0
RunsFrom s st [] = Unit {0}
RunsFrom s st (t ∷ ts) = May s st t × RunsFrom s (after_turn s st t) ts

abbrev pub Runs : ScenarioPart → List Turn → Type 0
Runs s ts = RunsFrom s (start s) ts
