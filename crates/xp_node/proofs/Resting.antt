-- What holds of a partition between its turns holds again after each permitted turn.
use Rattle.std.proofs.Common.{◌≡◌, ℕ, ◌+◌, ◌≤◌, Bool, true, false, ◌&&◌, not, List, [], ◌∷◌, refl, ap, sym, ◌∙◌, subst, arith, Option, Some, None}
use Rattle.std.specs.Prelude.{if◌then◌else◌, nat_lt, IsSome, is_some}
use Rattle.std.proofs.lemmas.Bool.Decides.{nat_tests}
use Rattle.xp_base.specs.declared.step.Answer.{Answer}
use Rattle.xp_base.specs.declared.step.Answer.TheVariants.{Word, Failed}
use Rattle.xp_base.specs.History.{Act, Marked, Turn}
use Rattle.xp_script.specs.declared.command.Command.{Command}
use Rattle.xp_script.specs.declared.command.Command.TheVariants as commands
use Rattle.xp_script.specs.declared.log.Entry.{Entry}
use Rattle.xp_script.specs.declared.log.LogAnswer.{LogAnswer}
use Rattle.xp_script.specs.declared.log.LogAnswer.TheVariants.{Idle as IdleAnswered}
use Rattle.xp_script.specs.declared.part.ScenarioPart.{ScenarioPart}
use Rattle.xp_protocol.specs.declared.rule.OwnRule.{OwnRule}
use Rattle.xp_protocol.specs.declared.rule.OwnRule.TheVariants.{ReadEngaged, TakeDeactivation, ReadStamp, ZeroMask, ZeroOffline, WriteStamp, StoreMask, TakeActivation, StoreBeat, StoreOffline}
use Rattle.xp_protocol.specs.declared.rule.Rule.{Rule}
use Rattle.xp_protocol.specs.declared.rule.Rule.TheVariants.{Link, Peer as ForPeer, Own}
use Rattle.xp_protocol.specs.Parts.{IsLawfulPart}
use Rattle.xp_protocol.specs.State.{State, Life, Up, opened_state}
use Rattle.xp_protocol.specs.Rules.{own_life, own_lives, life_after, life_for, after_answer}
use Rattle.xp_protocol.specs.Decode.{rule_of}
use Rattle.xp_protocol.specs.Acts.{current, due, due_to, due_at, named_end, after_act, after_acts, MayActs}
use Rattle.xp_protocol.specs.Runs.{start, after_ruled, after_step, after_turn, turn_counted, moment_by, restart_comes, stop_comes, is_over, MayMake, May, acted}
use Rattle.xp_counts.specs.Counted.{HasCalls}
use Rattle.xp_counts.proofs.States.{start_bounded, turn_bounded}
use Rattle.xp_counts.proofs.Planned.{start_planned, turn_planned}
use Rattle.xp_sound.proofs.States.{start_consistent, turn_keeps}
use Rattle.xp_sound.proofs.Notices.{start_told, turn_told}
use Rattle.xp_windows.proofs.Lives.{acts_life}
use Rattle.xp_node.specs.Turning.{Idles, Rests, begun_acts}

-- turns that were waited for have passed also after a step
idles_by : (s : ScenarioPart) (st to : State) → to.script ≡ st.script → to.clock.turns ≡ st.clock.turns → to.clock.boots ≡ st.clock.boots → Idles s st → Idles s to
idles_by s st to a b d i =
    record {
      turns = i.turns;
      doing = ap (λ x. x.doing) a ∙ i.doing;
      command = same ∙ i.command;
      over = rw a (rw b i.over);
    }
  where
    same : current s to ≡ current s st
    same = rw a (rw d refl)

pub idles_begun : (s : ScenarioPart) (st : State) (entry : Option Entry) → MayActs s st (begun_acts entry) → Idles s st → Idles s (after_acts s st (begun_acts entry))
idles_begun s st None may i = i
idles_begun s st (Some x) may i = absurd (cc)

pub idles_step : (s : ScenarioPart) (st : State) (made : Option Marked) → Idles s st → Idles s (after_step s st made)
idles_step s st None i = i
idles_step s st (Some x) i = by (rule_of s st x.step.op x.mark) where
  by : (o : Option Rule) → Idles s (after_ruled s st o x.step.answer)
  by None = i
  by (Some r) = idles_by s st (after_answer s st r x.step.answer) refl refl refl i

-- a command is in progress only while the partition is up
Working : State → Type 0
Working st = st.script.doing ≡ true → st.life ≡ Up

up_acts : (s : ScenarioPart) (st : State) (acts : List Act) → MayActs s st acts → Working st → Working (after_acts s st acts)
unfolding Working
up_acts s st [] may u = u
up_acts s st (a ∷ more) may u = up_acts s (after_act s st a) more may.1 (λ d. acts_life s st (a ∷ []) ∙ may.0.0)

up_own : (m : OwnRule) (w : ℕ) → own_life m ≡ Up → own_lives m w Up ≡ Up
up_own ReadStamp w e = absurd (cc)
up_own WriteStamp w e = refl
up_own ZeroMask w e = refl
up_own ZeroOffline w e = refl
up_own ReadEngaged w e = refl
up_own TakeDeactivation w e = refl
up_own StoreMask w e = refl
up_own TakeActivation w e = refl
up_own StoreBeat w e = refl
up_own StoreOffline w e = refl

up_rule : (r : Rule) (a : Answer) (life : Life) → life ≡ life_for r → life ≡ Up → life_after r a life ≡ Up
up_rule (Link q c m) a life can e = e
up_rule (ForPeer q m) a life can e = e
up_rule (Own m) (Word w) life can e = ap (λ (x : Life). own_lives m w x) e ∙ up_own m w (sym can ∙ e)
up_rule (Own m) Failed life can e = e

up_step : (s : ScenarioPart) (st : State) (made : Option Marked) → MayMake s st made → Working st → Working (after_step s st made)
unfolding Working
up_step s st None may u = u
up_step s st (Some x) may u = by (rule_of s st x.step.op x.mark) may.decoded where
  by : (o : Option Rule) → o ≡ Some may.rule → (after_ruled s st o x.step.answer).script.doing ≡ true → (after_ruled s st o x.step.answer).life ≡ Up
  by None e d = absurd (cc)
  by (Some r) e d =
      let same : r ≡ may.rule = cc in
      up_rule r x.step.answer st.life (subst (λ (y : Rule). st.life ≡ life_for y) (sym same) may.can.0) (u d)

pub working_acts : (s : ScenarioPart) (st : State) (acts : List Act) → MayActs s st acts → (st.script.doing ≡ true → st.life ≡ Up) → (after_acts s st acts).script.doing ≡ true → (after_acts s st acts).life ≡ Up
unfolding Working
working_acts s st acts may u = up_acts s st acts may u

pub working_step : (s : ScenarioPart) (st : State) (made : Option Marked) → MayMake s st made → (st.script.doing ≡ true → st.life ≡ Up) → (after_step s st made).script.doing ≡ true → (after_step s st made).life ≡ Up
unfolding Working
working_step s st made may u = up_step s st made may u

up_moment : (s : ScenarioPart) (b stops : Bool) (st : State) → Working st → Working (moment_by s b stops st)
unfolding Working
up_moment s true stops st u d = absurd (cc)
up_moment s false true st u d = u d
up_moment s false false st u d = u d

none_some : (o : Option LogAnswer) → o ≡ None → is_some o ≡ true → ⊥
none_some None e some = absurd (cc)
none_some (Some a) e some = absurd (cc)

-- no answer falls due by the count of a turn but that of a command that waits for turns
counted_by : (s : ScenarioPart) (st : State) (x : Command) → due_at s st x (named_end x) ≡ None → IsSome (due_at s (turn_counted st) x (named_end x)) → (turns : ℕ) × (x ≡ commands.Idle turns) × (st.script.since + turns ≤ st.clock.turns + 1)
counted_by s st (commands.Send q c payload wait notify) e some = absurd (none_some (due_at s st (commands.Send q c payload wait notify) (named_end (commands.Send q c payload wait notify))) e some)
counted_by s st (commands.Take q c wait) e some = absurd (none_some (due_at s st (commands.Take q c wait) (named_end (commands.Take q c wait))) e some)
counted_by s st (commands.Release q c number) e some = absurd (none_some (due_at s st (commands.Release q c number) (named_end (commands.Release q c number))) e some)
counted_by s st (commands.Drain q c) e some = absurd (none_some (due_at s st (commands.Drain q c) (named_end (commands.Drain q c))) e some)
counted_by s st (commands.Register q c entries limit) e some = absurd (none_some (due_at s st (commands.Register q c entries limit) (named_end (commands.Register q c entries limit))) e some)
counted_by s st (commands.Unregister q c) e some = absurd (none_some (due_at s st (commands.Unregister q c) (named_end (commands.Unregister q c))) e some)
counted_by s st (commands.Connected q c) e some = absurd (none_some (due_at s st (commands.Connected q c) (named_end (commands.Connected q c))) e some)
counted_by s st (commands.Closed q c) e some = absurd (none_some (due_at s st (commands.Closed q c) (named_end (commands.Closed q c))) e some)
counted_by s st (commands.Net frame) e some = absurd (cc)
counted_by s st (commands.Frames frames) e some = absurd (cc)
counted_by s st (commands.Deactivate q) e some = absurd (none_some (due_at s st (commands.Deactivate q) (named_end (commands.Deactivate q))) e some)
counted_by s st (commands.Activate q) e some = absurd (none_some (due_at s st (commands.Activate q) (named_end (commands.Activate q))) e some)
counted_by s st commands.Leave e some = absurd (none_some (due_at s st commands.Leave (named_end commands.Leave)) e some)
counted_by s st (commands.Idle turns) e some = (turns, refl, by (nat_lt (st.clock.turns + 1) (st.script.since + turns)) refl some) where
  by : (b : Bool) → nat_lt (st.clock.turns + 1) (st.script.since + turns) ≡ b → is_some (if b then None else Some IdleAnswered) ≡ true → st.script.since + turns ≤ st.clock.turns + 1
  by true i f = absurd (cc)
  by false i f = grind (arith, nat_tests)
counted_by s st commands.Offline e some = absurd (cc)
counted_by s st commands.Online e some = absurd (cc)

due_counted : (s : ScenarioPart) (st : State) → due s st ≡ None → IsSome (due s (turn_counted st)) → Idles s (turn_counted st)
due_counted s st e some = by st.script.doing refl (current s st) refl e some where
  by : (b : Bool) → st.script.doing ≡ b → (o : Option Command) → current s st ≡ o → (if b then due_to s st o else None) ≡ None → is_some (if b then due_to s (turn_counted st) o else None) ≡ true → Idles s (turn_counted st)
  by false i o j f g = absurd (cc)
  by true i None j f g = absurd (cc)
  by true i (Some x) j f g =
      let h = counted_by s st x f g in
      record { turns = h.0; doing = i; command = j ∙ ap (λ (y : Command). Some y) h.1; over = h.2 }

due_moment : (s : ScenarioPart) (b stops : Bool) (st : State) → (IsSome (due s st) → Idles s st) → IsSome (due s (moment_by s b stops st)) → Idles s (moment_by s b stops st)
due_moment s true stops st u some = absurd (cc)
due_moment s false true st u some = let i = u some in record { turns = i.turns; doing = i.doing; command = i.command; over = i.over }
due_moment s false false st u some = u some

pub rests_next : (s : ScenarioPart) (st : State) (t : Turn) → IsLawfulPart s → Rests s st → May s st t → HasCalls 2 t → due s (acted s st t) ≡ None → Rests s (after_turn s st t)
unfolding Working
rests_next s st t lawful r may calls none =
    let now = turn_counted (acted s st t) in
    let restarts = restart_comes s st.clock.puts now && not (is_over now) in
    let stops = stop_comes s st.clock.puts now && not (is_over now) in
    let st1 = after_acts s st t.before in
    let st2 = after_step s st1 t.made in
    let up : Working (acted s st t) = up_acts s st2 t.after may.after (up_step s st1 t.made may.made (up_acts s st t.before may.before r.up)) in
    record {
      consistent = turn_keeps s lawful st t may r.consistent r.told;
      bounded = turn_bounded s st t 2 calls r.bounded;
      planned = turn_planned s st t may r.planned;
      told = turn_told s st t may;
      up = up_moment s restarts stops now up;
      due = due_moment s restarts stops now (due_counted s (acted s st t) none);
    }

first_due : (s : ScenarioPart) (b stops : Bool) → IsSome (due s (moment_by s b stops (opened_state s))) → Idles s (moment_by s b stops (opened_state s))
first_due s true stops some = absurd (cc)
first_due s false true some = absurd (cc)
first_due s false false some = absurd (cc)

pub rests_first : (s : ScenarioPart) → IsLawfulPart s → Rests s (start s)
unfolding Working
rests_first s lawful =
    let now = opened_state s in
    let restarts = restart_comes s 0 now && not (is_over now) in
    let stops = stop_comes s 0 now && not (is_over now) in
    record {
      consistent = start_consistent s lawful;
      bounded = start_bounded s 2;
      planned = start_planned s;
      told = start_told s;
      up = up_moment s restarts stops now (λ d. absurd (cc));
      due = first_due s restarts stops;
    }
