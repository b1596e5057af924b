-- What acts and steps leave of a partition as a whole: acts change its script and its partners alone,
-- and no step begins a boot.
use Rattle.std.proofs.Common.{◌≡◌, ℕ, ◌+◌, ◌&&◌, Bool, true, false, List, [], ◌∷◌, refl, sym, ◌∙◌, arith, Option, Some, None}
use Rattle.std.specs.Prelude.{not, if◌then◌else◌, nat_lt}
use Rattle.xp_base.specs.declared.step.Answer.{Answer}
use Rattle.xp_base.specs.declared.step.Answer.TheVariants.{Word, Failed}
use Rattle.xp_base.specs.History.{Act, Marked, Turn}
use Rattle.xp_script.specs.declared.part.ScenarioPart.{ScenarioPart}
use Rattle.xp_protocol.specs.declared.rule.OwnRule.{OwnRule}
use Rattle.xp_protocol.specs.declared.rule.OwnRule.TheVariants.{ReadEngaged, TakeDeactivation, ReadStamp, ZeroMask, ZeroOffline, WriteStamp, StoreMask, TakeActivation, StoreBeat, StoreOffline}
use Rattle.xp_protocol.specs.declared.rule.Rule.{Rule}
use Rattle.xp_protocol.specs.declared.rule.Rule.TheVariants.{Link, Peer as ForPeer, Own}
use Rattle.xp_protocol.specs.State.{State, Script, Peer, Life, Booting, Halted}
use Rattle.xp_protocol.specs.Rules.{own_lives, after_answer}
use Rattle.xp_protocol.specs.Acts.{Aim, aimed, with_aim, after_act, after_acts}
use Rattle.xp_protocol.specs.Decode.{rule_of}
use Rattle.xp_protocol.specs.Runs.{after_ruled, after_step, after_turn, acted, turn_counted, moment_by, restart_comes, stop_comes, is_over}

-- what acts leave
module _ {B : Type 0} (f : State → B) (same : (st : State) (script : Script) (peers : List Peer) → f (record st { script = script; peers = peers }) ≡ f st) where
  aim_leaves : (st : State) (o : Option Aim) (script : Script) (peers : List Peer) → f (record (with_aim o st) { script = script; peers = peers }) ≡ f st
  aim_leaves st None script peers = same st script peers
  aim_leaves st (Some x) script peers = same st script peers

  pub acts_leave : (s : ScenarioPart) (st : State) (list : List Act) → f (after_acts s st list) ≡ f st
  acts_leave s st [] = refl
  acts_leave s st (a ∷ more) = acts_leave s (after_act s st a) more ∙ aim_leaves st (aimed s st a) _ _

pub acts_life : (s : ScenarioPart) (st : State) (list : List Act) → (after_acts s st list).life ≡ st.life
acts_life s st list = acts_leave (λ (x : State). x.life) (λ x script peers. refl) s st list

pub acts_boots : (s : ScenarioPart) (st : State) (list : List Act) → (after_acts s st list).clock.boots ≡ st.clock.boots
acts_boots s st list = acts_leave (λ (x : State). x.clock.boots) (λ x script peers. refl) s st list

-- a boot that goes on after a step went on before it
own_booting : (m : OwnRule) (w : ℕ) (life : Life) → own_lives m w life ≡ Booting → life ≡ Booting
own_booting WriteStamp w life e = absurd (cc)
own_booting ReadStamp w life e = by (nat_lt w 4294967295) e where
  by : (b : Bool) → (if b then life else Halted) ≡ Booting → life ≡ Booting
  by true f = f
  by false f = absurd (cc)
own_booting ZeroMask w life e = e
own_booting ZeroOffline w life e = e
own_booting ReadEngaged w life e = e
own_booting TakeDeactivation w life e = e
own_booting StoreMask w life e = e
own_booting TakeActivation w life e = e
own_booting StoreBeat w life e = e
own_booting StoreOffline w life e = e

pub rule_booting : (s : ScenarioPart) (st : State) (r : Rule) (a : Answer) → (after_answer s st r a).life ≡ Booting → st.life ≡ Booting
rule_booting s st (Link q c m) a e = e
rule_booting s st (ForPeer q m) a e = e
rule_booting s st (Own m) (Word w) e = own_booting m w st.life e
rule_booting s st (Own m) Failed e = e

pub step_booting : (s : ScenarioPart) (st : State) (o : Option Marked) → (after_step s st o).life ≡ Booting → st.life ≡ Booting
step_booting s st None e = e
step_booting s st (Some x) e = by (rule_of s st x.step.op x.mark) e where
  by : (o : Option Rule) → (after_ruled s st o x.step.answer).life ≡ Booting → st.life ≡ Booting
  by None f = f
  by (Some r) f = rule_booting s st r x.step.answer f

pub step_boots : (s : ScenarioPart) (st : State) (o : Option Marked) → (after_step s st o).clock.boots ≡ st.clock.boots
step_boots s st None = refl
step_boots s st (Some x) = by (rule_of s st x.step.op x.mark) where
  by : (o : Option Rule) → (after_ruled s st o x.step.answer).clock.boots ≡ st.clock.boots
  by None = refl
  by (Some r) = refl

-- the acts and the step of a turn
pub acted_life : (s : ScenarioPart) (st : State) (t : Turn) → (acted s st t).life ≡ (after_step s (after_acts s st t.before) t.made).life
acted_life s st t = acts_life s (after_step s (after_acts s st t.before) t.made) t.after

pub acted_boots : (s : ScenarioPart) (st : State) (t : Turn) → (acted s st t).clock.boots ≡ st.clock.boots
acted_boots s st t = acts_boots s (after_step s (after_acts s st t.before) t.made) t.after ∙ step_boots s (after_acts s st t.before) t.made ∙ acts_boots s st t.before

-- no restart comes after a turn within a boot
moment_boots : (s : ScenarioPart) (b d : Bool) (st : State) → (moment_by s b d st).clock.boots ≡ st.clock.boots → b ≡ false
moment_boots s true d st e = absurd (let f : st.clock.boots + 1 ≡ st.clock.boots = e in omega (arith, f))
moment_boots s false d st e = refl

not_restarted : (s : ScenarioPart) (b d : Bool) (st : State) (P : State → Type 0) → ((x : State) → P x → P (record x { stopped = true })) → b ≡ false → P st → P (moment_by s b d st)
not_restarted s true d st P stops e h = absurd (cc)
not_restarted s false true st P stops e h = stops st h
not_restarted s false false st P stops e h = h

was_not_restarted : (s : ScenarioPart) (b d : Bool) (st : State) (P : State → Type 0) → ((x : State) → P (record x { stopped = true }) → P x) → b ≡ false → P (moment_by s b d st) → P st
was_not_restarted s true d st P stops e h = absurd (cc)
was_not_restarted s false true st P stops e h = stops st h
was_not_restarted s false false st P stops e h = h

module _ (s : ScenarioPart) (st : State) (t : Turn) (same : (after_turn s st t).clock.boots ≡ st.clock.boots) where
  abbrev Comes : Bool
  Comes = restart_comes s st.clock.puts (turn_counted (acted s st t)) && not (is_over (turn_counted (acted s st t)))

  no_restart : Comes ≡ false
  no_restart = moment_boots s Comes (stop_comes s st.clock.puts (turn_counted (acted s st t)) && not (is_over (turn_counted (acted s st t)))) (turn_counted (acted s st t)) (same ∙ sym (acted_boots s st t))

  -- a fact that doesn't speak of a planned stop holds after the turn as it did after its acts, and the
  -- other way round
  pub on_turn : (P : State → Type 0) → ((x : State) → P x → P (record x { stopped = true })) → P (turn_counted (acted s st t)) → P (after_turn s st t)
  on_turn P stops h = not_restarted s Comes (stop_comes s st.clock.puts (turn_counted (acted s st t)) && not (is_over (turn_counted (acted s st t)))) (turn_counted (acted s st t)) P stops no_restart h

  pub before_turn : (P : State → Type 0) → ((x : State) → P (record x { stopped = true }) → P x) → P (after_turn s st t) → P (turn_counted (acted s st t))
  before_turn P stops h = was_not_restarted s Comes (stop_comes s st.clock.puts (turn_counted (acted s st t)) && not (is_over (turn_counted (acted s st t)))) (turn_counted (acted s st t)) P stops no_restart h
