-- A partition begins no more boots than are planned, and a boot no more commands than its script has.
use Rattle.std.proofs.Common.{◌≡◌, ℕ, zero, suc, ◌+◌, ◌-◌, ◌<◌, ◌≤◌, Bool, true, false, ◌&&◌, ◌||◌, not, cond, List, [], ◌∷◌, length, refl, sym, ◌∙◌, subst, arith, Option, Some, None, get_or}
use Rattle.std.specs.Prelude.{count_by}
use Rattle.std.specs.List.{AllByRecursion}
use Rattle.std.proofs.lemmas.Bool.Decides.{nat_tests}
use Rattle.std.proofs.lemmas.List.Sums.{sum_by-cons}
use Rattle.xp_base.specs.declared.step.Answer.{Answer}
use Rattle.xp_base.specs.declared.step.Answer.TheVariants.{Word, Failed}
use Rattle.xp_base.specs.History.{Act, Begun, Answered, Noticed, Marked, Turn}
use Rattle.xp_script.specs.declared.command.Command.{Command}
use Rattle.xp_script.specs.declared.limits.TheConstants.{COMMAND_LIMIT, RESTART_LIMIT}
use Rattle.xp_script.specs.declared.part.ScenarioPart.{ScenarioPart}
use Rattle.xp_script.specs.declared.scenario.Scenario.{Scenario}
use Rattle.xp_script.specs.declared.setting.Moment.{Moment}
use Rattle.xp_script.specs.declared.setting.Moment.TheVariants as moments
use Rattle.xp_script.specs.declared.setting.Restart.{Restart}
use Rattle.xp_script.specs.Lawful.{IsLawful, is_restart_of, boots_of}
use Rattle.xp_script.specs.Parts.{part_of, restarts_of}
use Rattle.xp_script.specs.Totals.{command_count, boots_commands}
use Rattle.xp_protocol.specs.declared.rule.RingRule.TheVariants.{ReadGet, WriteEntryWord, AcceptMessage}
use Rattle.xp_protocol.specs.declared.rule.LinkRule.TheVariants.{Ring, Pull, Acknowledge, SetFlag, ZeroGet, ZeroPut, StoreArgument, ReadArgument}
use Rattle.xp_protocol.specs.declared.rule.Rule.{Rule}
use Rattle.xp_protocol.specs.declared.rule.Rule.TheVariants.{Link as ForLink, Peer as ForPeer, Own}
use Rattle.xp_protocol.specs.Parts.{script_in, comes_at, any_comes}
use Rattle.xp_protocol.specs.State.{State, Clock, opened_state}
use Rattle.xp_protocol.specs.Rules.{puts_after}
use Rattle.xp_protocol.specs.Decode.{rule_of}
use Rattle.xp_protocol.specs.Acts.{Aim, aimed, with_aim, after_act, after_acts, MayAct, MayActs}
use Rattle.xp_protocol.specs.Runs.{after_ruled, after_step, turn_counted, restart_comes, stop_comes, moment_by, is_over, start, acted, after_turn, May, RunsFrom, Runs, state_after}
use Rattle.xp_counts.specs.Planned.{is_to_come, to_come, IsAsPlanned, IsShort, HasFewPlans}

-- ---- moments

weight : Bool → ℕ
weight b = cond b 1 0

passes : (turns puts later : ℕ) (m : Moment) → puts ≤ later → weight (is_to_come (turns + 1) later m) + weight (comes_at (turns + 1) puts later m) ≤ weight (is_to_come turns puts m)
unfolding weight
passes turns puts later (moments.Turn t) l = grind (nat_tests, arith)
passes turns puts later (moments.Put k) l = grind (nat_tests, arith)

weighs : (a b : Bool) → weight (a || b) ≤ weight a + weight b
unfolding weight
weighs true b = omega arith
weighs false b = omega arith

falls : (turns puts later : ℕ) (ms : List Moment) → puts ≤ later → to_come (turns + 1) later ms + weight (any_comes (turns + 1) puts later ms) ≤ to_come turns puts ms
unfolding weight
falls turns puts later [] l = omega arith
falls turns puts later (m ∷ ms) l = omega (arith, passes turns puts later m l, falls turns puts later ms l, weighs (comes_at (turns + 1) puts later m) (any_comes (turns + 1) puts later ms))

first : (m : Moment) → weight (is_to_come 0 0 m) + weight (comes_at 0 0 0 m) ≤ 1
unfolding weight
first (moments.Turn t) = grind (nat_tests, arith)
first (moments.Put k) = grind (nat_tests, arith)

firsts : (ms : List Moment) → to_come 0 0 ms + weight (any_comes 0 0 0 ms) ≤ length ms
unfolding weight
firsts [] = omega arith
firsts (m ∷ ms) = omega (arith, first m, firsts ms, weighs (comes_at 0 0 0 m) (any_comes 0 0 0 ms))

-- ---- what acts and steps leave of the clock, and of the script

act_clock : (a : Option Aim) (st : State) → (with_aim a st).clock ≡ st.clock
act_clock None st = refl
act_clock (Some x) st = refl

acts_clock : (s : ScenarioPart) (st : State) (acts : List Act) → (after_acts s st acts).clock ≡ st.clock
acts_clock s st [] = refl
acts_clock s st (a ∷ acts) = acts_clock s (after_act s st a) acts ∙ act_clock (aimed s st a) st

pub record IsLater (a b : Clock) : Type 0 where
  pub boots : b.boots ≡ a.boots
  pub turns : b.turns ≡ a.turns
  pub puts : a.puts ≤ b.puts

same_later : (a b : Clock) → b ≡ a → IsLater a b
same_later a b e = subst (IsLater a) (sym e) (record { boots = refl; turns = refl; puts = omega arith })

more_puts : (r : Rule) (a : Answer) (puts : ℕ) → puts ≤ puts_after r a puts
more_puts (ForLink q c (Ring AcceptMessage)) (Word w) puts = omega arith
more_puts (ForLink q c (Ring AcceptMessage)) Failed puts = omega arith
more_puts (ForLink q c (Ring ReadGet)) a puts = omega arith
more_puts (ForLink q c (Ring (WriteEntryWord f))) a puts = omega arith
more_puts (ForLink q c (Pull m)) a puts = omega arith
more_puts (ForLink q c Acknowledge) a puts = omega arith
more_puts (ForLink q c (SetFlag k)) a puts = omega arith
more_puts (ForLink q c ZeroGet) a puts = omega arith
more_puts (ForLink q c ZeroPut) a puts = omega arith
more_puts (ForLink q c (StoreArgument k)) a puts = omega arith
more_puts (ForLink q c (ReadArgument k)) a puts = omega arith
more_puts (ForPeer q m) a puts = omega arith
more_puts (Own m) a puts = omega arith

ruled_later : (s : ScenarioPart) (st : State) (r : Option Rule) (a : Answer) → IsLater st.clock (after_ruled s st r a).clock
ruled_later s st None a = same_later st.clock st.clock refl
ruled_later s st (Some r) a = record { boots = refl; turns = refl; puts = more_puts r a st.clock.puts }

step_later : (s : ScenarioPart) (st : State) (x : Option Marked) → IsLater st.clock (after_step s st x).clock
step_later s st None = same_later st.clock st.clock refl
step_later s st (Some x) = ruled_later s st (rule_of s st x.step.op x.mark) x.step.answer

later_then : (a b c : Clock) → IsLater a b → IsLater b c → IsLater a c
later_then a b c h k = record { boots = k.boots ∙ h.boots; turns = k.turns ∙ h.turns; puts = omega (arith, h.puts, k.puts) }

acted_later : (s : ScenarioPart) (st : State) (t : Turn) → IsLater st.clock (acted s st t).clock
acted_later s st t =
    let x = after_acts s st t.before in
    let y = after_step s x t.made in
    later_then st.clock x.clock (acted s st t).clock (same_later st.clock x.clock (acts_clock s st t.before))
    (later_then x.clock y.clock (acted s st t).clock (step_later s x t.made) (same_later y.clock (acted s st t).clock (acts_clock s y t.after)))

-- commands that were begun are of the script of the boot
IsWithin : ScenarioPart → State → Type 0
IsWithin s st = st.script.begun ≤ length (script_in s st.clock.boots)

act_within : (s : ScenarioPart) (st : State) (a : Act) → MayAct s st a → IsWithin s st → IsWithin s (after_act s st a)
unfolding IsWithin
act_within s st Begun may h = subst (λ (c : Clock). st.script.begun + 1 ≤ length (script_in s c.boots)) (sym (act_clock (aimed s st Begun) st)) (omega (arith, may.1.1))
act_within s st Answered may h = subst (λ (c : Clock). st.script.begun ≤ length (script_in s c.boots)) (sym (act_clock (aimed s st Answered) st)) h
act_within s st (Noticed q c number how) may h = subst (λ (k : Clock). st.script.begun ≤ length (script_in s k.boots)) (sym (act_clock (aimed s st (Noticed q c number how)) st)) h

acts_within : (s : ScenarioPart) (st : State) (acts : List Act) → MayActs s st acts → IsWithin s st → IsWithin s (after_acts s st acts)
acts_within s st [] may h = h
acts_within s st (a ∷ acts) may h = acts_within s (after_act s st a) acts may.1 (act_within s st a may.0 h)

ruled_within : (s : ScenarioPart) (st : State) (r : Option Rule) (a : Answer) → IsWithin s st → IsWithin s (after_ruled s st r a)
unfolding IsWithin
ruled_within s st None a h = h
ruled_within s st (Some r) a h = h

step_within : (s : ScenarioPart) (st : State) (x : Option Marked) → IsWithin s st → IsWithin s (after_step s st x)
step_within s st None h = h
step_within s st (Some x) h = ruled_within s st (rule_of s st x.step.op x.mark) x.step.answer h

acted_within : (s : ScenarioPart) (st : State) (t : Turn) → May s st t → IsWithin s st → IsWithin s (acted s st t)
acted_within s st t may h =
    let x = after_acts s st t.before in
    acts_within s (after_step s x t.made) t.after may.after (step_within s x t.made (acts_within s st t.before may.before h))

-- ---- the end of a turn

-- so many boots and restarts that are to come, and one boot more where a restart comes now
Fits : ScenarioPart → Bool → State → Type 0
Fits s comes st = st.clock.boots + to_come st.clock.turns st.clock.puts s.restarts + weight comes ≤ length s.restarts + 1

moved : (s : ScenarioPart) (comes runs stops : Bool) (st : State) → Fits s comes st → IsWithin s st → IsAsPlanned s (moment_by s (comes && runs) stops st)
unfolding Fits IsWithin weight
moved s true true stops st h k = record { boots = omega (arith, h); begun = omega arith }
moved s true false true st h k = record { boots = omega (arith, h); begun = k }
moved s true false false st h k = record { boots = omega (arith, h); begun = k }
moved s false runs true st h k = record { boots = omega (arith, h); begun = k }
moved s false runs false st h k = record { boots = omega (arith, h); begun = k }

lighter : (a b : Bool) → weight (a && b) ≤ weight a
unfolding weight
lighter true true = omega arith
lighter true false = omega arith
lighter false b = omega arith

fits_less : (s : ScenarioPart) (a b : Bool) (st : State) → Fits s a st → Fits s (a && b) st
unfolding Fits
fits_less s a b st h = omega (arith, lighter a b, h)

pub turn_planned : (s : ScenarioPart) (st : State) (t : Turn) → May s st t → IsAsPlanned s st → IsAsPlanned s (after_turn s st t)
unfolding Fits IsWithin
turn_planned s st t may h =
    let x = acted s st t in
    let y = turn_counted x in
    let later = acted_later s st t in
    let any = any_comes y.clock.turns st.clock.puts y.clock.puts s.restarts in
    let fall : to_come (st.clock.turns + 1) x.clock.puts s.restarts + weight (any_comes (st.clock.turns + 1) st.clock.puts x.clock.puts s.restarts) ≤ to_come st.clock.turns st.clock.puts s.restarts = falls st.clock.turns st.clock.puts x.clock.puts s.restarts later.puts in
    let here : to_come (x.clock.turns + 1) x.clock.puts s.restarts + weight (any_comes (x.clock.turns + 1) st.clock.puts x.clock.puts s.restarts) ≤ to_come st.clock.turns st.clock.puts s.restarts =
    subst (λ (n : ℕ). to_come (n + 1) x.clock.puts s.restarts + weight (any_comes (n + 1) st.clock.puts x.clock.puts s.restarts) ≤ to_come st.clock.turns st.clock.puts s.restarts) (sym later.turns) fall in
    let fits : Fits s any y = omega (arith, here, h.boots, later.boots) in
    let stops = stop_comes s st.clock.puts y in
    moved s (restart_comes s st.clock.puts y) (not (is_over y)) (stops && not (is_over y)) y (fits_less s any (not stops) y fits) (acted_within s st t may h.begun)

pub start_planned : (s : ScenarioPart) → IsAsPlanned s (start s)
unfolding Fits IsWithin
start_planned s =
    let x = opened_state s in
    let any = any_comes 0 0 0 s.restarts in
    let fits : Fits s any x = omega (arith, firsts s.restarts) in
    let stops = stop_comes s 0 x in
    moved s (restart_comes s 0 x) (not (is_over x)) (stops && not (is_over x)) x (fits_less s any (not stops) x fits) (omega arith)

history_from : (s : ScenarioPart) (st : State) (turns : List Turn) → RunsFrom s st turns → IsAsPlanned s st → IsAsPlanned s (state_after s st turns)
history_from s st [] runs h = h
history_from s st (t ∷ turns) runs h = history_from s (after_turn s st t) turns runs.1 (turn_planned s st t runs.0 h)

pub history_planned : (s : ScenarioPart) (turns : List Turn) → Runs s turns → IsAsPlanned s (state_after s (start s) turns)
history_planned s turns runs = history_from s (start s) turns runs (start_planned s)

-- ---- the plans of a lawful scenario

kept : (b : Bool) (m : Moment) (ms : List Moment) (n : ℕ) → length ms ≤ n → length (cond b (m ∷ ms) ms) ≤ cond b 1 0 + n
kept true m ms n h = omega (arith, h)
kept false m ms n h = omega (arith, h)

restarts_counted : (p : ℕ) (xs : List Restart) → length (restarts_of p xs) ≤ count_by (is_restart_of p) xs
restarts_counted p [] = omega arith
restarts_counted p (x ∷ xs) =
    subst (λ (n : ℕ). length (restarts_of p (x ∷ xs)) ≤ n) (sym (sum_by-cons (λ y. cond (is_restart_of p y) 1 0) x xs))
    (kept (is_restart_of p x) x.moment (restarts_of p xs) (count_by (is_restart_of p) xs) (restarts_counted p xs))

each_short : (n : ℕ) (xs : List (List Command)) → boots_commands xs ≤ n → n ≤ COMMAND_LIMIT → AllByRecursion IsShort xs
unfolding boots_commands
each_short n [] h l = tt
each_short n (x ∷ xs) h l =
    let more = sum_by-cons length x xs in
    (omega (arith, h, l, more), each_short n xs (omega (arith, h, more)) l)

part_commands : (xss : List (List (List Command))) (p : ℕ) → boots_commands (get_or xss p []) ≤ command_count xss
unfolding boots_commands
part_commands [] p = omega arith
part_commands (xs ∷ xss) zero = omega (arith, sum_by-cons boots_commands xs xss)
part_commands (xs ∷ xss) (suc p) = omega (arith, part_commands xss p, sum_by-cons boots_commands xs xss)

pub lawful_few : (s : Scenario) (p : ℕ) → IsLawful s → p < s.count → HasFewPlans (part_of s p)
lawful_few s p law low = record {
  restarts = omega (arith, restarts_counted p s.restarts, law.settings.restarts.few p low);
  scripts = each_short (command_count s.scripts) (boots_of s p) (part_commands s.scripts p) law.limits.commands;
}

script_short : (xs : List (List Command)) (k : ℕ) → AllByRecursion IsShort xs → length (get_or xs k []) ≤ COMMAND_LIMIT
script_short [] k h = omega arith
script_short (x ∷ xs) zero h = h.0
script_short (x ∷ xs) (suc k) h = script_short xs k h.1

pub few_begun : (s : ScenarioPart) (st : State) → HasFewPlans s → IsAsPlanned s st → (st.clock.boots ≤ RESTART_LIMIT + 1) × (st.script.begun ≤ COMMAND_LIMIT)
few_begun s st few h = (omega (arith, few.restarts, h.boots), omega (arith, h.begun, script_short s.scripts (st.clock.boots - 1) few.scripts))
