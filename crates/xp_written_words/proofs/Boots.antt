-- A partition boots once, and once more for each restart that is planned for it at most: each moment comes once.
use Rattle.std.proofs.Common.{◌≡◌, ℕ, suc, ◌+◌, ◌≤◌, Bool, true, false, ◌&&◌, ◌||◌, not, cond, eqb, ltb, List, [], ◌∷◌, length, refl, ap, sym, ◌∙◌, subst, arith, Option, Some, None}
use Rattle.std.specs.Prelude.{count_by}
use Rattle.std.specs.List.{list_any}
use Rattle.std.proofs.lemmas.Bool.{and_parts, eqb-true}
use Rattle.std.proofs.lemmas.Bool.Decides.{nat_tests}
use Rattle.std.proofs.lemmas.List.Sums.{sum_by-cons}
use Rattle.xp_base.specs.declared.step.Answer.{Answer}
use Rattle.xp_base.specs.declared.step.Answer.TheVariants.{Word, Failed}
use Rattle.xp_base.specs.History.{Act, Marked, Turn}
use Rattle.xp_script.specs.declared.part.ScenarioPart.{ScenarioPart}
use Rattle.xp_script.specs.declared.setting.Moment.{Moment}
use Rattle.xp_script.specs.declared.setting.Moment.TheVariants.{Put, Turn as AtTurn}
use Rattle.xp_script.specs.declared.setting.Restart.{Restart}
use Rattle.xp_script.specs.Lawful.{is_restart_of}
use Rattle.xp_script.specs.Parts.{restarts_of}
use Rattle.xp_protocol.specs.declared.rule.RingRule.TheVariants.{ReadGet, WriteEntryWord, AcceptMessage}
use Rattle.xp_protocol.specs.declared.rule.LinkRule.TheVariants.{Ring, Pull, Acknowledge, SetFlag, ZeroGet, ZeroPut, StoreArgument, ReadArgument}
use Rattle.xp_protocol.specs.declared.rule.Rule.{Rule}
use Rattle.xp_protocol.specs.declared.rule.Rule.TheVariants.{Link, Peer as ForPeer, Own}
use Rattle.xp_protocol.specs.Parts.{comes_at, any_comes}
use Rattle.xp_protocol.specs.State.{State, Clock, opened_state}
use Rattle.xp_protocol.specs.Rules.{puts_after}
use Rattle.xp_protocol.specs.Decode.{rule_of}
use Rattle.xp_protocol.specs.Acts.{Aim, aimed, with_aim, after_act, after_acts}
use Rattle.xp_protocol.specs.Runs.{start, after_ruled, after_step, after_turn, acted, moment, moment_by, turn_counted, restart_comes, stop_comes, is_over, state_after}

abbrev one_if : Bool → ℕ
one_if b = cond b 1 0

-- a moment that hasn't come after so many turns and puts
abbrev is_ahead : ℕ → ℕ → Moment → Bool
is_ahead turns puts (AtTurn t) = ltb turns t
is_ahead turns puts (Put k) = ltb puts k

abbrev ahead : ℕ → ℕ → List Moment → ℕ
ahead turns puts [] = 0
ahead turns puts (m ∷ ms) = one_if (is_ahead turns puts m) + ahead turns puts ms

one_low : (b : Bool) → one_if b ≤ 1
one_low true = omega arith
one_low false = omega arith

at_most_all : (turns puts : ℕ) (ms : List Moment) → ahead turns puts ms ≤ length ms
at_most_all turns puts [] = omega arith
at_most_all turns puts (m ∷ ms) = omega (arith, one_low (is_ahead turns puts m), at_most_all turns puts ms)

-- one that comes is no longer ahead
come : (turns earlier puts : ℕ) (m : Moment) → comes_at turns earlier puts m ≡ true → is_ahead turns puts m ≡ false
come turns earlier puts (AtTurn t) h = let e = eqb-true turns t h in same turns t e where
  same : (a b : ℕ) → a ≡ b → ltb a b ≡ false
  same a b e = grind (arith, nat_tests)
come turns earlier puts (Put k) h = let a = and_parts (eqb puts k) (ltb earlier puts) h in same puts k (eqb-true puts k a.0) where
  same : (a b : ℕ) → a ≡ b → ltb a b ≡ false
  same a b e = grind (arith, nat_tests)

come_first : (turns earlier puts : ℕ) (ms : List Moment) → any_comes turns earlier puts ms ≡ true → ahead turns puts ms + 1 ≤ length ms
come_first turns earlier puts [] h = absurd (cc)
come_first turns earlier puts (m ∷ ms) h = by (comes_at turns earlier puts m) refl h (λ k. come_first turns earlier puts ms k) where
  by : (b : Bool) → comes_at turns earlier puts m ≡ b → (b || list_any (comes_at turns earlier puts) ms) ≡ true → (any_comes turns earlier puts ms ≡ true → ahead turns puts ms + 1 ≤ length ms) → one_if (is_ahead turns puts m) + ahead turns puts ms + 1 ≤ suc (length ms)
  by true e k more =
      let none : one_if (is_ahead turns puts m) ≡ 0 = ap one_if (come turns earlier puts m e) in
      omega (arith, none, at_most_all turns puts ms)
  by false e k more = omega (arith, one_low (is_ahead turns puts m), more k)

-- in a turn no moment goes back, and one that comes was ahead
lower : (a b : ℕ) → a ≤ b → (t : ℕ) → one_if (ltb b t) ≤ one_if (ltb a t)
lower a b l t = grind (arith, nat_tests)

less_one : (turns earlier puts : ℕ) (m : Moment) → earlier ≤ puts → one_if (is_ahead (turns + 1) puts m) ≤ one_if (is_ahead turns earlier m)
less_one turns earlier puts (AtTurn t) l = lower turns (turns + 1) (omega arith) t
less_one turns earlier puts (Put k) l = lower earlier puts l k

less : (turns earlier puts : ℕ) (ms : List Moment) → earlier ≤ puts → ahead (turns + 1) puts ms ≤ ahead turns earlier ms
less turns earlier puts [] l = omega arith
less turns earlier puts (m ∷ ms) l = omega (arith, less_one turns earlier puts m l, less turns earlier puts ms l)

was_ahead : (turns earlier puts : ℕ) (m : Moment) → comes_at (turns + 1) earlier puts m ≡ true → is_ahead turns earlier m ≡ true
was_ahead turns earlier puts (AtTurn t) h = let e = eqb-true (turns + 1) t h in above turns t e where
  above : (a b : ℕ) → a + 1 ≡ b → ltb a b ≡ true
  above a b e = grind (arith, nat_tests)
was_ahead turns earlier puts (Put k) h = let a = and_parts (eqb puts k) (ltb earlier puts) h in subst (λ (x : ℕ). ltb earlier x ≡ true) (eqb-true puts k a.0) a.1

come_next : (turns earlier puts : ℕ) (ms : List Moment) → earlier ≤ puts → any_comes (turns + 1) earlier puts ms ≡ true → ahead (turns + 1) puts ms + 1 ≤ ahead turns earlier ms
come_next turns earlier puts [] l h = absurd (cc)
come_next turns earlier puts (m ∷ ms) l h = by (comes_at (turns + 1) earlier puts m) refl h (λ k. come_next turns earlier puts ms l k) where
  by : (b : Bool) → comes_at (turns + 1) earlier puts m ≡ b → (b || list_any (comes_at (turns + 1) earlier puts) ms) ≡ true → (any_comes (turns + 1) earlier puts ms ≡ true → ahead (turns + 1) puts ms + 1 ≤ ahead turns earlier ms) → one_if (is_ahead (turns + 1) puts m) + ahead (turns + 1) puts ms + 1 ≤ one_if (is_ahead turns earlier m) + ahead turns earlier ms
  by true e k more =
      let none : one_if (is_ahead (turns + 1) puts m) ≡ 0 = ap one_if (come (turns + 1) earlier puts m e) in
      let one : one_if (is_ahead turns earlier m) ≡ 1 = ap one_if (was_ahead turns earlier puts m e) in
      omega (arith, none, one, less turns earlier puts ms l)
  by false e k more = omega (arith, less_one turns earlier puts m l, more k)

-- what acts and a step leave of the counts
record Goes (x y : Clock) : Type 0 where
  boots : y.boots ≡ x.boots
  turns : y.turns ≡ x.turns
  puts : x.puts ≤ y.puts

aim_clock : (o : Option Aim) (st : State) → (with_aim o st).clock ≡ st.clock
aim_clock None st = refl
aim_clock (Some y) st = refl

acts_clock : (su : ScenarioPart) (st : State) (more : List Act) → (after_acts su st more).clock ≡ st.clock
acts_clock su st [] = refl
acts_clock su st (a ∷ more) = acts_clock su (after_act su st a) more ∙ aim_clock (aimed su st a) st

more_puts : (r : Rule) (a : Answer) (puts : ℕ) → puts ≤ puts_after r a puts
more_puts (Link q c (Ring AcceptMessage)) (Word w) puts = omega arith
more_puts (Link q c (Ring AcceptMessage)) Failed puts = omega arith
more_puts (Link q c (Ring ReadGet)) a puts = omega arith
more_puts (Link q c (Ring (WriteEntryWord f))) a puts = omega arith
more_puts (Link q c (Pull m)) a puts = omega arith
more_puts (Link q c Acknowledge) a puts = omega arith
more_puts (Link q c (SetFlag k)) a puts = omega arith
more_puts (Link q c ZeroGet) a puts = omega arith
more_puts (Link q c ZeroPut) a puts = omega arith
more_puts (Link q c (StoreArgument x)) a puts = omega arith
more_puts (Link q c (ReadArgument x)) a puts = omega arith
more_puts (ForPeer q m) a puts = omega arith
more_puts (Own m) a puts = omega arith

ruled_goes : (su : ScenarioPart) (st : State) (o : Option Rule) (a : Answer) → Goes st.clock (after_ruled su st o a).clock
ruled_goes su st None a = record { boots = refl; turns = refl; puts = omega arith }
ruled_goes su st (Some r) a = record { boots = refl; turns = refl; puts = more_puts r a st.clock.puts }

step_goes : (su : ScenarioPart) (st : State) (o : Option Marked) → Goes st.clock (after_step su st o).clock
step_goes su st None = record { boots = refl; turns = refl; puts = omega arith }
step_goes su st (Some x) = ruled_goes su st (rule_of su st x.step.op x.mark) x.step.answer

acted_goes : (su : ScenarioPart) (st : State) (t : Turn) → Goes st.clock (acted su st t).clock
acted_goes su st t =
    let one = after_acts su st t.before in
    let two = after_step su one t.made in
    let k = step_goes su one t.made in
    let a : Goes st.clock two.clock = subst (λ (x : Clock). Goes x two.clock) (acts_clock su st t.before) k in
    subst (λ (x : Clock). Goes st.clock x) (sym (acts_clock su two t.after)) a

-- the boots so far, and the restarts that may still come
abbrev Counted : ScenarioPart → State → Type 0
Counted su st = st.clock.boots + ahead st.clock.turns st.clock.puts su.restarts ≤ 1 + length su.restarts

both_true : (a b : Bool) → (a && b) ≡ true → a ≡ true
both_true a b h = (and_parts a b h).0

moment_counted : (su : ScenarioPart) (earlier : ℕ) (st : State) → (any_comes st.clock.turns earlier st.clock.puts su.restarts ≡ true → st.clock.boots + 1 + ahead st.clock.turns st.clock.puts su.restarts ≤ 1 + length su.restarts) → Counted su st → Counted su (moment su earlier st)
moment_counted su earlier st comes h = by (restart_comes su earlier st && not (is_over st)) refl (stop_comes su earlier st && not (is_over st)) where
  by : (b : Bool) → (restart_comes su earlier st && not (is_over st)) ≡ b → (stops : Bool) → Counted su (moment_by su b stops st)
  by true e stops = comes (both_true (any_comes st.clock.turns earlier st.clock.puts su.restarts) (not (stop_comes su earlier st)) (both_true (restart_comes su earlier st) (not (is_over st)) e))
  by false e true = h
  by false e false = h

start_counted : (su : ScenarioPart) → Counted su (start su)
start_counted su = moment_counted su 0 (opened_state su) (λ e. (let l = come_first 0 0 0 su.restarts e in omega (arith, l))) (let l = at_most_all 0 0 su.restarts in omega (arith, l))

turn_counts : (su : ScenarioPart) (st : State) (t : Turn) → Counted su st → Counted su (after_turn su st t)
turn_counts su st t h =
    let y = acted su st t in
    let g = acted_goes su st t in
    let now = turn_counted y in
    let goes : y.clock.turns ≡ st.clock.turns = g.turns in
    let boots : y.clock.boots ≡ st.clock.boots = g.boots in
    let A : ℕ → Type 0 = λ n. ahead (n + 1) y.clock.puts su.restarts ≤ ahead st.clock.turns st.clock.puts su.restarts in
    let B : ℕ → Type 0 = λ n. any_comes (n + 1) st.clock.puts y.clock.puts su.restarts ≡ true → ahead (n + 1) y.clock.puts su.restarts + 1 ≤ ahead st.clock.turns st.clock.puts su.restarts in
    let low : A y.clock.turns = subst A (sym goes) (less st.clock.turns st.clock.puts y.clock.puts su.restarts g.puts) in
    let next : B y.clock.turns = subst B (sym goes) (come_next st.clock.turns st.clock.puts y.clock.puts su.restarts g.puts) in
    moment_counted su st.clock.puts now (λ e. (let l = next e in omega (arith, l, boots, h))) (omega (arith, low, boots, h))

counts : (su : ScenarioPart) (st : State) (ts : List Turn) → Counted su st → Counted su (state_after su st ts)
counts su st [] h = h
counts su st (t ∷ ts) h = counts su (after_turn su st t) ts (turn_counts su st t h)

pub boots_few : (su : ScenarioPart) (ts : List Turn) → (state_after su (start su) ts).clock.boots ≤ 1 + length su.restarts
boots_few su ts = let h = counts su (start su) ts (start_counted su) in omega (arith, h)

pub restarts_counted : (p : ℕ) (xs : List Restart) → length (restarts_of p xs) ≡ count_by (is_restart_of p) xs
restarts_counted p [] = refl
restarts_counted p (x ∷ xs) = by (is_restart_of p x) (restarts_counted p xs) ∙ sym (sum_by-cons (λ (y : Restart). one_if (is_restart_of p y)) x xs) where
  by : (b : Bool) → length (restarts_of p xs) ≡ count_by (is_restart_of p) xs → length (cond b (x.moment ∷ restarts_of p xs) (restarts_of p xs)) ≡ one_if b + count_by (is_restart_of p) xs
  by true e = omega (arith, e)
  by false e = omega (arith, e)
