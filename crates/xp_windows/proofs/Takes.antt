-- A take that goes on loads the next entry at the own place, where there is one. Else it waits for put,
-- and loads it at its partner's: in the first turn of the errand that loads the counters, where a copy
-- goes on there, or in the second, behind the get of a new one.
use Rattle.std.proofs.Common.{◌≡◌, ℕ, ◌+◌, ◌*◌, ◌<◌, ◌≤◌, Bool, true, false, ◌&&◌, ◌||◌, List, [], ◌∷◌, length, refl, ap, sym, ◌∙◌, subst, arith, inl, inr, ◌⊎◌, Option, Some, None}
use Rattle.std.specs.Prelude.{IsSome, is_some, not, nat_lt, if◌then◌else◌}
use Rattle.std.proofs.lemmas.Bool.{or_parts, cases_lt}
use Rattle.std.proofs.lemmas.Bool.Decides.{nat_tests}
use Rattle.xp_base.specs.declared.layout.TheConstants.{CHANNELS}
use Rattle.xp_base.specs.declared.reason.Reason.TheVariants.{BadCounters}
use Rattle.xp_base.specs.declared.step.Answer.{Answer}
use Rattle.xp_base.specs.declared.step.Answer.TheVariants.{Word, Failed}
use Rattle.xp_base.specs.History.{Turn}
use Rattle.xp_script.specs.declared.command.Command.{Command}
use Rattle.xp_script.specs.declared.part.ScenarioPart.{ScenarioPart}
use Rattle.xp_rounds.specs.declared.rounds.TheConstants.{VISIT_TURNS}
use Rattle.xp_rounds.specs.Visit.{Visit}
use Rattle.xp_rounds.proofs.Duties.{Along, Duty, Moved, done}
use Rattle.xp_rounds.proofs.Spots.{Spot}
use Rattle.xp_protocol.specs.declared.rule.RingRule.TheVariants.{ReadGet, WriteEntryWord, AcceptMessage}
use Rattle.xp_protocol.specs.declared.rule.PullRule.{PullRule}
use Rattle.xp_protocol.specs.declared.rule.PullRule.TheVariants.{ReadCounters, ReadEntry}
use Rattle.xp_protocol.specs.declared.rule.LinkRule.{LinkRule}
use Rattle.xp_protocol.specs.declared.rule.LinkRule.TheVariants.{Ring, Pull, Acknowledge, SetFlag, ZeroGet, ZeroPut, StoreArgument, ReadArgument}
use Rattle.xp_protocol.specs.declared.rule.Rule.TheVariants.{Link}
use Rattle.xp_protocol.specs.Effects.{Effect, PullNote, Heard}
use Rattle.xp_protocol.specs.Pulling.{Pulling, SenderCounters, pull_effect, counters_pulled, is_bad_counter, is_bad_put, shown_empty}
use Rattle.xp_protocol.specs.State.{State, End, Sides, end_of, is_connected}
use Rattle.xp_protocol.specs.Linking.{by_pull, sender_counters, acknowledged, release_notes}
use Rattle.xp_protocol.specs.Rules.{end_failed, mark_of}
use Rattle.xp_protocol.specs.Acts.{current}
use Rattle.xp_protocol.specs.Parts.{fails_at}
use Rattle.xp_protocol.specs.Runs.{after_turn, is_failed}
use Rattle.xp_plan.specs.declared.errand.Errand.{Errand}
use Rattle.xp_plan.specs.declared.errand.Errand.TheVariants as errands
use Rattle.xp_plan.specs.EndSteps.{step_if, has_entry, is_polling, take_at, counters_at}
use Rattle.xp_plan.specs.Plan.{plan_of, asked, command_asked, script_asked}
use Rattle.xp_windows.specs.Windows.{middle, At, TakesOn, IsMet, IsTaking, SomeTurn, Steps}
use Rattle.xp_windows.specs.Visited.{rule_made}
use Rattle.xp_windows.proofs.Held.{Held}
use Rattle.xp_windows.proofs.Places.{Turns, Run, run_next, first_holds, asks, asks_own, own_fits, fits_script, fits_counters}
use Rattle.xp_windows.proofs.Asked.{steps_by}
use Rattle.xp_windows.proofs.Keeps.{ActsKeep, acts_keep, turn_keeps, among}
use Rattle.xp_windows.proofs.Made.{Does, step_makes}
use Rattle.xp_windows.proofs.Polls.{Load}
use Rattle.xp_windows.proofs.Copies.{Goes, goes_acts, none_going, begun_going, wants_by}
use Rattle.xp_windows.proofs.Throughout.{asked_link}
use Rattle.xp_windows.proofs.Frame.{While, Framed, OwnSteps, stands, hears_keep, pulled_keeps, begun_keeps, answered_keeps, noticed_keeps}
use Rattle.xp_windows.proofs.Kept.{kept_in_time}

-- the next entry may be loaded, or not
abbrev Shows : Bool → Bool → Sides → Type 0
Shows there b x = has_entry x.pull ≡ there

shows_framed : (there : Bool) → Framed (Shows there)
shows_framed there = record {
  owed = λ b x h. h;
  sent = λ b x y h. h;
  numbers = λ b x ns h. h;
  drains = λ b d x h. h;
  taking = λ b x o put h. h;
  taken = λ b x h. h;
  released = λ b r x number h. h;
}

-- a copy of the counters leaves an entry that may be loaded
grown : (pulled put w : ℕ) → nat_lt pulled put ≡ true → nat_lt w put ≡ false → nat_lt pulled w ≡ true
grown pulled put w h b = grind (arith, nat_tests)

get_shows : (there b : Bool) (x : Pulling) (y : SenderCounters) (w : ℕ) → has_entry x ≡ there → let f : Effect Pulling (List PullNote) = if b then record { local = record x { owed = false }; reason = Some (BadCounters w y.put); notes = [] } else record { local = record x { counters = Some w; known = w; owed = false }; reason = None; notes = Heard w ∷ [] } in has_entry f.local ≡ there
get_shows there true x y w h = h
get_shows there false x y w h = h

put_shows : (b : Bool) (get : ℕ) (y : SenderCounters) (x : Pulling) (w : ℕ) → is_bad_put y x w ≡ b → has_entry x ≡ true → let f : Effect Pulling (List PullNote) = if b then record { local = record x { counters = None }; reason = Some (BadCounters get w); notes = [] } else record { local = record x { counters = None; pulled_put = w; empty = shown_empty x w }; reason = None; notes = [] } in has_entry f.local ≡ true
put_shows true get y x w e h = h
put_shows false get y x w e h = grown x.pulled x.pulled_put w h (or_parts (nat_lt w x.pulled_put) (nat_lt (y.front + x.entries) w) e).0

counters_show : (y : SenderCounters) (o : Option ℕ) (x : Pulling) (w : ℕ) → has_entry x ≡ true → has_entry (counters_pulled y o x w).local ≡ true
counters_show y None x w h = get_shows true (is_bad_counter y w) x y w h
counters_show y (Some get) x w h = put_shows (is_bad_put y x w) get y x w refl h

there_pulls : (e : End) (m : PullRule) (w : ℕ) → has_entry e.sides.pull ≡ true → TakesOn e (Pull m) ⊎ While (Shows true) (by_pull e (pull_effect (sender_counters e.sides) e.sides.pull m w)).local
there_pulls e ReadEntry w h = inl tt
there_pulls e ReadCounters w h = inr (pulled_keeps (Shows true) (shows_framed true) (λ b x i. i) e (counters_pulled (sender_counters e.sides) e.sides.pull.counters e.sides.pull w) (λ a b. counters_show (sender_counters e.sides) e.sides.pull.counters e.sides.pull w h))

-- and so does its get, where none may be
missing_counters : (e : End) (w : ℕ) (o : Option ℕ) → e.sides.pull.counters ≡ o → has_entry e.sides.pull ≡ false → TakesOn e (Pull ReadCounters) ⊎ While (Shows false) (by_pull e (counters_pulled (sender_counters e.sides) o e.sides.pull w)).local
missing_counters e w None i h = inr (pulled_keeps (Shows false) (shows_framed false) (λ b x j. j) e (counters_pulled (sender_counters e.sides) None e.sides.pull w) (λ a b. get_shows false (is_bad_counter (sender_counters e.sides) w) e.sides.pull (sender_counters e.sides) w h))
missing_counters e w (Some get) i h = inl (h, subst (λ (o : Option ℕ). IsSome o) (sym i) refl)

missing_pulls : (e : End) (m : PullRule) (w : ℕ) → has_entry e.sides.pull ≡ false → TakesOn e (Pull m) ⊎ While (Shows false) (by_pull e (pull_effect (sender_counters e.sides) e.sides.pull m w)).local
missing_pulls e ReadEntry w h = inl tt
missing_pulls e ReadCounters w h = missing_counters e w e.sides.pull.counters refl h

there_fails : (s : ScenarioPart) (st : State) (q c : ℕ) (m : LinkRule) → has_entry (end_of st q c).sides.pull ≡ true → TakesOn (end_of st q c) m ⊎ While (Shows true) (end_failed (mark_of s st (Link q c m)) (end_of st q c))
there_fails s st q c (Ring ReadGet) h = inr (λ a b. h)
there_fails s st q c (Ring (WriteEntryWord f)) h = inr (λ a b. h)
there_fails s st q c (Ring AcceptMessage) h = inr (λ a b. h)
there_fails s st q c (Pull ReadEntry) h = inl tt
there_fails s st q c (Pull ReadCounters) h = inr (λ a b. h)
there_fails s st q c Acknowledge h = inr (λ a b. h)
there_fails s st q c (SetFlag k) h = inr (λ a b. h)
there_fails s st q c ZeroGet h = inr (λ a b. h)
there_fails s st q c ZeroPut h = inr (λ a b. h)
there_fails s st q c (StoreArgument x) h = inr (λ a b. h)
there_fails s st q c (ReadArgument x) h = inr (λ a b. h)

missing_fails : (s : ScenarioPart) (st : State) (q c : ℕ) (m : LinkRule) → has_entry (end_of st q c).sides.pull ≡ false → TakesOn (end_of st q c) m ⊎ While (Shows false) (end_failed (mark_of s st (Link q c m)) (end_of st q c))
missing_fails s st q c (Ring ReadGet) h = inr (λ a b. h)
missing_fails s st q c (Ring (WriteEntryWord f)) h = inr (λ a b. h)
missing_fails s st q c (Ring AcceptMessage) h = inr (λ a b. h)
missing_fails s st q c (Pull ReadEntry) h = inl tt
missing_fails s st q c (Pull ReadCounters) h = inr (λ a b. h)
missing_fails s st q c Acknowledge h = inr (λ a b. h)
missing_fails s st q c (SetFlag k) h = inr (λ a b. h)
missing_fails s st q c ZeroGet h = inr (λ a b. h)
missing_fails s st q c ZeroPut h = inr (λ a b. h)
missing_fails s st q c (StoreArgument x) h = inr (λ a b. h)
missing_fails s st q c (ReadArgument x) h = inr (λ a b. h)

stored_shows : (there : Bool) (e : End) → has_entry e.sides.pull ≡ there → While (Shows there) (acknowledged e).local
stored_shows there e h = hears_keep (Shows there) (shows_framed there) (λ b x i. i) (release_notes e.sides.releasing e.sides.ack.front) (record e { sides = record e.sides { local_get = e.sides.ack.front; releasing = false }; shake = record e.shake { owes_message = true } }) (λ a b. h)

there_steps : OwnSteps (Shows true) (shows_framed true) TakesOn
there_steps = record { accepted = λ b x h. h; pulls = there_pulls; stores = λ e h. inr (stored_shows true e h); requests = λ e h. inr h; fails = there_fails }

missing_steps : OwnSteps (Shows false) (shows_framed false) TakesOn
missing_steps = record { accepted = λ b x h. h; pulls = missing_pulls; stores = λ e h. inr (stored_shows false e h); requests = λ e h. inr h; fails = missing_fails }

-- what is asked for
entry_asked : (e : End) → is_connected e ≡ true → IsSome e.sides.pull.take → has_entry e.sides.pull ≡ true → take_at e ≡ Some (Pull ReadEntry)
entry_asked e on take there =
    ap (λ (b : Bool). step_if (b && (is_some e.sides.pull.take && has_entry e.sides.pull)) (Pull ReadEntry)) on
    ∙ ap (λ (b : Bool). step_if (b && has_entry e.sides.pull) (Pull ReadEntry)) take
    ∙ ap (λ (b : Bool). step_if b (Pull ReadEntry)) there

polls_by : (on going owed take there : Bool) → on ≡ true → take ≡ true → there ≡ false → step_if (on && (going || (true && (owed || (take && not there))))) (Pull ReadCounters) ≡ Some (Pull ReadCounters)
polls_by true true owed true false e f g = refl
polls_by true false true true false e f g = refl
polls_by true false false true false e f g = refl
polls_by false going owed take there e f g = absurd (cc)
polls_by true going owed false there e f g = absurd (cc)
polls_by true going owed true true e f g = absurd (cc)

poll_asked : (e : End) → is_connected e ≡ true → IsSome e.sides.pull.take → has_entry e.sides.pull ≡ false → counters_at 0 e ≡ Some (Pull ReadCounters)
poll_asked e on take none = polls_by (is_connected e) (is_some e.sides.pull.counters) e.sides.pull.owed (is_some e.sides.pull.take) (has_entry e.sides.pull) on take none

module _ (boot : ℕ) (s : ScenarioPart) (q c : ℕ) (wait : Bool) (some : 0 < s.count) (x : Spot s.part s.count q) (low : c < CHANNELS) (v : Visit Errand) (st : State) (ts : List Turn) (long : VISIT_TURNS * s.count + VISIT_TURNS < length ts) (y : Turns boot s v st ts) (h : Held (IsTaking s q c wait) s st ts) where
  abbrev Takes : State → Type 0
  Takes z = IsTaking s q c wait z

  entry_step : (z : State) → Takes z → has_entry (end_of z q c).sides.pull ≡ true → asked (script_asked s z 0) ≡ Some (Some (Link q c (Pull ReadEntry)))
  entry_step z g there =
      ap (λ (b : Bool). asked (if b then command_asked s z 0 (current s z) else None)) g.doing
      ∙ ap (λ (o : Option Command). asked (command_asked s z 0 o)) g.now
      ∙ asked_link q c z (take_at (end_of z q c)) (Pull ReadEntry) g.channel.met (entry_asked (end_of z q c) g.channel.connected g.goes_on there)

  entries_loaded : has_entry (end_of st q c).sides.pull ≡ true → SomeTurn (Steps (At q c TakesOn) s) s st ts
  entries_loaded there =
      kept_in_time boot Takes (Shows true) (shows_framed true) TakesOn there_steps s q c 0 errands.Script (λ z g. g.channel)
      (λ z up g. own_fits s errands.Script boot z up (fits_script s))
      (λ z up g r. record { rule = Link q c (Pull ReadEntry); asks = asks_own s errands.Script 0 boot z up ∙ entry_step z g r; is = (refl, refl, tt) })
      (omega arith) (omega arith) v st ts some long y h there

  -- before put is loaded: no entry may be, and where a turn was had a copy goes on
  record Left (n used : ℕ) (z : State) : Type 0 where
    missing : While (Shows false) (end_of z q c)
    few : n + used ≡ 1
    going : used ≡ 1 → While Goes (end_of z q c)

  abbrev Done : State → List Turn → Type 0
  Done z us = SomeTurn (Steps (At q c TakesOn) s) s z us

  abbrev Next : ℕ → ℕ → State → Turn → List Turn → Type 0
  Next n used z t us = Done z (t ∷ us) ⊎ Moved (plan_of s) (middle s) (after_turn s) (rule_made s) s.count (λ _. Run boot Takes s) (λ v st t ts e. run_next boot Takes s st t ts) (Unit {0}) (λ _ n used st. Left n used st) (λ _. Done) tt n used z t us

  abbrev IsAlong : Visit Errand → State → List Turn → Type 0
  IsAlong w z us = Along (plan_of s) (middle s) (after_turn s) (rule_made s) s.count (λ _. Run boot Takes s) (λ v st t ts e. run_next boot Takes s st t ts) w z us

  after_holds : (z : State) (t : Turn) (us : List Turn) → Run boot Takes s z (t ∷ us) → IsMet q (after_turn s z t)
  after_holds z t us r = (first_holds Takes s (after_turn s z t) us r.holds.2).channel.met

  -- the turn loads put, or still none may be loaded
  stays : (z : State) (t : Turn) (us : List Turn) → Run boot Takes s z (t ∷ us) → While (Shows false) (end_of z q c) → Done z (t ∷ us) ⊎ While (Shows false) (end_of (after_turn s z t) q c)
  stays z t us r g = by (turn_keeps (Shows false) (shows_framed false) s q c TakesOn missing_steps z t r.runs.0 r.holds.1.channel.met r.holds.1.channel.connected (after_holds z t us r) g) where
    by : Steps (At q c TakesOn) s z t ⊎ While (Shows false) (end_of (after_turn s z t) q c) → Done z (t ∷ us) ⊎ While (Shows false) (end_of (after_turn s z t) q c)
    by (inl y) = inl (inl y)
    by (inr y) = inr y

  going_after : (z : State) (t : Turn) (us : List Turn) → Run boot Takes s z (t ∷ us) → rule_made s (middle s z t) t ≡ Some (Load q c) → (end_of (middle s z t) q c).sides.pull.counters ≡ None → While Goes (end_of (after_turn s z t) q c)
  going_after z t us r e none = step_makes s q c (While Goes) goes_acts z t (Pull ReadCounters) r.runs.0 r.holds.1.channel.met (among (middle s z t) q c r.holds.1.channel.connected) (after_holds z t us r) e makes where
    makes : (a : Answer) → is_failed a ≡ fails_at s (mark_of s (middle s z t) (Load q c)) → (Does s q c (middle s z t) (Pull ReadCounters) a).reason ≡ None → While Goes (Does s q c (middle s z t) (Pull ReadCounters) a).local
    makes (Word w) f g = λ a b. begun_going (end_of (middle s z t) q c) (end_of (middle s z t) q c).sides.pull.counters w none g
    makes Failed f g = absurd (cc)

  missing_acts : ActsKeep (While (Shows false))
  missing_acts = record { begun = begun_keeps (Shows false) (shows_framed false); answered = answered_keeps (Shows false) (shows_framed false); noticed = noticed_keeps (Shows false) (shows_framed false) }

  missing_now : (z : State) (t : Turn) → Takes (middle s z t) → While (Shows false) (end_of z q c) → has_entry (end_of (middle s z t) q c).sides.pull ≡ false
  missing_now z t g m = stands (Shows false) (end_of (middle s z t) q c) g.channel.connected (acts_keep (While (Shows false)) s q c missing_acts z t.before m)

  going_now : (z : State) (t : Turn) → Takes (middle s z t) → While Goes (end_of z q c) → IsSome (end_of (middle s z t) q c).sides.pull.counters
  going_now z t g m = stands Goes (end_of (middle s z t) q c) g.channel.connected (acts_keep (While Goes) s q c goes_acts z t.before m)

  poll_at : (n used : ℕ) (z : State) (t : Turn) → Takes (middle s z t) → Left n used z → counters_at used (end_of (middle s z t) q c) ≡ Some (Pull ReadCounters)
  poll_at n used z t g w = by (cases_lt 0 used) where
    e : End
    e = end_of (middle s z t) q c

    by : (0 < used) ⊎ (used ≤ 0) → counters_at used (end_of (middle s z t) q c) ≡ Some (Pull ReadCounters)
    by (inl l) =
        let m = w.few in
        wants_by (is_connected e) e.sides.pull.counters (nat_lt used 2) (e.sides.pull.owed || is_polling e.sides.pull) g.channel.connected (inl (going_now z t g (w.going (omega (arith, l, m)))))
    by (inr l) =
        let none : 0 ≡ used = omega (arith, l) in
        subst (λ (j : ℕ). counters_at j (end_of (middle s z t) q c) ≡ Some (Pull ReadCounters)) none (poll_asked e g.channel.connected g.goes_on (missing_now z t g w.missing))

  stepped : (n used : ℕ) (z : State) (t : Turn) (us : List Turn) → Run boot Takes s z (t ∷ us) → Left n used z → rule_made s (middle s z t) t ≡ Some (Load q c) → Next n used z t us
  stepped n used z t us r w e = by (end_of (middle s z t) q c).sides.pull.counters refl (stays z t us r w.missing) where
    by : (o : Option ℕ) → (end_of (middle s z t) q c).sides.pull.counters ≡ o → Done z (t ∷ us) ⊎ While (Shows false) (end_of (after_turn s z t) q c) → Next n used z t us
    by (Some get) f g = inl (inl (steps_by (At q c TakesOn) s z t (Load q c) e (refl, refl, (missing_now z t r.holds.1 w.missing, subst (λ (o : Option ℕ). IsSome o) (sym f) refl))))
    by None f (inl g) = inl g
    by None f (inr g) =
        let m = w.few in
        let first : used ≡ 1 → ⊥ = λ u. none_going (end_of (middle s z t) q c).sides.pull.counters f (going_now z t r.holds.1 (w.going u)) in
        inr (record { fewer = 0; low = omega (arith, m, first); phase = tt; work = record { missing = g; few = omega (arith, m, first); going = λ u. going_after z t us r e f }; lift = λ y. inr y })

  duty : Duty (plan_of s) (middle s) (after_turn s) (rule_made s) s.count (λ _. Run boot Takes s) (λ v st t ts e. run_next boot Takes s st t ts) x.number (errands.Counters c) 0 (λ z. While (Shows false) (end_of z q c)) (Unit {0}) tt (λ _ n used st. Left n used st) (λ _. Done)
  duty = record {
    later = λ z t us g. inr g;
    stays = λ w z t us a far g. stays z t us a.more g;
    fits = λ w z t us a g. fits_counters s q x c boot (middle s z t) low a.more.up.1 a.more.holds.1.channel.met;
    begins = λ w z t us a g. (1, omega arith, record { missing = g; few = refl; going = λ u. absurd (omega (arith, u)) });
    asks = λ ph n used w z t us a far few g. (Some (Load q c), asks s q x (errands.Counters c) used boot (middle s z t) a.more.up.1 ∙ asked_link q c (middle s z t) (counters_at used (end_of (middle s z t) q c)) (Pull ReadCounters) a.more.holds.1.channel.met (poll_at n used z t a.more.holds.1 g), λ e. stepped n used z t us a.more g e);
  }

  put_loaded : has_entry (end_of st q c).sides.pull ≡ false → SomeTurn (Steps (At q c TakesOn) s) s st ts
  put_loaded none =
      done (plan_of s) (middle s) (after_turn s) (rule_made s) s.count (λ _. Run boot Takes s) (λ v st t ts e. run_next boot Takes s st t ts) x.number (errands.Counters c) 0 (λ z. While (Shows false) (end_of z q c)) (Unit {0}) tt (λ _ n used st. Left n used st) (λ _. Done) duty v st ts x.low (omega arith) (omega arith) (omega (arith, long))
      (record { ring = y.ring; places = y.places; follows = y.follows; more = record { runs = y.runs; up = y.up; holds = h } }) (λ a b. none)

  pub takes_made : SomeTurn (Steps (At q c TakesOn) s) s st ts
  takes_made = by (has_entry (end_of st q c).sides.pull) refl where
    by : (b : Bool) → has_entry (end_of st q c).sides.pull ≡ b → SomeTurn (Steps (At q c TakesOn) s) s st ts
    by true e = entries_loaded e
    by false e = put_loaded e
