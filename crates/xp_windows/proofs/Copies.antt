-- A copy of the counters that is owed is begun and over in the next visit: the errand has turns for
-- the end of one that goes on, and for a whole one.
use Rattle.std.proofs.Common.{◌≡◌, ℕ, ◌+◌, ◌*◌, ◌<◌, ◌≤◌, Bool, true, false, ◌&&◌, ◌||◌, List, [], ◌∷◌, ◌++◌, length, refl, ap, sym, ◌∙◌, subst, arith, inl, inr, ◌⊎◌, Option, Some, None}
use Rattle.std.specs.Prelude.{IsSome, is_some, nat_lt, nat_eq, if◌then◌else◌}
use Rattle.std.proofs.lemmas.Bool.Decides.{nat_tests}
use Rattle.xp_base.specs.declared.layout.TheConstants.{CHANNELS}
use Rattle.xp_base.specs.declared.reason.Reason.{Reason}
use Rattle.xp_base.specs.declared.reason.Reason.TheVariants.{BadCounters}
use Rattle.xp_base.specs.declared.step.Answer.{Answer}
use Rattle.xp_base.specs.declared.step.Answer.TheVariants.{Word, Failed}
use Rattle.xp_base.specs.History.{Marked, Turn}
use Rattle.xp_script.specs.declared.part.ScenarioPart.{ScenarioPart}
use Rattle.xp_rounds.specs.declared.rounds.TheConstants.{VISIT_TURNS}
use Rattle.xp_rounds.specs.Ring.{place_at}
use Rattle.xp_rounds.specs.Visit.{Visit, planned, cost}
use Rattle.xp_rounds.proofs.Visits.{Busy, busy_turn}
use Rattle.xp_rounds.proofs.Sources.{Paced, Source, source, planned_paced}
use Rattle.xp_rounds.proofs.Duties.{Along, along_next, Duty, Moved, done}
use Rattle.xp_rounds.proofs.Spots.{Spot}
use Rattle.xp_protocol.specs.declared.rule.RingRule.TheVariants.{ReadGet, WriteEntryWord, AcceptMessage}
use Rattle.xp_protocol.specs.declared.rule.PullRule.{PullRule}
use Rattle.xp_protocol.specs.declared.rule.PullRule.TheVariants.{ReadCounters, ReadEntry}
use Rattle.xp_protocol.specs.declared.rule.LinkRule.{LinkRule}
use Rattle.xp_protocol.specs.declared.rule.LinkRule.TheVariants.{Ring, Pull, Acknowledge, SetFlag, ZeroGet, ZeroPut, StoreArgument, ReadArgument}
use Rattle.xp_protocol.specs.declared.rule.Rule.{Rule}
use Rattle.xp_protocol.specs.declared.rule.Rule.TheVariants.{Link, Peer as ForPeer, Own}
use Rattle.xp_protocol.specs.Parts.{fails_at}
use Rattle.xp_protocol.specs.Effects.{Effect, PullNote, Heard}
use Rattle.xp_protocol.specs.Pulling.{Pulling, SenderCounters, pull_effect, counters_pulled, put_pulled, is_bad_counter, is_bad_put, shown_empty, entry_pulled, run_copied, run_fault, run_now, words_each}
use Rattle.xp_protocol.specs.State.{State, End, Sides, end_of, is_connected}
use Rattle.xp_protocol.specs.Linking.{by_pull, sender_counters, release_notes}
use Rattle.xp_protocol.specs.Rules.{end_failed, mark_of}
use Rattle.xp_protocol.specs.Runs.{after_turn, is_failed}
use Rattle.xp_plan.specs.declared.errand.Errand.{Errand}
use Rattle.xp_plan.specs.declared.errand.Errand.TheVariants as errands
use Rattle.xp_plan.specs.EndSteps.{step_if, is_polling, counters_at}
use Rattle.xp_plan.specs.Plan.{plan_of, agenda_at}
use Rattle.xp_plan.proofs.Visiting.{agenda_fits}
use Rattle.xp_windows.specs.Windows.{middle, At, BeginsCopy, EndsCopy, IsUp, IsMet, IsOpen, SomeTurn, SomeThen, Steps}
use Rattle.xp_windows.proofs.Held.{Held}
use Rattle.xp_windows.specs.Visited.{rule_by, rule_made}
use Rattle.xp_windows.proofs.Places.{Turns, Run, run_next, first_holds, asks, fits_counters}
use Rattle.xp_windows.proofs.Asked.{steps_by}
use Rattle.xp_windows.proofs.Throughout.{asked_link}
use Rattle.xp_windows.proofs.Frame.{While, Framed, OwnSteps, stands, hears_keep, pulled_keeps, begun_keeps, answered_keeps, noticed_keeps}
use Rattle.xp_windows.proofs.Keeps.{ActsKeep, acts_keep, turn_keeps, among}
use Rattle.xp_windows.proofs.Made.{Does, step_makes}
use Rattle.xp_windows.proofs.Polls.{Load, Going, Asker, asker, one_place}

-- a copy is owed
abbrev pub Owing : Bool → Sides → Type 0
Owing b x = x.pull.owed ≡ true

abbrev Owed : Pulling → Type 0
Owed x = x.owed ≡ true

owing_framed : Framed Owing
owing_framed = record {
  owed = λ b x h. refl;
  sent = λ b x y h. h;
  numbers = λ b x ns h. h;
  drains = λ b d x h. h;
  taking = λ b x o put h. h;
  taken = λ b x h. h;
  released = λ b r x number h. h;
}

copied_owed : (o : Option Reason) (n : ℕ) (words : List ℕ) (x : Pulling) → Owed x → Owed (run_copied o n words x).local
copied_owed None n words x h = h
copied_owed (Some r) n words x h = h

loaded_owed : (b : Bool) (n : ℕ) (words : List ℕ) (x : Pulling) → Owed x → let f : Effect Pulling (List PullNote) = if b then run_copied (run_fault x.limit x.pulled n words) n words x else record { local = record x { copied = words; run = n }; reason = None; notes = [] } in Owed f.local
loaded_owed true n words x h = copied_owed (run_fault x.limit x.pulled n words) n words x h
loaded_owed false n words x h = h

put_owed : (b : Bool) (get : ℕ) (y : SenderCounters) (x : Pulling) (w : ℕ) → Owed x → let f : Effect Pulling (List PullNote) = if b then record { local = record x { counters = None }; reason = Some (BadCounters get w); notes = [] } else record { local = record x { counters = None; pulled_put = w; empty = shown_empty x w }; reason = None; notes = [] } in Owed f.local
put_owed true get y x w h = h
put_owed false get y x w h = h

keeps_pull : (e : End) (f : Effect Pulling (List PullNote)) → Owed f.local → While Owing (by_pull e f).local
keeps_pull e f h = pulled_keeps Owing owing_framed (λ b x i. i) e f (λ a b. h)

counters_owing : (e : End) (w : ℕ) (o : Option ℕ) → e.sides.pull.counters ≡ o → Owed e.sides.pull → (e.sides.pull.counters ≡ None) ⊎ While Owing (by_pull e (counters_pulled (sender_counters e.sides) o e.sides.pull w)).local
counters_owing e w None i h = inl i
counters_owing e w (Some get) i h = inr (keeps_pull e (put_pulled (sender_counters e.sides) get e.sides.pull w) (put_owed (is_bad_put (sender_counters e.sides) e.sides.pull w) get (sender_counters e.sides) e.sides.pull w h))

pulls_owing : (e : End) (m : PullRule) (w : ℕ) → Owed e.sides.pull → BeginsCopy e (Pull m) ⊎ While Owing (by_pull e (pull_effect (sender_counters e.sides) e.sides.pull m w)).local
pulls_owing e ReadCounters w h = counters_owing e w e.sides.pull.counters refl h
pulls_owing e ReadEntry w h =
    let x = e.sides.pull in
    let words = x.copied ++ w ∷ [] in
    inr (keeps_pull e (entry_pulled words x) (loaded_owed (nat_eq (length words) (words_each x * run_now x)) (run_now x) words x h))

failed_owing : (s : ScenarioPart) (st : State) (q c : ℕ) (m : LinkRule) → Owed (end_of st q c).sides.pull → BeginsCopy (end_of st q c) m ⊎ While Owing (end_failed (mark_of s st (Link q c m)) (end_of st q c))
failed_owing s st q c (Ring ReadGet) h = inr (λ a b. h)
failed_owing s st q c (Ring (WriteEntryWord f)) h = inr (λ a b. h)
failed_owing s st q c (Ring AcceptMessage) h = inr (λ a b. h)
failed_owing s st q c (Pull ReadEntry) h = inr (λ a b. h)
failed_owing s st q c (Pull ReadCounters) h = by (end_of st q c).sides.pull.counters refl where
  by : (o : Option ℕ) → (end_of st q c).sides.pull.counters ≡ o → ((end_of st q c).sides.pull.counters ≡ None) ⊎ While Owing (end_failed (mark_of s st (Link q c (Pull ReadCounters))) (end_of st q c))
  by None e = inl e
  by (Some g) e = inr (λ a b. rw e h)
failed_owing s st q c Acknowledge h = inr (λ a b. h)
failed_owing s st q c (SetFlag k) h = inr (λ a b. h)
failed_owing s st q c ZeroGet h = inr (λ a b. h)
failed_owing s st q c ZeroPut h = inr (λ a b. h)
failed_owing s st q c (StoreArgument x) h = inr (λ a b. h)
failed_owing s st q c (ReadArgument x) h = inr (λ a b. h)

copy_steps : OwnSteps Owing owing_framed BeginsCopy
copy_steps = record {
  accepted = λ b x h. h;
  pulls = pulls_owing;
  stores = λ e h. inr (hears_keep Owing owing_framed (λ b x i. i) (release_notes e.sides.releasing e.sides.ack.front) (record e { sides = record e.sides { local_get = e.sides.ack.front; releasing = false }; shake = record e.shake { owes_message = true } }) (λ a b. h));
  requests = λ e h. inr h;
  fails = failed_owing;
}

-- whether a copy goes on: acts leave it
abbrev pub Goes : Bool → Sides → Type 0
Goes b x = IsSome x.pull.counters

pub goes_framed : Framed Goes
goes_framed = record {
  owed = λ b x h. h;
  sent = λ b x y h. h;
  numbers = λ b x ns h. h;
  drains = λ b d x h. h;
  taking = λ b x o put h. h;
  taken = λ b x h. h;
  released = λ b r x number h. h;
}

pub goes_acts : ActsKeep (While Goes)
goes_acts = record { begun = begun_keeps Goes goes_framed; answered = answered_keeps Goes goes_framed; noticed = noticed_keeps Goes goes_framed }

abbrev Rests : Bool → Sides → Type 0
Rests b x = x.pull.counters ≡ None

rests_framed : Framed Rests
rests_framed = record {
  owed = λ b x h. h;
  sent = λ b x y h. h;
  numbers = λ b x ns h. h;
  drains = λ b d x h. h;
  taking = λ b x o put h. h;
  taken = λ b x h. h;
  released = λ b r x number h. h;
}

rests_acts : ActsKeep (While Rests)
rests_acts = record { begun = begun_keeps Rests rests_framed; answered = answered_keeps Rests rests_framed; noticed = noticed_keeps Rests rests_framed }

pub none_going : (o : Option ℕ) → o ≡ None → IsSome o → ⊥
none_going None e h = absurd (cc)
none_going (Some g) e h = absurd (cc)

-- the first word begins a copy, unless a reason comes; the second one ends it
begun_by : (b : Bool) (e : End) (w : ℕ) → let f : Effect Pulling (List PullNote) = if b then record { local = record e.sides.pull { owed = false }; reason = Some (BadCounters w (sender_counters e.sides).put); notes = [] } else record { local = record e.sides.pull { counters = Some w; known = w; owed = false }; reason = None; notes = Heard w ∷ [] } in (by_pull e f).reason ≡ None → Going (by_pull e f).local
begun_by true e w r = absurd (cc)
begun_by false e w r = refl

pub begun_going : (e : End) (o : Option ℕ) (w : ℕ) → o ≡ None → (by_pull e (counters_pulled (sender_counters e.sides) o e.sides.pull w)).reason ≡ None → Going (by_pull e (counters_pulled (sender_counters e.sides) o e.sides.pull w)).local
begun_going e (Some g) w i = absurd (cc)
begun_going e None w i = begun_by (is_bad_counter (sender_counters e.sides) w) e w

abbrev Still : End → Type 0
Still e = e.sides.pull.counters ≡ None

over_by : (b : Bool) (e : End) (g w : ℕ) → let f : Effect Pulling (List PullNote) = if b then record { local = record e.sides.pull { counters = None }; reason = Some (BadCounters g w); notes = [] } else record { local = record e.sides.pull { counters = None; pulled_put = w; empty = shown_empty e.sides.pull w }; reason = None; notes = [] } in Still (by_pull e f).local
over_by true e g w = refl
over_by false e g w = refl

over_still : (e : End) (o : Option ℕ) (w : ℕ) → IsSome o → Still (by_pull e (counters_pulled (sender_counters e.sides) o e.sides.pull w)).local
over_still e None w i = absurd (cc)
over_still e (Some g) w i = over_by (is_bad_put (sender_counters e.sides) e.sides.pull w) e g w

pub wants_by : (on : Bool) (o : Option ℕ) (b rest : Bool) → on ≡ true → IsSome o ⊎ ((b ≡ true) × (rest ≡ true)) → step_if (on && (is_some o || (b && rest))) (Pull ReadCounters) ≡ Some (Pull ReadCounters)
wants_by true (Some g) b rest m h = refl
wants_by true None true true m (inr h) = refl
wants_by true None true false m (inr h) = absurd (let x = h.1 in cc)
wants_by true None false rest m (inr h) = absurd (let x = h.0 in cc)
wants_by true None b rest m (inl h) = absurd (cc)
wants_by false o b rest m h = absurd (cc)

less : (a b : ℕ) → a < b → nat_lt a b ≡ true
less a b h = grind (arith, nat_tests)

or_true : (a b : Bool) → a ≡ true → (a || b) ≡ true
or_true true b h = refl
or_true false b h = absurd (cc)

-- all errands of a place fit into a visit
pub whole : (s : ScenarioPart) (k : ℕ) (st : State) → cost (plan_of s) ((plan_of s).errands k st) ≤ VISIT_TURNS
whole s k st = agenda_fits s (agenda_at (place_at s.part k) st)

module _ (boot : ℕ) (s : ScenarioPart) (q c : ℕ) (x : Spot s.part s.count q) (low : c < CHANNELS) where
  record Pacing (v : Visit Errand) (st : State) (ts : List Turn) : Type 0 where
    pub run : Run boot (IsOpen q c) s st ts
    pub paced : Paced (plan_of s) (whole s) v

  pacing_next : (v : Visit Errand) (st : State) (t : Turn) (ts : List Turn) → rule_made s (middle s st t) t ≡ (planned (plan_of s) v (middle s st t)).rule → Pacing v st (t ∷ ts) → Pacing (planned (plan_of s) v (middle s st t)).visit (after_turn s st t) ts
  pacing_next v st t ts e y = record { run = run_next boot (IsOpen q c) s st t ts y.run; paced = planned_paced (plan_of s) (whole s) v (middle s st t) y.paced }

  abbrev IsAlong : Visit Errand → State → List Turn → Type 0
  IsAlong v st ts = Along (plan_of s) (middle s) (after_turn s) (rule_made s) s.count Pacing pacing_next v st ts

  abbrev Ends : State → List Turn → Type 0
  Ends st ts = SomeTurn (Steps (At q c EndsCopy) s) s st ts

  abbrev Copied : State → List Turn → Type 0
  Copied st ts = SomeThen (Steps (At q c BeginsCopy) s) (Steps (At q c EndsCopy) s) s st ts

  abbrev Due : State → Type 0
  Due st = While Owing (end_of st q c)

  after_holds : (st : State) (t : Turn) (ts : List Turn) → Run boot (IsOpen q c) s st (t ∷ ts) → IsMet q (after_turn s st t)
  after_holds st t ts r = (first_holds (IsOpen q c) s (after_turn s st t) ts r.holds.2).met

  loads : (st : State) (used : ℕ) → IsUp boot st → IsOpen q c st → Going (end_of st q c) ⊎ ((used < 2) × Owed (end_of st q c).sides.pull) → (plan_of s).ask x.number (errands.Counters c) used st ≡ Some (Some (Load q c))
  loads st used up okay h = asks s q x (errands.Counters c) used boot st up ∙ asked_link q c st (counters_at used (end_of st q c)) (Pull ReadCounters) okay.met (wants h) where
    wants : Going (end_of st q c) ⊎ ((used < 2) × Owed (end_of st q c).sides.pull) → counters_at used (end_of st q c) ≡ Some (Pull ReadCounters)
    wants (inl g) = wants_by (is_connected (end_of st q c)) (end_of st q c).sides.pull.counters (nat_lt used 2) ((end_of st q c).sides.pull.owed || is_polling (end_of st q c).sides.pull) okay.connected (inl g)
    wants (inr y) = wants_by (is_connected (end_of st q c)) (end_of st q c).sides.pull.counters (nat_lt used 2) ((end_of st q c).sides.pull.owed || is_polling (end_of st q c).sides.pull) okay.connected (inr (less used 2 y.0, or_true (end_of st q c).sides.pull.owed (is_polling (end_of st q c).sides.pull) y.1))

  -- a copy that goes on at its errand is over in this very turn
  ends_now : (v : Visit Errand) (st : State) (ts : List Turn) (u : ℕ) → u < 3 → 0 < length ts → IsAlong v st ts → Busy (plan_of s) x.number (errands.Counters c) u v → While Goes (end_of st q c) → Ends st ts
  ends_now v st [] u few some a b h = absurd (omega (arith, some))
  ends_now v st (t ∷ ts) u few some a b h =
      let okay = a.more.run.holds.1 in
      let g = stands Goes (end_of (middle s st t) q c) okay.connected (acts_keep (While Goes) s q c goes_acts st t.before h) in
      let y = busy_turn (plan_of s) x.number (errands.Counters c) u v (middle s st t) (Some (Load q c)) b few (loads (middle s st t) u a.more.run.up.1 okay (inl g)) in
      inl (steps_by (At q c EndsCopy) s st t (Load q c) (a.follows.0 ∙ y.0) (refl, refl, g))

  going_after : (st : State) (t : Turn) (ts : List Turn) → Run boot (IsOpen q c) s st (t ∷ ts) → rule_made s (middle s st t) t ≡ Some (Load q c) → Still (end_of (middle s st t) q c) → While Goes (end_of (after_turn s st t) q c)
  going_after st t ts r e none = step_makes s q c (While Goes) goes_acts st t (Pull ReadCounters) r.runs.0 r.holds.1.met (among (middle s st t) q c r.holds.1.connected) (after_holds st t ts r) e makes where
    makes : (a : Answer) → is_failed a ≡ fails_at s (mark_of s (middle s st t) (Load q c)) → (Does s q c (middle s st t) (Pull ReadCounters) a).reason ≡ None → While Goes (Does s q c (middle s st t) (Pull ReadCounters) a).local
    makes (Word w) f g = λ a b. begun_going (end_of (middle s st t) q c) (end_of (middle s st t) q c).sides.pull.counters w none g
    makes Failed f g = absurd (cc)

  still_after : (st : State) (t : Turn) (ts : List Turn) → Run boot (IsOpen q c) s st (t ∷ ts) → rule_made s (middle s st t) t ≡ Some (Load q c) → Going (end_of (middle s st t) q c) → While Rests (end_of (after_turn s st t) q c)
  still_after st t ts r e going = step_makes s q c (While Rests) rests_acts st t (Pull ReadCounters) r.runs.0 r.holds.1.met (among (middle s st t) q c r.holds.1.connected) (after_holds st t ts r) e makes where
    makes : (a : Answer) → is_failed a ≡ fails_at s (mark_of s (middle s st t) (Load q c)) → (Does s q c (middle s st t) (Pull ReadCounters) a).reason ≡ None → While Rests (Does s q c (middle s st t) (Pull ReadCounters) a).local
    makes (Word w) f g = λ a b. over_still (end_of (middle s st t) q c) (end_of (middle s st t) q c).sides.pull.counters w going
    makes Failed f g = λ a b. refl

  -- where a turn begins a copy, its errand is at work
  record Began (v : Visit Errand) : Type 0 where
    used : ℕ
    few : used < 3
    busy : Busy (plan_of s) x.number (errands.Counters c) used v

  begun_here : (v : Visit Errand) (st : State) (t : Turn) → Paced (plan_of s) (whole s) v → IsUp boot (middle s st t) → (planned (plan_of s) v (middle s st t)).rule ≡ Some (Load q c) → Still (end_of (middle s st t) q c) → Began (planned (plan_of s) v (middle s st t)).visit
  begun_here v st t paced up e none =
      let y = source (plan_of s) (whole s) v (middle s st t) (Load q c) paced e in
      let a = asker s boot (middle s st t) (place_at s.part y.place) y.errand y.used q c up y.asks in
      by y a (one_place s.part y.place x.number q a.at x.is) a.soon
    where
      by : (y : Source (plan_of s) (whole s) (middle s st t) (planned (plan_of s) v (middle s st t)) (Load q c)) → Asker (middle s st t) q c (place_at s.part y.place) y.errand y.used → y.place ≡ x.number → Going (end_of (middle s st t) q c) ⊎ (y.used < 2) → Began (planned (plan_of s) v (middle s st t)).visit
      by y a same (inl g) = absurd (none_going (end_of (middle s st t) q c).sides.pull.counters none g)
      by y a same (inr h) =
          let b : y.used + 1 < (plan_of s).quota y.errand → Busy (plan_of s) y.place y.errand (y.used + 1) (planned (plan_of s) v (middle s st t)).visit = y.busy in
          let d = subst (λ (e : Errand). y.used + 1 < (plan_of s).quota e → Busy (plan_of s) y.place e (y.used + 1) (planned (plan_of s) v (middle s st t)).visit) a.errand b in
          record { used = y.used + 1; few = omega (arith, h); busy = subst (λ (j : ℕ). Busy (plan_of s) j (errands.Counters c) (y.used + 1) (planned (plan_of s) v (middle s st t)).visit) same (d (omega (arith, h))) }

  begun_copied : (v : Visit Errand) (st : State) (t : Turn) (ts : List Turn) → 0 < length ts → IsAlong v st (t ∷ ts) → rule_made s (middle s st t) t ≡ Some (Load q c) → Still (end_of (middle s st t) q c) → Copied st (t ∷ ts)
  begun_copied v st t ts some a e none =
      let b = begun_here v st t a.more.paced a.more.run.up.1 (sym a.follows.0 ∙ e) none in
      let on = along_next (plan_of s) (middle s) (after_turn s) (rule_made s) s.count Pacing pacing_next v st t ts a in
      inl (steps_by (At q c BeginsCopy) s st t (Load q c) e (refl, refl, none), ends_now (planned (plan_of s) v (middle s st t)).visit (after_turn s st t) ts b.used b.few some on b.busy (going_after st t ts a.more.run e none))

  -- what began a copy
  record Begins (st : State) (r : Rule) : Type 0 where
    is : r ≡ Load q c
    none : Still (end_of st q c)

  begins_with : (st : State) (r : Rule) → At q c BeginsCopy st r → Begins st r
  begins_with st (Link k d (Pull ReadCounters)) h = record { is = ap (λ (n : ℕ). Link n d (Pull ReadCounters)) h.0 ∙ ap (λ (n : ℕ). Link q n (Pull ReadCounters)) h.1; none = h.2 }
  begins_with st (Link k d (Pull ReadEntry)) h = absurd h.2
  begins_with st (Link k d (Ring m)) h = absurd h.2
  begins_with st (Link k d Acknowledge) h = absurd h.2
  begins_with st (Link k d (SetFlag kind)) h = absurd h.2
  begins_with st (Link k d ZeroGet) h = absurd h.2
  begins_with st (Link k d ZeroPut) h = absurd h.2
  begins_with st (Link k d (StoreArgument y)) h = absurd h.2
  begins_with st (Link k d (ReadArgument y)) h = absurd h.2
  begins_with st (ForPeer k m) h = absurd h
  begins_with st (Own m) h = absurd h

  or_later : (v : Visit Errand) (st : State) (t : Turn) (ts : List Turn) → 0 < length ts → IsAlong v st (t ∷ ts) → Steps (At q c BeginsCopy) s st t ⊎ Due (after_turn s st t) → Copied st (t ∷ ts) ⊎ Due (after_turn s st t)
  or_later v st t ts some a (inl y) =
      let b = begins_with (middle s st t) y.rule y.is in
      inl (begun_copied v st t ts some a (ap (λ (o : Option Marked). rule_by s (middle s st t) o) y.made ∙ y.decoded ∙ ap (λ (r : Rule). Some r) b.is) b.none)
  or_later v st t ts some a (inr h) = inr h

  stays : (v : Visit Errand) (st : State) (t : Turn) (ts : List Turn) → 0 < length ts → IsAlong v st (t ∷ ts) → Due st → Copied st (t ∷ ts) ⊎ Due (after_turn s st t)
  stays v st t ts some a h = let r = a.more.run in or_later v st t ts some a (turn_keeps Owing owing_framed s q c BeginsCopy copy_steps st t r.runs.0 r.holds.1.met r.holds.1.connected (after_holds st t ts r) h)

  -- before the copy: it is owed, and where a turn was had none goes on
  record Left (n used : ℕ) (st : State) : Type 0 where
    due : While Owing (end_of st q c)
    few : n + used ≡ 1
    none : used ≡ 1 → While Rests (end_of st q c)

  abbrev Next : ℕ → ℕ → State → Turn → List Turn → Type 0
  Next n used st t ts = Copied st (t ∷ ts) ⊎ Moved (plan_of s) (middle s) (after_turn s) (rule_made s) s.count Pacing pacing_next (Unit {0}) (λ _ n used st. Left n used st) (λ _. Copied) tt n used st t ts

  stepped : (n used : ℕ) (v : Visit Errand) (st : State) (t : Turn) (ts : List Turn) → 0 < length ts → IsAlong v st (t ∷ ts) → Left n used st → rule_made s (middle s st t) t ≡ Some (Load q c) → Next n used st t ts
  stepped n used v st t ts some a w e = by (end_of (middle s st t) q c).sides.pull.counters refl (stays v st t ts some a w.due) where
    by : (o : Option ℕ) → (end_of (middle s st t) q c).sides.pull.counters ≡ o → Copied st (t ∷ ts) ⊎ Due (after_turn s st t) → Next n used st t ts
    by o f (inl y) = inl y
    by None f (inr h) = inl (begun_copied v st t ts some a e f)
    by (Some g) f (inr h) =
        let z = w.few in
        let going : Going (end_of (middle s st t) q c) = subst (λ (o : Option ℕ). IsSome o) (sym f) refl in
        let first : used ≡ 1 → ⊥ = λ u. none_going (end_of (middle s st t) q c).sides.pull.counters (stands Rests (end_of (middle s st t) q c) a.more.run.holds.1.connected (acts_keep (While Rests) s q c rests_acts st t.before (w.none u))) going in
        inr (record { fewer = 0; low = omega (arith, z, first); phase = tt; work = record { due = h; few = omega (arith, z, first); none = λ u. still_after st t ts a.more.run e going }; lift = λ y. inr y })

  owing_acts : ActsKeep (While Owing)
  owing_acts = record { begun = begun_keeps Owing owing_framed; answered = answered_keeps Owing owing_framed; noticed = noticed_keeps Owing owing_framed }

  asked_next : (n used : ℕ) (v : Visit Errand) (st : State) (t : Turn) (ts : List Turn) → IsAlong v st (t ∷ ts) → Left n used st → (plan_of s).ask x.number (errands.Counters c) used (middle s st t) ≡ Some (Some (Load q c))
  asked_next n used v st t ts a w =
      let z = w.few in
      let okay = a.more.run.holds.1 in
      loads (middle s st t) used a.more.run.up.1 okay (inr (omega (arith, z), stands Owing (end_of (middle s st t) q c) okay.connected (acts_keep (While Owing) s q c owing_acts st t.before w.due)))

  duty : Duty (plan_of s) (middle s) (after_turn s) (rule_made s) s.count Pacing pacing_next x.number (errands.Counters c) 1 Due (Unit {0}) tt (λ _ n used st. Left n used st) (λ _. Copied)
  duty = record {
    later = λ st t ts h. inr h;
    stays = λ v st t ts a long h. stays v st t ts (omega (arith, long)) a h;
    fits = λ v st t ts a h. fits_counters s q x c boot (middle s st t) low a.more.run.up.1 a.more.run.holds.1.met;
    begins = λ v st t ts a h. (1, omega arith, record { due = h; few = refl; none = λ u. absurd (omega (arith, u)) });
    asks = λ ph n used v st t ts a long few w. (Some (Load q c), asked_next n used v st t ts a w, λ e. stepped n used v st t ts (omega (arith, long)) a w e);
  }

  pub copies_made : (v : Visit Errand) (st : State) (ts : List Turn) → VISIT_TURNS * s.count + VISIT_TURNS + 1 < length ts → Turns boot s v st ts → Paced (plan_of s) (whole s) v → Held (IsOpen q c) s st ts → Owed (end_of st q c).sides.pull → Copied st ts
  copies_made v st ts long y paced okay h =
      done (plan_of s) (middle s) (after_turn s) (rule_made s) s.count Pacing pacing_next x.number (errands.Counters c) 1 Due (Unit {0}) tt (λ _ n used st. Left n used st) (λ _. Copied) duty v st ts x.low (omega arith) (omega arith) (omega (arith, long))
      (record { ring = y.ring; places = y.places; follows = y.follows; more = record { run = record { runs = y.runs; up = y.up; holds = okay }; paced = paced } }) (λ a b. h)
