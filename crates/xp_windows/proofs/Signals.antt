-- A message request that is owed is made in the next visit, and a store of get that is owed, behind
-- one message request at most.
use Rattle.std.proofs.Common.{◌≡◌, ℕ, ◌+◌, ◌*◌, ◌<◌, ◌≤◌, Bool, true, false, ◌&&◌, List, [], ◌∷◌, length, refl, ap, sym, ◌∙◌, arith, inl, inr, ◌⊎◌, Option, Some, None}
use Rattle.std.specs.Prelude.{is_some, nat_lt, slice_set, ◌-◌, if◌then◌else◌}
use Rattle.std.proofs.lemmas.Bool.Decides.{nat_tests}
use Rattle.xp_base.specs.declared.layout.TheConstants.{CHANNELS}
use Rattle.xp_base.specs.declared.link.Kind.TheVariants.{MsgRequest}
use Rattle.xp_base.specs.declared.step.Answer.{Answer}
use Rattle.xp_base.specs.declared.step.Answer.TheVariants.{Word, Failed}
use Rattle.xp_base.specs.History.{Turn}
use Rattle.xp_script.specs.declared.part.ScenarioPart.{ScenarioPart}
use Rattle.xp_rounds.specs.declared.rounds.TheConstants.{VISIT_TURNS}
use Rattle.xp_rounds.specs.Visit.{Visit}
use Rattle.xp_rounds.proofs.Duties.{Along, Duty, Moved, done}
use Rattle.xp_rounds.proofs.Spots.{Spot}
use Rattle.xp_protocol.specs.declared.rule.LinkRule.{LinkRule}
use Rattle.xp_protocol.specs.declared.rule.LinkRule.TheVariants.{SetFlag, Acknowledge}
use Rattle.xp_protocol.specs.declared.rule.Rule.{Rule}
use Rattle.xp_protocol.specs.declared.rule.Rule.TheVariants.{Link}
use Rattle.xp_protocol.specs.Parts.{fails_at}
use Rattle.xp_protocol.specs.Pulling.{pull_effect}
use Rattle.xp_protocol.specs.Releasing.{fronted}
use Rattle.xp_protocol.specs.State.{State, End, Sides, end_of, is_connected}
use Rattle.xp_protocol.specs.Linking.{release_notes, sender_counters}
use Rattle.xp_protocol.specs.Rules.{mark_of}
use Rattle.xp_protocol.specs.Runs.{after_turn, is_failed}
use Rattle.xp_plan.specs.declared.errand.Errand.{Errand}
use Rattle.xp_plan.specs.declared.errand.Errand.TheVariants as errands
use Rattle.xp_plan.specs.EndSteps.{step_if, or_else, message_at, store_at, owes_store, control_signal, signal_at}
use Rattle.xp_plan.specs.Plan.{plan_of}
use Rattle.xp_windows.specs.Windows.{middle, At, IsRequest, IsStore, IsUp, IsMet, IsOpen, SomeTurn, Steps}
use Rattle.xp_windows.proofs.Held.{Held}
use Rattle.xp_windows.specs.Visited.{rule_made}
use Rattle.xp_windows.proofs.Places.{Turns, Run, run_next, first_holds, asks, fits_signal}
use Rattle.xp_windows.proofs.Asked.{steps_by}
use Rattle.xp_windows.proofs.Throughout.{asked_link}
use Rattle.xp_windows.proofs.Frame.{While, Framed, OwnSteps, connected_by, stands, hears_keep, pulled_keeps, failed_keeps, begun_keeps, answered_keeps, noticed_keeps}
use Rattle.xp_windows.proofs.Keeps.{ActsKeep, acts_keep, turn_keeps, among}
use Rattle.xp_windows.proofs.Made.{Does, step_makes}

-- a message request is owed
abbrev pub Owes : Bool → Sides → Type 0
Owes b x = b ≡ true

pub owes_framed : Framed Owes
owes_framed = record {
  owed = λ b x h. h;
  sent = λ b x y h. h;
  numbers = λ b x ns h. h;
  drains = λ b d x h. h;
  taking = λ b x o put h. h;
  taken = λ b x h. h;
  released = λ b r x number h. h;
}

request_steps : OwnSteps Owes owes_framed IsRequest
request_steps = record {
  accepted = λ b x h. refl;
  pulls = λ e m w h. inr (pulled_keeps Owes owes_framed (λ b x i. refl) e (pull_effect (sender_counters e.sides) e.sides.pull m w) (λ a b. h));
  stores = λ e h. inr (hears_keep Owes owes_framed (λ b x i. refl) (release_notes e.sides.releasing e.sides.ack.front) (record e { sides = record e.sides { local_get = e.sides.ack.front; releasing = false }; shake = record e.shake { owes_message = true } }) (λ a b. refl));
  requests = λ e h. inl tt;
  fails = λ s st q c m h. inr (failed_keeps Owes owes_framed (λ b x kind i. i) (mark_of s st (Link q c m)) (end_of st q c) h);
}

-- a store of get is owed
abbrev pub Stores : Bool → Sides → Type 0
Stores b x = x.local_get < x.ack.front

fronted_on : (front : ℕ) (marks : List Bool) → front ≤ (fronted front marks).front
fronted_on front [] = omega arith
fronted_on front (false ∷ more) = omega arith
fronted_on front (true ∷ more) = let h = fronted_on (front + 1) more in omega (arith, h)

pub stores_framed : Framed Stores
stores_framed = record {
  owed = λ b x h. h;
  sent = λ b x y h. h;
  numbers = λ b x ns h. h;
  drains = λ b d x h. h;
  taking = λ b x o put h. h;
  taken = λ b x h. h;
  released = λ b r x number h. let g = fronted_on x.ack.front (slice_set x.ack.released_from_front (number - x.ack.front) true) in omega (arith, g, h);
}

store_steps : OwnSteps Stores stores_framed IsStore
store_steps = record {
  accepted = λ b x h. h;
  pulls = λ e m w h. inr (pulled_keeps Stores stores_framed (λ b x i. i) e (pull_effect (sender_counters e.sides) e.sides.pull m w) (λ a b. h));
  stores = λ e h. inl tt;
  requests = λ e h. inr h;
  fails = λ s st q c m h. inr (failed_keeps Stores stores_framed (λ b x kind i. i) (mark_of s st (Link q c m)) (end_of st q c) h);
}

-- no message request is owed: acts leave it so
abbrev Unowed : Bool → Sides → Type 0
Unowed b x = b ≡ false

unowed_framed : Framed Unowed
unowed_framed = record {
  owed = λ b x h. h;
  sent = λ b x y h. h;
  numbers = λ b x ns h. h;
  drains = λ b d x h. h;
  taking = λ b x o put h. h;
  taken = λ b x h. h;
  released = λ b r x number h. h;
}

abbrev Quiet : End → Type 0
Quiet e = While Unowed e

-- what the end asks for first
request_first : (a b : Bool) (later : Option LinkRule) → a ≡ true → b ≡ true → (if a then or_else (step_if b (SetFlag MsgRequest)) later else None) ≡ Some (SetFlag MsgRequest)
request_first true true later e f = refl
request_first true false later e f = absurd (cc)
request_first false b later e f = absurd (cc)

store_first : (a b d : Bool) (later : Option LinkRule) → a ≡ true → b ≡ false → d ≡ true → (if a then or_else (step_if b (SetFlag MsgRequest)) (or_else (step_if d Acknowledge) later) else None) ≡ Some Acknowledge
store_first true false true later e f g = refl
store_first true false false later e f g = absurd (cc)
store_first true true d later e f g = absurd (cc)
store_first false b d later e f g = absurd (cc)

soon : (used : ℕ) (e : End) → used < 2 → signal_at used e ≡ (if is_some e.shake.meet then or_else (message_at e) (or_else (store_at e) (control_signal e)) else None)
soon used e h = ap (λ (b : Bool). if is_some e.shake.meet then (if b then or_else (message_at e) (or_else (store_at e) (control_signal e)) else control_signal e) else None) (less used 2 h) where
  less : (a b : ℕ) → a < b → nat_lt a b ≡ true
  less a b l = grind (arith, nat_tests)

pub asks_request : (used : ℕ) (e : End) → used < 2 → is_connected e ≡ true → e.shake.owes_message ≡ true → signal_at used e ≡ Some (SetFlag MsgRequest)
asks_request used e few on h = soon used e few ∙ request_first (is_some e.shake.meet) e.shake.owes_message (or_else (store_at e) (control_signal e)) (connected_by e on).0 h

pub asks_store : (used : ℕ) (e : End) → used < 2 → is_connected e ≡ true → e.shake.owes_message ≡ false → e.sides.local_get < e.sides.ack.front → signal_at used e ≡ Some Acknowledge
asks_store used e few on quiet h = soon used e few ∙ store_first (is_some e.shake.meet) e.shake.owes_message (owes_store e) (control_signal e) (connected_by e on).0 quiet (ap (λ (b : Bool). b && nat_lt e.sides.local_get e.sides.ack.front) on ∙ less e.sides.local_get e.sides.ack.front h) where
  less : (a b : ℕ) → a < b → nat_lt a b ≡ true
  less a b l = grind (arith, nat_tests)

module _ (boot : ℕ) (s : ScenarioPart) (q c : ℕ) (x : Spot s.part s.count q) (low : c < CHANNELS) where
  abbrev IsAlong : Visit Errand → State → List Turn → Type 0
  IsAlong v st ts = Along (plan_of s) (middle s) (after_turn s) (rule_made s) s.count (λ _. Run boot (IsOpen q c) s) (λ v st t ts e. run_next boot (IsOpen q c) s st t ts) v st ts

  asks_link : (used : ℕ) (st : State) (m : LinkRule) → IsUp boot st → IsMet q st → signal_at used (end_of st q c) ≡ Some m → (plan_of s).ask x.number (errands.Signal c) used st ≡ Some (Some (Link q c m))
  asks_link used st m up met e = asks s q x (errands.Signal c) used boot st up ∙ asked_link q c st (signal_at used (end_of st q c)) m met e

  after_holds : (st : State) (t : Turn) (ts : List Turn) → Run boot (IsOpen q c) s st (t ∷ ts) → IsMet q (after_turn s st t)
  after_holds st t ts r = (first_holds (IsOpen q c) s (after_turn s st t) ts r.holds.2).met

  -- message requests
  abbrev Told : State → List Turn → Type 0
  Told st ts = SomeTurn (Steps (At q c IsRequest) s) s st ts

  abbrev Due : State → Type 0
  Due st = While Owes (end_of st q c)

  told_or : (st : State) (t : Turn) (ts : List Turn) → Steps (At q c IsRequest) s st t ⊎ Due (after_turn s st t) → Told st (t ∷ ts) ⊎ Due (after_turn s st t)
  told_or st t ts (inl y) = inl (inl y)
  told_or st t ts (inr h) = inr h

  owes_acts : ActsKeep (While Owes)
  owes_acts = record { begun = begun_keeps Owes owes_framed; answered = answered_keeps Owes owes_framed; noticed = noticed_keeps Owes owes_framed }

  request_due : (used : ℕ) (v : Visit Errand) (st : State) (t : Turn) (ts : List Turn) → IsAlong v st (t ∷ ts) → (used ≡ 0) × Due st → (plan_of s).ask x.number (errands.Signal c) used (middle s st t) ≡ Some (Some (Link q c (SetFlag MsgRequest)))
  request_due used v st t ts a w =
      let here = a.more.holds.1 in
      let zero = w.0 in
      let owes = stands Owes (end_of (middle s st t) q c) here.connected (acts_keep (While Owes) s q c owes_acts st t.before w.1) in
      asks_link used (middle s st t) (SetFlag MsgRequest) a.more.up.1 here.met (asks_request used (end_of (middle s st t) q c) (omega (arith, zero)) here.connected owes)

  request_duty : Duty (plan_of s) (middle s) (after_turn s) (rule_made s) s.count (λ _. Run boot (IsOpen q c) s) (λ v st t ts e. run_next boot (IsOpen q c) s st t ts) x.number (errands.Signal c) 0 Due (Unit {0}) tt (λ _ n used st. (used ≡ 0) × Due st) (λ _. Told)
  request_duty = record {
    later = λ st t ts h. inr h;
    stays = λ v st t ts a long h. told_or st t ts (turn_keeps Owes owes_framed s q c IsRequest request_steps st t a.more.runs.0 a.more.holds.1.met a.more.holds.1.connected (after_holds st t ts a.more) h);
    fits = λ v st t ts a h. fits_signal s q x c boot (middle s st t) low a.more.up.1 a.more.holds.1.met;
    begins = λ v st t ts a h. (0, omega arith, (refl, h));
    asks = λ ph n used v st t ts a long few w. (Some (Link q c (SetFlag MsgRequest)), request_due used v st t ts a w, λ e. inl (inl (steps_by (At q c IsRequest) s st t (Link q c (SetFlag MsgRequest)) e (refl, refl, tt))));
  }

  pub requests_made : (v : Visit Errand) (st : State) (ts : List Turn) → VISIT_TURNS * s.count + VISIT_TURNS < length ts → Turns boot s v st ts → Held (IsOpen q c) s st ts → (end_of st q c).shake.owes_message ≡ true → Told st ts
  requests_made v st ts long y okay h =
      done (plan_of s) (middle s) (after_turn s) (rule_made s) s.count (λ _. Run boot (IsOpen q c) s) (λ v st t ts e. run_next boot (IsOpen q c) s st t ts) x.number (errands.Signal c) 0 Due (Unit {0}) tt (λ _ n used st. (used ≡ 0) × Due st) (λ _. Told) request_duty v st ts x.low (omega arith) (omega arith) (omega (arith, long))
      (record { ring = y.ring; places = y.places; follows = y.follows; more = record { runs = y.runs; up = y.up; holds = okay } }) (λ a b. h)

  -- stores of get
  abbrev Stored : State → List Turn → Type 0
  Stored st ts = SomeTurn (Steps (At q c IsStore) s) s st ts

  abbrev Waits : State → Type 0
  Waits st = While Stores (end_of st q c)

  stores_acts : ActsKeep (While Stores)
  stores_acts = record { begun = begun_keeps Stores stores_framed; answered = answered_keeps Stores stores_framed; noticed = noticed_keeps Stores stores_framed }

  -- acts leave that no message request is owed
  quiet_acts : ActsKeep Quiet
  quiet_acts = record { begun = begun_keeps Unowed unowed_framed; answered = answered_keeps Unowed unowed_framed; noticed = noticed_keeps Unowed unowed_framed }

  -- a message request may come first, once
  record Left (n used : ℕ) (st : State) : Type 0 where
    due : While Stores (end_of st q c)
    few : n + used ≡ 1
    quiet : used ≡ 1 → Quiet (end_of st q c)

  abbrev Next : ℕ → ℕ → State → Turn → List Turn → Type 0
  Next n used st t ts = Stored st (t ∷ ts) ⊎ Moved (plan_of s) (middle s) (after_turn s) (rule_made s) s.count (λ _. Run boot (IsOpen q c) s) (λ v st t ts e. run_next boot (IsOpen q c) s st t ts) (Unit {0}) (λ _ n used st. Left n used st) (λ _. Stored) tt n used st t ts

  stored_or : (st : State) (t : Turn) (ts : List Turn) → Steps (At q c IsStore) s st t ⊎ Waits (after_turn s st t) → Stored st (t ∷ ts) ⊎ Waits (after_turn s st t)
  stored_or st t ts (inl y) = inl (inl y)
  stored_or st t ts (inr h) = inr h

  stays : (st : State) (t : Turn) (ts : List Turn) → Run boot (IsOpen q c) s st (t ∷ ts) → Waits st → Stored st (t ∷ ts) ⊎ Waits (after_turn s st t)
  stays st t ts r h = stored_or st t ts (turn_keeps Stores stores_framed s q c IsStore store_steps st t r.runs.0 r.holds.1.met r.holds.1.connected (after_holds st t ts r) h)

  after_request : (st : State) (t : Turn) (ts : List Turn) → Run boot (IsOpen q c) s st (t ∷ ts) → rule_made s (middle s st t) t ≡ Some (Link q c (SetFlag MsgRequest)) → Quiet (end_of (after_turn s st t) q c)
  after_request st t ts r e = step_makes s q c Quiet quiet_acts st t (SetFlag MsgRequest) r.runs.0 r.holds.1.met (among (middle s st t) q c r.holds.1.connected) (after_holds st t ts r) e quiet where
    quiet : (a : Answer) → is_failed a ≡ fails_at s (mark_of s (middle s st t) (Link q c (SetFlag MsgRequest))) → (Does s q c (middle s st t) (SetFlag MsgRequest) a).reason ≡ None → Quiet (Does s q c (middle s st t) (SetFlag MsgRequest) a).local
    quiet (Word w) f g = λ a b. refl
    quiet Failed f g = absurd (cc)

  moved : (n used : ℕ) (st : State) (t : Turn) (ts : List Turn) → n ≡ 1 → used ≡ 0 → Quiet (end_of (after_turn s st t) q c) → Stored st (t ∷ ts) ⊎ Waits (after_turn s st t) → Next n used st t ts
  moved n used st t ts some none quiet (inl y) = inl y
  moved n used st t ts some none quiet (inr h) = inr (record { fewer = 0; low = omega (arith, some); phase = tt; work = record { due = h; few = omega (arith, none); quiet = λ _. quiet }; lift = λ y. inr y })

  asked_next : (n used : ℕ) (v : Visit Errand) (st : State) (t : Turn) (ts : List Turn) → IsAlong v st (t ∷ ts) → Left n used st → (r : Option Rule) × ((plan_of s).ask x.number (errands.Signal c) used (middle s st t) ≡ Some r) × (rule_made s (middle s st t) t ≡ r → Next n used st t ts)
  asked_next n used v st t ts a w = by (end_of (middle s st t) q c).shake.owes_message refl where
    here : (end_of (middle s st t) q c).sides.local_get < (end_of (middle s st t) q c).sides.ack.front
    here = stands Stores (end_of (middle s st t) q c) a.more.holds.1.connected (acts_keep (While Stores) s q c stores_acts st t.before w.due)

    first : (end_of (middle s st t) q c).shake.owes_message ≡ true → used ≡ 1 → ⊥
    first e one = let f : false ≡ true = sym (stands Unowed (end_of (middle s st t) q c) a.more.holds.1.connected (acts_keep Quiet s q c quiet_acts st t.before (w.quiet one))) ∙ e in cc

    by : (b : Bool) → (end_of (middle s st t) q c).shake.owes_message ≡ b → (r : Option Rule) × ((plan_of s).ask x.number (errands.Signal c) used (middle s st t) ≡ Some r) × (rule_made s (middle s st t) t ≡ r → Next n used st t ts)
    by true e =
        let g = first e in
        let few = w.few in
        (Some (Link q c (SetFlag MsgRequest)), asks_link used (middle s st t) (SetFlag MsgRequest) a.more.up.1 a.more.holds.1.met (asks_request used (end_of (middle s st t) q c) (omega (arith, few)) a.more.holds.1.connected e), λ f. moved n used st t ts (omega (arith, few, g)) (omega (arith, few, g)) (after_request st t ts a.more f) (stays st t ts a.more w.due))
    by false e =
        let few = w.few in
        (Some (Link q c Acknowledge), asks_link used (middle s st t) Acknowledge a.more.up.1 a.more.holds.1.met (asks_store used (end_of (middle s st t) q c) (omega (arith, few)) a.more.holds.1.connected e here), λ f. inl (inl (steps_by (At q c IsStore) s st t (Link q c Acknowledge) f (refl, refl, tt))))

  store_duty : Duty (plan_of s) (middle s) (after_turn s) (rule_made s) s.count (λ _. Run boot (IsOpen q c) s) (λ v st t ts e. run_next boot (IsOpen q c) s st t ts) x.number (errands.Signal c) 0 Waits (Unit {0}) tt (λ _ n used st. Left n used st) (λ _. Stored)
  store_duty = record {
    later = λ st t ts h. inr h;
    stays = λ v st t ts a long h. stays st t ts a.more h;
    fits = λ v st t ts a h. fits_signal s q x c boot (middle s st t) low a.more.up.1 a.more.holds.1.met;
    begins = λ v st t ts a h. (1, omega arith, record { due = h; few = refl; quiet = λ e. absurd (omega (arith, e)) });
    asks = λ ph n used v st t ts a long few w. asked_next n used v st t ts a w;
  }

  pub gets_stored : (v : Visit Errand) (st : State) (ts : List Turn) → VISIT_TURNS * s.count + VISIT_TURNS < length ts → Turns boot s v st ts → Held (IsOpen q c) s st ts → (end_of st q c).sides.local_get < (end_of st q c).sides.ack.front → Stored st ts
  gets_stored v st ts long y okay h =
      done (plan_of s) (middle s) (after_turn s) (rule_made s) s.count (λ _. Run boot (IsOpen q c) s) (λ v st t ts e. run_next boot (IsOpen q c) s st t ts) x.number (errands.Signal c) 0 Waits (Unit {0}) tt (λ _ n used st. Left n used st) (λ _. Stored) store_duty v st ts x.low (omega arith) (omega arith) (omega (arith, long))
      (record { ring = y.ring; places = y.places; follows = y.follows; more = record { runs = y.runs; up = y.up; holds = okay } }) (λ a b. h)
