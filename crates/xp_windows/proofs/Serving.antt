-- In each window what is owed is served.
use Rattle.std.proofs.Common.{◌≡◌, ℕ, ◌+◌, ◌*◌, ◌<◌, ◌≤◌, Bool, true, false, List, [], ◌∷◌, ◌++◌, length, refl, ap, sym, ◌∙◌, subst, arith, inl, inr, Option, None, Some}
use Rattle.std.specs.Prelude.{IsSome, is_some, ◌-◌, nat_lt, nat_eq, ◌||◌, if◌then◌else◌}
use Rattle.std.proofs.lemmas.Bool.{or_left}
use Rattle.std.proofs.lemmas.Bool.Decides.{nat_tests}
use Rattle.xp_base.specs.declared.layout.TheConstants.{PARTS, WINDOW_PARTS, WINDOW_TURNS, WINDOW_TURNS_EACH}
use Rattle.xp_base.specs.Windows.{window_of}
use Rattle.xp_base.specs.History.{Marked, Turn}
use Rattle.xp_script.specs.declared.command.Command.TheVariants.{Take}
use Rattle.xp_script.specs.declared.part.ScenarioPart.{ScenarioPart}
use Rattle.xp_rounds.specs.declared.rounds.TheConstants.{VISIT_TURNS}
use Rattle.xp_rounds.specs.Visit.{Visit, planned}
use Rattle.xp_rounds.proofs.Spots.{Spot}
use Rattle.xp_rounds.proofs.Visits.{planned_on}
use Rattle.xp_rounds.proofs.Sources.{Paced, planned_paced}
use Rattle.xp_protocol.specs.Parts.{IsLawfulPart, IsEndOf, script_in}
use Rattle.xp_protocol.specs.State.{State, Booting, Up, End, end_of}
use Rattle.xp_protocol.specs.Linking.{owed as owes}
use Rattle.xp_base.specs.declared.link.Kind.{Kind}
use Rattle.xp_base.specs.declared.link.Kind.TheVariants.{OpenRequest}
use Rattle.xp_protocol.specs.declared.rule.PullRule.{PullRule}
use Rattle.xp_protocol.specs.declared.rule.LinkRule.TheVariants.{Ring, Pull, Acknowledge, SetFlag, ZeroGet, ZeroPut, StoreArgument, ReadArgument}
use Rattle.xp_protocol.specs.declared.rule.PeerRule.TheVariants.{ClearEngagementBit}
use Rattle.xp_protocol.specs.declared.rule.Rule.{Rule}
use Rattle.xp_protocol.specs.declared.rule.Rule.TheVariants.{Link, Peer as ForPeer, Own}
use Rattle.xp_base.specs.declared.reason.Reason.{Reason}
use Rattle.xp_protocol.specs.Acts.{current, due}
use Rattle.xp_protocol.proofs.Lawful.{lawful_command}
use Rattle.xp_protocol.specs.Runs.{Runs, RunsFrom, start, after_turn, state_after}
use Rattle.xp_plan.specs.declared.errand.Errand.{Errand}
use Rattle.xp_plan.specs.Plan.{plan_of, IsVisit, first_visit}
use Rattle.xp_plan.proofs.Visiting.{first_is, next_is}
use Rattle.xp_windows.specs.Windows.{middle, begins, answers, Steps, IsFor, IsOpenTo, At, CopiesClosed, IsUp, SomeTurn, Throughout, IsTaking, IsBooting, Owed, IsWindow, Windows}
use Rattle.xp_windows.specs.Visited.{rule_by, rule_made, visit_after, FollowsFrom, ArePrompt, Visited}
use Rattle.xp_windows.proofs.Places.{Turns, follows_plan, first_holds, placed, peer_placed}
use Rattle.xp_windows.proofs.Throughout.{beats_stored, offlines_stored, activations_taken, deactivations_taken, engagements_read, flags_taken, sends_made}
use Rattle.xp_windows.proofs.Signals.{requests_made, gets_stored}
use Rattle.xp_windows.proofs.Copies.{whole, copies_made}
use Rattle.xp_windows.proofs.Takes.{takes_made}
use Rattle.xp_windows.proofs.Leaves.{areas_closed, partners_told}
use Rattle.xp_windows.proofs.Planned.{planned_by}
use Rattle.xp_windows.proofs.Frame.{connected_by}
use Rattle.xp_windows.proofs.Facts.{Facts, facts_next, facts_first}
use Rattle.xp_windows.proofs.Owing.{both, closed_rests}
use Rattle.xp_windows.proofs.Controls.{arguments_loaded, flags_sent}
use Rattle.xp_windows.proofs.Opens.{areas_opened}
use Rattle.xp_windows.proofs.Engages.{bits_set}
use Rattle.xp_windows.proofs.Replies.{bits_left, bits_cleared, echoes_stored, seconds_stored}
use Rattle.xp_windows.proofs.Records.{records_read}
use Rattle.xp_windows.proofs.Looks.{Tied, tied_next, tied_first, looks_made}
use Rattle.xp_windows.proofs.Checks.{checks_made}
use Rattle.xp_windows.proofs.Boots.{AtBoot, boot_kept, boot_over, left_few}
use Rattle.xp_windows.proofs.Held.{Ended, ended, held, some_still, then_still, from_still}
use Rattle.xp_windows.proofs.Peers.{begun_all, turns_all}

-- turns that follow the plan, from some visit on
record Going (s : ScenarioPart) (v : Visit Errand) (st : State) (ts : List Turn) : Type 0 where
  visit : IsVisit s v
  paced : Paced (plan_of s) (whole s) v
  runs : RunsFrom s st ts
  follows : FollowsFrom s v st ts
  prompt : ArePrompt s st ts
  boot : st.life ≡ Booting → AtBoot v
  tied : (q : ℕ) (x : Spot s.part s.count q) → Tied s x.number q v st
  facts : Facts st

-- the first visit of a boot is paced
fresh_paced : (s : ScenarioPart) → Paced (plan_of s) (whole s) (first_visit s)
fresh_paced s = record { begun = λ m. absurd (omega (arith, m)); low = λ m. absurd (omega (arith, m)) }

visit_on : (s : ScenarioPart) (v : Visit Errand) (st : State) (t : Turn) → IsLawfulPart s → IsVisit s v → IsVisit s (visit_after s v st t)
visit_on s v st t l h = by (nat_eq (after_turn s st t).clock.boots st.clock.boots) where
  by : (b : Bool) → IsVisit s (if b then (planned (plan_of s) v (middle s st t)).visit else first_visit s)
  by true = next_is s (middle s st t) v h
  by false = first_is s l

paced_on : (s : ScenarioPart) (v : Visit Errand) (st : State) (t : Turn) → Paced (plan_of s) (whole s) v → Paced (plan_of s) (whole s) (visit_after s v st t)
paced_on s v st t h = by (nat_eq (after_turn s st t).clock.boots st.clock.boots) where
  by : (b : Bool) → Paced (plan_of s) (whole s) (if b then (planned (plan_of s) v (middle s st t)).visit else first_visit s)
  by true = planned_paced (plan_of s) (whole s) v (middle s st t) h
  by false = fresh_paced s

next : (s : ScenarioPart) (v : Visit Errand) (st : State) (t : Turn) (ts : List Turn) → IsLawfulPart s → Going s v st (t ∷ ts) → Going s (visit_after s v st t) (after_turn s st t) ts
next s v st t ts l x = record { visit = visit_on s v st t l x.visit; paced = paced_on s v st t x.paced; runs = x.runs.1; follows = x.follows.1; prompt = x.prompt.1; boot = boot_kept s v st t x.visit.ring x.boot; tied = λ q y. tied_next s q y v st t x.paced x.runs.0 x.follows.0 (x.tied q y); facts = facts_next s v st t x.paced x.runs.0 x.follows.0 x.facts }

cut : (s : ScenarioPart) (v : Visit Errand) (st : State) (window after : List Turn) → IsLawfulPart s → Going s v st (window ++ after) → Going s v st window
cut s v st [] after l x = record { visit = x.visit; paced = x.paced; runs = tt; follows = tt; prompt = tt; boot = x.boot; tied = x.tied; facts = x.facts }
cut s v st (t ∷ ts) after l x =
    let y = cut s (visit_after s v st t) (after_turn s st t) ts after l (next s v st t (ts ++ after) l x) in
    record { visit = x.visit; paced = x.paced; runs = (x.runs.0, y.runs); follows = (x.follows.0, y.follows); prompt = (x.prompt.0, y.prompt); boot = x.boot; tied = x.tied; facts = x.facts }

record Window (s : ScenarioPart) (st : State) (window : List Turn) : Type 0 where
  visit : Visit Errand
  turns : Going s visit st window

reach : (s : ScenarioPart) (v : Visit Errand) (st : State) (before window after : List Turn) → IsLawfulPart s → Going s v st (before ++ (window ++ after)) → Window s (state_after s st before) window
reach s v st [] window after l x = record { visit = v; turns = cut s v st window after l x }
reach s v st (t ∷ ts) window after l x = reach s (visit_after s v st t) (after_turn s st t) ts window after l (next s v st t (ts ++ (window ++ after)) l x)

first_begins : (s : ScenarioPart) (st : State) (window : List Turn) → 0 < length window → st.life ≡ Up → ArePrompt s st window → st.script.doing ≡ false → st.script.begun < length (script_in s st.clock.boots) → SomeTurn (λ x t. (begins t.before || begins t.after) ≡ true) s st window
first_begins s st [] some up p a b = absurd (omega (arith, some))
first_begins s st (t ∷ ts) some up p a b = inl (or_left (begins t.before) (begins t.after) (p.0.begins up a b))

first_answers : (s : ScenarioPart) (st : State) (window : List Turn) → 0 < length window → ArePrompt s st window → IsSome (due s st) → SomeTurn (λ x t. (answers t.before || answers t.after) ≡ true) s st window
first_answers s st [] some p h = absurd (omega (arith, some))
first_answers s st (t ∷ ts) some p h = inl (p.0.answers h)

-- a lawful take is from a partner
taken_peer : (s : ScenarioPart) (st : State) (q c : ℕ) (wait : Bool) → IsLawfulPart s → current s st ≡ Some (Take q c wait) → IsEndOf s.part s.count q c
taken_peer s st q c wait l e = lawful_command s st.clock.boots (st.script.begun - 1) (Take q c wait) l e

copied_closed : (st : State) (q c : ℕ) (r : Rule) → At q c CopiesClosed st r → (m : PullRule) × (r ≡ Link q c (Pull m)) × IsSome (end_of st q c).shake.reason
copied_closed st q c (Link k d (Pull m)) h = (m, ap (λ (j : ℕ). Link j d (Pull m)) h.0 ∙ ap (λ (j : ℕ). Link q j (Pull m)) h.1, h.2)
copied_closed st q c (Link k d (Ring m)) h = absurd h.2
copied_closed st q c (Link k d Acknowledge) h = absurd h.2
copied_closed st q c (Link k d (SetFlag kind)) h = absurd h.2
copied_closed st q c (Link k d ZeroGet) h = absurd h.2
copied_closed st q c (Link k d ZeroPut) h = absurd h.2
copied_closed st q c (Link k d (StoreArgument y)) h = absurd h.2
copied_closed st q c (Link k d (ReadArgument y)) h = absurd h.2
copied_closed st q c (ForPeer k m) h = absurd h
copied_closed st q c (Own m) h = absurd h

not_closed : (s : ScenarioPart) (q c : ℕ) (v : Visit Errand) (st : State) (t : Turn) → Paced (plan_of s) (whole s) v → rule_made s (middle s st t) t ≡ (planned (plan_of s) v (middle s st t)).rule → Steps (At q c CopiesClosed) s st t → ⊥
not_closed s q c v st t paced e y =
    let z = copied_closed (middle s st t) q c y.rule y.is in
    let ruled = sym e ∙ ap (λ (o : Option Marked). rule_by s (middle s st t) o) y.made ∙ y.decoded ∙ ap (λ (r : Rule). Some r) z.1 in
    let on = (planned_by s v (middle s st t) (Link q c (Pull z.0)) paced ruled).meant in
    not_reasoned (end_of (middle s st t) q c).shake.reason (connected_by (end_of (middle s st t) q c) on).2 z.2
  where
    not_reasoned : (o : Option Reason) → o ≡ None → IsSome o → ⊥
    not_reasoned None e h = cc
    not_reasoned (Some r) e h = absurd (cc)

none_closing : (s : ScenarioPart) (q c : ℕ) (v : Visit Errand) (st : State) (ts : List Turn) → IsLawfulPart s → Going s v st ts → SomeTurn (Steps (At q c CopiesClosed) s) s st ts → ⊥
none_closing s q c v st [] l x h = h
none_closing s q c v st (t ∷ ts) l x (inl h) = not_closed s q c v st t x.paced x.follows.0 h
none_closing s q c v st (t ∷ ts) l x (inr h) = none_closing s q c (visit_after s v st t) (after_turn s st t) ts l (next s v st t ts l x) h

-- an open request is owed by a registered end alone
asked_for : (k : Kind) (e : End) → owes k e ≡ true → k ≡ OpenRequest → is_some e.registration ≡ true
asked_for k e o i = (both (is_some e.registration) _ (subst (λ (j : Kind). owes j e ≡ true) i o)).0

owed : (s : ScenarioPart) (boot : ℕ) (st : State) (ts : List Turn) (last : Turn) → IsLawfulPart s → VISIT_TURNS * s.count + VISIT_TURNS + 1 < length ts → Throughout (IsUp boot) s st (ts ++ last ∷ []) → Window s st (ts ++ last ∷ []) → Owed s st (ts ++ last ∷ [])
owed s boot st ts last l long h w =
    let v = w.visit in
    let x = cut s v st ts (last ∷ []) l w.turns in
    let up = held s (IsUp boot) st ts last h in
    let y : Turns boot s v st ts = record { ring = x.visit.ring; places = x.visit.count; follows = follows_plan s v boot st ts up x.follows; runs = x.runs; up = up } in
    let some : 0 < s.count = (let p = l.part in omega (arith, p)) in
    let enough : VISIT_TURNS * s.count + VISIT_TURNS < length ts = omega (arith, long) in
    record {
      begins = λ idle left. some_still s (last ∷ []) _ st ts (first_begins s st ts (omega (arith, long)) (first_holds (IsUp boot) s st ts up).up x.prompt idle left);
      answers = λ h. some_still s (last ∷ []) _ st ts (first_answers s st ts (omega (arith, long)) x.prompt h);
      beats = λ h. some_still s (last ∷ []) _ st ts (beats_stored boot s some v st ts enough y (held s _ st ts last h));
      offlines = λ h. some_still s (last ∷ []) _ st ts (offlines_stored boot s some v st ts enough y (held s _ st ts last h));
      checks = λ q p some due h. let z = placed s q l p in some_still s (last ∷ []) _ st ts (checks_made boot s q z some v st ts enough y x.paced x.facts (x.tied q z) (held s _ st ts last h) due);
      activations = some_still s (last ∷ []) _ st ts (activations_taken boot s some v st ts enough y);
      deactivations = some_still s (last ∷ []) _ st ts (deactivations_taken boot s some v st ts enough y);
      looks = λ q p. let z = placed s q l p in from_still s (last ∷ []) _ _ st ts (looks_made s q z boot v st ts enough y x.paced (x.tied q z));
      opens = λ q p off few h. let z = placed s q l p in some_still s (last ∷ []) _ st ts (areas_opened boot s q z v st ts enough y x.paced x.facts (x.tied q z) (held s _ st ts last h) off few);
      engages = λ q p h. let z = placed s q l p in some_still s (last ∷ []) _ st ts (bits_set boot s q z v st ts enough y x.paced x.facts (x.tied q z) (held s _ st ts last h));
      records = λ q p h. let z = placed s q l p in from_still s (last ∷ []) _ _ st ts (records_read boot s q z v st ts enough y x.paced x.facts (x.tied q z) (held s _ st ts last h));
      backs_off = λ q p active back h. let z = placed s q l p in some_still s (last ∷ []) _ st ts (bits_cleared boot (IsOpenTo q) s q z (λ a b. b.free) (Steps (IsFor q ClearEngagementBit) s) v st ts (λ a b t us d e f. f) enough y x.paced x.facts (x.tied q z) (held s _ st ts last h) active back);
      echoes = λ q p read echo h. let z = placed s q l p in some_still s (last ∷ []) _ st ts (echoes_stored boot s q z v st ts enough y x.paced x.facts (x.tied q z) (held s _ st ts last h) read echo);
      seconds = λ q p echo none h. let z = placed s q l p in some_still s (last ∷ []) _ st ts (seconds_stored boot s q z v st ts enough y x.paced x.facts (x.tied q z) (held s _ st ts last h) echo none);
      closing = λ q c. none_closing s q c v st (ts ++ last ∷ []) l w.turns;
      over = λ q c reason. closed_rests (end_of st q c) (x.facts.rests q c) reason;
      engagements = λ h. some_still s (last ∷ []) _ st ts (engagements_read boot s some v st ts enough y (held s _ st ts last h));
      flags = λ q p h. some_still s (last ∷ []) _ st ts (flags_taken boot s q (placed s q l p) v st ts enough y (held s _ st ts last h));
      requests = λ q c p owes h. some_still s (last ∷ []) _ st ts (requests_made boot s q c (peer_placed s q c l p) p.2 v st ts enough y (held s _ st ts last h) owes);
      arguments = λ q c g p taken missing h. let z = peer_placed s q c l p in some_still s (last ∷ []) _ st ts (arguments_loaded boot s q c z p.2 g v st ts enough y x.paced x.facts (x.tied q z) (held s _ st ts last h) taken missing);
      controls = λ q c k p other owes h. let z = peer_placed s q c l p in some_still s (last ∷ []) _ st ts (flags_sent boot s q c z p.2 k (end_of st q c).registration other v st ts enough y x.paced x.facts (x.tied q z) (held s _ st ts last h) (asked_for k (end_of st q c) owes) owes);
      stores = λ q c p owes h. some_still s (last ∷ []) _ st ts (gets_stored boot s q c (peer_placed s q c l p) p.2 v st ts enough y (held s _ st ts last h) owes);
      copies = λ q c p owes h. then_still s (last ∷ []) _ _ st ts (copies_made boot s q c (peer_placed s q c l p) p.2 v st ts long y x.paced (held s _ st ts last h) owes);
      sends = λ q c payload wait notify h. some_still s (last ∷ []) _ st ts (sends_made s q c payload wait notify boot some v st ts enough y (held s _ st ts last h));
      leaves = λ q p left bit told. let z = placed s q l p in some_still s (last ∷ []) _ st ts (bits_left boot s q z v st ts enough y x.paced x.facts (x.tied q z) left bit told);
      closes = λ q p ready reason. some_still s (last ∷ []) _ st ts (areas_closed boot s q (placed s q l p) v st ts enough y ready reason);
      tells = λ q p leaving bit told. some_still s (last ∷ []) _ st ts (partners_told boot s q (placed s q l p) v st ts enough y leaving bit told);
      takes = λ q c wait h. let g = held s (IsTaking s q c wait) st ts last h in let p = taken_peer s st q c wait l (first_holds (IsTaking s q c wait) s st ts g).now in some_still s (last ∷ []) _ st ts (takes_made boot s q c wait some (peer_placed s q c l p) p.2 v st ts enough y g);
    }

long_window : (count : ℕ) → count ≤ PARTS → VISIT_TURNS * count + VISIT_TURNS + 2 < window_of count
long_window count h = by (nat_lt WINDOW_PARTS count) refl where
  by : (b : Bool) → nat_lt WINDOW_PARTS count ≡ b → VISIT_TURNS * count + VISIT_TURNS + 2 < (if b then WINDOW_TURNS_EACH * count else WINDOW_TURNS)
  by true e = let m : 8 < count = grind (arith, nat_tests) in omega (arith, m)
  by false e = let m : count ≤ 8 = grind (arith, nat_tests) in omega (arith, m)

-- a boot is over before a window is
no_boot : (s : ScenarioPart) (boot : ℕ) (st : State) (ts : List Turn) (last : Turn) → IsLawfulPart s → length st.peers ≡ s.count → VISIT_TURNS * s.count + VISIT_TURNS + 1 < length ts → Window s st (ts ++ last ∷ []) → Throughout (IsBooting boot) s st (ts ++ last ∷ []) → ⊥
no_boot s boot st ts last l few long w h =
    let x = cut s w.visit st ts (last ∷ []) l w.turns in
    let up = held s (IsBooting boot) st ts last h in
    let less = boot_over s boot w.visit st ts x.visit.ring (x.boot (first_holds (IsBooting boot) s st ts up).booting) (λ v y ring. (planned_on (plan_of s) y v ring).0) x.runs x.follows up in
    let most = left_few s.part st in
    let p = l.part in
    omega (arith, less, most, few, long, p)

record Reached (s : ScenarioPart) (st : State) (window : List Turn) : Type 0 where
  here : Window s st window
  ends : Ended window
  long : VISIT_TURNS * s.count + VISIT_TURNS + 1 < length ends.early
  all : length st.peers ≡ s.count

reached : (s : ScenarioPart) (ts : List Turn) (st : State) (window : List Turn) → IsLawfulPart s → Runs s ts → Visited s ts → IsWindow s ts st window → Reached s st window
reached s ts st window l runs v w =
    let x : Going s (first_visit s) (start s) ts = record { visit = first_is s l; paced = fresh_paced s; runs = runs; follows = v.follows; prompt = v.prompt; boot = λ e. inl refl; tied = λ q y. tied_first s y.number q; facts = facts_first s } in
    let y = subst (λ (us : List Turn). Going s (first_visit s) (start s) us) w.turns x in
    let few = long_window s.count l.count in
    let n = w.long in
    let z = ended window (omega (arith, few, n)) in
    let m = z.long in
    record {
      here = subst (λ (z : State). Window s z window) (sym w.state) (reach s (first_visit s) (start s) w.before window w.after l y);
      ends = z;
      long = omega (arith, few, n, m);
      all = ap (λ (z : State). length z.peers) w.state ∙ (turns_all s (start s) w.before (begun_all s)).partners;
    }

-- what is said of a window, said of its turns but the last one and of that one
windowed : (G : List Turn → Type 0) (window : List Turn) → (x : Ended window) → G (x.early ++ x.last ∷ []) → G window
windowed G window x h = subst G (sym x.all) h

pub served : (s : ScenarioPart) → IsLawfulPart s → (ts : List Turn) → Runs s ts → Visited s ts → Windows s ts
served s l ts runs v = record {
  owed = λ st window w.
      let x = reached s ts st window l runs v w in
      windowed (λ us. Throughout (IsUp st.clock.boots) s st us → Owed s st us) window x.ends (λ up. owed s st.clock.boots st x.ends.early x.ends.last l x.long up (subst (λ (us : List Turn). Window s st us) x.ends.all x.here));
  boots = λ st window w.
      let x = reached s ts st window l runs v w in
      windowed (λ us. Throughout (IsBooting st.clock.boots) s st us → ⊥) window x.ends (λ up. no_boot s st.clock.boots st x.ends.early x.ends.last l x.all x.long (subst (λ (us : List Turn). Window s st us) x.ends.all x.here) up);
}
