-- What is due throughout a window, and needs no fact to be kept: the own words are taken and loaded,
-- the flags of a partner in contact are taken, and a send goes on.
use Rattle.std.proofs.Common.{◌≡◌, ℕ, ◌+◌, ◌*◌, ◌<◌, Bool, true, false, ◌&&◌, List, [], ◌∷◌, length, refl, ap, ◌∙◌, arith, Option, Some, None}
use Rattle.std.specs.Prelude.{IsSome, is_some, not, nat_eq, if◌then◌else◌}
use Rattle.xp_base.specs.History.{Turn}
use Rattle.xp_script.specs.declared.command.Command.{Command}
use Rattle.xp_script.specs.declared.command.Command.TheVariants.{Offline, Online}
use Rattle.xp_script.specs.declared.part.ScenarioPart.{ScenarioPart}
use Rattle.xp_rounds.specs.declared.rounds.TheConstants.{VISIT_TURNS}
use Rattle.xp_rounds.specs.Visit.{Visit}
use Rattle.xp_rounds.proofs.Spots.{Spot}
use Rattle.xp_protocol.specs.declared.rule.RingRule.{RingRule}
use Rattle.xp_protocol.specs.declared.rule.RingRule.TheVariants.{ReadGet, WriteEntryWord, AcceptMessage}
use Rattle.xp_protocol.specs.declared.rule.LinkRule.{LinkRule}
use Rattle.xp_protocol.specs.declared.rule.LinkRule.TheVariants.{Ring}
use Rattle.xp_protocol.specs.declared.rule.PeerRule.TheVariants.{TakeFlags}
use Rattle.xp_protocol.specs.declared.rule.OwnRule.TheVariants.{TakeActivation, StoreBeat, StoreOffline, TakeDeactivation, ReadEngaged}
use Rattle.xp_protocol.specs.declared.rule.Rule.TheVariants.{Link, Peer as ForPeer, Own}
use Rattle.xp_protocol.specs.State.{State, End, end_of, is_connected}
use Rattle.xp_protocol.specs.Rules.{offline_by, offline_asked}
use Rattle.xp_protocol.specs.Acts.{current, has_stored}
use Rattle.xp_protocol.specs.Runs.{after_turn}
use Rattle.xp_plan.specs.declared.errand.Errand.{Errand}
use Rattle.xp_plan.specs.declared.errand.Errand.TheVariants as errands
use Rattle.xp_plan.specs.EndSteps.{step_if, send_step, once, send_at}
use Rattle.xp_plan.specs.PeerSteps.{for_peer}
use Rattle.xp_plan.specs.Plan.{asked, link_rule, link_asked, command_asked, script_asked}
use Rattle.xp_windows.specs.Windows.{SomeTurn, Steps, At, SendsOn, TakesFlags, IsOwn, IsMet, IsSent, IsLeft, IsOnline, IsCounting}
use Rattle.xp_windows.proofs.Held.{Held}
use Rattle.xp_windows.proofs.Places.{Turns, asks, asks_own, joined, own_fits, fits_flags, fits_beat, fits_activations, fits_deactivations, fits_engagements, fits_script}
use Rattle.xp_windows.proofs.Asked.{done_in_time}

-- of an end whose partner is met
pub asked_link : (q c : ℕ) (st : State) (o : Option LinkRule) (m : LinkRule) → IsMet q st → o ≡ Some m → asked (link_asked st q c o) ≡ Some (Some (Link q c m))
asked_link q c st o m met e =
    ap (λ (b : Bool). asked (if b then link_rule q c o else None)) (joined q st met)
    ∙ ap (λ (x : Option LinkRule). asked (link_rule q c x)) e

-- the step of a command that stores the offline count
offline_step : (s : ScenarioPart) (st : State) (doing stored : Bool) (o : Option Command) (count : ℕ) → is_some (if doing && not stored then offline_by o count else None) ≡ true → is_some (offline_asked s st) ≡ true → (if doing then command_asked s st 0 o else None) ≡ Some (Own StoreOffline)
offline_step s st true false (Some Offline) count e h = ap (λ (b : Bool). step_if b (Own StoreOffline)) h
offline_step s st true false (Some Online) count e h = ap (λ (b : Bool). step_if b (Own StoreOffline)) h
offline_step s st true false (Some x) count e h = absurd (cc)
offline_step s st true false None count e h = absurd (cc)
offline_step s st true true o count e h = absurd (cc)
offline_step s st false stored o count e h = absurd (cc)

-- at the own place
module _ (boot : ℕ) (s : ScenarioPart) (some : 0 < s.count) (v : Visit Errand) (st : State) (ts : List Turn) (long : VISIT_TURNS * s.count + VISIT_TURNS < length ts) (x : Turns boot s v st ts) where
  abbrev Any : State → Type 0
  Any st = Unit {0}

  any : (us : List Turn) (y : State) → Held Any s y us
  any [] y = tt
  any (t ∷ us) y = (tt, tt, any us (after_turn s y t))

  pub beats_stored : Held IsOnline s st ts → SomeTurn (Steps (IsOwn StoreBeat) s) s st ts
  beats_stored h =
      done_in_time boot IsOnline (IsOwn StoreBeat) s 0 errands.Beat
      (λ y up h. own_fits s errands.Beat boot y up (fits_beat s))
      (λ y up h. record { rule = Own StoreBeat; asks = asks_own s errands.Beat 0 boot y up ∙ ap (λ (n : ℕ). asked (step_if (nat_eq n 0) (Own StoreBeat))) h; is = refl })
      (omega arith) (omega arith) v st ts some long x h

  pub offlines_stored : Held (IsCounting s) s st ts → SomeTurn (Steps (IsOwn StoreOffline) s) s st ts
  offlines_stored h =
      done_in_time boot (IsCounting s) (IsOwn StoreOffline) s 0 errands.Script
      (λ y up h. own_fits s errands.Script boot y up (fits_script s))
      (λ y up h. record { rule = Own StoreOffline; asks = asks_own s errands.Script 0 boot y up ∙ ap asked (offline_step s y y.script.doing (has_stored y) (current s y) y.beats.offline h h); is = refl })
      (omega arith) (omega arith) v st ts some long x h

  pub activations_taken : SomeTurn (Steps (IsOwn TakeActivation) s) s st ts
  activations_taken =
      done_in_time boot Any (IsOwn TakeActivation) s 0 errands.Activations
      (λ y up h. own_fits s errands.Activations boot y up (fits_activations s))
      (λ y up h. record { rule = Own TakeActivation; asks = asks_own s errands.Activations 0 boot y up; is = refl })
      (omega arith) (omega arith) v st ts some long x (any ts st)

  pub deactivations_taken : SomeTurn (Steps (IsOwn TakeDeactivation) s) s st ts
  deactivations_taken =
      done_in_time boot Any (IsOwn TakeDeactivation) s 0 errands.Deactivations
      (λ y up h. own_fits s errands.Deactivations boot y up (fits_deactivations s))
      (λ y up h. record { rule = Own TakeDeactivation; asks = asks_own s errands.Deactivations 0 boot y up; is = refl })
      (omega arith) (omega arith) v st ts some long x (any ts st)

  pub engagements_read : Held (IsLeft s) s st ts → SomeTurn (Steps (IsOwn ReadEngaged) s) s st ts
  engagements_read h =
      done_in_time boot (IsLeft s) (IsOwn ReadEngaged) s 0 errands.Engagements
      (λ y up h. own_fits s errands.Engagements boot y up (fits_engagements s))
      (λ y up h. record { rule = Own ReadEngaged; asks = asks_own s errands.Engagements 0 boot y up ∙ ap (λ (b : Bool). asked (step_if b (Own ReadEngaged))) h; is = refl })
      (omega arith) (omega arith) v st ts some long x h

-- the step of a send that goes on
once_first : (r : RingRule) → once 0 r ≡ Some (Ring r)
once_first ReadGet = refl
once_first (WriteEntryWord f) = refl
once_first AcceptMessage = refl

send_first : (e : End) → is_connected e ≡ true → IsSome e.sides.send.send → send_at 0 e ≡ Some (Ring (send_step e.sides.send))
send_first e on h =
    ap (λ (b : Bool). if b && is_some e.sides.send.send then once 0 (send_step e.sides.send) else None) on
    ∙ ap (λ (b : Bool). if b then once 0 (send_step e.sides.send) else None) h
    ∙ once_first (send_step e.sides.send)

module _ (s : ScenarioPart) (q c : ℕ) (payload : List ℕ) (wait notify : Bool) where
  send_asked : (st : State) → IsSent s q c payload wait notify st → asked (script_asked s st 0) ≡ Some (Some (Link q c (Ring (send_step (end_of st q c).sides.send))))
  send_asked st g =
      ap (λ (b : Bool). asked (if b then command_asked s st 0 (current s st) else None)) g.doing
      ∙ ap (λ (o : Option Command). asked (command_asked s st 0 o)) g.now
      ∙ asked_link q c st (send_at 0 (end_of st q c)) (Ring (send_step (end_of st q c).sides.send)) g.channel.met (send_first (end_of st q c) g.channel.connected g.goes_on)

  pub sends_made : (boot : ℕ) → 0 < s.count → (v : Visit Errand) (st : State) (ts : List Turn) → VISIT_TURNS * s.count + VISIT_TURNS < length ts → Turns boot s v st ts → Held (IsSent s q c payload wait notify) s st ts → SomeTurn (Steps (At q c SendsOn) s) s st ts
  sends_made boot some v st ts long x h =
      done_in_time boot (IsSent s q c payload wait notify) (At q c SendsOn) s 0 errands.Script
      (λ y up h. own_fits s errands.Script boot y up (fits_script s))
      (λ y up h. record { rule = Link q c (Ring (send_step (end_of y q c).sides.send)); asks = asks_own s errands.Script 0 boot y up ∙ send_asked y h; is = (refl, refl, tt) })
      (omega arith) (omega arith) v st ts some long x h

-- the flags of a partner
pub flags_taken : (boot : ℕ) (s : ScenarioPart) (q : ℕ) (x : Spot s.part s.count q) (v : Visit Errand) (st : State) (ts : List Turn) → VISIT_TURNS * s.count + VISIT_TURNS < length ts → Turns boot s v st ts → Held (IsMet q) s st ts → SomeTurn (Steps (TakesFlags q) s) s st ts
flags_taken boot s q x v st ts long y h =
    done_in_time boot (IsMet q) (TakesFlags q) s x.number errands.Flags
    (λ z up h. fits_flags s q x boot z up h)
    (λ z up h. record { rule = ForPeer q TakeFlags; asks = asks s q x errands.Flags 0 boot z up ∙ ap (λ (b : Bool). asked (for_peer q (step_if b TakeFlags))) (joined q z h); is = refl })
    (omega arith) (omega arith) v st ts x.low long y h
