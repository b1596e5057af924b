-- What is stored for a partner whose record was read: the echo of its session, and then the second
-- magic; and where its memory isn't open, the own bit goes.
use Rattle.std.proofs.Common.{◌≡◌, ℕ, ◌+◌, ◌*◌, ◌<◌, ◌≤◌, Bool, true, false, ◌&&◌, ◌||◌, List, [], ◌∷◌, length, refl, ap, sym, ◌∙◌, subst, arith, inl, inr, ◌⊎◌, Option, Some, None}
use Rattle.std.specs.Prelude.{IsSome, is_some, not, nat_eq, if◌then◌else◌}
use Rattle.xp_base.specs.declared.reason.Reason.{Reason}
use Rattle.xp_base.specs.declared.reason.Reason.TheVariants.{Unloading}
use Rattle.xp_base.specs.declared.step.Answer.{Answer}
use Rattle.xp_base.specs.declared.step.Answer.TheVariants.{Word, Failed}
use Rattle.xp_base.specs.declared.step.CopyKind.{CopyKind}
use Rattle.xp_base.specs.History.{Marked, Turn}
use Rattle.xp_script.specs.declared.part.ScenarioPart.{ScenarioPart}
use Rattle.xp_rounds.specs.declared.rounds.TheConstants.{VISIT_TURNS}
use Rattle.xp_rounds.specs.Visit.{Visit}
use Rattle.xp_rounds.proofs.Visits.{Fits}
use Rattle.xp_rounds.proofs.Sources.{Paced}
use Rattle.xp_rounds.proofs.Duties.{Along, Moved}
use Rattle.xp_rounds.proofs.Asides.{Duty, done}
use Rattle.xp_rounds.proofs.Spots.{Spot}
use Rattle.xp_protocol.specs.declared.contact.PartnerState.{PartnerState}
use Rattle.xp_protocol.specs.declared.contact.PartnerState.TheVariants.{Requested, Activating, Active}
use Rattle.xp_protocol.specs.declared.rule.PeerRule.{PeerRule}
use Rattle.xp_protocol.specs.declared.rule.PeerRule.TheVariants.{AskActivation, TakeFlags, CloseArea, ZeroMagic, ClearOldBit, Prepare, OpenArea, SetEngagementBit, ReadRecord, StoreEcho, StoreSecond, ClearEngagementBit, LookAtPage, CheckBeat, ClearDeactivationBit, TellPartner}
use Rattle.xp_protocol.specs.declared.rule.Rule.{Rule}
use Rattle.xp_protocol.specs.declared.rule.Rule.TheVariants.{Peer as ForPeer}
use Rattle.xp_protocol.specs.Effects.{first_reason}
use Rattle.xp_protocol.specs.State.{State, Old, Off, Ready, Leaving, Area, Peer, PeerGoing, Engage, Reading, cold_peer, peer_of}
use Rattle.xp_protocol.specs.Peering.{Here, is_ready, is_left, is_bad_flags, is_magic, is_wrong, has_shown, peer_can, peer_effect, record_read, try_contact, contact_made, same_peer, copies_go_on, copy_ended, reading_failed, with_reason}
use Rattle.xp_protocol.specs.Rules.{here_of, mark_of, peer_answered}
use Rattle.xp_protocol.specs.Acts.{state_unwanted}
use Rattle.xp_protocol.specs.Runs.{May, after_step, after_turn, is_failed}
use Rattle.xp_protocol.proofs.Frames.{cond_peer}
use Rattle.xp_plan.specs.declared.errand.Errand.{Errand}
use Rattle.xp_plan.specs.declared.errand.Errand.TheVariants as errands
use Rattle.xp_plan.specs.EndSteps.{step_if}
use Rattle.xp_plan.specs.PeerSteps.{for_peer, is_open_to, echo_step, is_backing_off, answer_at, leave_bit, leave_by, leave_at}
use Rattle.xp_plan.specs.declared.errand.Agenda.TheVariants as agendas
use Rattle.xp_plan.specs.Plan.{asked, errands_of, plan_of}
use Rattle.xp_windows.specs.Windows.{middle, Steps, IsFor, IsUp, IsOpenTo, IsActivating, SomeTurn}
use Rattle.xp_windows.proofs.Held.{Held}
use Rattle.xp_windows.specs.Visited.{rule_by, rule_made}
use Rattle.xp_windows.proofs.Places.{Turns, first_holds, asks}
use Rattle.xp_windows.proofs.Asked.{steps_by}
use Rattle.xp_windows.proofs.Copies.{whole}
use Rattle.xp_windows.proofs.Lives.{on_turn}
use Rattle.xp_windows.proofs.PeerFrames.{acts_leave}
use Rattle.xp_windows.proofs.Planned.{planned_by}
use Rattle.xp_windows.proofs.Looks.{Tied}
use Rattle.xp_windows.proofs.Facts.{Facts, Pacing, pacing_next, facts_mid, calm, apart_fits, unjoined, fits_answer, fits_leave, in_range, made_for, looks_aside, not_looking}
use Rattle.xp_windows.proofs.PeerFrames.{Awaits, turn_awaits}
use Rattle.xp_windows.proofs.Engages.{opens_to, Asked, asked_acts}

-- what a fact of how a partner is engaged has to stand while the own memory stands open to it
pub record Lasts (Q : Engage → Type 0) : Type 0 where
  pub ready : (x : Engage) → Q x → x.area ≡ Ready
  pub reads : (x : Engage) (o : Option Reading) (shown : Bool) → Q x → Q (record x { reading = o; shown = shown })
  pub magics : (x : Engage) (b : Bool) → (x.back_off ≡ true → b ≡ true) → Q x → Q (record x { back_off = b })
  pub sessions : (x : Engage) (o : Option Reading) (w : ℕ) → Q x → Q (record x { read = Some w; reading = o })
  pub states : (x : Engage) (state : PartnerState) → Q x → Q (record x { state = state })
  pub reasons : (x : Engage) (o : Option Reason) → Q x → Q (record x { reason = o })
  pub zeros : (x : Engage) (a b : Bool) → Q x → Q (record x { zeroed = a; cleared = b })

-- a copy of the partner's record leaves it
module _ (Q : Engage → Type 0) (z : Lasts Q) where
  abbrev On : Peer → Type 0
  On p = Q p.engage

  contact_on : (turn stamp : ℕ) (p : Peer) → On p → On (try_contact turn stamp p).local
  contact_on turn stamp p h = cond_peer On (p.engage.second && (p.engage.shown && not (is_some p.contact))) (contact_made turn stamp p) (same_peer p) (z.states p.engage Active h) h

  or_true : (a b : Bool) → a ≡ true → (a || b) ≡ true
  or_true true b e = refl
  or_true false b e = absurd (cc)

  read_on : (y : Here) (p : Peer) (o : Option Reading) (w : ℕ) → On p → On (record_read y p o w).local
  read_on y p None w h = cond_peer On (nat_eq w 0) _ _ (z.magics p.engage (p.engage.back_off || not (is_some p.engage.echo)) (λ e. or_true p.engage.back_off (not (is_some p.engage.echo)) e) h) (cond_peer On (is_magic w) _ _ (z.reads p.engage _ p.engage.shown h) h)
  read_on y p (Some r) w h =
      cond_peer On (nat_eq r.done 1) _ _ (z.sessions p.engage _ w h) (cond_peer On (nat_eq r.done 2) _ _ (z.reads p.engage _ p.engage.shown h) (cond_peer On (nat_eq r.done 7) _ _
      (cond_peer On (has_shown y.stamp p.engage r) _ _ (contact_on y.turn y.stamp (record p { engage = record p.engage { shown = true; reading = None } }) (z.reads p.engage None true h)) (z.reads p.engage None p.engage.shown h))
      (cond_peer On (is_wrong y.part r.done w) _ _ (z.reads p.engage None p.engage.shown h) (z.reads p.engage _ p.engage.shown h))))

ready_left : (a : Area) (bit : Bool) → a ≡ Ready → is_left (record (cold_peer Old).engage { area = a; bit = bit }) ≡ true → ⊥
ready_left Ready bit e f = cc
ready_left Off bit e f = cc
ready_left Old bit e f = absurd (cc)
ready_left Leaving bit e f = absurd (cc)

ready_off : (a : Area) → a ≡ Ready → a ≡ Off → ⊥
ready_off a e f = let g : Ready ≡ Off = sym e ∙ f in cc

ready_leaving : (a : Area) → a ≡ Ready → a ≡ Leaving → ⊥
ready_leaving a e f = let g : Ready ≡ Leaving = sym e ∙ f in cc

reason_not : (o : Option Reason) → o ≡ None → IsSome o → ⊥
reason_not None e h = cc
reason_not (Some r) e h = absurd (cc)

some_not : (o : Option ℕ) → is_some o ≡ true → o ≡ None → ⊥
some_not None e f = cc
some_not (Some v) e f = cc

both_not : (b : Bool) → b ≡ true → b ≡ false → ⊥
both_not b e f = let g : true ≡ false = sym e ∙ f in cc

none_is : {A : Type 0} (o : Option A) → (is_some o ≡ true → ⊥) → o ≡ None
none_is None n = refl
none_is (Some x) n = absurd (n refl)

-- no step for a partner but these changes it while no reason to deactivate the partner stands
module _ (Q : Engage → Type 0) (z : Lasts Q) (goal : PeerRule) (N : Peer → PeerRule → Type 0) (free : (p : Peer) (m : PeerRule) → N p m → p.engage.reason ≡ None)
    (sets : (y : Here) (p : Peer) (g : PeerGoing) (w : ℕ) → peer_can y p SetEngagementBit → Q p.engage → Q (peer_effect y (record p { numbers = g }) SetEngagementBit w).local.engage)
    (echoes : (y : Here) (p : Peer) (g : PeerGoing) (w : ℕ) → peer_can y p StoreEcho → N p StoreEcho → Q p.engage → (StoreEcho ≡ goal) ⊎ Q (peer_effect y (record p { numbers = g }) StoreEcho w).local.engage)
    (seconds : (y : Here) (p : Peer) → peer_can y p StoreSecond → Q p.engage → (StoreSecond ≡ goal) ⊎ Q (record p.engage { second = true }))
    (clears : (y : Here) (p : Peer) (g : PeerGoing) (w : ℕ) → peer_can y p ClearEngagementBit → N p ClearEngagementBit → Q p.engage → (ClearEngagementBit ≡ goal) ⊎ Q (peer_effect y (record p { numbers = g }) ClearEngagementBit w).local.engage) where
  abbrev In : Peer → Type 0
  In p = Q p.engage

  second_by : (y : Here) (p : Peer) (g : PeerGoing) → (StoreSecond ≡ goal) ⊎ Q (record p.engage { second = true }) → (StoreSecond ≡ goal) ⊎ In (try_contact y.turn y.stamp (record p { numbers = g; engage = record p.engage { second = true } })).local
  second_by y p g (inl e) = inl e
  second_by y p g (inr h) = inr (contact_on Q z y.turn y.stamp (record p { numbers = g; engage = record p.engage { second = true } }) h)

  steps : (y : Here) (p : Peer) (g : PeerGoing) (m : PeerRule) (w : ℕ) → peer_can y p m → N p m → In p → (m ≡ goal) ⊎ In (peer_effect y (record p { numbers = g }) m w).local
  steps y p g AskActivation w can n h = inr (z.states p.engage Requested h)
  steps y p g TakeFlags w can n h = inr (cond_peer In (is_bad_flags w) _ _ h h)
  steps y p g CloseArea w can n h = absurd (reason_not p.engage.reason (free p CloseArea n) can.1)
  steps y p g ZeroMagic w can n h = inr (z.zeros p.engage true p.engage.cleared h)
  steps y p g ClearOldBit w can n h = inr (z.zeros p.engage p.engage.zeroed true h)
  steps y p g (Prepare x) w can n h = absurd (ready_off p.engage.area (z.ready p.engage h) can.0)
  steps y p g OpenArea w can n h = absurd (ready_off p.engage.area (z.ready p.engage h) can.0)
  steps y p g SetEngagementBit w can n h = inr (sets y p g w can h)
  steps y p g ReadRecord w can n h = inr (read_on Q z y (record p { numbers = g }) p.engage.reading w h)
  steps y p g StoreEcho w can n h = echoes y p g w can n h
  steps y p g StoreSecond w can n h = second_by y p g (seconds y p can h)
  steps y p g ClearEngagementBit w can n h = clears y p g w can n h
  steps y p g LookAtPage w can n h = inr (cond_peer In _ _ _ h h)
  steps y p g CheckBeat w can n h = inr h
  steps y p g ClearDeactivationBit w can n h = absurd (ready_off p.engage.area (z.ready p.engage h) can)
  steps y p g TellPartner w can n h = absurd (ready_leaving p.engage.area (z.ready p.engage h) can.0)

  ends : (turn : ℕ) (kind : CopyKind) (p : Peer) → In p → In (copy_ended turn kind p)
  ends turn kind p h = z.reads p.engage (reading_failed kind p.engage.reading) p.engage.shown h

  awaits : Awaits N In goal
  awaits = record {
    acts = record { linked = λ p links h. h; unwanted = λ p h. z.reasons (record p.engage { state = state_unwanted p.engage.area p.engage.state }) (first_reason p.engage.reason (if is_ready p.engage.area then Some Unloading else None)) (z.states p.engage (state_unwanted p.engage.area p.engage.state) h); wanted = λ p h. h };
    linked = λ p links going h. h;
    reasoned = λ o p h. z.reasons p.engage (first_reason p.engage.reason (if is_ready p.engage.area then o else None)) h;
    ended = λ turn kind p m k h. inr (ends turn kind p h);
    freed = λ p l h. ready_left p.engage.area p.engage.bit (z.ready p.engage h) l;
    steps = steps;
  }

-- an errand of a partner that isn't joined, and what it asks for
pub record Errands (s : ScenarioPart) (q : ℕ) : Type 0 where
  pub errand : Errand
  pub at : Peer → Option PeerRule
  pub other : errands.Look ≡ errand → ⊥
  pub some : 1 ≤ (plan_of s).quota errand
  pub most : (plan_of s).quota errand ≤ VISIT_TURNS
  pub fits : Fits (plan_of s) errand (errands_of agendas.Apart)
  pub asks : (x : Spot s.part s.count q) (boot : ℕ) (st : State) → IsUp boot st → (plan_of s).ask x.number errand 0 st ≡ asked (for_peer q (at (peer_of st q)))

pub not_answer : errands.Look ≡ errands.Answer → ⊥
not_answer e = cc

pub not_leave : errands.Look ≡ errands.Leave → ⊥
not_leave e = cc

abbrev pub answering : (s : ScenarioPart) (q : ℕ) → Errands s q
answering s q = record { errand = errands.Answer; at = answer_at; other = not_answer; some = omega arith; most = omega arith; fits = fits_answer s; asks = λ x boot st up. asks s q x errands.Answer 0 boot st up }

abbrev pub leaving : (s : ScenarioPart) (q : ℕ) → Errands s q
leaving s q = record { errand = errands.Leave; at = leave_at; other = not_leave; some = omega arith; most = omega arith; fits = fits_leave s; asks = λ x boot st up. asks s q x errands.Leave 0 boot st up }

-- a step of it
module _ (boot : ℕ) (C : State → Type 0) (s : ScenarioPart) (q : ℕ) (x : Spot s.part s.count q) (goal : PeerRule) (N : Peer → PeerRule → Type 0) (P : Peer → Type 0) (z : Awaits N P goal) (Done : State → Turn → Type 0) (w : Errands s q) where
  abbrev IsAlong : Visit Errand → State → List Turn → Type 0
  IsAlong v st ts = Along (plan_of s) (middle s) (after_turn s) (rule_made s) s.count (Pacing boot C s q x) (pacing_next boot C s q x) v st ts

  abbrev Free : State → Turn → Type 0
  Free st t = (peer_of (middle s st t) q).paging ≡ []

  -- what the errand asks for, and what is claimed of it
  record Comes (st : State) (t : Turn) : Type 0 where
    rule : PeerRule
    is : w.at (peer_of (middle s st t) q) ≡ Some rule
    done : rule_made s (middle s st t) t ≡ Some (ForPeer q rule) → Done st t

  module _ (known : (v : Visit Errand) (st : State) (t : Turn) (ts : List Turn) → IsAlong v st (t ∷ ts) → P (peer_of (middle s st t) q) → (m : PeerRule) → rule_made s (middle s st t) t ≡ Some (ForPeer q m) → N (peer_of (middle s st t) q) m)
      (apart : (v : Visit Errand) (st : State) (t : Turn) (ts : List Turn) → IsAlong v st (t ∷ ts) → P (peer_of (middle s st t) q) → (peer_of (middle s st t) q).contact ≡ None)
      (comes : (v : Visit Errand) (st : State) (t : Turn) (ts : List Turn) → IsAlong v st (t ∷ ts) → Free st t → P (peer_of (middle s st t) q) → Comes st t)
      (claim : (v : Visit Errand) (st : State) (t : Turn) (ts : List Turn) → IsAlong v st (t ∷ ts) → P (peer_of (middle s st t) q) → Steps (IsFor q goal) s st t → Done st t) where
    mid : (st : State) (t : Turn) → P (peer_of st q) → P (peer_of (middle s st t) q)
    mid st t h = acts_leave P s q z.acts st t.before h

    or_done : (st : State) (t : Turn) (ts : List Turn) → (Steps (IsFor q goal) s st t → Done st t) → Steps (IsFor q goal) s st t ⊎ P (peer_of (after_turn s st t) q) → SomeTurn Done s st (t ∷ ts) ⊎ P (peer_of (after_turn s st t) q)
    or_done st t ts f (inl d) = inl (inl (f d))
    or_done st t ts f (inr h) = inr h

    stays : (v : Visit Errand) (st : State) (t : Turn) (ts : List Turn) → IsAlong v st (t ∷ ts) → P (peer_of st q) → SomeTurn Done s st (t ∷ ts) ⊎ P (peer_of (after_turn s st t) q)
    stays v st t ts a h =
        let later = first_holds (IsUp boot) s (after_turn s st t) ts a.more.run.up.2 in
        or_done st t ts (λ d. claim v st t ts a (mid st t h) d) (turn_awaits N P goal z s q st t (later.boot ∙ sym a.more.run.up.0.boot) a.more.run.runs.0 (known v st t ts a (mid st t h)) h)

    asks_now : (v : Visit Errand) (st : State) (t : Turn) (ts : List Turn) (n : ℕ) → IsAlong v st (t ∷ ts) → Free st t → P (peer_of st q) → (o : Option Rule) × ((plan_of s).ask x.number w.errand 0 (middle s st t) ≡ Some o) × (rule_made s (middle s st t) t ≡ o → SomeTurn Done s st (t ∷ ts) ⊎ Moved (plan_of s) (middle s) (after_turn s) (rule_made s) s.count (Pacing boot C s q x) (pacing_next boot C s q x) (Unit {0}) (λ _ n used y. (used ≡ 0) × P (peer_of y q)) (λ _ y us. SomeTurn Done s y us) tt n 0 st t ts)
    asks_now v st t ts n a free h =
        let y = comes v st t ts a free (mid st t h) in
        (Some (ForPeer q y.rule), w.asks x boot (middle s st t) a.more.run.up.1 ∙ ap (λ (o : Option PeerRule). asked (for_peer q o)) y.is, λ f. inl (inl (y.done f)))

    duty : Duty (plan_of s) (middle s) (after_turn s) (rule_made s) s.count (Pacing boot C s q x) (pacing_next boot C s q x) x.number w.errand 0 Free (λ y. P (peer_of y q)) (Unit {0}) tt (λ _ n used y. (used ≡ 0) × P (peer_of y q)) (λ _ y us. SomeTurn Done s y us)
    duty = record {
      later = λ st t ts h. inr h;
      aside = λ v st t ts a h. looks_aside boot C s q x w.errand w.other v st t a.more.tied;
      stays = λ v st t ts a long h. stays v st t ts a h;
      fits = λ v st t ts a h. apart_fits s q x w.errand boot (middle s st t) a.more.run.up.1 (unjoined (peer_of (middle s st t) q) (apart v st t ts a (mid st t h))) w.fits;
      begins = λ v st t ts a free h. (0, (let some = w.some in omega (arith, some)), (refl, h));
      asks = λ ph n used v st t ts a free long few u. subst (λ (j : ℕ). (o : Option Rule) × ((plan_of s).ask x.number w.errand j (middle s st t) ≡ Some o) × (rule_made s (middle s st t) t ≡ o → SomeTurn Done s st (t ∷ ts) ⊎ Moved (plan_of s) (middle s) (after_turn s) (rule_made s) s.count (Pacing boot C s q x) (pacing_next boot C s q x) (Unit {0}) (λ _ n used y. (used ≡ 0) × P (peer_of y q)) (λ _ y us. SomeTurn Done s y us) tt n j st t ts)) (sym u.0) (asks_now v st t ts n a (free u.0) u.1);
    }

    answered : (v : Visit Errand) (st : State) (ts : List Turn) → VISIT_TURNS * s.count + VISIT_TURNS < length ts → Turns boot s v st ts → Paced (plan_of s) (whole s) v → Facts st → Tied s x.number q v st → Held C s st ts → P (peer_of st q) → SomeTurn Done s st ts
    answered v st ts long y paced facts tied holds h =
        done (plan_of s) (middle s) (after_turn s) (rule_made s) s.count (Pacing boot C s q x) (pacing_next boot C s q x) x.number w.errand 0 Free (λ y. P (peer_of y q)) (Unit {0}) tt (λ _ n used y. (used ≡ 0) × P (peer_of y q)) (λ _ y us. SomeTurn Done s y us) duty v st ts x.low w.some w.most (let most = w.most in omega (arith, long))
        (record { ring = y.ring; places = y.places; follows = y.follows; more = record { run = record { runs = y.runs; up = y.up; holds = holds }; paced = paced; facts = facts; tied = tied } }) h

-- what the errand asks for
opened : (p : Peer) (m : PeerRule) → is_open_to p.engage ≡ true → (if is_backing_off p then Some ClearEngagementBit else echo_step p.engage) ≡ Some m → answer_at p ≡ Some m
opened p m o e = ap (λ (b : Bool). if b then (if is_backing_off p then Some ClearEngagementBit else echo_step p.engage) else None) o ∙ e

goes_by : (a b c d : Bool) → a ≡ true → b ≡ true → c ≡ false → d ≡ false → ((a && b) && (not c && not d)) ≡ true
goes_by true true false false e f g h = refl
goes_by true true false true e f g h = absurd (cc)
goes_by true true true d e f g h = absurd (cc)
goes_by true false c d e f g h = absurd (cc)
goes_by false b c d e f g h = absurd (cc)

none_some : (o : Option ℕ) → o ≡ None → is_some o ≡ false
none_some None e = refl
none_some (Some v) e = absurd (cc)

-- the own bit goes: no copy goes on
bit_goes : (st : State) (q : ℕ) → Facts st → (peer_of st q).engage.area ≡ Ready → (peer_of st q).engage.bit ≡ true → (peer_of st q).engage.back_off ≡ true → (peer_of st q).paging ≡ [] → is_backing_off (peer_of st q) ≡ true
bit_goes st q f ready bit back page =
    let p = peer_of st q in
    let e = f.stands q in
    let b = e.back back in
    goes_by p.engage.bit p.engage.back_off (is_some p.engage.echo) (copies_go_on p) bit back (none_some p.engage.echo b.1) (calm st q f (none_is p.contact (λ m. some_not p.engage.echo (e.second ready (e.met m).1) b.1)) b.0 page)

-- the second magic
abbrev pub Half : Engage → Type 0
Half x = (x.area ≡ Ready) × (is_some x.echo ≡ true) × (x.second ≡ false)

abbrev Unreasoned : Peer → PeerRule → Type 0
Unreasoned p m = p.engage.reason ≡ None

half_lasts : Lasts Half
half_lasts = record { ready = λ x h. h.0; reads = λ x o b h. h; magics = λ x b f h. h; sessions = λ x o w h. h; states = λ x state h. h; reasons = λ x o h. h; zeros = λ x a b h. h }

pub half_awaits : Awaits Unreasoned (λ p. Half p.engage) StoreSecond
half_awaits = awaits Half half_lasts StoreSecond Unreasoned (λ p m n. n) (λ y p g w can h. h) (λ y p g w can n h. absurd (some_not p.engage.echo h.1 can.3)) (λ y p can h. inl refl) clear_not where
  clear_not : (y : Here) (p : Peer) (g : PeerGoing) (w : ℕ) → peer_can y p ClearEngagementBit → Unreasoned p ClearEngagementBit → Half p.engage → (ClearEngagementBit ≡ StoreSecond) ⊎ Half (peer_effect y (record p { numbers = g }) ClearEngagementBit w).local.engage
  clear_not y p g w can n h = absurd (by can.2) where
    by : ((p.engage.area ≡ Ready) × (p.engage.reason ≡ None) × (p.engage.echo ≡ None) × (p.engage.back_off ≡ true)) ⊎ ((p.engage.area ≡ Leaving) × (p.engage.told ≡ true)) → ⊥
    by (inl c) = some_not p.engage.echo h.1 c.2
    by (inr c) = ready_leaving p.engage.area h.0 c.0

not_backing : (a b c d : Bool) → c ≡ true → ((a && b) && (not c && d)) ≡ false
not_backing true true true d e = refl
not_backing true false true d e = refl
not_backing false b true d e = refl
not_backing a b false d e = absurd (cc)

module _ (boot : ℕ) (s : ScenarioPart) (q : ℕ) (x : Spot s.part s.count q) where
  abbrev Open : State → Type 0
  Open st = IsOpenTo q st

  pub seconds_stored : (v : Visit Errand) (st : State) (ts : List Turn) → VISIT_TURNS * s.count + VISIT_TURNS < length ts → Turns boot s v st ts → Paced (plan_of s) (whole s) v → Facts st → Tied s x.number q v st → Held Open s st ts → IsSome (peer_of st q).engage.echo → (peer_of st q).engage.second ≡ false → SomeTurn (Steps (IsFor q StoreSecond) s) s st ts
  seconds_stored v st ts long y paced facts tied holds some none =
      answered boot Open s q x StoreSecond Unreasoned (λ p. Half p.engage) half_awaits (Steps (IsFor q StoreSecond) s) (answering s q)
      (λ v st t ts a h m e. a.more.run.holds.1.free)
      (λ v st t ts a h. none_is (peer_of (middle s st t) q).contact (λ m. both_not (peer_of (middle s st t) q).engage.second (((facts_mid s st t.before a.more.facts).stands q).met m).1 h.2))
      (λ v st t ts a free h. record { rule = StoreSecond; is = opened (peer_of (middle s st t) q) StoreSecond (opens_to (peer_of (middle s st t) q) h.0 a.more.run.holds.1.free) (by (peer_of (middle s st t) q) h); done = λ f. steps_by (IsFor q StoreSecond) s st t (ForPeer q StoreSecond) f refl })
      (λ v st t ts a h d. d) v st ts long y paced facts tied holds ((first_holds Open s st ts holds).ready, some, none)
    where
      by : (p : Peer) → Half p.engage → (if is_backing_off p then Some ClearEngagementBit else echo_step p.engage) ≡ Some StoreSecond
      by p h =
          ap (λ (b : Bool). if b then Some ClearEngagementBit else echo_step p.engage) (not_backing p.engage.bit p.engage.back_off (is_some p.engage.echo) (not (copies_go_on p)) h.1)
          ∙ ap (λ (b : Bool). if b then step_if (not p.engage.second) StoreSecond else step_if (p.engage.bit && is_some p.engage.read) StoreEcho) h.1
          ∙ ap (λ (b : Bool). step_if (not b) StoreSecond) h.2

-- the own bit, where the partner's memory isn't open
abbrev pub Backing : Engage → Type 0
Backing x = (x.area ≡ Ready) × (x.bit ≡ true) × (x.back_off ≡ true)

abbrev NoEcho : Peer → PeerRule → Type 0
NoEcho p m = (p.engage.reason ≡ None) × (m ≡ StoreEcho → ⊥)

backing_lasts : Lasts Backing
backing_lasts = record { ready = λ x h. h.0; reads = λ x o b h. h; magics = λ x b f h. (h.0, h.1, f h.2); sessions = λ x o w h. h; states = λ x state h. h; reasons = λ x o h. h; zeros = λ x a b h. h }

pub backing_awaits : Awaits NoEcho (λ p. Backing p.engage) ClearEngagementBit
backing_awaits = awaits Backing backing_lasts ClearEngagementBit NoEcho (λ p m n. n.0) (λ y p g w can h. absurd (both_not p.engage.bit h.1 can.2)) (λ y p g w can n h. absurd (n.1 refl)) (λ y p can h. inr h) (λ y p g w can n h. inl refl)

module _ (boot : ℕ) (C : State → Type 0) (s : ScenarioPart) (q : ℕ) (x : Spot s.part s.count q) (free : (st : State) → C st → (peer_of st q).engage.reason ≡ None) (Done : State → Turn → Type 0) where
  uncontacted_back : (st : State) → Facts st → Backing (peer_of st q).engage → (peer_of st q).contact ≡ None
  uncontacted_back st f h = let e = f.stands q in none_is (peer_of st q).contact (λ m. some_not (peer_of st q).engage.echo (e.second h.0 (e.met m).1) (e.back h.2).1)

  abbrev Turning : Visit Errand → State → List Turn → Type 0
  Turning v st ts = IsAlong boot C s q x ClearEngagementBit NoEcho (λ p. Backing p.engage) backing_awaits Done (answering s q) v st ts

  pub bits_cleared : (v : Visit Errand) (st : State) (ts : List Turn) → ((w : Visit Errand) (y : State) (t : Turn) (us : List Turn) → Turning w y (t ∷ us) → Backing (peer_of (middle s y t) q).engage → Steps (IsFor q ClearEngagementBit) s y t → Done y t) → VISIT_TURNS * s.count + VISIT_TURNS < length ts → Turns boot s v st ts → Paced (plan_of s) (whole s) v → Facts st → Tied s x.number q v st → Held C s st ts → (peer_of st q).engage.state ≡ Activating → (peer_of st q).engage.back_off ≡ true → SomeTurn Done s st ts
  bits_cleared v st ts claim long y paced facts tied holds active back =
      answered boot C s q x ClearEngagementBit NoEcho (λ p. Backing p.engage) backing_awaits Done (answering s q)
      (λ v st t ts a h m e. (free (middle s st t) a.more.run.holds.1, λ i. unechoed v st t ts a h (e ∙ ap (λ (n : PeerRule). Some (ForPeer q n)) i)))
      (λ v st t ts a h. uncontacted_back (middle s st t) (facts_mid s st t.before a.more.facts) h)
      (λ v st t ts a page h. record { rule = ClearEngagementBit; is = opened (peer_of (middle s st t) q) ClearEngagementBit (opens_to (peer_of (middle s st t) q) h.0 (free (middle s st t) a.more.run.holds.1)) (ap (λ (b : Bool). if b then Some ClearEngagementBit else echo_step (peer_of (middle s st t) q).engage) (bit_goes (middle s st t) q (facts_mid s st t.before a.more.facts) h.0 h.1 h.2 page)); done = λ f. claim v st t ts a h (steps_by (IsFor q ClearEngagementBit) s st t (ForPeer q ClearEngagementBit) f refl) })
      claim v st ts long y paced facts tied holds (((facts.stands q).active active).0, ((facts.stands q).active active).1, back)
    where
      unechoed : (v : Visit Errand) (st : State) (t : Turn) (ts : List Turn) → Turning v st (t ∷ ts) → Backing (peer_of (middle s st t) q).engage → rule_made s (middle s st t) t ≡ Some (ForPeer q StoreEcho) → ⊥
      unechoed v st t ts a h e =
          let planned_is = sym a.follows.0 ∙ e in
          let page = not_looking boot C s q x v st t (ForPeer q StoreEcho) a.more.tied planned_is (λ f. cc) in
          let meant = (planned_by s v (middle s st t) (ForPeer q StoreEcho) a.more.paced planned_is).meant in
          both_not (is_backing_off (peer_of (middle s st t) q)) (bit_goes (middle s st t) q (facts_mid s st t.before a.more.facts) h.0 h.1 h.2 page) meant

-- the echo
abbrev pub Unechoed : Engage → Type 0
Unechoed x = (x.area ≡ Ready) × (x.bit ≡ true) × (x.echo ≡ None) × (is_some x.read ≡ true)

abbrev NoClear : Peer → PeerRule → Type 0
NoClear p m = (p.engage.reason ≡ None) × (m ≡ ClearEngagementBit → ⊥)

unechoed_lasts : Lasts Unechoed
unechoed_lasts = record { ready = λ x h. h.0; reads = λ x o b h. h; magics = λ x b f h. h; sessions = λ x o w h. (h.0, h.1, h.2, refl); states = λ x state h. h; reasons = λ x o h. h; zeros = λ x a b h. h }

pub unechoed_awaits : Awaits NoClear (λ p. Unechoed p.engage) StoreEcho
unechoed_awaits = awaits Unechoed unechoed_lasts StoreEcho NoClear (λ p m n. n.0) (λ y p g w can h. absurd (both_not p.engage.bit h.1 can.2)) (λ y p g w can n h. inl refl) (λ y p can h. inr h) (λ y p g w can n h. absurd (n.1 refl))

-- a partner at which the own bit was cleared isn't activating any more
pub bit_gone : (boot : ℕ) (s : ScenarioPart) (q : ℕ) (st : State) (t : Turn) → May s st t → IsUp boot st → IsUp boot (after_turn s st t) → (peer_of (middle s st t) q).engage.area ≡ Ready → rule_made s (middle s st t) t ≡ Some (ForPeer q ClearEngagementBit) → (peer_of (after_turn s st t) q).engage.state ≡ Activating → ⊥
bit_gone boot s q st t may a b ready e active = let f : Requested ≡ Activating = sym after.1 ∙ active in cc where
  gone : (a : Area) (state : PartnerState) → a ≡ Ready → (if is_ready a then Requested else state) ≡ Requested
  gone Ready state i = refl
  gone Off state i = absurd (cc)
  gone Old state i = absurd (cc)
  gone Leaving state i = absurd (cc)

  makes : (a : Answer) → is_failed a ≡ false → let f = peer_answered (here_of s (middle s st t) q) (mark_of s (middle s st t) (ForPeer q ClearEngagementBit)) (peer_of (middle s st t) q) ClearEngagementBit a in Asked (with_reason f.reason f.local)
  makes (Word w) i = (ready, gone (peer_of (middle s st t) q).engage.area (peer_of (middle s st t) q).engage.state ready)
  makes Failed i = absurd (cc)

  after : Asked (peer_of (after_turn s st t) q)
  after =
      on_turn s st t (b.boot ∙ sym a.boot) (λ (y : State). Asked (peer_of y q)) (λ y h. h)
      (acts_leave Asked s q asked_acts (after_step s (middle s st t) t.made) t.after (made_for s (middle s st t) t.made q ClearEngagementBit Asked may.made e (in_range (middle s st t) q ready) makes))

module _ (boot : ℕ) (s : ScenarioPart) (q : ℕ) (x : Spot s.part s.count q) where
  abbrev Actives : State → Type 0
  Actives st = IsActivating q st

  pub echoes_stored : (v : Visit Errand) (st : State) (ts : List Turn) → VISIT_TURNS * s.count + VISIT_TURNS < length ts → Turns boot s v st ts → Paced (plan_of s) (whole s) v → Facts st → Tied s x.number q v st → Held Actives s st ts → IsSome (peer_of st q).engage.read → (peer_of st q).engage.echo ≡ None → SomeTurn (Steps (IsFor q StoreEcho) s) s st ts
  echoes_stored v st ts long y paced facts tied holds read echo =
      answered boot Actives s q x StoreEcho NoClear (λ p. Unechoed p.engage) unechoed_awaits (Steps (IsFor q StoreEcho) s) (answering s q)
      (λ v st t ts a h m e. (a.more.run.holds.1.free, λ i. gone v st t ts a h (e ∙ ap (λ (n : PeerRule). Some (ForPeer q n)) i)))
      (λ v st t ts a h. let e = (facts_mid s st t.before a.more.facts).stands q in none_is (peer_of (middle s st t) q).contact (λ m. some_not (peer_of (middle s st t) q).engage.echo (e.second h.0 (e.met m).1) h.2))
      comes (λ v st t ts a h d. d) v st ts long y paced facts tied holds (((facts.stands q).active (first_holds Actives s st ts holds).state).0, ((facts.stands q).active (first_holds Actives s st ts holds).state).1, echo, read)
    where
      gone : (v : Visit Errand) (st : State) (t : Turn) (ts : List Turn) → IsAlong boot Actives s q x StoreEcho NoClear (λ p. Unechoed p.engage) unechoed_awaits (Steps (IsFor q StoreEcho) s) (answering s q) v st (t ∷ ts) → Unechoed (peer_of (middle s st t) q).engage → rule_made s (middle s st t) t ≡ Some (ForPeer q ClearEngagementBit) → ⊥
      gone v st t ts a h e = bit_gone boot s q st t a.more.run.runs.0 a.more.run.up.0 (first_holds (IsUp boot) s (after_turn s st t) ts a.more.run.up.2) h.0 e (first_holds Actives s (after_turn s st t) ts a.more.run.holds.2).state

      echo_by : (p : Peer) → p.engage.echo ≡ None → p.engage.bit ≡ true → is_some p.engage.read ≡ true → echo_step p.engage ≡ Some StoreEcho
      echo_by p e b r = ap (λ (o : Option ℕ). if is_some o then step_if (not p.engage.second) StoreSecond else step_if (p.engage.bit && is_some p.engage.read) StoreEcho) e ∙ ap (λ (c : Bool). step_if (c && is_some p.engage.read) StoreEcho) b ∙ ap (λ (c : Bool). step_if c StoreEcho) r

      comes : (v : Visit Errand) (st : State) (t : Turn) (ts : List Turn) → IsAlong boot Actives s q x StoreEcho NoClear (λ p. Unechoed p.engage) unechoed_awaits (Steps (IsFor q StoreEcho) s) (answering s q) v st (t ∷ ts) → Free boot Actives s q x StoreEcho NoClear (λ p. Unechoed p.engage) unechoed_awaits (Steps (IsFor q StoreEcho) s) (answering s q) st t → Unechoed (peer_of (middle s st t) q).engage → Comes boot Actives s q x StoreEcho NoClear (λ p. Unechoed p.engage) unechoed_awaits (Steps (IsFor q StoreEcho) s) (answering s q) st t
      comes v st t ts a free h = by (is_backing_off (peer_of (middle s st t) q)) refl where
        by : (b : Bool) → is_backing_off (peer_of (middle s st t) q) ≡ b → Comes boot Actives s q x StoreEcho NoClear (λ p. Unechoed p.engage) unechoed_awaits (Steps (IsFor q StoreEcho) s) (answering s q) st t
        by true e = record { rule = ClearEngagementBit; is = opened (peer_of (middle s st t) q) ClearEngagementBit (opens_to (peer_of (middle s st t) q) h.0 a.more.run.holds.1.free) (ap (λ (b : Bool). if b then Some ClearEngagementBit else echo_step (peer_of (middle s st t) q).engage) e); done = λ f. absurd (gone v st t ts a h f) }
        by false e = record { rule = StoreEcho; is = opened (peer_of (middle s st t) q) StoreEcho (opens_to (peer_of (middle s st t) q) h.0 a.more.run.holds.1.free) (ap (λ (b : Bool). if b then Some ClearEngagementBit else echo_step (peer_of (middle s st t) q).engage) e ∙ echo_by (peer_of (middle s st t) q) h.2 h.1 h.3); done = λ f. steps_by (IsFor q StoreEcho) s st t (ForPeer q StoreEcho) f refl }

-- so no partner is activating throughout a window at whose begin the own bit is to go
module _ (boot : ℕ) (s : ScenarioPart) (q : ℕ) (x : Spot s.part s.count q) where
  abbrev Keeps : State → Type 0
  Keeps st = IsActivating q st

  none : (st : State) (ts : List Turn) → SomeTurn (λ y t. ⊥) s st ts → ⊥
  none st [] h = h
  none st (t ∷ ts) (inl h) = h
  none st (t ∷ ts) (inr h) = none (after_turn s st t) ts h

  rule_is : (st : State) (t : Turn) → Steps (IsFor q ClearEngagementBit) s st t → rule_made s (middle s st t) t ≡ Some (ForPeer q ClearEngagementBit)
  rule_is st t y = ap (λ (o : Option Marked). rule_by s (middle s st t) o) y.made ∙ y.decoded ∙ ap (λ (r : Rule). Some r) y.is

  pub not_activating : (v : Visit Errand) (st : State) (ts : List Turn) → VISIT_TURNS * s.count + VISIT_TURNS < length ts → Turns boot s v st ts → Paced (plan_of s) (whole s) v → Facts st → Tied s x.number q v st → Held Keeps s st ts → (peer_of st q).engage.back_off ≡ true → ⊥
  not_activating v st ts long y paced facts tied holds back =
      none st ts (bits_cleared boot Keeps s q x (λ z c. c.free) (λ z t. ⊥) v st ts
      (λ w z t us a h d. bit_gone boot s q z t a.more.run.runs.0 a.more.run.up.0 (first_holds (IsUp boot) s (after_turn s z t) us a.more.run.up.2) h.0 (rule_is z t d) (first_holds Keeps s (after_turn s z t) us a.more.run.holds.2).state)
      long y paced facts tied holds (first_holds Keeps s st ts holds).state back)

-- the own bit at a partner that was left and told
abbrev pub Told : Engage → Type 0
Told x = (x.area ≡ Leaving) × (x.bit ≡ true) × (x.told ≡ true)

abbrev Whatever : Peer → PeerRule → Type 0
Whatever p m = Unit {0}

told_left : (a : Area) (bit : Bool) → a ≡ Leaving → bit ≡ true → is_left (record (cold_peer Old).engage { area = a; bit = bit }) ≡ true → ⊥
told_left Leaving true e f g = cc
told_left Leaving false e f g = absurd (cc)
told_left Ready bit e f g = absurd (cc)
told_left Off bit e f g = absurd (cc)
told_left Old bit e f g = absurd (cc)

leaving_ready : (a : Area) → a ≡ Leaving → a ≡ Ready → ⊥
leaving_ready a e f = let g : Leaving ≡ Ready = sym e ∙ f in cc

leaving_off : (a : Area) → a ≡ Leaving → a ≡ Off → ⊥
leaving_off a e f = let g : Leaving ≡ Off = sym e ∙ f in cc

told_steps : (y : Here) (p : Peer) (g : PeerGoing) (m : PeerRule) (w : ℕ) → peer_can y p m → Whatever p m → Told p.engage → (m ≡ ClearEngagementBit) ⊎ Told (peer_effect y (record p { numbers = g }) m w).local.engage
told_steps y p g AskActivation w can n h = inr h
told_steps y p g TakeFlags w can n h = inr (cond_peer (λ (x : Peer). Told x.engage) (is_bad_flags w) _ _ h h)
told_steps y p g CloseArea w can n h = absurd (leaving_ready p.engage.area h.0 can.0)
told_steps y p g ZeroMagic w can n h = inr h
told_steps y p g ClearOldBit w can n h = inr h
told_steps y p g (Prepare x) w can n h = absurd (leaving_off p.engage.area h.0 can.0)
told_steps y p g OpenArea w can n h = absurd (leaving_off p.engage.area h.0 can.0)
told_steps y p g SetEngagementBit w can n h = absurd (leaving_ready p.engage.area h.0 can.0)
told_steps y p g ReadRecord w can n h = absurd (leaving_ready p.engage.area h.0 can.0)
told_steps y p g StoreEcho w can n h = absurd (leaving_ready p.engage.area h.0 can.0)
told_steps y p g StoreSecond w can n h = absurd (leaving_ready p.engage.area h.0 can.0)
told_steps y p g ClearEngagementBit w can n h = inl refl
told_steps y p g LookAtPage w can n h = inr (cond_peer (λ (x : Peer). Told x.engage) _ _ _ h h)
told_steps y p g CheckBeat w can n h = inr h
told_steps y p g ClearDeactivationBit w can n h = absurd (leaving_off p.engage.area h.0 can)
told_steps y p g TellPartner w can n h = inr (h.0, h.1, refl)

told_awaits : Awaits Whatever (λ p. Told p.engage) ClearEngagementBit
told_awaits = record {
  acts = record { linked = λ p links h. h; unwanted = λ p h. h; wanted = λ p h. h };
  linked = λ p links going h. h;
  reasoned = λ o p h. h;
  ended = λ turn kind p m k h. inr h;
  freed = λ p l h. told_left p.engage.area p.engage.bit h.0 h.1 l;
  steps = told_steps;
}

module _ (boot : ℕ) (s : ScenarioPart) (q : ℕ) (x : Spot s.part s.count q) where
  abbrev Always : State → Type 0
  Always st = Unit {0}

  always : (us : List Turn) (y : State) → Held Always s y us
  always [] y = tt
  always (t ∷ us) y = (tt, tt, always us (after_turn s y t))

  alone : (st : State) → Facts st → Told (peer_of st q).engage → (peer_of st q).contact ≡ None
  alone st f h = none_is (peer_of st q).contact (λ m. leaving_ready (peer_of st q).engage.area h.0 ((f.stands q).met m).0)

  clears_by : (p : Peer) → Told p.engage → copies_go_on p ≡ false → leave_at p ≡ Some ClearEngagementBit
  clears_by p h none = ap (λ (a : Area). leave_by a p) h.0 ∙ ap (λ (b : Bool). if b then leave_bit p else None) h.1 ∙ ap (λ (b : Bool). if b then step_if (not (copies_go_on p)) ClearEngagementBit else Some TellPartner) h.2 ∙ ap (λ (b : Bool). step_if (not b) ClearEngagementBit) none

  pub bits_left : (v : Visit Errand) (st : State) (ts : List Turn) → VISIT_TURNS * s.count + VISIT_TURNS < length ts → Turns boot s v st ts → Paced (plan_of s) (whole s) v → Facts st → Tied s x.number q v st → (peer_of st q).engage.area ≡ Leaving → (peer_of st q).engage.bit ≡ true → (peer_of st q).engage.told ≡ true → SomeTurn (Steps (IsFor q ClearEngagementBit) s) s st ts
  bits_left v st ts long y paced facts tied left bit told =
      answered boot Always s q x ClearEngagementBit Whatever (λ p. Told p.engage) told_awaits (Steps (IsFor q ClearEngagementBit) s) (leaving s q)
      (λ v st t ts a h m e. tt)
      (λ v st t ts a h. alone (middle s st t) (facts_mid s st t.before a.more.facts) h)
      (λ v st t ts a page h. let f = facts_mid s st t.before a.more.facts in record { rule = ClearEngagementBit; is = clears_by (peer_of (middle s st t) q) h (calm (middle s st t) q f (alone (middle s st t) f h) (f.unread q h.0) page); done = λ i. steps_by (IsFor q ClearEngagementBit) s st t (ForPeer q ClearEngagementBit) i refl })
      (λ v st t ts a h d. d) v st ts long y paced facts tied (always ts st) (left, bit, told)
