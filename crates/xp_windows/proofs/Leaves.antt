-- Own memory that stands open to a partner which is to be deactivated is closed in the next visit, and
-- where the own bit stands at it, it is told in the next one.
use Rattle.std.proofs.Common.{◌≡◌, ℕ, ◌+◌, ◌*◌, ◌<◌, ◌≤◌, Bool, true, false, ◌&&◌, List, [], ◌∷◌, length, refl, ap, sym, ◌∙◌, subst, arith, inl, inr, ◌⊎◌, Option, Some, None}
use Rattle.std.specs.Prelude.{IsSome, is_some, not, if◌then◌else◌}
use Rattle.std.proofs.lemmas.List.{get_or_past}
use Rattle.xp_base.specs.declared.reason.Reason.{Reason}
use Rattle.xp_base.specs.declared.reason.Reason.TheVariants.{OtherGoingDown, Unloading}
use Rattle.xp_base.specs.declared.step.Answer.{Answer}
use Rattle.xp_base.specs.declared.step.Answer.TheVariants.{Word, Failed}
use Rattle.xp_base.specs.declared.step.CopyKind.{CopyKind}
use Rattle.xp_base.specs.declared.step.CopyMark.{CopyMark}
use Rattle.xp_base.specs.History.{Act, Marked, Turn}
use Rattle.xp_script.specs.declared.part.ScenarioPart.{ScenarioPart}
use Rattle.xp_rounds.specs.declared.rounds.Place.{Place}
use Rattle.xp_rounds.specs.declared.rounds.Place.TheVariants.{Partner as PartnerPlace}
use Rattle.xp_rounds.specs.declared.rounds.TheConstants.{VISIT_TURNS}
use Rattle.xp_rounds.specs.Visit.{Visit}
use Rattle.xp_rounds.proofs.Visits.{Fits}
use Rattle.xp_rounds.proofs.Duties.{Along, Duty, done}
use Rattle.xp_rounds.proofs.Spots.{Spot}
use Rattle.xp_protocol.specs.declared.rule.PeerRule.{PeerRule}
use Rattle.xp_protocol.specs.declared.rule.PeerRule.TheVariants.{AskActivation, TakeFlags, CloseArea, ZeroMagic, ClearOldBit, Prepare, OpenArea, SetEngagementBit, ReadRecord, StoreEcho, StoreSecond, ClearEngagementBit, LookAtPage, CheckBeat, ClearDeactivationBit, TellPartner}
use Rattle.xp_protocol.specs.declared.rule.OwnRule.TheVariants.{ReadEngaged, TakeDeactivation, ReadStamp, ZeroMask, ZeroOffline, WriteStamp, StoreMask, TakeActivation, StoreBeat, StoreOffline}
use Rattle.xp_protocol.specs.declared.rule.Rule.{Rule}
use Rattle.xp_protocol.specs.declared.rule.Rule.TheVariants.{Link, Peer as ForPeer, Own}
use Rattle.xp_protocol.specs.Effects.{first_reason}
use Rattle.xp_protocol.specs.State.{State, end_of, Life, Up, Peer, PeerGoing, Engage, Area, Old, Off, Ready, Leaving, cold_peer, peer_at, peer_of, set_link}
use Rattle.xp_protocol.specs.Peering.{copies_go_on, Here, peer_can, peer_effect, peer_read, deactivation_heard, area_off, same_peer, is_left, is_ready, is_flagged, with_reason, end_reason, copy_ended}
use Rattle.xp_protocol.specs.Rules.{Can, numbered, link_answered, place_for, peer_life, here_of, mark_of, peer_answered, after_answer}
use Rattle.xp_protocol.specs.Acts.{Aim, aimed, with_aim, command_begun, unwanted, after_act, after_acts}
use Rattle.xp_protocol.specs.Runs.{May, MayMake, MayStep, after_ruled, after_step, after_turn, acted, turn_counted, moment_by, restart_comes, stop_comes, is_over}
use Rattle.xp_protocol.proofs.Slots.{at_each, at_peer}
use Rattle.xp_protocol.proofs.Frames.{wanted_at, cond_peer}
use Rattle.xp_plan.specs.declared.errand.Agenda.TheVariants as agendas
use Rattle.xp_plan.specs.declared.errand.Errand.{Errand}
use Rattle.xp_plan.specs.declared.errand.Errand.TheVariants as errands
use Rattle.xp_plan.specs.EndSteps.{step_if}
use Rattle.xp_plan.specs.PeerSteps.{for_peer, leave_by, leave_at}
use Rattle.xp_plan.specs.Plan.{asked, is_joined, errands_of, agenda_by, agenda_at, plan_of}
use Rattle.xp_windows.specs.Windows.{middle, IsFor, IsUp, SomeTurn, Steps}
use Rattle.xp_windows.proofs.Held.{Held}
use Rattle.xp_windows.specs.Visited.{rule_made}
use Rattle.xp_windows.proofs.Places.{Turns, Run, run_next, first_holds, asks}
use Rattle.xp_windows.proofs.Asked.{steps_by}

-- what a fact of how a partner is engaged has to stand: it stays until the step of this rule
pub record Stays (Q : Engage → Type 0) (goal : PeerRule) : Type 0 where
  pub unwanted : (p : Peer) → Q p.engage → Q (unwanted p).engage
  pub reasoned : (o : Option Reason) (p : Peer) → Q p.engage → Q (with_reason o p).engage
  pub ended : (turn : ℕ) (kind : CopyKind) (p : Peer) → Q p.engage → Q (copy_ended turn kind p).engage
  pub left : (x : Engage) → Q x → is_left x ≡ false
  pub steps : (y : Here) (p : Peer) (g : PeerGoing) (m : PeerRule) (w : ℕ) → peer_life m ≡ Up → peer_can y p m → Q p.engage → (m ≡ goal) ⊎ Q (peer_effect y (record p { numbers = g }) m w).local.engage

module _ (Q : Engage → Type 0) (goal : PeerRule) (z : Stays Q goal) (boot : ℕ) (s : ScenarioPart) (q : ℕ) where
  abbrev Due : State → Type 0
  Due st = Q (peer_of st q).engage

  abbrev On : Peer → Type 0
  On p = Q p.engage

  aim_stays : (st : State) (o : Option Aim) → Due st → Due (with_aim o st)
  aim_stays st None h = h
  aim_stays st (Some y) h = at_peer On st.peers y.partner (set_link (peer_at st.peers y.partner) y.channel y.effect.local) q (λ e. subst (λ (j : ℕ). Q (peer_at st.peers j).engage) e h) h

  act_stays : (st : State) (a : Act) → Due st → Due (after_act s st a)
  act_stays st a h = wanted_at On (command_begun s st a) (with_aim (aimed s st a) st).peers q (λ p x. z.unwanted p x) (λ p x. x) (aim_stays st (aimed s st a) h)

  acts_stay : (st : State) (list : List Act) → Due st → Due (after_acts s st list)
  acts_stay st [] h = h
  acts_stay st (a ∷ more) h = acts_stay (after_act s st a) more (act_stays st a h)

  -- a step
  answers_stay : (y : Here) (mark : Option CopyMark) (p : Peer) (m : PeerRule) (a : Answer) → peer_life m ≡ Up → peer_can y p m → On p → (m ≡ goal) ⊎ On (peer_answered y mark p m a).local
  answers_stay y None p m (Word w) up can h = z.steps y p p.numbers m w up can h
  answers_stay y (Some mark) p m (Word w) up can h = z.steps y p _ m w up can h
  answers_stay y None p m Failed up can h = inr h
  answers_stay y (Some mark) p m Failed up can h = inr (z.ended y.turn mark.kind p h)

  read_stays : (b : Bool) (p : Peer) → b ≡ false → On p → On (if b then area_off p else same_peer p).local
  read_stays false p e h = h
  read_stays true p e h = absurd (cc)

  heard_stays : (b : Bool) (w : ℕ) (p : Peer) → On p → On (if b then with_reason (Some (OtherGoingDown w)) p else p)
  heard_stays true w p h = z.reasoned (Some (OtherGoingDown w)) p h
  heard_stays false w p h = h

  none_read : (p : Peer) (w : ℕ) → On p → (is_left p.engage && not (is_flagged w q)) ≡ false
  none_read p w h = ap (λ (b : Bool). b && not (is_flagged w q)) (z.left p.engage h)

  past_stays : (st : State) → Due st → length st.peers ≤ q → On (cold_peer Old)
  past_stays st h l = subst On (get_or_past st.peers q (cold_peer Old) l) h

  for_found : (st : State) (k : ℕ) (m : PeerRule) (a : Answer) → q ≡ k → (m ≡ goal) ⊎ On (peer_answered (here_of s st k) (mark_of s st (ForPeer k m)) (peer_of st k) m a).local → IsFor q goal st (ForPeer k m) ⊎ On (with_reason (peer_answered (here_of s st k) (mark_of s st (ForPeer k m)) (peer_of st k) m a).reason (peer_answered (here_of s st k) (mark_of s st (ForPeer k m)) (peer_of st k) m a).local)
  for_found st k m a e (inl i) = inl (ap (λ (j : ℕ). ForPeer j m) (sym e) ∙ ap (λ (x : PeerRule). ForPeer q x) i)
  for_found st k m a e (inr x) = let g = peer_answered (here_of s st k) (mark_of s st (ForPeer k m)) (peer_of st k) m a in inr (z.reasoned g.reason g.local x)

  rule_stays : (st : State) (r : Rule) (a : Answer) → st.life ≡ Up → Can s st r → Due st → IsFor q goal st r ⊎ Due (after_answer s st r a)
  rule_stays st (Link k d m) a up can h =
      let g = link_answered (mark_of s st (Link k d m)) (place_for s d) (end_of st k d) m a in
      let p = set_link (numbered (mark_of s st (Link k d m)) d (peer_of st k)) d g.local in
      inr (at_peer On st.peers k (with_reason (end_reason (peer_of st k).flags_seen g.reason) p) q (λ e. z.reasoned (end_reason (peer_of st k).flags_seen g.reason) p (subst (λ (j : ℕ). Q (peer_of st j).engage) e h)) h)
  rule_stays st (ForPeer k m) a up can h =
      let g = peer_answered (here_of s st k) (mark_of s st (ForPeer k m)) (peer_of st k) m a in
      at_peer (λ (p : Peer). IsFor q goal st (ForPeer k m) ⊎ On p) st.peers k (with_reason g.reason g.local) q
      (λ e. for_found st k m a e (answers_stay (here_of s st k) (mark_of s st (ForPeer k m)) (peer_of st k) m a (sym can.0 ∙ up) can.1.1 (subst (λ (j : ℕ). Q (peer_of st j).engage) e h))) (inr h)
  rule_stays st (Own ReadEngaged) (Word w) up can h = inr (at_each On (λ j p. (peer_read w j p).local) st.peers q (cold_peer Old) (read_stays (is_left (peer_of st q).engage && not (is_flagged w q)) (peer_of st q) (none_read (peer_of st q) w h) h) (past_stays st h))
  rule_stays st (Own TakeDeactivation) (Word w) up can h = inr (at_each On (λ j p. (deactivation_heard w j p).local) st.peers q (cold_peer Old) (heard_stays (is_some (peer_of st q).engage.echo && is_flagged w q) w (peer_of st q) h) (past_stays st h))
  rule_stays st (Own ReadStamp) (Word w) up can h = inr h
  rule_stays st (Own ZeroMask) (Word w) up can h = inr h
  rule_stays st (Own ZeroOffline) (Word w) up can h = inr h
  rule_stays st (Own WriteStamp) (Word w) up can h = inr h
  rule_stays st (Own StoreMask) (Word w) up can h = inr h
  rule_stays st (Own TakeActivation) (Word w) up can h = inr h
  rule_stays st (Own StoreBeat) (Word w) up can h = inr h
  rule_stays st (Own StoreOffline) (Word w) up can h = inr h
  rule_stays st (Own m) Failed up can h = inr h

  -- no boot begins in the window
  moment_stays_by : (b d : Bool) (st : State) → (moment_by s b d st).life ≡ Up → Due st → Due (moment_by s b d st)
  moment_stays_by false true st up h = h
  moment_stays_by false false st up h = h
  moment_stays_by true d st up h = absurd (cc)

  turn_stays : (st : State) (t : Turn) → May s st t → IsUp boot (middle s st t) → IsUp boot (after_turn s st t) → Due st → Steps (IsFor q goal) s st t ⊎ Due (after_turn s st t)
  turn_stays st t may up later h = by t.made refl may.made where
    here : Due (middle s st t)
    here = acts_stay st t.before h

    ends : Due (after_step s (middle s st t) t.made) → Due (after_turn s st t)
    ends x = moment_stays_by (restart_comes s st.clock.puts (turn_counted (acted s st t)) && not (is_over (turn_counted (acted s st t)))) (stop_comes s st.clock.puts (turn_counted (acted s st t)) && not (is_over (turn_counted (acted s st t)))) (turn_counted (acted s st t)) later.up (acts_stay (after_step s (middle s st t) t.made) t.after x)

    stepped : (o : Option Marked) → t.made ≡ o → Due (after_step s (middle s st t) o) → Due (after_turn s st t)
    stepped o e x = ends (subst (λ (y : Option Marked). Due (after_step s (middle s st t) y)) (sym e) x)

    found : (x : Marked) → t.made ≡ Some x → (m : MayStep s (middle s st t) x) → IsFor q goal (middle s st t) m.rule ⊎ Due (after_answer s (middle s st t) m.rule x.step.answer) → Steps (IsFor q goal) s st t ⊎ Due (after_turn s st t)
    found x e m (inl y) = inl (record { step = x; made = e; rule = m.rule; decoded = m.decoded; is = y })
    found x e m (inr y) = inr (stepped (Some x) e (subst (λ (o : Option Rule). Due (after_ruled s (middle s st t) o x.step.answer)) (sym m.decoded) y))

    by : (o : Option Marked) → t.made ≡ o → MayMake s (middle s st t) o → Steps (IsFor q goal) s st t ⊎ Due (after_turn s st t)
    by None e m = inr (stepped None e here)
    by (Some x) e m = found x e m (rule_stays (middle s st t) m.rule x.step.answer up.up m.can here)

  -- its errand comes: the partner isn't joined
  module _ (x : Spot s.part s.count q) (apart : (p : Peer) → On p → is_joined p ≡ false) (leaves : (p : Peer) → On p → leave_at p ≡ Some goal) where
    abbrev Any : State → Type 0
    Any st = Unit {0}

    abbrev IsAlong : Visit Errand → State → List Turn → Type 0
    IsAlong v st ts = Along (plan_of s) (middle s) (after_turn s) (rule_made s) s.count (λ _. Run boot Any s) (λ v st t ts e. run_next boot Any s st t ts) v st ts

    abbrev Done : State → List Turn → Type 0
    Done st ts = SomeTurn (Steps (IsFor q goal) s) s st ts

    agenda : (st : State) → IsUp boot st → Due st → errands_of agendas.Apart ≡ (plan_of s).errands x.number st
    agenda st up h =
        sym (ap (λ (p : Place). errands_of (agenda_at p st)) x.is
        ∙ ap (λ (l : Life). errands_of (agenda_by l (PartnerPlace q) st)) up.up
        ∙ ap (λ (b : Bool). errands_of (if b then agendas.Joined else agendas.Apart)) (apart (peer_of st q) h))

    fits : (st : State) → IsUp boot st → Due st → Fits (plan_of s) errands.Leave ((plan_of s).errands x.number st)
    fits st up h = subst (λ (es : List Errand). Fits (plan_of s) errands.Leave es) (agenda st up h) (record { front = errands.Look ∷ errands.Prepare ∷ errands.Engage ∷ errands.Answer ∷ errands.Record ∷ errands.Answer ∷ []; back = errands.Bulk ∷ []; is = refl; low = omega arith })

    asked_now : (used : ℕ) (st : State) → IsUp boot st → Due st → (plan_of s).ask x.number errands.Leave used st ≡ Some (Some (ForPeer q goal))
    asked_now used st up h = asks s q x errands.Leave used boot st up ∙ ap (λ (o : Option PeerRule). asked (for_peer q o)) (leaves (peer_of st q) h)

    done_or : (st : State) (t : Turn) (ts : List Turn) → Steps (IsFor q goal) s st t ⊎ Due (after_turn s st t) → Done st (t ∷ ts) ⊎ Due (after_turn s st t)
    done_or st t ts (inl y) = inl (inl y)
    done_or st t ts (inr h) = inr h

    duty : Duty (plan_of s) (middle s) (after_turn s) (rule_made s) s.count (λ _. Run boot Any s) (λ v st t ts e. run_next boot Any s st t ts) x.number errands.Leave 0 Due (Unit {0}) tt (λ _ n used st. Due st) (λ _. Done)
    duty = record {
      later = λ st t ts h. inr h;
      stays = λ v st t ts a long h. done_or st t ts (turn_stays st t a.more.runs.0 a.more.up.1 (first_holds (IsUp boot) s (after_turn s st t) ts a.more.up.2) h);
      fits = λ v st t ts a h. fits (middle s st t) a.more.up.1 (acts_stay st t.before h);
      begins = λ v st t ts a h. (0, omega arith, h);
      asks = λ ph n used v st t ts a long few h. (Some (ForPeer q goal), asked_now used (middle s st t) a.more.up.1 (acts_stay st t.before h), λ e. inl (inl (steps_by (IsFor q goal) s st t (ForPeer q goal) e refl)));
    }

    any : (us : List Turn) (y : State) → Held Any s y us
    any [] y = tt
    any (t ∷ us) y = (tt, tt, any us (after_turn s y t))

    pub left_in_time : (v : Visit Errand) (st : State) (ts : List Turn) → VISIT_TURNS * s.count + VISIT_TURNS < length ts → Turns boot s v st ts → Due st → Done st ts
    left_in_time v st ts long y h =
        done (plan_of s) (middle s) (after_turn s) (rule_made s) s.count (λ _. Run boot Any s) (λ v st t ts e. run_next boot Any s st t ts) x.number errands.Leave 0 Due (Unit {0}) tt (λ _ n used st. Due st) (λ _. Done) duty v st ts x.low (omega arith) (omega arith) (omega (arith, long))
        (record { ring = y.ring; places = y.places; follows = y.follows; more = record { runs = y.runs; up = y.up; holds = any ts st } }) h

-- memory that stands open to a partner which is to be deactivated
abbrev Condemned : Engage → Type 0
Condemned x = (x.area ≡ Ready) × (is_some x.reason ≡ true)

first_some : (a b : Option Reason) → is_some a ≡ true → is_some (first_reason a b) ≡ true
first_some None b h = absurd (cc)
first_some (Some r) b h = refl

ready_left : (a : Area) (bit : Bool) → a ≡ Ready → is_left (record (cold_peer Old).engage { area = a; bit = bit }) ≡ false
ready_left Ready bit e = refl
ready_left Off bit e = refl
ready_left Old bit e = absurd (cc)
ready_left Leaving bit e = absurd (cc)

off_not : (a : Area) → a ≡ Ready → a ≡ Off → ⊥
off_not a e f = let g : Ready ≡ Off = sym e ∙ f in cc

leaving_not : (a : Area) → a ≡ Ready → a ≡ Leaving → ⊥
leaving_not a e f = let g : Ready ≡ Leaving = sym e ∙ f in cc

free_not : (o : Option Reason) → is_some o ≡ true → o ≡ None → ⊥
free_not None h e = cc
free_not (Some r) h e = cc

close_steps : (y : Here) (p : Peer) (g : PeerGoing) (m : PeerRule) (w : ℕ) → peer_life m ≡ Up → peer_can y p m → Condemned p.engage → (m ≡ CloseArea) ⊎ Condemned (peer_effect y (record p { numbers = g }) m w).local.engage
close_steps y p g AskActivation w up can h = absurd (free_not p.engage.reason h.1 (can.3 h.0))
close_steps y p g TakeFlags w up can h = absurd (free_not p.engage.reason h.1 can.1)
close_steps y p g CloseArea w up can h = inl refl
close_steps y p g ZeroMagic w up can h = absurd (cc)
close_steps y p g ClearOldBit w up can h = absurd (cc)
close_steps y p g (Prepare x) w up can h = absurd (off_not p.engage.area h.0 can.0)
close_steps y p g OpenArea w up can h = absurd (off_not p.engage.area h.0 can.0)
close_steps y p g SetEngagementBit w up can h = absurd (free_not p.engage.reason h.1 can.1)
close_steps y p g ReadRecord w up can h = absurd (free_not p.engage.reason h.1 can.1)
close_steps y p g StoreEcho w up can h = absurd (free_not p.engage.reason h.1 can.1)
close_steps y p g StoreSecond w up can h = absurd (free_not p.engage.reason h.1 can.1)
close_steps y p g ClearEngagementBit w up can h = absurd (by can.2) where
  by : ((p.engage.area ≡ Ready) × (p.engage.reason ≡ None) × (p.engage.echo ≡ None) × (p.engage.back_off ≡ true)) ⊎ ((p.engage.area ≡ Leaving) × (p.engage.told ≡ true)) → ⊥
  by (inl x) = free_not p.engage.reason h.1 x.1
  by (inr x) = leaving_not p.engage.area h.0 x.0
close_steps y p g LookAtPage w up can h = inr (cond_peer (λ (x : Peer). Condemned x.engage) _ _ _ h h)
close_steps y p g CheckBeat w up can h = inr h
close_steps y p g ClearDeactivationBit w up can h = absurd (off_not p.engage.area h.0 can)
close_steps y p g TellPartner w up can h = absurd (leaving_not p.engage.area h.0 can.0)

close_stays : Stays Condemned CloseArea
close_stays = record {
  unwanted = λ p h. (h.0, first_some p.engage.reason (if is_ready p.engage.area then Some Unloading else None) h.1);
  reasoned = λ o p h. (h.0, first_some p.engage.reason (if is_ready p.engage.area then o else None) h.1);
  ended = λ turn kind p h. h;
  left = λ x h. ready_left x.area x.bit h.0;
  steps = close_steps;
}

close_apart : (p : Peer) → Condemned p.engage → is_joined p ≡ false
close_apart p h = by (is_some p.contact) (is_ready p.engage.area) (is_some p.engage.reason) h.1 where
  by : (a b d : Bool) → d ≡ true → (a && (b && not d)) ≡ false
  by true true true e = refl
  by true false true e = refl
  by false b true e = refl
  by a b false e = absurd (cc)

close_leaves : (p : Peer) → Condemned p.engage → leave_at p ≡ Some CloseArea
close_leaves p h = ap (λ (a : Area). leave_by a p) h.0 ∙ by (is_some p.engage.reason) h.1 where
  by : (b : Bool) → b ≡ true → (if b then Some CloseArea else None) ≡ Some CloseArea
  by true e = refl
  by false e = absurd (cc)

pub areas_closed : (boot : ℕ) (s : ScenarioPart) (q : ℕ) (x : Spot s.part s.count q) (v : Visit Errand) (st : State) (ts : List Turn) → VISIT_TURNS * s.count + VISIT_TURNS < length ts → Turns boot s v st ts → (peer_of st q).engage.area ≡ Ready → IsSome (peer_of st q).engage.reason → SomeTurn (Steps (IsFor q CloseArea) s) s st ts
areas_closed boot s q x v st ts long y a r = left_in_time Condemned CloseArea close_stays boot s q x close_apart close_leaves v st ts long y (a, r)

-- memory that was closed, where the own bit stands at the partner, which isn't told
abbrev Untold : Engage → Type 0
Untold x = (x.area ≡ Leaving) × (x.bit ≡ true) × (x.told ≡ false)

untold_left : (a : Area) (bit : Bool) → a ≡ Leaving → bit ≡ true → is_left (record (cold_peer Old).engage { area = a; bit = bit }) ≡ false
untold_left Leaving true e f = refl
untold_left Leaving false e f = absurd (cc)
untold_left Ready bit e f = absurd (cc)
untold_left Off bit e f = absurd (cc)
untold_left Old bit e f = absurd (cc)

ready_not : (a : Area) → a ≡ Leaving → a ≡ Ready → ⊥
ready_not a e f = let g : Leaving ≡ Ready = sym e ∙ f in cc

free_area : (a : Area) → a ≡ Leaving → a ≡ Off → ⊥
free_area a e f = let g : Leaving ≡ Off = sym e ∙ f in cc

tell_not : (b : Bool) → b ≡ false → b ≡ true → ⊥
tell_not b e f = let g : false ≡ true = sym e ∙ f in cc

tell_steps : (y : Here) (p : Peer) (g : PeerGoing) (m : PeerRule) (w : ℕ) → peer_life m ≡ Up → peer_can y p m → Untold p.engage → (m ≡ TellPartner) ⊎ Untold (peer_effect y (record p { numbers = g }) m w).local.engage
tell_steps y p g AskActivation w up can h = inr h
tell_steps y p g TakeFlags w up can h = inr (cond_peer (λ (x : Peer). Untold x.engage) _ _ _ h h)
tell_steps y p g CloseArea w up can h = absurd (ready_not p.engage.area h.0 can.0)
tell_steps y p g ZeroMagic w up can h = absurd (cc)
tell_steps y p g ClearOldBit w up can h = absurd (cc)
tell_steps y p g (Prepare x) w up can h = absurd (free_area p.engage.area h.0 can.0)
tell_steps y p g OpenArea w up can h = absurd (free_area p.engage.area h.0 can.0)
tell_steps y p g SetEngagementBit w up can h = absurd (ready_not p.engage.area h.0 can.0)
tell_steps y p g ReadRecord w up can h = absurd (ready_not p.engage.area h.0 can.0)
tell_steps y p g StoreEcho w up can h = absurd (ready_not p.engage.area h.0 can.0)
tell_steps y p g StoreSecond w up can h = absurd (ready_not p.engage.area h.0 can.0)
tell_steps y p g ClearEngagementBit w up can h = absurd (by can.2) where
  by : ((p.engage.area ≡ Ready) × (p.engage.reason ≡ None) × (p.engage.echo ≡ None) × (p.engage.back_off ≡ true)) ⊎ ((p.engage.area ≡ Leaving) × (p.engage.told ≡ true)) → ⊥
  by (inl x) = ready_not p.engage.area h.0 x.0
  by (inr x) = tell_not p.engage.told h.2 x.1
tell_steps y p g LookAtPage w up can h = inr (cond_peer (λ (x : Peer). Untold x.engage) _ _ _ h h)
tell_steps y p g CheckBeat w up can h = inr h
tell_steps y p g ClearDeactivationBit w up can h = absurd (free_area p.engage.area h.0 can)
tell_steps y p g TellPartner w up can h = inl refl

tell_stays : Stays Untold TellPartner
tell_stays = record {
  unwanted = λ p h. h;
  reasoned = λ o p h. h;
  ended = λ turn kind p h. h;
  left = λ x h. untold_left x.area x.bit h.0 h.1;
  steps = tell_steps;
}

tell_apart : (p : Peer) → Untold p.engage → is_joined p ≡ false
tell_apart p h = ap (λ (a : Area). is_some p.contact && (is_ready a && not (is_some p.engage.reason))) h.0 ∙ by (is_some p.contact) where
  by : (b : Bool) → (b && false) ≡ false
  by true = refl
  by false = refl

tell_leaves : (p : Peer) → Untold p.engage → leave_at p ≡ Some TellPartner
tell_leaves p h = ap (λ (a : Area). leave_by a p) h.0 ∙ by p.engage.bit p.engage.told h.1 h.2 where
  by : (b t : Bool) → b ≡ true → t ≡ false → (if b then (if t then step_if (not (copies_go_on p)) ClearEngagementBit else Some TellPartner) else None) ≡ Some TellPartner
  by true false e f = refl
  by true true e f = absurd (cc)
  by false t e f = absurd (cc)

pub partners_told : (boot : ℕ) (s : ScenarioPart) (q : ℕ) (x : Spot s.part s.count q) (v : Visit Errand) (st : State) (ts : List Turn) → VISIT_TURNS * s.count + VISIT_TURNS < length ts → Turns boot s v st ts → (peer_of st q).engage.area ≡ Leaving → (peer_of st q).engage.bit ≡ true → (peer_of st q).engage.told ≡ false → SomeTurn (Steps (IsFor q TellPartner) s) s st ts
partners_told boot s q x v st ts long y a b t = left_in_time Untold TellPartner tell_stays boot s q x tell_apart tell_leaves v st ts long y (a, b, t)
