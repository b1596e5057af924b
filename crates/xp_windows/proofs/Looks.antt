-- A look at a partner is made in one go: it is begun by the first step of its errand, which has a turn
-- for each of its loads. So none goes on when the errand comes, and one is begun and over in its visit.
use Rattle.std.proofs.Common.{◌≡◌, ℕ, ◌+◌, ◌-◌, ◌*◌, ◌<◌, ◌≤◌, Bool, true, false, ◌&&◌, ◌||◌, List, [], ◌∷◌, ◌++◌, length, refl, ap, sym, ◌∙◌, subst, arith, inl, inr, ◌⊎◌, get_or-set_same, Option, Some, None}
use Rattle.std.specs.Prelude.{is_some, not, nat_lt, nat_eq, if◌then◌else◌, slice_set}
use Rattle.std.proofs.lemmas.Bool.Decides.{nat_tests}
use Rattle.std.proofs.lemmas.Bool.{cases_eq, cases_lt}
use Rattle.std.proofs.lemmas.List.{length-append, length-set, get_or_past}
use Rattle.xp_base.specs.declared.reason.Reason.{Reason}
use Rattle.xp_base.specs.declared.step.Answer.{Answer}
use Rattle.xp_base.specs.declared.step.Answer.TheVariants.{Word, Failed}
use Rattle.xp_base.specs.declared.step.CopyKind.{CopyKind}
use Rattle.xp_base.specs.declared.step.CopyKind.TheVariants.{Page as PageCopy}
use Rattle.xp_base.specs.History.{Act, Marked, Turn}
use Rattle.xp_script.specs.declared.part.ScenarioPart.{ScenarioPart}
use Rattle.xp_rounds.specs.declared.rounds.Place.{Place}
use Rattle.xp_rounds.specs.declared.rounds.Place.TheVariants.{Partner as PartnerPlace}
use Rattle.xp_rounds.specs.declared.rounds.TheConstants.{VISIT_TURNS}
use Rattle.xp_rounds.specs.Visit.{Visit, planned}
use Rattle.xp_rounds.proofs.Visits.{Fits, Busy, Aside, busy_turn}
use Rattle.xp_rounds.proofs.Sources.{Paced, planned_paced}
use Rattle.xp_rounds.proofs.Duties.{Along, Moved}
use Rattle.xp_rounds.proofs.Asides.{Duty, done}
use Rattle.xp_rounds.proofs.Spots.{Spot}
use Rattle.xp_protocol.specs.declared.rule.PeerRule.{PeerRule}
use Rattle.xp_protocol.specs.declared.rule.PeerRule.TheVariants.{AskActivation, TakeFlags, CloseArea, ZeroMagic, ClearOldBit, Prepare, OpenArea, SetEngagementBit, ReadRecord, StoreEcho, StoreSecond, ClearEngagementBit, LookAtPage, CheckBeat, ClearDeactivationBit, TellPartner}
use Rattle.xp_protocol.specs.declared.rule.Rule.{Rule}
use Rattle.xp_protocol.specs.declared.rule.Rule.TheVariants.{Link, Peer as ForPeer, Own}
use Rattle.xp_protocol.specs.Effects.{Effect, Note}
use Rattle.xp_protocol.specs.State.{State, Life, Up, Peer, PeerGoing, Reading, Old, cold_peer, peer_of}
use Rattle.xp_protocol.specs.Peering.{both_new_by, Here, booted_peer, peer_effect, page_read, judged, look_reason, with_reason, copy_ended, same_peer, is_bad_flags, area_left_for, try_contact, contact_made, record_read, has_shown, is_wrong, is_magic}
use Rattle.xp_protocol.specs.Rules.{Can, here_of, mark_of, peer_answered, peer_numbered, after_answer}
use Rattle.xp_protocol.specs.Acts.{after_acts}
use Rattle.xp_protocol.specs.Runs.{May, MayMake, RunsFrom, after_ruled, after_step, after_turn, acted, turn_counted, moment_by, restart_comes, stop_comes, is_over, start}
use Rattle.xp_protocol.proofs.Slots.{at_each}
use Rattle.xp_protocol.proofs.Frames.{cond_peer}
use Rattle.xp_plan.specs.declared.errand.Agenda.TheVariants as agendas
use Rattle.xp_plan.specs.declared.errand.Errand.{Errand}
use Rattle.xp_plan.specs.declared.errand.Errand.TheVariants as errands
use Rattle.xp_plan.specs.EndSteps.{step_if}
use Rattle.xp_plan.specs.PeerSteps.{for_peer}
use Rattle.xp_plan.specs.Plan.{asked, is_joined, errands_of, agenda_by, agenda_at, plan_of, first_visit}
use Rattle.xp_windows.specs.Windows.{middle, Changes, BeginsLook, EndsLook, IsUp, SomeTurn, SomeFrom}
use Rattle.xp_windows.proofs.Held.{Held}
use Rattle.xp_windows.specs.Visited.{rule_by, rule_made, visit_after}
use Rattle.xp_windows.proofs.Places.{Turns, first_holds, asks}
use Rattle.xp_windows.proofs.Copies.{whole}
use Rattle.xp_windows.proofs.Polls.{one_place}
use Rattle.xp_windows.proofs.Lives.{acts_life, acted_boots, on_turn}
use Rattle.xp_windows.proofs.PeerFrames.{ActsLeave, StepsLeave, acts_leave, rule_leaves, start_has}
use Rattle.xp_windows.proofs.Planned.{planned_by}

-- the words of a look that goes on: acts leave them, and so does each step but its own
abbrev Pages : List ℕ → Peer → Type 0
Pages words p = p.paging ≡ words

pages_acts : (words : List ℕ) → ActsLeave (Pages words)
pages_acts words = record { linked = λ p links h. h; unwanted = λ p h. h; wanted = λ p h. h }

abbrev Other : Peer → PeerRule → Type 0
Other p m = m ≡ LookAtPage → ⊥

left_pages : (words : List ℕ) (o : Option Reason) (p : Peer) → Pages words p → Pages words (area_left_for o p).local
left_pages words None p h = h
left_pages words (Some r) p h = h

contact_pages : (words : List ℕ) (turn stamp : ℕ) (p : Peer) → Pages words p → Pages words (try_contact turn stamp p).local
contact_pages words turn stamp p h = cond_peer (Pages words) (p.engage.second && (p.engage.shown && not (is_some p.contact))) (contact_made turn stamp p) (same_peer p) h h

read_pages : (words : List ℕ) (y : Here) (p : Peer) (o : Option Reading) (w : ℕ) → Pages words p → Pages words (record_read y p o w).local
read_pages words y p None w h = cond_peer (Pages words) (nat_eq w 0) _ _ h (cond_peer (Pages words) (is_magic w) _ _ h h)
read_pages words y p (Some r) w h =
    cond_peer (Pages words) (nat_eq r.done 1) _ _ h (cond_peer (Pages words) (nat_eq r.done 2) _ _ h (cond_peer (Pages words) (nat_eq r.done 7) _ _
    (cond_peer (Pages words) (has_shown y.stamp p.engage r) _ _ (contact_pages words y.turn y.stamp (record p { engage = record p.engage { shown = true; reading = None } }) h) h)
    (cond_peer (Pages words) (is_wrong y.part r.done w) _ _ h h)))

pages_word : (words : List ℕ) (y : Here) (p : Peer) (g : PeerGoing) (m : PeerRule) (w : ℕ) → Other p m → Pages words p → Pages words (peer_effect y (record p { numbers = g }) m w).local
pages_word words y p g AskActivation w n h = h
pages_word words y p g TakeFlags w n h = cond_peer (Pages words) (is_bad_flags w) _ _ h h
pages_word words y p g CloseArea w n h = left_pages words p.engage.reason (record p { numbers = g }) h
pages_word words y p g ZeroMagic w n h = h
pages_word words y p g ClearOldBit w n h = h
pages_word words y p g (Prepare x) w n h = h
pages_word words y p g OpenArea w n h = h
pages_word words y p g SetEngagementBit w n h = h
pages_word words y p g ReadRecord w n h = read_pages words y (record p { numbers = g }) p.engage.reading w h
pages_word words y p g StoreEcho w n h = h
pages_word words y p g StoreSecond w n h = contact_pages words y.turn y.stamp (record p { numbers = g; engage = record p.engage { second = true } }) h
pages_word words y p g ClearEngagementBit w n h = h
pages_word words y p g LookAtPage w n h = absurd (n refl)
pages_word words y p g CheckBeat w n h = h
pages_word words y p g ClearDeactivationBit w n h = h
pages_word words y p g TellPartner w n h = h

-- a load that fails ends the look where it is its own, and so does any that empties it
ended_pages : (words : List ℕ) (turn : ℕ) (kind : CopyKind) (p : Peer) → words ≡ [] → Pages words p → Pages words (copy_ended turn kind p)
ended_pages words turn PageCopy p none h = sym none
ended_pages words turn kind p none h = h

-- where no look goes on, each other step leaves that
none_steps : StepsLeave Other (Pages [])
none_steps = record { linked = λ p links going some h. h; reasoned = λ o p h. h; ended = λ turn kind p m k n h. ended_pages [] turn kind p refl h; freed = λ p l h. h; steps = λ y p g m w can n h. pages_word [] y p g m w n h }

-- what a load of a look makes of it
abbrev Turned : ℕ → Peer → Type 0
Turned n p = (p.paging ≡ []) ⊎ ((length p.paging ≡ n + 1) × (n + 1 < 5))

page_by : (own : ℕ) (b : Bool) (words : List ℕ) (w n : ℕ) (p : Peer) → nat_eq (length words) 5 ≡ b → length words ≡ n + 1 → n < 5
    → let f : Effect Peer (ℕ → List Note) = if b then record { local = record p { look = judged words; paging = []; both_new = both_new_by own (judged words) p.both_new }; reason = look_reason p.engage.echo (judged words) w; notes = λ c. [] } else record { local = record p { paging = words }; reason = None; notes = λ c. [] } in Turned n f.local
page_by own true words w n p e l few = inl refl
page_by own false words w n p e l few = inr (l, (let m : length words ≡ 5 → ⊥ = not_five (length words) e in omega (arith, l, m, few))) where
  not_five : (a : ℕ) → nat_eq a 5 ≡ false → a ≡ 5 → ⊥
  not_five a f g = grind (arith, nat_tests)

page_turned : (own : ℕ) (words : List ℕ) (w : ℕ) (p : Peer) → length words < 5 → Turned (length words) (page_read own (words ++ w ∷ []) w p).local
page_turned own words w p few = let l : length (words ++ w ∷ []) ≡ length words + 1 = length-append words (w ∷ []) in page_by own (nat_eq (length (words ++ w ∷ [])) 5) (words ++ w ∷ []) w (length words) p refl l few

look_turned : (s : ScenarioPart) (st : State) (q : ℕ) (a : Answer) → length (peer_of st q).paging < 5 → Turned (length (peer_of st q).paging) (peer_answered (here_of s st q) (mark_of s st (ForPeer q LookAtPage)) (peer_of st q) LookAtPage a).local
look_turned s st q (Word w) few = page_turned (here_of s st q).version (peer_of st q).paging w (peer_numbered (mark_of s st (ForPeer q LookAtPage)) (peer_of st q)) few
look_turned s st q Failed few = inl refl

look_makes : (s : ScenarioPart) (st : State) (q : ℕ) (a : Answer) → length (peer_of st q).paging < 5 → Turned (length (peer_of st q).paging) (peer_of (after_answer s st (ForPeer q LookAtPage) a) q)
look_makes s st q a few = by (cases_lt q (length st.peers)) where
  f : Effect Peer (ℕ → List Note)
  f = peer_answered (here_of s st q) (mark_of s st (ForPeer q LookAtPage)) (peer_of st q) LookAtPage a

  by : (q < length st.peers) ⊎ (length st.peers ≤ q) → Turned (length (peer_of st q).paging) (peer_of (after_answer s st (ForPeer q LookAtPage) a) q)
  by (inl l) = subst (λ (p : Peer). Turned (length (peer_of st q).paging) p) (sym (get_or-set_same st.peers q (with_reason f.reason f.local) (cold_peer Old) l)) (look_turned s st q a few)
  by (inr l) = inl (ap (λ (p : Peer). p.paging) (get_or_past (slice_set st.peers q (with_reason f.reason f.local)) q (cold_peer Old) (omega (arith, l, length-set st.peers q (with_reason f.reason f.local)))))

-- a look that goes on is at work at its errand, which has a turn for each of its loads
pub record Tie (s : ScenarioPart) (k q : ℕ) (v : Visit Errand) (st : State) : Type 0 where
  pub life : st.life ≡ Up
  pub busy : Busy (plan_of s) k errands.Look (length (peer_of st q).paging) v
  pub few : length (peer_of st q).paging < 5

abbrev pub Tied : ScenarioPart → ℕ → ℕ → Visit Errand → State → Type 0
Tied s k q v st = ((peer_of st q).paging ≡ []) ⊎ Tie s k q v st

is_paging : (words : List ℕ) → (words ≡ []) ⊎ (0 < length words)
is_paging [] = inl refl
is_paging (w ∷ ws) = inr (omega arith)

-- which rule a step followed, if it was a look at this partner
abbrev Looks : ℕ → Rule → Type 0
Looks q r = r ≡ ForPeer q LookAtPage

is_look : (q : ℕ) (r : Rule) → Looks q r ⊎ (Looks q r → ⊥)
is_look q (Link k c m) = inr (λ e. cc)
is_look q (Own m) = inr (λ e. cc)
is_look q (ForPeer k LookAtPage) = by (cases_eq k q) where
  by : (k ≡ q) ⊎ (k ≡ q → ⊥) → Looks q (ForPeer k LookAtPage) ⊎ (Looks q (ForPeer k LookAtPage) → ⊥)
  by (inl e) = inl (ap (λ (j : ℕ). ForPeer j LookAtPage) e)
  by (inr n) = inr (λ e. n (cc))
is_look q (ForPeer k CheckBeat) = inr (λ e. cc)
is_look q (ForPeer k AskActivation) = inr (λ e. cc)
is_look q (ForPeer k TakeFlags) = inr (λ e. cc)
is_look q (ForPeer k CloseArea) = inr (λ e. cc)
is_look q (ForPeer k ZeroMagic) = inr (λ e. cc)
is_look q (ForPeer k ClearOldBit) = inr (λ e. cc)
is_look q (ForPeer k (Prepare x)) = inr (λ e. cc)
is_look q (ForPeer k OpenArea) = inr (λ e. cc)
is_look q (ForPeer k SetEngagementBit) = inr (λ e. cc)
is_look q (ForPeer k ReadRecord) = inr (λ e. cc)
is_look q (ForPeer k StoreEcho) = inr (λ e. cc)
is_look q (ForPeer k StoreSecond) = inr (λ e. cc)
is_look q (ForPeer k ClearEngagementBit) = inr (λ e. cc)
is_look q (ForPeer k ClearDeactivationBit) = inr (λ e. cc)
is_look q (ForPeer k TellPartner) = inr (λ e. cc)

one_of : (a b : ℕ) → (nat_eq a 0 || nat_lt 0 b) ≡ true → b ≡ 0 → a ≡ 0
one_of a b h e = by (nat_eq a 0) refl h where
  none : nat_lt 0 b ≡ true → ⊥
  none f = let g : 0 < b = grind (arith, nat_tests) in omega (arith, g, e)

  by : (c : Bool) → nat_eq a 0 ≡ c → (c || nat_lt 0 b) ≡ true → a ≡ 0
  by true f g = grind (arith, nat_tests)
  by false f g = absurd (none g)

module _ (s : ScenarioPart) (q : ℕ) (x : Spot s.part s.count q) where
  abbrev Ask : ℕ → State → Option (Option Rule)
  Ask used st = (plan_of s).ask x.number errands.Look used st

  pub asks_on : (used : ℕ) (st : State) → st.life ≡ Up → (used ≡ 0) ⊎ (0 < length (peer_of st q).paging) → Ask used st ≡ Some (Some (ForPeer q LookAtPage))
  asks_on used st up h = asks s q x errands.Look used st.clock.boots st (record { up = up; boot = refl }) ∙ ap (λ (b : Bool). asked (for_peer q (step_if b LookAtPage))) (by h) where
    left : (a b : Bool) → a ≡ true → (a || b) ≡ true
    left true b e = refl
    left false b e = absurd (cc)

    right : (a b : Bool) → b ≡ true → (a || b) ≡ true
    right true b e = refl
    right false b e = e

    by : (used ≡ 0) ⊎ (0 < length (peer_of st q).paging) → (nat_eq used 0 || nat_lt 0 (length (peer_of st q).paging)) ≡ true
    by (inl e) = left (nat_eq used 0) (nat_lt 0 (length (peer_of st q).paging)) (grind (arith, nat_tests))
    by (inr l) = right (nat_eq used 0) (nat_lt 0 (length (peer_of st q).paging)) (grind (arith, nat_tests))

  -- the words of the look before the step are those before the turn
  mid_pages : (st : State) (t : Turn) → (peer_of (middle s st t) q).paging ≡ (peer_of st q).paging
  mid_pages st t = acts_leave (Pages (peer_of st q).paging) s q (pages_acts (peer_of st q).paging) st t.before refl

  pub mid_tied : (v : Visit Errand) (st : State) (t : Turn) → Tied s x.number q v st → Tied s x.number q v (middle s st t)
  mid_tied v st t (inl e) = inl (mid_pages st t ∙ e)
  mid_tied v st t (inr y) = inr (record { life = acts_life s st t.before ∙ y.life; busy = subst (λ (ws : List ℕ). Busy (plan_of s) x.number errands.Look (length ws) v) (sym (mid_pages st t)) y.busy; few = subst (λ (ws : List ℕ). length ws < 5) (sym (mid_pages st t)) y.few })

  -- what becomes of it in the step
  abbrev On : Visit Errand → State → State → Type 0
  On v st after = ((peer_of after q).paging ≡ []) ⊎ Tie s x.number q v after

  turned_on : (v : Visit Errand) (st : State) (a : Answer) (n : ℕ) → st.life ≡ Up → (n + 1 < 5 → Busy (plan_of s) x.number errands.Look (n + 1) v) → Turned n (peer_of (after_answer s st (ForPeer q LookAtPage) a) q) → On v st (after_answer s st (ForPeer q LookAtPage) a)
  turned_on v st a n up busy (inl e) = inl e
  turned_on v st a n up busy (inr y) = inr (record { life = up; busy = subst (λ (j : ℕ). Busy (plan_of s) x.number errands.Look j v) (sym y.0) (busy y.1); few = (let e = y.0 in let l = y.1 in omega (arith, e, l)) })

  abbrev Next : Visit Errand → State → Visit Errand
  Next v st = (planned (plan_of s) v st).visit

  -- one that goes on has the turn
  goes_busy : (v : Visit Errand) (st : State) → Tie s x.number q v st → 0 < length (peer_of st q).paging → ((planned (plan_of s) v st).rule ≡ Some (ForPeer q LookAtPage)) × (length (peer_of st q).paging + 1 < 5 → Busy (plan_of s) x.number errands.Look (length (peer_of st q).paging + 1) (Next v st))
  goes_busy v st y some = busy_turn (plan_of s) x.number errands.Look (length (peer_of st q).paging) v st (Some (ForPeer q LookAtPage)) y.busy y.few (asks_on (length (peer_of st q).paging) st y.life (inr some))

  -- one that is begun is begun by its errand's first step
  begun_busy : (v : Visit Errand) (st : State) → Paced (plan_of s) (whole s) v → (peer_of st q).paging ≡ [] → (planned (plan_of s) v st).rule ≡ Some (ForPeer q LookAtPage) → Busy (plan_of s) x.number errands.Look 1 (Next v st)
  begun_busy v st paced none e =
      let y = planned_by s v st (ForPeer q LookAtPage) paced e in
      let zero : y.source.used ≡ 0 = one_of y.source.used (length (peer_of st q).paging) y.meant.2 (ap (λ (ws : List ℕ). length ws) none) in
      let same = one_place s.part y.source.place x.number q y.meant.0 x.is in
      let b = subst (λ (d : Errand). y.source.used + 1 < (plan_of s).quota d → Busy (plan_of s) y.source.place d (y.source.used + 1) (Next v st)) y.meant.1 y.source.busy in
      let g : Busy (plan_of s) y.source.place errands.Look (y.source.used + 1) (Next v st) = b (omega (arith, zero)) in
      let h = subst (λ (j : ℕ). Busy (plan_of s) y.source.place errands.Look (j + 1) (Next v st)) zero g in
      subst (λ (j : ℕ). Busy (plan_of s) j errands.Look 1 (Next v st)) same h

  up_by : (st : State) (r : Rule) → r ≡ ForPeer q LookAtPage → Can s st r → st.life ≡ Up
  up_by st r e can = (subst (λ (y : Rule). Can s st y) e can).0

  step_on : (v : Visit Errand) (st : State) (o : Option Marked) → Paced (plan_of s) (whole s) v → MayMake s st o → rule_by s st o ≡ (planned (plan_of s) v st).rule → Tied s x.number q v st → On (Next v st) st (after_step s st o)
  step_on v st None paced may e (inl none) = inl none
  step_on v st None paced may e (inr y) = by (is_paging (peer_of st q).paging) where
    by : ((peer_of st q).paging ≡ []) ⊎ (0 < length (peer_of st q).paging) → On (Next v st) st st
    by (inl none) = inl none
    by (inr some) = absurd (let f : None ≡ Some (ForPeer q LookAtPage) = e ∙ (goes_busy v st y some).0 in cc)
  step_on v st (Some m) paced may e tied = subst (λ (o : Option Rule). On (Next v st) st (after_ruled s st o m.step.answer)) (sym may.decoded) (by tied (is_look q may.rule)) where
    ruled : (planned (plan_of s) v st).rule ≡ Some may.rule
    ruled = sym e ∙ may.decoded

    none_left : (peer_of st q).paging ≡ [] → (Looks q may.rule → ⊥) → On (Next v st) st (after_answer s st may.rule m.step.answer)
    none_left none n = inl (rule_leaves (Pages []) s q Other none_steps st may.rule m.step.answer may.can (λ k f g. n (f ∙ ap (λ (j : PeerRule). ForPeer q j) g)) none)

    begun : (peer_of st q).paging ≡ [] → Looks q may.rule → On (Next v st) st (after_answer s st may.rule m.step.answer)
    begun none is = subst (λ (r : Rule). On (Next v st) st (after_answer s st r m.step.answer)) (sym is) (let zero : length (peer_of st q).paging ≡ 0 = ap (λ (ws : List ℕ). length ws) none in turned_on (Next v st) st m.step.answer 0 (up_by st may.rule is may.can) (λ l. begun_busy v st paced none (ruled ∙ ap (λ (r : Rule). Some r) is)) (subst (λ (j : ℕ). Turned j (peer_of (after_answer s st (ForPeer q LookAtPage) m.step.answer) q)) zero (look_makes s st q m.step.answer (omega (arith, zero)))))

    same_rule : (a b : Rule) → Some a ≡ Some b → a ≡ b
    same_rule a b f = cc

    going : (y : Tie s x.number q v st) → 0 < length (peer_of st q).paging → On (Next v st) st (after_answer s st may.rule m.step.answer)
    going y some =
        let g = goes_busy v st y some in
        let is = same_rule may.rule (ForPeer q LookAtPage) (sym ruled ∙ g.0) in
        subst (λ (r : Rule). On (Next v st) st (after_answer s st r m.step.answer)) (sym is) (turned_on (Next v st) st m.step.answer (length (peer_of st q).paging) y.life g.1 (look_makes s st q m.step.answer y.few))

    or : (y : Tie s x.number q v st) → Looks q may.rule ⊎ (Looks q may.rule → ⊥) → ((peer_of st q).paging ≡ []) ⊎ (0 < length (peer_of st q).paging) → On (Next v st) st (after_answer s st may.rule m.step.answer)
    or y (inl is) (inl none) = begun none is
    or y (inr n) (inl none) = none_left none n
    or y d (inr some) = going y some

    by : Tied s x.number q v st → Looks q may.rule ⊎ (Looks q may.rule → ⊥) → On (Next v st) st (after_answer s st may.rule m.step.answer)
    by (inl none) (inl is) = begun none is
    by (inl none) (inr n) = none_left none n
    by (inr y) d = or y d (is_paging (peer_of st q).paging)

  -- the acts after it, and a boot that begins
  acts_on : (v : Visit Errand) (st : State) (list : List Act) → On v st st → On v (after_acts s st list) (after_acts s st list)
  acts_on v st list h = by h where
    same : (peer_of (after_acts s st list) q).paging ≡ (peer_of st q).paging
    same = acts_leave (Pages (peer_of st q).paging) s q (pages_acts (peer_of st q).paging) st list refl

    by : On v st st → On v (after_acts s st list) (after_acts s st list)
    by (inl e) = inl (same ∙ e)
    by (inr y) = inr (record { life = acts_life s st list ∙ y.life; busy = subst (λ (ws : List ℕ). Busy (plan_of s) x.number errands.Look (length ws) v) (sym same) y.busy; few = subst (λ (ws : List ℕ). length ws < 5) (sym same) y.few })

  acted_on : (v : Visit Errand) (st : State) (t : Turn) → Paced (plan_of s) (whole s) v → May s st t → rule_made s (middle s st t) t ≡ (planned (plan_of s) v (middle s st t)).rule → Tied s x.number q v st → Tied s x.number q (Next v (middle s st t)) (turn_counted (acted s st t))
  acted_on v st t paced may e tied = moved (acts_on (Next v (middle s st t)) (after_step s (middle s st t) t.made) t.after (step_on v (middle s st t) t.made paced may.made e (mid_tied v st t tied))) where
    moved : On (Next v (middle s st t)) (acted s st t) (acted s st t) → Tied s x.number q (Next v (middle s st t)) (turn_counted (acted s st t))
    moved (inl z) = inl z
    moved (inr y) = inr (record { life = y.life; busy = y.busy; few = y.few })

  pub tied_within : (v : Visit Errand) (st : State) (t : Turn) → (after_turn s st t).clock.boots ≡ st.clock.boots → Paced (plan_of s) (whole s) v → May s st t → rule_made s (middle s st t) t ≡ (planned (plan_of s) v (middle s st t)).rule → Tied s x.number q v st → Tied s x.number q (Next v (middle s st t)) (after_turn s st t)
  tied_within v st t same paced may e tied = on_turn s st t same (λ y. Tied s x.number q (Next v (middle s st t)) y) (λ y h. stops y h) (acted_on v st t paced may e tied) where
    stops : (y : State) → Tied s x.number q (Next v (middle s st t)) y → Tied s x.number q (Next v (middle s st t)) (record y { stopped = true })
    stops y (inl z) = inl z
    stops y (inr z) = inr (record { life = z.life; busy = z.busy; few = z.few })

  pub tied_next : (v : Visit Errand) (st : State) (t : Turn) → Paced (plan_of s) (whole s) v → May s st t → rule_made s (middle s st t) t ≡ (planned (plan_of s) v (middle s st t)).rule → Tied s x.number q v st → Tied s x.number q (visit_after s v st t) (after_turn s st t)
  tied_next v st t paced may e tied = by (nat_eq (after_turn s st t).clock.boots st.clock.boots) refl where
    anew_by : (b d : Bool) (y : State) → (moment_by s b d y).clock.boots ≡ st.clock.boots ⊎ ((peer_of (moment_by s b d y) q).paging ≡ []) → ((moment_by s b d y).clock.boots ≡ st.clock.boots → ⊥) → (peer_of (moment_by s b d y) q).paging ≡ []
    anew_by b d y (inl f) n = absurd (n f)
    anew_by b d y (inr z) n = z

    restarts : (b d : Bool) (y : State) → y.clock.boots ≡ st.clock.boots → ((moment_by s b d y).clock.boots ≡ st.clock.boots) ⊎ ((peer_of (moment_by s b d y) q).paging ≡ [])
    restarts true d y f = inr (at_each (Pages []) (λ j p. booted_peer p) y.peers q (cold_peer Old) refl (λ l. refl))
    restarts false true y f = inl f
    restarts false false y f = inl f

    other : nat_eq (after_turn s st t).clock.boots st.clock.boots ≡ false → (after_turn s st t).clock.boots ≡ st.clock.boots → ⊥
    other f g = grind (arith, nat_tests)

    by : (b : Bool) → nat_eq (after_turn s st t).clock.boots st.clock.boots ≡ b → Tied s x.number q (if b then Next v (middle s st t) else first_visit s) (after_turn s st t)
    by true f = tied_within v st t (grind (arith, nat_tests)) paced may e tied
    by false f =
        let y = turn_counted (acted s st t) in
        let b = restart_comes s st.clock.puts y && not (is_over y) in
        let d = stop_comes s st.clock.puts y && not (is_over y) in
        inl (anew_by b d y (restarts b d y (acted_boots s st t)) (other f))

  -- the duty
  module _ (boot : ℕ) where
    record Pacing (v : Visit Errand) (st : State) (ts : List Turn) : Type 0 where
      pub runs : RunsFrom s st ts
      pub up : Held (IsUp boot) s st ts
      pub paced : Paced (plan_of s) (whole s) v
      pub tied : Tied s x.number q v st

    pacing_next : (v : Visit Errand) (st : State) (t : Turn) (ts : List Turn) → rule_made s (middle s st t) t ≡ (planned (plan_of s) v (middle s st t)).rule → Pacing v st (t ∷ ts) → Pacing (Next v (middle s st t)) (after_turn s st t) ts
    pacing_next v st t ts e y =
        let later = first_holds (IsUp boot) s (after_turn s st t) ts y.up.2 in
        record {
          runs = y.runs.1;
          up = y.up.2;
          paced = planned_paced (plan_of s) (whole s) v (middle s st t) y.paced;
          tied = tied_within v st t (later.boot ∙ sym y.up.0.boot) y.paced y.runs.0 e y.tied;
        }

    abbrev IsAlong : Visit Errand → State → List Turn → Type 0
    IsAlong v st ts = Along (plan_of s) (middle s) (after_turn s) (rule_made s) s.count Pacing pacing_next v st ts

    abbrev Begun : State → Turn → Type 0
    Begun st t = Changes BeginsLook LookAtPage s q st t

    abbrev Over : State → Turn → Type 0
    Over st t = Changes EndsLook LookAtPage s q st t

    abbrev P : Bool → State → List Turn → Type 0
    P false st ts = SomeFrom Begun Over s st ts
    P true st ts = SomeTurn Over s st ts

    abbrev Work : Bool → ℕ → ℕ → State → Type 0
    Work false n used st = (n ≡ 4) × (used ≡ 0)
    Work true n used st = (n + used ≡ 4) × (0 < used) × (length (peer_of st q).paging ≡ used)

    abbrev Free : State → Turn → Type 0
    Free st t = (peer_of (middle s st t) q).paging ≡ []

    aside : (v : Visit Errand) (st : State) (t : Turn) (ts : List Turn) → IsAlong v st (t ∷ ts) → Aside (plan_of s) errands.Look v (middle s st t) ⊎ Free st t
    aside v st t ts a = by (mid_tied v st t a.more.tied) (is_paging (peer_of (middle s st t) q).paging) where
      by : Tied s x.number q v (middle s st t) → ((peer_of (middle s st t) q).paging ≡ []) ⊎ (0 < length (peer_of (middle s st t) q).paging) → Aside (plan_of s) errands.Look v (middle s st t) ⊎ Free st t
      by d (inl none) = inr none
      by (inl none) (inr some) = inr none
      by (inr y) (inr some) = inl (record { place = x.number; errand = errands.Look; used = length (peer_of (middle s st t) q).paging; busy = y.busy; few = y.few; turn = Some (ForPeer q LookAtPage); asks = asks_on (length (peer_of (middle s st t) q).paging) (middle s st t) y.life (inr some); other = λ e. some })

    -- a turn that was seen to load a word of the look
    changed : (E : Peer → Peer → Type 0) (st : State) (t : Turn) → rule_made s (middle s st t) t ≡ Some (ForPeer q LookAtPage) → ((a : Answer) → E (peer_of (middle s st t) q) (peer_of (after_answer s (middle s st t) (ForPeer q LookAtPage) a) q)) → Changes E LookAtPage s q st t
    changed E st t e h = by t.made refl e where
      by : (o : Option Marked) → t.made ≡ o → rule_by s (middle s st t) o ≡ Some (ForPeer q LookAtPage) → Changes E LookAtPage s q st t
      by None f g = absurd (cc)
      by (Some z) f g = record { step = z; made = f; decoded = g; is = subst (λ (o : Option Marked). E (peer_of (middle s st t) q) (peer_of (after_step s (middle s st t) o) q)) (sym f) (subst (λ (o : Option Rule). E (peer_of (middle s st t) q) (peer_of (after_ruled s (middle s st t) o z.step.answer) q)) (sym g) (h z.step.answer)) }

    -- the words after the turn are those after its step
    later_pages : (st : State) (t : Turn) → IsUp boot st → IsUp boot (after_turn s st t) → (peer_of (after_turn s st t) q).paging ≡ (peer_of (after_step s (middle s st t) t.made) q).paging
    later_pages st t a b = on_turn s st t (b.boot ∙ sym a.boot) (λ y. (peer_of y q).paging ≡ (peer_of (after_step s (middle s st t) t.made) q).paging) (λ y h. h) (acts_leave (Pages (peer_of (after_step s (middle s st t) t.made) q).paging) s q (pages_acts (peer_of (after_step s (middle s st t) t.made) q).paging) (after_step s (middle s st t) t.made) t.after refl)

    loaded : (st : State) (t : Turn) (n : ℕ) → rule_made s (middle s st t) t ≡ Some (ForPeer q LookAtPage) → length (peer_of (middle s st t) q).paging ≡ n → n < 5 → Turned n (peer_of (after_step s (middle s st t) t.made) q)
    loaded st t n e l few = by t.made refl e where
      by : (o : Option Marked) → t.made ≡ o → rule_by s (middle s st t) o ≡ Some (ForPeer q LookAtPage) → Turned n (peer_of (after_step s (middle s st t) o) q)
      by None f g = absurd (cc)
      by (Some z) f g = subst (λ (o : Option Rule). Turned n (peer_of (after_ruled s (middle s st t) o z.step.answer) q)) (sym g) (subst (λ (j : ℕ). Turned j (peer_of (after_answer s (middle s st t) (ForPeer q LookAtPage) z.step.answer) q)) l (look_makes s (middle s st t) q z.step.answer (omega (arith, l, few))))

    over : (st : State) (t : Turn) → rule_made s (middle s st t) t ≡ Some (ForPeer q LookAtPage) → (peer_of (after_step s (middle s st t) t.made) q).paging ≡ [] → Over st t
    over st t e none = by t.made refl e where
      by : (o : Option Marked) → t.made ≡ o → rule_by s (middle s st t) o ≡ Some (ForPeer q LookAtPage) → Over st t
      by None f g = absurd (cc)
      by (Some z) f g = record { step = z; made = f; decoded = g; is = none }

    abbrev Moves : Bool → ℕ → ℕ → State → Turn → List Turn → Type 0
    Moves ph n used st t ts = Moved (plan_of s) (middle s) (after_turn s) (rule_made s) s.count Pacing pacing_next Bool Work P ph n used st t ts

    length_after : (v : Visit Errand) (st : State) (t : Turn) (ts : List Turn) (n : ℕ) → IsAlong v st (t ∷ ts) → length (peer_of (after_step s (middle s st t) t.made) q).paging ≡ n → length (peer_of (after_turn s st t) q).paging ≡ n
    length_after v st t ts n a e = ap (λ (ws : List ℕ). length ws) (later_pages st t a.more.up.0 (first_holds (IsUp boot) s (after_turn s st t) ts a.more.up.2)) ∙ e

    begins_now : (v : Visit Errand) (st : State) (t : Turn) (ts : List Turn) (n used : ℕ) → IsAlong v st (t ∷ ts) → Free st t → n ≡ 4 → used ≡ 0 → rule_made s (middle s st t) t ≡ Some (ForPeer q LookAtPage) → P false st (t ∷ ts) ⊎ Moves false n used st t ts
    begins_now v st t ts n used a none four first e = by (loaded st t 0 e (ap (λ (ws : List ℕ). length ws) none) (omega arith)) where
      begun : Begun st t
      begun = changed BeginsLook st t e (λ a. none)

      by : Turned 0 (peer_of (after_step s (middle s st t) t.made) q) → P false st (t ∷ ts) ⊎ Moves false n used st t ts
      by (inl y) = inl (inl (begun, inl (over st t e y)))
      by (inr y) = inr (record { fewer = 3; low = omega (arith, four); phase = true; work = (omega (arith, first), omega (arith, first), length_after v st t ts (used + 1) a (let l = y.0 in omega (arith, l, first))); lift = λ h. inl (begun, inr h) })

    goes_now : (v : Visit Errand) (st : State) (t : Turn) (ts : List Turn) (n used : ℕ) → IsAlong v st (t ∷ ts) → n + used ≡ 4 → 0 < used → length (peer_of (middle s st t) q).paging ≡ used → rule_made s (middle s st t) t ≡ Some (ForPeer q LookAtPage) → P true st (t ∷ ts) ⊎ Moves true n used st t ts
    goes_now v st t ts n used a four some l e = by (loaded st t used e l (omega (arith, four))) where
      by : Turned used (peer_of (after_step s (middle s st t) t.made) q) → P true st (t ∷ ts) ⊎ Moves true n used st t ts
      by (inl y) = inl (inl (over st t e y))
      by (inr y) = let few = y.1 in inr (record { fewer = n - 1; low = omega (arith, four, few); phase = true; work = (omega (arith, four, few), omega arith, length_after v st t ts (used + 1) a y.0); lift = λ h. inr h })

    asks_now : (ph : Bool) (n used : ℕ) (v : Visit Errand) (st : State) (t : Turn) (ts : List Turn) → IsAlong v st (t ∷ ts) → (used ≡ 0 → Free st t) → Work ph n used st
        → (o : Option Rule) × (Ask used (middle s st t) ≡ Some o) × (rule_made s (middle s st t) t ≡ o → P ph st (t ∷ ts) ⊎ Moves ph n used st t ts)
    asks_now false n used v st t ts a free w = (Some (ForPeer q LookAtPage), asks_on used (middle s st t) a.more.up.1.up (inl w.1), λ e. begins_now v st t ts n used a (free w.1) w.0 w.1 e)
    asks_now true n used v st t ts a free w =
        let l = ap (λ (ws : List ℕ). length ws) (mid_pages st t) ∙ w.2 in
        let some = w.1 in
        (Some (ForPeer q LookAtPage), asks_on used (middle s st t) a.more.up.1.up (inr (omega (arith, l, some))), λ e. goes_now v st t ts n used a w.0 w.1 l e)

    fits_by : (b : Bool) → Fits (plan_of s) errands.Look (errands_of (if b then agendas.Joined else agendas.Apart))
    fits_by true = record { front = []; back = errands.Flags ∷ errands.Check ∷ errands.Signal 0 ∷ errands.Signal 1 ∷ errands.Signal 2 ∷ errands.Signal 3 ∷ errands.Counters 0 ∷ errands.Counters 1 ∷ errands.Counters 2 ∷ errands.Counters 3 ∷ errands.Bulk ∷ errands.Leave ∷ []; is = refl; low = omega arith }
    fits_by false = record { front = []; back = errands.Prepare ∷ errands.Engage ∷ errands.Answer ∷ errands.Record ∷ errands.Answer ∷ errands.Leave ∷ errands.Bulk ∷ []; is = refl; low = omega arith }

    fits : (st : State) → IsUp boot st → Fits (plan_of s) errands.Look ((plan_of s).errands x.number st)
    fits st up = subst (λ (es : List Errand). Fits (plan_of s) errands.Look es) (sym (ap (λ (p : Place). errands_of (agenda_at p st)) x.is ∙ ap (λ (l : Life). errands_of (agenda_by l (PartnerPlace q) st)) up.up)) (fits_by (is_joined (peer_of st q)))

    duty : Duty (plan_of s) (middle s) (after_turn s) (rule_made s) s.count Pacing pacing_next x.number errands.Look 0 Free (λ _. Unit {0}) Bool false Work P
    duty = record {
      later = λ st t ts h. inr h;
      aside = λ v st t ts a h. aside v st t ts a;
      stays = λ v st t ts a long h. inr tt;
      fits = λ v st t ts a h. fits (middle s st t) a.more.up.1;
      begins = λ v st t ts a free h. (4, omega arith, (refl, refl));
      asks = λ ph n used v st t ts a free long few w. asks_now ph n used v st t ts a free w;
    }

    pub looks_made : (v : Visit Errand) (st : State) (ts : List Turn) → VISIT_TURNS * s.count + VISIT_TURNS < length ts → Turns boot s v st ts → Paced (plan_of s) (whole s) v → Tied s x.number q v st → SomeFrom Begun Over s st ts
    looks_made v st ts long y paced tied =
        done (plan_of s) (middle s) (after_turn s) (rule_made s) s.count Pacing pacing_next x.number errands.Look 0 Free (λ _. Unit {0}) Bool false Work P duty v st ts x.low (omega arith) (omega arith) (omega (arith, long))
        (record { ring = y.ring; places = y.places; follows = y.follows; more = record { runs = y.runs; up = y.up; paced = paced; tied = tied } }) tt

-- no look goes on at the opening
pub tied_first : (s : ScenarioPart) (k q : ℕ) → Tied s k q (first_visit s) (start s)
tied_first s k q = inl (start_has (Pages []) s q (λ ls. refl) (λ b l p h. h) (λ p. refl) refl)
