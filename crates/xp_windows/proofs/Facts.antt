-- What always holds, along the turns of a partition that follows its plan: and what the duties of a
-- partner that isn't in contact have in common.
use Rattle.std.proofs.Common.{◌≡◌, ℕ, suc, ◌+◌, ◌<◌, ◌≤◌, Bool, true, false, ◌&&◌, ◌||◌, List, [], ◌∷◌, length, refl, ap, sym, ◌∙◌, subst, arith, inl, inr, ◌⊎◌, get_or-set_same, Option, Some, None}
use Rattle.std.specs.Prelude.{is_some, not, nat_lt, nat_eq, if◌then◌else◌}
use Rattle.std.proofs.lemmas.Bool.{cases_lt}
use Rattle.std.proofs.lemmas.Bool.Decides.{nat_tests}
use Rattle.std.proofs.lemmas.List.{get_or_past}
use Rattle.xp_base.specs.declared.reason.Reason.{Reason}
use Rattle.xp_base.specs.declared.step.Answer.{Answer}
use Rattle.xp_base.specs.declared.step.CopyKind.{CopyKind}
use Rattle.xp_base.specs.declared.step.CopyKind.TheVariants.{Record as RecordCopy}
use Rattle.xp_base.specs.declared.step.CopyMark.{CopyMark}
use Rattle.xp_base.specs.History.{Act, Marked, Turn}
use Rattle.xp_script.specs.declared.part.Link.{Link as ScenarioLink}
use Rattle.xp_script.specs.declared.part.ScenarioPart.{ScenarioPart}
use Rattle.xp_rounds.specs.declared.rounds.Place.{Place}
use Rattle.xp_rounds.specs.declared.rounds.Place.TheVariants.{Partner as PartnerPlace}
use Rattle.xp_rounds.specs.Visit.{Visit, planned}
use Rattle.xp_rounds.proofs.Visits.{Fits, Aside, busy_turn}
use Rattle.xp_rounds.proofs.Sources.{Paced, planned_paced}
use Rattle.xp_rounds.proofs.Spots.{Spot}
use Rattle.xp_protocol.specs.declared.contact.Contact.{Contact}
use Rattle.xp_protocol.specs.declared.rule.PeerRule.{PeerRule}
use Rattle.xp_protocol.specs.declared.rule.PeerRule.TheVariants.{AskActivation, TakeFlags, CloseArea, ZeroMagic, ClearOldBit, Prepare, OpenArea, SetEngagementBit, ReadRecord, StoreEcho, StoreSecond, ClearEngagementBit, LookAtPage, CheckBeat, ClearDeactivationBit, TellPartner}
use Rattle.xp_protocol.specs.declared.rule.AreaWord.{AreaWord}
use Rattle.xp_protocol.specs.declared.rule.AreaWord.TheVariants.{SessionWord, EchoWord, PlaceWord, ArgsWord, FlagWord, CounterWord}
use Rattle.xp_protocol.specs.declared.rule.Rule.{Rule}
use Rattle.xp_protocol.specs.declared.rule.Rule.TheVariants.{Peer as ForPeer}
use Rattle.xp_protocol.specs.Parts.{fails_at}
use Rattle.xp_protocol.specs.State.{State, base_peer, Life, Old, Off, Ready, Leaving, Peer, PeerGoing, Engage, Reading, End, cold_peer, link_at, peer_of, end_of}
use Rattle.xp_protocol.specs.Pulling.{Pulling, is_copying}
use Rattle.xp_protocol.specs.Peering.{Here, place_read, peer_can, peer_effect, prepared, record_read, try_contact, contact_made, same_peer, area_left_for, is_magic, is_wrong, has_shown, is_bad_flags, any_copied, copies_go_on, copy_ended, with_reason}
use Rattle.xp_protocol.specs.Rules.{here_of, mark_of, peer_answered}
use Rattle.xp_protocol.specs.Acts.{after_acts}
use Rattle.xp_protocol.specs.Decode.{rule_of}
use Rattle.xp_protocol.specs.Runs.{May, MayMake, after_ruled, after_step, after_turn, acted, turn_counted, is_failed, start}
use Rattle.xp_protocol.proofs.Frames.{cond_peer}
use Rattle.xp_plan.specs.declared.errand.Agenda.TheVariants as agendas
use Rattle.xp_plan.specs.declared.errand.Errand.{Errand}
use Rattle.xp_plan.specs.declared.errand.Errand.TheVariants as errands
use Rattle.xp_plan.specs.PeerSteps.{is_open_to}
use Rattle.xp_plan.specs.Plan.{is_joined, errands_of, agenda_by, agenda_at, plan_of}
use Rattle.xp_windows.specs.Windows.{middle, IsUp}
use Rattle.xp_windows.specs.Visited.{rule_by, rule_made}
use Rattle.xp_windows.proofs.Places.{Run, run_next, first_holds}
use Rattle.xp_windows.proofs.Copies.{whole}
use Rattle.xp_windows.proofs.Keeps.{acts_keep}
use Rattle.xp_windows.proofs.PeerFrames.{ActsLeave, StepsLeave, acts_leave, made_leaves, moment_leaves, start_has}
use Rattle.xp_windows.proofs.Planned.{planned_by}
use Rattle.xp_windows.proofs.Engaged.{Stands, Reads, stands_acts, stands_steps, stands_first, stands_anew}
use Rattle.xp_windows.proofs.Rests.{Quiet, Rests, Cut, rests_next, rests_first, rests_acts, cut_next, cut_first, acts_cut}
use Rattle.xp_windows.proofs.Sober.{Sobers, sober_acts, sober_next, sober_first}
use Rattle.xp_windows.proofs.Stored.{Stored, stored_acts, stored_next, stored_first}
use Rattle.xp_windows.proofs.Looks.{Tied, mid_tied, tied_within, asks_on}

-- a copy of a partner's record that goes on has words left
abbrev pub Placed : Peer → Type 0
Placed p = (r : Reading) → p.engage.reading ≡ Some r → (0 < r.done) × (r.done < 8)

placed_acts : ActsLeave Placed
placed_acts = record { linked = λ p links h. h; unwanted = λ p h. h; wanted = λ p h. h }

some_is : (r x : Reading) → Some r ≡ Some x → r ≡ x
some_is r x e = cc

none_placed : (p : Peer) → p.engage.reading ≡ None → Placed p
none_placed p e r f = absurd (let g : None ≡ Some r = sym e ∙ f in cc)

at_placed : (p : Peer) (x : Reading) → p.engage.reading ≡ Some x → 0 < x.done → x.done < 8 → Placed p
at_placed p x e a b r f = let g = some_is x r (sym e ∙ f) in (subst (λ (y : Reading). 0 < y.done) g a, subst (λ (y : Reading). y.done < 8) g b)

left_placed : (o : Option Reason) (p : Peer) → Placed p → Placed (area_left_for o p).local
left_placed None p h = h
left_placed (Some r) p h = λ x e. absurd (cc)

contact_placed : (turn stamp : ℕ) (p : Peer) → Placed p → Placed (try_contact turn stamp p).local
contact_placed turn stamp p h = cond_peer Placed (p.engage.second && (p.engage.shown && not (is_some p.contact))) (contact_made turn stamp p) (same_peer p) h h

on_placed : (b : Bool) (y : Here) (p : Peer) (r : Reading) (w : ℕ) → nat_eq r.done 7 ≡ b → 0 < r.done → r.done < 8 → Placed (if b then (if has_shown y.stamp p.engage r then try_contact y.turn y.stamp (record p { engage = record p.engage { shown = true; reading = None } }) else same_peer (record p { engage = record p.engage { reading = None } }))
    else place_read y.part p r w).local
on_placed true y p r w e a b = cond_peer Placed (has_shown y.stamp p.engage r) _ _ (contact_placed y.turn y.stamp (record p { engage = record p.engage { shown = true; reading = None } }) (none_placed (record p { engage = record p.engage { shown = true; reading = None } }) refl)) (none_placed (record p { engage = record p.engage { reading = None } }) refl)
on_placed false y p r w e a b = cond_peer Placed (is_wrong y.part r.done w) _ _ (none_placed (record p { engage = record p.engage { reading = None } }) refl) (at_placed (record p { engage = record p.engage { reading = Some (record r { done = r.done + 1 }) } }) (record r { done = r.done + 1 }) refl (omega arith) (let n : r.done ≡ 7 → ⊥ = seven r.done e in omega (arith, b, n))) where
  seven : (n : ℕ) → nat_eq n 7 ≡ false → n ≡ 7 → ⊥
  seven n f g = grind (arith, nat_tests)

read_placed : (y : Here) (p : Peer) (o : Option Reading) (w : ℕ) → p.engage.reading ≡ o → Placed p → Placed (record_read y p o w).local
read_placed y p None w i h = cond_peer Placed (nat_eq w 0) _ _ h (cond_peer Placed (is_magic w) _ _ (at_placed (record p { engage = record p.engage { reading = Some (record { done = 1; after_echo = is_some p.engage.echo; magic = w; echo = 0 }) } }) (record { done = 1; after_echo = is_some p.engage.echo; magic = w; echo = 0 }) refl (omega arith) (omega arith)) h)
read_placed y p (Some r) w i h =
    let z = h r i in
    cond_peer Placed (nat_eq r.done 1) _ _ (at_placed (record p { engage = record p.engage { read = Some w; reading = Some (record r { done = 2 }) } }) (record r { done = 2 }) refl (omega arith) (omega arith))
    (cond_peer Placed (nat_eq r.done 2) _ _ (at_placed (record p { engage = record p.engage { reading = Some (record r { done = 3; echo = w }) } }) (record r { done = 3; echo = w }) refl (omega arith) (omega arith))
    (on_placed (nat_eq r.done 7) y p r w refl z.0 z.1))

words_placed : (y : AreaWord) (p : Peer) (x : Engage) → (record p { engage = x }).engage.reading ≡ p.engage.reading → Placed p → Placed (record p { engage = x })
words_placed y p x e h = λ r f. h r (sym e ∙ f)

prepared_reading : (y : AreaWord) (x : Engage) → (prepared y x).reading ≡ x.reading
prepared_reading SessionWord x = refl
prepared_reading EchoWord x = refl
prepared_reading FlagWord x = refl
prepared_reading (PlaceWord y) x = refl
prepared_reading (ArgsWord d f) x = refl
prepared_reading (CounterWord d f) x = refl

placed_word : (y : Here) (p : Peer) (g : PeerGoing) (m : PeerRule) (w : ℕ) → Placed p → Placed (peer_effect y (record p { numbers = g }) m w).local
placed_word y p g AskActivation w h = h
placed_word y p g TakeFlags w h = cond_peer Placed (is_bad_flags w) _ _ h h
placed_word y p g CloseArea w h = left_placed p.engage.reason (record p { numbers = g }) h
placed_word y p g ZeroMagic w h = h
placed_word y p g ClearOldBit w h = h
placed_word y p g (Prepare x) w h = words_placed x p (prepared x p.engage) (prepared_reading x p.engage) h
placed_word y p g OpenArea w h = h
placed_word y p g SetEngagementBit w h = λ r e. absurd (cc)
placed_word y p g ReadRecord w h = read_placed y (record p { numbers = g }) p.engage.reading w refl h
placed_word y p g StoreEcho w h = h
placed_word y p g StoreSecond w h = contact_placed y.turn y.stamp (record p { numbers = g; engage = record p.engage { second = true } }) h
placed_word y p g ClearEngagementBit w h = h
placed_word y p g LookAtPage w h = cond_peer Placed _ _ _ h h
placed_word y p g CheckBeat w h = h
placed_word y p g ClearDeactivationBit w h = h
placed_word y p g TellPartner w h = h

placed_ended : (turn : ℕ) (kind : CopyKind) (p : Peer) → Placed p → Placed (copy_ended turn kind p)
placed_ended turn RecordCopy p h = λ r e. absurd (cc)
placed_ended turn kind p h = h

abbrev Whatever : Peer → PeerRule → Type 0
Whatever p m = Unit {0}

placed_steps : StepsLeave Whatever Placed
placed_steps = record { linked = λ p links going some h. h; reasoned = λ o p h. h; ended = λ turn kind p m k n h. placed_ended turn kind p h; freed = λ p l h. h; steps = λ y p g m w can n h. placed_word y p g m w h }

-- no copy of the record of a partner goes on that is left
abbrev pub Unread : Peer → Type 0
Unread p = p.engage.area ≡ Leaving → p.engage.reading ≡ None

unread_acts : ActsLeave Unread
unread_acts = record { linked = λ p links h. h; unwanted = λ p h. h; wanted = λ p h. h }

ready_unread : (p : Peer) → p.engage.area ≡ Ready → Unread p
ready_unread p e f = absurd (let g : Ready ≡ Leaving = sym e ∙ f in cc)

left_unread : (o : Option Reason) (p : Peer) → Unread p → Unread (area_left_for o p).local
left_unread None p h = h
left_unread (Some r) p h = λ e. refl

prepared_area : (y : AreaWord) (x : Engage) → (prepared y x).area ≡ x.area
prepared_area SessionWord x = refl
prepared_area EchoWord x = refl
prepared_area FlagWord x = refl
prepared_area (PlaceWord y) x = refl
prepared_area (ArgsWord d f) x = refl
prepared_area (CounterWord d f) x = refl

off_unread : (p : Peer) → p.engage.area ≡ Off → Unread p
off_unread p e f = absurd (let g : Off ≡ Leaving = sym e ∙ f in cc)

contact_unread : (turn stamp : ℕ) (p : Peer) → p.engage.area ≡ Ready → Unread (try_contact turn stamp p).local
contact_unread turn stamp p e = cond_peer Unread (p.engage.second && (p.engage.shown && not (is_some p.contact))) (contact_made turn stamp p) (same_peer p) (λ f. ready_unread p e f) (ready_unread p e)

read_unread : (y : Here) (p : Peer) (o : Option Reading) (w : ℕ) → p.engage.area ≡ Ready → Unread (record_read y p o w).local
read_unread y p None w e = cond_peer Unread (nat_eq w 0) _ _ (ready_unread (record p { engage = record p.engage { back_off = p.engage.back_off || not (is_some p.engage.echo) } }) e) (cond_peer Unread (is_magic w) _ _ (ready_unread (record p { engage = record p.engage { reading = Some (record { done = 1; after_echo = is_some p.engage.echo; magic = w; echo = 0 }) } }) e) (ready_unread p e))
read_unread y p (Some r) w e =
    cond_peer Unread (nat_eq r.done 1) _ _ (ready_unread (record p { engage = record p.engage { read = Some w; reading = Some (record r { done = 2 }) } }) e)
    (cond_peer Unread (nat_eq r.done 2) _ _ (ready_unread (record p { engage = record p.engage { reading = Some (record r { done = 3; echo = w }) } }) e)
    (cond_peer Unread (nat_eq r.done 7) _ _
    (cond_peer Unread (has_shown y.stamp p.engage r) _ _ (contact_unread y.turn y.stamp (record p { engage = record p.engage { shown = true; reading = None } }) e) (ready_unread (record p { engage = record p.engage { reading = None } }) e))
    (cond_peer Unread (is_wrong y.part r.done w) _ _ (ready_unread (record p { engage = record p.engage { reading = None } }) e) (ready_unread (record p { engage = record p.engage { reading = Some (record r { done = r.done + 1 }) } }) e))))

unread_word : (y : Here) (p : Peer) (g : PeerGoing) (m : PeerRule) (w : ℕ) → peer_can y p m → Unread p → Unread (peer_effect y (record p { numbers = g }) m w).local
unread_word y p g AskActivation w can h = h
unread_word y p g TakeFlags w can h = cond_peer Unread (is_bad_flags w) _ _ h h
unread_word y p g CloseArea w can h = left_unread p.engage.reason (record p { numbers = g }) h
unread_word y p g ZeroMagic w can h = h
unread_word y p g ClearOldBit w can h = h
unread_word y p g (Prepare x) w can h = off_unread (record p { engage = prepared x p.engage }) (prepared_area x p.engage ∙ can.0)
unread_word y p g OpenArea w can h = λ e. absurd (cc)
unread_word y p g SetEngagementBit w can h = λ e. refl
unread_word y p g ReadRecord w can h = read_unread y (record p { numbers = g }) p.engage.reading w can.0
unread_word y p g StoreEcho w can h = h
unread_word y p g StoreSecond w can h = contact_unread y.turn y.stamp (record p { numbers = g; engage = record p.engage { second = true } }) can.0
unread_word y p g ClearEngagementBit w can h = h
unread_word y p g LookAtPage w can h = cond_peer Unread _ _ _ h h
unread_word y p g CheckBeat w can h = h
unread_word y p g ClearDeactivationBit w can h = h
unread_word y p g TellPartner w can h = h

unread_ended : (turn : ℕ) (kind : CopyKind) (p : Peer) → Unread p → Unread (copy_ended turn kind p)
unread_ended turn RecordCopy p h = λ e. refl
unread_ended turn kind p h = h

unread_steps : StepsLeave Whatever Unread
unread_steps = record { linked = λ p links going some h. h; reasoned = λ o p h. h; ended = λ turn kind p m k n h. unread_ended turn kind p h; freed = λ p l h. λ e. absurd (cc); steps = λ y p g m w can n h. unread_word y p g m w can h }

unread_next : (s : ScenarioPart) (q : ℕ) (st : State) (t : Turn) → May s st t → Unread (peer_of st q) → Unread (peer_of (after_turn s st t) q)
unread_next s q st t may h =
    moment_leaves Unread s q st.clock.puts (turn_counted (acted s st t)) (λ p. λ e. refl) (λ e. refl)
    (acts_leave Unread s q unread_acts (after_step s (middle s st t) t.made) t.after (made_leaves Unread s q Whatever unread_steps (middle s st t) t.made may.made (λ x r f g m i. tt) (acts_leave Unread s q unread_acts st t.before h)))

unread_first : (s : ScenarioPart) (q : ℕ) → Unread (peer_of (start s) q)
unread_first s q = start_has Unread s q base (λ b l p h. λ e. refl) (λ p. λ e. refl) (λ e. refl) where
  base : (ls : List ScenarioLink) → Unread (base_peer ls)
  base [] = λ e. refl
  base (l ∷ ls) = λ e. refl

-- what always holds
pub record Facts (st : State) : Type 0 where
  pub stands : (q : ℕ) → Stands (peer_of st q)
  pub rests : (q c : ℕ) → Rests (end_of st q c)
  pub cut : (q c : ℕ) → Cut c (peer_of st q)
  pub placed : (q : ℕ) → Placed (peer_of st q)
  pub stored : (q : ℕ) → Stored (peer_of st q)
  pub unread : (q : ℕ) → Unread (peer_of st q)
  pub sober : (q c : ℕ) → Sobers (end_of st q c)

pub facts_mid : (s : ScenarioPart) (st : State) (list : List Act) → Facts st → Facts (after_acts s st list)
facts_mid s st list h = record {
  stands = λ q. acts_leave Stands s q stands_acts st list (h.stands q);
  rests = λ q c. acts_keep Rests s q c rests_acts st list (h.rests q c);
  cut = λ q c. acts_cut c s q st list (h.cut q c);
  placed = λ q. acts_leave Placed s q placed_acts st list (h.placed q);
  stored = λ q. acts_leave Stored s q stored_acts st list (h.stored q);
  unread = λ q. acts_leave Unread s q unread_acts st list (h.unread q);
  sober = λ q c. acts_keep Sobers s q c sober_acts st list (h.sober q c);
}

-- a read that was planned
read_planned : (s : ScenarioPart) (v : Visit Errand) (st : State) (q : ℕ) (r : Rule) (m : PeerRule) → Paced (plan_of s) (whole s) v → (planned (plan_of s) v st).rule ≡ Some r → r ≡ ForPeer q m → Reads (peer_of st q) m
read_planned s v st q r m paced e is i = (planned_by s v st (ForPeer q ReadRecord) paced (e ∙ ap (λ (x : Rule). Some x) (is ∙ ap (λ (n : PeerRule). ForPeer q n) i))).meant

pub facts_next : (s : ScenarioPart) (v : Visit Errand) (st : State) (t : Turn) → Paced (plan_of s) (whole s) v → May s st t → rule_made s (middle s st t) t ≡ (planned (plan_of s) v (middle s st t)).rule → Facts st → Facts (after_turn s st t)
facts_next s v st t paced may e h = record { stands = stands; rests = λ q c. rests_next s q c v st t paced may e (h.rests q c); cut = λ q c. cut_next c s q st t may (h.rests q c) (h.cut q c); placed = placed; stored = λ q. stored_next s q st t may (h.stored q); unread = λ q. unread_next s q st t may (h.unread q); sober = λ q c. sober_next s q c st t may (h.sober q c) } where
  ruled : (x : Marked) (r : Rule) → t.made ≡ Some x → rule_of s (middle s st t) x.step.op x.mark ≡ Some r → (planned (plan_of s) v (middle s st t)).rule ≡ Some r
  ruled x r f g = sym e ∙ ap (λ (o : Option Marked). rule_by s (middle s st t) o) f ∙ g

  stands : (q : ℕ) → Stands (peer_of (after_turn s st t) q)
  stands q =
      moment_leaves Stands s q st.clock.puts (turn_counted (acted s st t)) (λ p. stands_anew false false true) (stands_anew true true true)
      (acts_leave Stands s q stands_acts (after_step s (middle s st t) t.made) t.after
      (made_leaves Stands s q Reads stands_steps (middle s st t) t.made may.made (λ x r f g m i. read_planned s v (middle s st t) q r m paced (ruled x r f g) i) (acts_leave Stands s q stands_acts st t.before (h.stands q))))

  placed : (q : ℕ) → Placed (peer_of (after_turn s st t) q)
  placed q =
      moment_leaves Placed s q st.clock.puts (turn_counted (acted s st t)) (λ p. λ r f. absurd (cc)) (λ r f. absurd (cc))
      (acts_leave Placed s q placed_acts (after_step s (middle s st t) t.made) t.after
      (made_leaves Placed s q Whatever placed_steps (middle s st t) t.made may.made (λ x r f g m i. tt) (acts_leave Placed s q placed_acts st t.before (h.placed q))))

pub facts_first : (s : ScenarioPart) → Facts (start s)
facts_first s = record {
  stored = λ q. stored_first s q;
  unread = λ q. unread_first s q;
  sober = λ q c. sober_first s q c;
  stands = λ q. stands_first s q;
  rests = λ q c. rests_first s q c;
  cut = λ q c. cut_first c s q;
  placed = λ q. start_has Placed s q base (λ b l p h. λ r f. absurd (cc)) (λ p. λ r f. absurd (cc)) (λ r f. absurd (cc));
}
  where
    base : (ls : List ScenarioLink) → Placed (base_peer ls)
    base [] = λ r f. absurd (cc)
    base (l ∷ ls) = λ r f. absurd (cc)

-- without contact no copy of a channel goes on
pub none_copying : (x : Pulling) → Quiet x → is_copying x ≡ false
none_copying x h = ap (λ (o : Option ℕ). is_some o || nat_lt 0 (length x.copied)) h.counters ∙ ap (λ (ws : List ℕ). nat_lt 0 (length ws)) h.copied

none_copied : (links : List End) → ((c : ℕ) → Quiet (link_at links c).sides.pull) → any_copied links ≡ false
none_copied [] h = refl
none_copied (e ∷ es) h = ap (λ (b : Bool). b || any_copied es) (none_copying e.sides.pull (h 0)) ∙ none_copied es (λ c. h (suc c))

pub calm : (st : State) (q : ℕ) → Facts st → (peer_of st q).contact ≡ None → (peer_of st q).engage.reading ≡ None → (peer_of st q).paging ≡ [] → copies_go_on (peer_of st q) ≡ false
calm st q f none read page =
    ap (λ (o : Option Reading). is_some o || (nat_lt 0 (length (peer_of st q).paging) || any_copied (peer_of st q).links)) read
    ∙ ap (λ (ws : List ℕ). nat_lt 0 (length ws) || any_copied (peer_of st q).links) page
    ∙ none_copied (peer_of st q).links (λ c. f.cut q c none)

-- the errands of a partner that isn't joined
pub apart_fits : (s : ScenarioPart) (q : ℕ) (x : Spot s.part s.count q) (e : Errand) (boot : ℕ) (st : State) → IsUp boot st → is_joined (peer_of st q) ≡ false → Fits (plan_of s) e (errands_of agendas.Apart) → Fits (plan_of s) e ((plan_of s).errands x.number st)
apart_fits s q x e boot st up apart f = subst (λ (es : List Errand). Fits (plan_of s) e es) (sym (ap (λ (p : Place). errands_of (agenda_at p st)) x.is ∙ ap (λ (l : Life). errands_of (agenda_by l (PartnerPlace q) st)) up.up ∙ ap (λ (b : Bool). errands_of (if b then agendas.Joined else agendas.Apart)) apart)) f

pub unjoined : (p : Peer) → p.contact ≡ None → is_joined p ≡ false
unjoined p e = ap (λ (o : Option Contact). is_some o && is_open_to p.engage) e

pub fits_engage : (s : ScenarioPart) → Fits (plan_of s) errands.Engage (errands_of agendas.Apart)
fits_engage s = record { front = errands.Look ∷ errands.Prepare ∷ []; back = errands.Answer ∷ errands.Record ∷ errands.Answer ∷ errands.Leave ∷ errands.Bulk ∷ []; is = refl; low = omega arith }

pub fits_answer : (s : ScenarioPart) → Fits (plan_of s) errands.Answer (errands_of agendas.Apart)
fits_answer s = record { front = errands.Look ∷ errands.Prepare ∷ errands.Engage ∷ []; back = errands.Record ∷ errands.Answer ∷ errands.Leave ∷ errands.Bulk ∷ []; is = refl; low = omega arith }

pub fits_record : (s : ScenarioPart) → Fits (plan_of s) errands.Record (errands_of agendas.Apart)
fits_record s = record { front = errands.Look ∷ errands.Prepare ∷ errands.Engage ∷ errands.Answer ∷ []; back = errands.Answer ∷ errands.Leave ∷ errands.Bulk ∷ []; is = refl; low = omega arith }

pub fits_leave : (s : ScenarioPart) → Fits (plan_of s) errands.Leave (errands_of agendas.Apart)
fits_leave s = record { front = errands.Look ∷ errands.Prepare ∷ errands.Engage ∷ errands.Answer ∷ errands.Record ∷ errands.Answer ∷ []; back = errands.Bulk ∷ []; is = refl; low = omega arith }

pub fits_prepare : (s : ScenarioPart) → Fits (plan_of s) errands.Prepare (errands_of agendas.Apart)
fits_prepare s = record { front = errands.Look ∷ []; back = errands.Engage ∷ errands.Answer ∷ errands.Record ∷ errands.Answer ∷ errands.Leave ∷ errands.Bulk ∷ []; is = refl; low = omega arith }

-- a partner whose memory stands open is there
pub in_range : (st : State) (q : ℕ) → (peer_of st q).engage.area ≡ Ready → q < length st.peers
in_range st q e = by (cases_lt q (length st.peers)) where
  by : (q < length st.peers) ⊎ (length st.peers ≤ q) → q < length st.peers
  by (inl l) = l
  by (inr l) = absurd (let f : Old ≡ Ready = sym (ap (λ (p : Peer). p.engage.area) (get_or_past st.peers q (cold_peer Old) l)) ∙ e in cc)

-- what the known step for a partner makes of it: one that is no load of a copy has its word
pub made_for : (s : ScenarioPart) (st : State) (o : Option Marked) (q : ℕ) (m : PeerRule) (P : Peer → Type 0) → MayMake s st o → rule_by s st o ≡ Some (ForPeer q m) → q < length st.peers → ((a : Answer) → is_failed a ≡ fails_at s (mark_of s st (ForPeer q m)) → let f = peer_answered (here_of s st q) (mark_of s st (ForPeer q m)) (peer_of st q) m a in P (with_reason f.reason f.local)) → P (peer_of (after_step s st o) q)
made_for s st None q m P may e low makes = absurd (cc)
made_for s st (Some x) q m P may e low makes =
    let is = same may.rule (ForPeer q m) (sym may.decoded ∙ e) in
    let fine = may.fails ∙ ap (λ (y : Option CopyMark). fails_at s y) (may.mark ∙ ap (λ (r : Rule). mark_of s st r) is) in
    subst (λ (y : Option Rule). P (peer_of (after_ruled s st y x.step.answer) q)) (sym e) (subst P (sym (get_or-set_same st.peers q _ (cold_peer Old) low)) (makes x.step.answer fine))
  where
    same : (a b : Rule) → Some a ≡ Some b → a ≡ b
    same a b f = cc

-- turns of one boot throughout which something holds, with all that always holds
module _ (boot : ℕ) (C : State → Type 0) (s : ScenarioPart) (q : ℕ) (x : Spot s.part s.count q) where
  pub record Pacing (v : Visit Errand) (st : State) (ts : List Turn) : Type 0 where
    pub run : Run boot C s st ts
    pub paced : Paced (plan_of s) (whole s) v
    pub facts : Facts st
    pub tied : Tied s x.number q v st

  pub pacing_next : (v : Visit Errand) (st : State) (t : Turn) (ts : List Turn) → rule_made s (middle s st t) t ≡ (planned (plan_of s) v (middle s st t)).rule → Pacing v st (t ∷ ts) → Pacing (planned (plan_of s) v (middle s st t)).visit (after_turn s st t) ts
  pacing_next v st t ts e y =
      let later = first_holds (IsUp boot) s (after_turn s st t) ts y.run.up.2 in
      record {
        run = run_next boot C s st t ts y.run;
        paced = planned_paced (plan_of s) (whole s) v (middle s st t) y.paced;
        facts = facts_next s v st t y.paced y.run.runs.0 e y.facts;
        tied = tied_within s q x v st t (later.boot ∙ sym y.run.up.0.boot) y.paced y.run.runs.0 e y.tied;
      }

  -- a look that goes on has the turn before any other errand
  pub looks_aside : (e : Errand) → (errands.Look ≡ e → ⊥) → (v : Visit Errand) (st : State) (t : Turn) → Tied s x.number q v st → Aside (plan_of s) e v (middle s st t) ⊎ ((peer_of (middle s st t) q).paging ≡ [])
  looks_aside e other v st t tied = by (mid_tied s q x v st t tied) (is_paging (peer_of (middle s st t) q).paging) where
    is_paging : (words : List ℕ) → (words ≡ []) ⊎ (0 < length words)
    is_paging [] = inl refl
    is_paging (w ∷ ws) = inr (omega arith)

    by : Tied s x.number q v (middle s st t) → ((peer_of (middle s st t) q).paging ≡ []) ⊎ (0 < length (peer_of (middle s st t) q).paging) → Aside (plan_of s) e v (middle s st t) ⊎ ((peer_of (middle s st t) q).paging ≡ [])
    by d (inl none) = inr none
    by (inl none) (inr some) = inr none
    by (inr y) (inr some) = inl (record { place = x.number; errand = errands.Look; used = length (peer_of (middle s st t) q).paging; busy = y.busy; few = y.few; turn = Some (ForPeer q LookAtPage); asks = asks_on s q x (length (peer_of (middle s st t) q).paging) (middle s st t) y.life (inr some); other = λ i. absurd (other i) })

  -- and a planned step of another rule means that none goes on
  pub not_looking : (v : Visit Errand) (st : State) (t : Turn) (r : Rule) → Tied s x.number q v st → (planned (plan_of s) v (middle s st t)).rule ≡ Some r → (r ≡ ForPeer q LookAtPage → ⊥) → (peer_of (middle s st t) q).paging ≡ []
  not_looking v st t r tied e n = by (mid_tied s q x v st t tied) (is_paging (peer_of (middle s st t) q).paging) where
    is_paging : (words : List ℕ) → (words ≡ []) ⊎ (0 < length words)
    is_paging [] = inl refl
    is_paging (w ∷ ws) = inr (omega arith)

    same : (a b : Rule) → Some a ≡ Some b → a ≡ b
    same a b f = cc

    by : Tied s x.number q v (middle s st t) → ((peer_of (middle s st t) q).paging ≡ []) ⊎ (0 < length (peer_of (middle s st t) q).paging) → (peer_of (middle s st t) q).paging ≡ []
    by d (inl none) = none
    by (inl none) (inr some) = none
    by (inr y) (inr some) = absurd (n (same r (ForPeer q LookAtPage) (sym e ∙ (busy_turn (plan_of s) x.number errands.Look (length (peer_of (middle s st t) q).paging) v (middle s st t) (Some (ForPeer q LookAtPage)) y.busy y.few (asks_on s q x (length (peer_of (middle s st t) q).paging) (middle s st t) y.life (inr some))).0)))
