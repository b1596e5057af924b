-- An area isn't freed in a turn in which the partner's bit stands.
use Rattle.std.proofs.Common.{◌≡◌, ℕ, Bool, true, false, ◌&&◌, not, cond, eqb, List, [], ◌∷◌, ◌++◌, length, refl, ap, sym, ◌∙◌, subst, Option, Some, None}
use Rattle.std.specs.Prelude.{is_some}
use Rattle.std.specs.Int.{bit_at}
use Rattle.std.proofs.lemmas.Bool.{cond_both, eq-eqb}
use Rattle.xp_base.specs.declared.layout.TheConstants.{ENGAGED}
use Rattle.xp_base.specs.declared.reason.Reason.{Reason}
use Rattle.xp_base.specs.declared.reason.Reason.TheVariants.{OtherGoingDown}
use Rattle.xp_base.specs.declared.step.Answer.{Answer}
use Rattle.xp_base.specs.declared.step.Answer.TheVariants.{Word, Failed}
use Rattle.xp_base.specs.declared.step.Op.{Op}
use Rattle.xp_base.specs.declared.step.CopyMark.{CopyMark}
use Rattle.xp_base.specs.Memory.{Memory, word_at}
use Rattle.xp_base.specs.History.{Act, Marked, Turn, IsAnswer, IsAnswered}
use Rattle.xp_script.specs.declared.part.ScenarioPart.{ScenarioPart}
use Rattle.xp_protocol.specs.declared.rule.AreaWord.TheVariants.{SessionWord, EchoWord, PlaceWord, ArgsWord, FlagWord, CounterWord}
use Rattle.xp_protocol.specs.declared.rule.PeerRule.{PeerRule}
use Rattle.xp_protocol.specs.declared.rule.PeerRule.TheVariants.{AskActivation, TakeFlags, CloseArea, ZeroMagic, ClearOldBit, Prepare, OpenArea, SetEngagementBit, ReadRecord, StoreEcho, StoreSecond, ClearEngagementBit, LookAtPage, CheckBeat, ClearDeactivationBit, TellPartner}
use Rattle.xp_protocol.specs.declared.rule.OwnRule.TheVariants.{ReadEngaged, TakeDeactivation, ReadStamp, ZeroMask, ZeroOffline, WriteStamp, StoreMask, TakeActivation, StoreBeat, StoreOffline}
use Rattle.xp_protocol.specs.declared.rule.Rule.{Rule}
use Rattle.xp_protocol.specs.declared.rule.Rule.TheVariants.{Link, Peer as ForPeer, Own}
use Rattle.xp_protocol.specs.Acts.{Aim, aimed, with_aim, after_act, after_acts, command_begun}
use Rattle.xp_protocol.specs.Peering.{Here, is_bad_flags, flags_taken, is_magic, is_wrong, has_shown, with_reason, contact_made, try_contact, same_peer, record_read, area_left_for, area_off, is_left, is_flagged, peer_effect, peer_read, deactivation_heard, peer_failed, booted_peer}
use Rattle.xp_protocol.specs.Rules.{here_of, mark_of, peer_numbered, after_answer, op_of}
use Rattle.xp_protocol.specs.Runs.{MayMake, May, acted, after_ruled, after_step, after_turn, moment_by, restart_comes, stop_comes, is_over, turn_counted}
use Rattle.xp_protocol.specs.State.{State, Old, Off, Reading, Peer, cold_peer, peer_of}
use Rattle.xp_protocol.proofs.Frames.{cond_peer, wanted_at}
use Rattle.xp_protocol.proofs.Slots.{at_each, at_peer}

-- the area for a partner isn't free
abbrev Taken : Peer → Type 0
Taken p = p.engage.area ≡ Off → ⊥

module _ (y : Here) where
  meets : (x : Peer) → Taken x → Taken (try_contact y.turn y.stamp x).local
  meets x k = cond_peer Taken (x.engage.second && (x.engage.shown && not (is_some x.contact))) (contact_made y.turn y.stamp x) (same_peer x) k k

  reads : (p : Peer) (o : Option Reading) (v : ℕ) → Taken p → Taken (record_read y p o v).local
  reads p None v h = cond_peer Taken (eqb v 0) _ _ h (cond_peer Taken (is_magic v) _ _ h h)
  reads p (Some r) v h =
      cond_peer Taken (eqb r.done 1) _ _ h (cond_peer Taken (eqb r.done 2) _ _ h (cond_peer Taken (eqb r.done 7) _ _ (cond_peer Taken (has_shown y.stamp p.engage r) _ _ (meets (record p { engage = record p.engage { shown = true; reading = None } }) h) h) (cond_peer Taken (is_wrong y.part r.done v) _ _ h h)))

  leaves : (p : Peer) (o : Option Reason) → Taken p → Taken (area_left_for o p).local
  leaves p None h = h
  leaves p (Some reason) h = λ e. absurd (cc)

  peer_taken : (p : Peer) (m : PeerRule) (v : ℕ) → Taken p → Taken (peer_effect y p m v).local
  peer_taken p AskActivation v h = h
  peer_taken p TakeFlags v h = cond_peer Taken (is_bad_flags v) _ (flags_taken v p) h h
  peer_taken p CloseArea v h = leaves p p.engage.reason h
  peer_taken p ZeroMagic v h = h
  peer_taken p ClearOldBit v h = h
  peer_taken p (Prepare SessionWord) v h = h
  peer_taken p (Prepare EchoWord) v h = h
  peer_taken p (Prepare FlagWord) v h = h
  peer_taken p (Prepare (PlaceWord x)) v h = h
  peer_taken p (Prepare (ArgsWord c f)) v h = h
  peer_taken p (Prepare (CounterWord c f)) v h = h
  peer_taken p OpenArea v h = λ e. absurd (cc)
  peer_taken p SetEngagementBit v h = h
  peer_taken p ReadRecord v h = reads p p.engage.reading v h
  peer_taken p StoreEcho v h = h
  peer_taken p StoreSecond v h = meets (record p { engage = record p.engage { second = true } }) h
  peer_taken p ClearEngagementBit v h = h
  peer_taken p LookAtPage v h = cond_peer Taken (eqb (length (p.paging ++ v ∷ [])) 5) _ _ h h
  peer_taken p CheckBeat v h = h
  peer_taken p ClearDeactivationBit v h = h
  peer_taken p TellPartner v h = h

  numbered_taken : (mark : Option CopyMark) (p : Peer) (m : PeerRule) (v : ℕ) → Taken p → Taken (peer_effect y (peer_numbered mark p) m v).local
  numbered_taken None p m v h = peer_taken p m v h
  numbered_taken (Some mark) p m v h = peer_taken (peer_numbered (Some mark) p) m v h

failed_taken : (turn : ℕ) (mark : Option CopyMark) (p : Peer) → Taken p → Taken (peer_failed turn mark p)
failed_taken turn None p h = h
failed_taken turn (Some mark) p h = h

-- the partner's bit is seen
seen_taken : (p : Peer) (v q : ℕ) → bit_at v q ≡ 1 → Taken p → Taken (peer_read v q p).local
seen_taken p v q bit h = subst (λ (b : Bool). Taken (cond b (area_off p) (same_peer p)).local) (sym (shut (is_left p.engage) (is_flagged v q) (eq-eqb (bit_at v q) 1 bit))) h where
  shut : (a b : Bool) → b ≡ true → (a && not b) ≡ false
  shut true true e = refl
  shut false true e = refl
  shut a false e = absurd (cc)

told_taken : (p : Peer) (v q : ℕ) → Taken p → Taken (deactivation_heard v q p).local
told_taken p v q h = cond_both (is_some p.engage.echo && is_flagged v q) (with_reason (Some (OtherGoingDown v)) p) p Taken (λ e. h) (λ e. h)

module _ (su : ScenarioPart) (q : ℕ) where
  abbrev pub Stays : State → Type 0
  Stays st = Taken (peer_of st q)

  -- the own engagement word is loaded with the partner's bit
  abbrev Sees : Rule → Answer → Type 0
  Sees (Own ReadEngaged) (Word v) = bit_at v q ≡ 1
  Sees r a = Unit {0}

  ruled : (st : State) (r : Rule) (a : Answer) → Sees r a → (length st.peers ≡ length st.peers) → Stays st → Stays (after_answer su st r a)
  ruled st (Link k d m) a sees n h = at_peer Taken st.peers k _ q (λ e. subst (λ (j : ℕ). Taken (peer_of st j)) e h) h
  ruled st (ForPeer k m) (Word v) sees n h = at_peer Taken st.peers k _ q (λ e. numbered_taken (here_of su st k) (mark_of su st (ForPeer k m)) (peer_of st k) m v (subst (λ (j : ℕ). Taken (peer_of st j)) e h)) h
  ruled st (ForPeer k m) Failed sees n h = at_peer Taken st.peers k _ q (λ e. failed_taken (here_of su st k).turn (mark_of su st (ForPeer k m)) (peer_of st k) (subst (λ (j : ℕ). Taken (peer_of st j)) e h)) h
  ruled st (Own ReadEngaged) (Word v) sees n h = at_each Taken (λ j p. (peer_read v j p).local) st.peers q (cold_peer Old) (seen_taken (peer_of st q) v q sees h) (λ l e. absurd (cc))
  ruled st (Own TakeDeactivation) (Word v) sees n h = at_each Taken (λ j p. (deactivation_heard v j p).local) st.peers q (cold_peer Old) (told_taken (peer_of st q) v q h) (λ l e. absurd (cc))
  ruled st (Own ReadStamp) (Word v) sees n h = h
  ruled st (Own ZeroMask) (Word v) sees n h = h
  ruled st (Own ZeroOffline) (Word v) sees n h = h
  ruled st (Own WriteStamp) (Word v) sees n h = h
  ruled st (Own StoreMask) (Word v) sees n h = h
  ruled st (Own TakeActivation) (Word v) sees n h = h
  ruled st (Own StoreBeat) (Word v) sees n h = h
  ruled st (Own StoreOffline) (Word v) sees n h = h
  ruled st (Own m) Failed sees n h = h

  aimed_stays : (st : State) (x : Option Aim) → Stays st → Stays (with_aim x st)
  aimed_stays st None h = h
  aimed_stays st (Some y) h = at_peer Taken st.peers y.partner _ q (λ e. subst (λ (j : ℕ). Taken (peer_of st j)) e h) h

  acts_stay : (st : State) (xs : List Act) → Stays st → Stays (after_acts su st xs)
  acts_stay st [] h = h
  acts_stay st (x ∷ xs) h =
      let y = with_aim (aimed su st x) st in
      acts_stay (after_act su st x) xs (wanted_at Taken (command_begun su st x) y.peers q (λ p k. k) (λ p k. k) (aimed_stays st (aimed su st x) h))

  -- the word that a load of the own engagement word gives
  sees_by : (m : Memory) (st : State) (r : Rule) (a : Answer) → bit_at (word_at m su.part ENGAGED) q ≡ 1 → IsAnswer m (op_of su st r) a → Sees r a
  sees_by m st (Own ReadEngaged) (Word v) bit i = ap (λ (x : ℕ). bit_at x q) i ∙ bit
  sees_by m st (Own ReadEngaged) Failed bit i = tt
  sees_by m st (Own TakeDeactivation) (Word v) bit i = tt
  sees_by m st (Own TakeDeactivation) Failed bit i = tt
  sees_by m st (Own ReadStamp) (Word v) bit i = tt
  sees_by m st (Own ReadStamp) Failed bit i = tt
  sees_by m st (Own ZeroMask) (Word v) bit i = tt
  sees_by m st (Own ZeroMask) Failed bit i = tt
  sees_by m st (Own ZeroOffline) (Word v) bit i = tt
  sees_by m st (Own ZeroOffline) Failed bit i = tt
  sees_by m st (Own WriteStamp) (Word v) bit i = tt
  sees_by m st (Own WriteStamp) Failed bit i = tt
  sees_by m st (Own StoreMask) (Word v) bit i = tt
  sees_by m st (Own StoreMask) Failed bit i = tt
  sees_by m st (Own TakeActivation) (Word v) bit i = tt
  sees_by m st (Own StoreBeat) (Word v) bit i = tt
  sees_by m st (Own StoreOffline) (Word v) bit i = tt
  sees_by m st (Own TakeActivation) Failed bit i = tt
  sees_by m st (Own StoreBeat) Failed bit i = tt
  sees_by m st (Own StoreOffline) Failed bit i = tt
  sees_by m st (Link k c x) a bit i = tt
  sees_by m st (ForPeer k x) a bit i = tt

  made_stays : (m : Memory) (st : State) (o : Option Marked) → bit_at (word_at m su.part ENGAGED) q ≡ 1 → MayMake su st o → IsAnswered m o → Stays st → Stays (after_step su st o)
  made_stays m st None bit may i h = h
  made_stays m st (Some x) bit may i h =
      let A : Op → Type 0 = λ op. IsAnswer m op x.step.answer in
      let P : Option Rule → Type 0 = λ o. Stays (after_ruled su st o x.step.answer) in
      subst P (sym may.decoded) (ruled st may.rule x.step.answer (sees_by m st may.rule x.step.answer bit (subst A may.op i)) refl h)

  moment_stays : (st : State) (b stops : Bool) → Stays st → Stays (moment_by su b stops st)
  moment_stays st true stops h = at_each Taken (λ j p. booted_peer p) st.peers q (cold_peer Old) (λ e. absurd (cc)) (λ l e. absurd (cc))
  moment_stays st false true h = h
  moment_stays st false false h = h

  pub turn_stays : (m : Memory) (st : State) (t : Turn) → bit_at (word_at m su.part ENGAGED) q ≡ 1 → May su st t → IsAnswered m t.made → Stays st → Stays (after_turn su st t)
  turn_stays m st t bit may i h =
      let a = acts_stay st t.before h in
      let b = made_stays m (after_acts su st t.before) t.made bit may.made i a in
      let c = acts_stay (after_step su (after_acts su st t.before) t.made) t.after b in
      let now = turn_counted (acted su st t) in
      moment_stays now (restart_comes su st.clock.puts now && not (is_over now)) (stop_comes su st.clock.puts now && not (is_over now)) c
