-- A partition's own magic for a partner and its bit there are what it knows of them, and what each step leaves of that.
use Rattle.std.proofs.Common.{◌≡◌, ℕ, ◌+◌, ◌<◌, Bool, true, false, ◌&&◌, not, cond, eqb, ltb, [], ◌∷◌, ◌++◌, length, refl, ap, sym, ◌∙◌, subst, arith, Option, Some, None, inl, inr, ◌⊎◌}
use Rattle.std.specs.Prelude.{is_some, IsSome}
use Rattle.std.proofs.lemmas.Bool.{cases_eq, cond_both, ne_eqb}
use Rattle.xp_base.specs.declared.layout.TheConstants.{FIRST, SECOND, STAMP, ENGAGED, DEACTIVATION}
use Rattle.xp_base.specs.declared.reason.Reason.{Reason}
use Rattle.xp_base.specs.declared.reason.Reason.TheVariants.{OtherGoingDown}
use Rattle.xp_base.specs.declared.step.Answer.TheVariants.{Word, Failed}
use Rattle.xp_base.specs.declared.step.CopyMark.{CopyMark}
use Rattle.xp_base.specs.History.{Act}
use Rattle.xp_base.specs.Places.{Open}
use Rattle.xp_script.specs.declared.part.ScenarioPart.{ScenarioPart}
use Rattle.xp_script.specs.declared.scenario.Scenario.{Scenario}
use Rattle.xp_script.specs.Parts.{part_of}
use Rattle.xp_protocol.specs.declared.rule.AreaWord.TheVariants.{SessionWord, EchoWord, PlaceWord, ArgsWord, FlagWord, CounterWord}
use Rattle.xp_protocol.specs.declared.rule.PeerRule.{PeerRule}
use Rattle.xp_protocol.specs.declared.rule.PeerRule.TheVariants.{AskActivation, TakeFlags, CloseArea, ZeroMagic, ClearOldBit, Prepare, OpenArea, SetEngagementBit, ReadRecord, StoreEcho, StoreSecond, ClearEngagementBit, LookAtPage, CheckBeat, ClearDeactivationBit, TellPartner}
use Rattle.xp_protocol.specs.declared.rule.OwnRule.TheVariants.{ReadEngaged, TakeDeactivation, ReadStamp, ZeroMask, ZeroOffline, WriteStamp, StoreMask, TakeActivation, StoreBeat, StoreOffline}
use Rattle.xp_protocol.specs.declared.rule.Rule.{Rule}
use Rattle.xp_protocol.specs.declared.rule.Rule.TheVariants.{Link, Peer as ForPeer, Own}
use Rattle.xp_protocol.specs.Acts.{Aim, aimed, with_aim, after_act, command_begun}
use Rattle.xp_protocol.specs.Parts.{IsLawfulPart}
use Rattle.xp_protocol.specs.Peering.{or_zero, Here, is_bad_flags, flags_taken, is_magic, is_wrong, has_shown, with_reason, contact_made, try_contact, same_peer, record_read, area_left_for, area_off, is_left, is_flagged, peer_can, peer_effect, peer_read, deactivation_heard, peer_failed, booted_peer}
use Rattle.xp_protocol.specs.Rules.{Can, here_of, peer_life, mark_of, peer_numbered, after_answer}
use Rattle.xp_protocol.specs.Runs.{turned, restart_comes, stop_comes, moment_by, is_over}
use Rattle.xp_protocol.specs.State.{State, Life, Booting, Up, Halted, Area, Old, Ready, Reading, Peer, cold_peer, peer_of}
use Rattle.xp_protocol.proofs.Frames.{cond_peer, wanted_at}
use Rattle.xp_protocol.proofs.Slots.{at_each, at_peer}
use Rattle.xp_meetings.proofs.Always.{at_one, one_here, does_rule, answer_word}
use Rattle.xp_meetings.proofs.Meets.{Met, six_after, can_numbered, peer_cases, peer_else, peer_six, link_six, away, keeps_rule as met_rule, keeps_failed as met_failed, keeps_act as met_act, keeps_moment as met_moment}
use Rattle.xp_meetings.proofs.Parts.{Part, part_act, part_ruled, part_moment}
use Rattle.xp_meetings.proofs.Six.{Six, six, six_stamp}
use Rattle.xp_meetings.proofs.Ties.{Known, known, stamp_by}
use Rattle.xp_meetings.proofs.Words.{Words}

-- how a partition stands to a partner, its magic for it and its bit there
pub record Clear (life : Life) (area : Area) (inside second cleared : Bool) (magic bit : ℕ) : Type 0 where
  pub clear : cleared ≡ true → inside ≡ false → bit ≡ 0
  pub up : life ≡ Up → cleared ≡ true
  pub shows : area ≡ Ready → magic ≡ cond second SECOND FIRST

abbrev pub ClearAt : Life → Peer → Six → Type 0
ClearAt life p z = Clear life p.engage.area p.engage.bit p.engage.second p.engage.cleared z.magic z.bit

module _ (y : Here) (z : Six) where
  shut : (life : Life) (area : Area) (inside second cleared : Bool) (magic magic' bit : ℕ) → (area ≡ Ready → ⊥) → Clear life area inside second cleared magic bit → Clear life area inside second cleared magic' bit
  shut life area inside second cleared magic magic' bit n h = record { clear = h.clear; up = h.up; shows = λ r. absurd (n r) }

  read_clear : (la : Life) (p : Peer) (o : Option Reading) (v : ℕ) → ClearAt la p z → ClearAt la (record_read y p o v).local z
  read_clear la p None v h = cond_peer P (eqb v 0) _ _ h (cond_peer P (is_magic v) _ _ h h) where
    P : Peer → Type 0
    P x = ClearAt la x z
  read_clear la p (Some r) v h =
      cond_peer P (eqb r.done 1) _ _ h (cond_peer P (eqb r.done 2) _ _ h (cond_peer P (eqb r.done 7) _ _ (cond_peer P (has_shown y.stamp p.engage r) _ _ (meets (record p { engage = record p.engage { shown = true; reading = None } }) h) h) (cond_peer P (is_wrong y.part r.done v) _ _ h h)))
    where
      P : Peer → Type 0
      P x = ClearAt la x z

      meets : (x : Peer) → P x → P (try_contact y.turn y.stamp x).local
      meets x k = cond_peer P (x.engage.second && (x.engage.shown && not (is_some x.contact))) (contact_made y.turn y.stamp x) (same_peer x) k k

  left_clear : (la : Life) (p : Peer) (o : Option Reason) → IsSome o → ClearAt la p z → ClearAt la (area_left_for o p).local (record z { magic = 0 })
  left_clear la p None i h = absurd (cc)
  left_clear la p (Some reason) i h = record { clear = h.clear; up = h.up; shows = λ r. absurd (cc) }

  peer_clear : (la : Life) (p : Peer) (m : PeerRule) (v : ℕ) → la ≡ peer_life m → ((la ≡ Up → ⊥) → p.engage.area ≡ Old) → peer_can y p m → ClearAt la p z → ClearAt la (peer_effect y p m v).local (six_after m (known (stamp_by la z.stamp) p.engage) z)
  peer_clear la p AskActivation v u down can h = h
  peer_clear la p TakeFlags v u down can h = cond_peer (λ (x : Peer). ClearAt la x z) (is_bad_flags v) _ (flags_taken v p) h h
  peer_clear la p CloseArea v u down can h = left_clear la p p.engage.reason can.1 h
  peer_clear la p ZeroMagic v u down can h = shut la p.engage.area p.engage.bit p.engage.second p.engage.cleared z.magic 0 z.bit (λ r. (let o = down (λ f. (let t : Up ≡ Booting = sym f ∙ u in absurd (cc))) in let t : Old ≡ Ready = sym o ∙ r in absurd (cc))) h
  peer_clear la p ClearOldBit v u down can h = record { clear = λ a b. refl; up = λ f. refl; shows = h.shows }
  peer_clear la p (Prepare SessionWord) v u down can h = h
  peer_clear la p (Prepare EchoWord) v u down can h = h
  peer_clear la p (Prepare FlagWord) v u down can h = h
  peer_clear la p (Prepare (PlaceWord x)) v u down can h = h
  peer_clear la p (Prepare (ArgsWord c f)) v u down can h = h
  peer_clear la p (Prepare (CounterWord c f)) v u down can h = h
  peer_clear la p OpenArea v u down can h = record { clear = h.clear; up = h.up; shows = λ r. refl }
  peer_clear la p SetEngagementBit v u down can h = record { clear = λ a b. absurd (cc); up = h.up; shows = h.shows }
  peer_clear la p ReadRecord v u down can h = read_clear la p p.engage.reading v h
  peer_clear la p StoreEcho v u down can h = h
  peer_clear la p StoreSecond v u down can h =
      let x : Peer = record p { engage = record p.engage { second = true } } in
      let new : ClearAt la x (record z { magic = SECOND }) = record { clear = h.clear; up = h.up; shows = λ r. refl } in
      cond_peer (λ (k : Peer). ClearAt la k (record z { magic = SECOND })) (x.engage.second && (x.engage.shown && not (is_some x.contact))) (contact_made y.turn y.stamp x) (same_peer x) new new
  peer_clear la p ClearEngagementBit v u down can h = record { clear = λ a b. refl; up = h.up; shows = h.shows }
  peer_clear la p LookAtPage v u down can h = cond_peer (λ (x : Peer). ClearAt la x z) (eqb (length (p.paging ++ v ∷ [])) 5) _ _ h h
  peer_clear la p CheckBeat v u down can h = h
  peer_clear la p ClearDeactivationBit v u down can h = h
  peer_clear la p TellPartner v u down can h = h

  numbered_clear : (la : Life) (mark : Option CopyMark) (p : Peer) (m : PeerRule) (v : ℕ) → la ≡ peer_life m → ((la ≡ Up → ⊥) → p.engage.area ≡ Old) → peer_can y p m → ClearAt la p z → ClearAt la (peer_effect y (peer_numbered mark p) m v).local (six_after m (known (stamp_by la z.stamp) p.engage) z)
  numbered_clear la None p m v u down can h = peer_clear la p m v u down can h
  numbered_clear la (Some mark) p m v u down can h = peer_clear la (peer_numbered (Some mark) p) m v u down (can_numbered y (Some mark) p m can) h

  failed_clear : (la : Life) (mark : Option CopyMark) (p : Peer) → ClearAt la p z → ClearAt la (peer_failed y.turn mark p) z
  failed_clear la None p h = h
  failed_clear la (Some mark) p h = h

  freed_clear : (la : Life) (p : Peer) (v q : ℕ) → ClearAt la p z → ClearAt la (peer_read v q p).local z
  freed_clear la p v q h = cond_peer (λ (x : Peer). ClearAt la x z) (is_left p.engage && not (is_flagged v q)) (area_off p) (same_peer p) (record { clear = h.clear; up = h.up; shows = λ r. absurd (cc) }) h

  told_clear : (la : Life) (p : Peer) (v q : ℕ) → ClearAt la p z → ClearAt la (deactivation_heard v q p).local z
  told_clear la p v q h = cond_both (is_some p.engage.echo && is_flagged v q) (with_reason (Some (OtherGoingDown v)) p) p (λ (x : Peer). ClearAt la x z) (λ e. h) (λ e. h)

  boot_clear : (la : Life) (p : Peer) → ClearAt la p z → ClearAt Booting (booted_peer p) z
  boot_clear la p h = record { clear = λ a. absurd (cc); up = λ a. absurd (cc); shows = λ r. absurd (cc) }

-- a step for a partner leaves the partner's magic and bit
theirs_kept : (m : PeerRule) (x : Known) (z : Six) → ((six_after m x z).their_magic ≡ z.their_magic) × ((six_after m x z).their_bit ≡ z.their_bit)
theirs_kept ZeroMagic x z = (refl, refl)
theirs_kept ClearOldBit x z = (refl, refl)
theirs_kept (Prepare SessionWord) x z = (refl, refl)
theirs_kept (Prepare EchoWord) x z = (refl, refl)
theirs_kept (Prepare FlagWord) x z = (refl, refl)
theirs_kept (Prepare (PlaceWord k)) x z = (refl, refl)
theirs_kept (Prepare (ArgsWord c f)) x z = (refl, refl)
theirs_kept (Prepare (CounterWord c f)) x z = (refl, refl)
theirs_kept OpenArea x z = (refl, refl)
theirs_kept SetEngagementBit x z = (refl, refl)
theirs_kept StoreEcho x z = (refl, refl)
theirs_kept StoreSecond x z = (refl, refl)
theirs_kept ClearEngagementBit x z = (refl, refl)
theirs_kept CloseArea x z = (refl, refl)
theirs_kept AskActivation x z = (refl, refl)
theirs_kept TakeFlags x z = (refl, refl)
theirs_kept ReadRecord x z = (refl, refl)
theirs_kept LookAtPage x z = (refl, refl)
theirs_kept CheckBeat x z = (refl, refl)
theirs_kept ClearDeactivationBit x z = (refl, refl)
theirs_kept TellPartner x z = (refl, refl)

-- all partitions
pub record AllClear (n : ℕ) (w : Words) (σ : ℕ → Part) : Type 0 where
  pub met : Met n w σ
  pub clear : (p q : ℕ) → p < n → q < n → (p ≡ q → ⊥) → ClearAt (σ p).state.life (peer_of (σ p).state q) (six w p q)

module _ (s : Scenario) (lawful : (p : ℕ) → p < s.count → IsLawfulPart (part_of s p)) where
  module _ (w : Words) (σ : ℕ → Part) (a : ℕ) (la : a < s.count) (all : AllClear s.count w σ) where
    abbrev su : ScenarioPart
    su = part_of s a

    abbrev st : State
    st = (σ a).state

    abbrev words_after : Rule → Words
    words_after r = does_rule su st r w

    old : (q : ℕ) → q < s.count → (q ≡ a → ⊥) → ClearAt st.life (peer_of st q) (six w a q)
    old q l d = all.clear a q la l (λ e. d (sym e))

    down : (q : ℕ) → q < s.count → (q ≡ a → ⊥) → (st.life ≡ Up → ⊥) → (peer_of st q).engage.area ≡ Old
    down q l d = (all.met.both a q la l (λ e. d (sym e))).own.down

    -- the mover's own facts after a rule
    abbrev After : Rule → ℕ → Type 0
    After r q = ClearAt (after_answer su st r (Word (answer_word su st r w))).life (peer_of (after_answer su st r (Word (answer_word su st r w))) q) (six (words_after r) a q)

    ruled : (r : Rule) → Can su st r → (q : ℕ) → q < s.count → (q ≡ a → ⊥) → After r q
    ruled (Link k d m) can q l n =
        let P : Peer → Type 0 = λ p. ClearAt st.life p (six (words_after (Link k d m)) a q) in
        let h : P (peer_of st q) = subst (λ (z : Six). ClearAt st.life (peer_of st q) z) (sym (link_six s lawful w σ a la all.met k d m q)) (old q l n) in
        at_peer P st.peers k _ q (λ e. subst (λ (j : ℕ). P (peer_of st j)) e h) h
    ruled (ForPeer k m) can q l n =
        let r = ForPeer k m in
        let mark = mark_of su st r in
        let v = answer_word su st r w in
        let lk = can.1.0.low in
        let nk = can.1.0.other in
        let P : ℕ → Peer → Type 0 = λ j x. ClearAt st.life x (six (words_after r) a j) in
        peer_cases P st.peers k _ q (all.met.all a la).partners lk
        (subst (λ (z : Six). ClearAt st.life (peer_effect (here_of su st k) (peer_numbered mark (peer_of st k)) m v).local z) (sym (peer_six s lawful w σ a la all.met k m lk nk can.0)) (numbered_clear (here_of su st k) (six w a k) st.life mark (peer_of st k) m v can.0 (down k lk nk) can.1.1 (old k lk nk)))
        (λ o. subst (λ (z : Six). ClearAt st.life (peer_of st q) z) (sym (peer_else s lawful w σ a la all.met k m q l n o)) (old q l n))
    ruled (Own ReadEngaged) can q l n =
        let v = w a (Open ENGAGED) in
        at_each (λ (p : Peer). ClearAt st.life p (six w a q)) (λ j p. (peer_read v j p).local) st.peers q (cold_peer Old) (freed_clear (here_of su st q) (six w a q) st.life (peer_of st q) v q (old q l n)) (λ f. absurd (omega (arith, f, l, (all.met.all a la).partners)))
    ruled (Own TakeDeactivation) can q l n =
        let v = w a (Open DEACTIVATION) in
        at_each (λ (p : Peer). ClearAt st.life p (six w a q)) (λ j p. (deactivation_heard v j p).local) st.peers q (cold_peer Old) (told_clear (here_of su st q) (six w a q) st.life (peer_of st q) v q (old q l n)) (λ f. absurd (omega (arith, f, l, (all.met.all a la).partners)))
    ruled (Own StoreMask) can q l n = old q l n
    ruled (Own TakeActivation) can q l n = old q l n
    ruled (Own StoreBeat) can q l n = old q l n
    ruled (Own StoreOffline) can q l n = old q l n
    ruled (Own ZeroMask) can q l n = old q l n
    ruled (Own ZeroOffline) can q l n = old q l n
    ruled (Own ReadStamp) can q l n = halts (ltb (w a (Open STAMP)) 4294967295) where
      P : Life → Type 0
      P y = ClearAt y (peer_of st q) (six w a q)

      halts : (b : Bool) → P (cond b st.life Halted)
      halts true = old q l n
      halts false = record { clear = (old q l n).clear; up = λ f. absurd (cc); shows = (old q l n).shows }
    ruled (Own WriteStamp) can q l n = subst (λ (z : Six). ClearAt Up (peer_of st q) z) (sym (six_stamp w a (or_zero st.boot.read + 1) q n)) (record { clear = (old q l n).clear; up = λ f. (can.1.3 q l n).1; shows = (old q l n).shows })

    -- another partition's facts after a rule of a
    other : (r : Rule) → Can su st r → (p : ℕ) → p < s.count → (p ≡ a → ⊥) → ((six (words_after r) a p).their_magic ≡ (six w a p).their_magic) × ((six (words_after r) a p).their_bit ≡ (six w a p).their_bit)
    other (Link k d m) can p l n = let e = link_six s lawful w σ a la all.met k d m p in (ap (λ (z : Six). z.their_magic) e, ap (λ (z : Six). z.their_bit) e)
    other (ForPeer k m) can p l n = by (cases_eq p k) where
      by : (p ≡ k) ⊎ (p ≡ k → ⊥) → ((six (words_after (ForPeer k m)) a p).their_magic ≡ (six w a p).their_magic) × ((six (words_after (ForPeer k m)) a p).their_bit ≡ (six w a p).their_bit)
      by (inl e) =
          let z = peer_six s lawful w σ a la all.met k m can.1.0.low can.1.0.other can.0 in
          let t = theirs_kept m (known (stamp_by st.life (w a (Open STAMP))) (peer_of st k).engage) (six w a k) in
          subst (λ (j : ℕ). ((six (words_after (ForPeer k m)) a j).their_magic ≡ (six w a j).their_magic) × ((six (words_after (ForPeer k m)) a j).their_bit ≡ (six w a j).their_bit)) (sym e) (ap (λ (x : Six). x.their_magic) z ∙ t.0, ap (λ (x : Six). x.their_bit) z ∙ t.1)
      by (inr d) = let e = peer_else s lawful w σ a la all.met k m p l n d in (ap (λ (z : Six). z.their_magic) e, ap (λ (z : Six). z.their_bit) e)
    other (Own ReadEngaged) can p l n = (refl, refl)
    other (Own TakeDeactivation) can p l n = (refl, refl)
    other (Own ReadStamp) can p l n = (refl, refl)
    other (Own ZeroMask) can p l n = (refl, refl)
    other (Own ZeroOffline) can p l n = (refl, refl)
    other (Own WriteStamp) can p l n = let e = six_stamp w a (or_zero st.boot.read + 1) p n in (ap (λ (z : Six). z.their_magic) e, ap (λ (z : Six). z.their_bit) e)
    other (Own StoreMask) can p l n = (refl, refl)
    other (Own TakeActivation) can p l n = (refl, refl)
    other (Own StoreBeat) can p l n = (refl, refl)
    other (Own StoreOffline) can p l n = (refl, refl)

    -- one partition moves
    module _ (w' : Words) (k : Part) (met' : Met s.count w' (at_one σ a k))
        (here : (q : ℕ) → q < s.count → (q ≡ a → ⊥) → ClearAt k.state.life (peer_of k.state q) (six w' a q))
        (there : (p : ℕ) → p < s.count → (p ≡ a → ⊥) → ((six w' a p).their_magic ≡ (six w a p).their_magic) × ((six w' a p).their_bit ≡ (six w a p).their_bit))
        (far : (p q : ℕ) → p < s.count → q < s.count → (p ≡ a → ⊥) → (q ≡ a → ⊥) → six w' p q ≡ six w p q) where
      abbrev Goal : ℕ → Part → ℕ → Type 0
      Goal p x q = ClearAt x.state.life (peer_of x.state q) (six w' p q)

      still : (p q : ℕ) → p < s.count → q < s.count → (p ≡ q → ⊥) → (p ≡ a → ⊥) → (q ≡ a) ⊎ (q ≡ a → ⊥) → Goal p (σ p) q
      still p q l m d n (inr o) = subst (λ (z : Six). ClearAt (σ p).state.life (peer_of (σ p).state q) z) (sym (far p q l m n o)) (all.clear p q l m d)
      still p q l m d n (inl e) =
          let t = there p l n in
          let h : Clear (σ p).state.life (peer_of (σ p).state a).engage.area (peer_of (σ p).state a).engage.bit (peer_of (σ p).state a).engage.second (peer_of (σ p).state a).engage.cleared (six w a p).their_magic (six w a p).their_bit = all.clear p a l la n in
          let P : ℕ → ℕ → Type 0 = λ x y. Clear (σ p).state.life (peer_of (σ p).state a).engage.area (peer_of (σ p).state a).engage.bit (peer_of (σ p).state a).engage.second (peer_of (σ p).state a).engage.cleared x y in
          subst (λ (j : ℕ). Goal p (σ p) j) (sym e) (subst (λ (x : ℕ). P x (six w' a p).their_bit) (sym t.0) (subst (λ (y : ℕ). P (six w a p).their_magic y) (sym t.1) h))

      by : (p q : ℕ) → p < s.count → q < s.count → (p ≡ q → ⊥) → (p ≡ a) ⊎ (p ≡ a → ⊥) → Goal p (at_one σ a k p) q
      by p q l m d (inl e) = subst (λ (j : ℕ). Goal j (at_one σ a k j) q) (sym e) (subst (λ (x : Part). Goal a x q) (sym (one_here σ a k)) (here q m (λ f. d (e ∙ sym f))))
      by p q l m d (inr n) = subst (λ (x : Part). Goal p x q) (sym (far_part p n)) (still p q l m d n (cases_eq q a)) where
        far_part : (p : ℕ) → (p ≡ a → ⊥) → at_one σ a k p ≡ σ p
        far_part p n = rw (ne_eqb a p (λ e. n (sym e))) refl

      pub moved_clear : AllClear s.count w' (at_one σ a k)
      moved_clear = record { met = met'; clear = λ p q l m d. by p q l m d (cases_eq p a) }

    pub clear_rule : (r : Rule) → Can su st r → AllClear s.count (words_after r) (at_one σ a (part_ruled su (σ a) r (Word (answer_word su st r w))))
    clear_rule r can = moved_clear (words_after r) (part_ruled su (σ a) r (Word (answer_word su st r w))) (met_rule s lawful w σ a la all.met r can) (λ q l n. ruled r can q l n) (λ p l n. other r can p l n) (λ p q l m n o. away s lawful w σ a la all.met r p q l m n o)

    failed_ruled : (r : Rule) (q : ℕ) → q < s.count → (q ≡ a → ⊥) → ClearAt (after_answer su st r Failed).life (peer_of (after_answer su st r Failed) q) (six w a q)
    failed_ruled (Link k d m) q l n =
        let P : Peer → Type 0 = λ p. ClearAt st.life p (six w a q) in
        at_peer P st.peers k _ q (λ e. subst (λ (j : ℕ). P (peer_of st j)) e (old q l n)) (old q l n)
    failed_ruled (ForPeer k m) q l n =
        let P : Peer → Type 0 = λ p. ClearAt st.life p (six w a q) in
        let mark = mark_of su st (ForPeer k m) in
        at_peer P st.peers k _ q (λ e. subst (λ (j : ℕ). P (peer_failed (here_of su st k).turn mark (peer_of st j))) e (failed_clear (here_of su st k) (six w a q) st.life mark (peer_of st q) (old q l n))) (old q l n)
    failed_ruled (Own m) q l n = old q l n

    same_words : (p : ℕ) → ((six w a p).their_magic ≡ (six w a p).their_magic) × ((six w a p).their_bit ≡ (six w a p).their_bit)
    same_words p = (refl, refl)

    pub clear_failed : (r : Rule) → Can su st r → AllClear s.count w (at_one σ a (part_ruled su (σ a) r Failed))
    clear_failed r can = moved_clear w (part_ruled su (σ a) r Failed) (met_failed s lawful w σ a la all.met r can) (λ q l n. failed_ruled r q l n) (λ p l n. same_words p) (λ p q l m n o. refl)

    aimed_at : (x : Option Aim) (q : ℕ) → q < s.count → (q ≡ a → ⊥) → ClearAt (with_aim x st).life (peer_of (with_aim x st) q) (six w a q)
    aimed_at None q l n = old q l n
    aimed_at (Some y) q l n =
        let P : Peer → Type 0 = λ p. ClearAt st.life p (six w a q) in
        at_peer P st.peers y.partner _ q (λ e. subst (λ (j : ℕ). P (peer_of st j)) e (old q l n)) (old q l n)

    acted_at : (x : Act) (q : ℕ) → q < s.count → (q ≡ a → ⊥) → (let y = after_act su st x in ClearAt y.life (peer_of y q) (six w a q))
    acted_at x q l n =
        let y = with_aim (aimed su st x) st in
        wanted_at (λ (p : Peer). ClearAt y.life p (six w a q)) (command_begun su st x) y.peers q (λ p k. k) (λ p k. k) (aimed_at (aimed su st x) q l n)

    pub clear_act : (x : Act) → AllClear s.count w (at_one σ a (part_act su (σ a) x))
    clear_act x = moved_clear w (part_act su (σ a) x) (met_act s lawful w σ a la all.met x) (λ q l n. acted_at x q l n) (λ p l n. same_words p) (λ p q l m n o. refl)

    moment_at : (turns : ℕ) (b stops : Bool) (q : ℕ) → q < s.count → (q ≡ a → ⊥) → (let y = moment_by su b stops (turned turns st) in ClearAt y.life (peer_of y q) (six w a q))
    moment_at turns true stops q l n = at_each (λ (p : Peer). ClearAt Booting p (six w a q)) (λ j p. booted_peer p) st.peers q (cold_peer Old) (boot_clear (here_of su st q) (six w a q) st.life (peer_of st q) (old q l n)) (λ f. absurd (omega (arith, f, l, (all.met.all a la).partners)))
    moment_at turns false true q l n = old q l n
    moment_at turns false false q l n = old q l n

    pub clear_moment : (earlier turns : ℕ) → AllClear s.count w (at_one σ a (part_moment su earlier turns (σ a)))
    clear_moment earlier turns =
        let now = turned turns st in
        let b = restart_comes su earlier now && not (is_over now) in
        let stops = stop_comes su earlier now && not (is_over now) in
        moved_clear w (part_moment su earlier turns (σ a)) (met_moment s lawful w σ a la all.met earlier turns) (λ q l n. moment_at turns b stops q l n) (λ p l n. same_words p) (λ p q l m n o. refl)
