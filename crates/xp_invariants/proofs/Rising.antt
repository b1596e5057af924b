-- The session under which an area was opened last never falls, and rises where the area is opened.
use Rattle.std.proofs.Common.{◌≡◌, ℕ, ◌+◌, ◌*◌, ◌<◌, ◌≤◌, Bool, true, false, not, ◌&&◌, cond, eqb, ltb, ◌∷◌, ◌++◌, [], length, refl, sym, subst, arith, Option, Some, None, inl, inr, ◌⊎◌}
use Rattle.std.specs.Prelude.{is_some, IsSome}
use Rattle.std.proofs.lemmas.Bool.{cases_eq, cond_both, ne_eqb, eq-eqb}
use Rattle.xp_base.specs.declared.layout.TheConstants.{STAMP}
use Rattle.xp_base.specs.declared.reason.Reason.{Reason}
use Rattle.xp_base.specs.declared.reason.Reason.TheVariants.{OtherGoingDown}
use Rattle.xp_base.specs.declared.step.Answer.{Answer}
use Rattle.xp_base.specs.declared.step.Answer.TheVariants.{Word, Failed}
use Rattle.xp_base.specs.declared.step.CopyMark.{CopyMark}
use Rattle.xp_base.specs.History.{Act}
use Rattle.xp_base.specs.Places.{Open}
use Rattle.xp_script.specs.declared.part.ScenarioPart.{ScenarioPart}
use Rattle.xp_script.specs.declared.scenario.Scenario.{Scenario}
use Rattle.xp_script.specs.Lawful.{IsLawful}
use Rattle.xp_script.specs.Parts.{part_of}
use Rattle.xp_protocol.specs.declared.rule.AreaWord.TheVariants.{SessionWord, EchoWord, PlaceWord, ArgsWord, FlagWord, CounterWord}
use Rattle.xp_protocol.specs.declared.rule.PeerRule.{PeerRule}
use Rattle.xp_protocol.specs.declared.rule.PeerRule.TheVariants.{AskActivation, TakeFlags, CloseArea, ZeroMagic, ClearOldBit, Prepare, OpenArea, SetEngagementBit, ReadRecord, StoreEcho, StoreSecond, ClearEngagementBit, LookAtPage, CheckBeat, ClearDeactivationBit, TellPartner}
use Rattle.xp_protocol.specs.declared.rule.OwnRule.TheVariants.{ReadEngaged, TakeDeactivation, ReadStamp, ZeroMask, ZeroOffline, WriteStamp, StoreMask, TakeActivation, StoreBeat, StoreOffline}
use Rattle.xp_protocol.specs.declared.rule.Rule.{Rule}
use Rattle.xp_protocol.specs.declared.rule.Rule.TheVariants.{Link, Peer as ForPeer, Own}
use Rattle.xp_protocol.specs.Acts.{MayAct, Aim, aimed, with_aim, command_begun}
use Rattle.xp_protocol.specs.Peering.{or_zero, Here, is_bad_flags, flags_taken, is_magic, is_wrong, has_shown, with_reason, contact_made, try_contact, same_peer, record_read, area_left_for, area_off, is_left, is_flagged, peer_effect, peer_read, deactivation_heard, peer_failed, booted_peer}
use Rattle.xp_protocol.specs.Rules.{Can, here_of, mark_of, peer_numbered, after_answer}
use Rattle.xp_protocol.specs.Runs.{turned, restart_comes, stop_comes, moment_by, is_over, is_halted}
use Rattle.xp_protocol.specs.State.{State, Life, Booting, Up, Halted, Reading, Old, Peer, cold_peer, peer_of}
use Rattle.xp_protocol.proofs.Frames.{cond_peer, wanted_at}
use Rattle.xp_protocol.proofs.Slots.{at_each, at_peer}
use Rattle.xp_meetings.proofs.Always.{at_one, does_rule, answer_word}
use Rattle.xp_meetings.proofs.Meets.{awake, still, own_stamp}
use Rattle.xp_meetings.proofs.Parts.{Part, part_act, part_ruled, part_moment}
use Rattle.xp_meetings.proofs.Six.{stamp_at}
use Rattle.xp_meetings.proofs.Ties.{stamp_by}
use Rattle.xp_meetings.proofs.Words.{Words}
use Rattle.xp_invariants.proofs.Standing.{Standing, lawful, stands_act, stands_rule, stands_failed, stands_moment}

-- the number of the session under which an area was opened last, if it was opened in this boot
abbrev pub latest : Life → ℕ → ℕ → ℕ
latest life word count = stamp_by life word * 4294967296 + count

module _ (base low : ℕ) where
  abbrev High : Peer → Type 0
  High p = low ≤ base + p.engage.count

  module _ (y : Here) where
    meets : (x : Peer) → High x → High (try_contact y.turn y.stamp x).local
    meets x k = cond_peer High (x.engage.second && (x.engage.shown && not (is_some x.contact))) (contact_made y.turn y.stamp x) (same_peer x) k k

    reads : (p : Peer) (o : Option Reading) (v : ℕ) → High p → High (record_read y p o v).local
    reads p None v h = cond_peer High (eqb v 0) _ _ h (cond_peer High (is_magic v) _ _ h h)
    reads p (Some r) v h =
        cond_peer High (eqb r.done 1) _ _ h (cond_peer High (eqb r.done 2) _ _ h (cond_peer High (eqb r.done 7) _ _ (cond_peer High (has_shown y.stamp p.engage r) _ _ (meets (record p { engage = record p.engage { shown = true; reading = None } }) h) h) (cond_peer High (is_wrong y.part r.done v) _ _ h h)))

    leaves : (p : Peer) (o : Option Reason) → High p → High (area_left_for o p).local
    leaves p None h = h
    leaves p (Some reason) h = h

    peer_high : (p : Peer) (m : PeerRule) (v : ℕ) → High p → High (peer_effect y p m v).local
    peer_high p AskActivation v h = h
    peer_high p TakeFlags v h = cond_peer High (is_bad_flags v) _ (flags_taken v p) h h
    peer_high p CloseArea v h = leaves p p.engage.reason h
    peer_high p ZeroMagic v h = h
    peer_high p ClearOldBit v h = h
    peer_high p (Prepare SessionWord) v h = h
    peer_high p (Prepare EchoWord) v h = h
    peer_high p (Prepare FlagWord) v h = h
    peer_high p (Prepare (PlaceWord x)) v h = h
    peer_high p (Prepare (ArgsWord c f)) v h = h
    peer_high p (Prepare (CounterWord c f)) v h = h
    peer_high p OpenArea v h = omega (arith, h)
    peer_high p SetEngagementBit v h = h
    peer_high p ReadRecord v h = reads p p.engage.reading v h
    peer_high p StoreEcho v h = h
    peer_high p StoreSecond v h = meets (record p { engage = record p.engage { second = true } }) h
    peer_high p ClearEngagementBit v h = h
    peer_high p LookAtPage v h = cond_peer High (eqb (length (p.paging ++ v ∷ [])) 5) _ _ h h
    peer_high p CheckBeat v h = h
    peer_high p ClearDeactivationBit v h = h
    peer_high p TellPartner v h = h

    numbered_high : (mark : Option CopyMark) (p : Peer) (m : PeerRule) (v : ℕ) → High p → High (peer_effect y (peer_numbered mark p) m v).local
    numbered_high None p m v h = peer_high p m v h
    numbered_high (Some mark) p m v h = peer_high (peer_numbered (Some mark) p) m v h

  failed_high : (turn : ℕ) (mark : Option CopyMark) (p : Peer) → High p → High (peer_failed turn mark p)
  failed_high turn None p h = h
  failed_high turn (Some mark) p h = h

  freed_high : (p : Peer) (v q : ℕ) → High p → High (peer_read v q p).local
  freed_high p v q h = cond_peer High (is_left p.engage && not (is_flagged v q)) (area_off p) (same_peer p) h h

  told_high : (p : Peer) (v q : ℕ) → High p → High (deactivation_heard v q p).local
  told_high p v q h = cond_both (is_some p.engage.echo && is_flagged v q) (with_reason (Some (OtherGoingDown v)) p) p High (λ e. h) (λ e. h)

module _ (s : Scenario) (law : IsLawful s) (p q low : ℕ) (lp : p < s.count) (lq : q < s.count) (d : p ≡ q → ⊥) where
  abbrev pub HighAt : Words → Part → Type 0
  HighAt w k = low ≤ latest k.state.life (w p (Open STAMP)) (peer_of k.state q).engage.count

  pub record Risen (w : Words) (σ : ℕ → Part) : Type 0 where
    pub standing : Standing s.count w σ
    pub high : HighAt w (σ p)

  -- one partition moves: p itself, or another, which leaves p's stamp
  pub high_moved : (w w' : Words) (σ : ℕ → Part) (a : ℕ) (k : Part) → HighAt w (σ p) → ((p ≡ a → ⊥) → w' p (Open STAMP) ≡ w p (Open STAMP)) → (a ≡ p → HighAt w' k) → HighAt w' (at_one σ a k p)
  high_moved w w' σ a k old far here = by (cases_eq a p) where
    near : (b : Bool) → b ≡ true → cond b k (σ p) ≡ k
    near true t = refl
    near false t = absurd (cc)

    by : (a ≡ p) ⊎ (a ≡ p → ⊥) → HighAt w' (at_one σ a k p)
    by (inl e) = subst (λ (x : Part). HighAt w' x) (sym (near (eqb a p) (eq-eqb a p e))) (here e)
    by (inr o) =
        let same : at_one σ a k p ≡ σ p = rw (ne_eqb a p o) refl in
        let P : ℕ → Type 0 = λ v. low ≤ latest (σ p).state.life v (peer_of (σ p).state q).engage.count in
        subst (λ (x : Part). HighAt w' x) (sym same) (subst P (sym (far (λ e. o (sym e)))) old)

  module _ (w : Words) (σ : ℕ → Part) (i : Risen w σ) where
    abbrev su : ScenarioPart
    su = part_of s p

    abbrev st : State
    st = (σ p).state

    abbrev base : Life → ℕ
    base life = stamp_by life (w p (Open STAMP)) * 4294967296

    old_high : High (base st.life) low (peer_of st q)
    old_high = i.high

    -- the partner's count after a rule
    rule_high : (r : Rule) (a : Answer) → High (base st.life) low (peer_of (after_answer su st r a) q)
    rule_high (Link k c m) a = at_peer (High (base st.life) low) st.peers k _ q (λ e. subst (λ (j : ℕ). High (base st.life) low (peer_of st j)) e old_high) old_high
    rule_high (ForPeer k m) (Word v) = at_peer (High (base st.life) low) st.peers k _ q (λ e. numbered_high (base st.life) low (here_of su st k) (mark_of su st (ForPeer k m)) (peer_of st k) m v (subst (λ (j : ℕ). High (base st.life) low (peer_of st j)) e old_high)) old_high
    rule_high (ForPeer k m) Failed = at_peer (High (base st.life) low) st.peers k _ q (λ e. failed_high (base st.life) low (here_of su st k).turn (mark_of su st (ForPeer k m)) (peer_of st k) (subst (λ (j : ℕ). High (base st.life) low (peer_of st j)) e old_high)) old_high
    rule_high (Own ReadEngaged) (Word v) = at_each (High (base st.life) low) (λ j x. (peer_read v j x).local) st.peers q (cold_peer Old) (freed_high (base st.life) low (peer_of st q) v q old_high) (λ l. absurd (omega (arith, l, lq, (i.standing.clear.met.all p lp).partners)))
    rule_high (Own TakeDeactivation) (Word v) = at_each (High (base st.life) low) (λ j x. (deactivation_heard v j x).local) st.peers q (cold_peer Old) (told_high (base st.life) low (peer_of st q) v q old_high) (λ l. absurd (omega (arith, l, lq, (i.standing.clear.met.all p lp).partners)))
    rule_high (Own ReadStamp) (Word v) = old_high
    rule_high (Own ZeroMask) (Word v) = old_high
    rule_high (Own ZeroOffline) (Word v) = old_high
    rule_high (Own WriteStamp) (Word v) = old_high
    rule_high (Own StoreMask) (Word v) = old_high
    rule_high (Own TakeActivation) (Word v) = old_high
    rule_high (Own StoreBeat) (Word v) = old_high
    rule_high (Own StoreOffline) (Word v) = old_high
    rule_high (Own m) Failed = old_high

    same_stamp : (r : Rule) → (r ≡ Own WriteStamp → ⊥) → does_rule su st r w p (Open STAMP) ≡ w p (Open STAMP)
    same_stamp r n = own_stamp s (lawful s law) w σ p lp i.standing.clear.met r n

    -- a rule that leaves the own stamp and the life
    calm : (r : Rule) → (r ≡ Own WriteStamp → ⊥) → (let x = after_answer su st r (Word (answer_word su st r w)) in low ≤ latest st.life (does_rule su st r w p (Open STAMP)) (peer_of x q).engage.count)
    calm r n = subst (λ (v : ℕ). low ≤ latest st.life v (peer_of (after_answer su st r (Word (answer_word su st r w))) q).engage.count) (sym (same_stamp r n)) (rule_high r (Word (answer_word su st r w)))

    pub rule_here : (r : Rule) → Can su st r → HighAt (does_rule su st r w) (part_ruled su (σ p) r (Word (answer_word su st r w)))
    rule_here (Link k c m) can = calm (Link k c m) (λ e. absurd (cc))
    rule_here (ForPeer k m) can = calm (ForPeer k m) (λ e. absurd (cc))
    rule_here (Own ReadEngaged) can = calm (Own ReadEngaged) (λ e. absurd (cc))
    rule_here (Own TakeDeactivation) can = calm (Own TakeDeactivation) (λ e. absurd (cc))
    rule_here (Own ZeroMask) can = calm (Own ZeroMask) (λ e. absurd (cc))
    rule_here (Own ZeroOffline) can = calm (Own ZeroOffline) (λ e. absurd (cc))
    rule_here (Own StoreMask) can = calm (Own StoreMask) (λ e. absurd (cc))
    rule_here (Own TakeActivation) can = calm (Own TakeActivation) (λ e. absurd (cc))
    rule_here (Own StoreBeat) can = calm (Own StoreBeat) (λ e. absurd (cc))
    rule_here (Own StoreOffline) can = calm (Own StoreOffline) (λ e. absurd (cc))
    rule_here (Own ReadStamp) can = halts (ltb (w p (Open STAMP)) 4294967295) where
      halts : (b : Bool) → low ≤ latest (cond b st.life Halted) (w p (Open STAMP)) (peer_of st q).engage.count
      halts true = i.high
      halts false = subst (λ (y : Life). low ≤ latest y (w p (Open STAMP)) (peer_of st q).engage.count) can.0 i.high
    rule_here (Own WriteStamp) can =
        let count = (peer_of st q).engage.count in
        let booting : low ≤ latest Booting (w p (Open STAMP)) count = subst (λ (y : Life). low ≤ latest y (w p (Open STAMP)) count) can.0 i.high in
        let read : or_zero st.boot.read ≡ w p (Open STAMP) = read_word st.boot.read refl can.1.0 in
        subst (λ (v : ℕ). low ≤ latest Up v count) (sym (stamp_at w p (or_zero st.boot.read + 1))) (subst (λ (v : ℕ). low ≤ latest Up (v + 1) count) (sym read) booting)
      where
        read_word : (o : Option ℕ) → st.boot.read ≡ o → IsSome o → or_zero o ≡ w p (Open STAMP)
        read_word None i d = absurd (cc)
        read_word (Some v) e d = (i.standing.clear.met.stamps p lp).read can.0 v e

    pub failed_here : (r : Rule) → HighAt w (part_ruled su (σ p) r Failed)
    failed_here (Link k c m) = rule_high (Link k c m) Failed
    failed_here (ForPeer k m) = rule_high (ForPeer k m) Failed
    failed_here (Own m) = i.high

    aimed_high : (x : Option Aim) → (let y = with_aim x st in low ≤ latest y.life (w p (Open STAMP)) (peer_of y q).engage.count)
    aimed_high None = i.high
    aimed_high (Some y) = at_peer (High (base st.life) low) st.peers y.partner _ q (λ e. subst (λ (j : ℕ). High (base st.life) low (peer_of st j)) e old_high) old_high

    pub act_here : (x : Act) → HighAt w (part_act su (σ p) x)
    act_here x =
        let y = with_aim (aimed su st x) st in
        wanted_at (High (base y.life) low) (command_begun su st x) y.peers q (λ k h. h) (λ k h. h) (aimed_high (aimed su st x))

    -- a boot begins: its first session is above all of the last boot
    boots_high : (life : Life) → is_halted life ≡ false → (count : ℕ) → count < 4294967296 → (life ≡ Booting → count ≡ 0) → low ≤ latest life (w p (Open STAMP)) count → low ≤ latest Booting (w p (Open STAMP)) 0
    boots_high Up n count l z h = omega (arith, l, h)
    boots_high Booting n count l z h = omega (arith, z refl, h)
    boots_high Halted n count l z h = absurd (cc)

    moment_by_here : (turns : ℕ) (b stops : Bool) → (b ≡ true → is_halted st.life ≡ false) → (let y = moment_by su b stops (turned turns st) in low ≤ latest y.life (w p (Open STAMP)) (peer_of y q).engage.count)
    moment_by_here turns true stops n =
        let own = (i.standing.clear.met.both p q lp lq d).own in
        let new : low ≤ latest Booting (w p (Open STAMP)) 0 = boots_high st.life (n refl) (peer_of st q).engage.count own.fit.low own.zero i.high in
        at_each (High (base Booting) low) (λ j x. booted_peer x) st.peers q (cold_peer Old) new (λ l. new)
    moment_by_here turns false true n = i.high
    moment_by_here turns false false n = i.high

    pub moment_here : (earlier turns : ℕ) → HighAt w (part_moment su earlier turns (σ p))
    moment_here earlier turns =
        let now = turned turns st in
        moment_by_here turns (restart_comes su earlier now && not (is_over now)) (stop_comes su earlier now && not (is_over now)) (awake s (lawful s law) w σ p lp i.standing.clear.met (restart_comes su earlier now) st.stopped st.life)

  pub high_act : (w : Words) (σ : ℕ → Part) (a : ℕ) (x : Act) → a < s.count → Risen w σ → MayAct (part_of s a) (σ a).state x → Risen w (at_one σ a (part_act (part_of s a) (σ a) x))
  high_act w σ a x la i may = record {
    standing = stands_act s law w σ a la i.standing x;
    high = high_moved w w σ a (part_act (part_of s a) (σ a) x) i.high (λ o. refl) (λ e. subst (λ (j : ℕ). HighAt w (part_act (part_of s j) (σ j) x)) (sym e) (act_here w σ i x));
  }

  pub high_rule : (w : Words) (σ : ℕ → Part) (a : ℕ) (r : Rule) → a < s.count → Risen w σ → Can (part_of s a) (σ a).state r → Risen (does_rule (part_of s a) (σ a).state r w) (at_one σ a (part_ruled (part_of s a) (σ a) r (Word (answer_word (part_of s a) (σ a).state r w))))
  high_rule w σ a r la i can = record {
    standing = stands_rule s law w σ a la i.standing r can;
    high = high_moved w (does_rule (part_of s a) (σ a).state r w) σ a (part_ruled (part_of s a) (σ a) r (Word (answer_word (part_of s a) (σ a).state r w))) i.high (λ o. still s (lawful s law) w σ a la i.standing.clear.met r p o)
        (λ e. subst (λ (j : ℕ). Can (part_of s j) (σ j).state r → HighAt (does_rule (part_of s j) (σ j).state r w) (part_ruled (part_of s j) (σ j) r (Word (answer_word (part_of s j) (σ j).state r w)))) (sym e) (rule_here w σ i r) can);
  }

  pub high_failed : (w : Words) (σ : ℕ → Part) (a : ℕ) (r : Rule) → a < s.count → Risen w σ → Can (part_of s a) (σ a).state r → Risen w (at_one σ a (part_ruled (part_of s a) (σ a) r Failed))
  high_failed w σ a r la i can = record {
    standing = stands_failed s law w σ a la i.standing r can;
    high = high_moved w w σ a (part_ruled (part_of s a) (σ a) r Failed) i.high (λ o. refl) (λ e. subst (λ (j : ℕ). HighAt w (part_ruled (part_of s j) (σ j) r Failed)) (sym e) (failed_here w σ i r));
  }

  pub high_moment : (w : Words) (σ : ℕ → Part) (a earlier turns : ℕ) → a < s.count → Risen w σ → Risen w (at_one σ a (part_moment (part_of s a) earlier turns (σ a)))
  high_moment w σ a earlier turns la i = record {
    standing = stands_moment s law w σ a la i.standing earlier turns;
    high = high_moved w w σ a (part_moment (part_of s a) earlier turns (σ a)) i.high (λ o. refl) (λ e. subst (λ (j : ℕ). HighAt w (part_moment (part_of s j) earlier turns (σ j))) (sym e) (moment_here w σ i earlier turns));
  }
