-- While a partition boots, its bit at another is as it was before in that boot, until it clears it.
use Rattle.std.proofs.Common.{◌≡◌, ℕ, ◌<◌, ◌≤◌, Bool, true, false, not, ◌&&◌, cond, eqb, refl, ap, sym, ◌∙◌, subst, arith, Option, Some, None, inl, inr, ◌⊎◌}
use Rattle.std.specs.Int.{bit_at}
use Rattle.std.proofs.lemmas.Bool.{cases_eq, ne_eqb, eq-eqb}
use Rattle.xp_base.specs.declared.layout.TheConstants.{PARTS, ENGAGED}
use Rattle.xp_base.specs.declared.step.Answer.TheVariants.{Word, Failed}
use Rattle.xp_base.specs.declared.step.CopyMark.{CopyMark}
use Rattle.xp_base.specs.History.{Act}
use Rattle.xp_base.specs.Places.{Open}
use Rattle.xp_script.specs.declared.part.ScenarioPart.{ScenarioPart}
use Rattle.xp_script.specs.declared.scenario.Scenario.{Scenario}
use Rattle.xp_script.specs.Lawful.{IsLawful}
use Rattle.xp_script.specs.Parts.{part_of}
use Rattle.xp_protocol.specs.declared.rule.PeerRule.TheVariants.{AskActivation, TakeFlags, CloseArea, ZeroMagic, ClearOldBit, Prepare, OpenArea, SetEngagementBit, ReadRecord, StoreEcho, StoreSecond, ClearEngagementBit, LookAtPage, CheckBeat, ClearDeactivationBit, TellPartner}
use Rattle.xp_protocol.specs.declared.rule.OwnRule.TheVariants.{ReadEngaged, TakeDeactivation, ReadStamp, ZeroMask, ZeroOffline, WriteStamp, StoreMask, TakeActivation, StoreBeat, StoreOffline}
use Rattle.xp_protocol.specs.declared.rule.Rule.{Rule}
use Rattle.xp_protocol.specs.declared.rule.Rule.TheVariants.{Link, Peer as ForPeer, Own}
use Rattle.xp_protocol.specs.Acts.{MayAct, Aim, aimed, with_aim}
use Rattle.xp_protocol.specs.Peering.{peer_failed}
use Rattle.xp_protocol.specs.Rules.{Can, here_of, mark_of}
use Rattle.xp_protocol.specs.Runs.{turned, restart_comes, stop_comes, moment_by, is_over}
use Rattle.xp_protocol.specs.State.{State, Life, Booting, Up, Peer, peer_of}
use Rattle.xp_protocol.proofs.Slots.{at_peer}
use Rattle.xp_meetings.proofs.Always.{at_one, does_rule, answer_word}
use Rattle.xp_meetings.proofs.Meets.{peer_else, peer_cases}
use Rattle.xp_meetings.proofs.Parts.{Part, part_act, part_ruled, part_moment}
use Rattle.xp_meetings.proofs.Six.{Six}
use Rattle.xp_meetings.proofs.Words.{Words}
use Rattle.xp_promises.proofs.Guard.{bits_kept}
use Rattle.xp_invariants.proofs.Standing.{Standing, lawful, stands_act, stands_rule, stands_failed, stands_moment}

-- p's bit at q, where p boots in boot n and hasn't cleared it
abbrev pub Old : ℕ → ℕ → Life → ℕ → Bool → ℕ → Type 0
Old n v life boots cleared bit = (n ≤ boots) × (boots ≡ n → (life ≡ Up → ⊥) → cleared ≡ false → bit ≡ v)

pub aim_life : (st : State) (o : Option Aim) → (with_aim o st).life ≡ st.life
aim_life st None = refl
aim_life st (Some y) = refl

aim_boots : (st : State) (o : Option Aim) → (with_aim o st).clock.boots ≡ st.clock.boots
aim_boots st None = refl
aim_boots st (Some y) = refl

module _ (s : Scenario) (law : IsLawful s) (p q n v : ℕ) (lp : p < s.count) (lq : q < s.count) (d : p ≡ q → ⊥) where
  abbrev OldAt : Words → Part → Type 0
  OldAt w k = Old n v k.state.life k.state.clock.boots (peer_of k.state q).engage.cleared (bit_at (w q (Open ENGAGED)) p)

  pub record Kept (w : Words) (σ : ℕ → Part) : Type 0 where
    pub standing : Standing s.count w σ
    pub old : OldAt w (σ p)

  -- one partition moves: p itself, or another, which leaves the bit
  moved : (w w' : Words) (σ : ℕ → Part) (a : ℕ) (k : Part) → OldAt w (σ p) → ((a ≡ p → ⊥) → bit_at (w' q (Open ENGAGED)) p ≡ bit_at (w q (Open ENGAGED)) p) → (a ≡ p → OldAt w' k) → OldAt w' (at_one σ a k p)
  moved w w' σ a k old far here = by (cases_eq a p) where
    near : (b : Bool) → b ≡ true → cond b k (σ p) ≡ k
    near true t = refl
    near false t = absurd (cc)

    by : (a ≡ p) ⊎ (a ≡ p → ⊥) → OldAt w' (at_one σ a k p)
    by (inl e) = subst (λ (x : Part). OldAt w' x) (sym (near (eqb a p) (eq-eqb a p e))) (here e)
    by (inr o) =
        let still : at_one σ a k p ≡ σ p = rw (ne_eqb a p o) refl in
        let P : ℕ → Type 0 = λ b. Old n v (σ p).state.life (σ p).state.clock.boots (peer_of (σ p).state q).engage.cleared b in
        subst (λ (x : Part). OldAt w' x) (sym still) (subst P (sym (far o)) old)

  part_low : (a : ℕ) → a < s.count → a < PARTS
  part_low a l = omega (arith, l, law.numbers.count.high)

  module _ (w : Words) (σ : ℕ → Part) (i : Kept w σ) where
    abbrev su : ScenarioPart
    su = part_of s p

    abbrev st : State
    st = (σ p).state

    -- p moves
    act_here : (x : Act) → MayAct su st x → OldAt w (part_act su (σ p) x)
    act_here x may =
        let y = aimed su st x in
        (subst (λ (b : ℕ). n ≤ b) (sym (aim_boots st y)) i.old.0, λ b up. absurd (up (aim_life st y ∙ may.0)))

    abbrev Said : Bool → ℕ → Type 0
    Said cleared bit = cleared ≡ false → bit ≡ v

    rule_here : (r : Rule) → Can su st r → OldAt (does_rule su st r w) (part_ruled su (σ p) r (Word (answer_word su st r w)))
    rule_here (Link k c m) can = (i.old.0, λ b up. absurd (up can.0))
    rule_here (ForPeer k ZeroMagic) can = (i.old.0, λ b up. at_peer (λ (x : Peer). Said x.engage.cleared (bit_at (w q (Open ENGAGED)) p)) st.peers k _ q (λ e. subst (λ (j : ℕ). Said (peer_of st j).engage.cleared (bit_at (w q (Open ENGAGED)) p)) e (i.old.1 b up)) (i.old.1 b up))
    rule_here (ForPeer k ClearOldBit) can =
        let w' = does_rule su st (ForPeer k ClearOldBit) w in (
          i.old.0,
          λ b up. peer_cases (λ (j : ℕ) (x : Peer). Said x.engage.cleared (bit_at (w' j (Open ENGAGED)) p)) st.peers k _ q (i.standing.clear.met.all p lp).partners can.1.0.low (λ c. absurd (cc))
              (λ o c. ap (λ (z : Six). z.bit) (peer_else s (lawful s law) w σ p lp i.standing.clear.met k ClearOldBit q lq (λ e. d (sym e)) o) ∙ i.old.1 b up c),
        )
    rule_here (ForPeer k AskActivation) can = (i.old.0, λ b up. absurd (up can.0))
    rule_here (ForPeer k TakeFlags) can = (i.old.0, λ b up. absurd (up can.0))
    rule_here (ForPeer k CloseArea) can = (i.old.0, λ b up. absurd (up can.0))
    rule_here (ForPeer k (Prepare x)) can = (i.old.0, λ b up. absurd (up can.0))
    rule_here (ForPeer k OpenArea) can = (i.old.0, λ b up. absurd (up can.0))
    rule_here (ForPeer k SetEngagementBit) can = (i.old.0, λ b up. absurd (up can.0))
    rule_here (ForPeer k ReadRecord) can = (i.old.0, λ b up. absurd (up can.0))
    rule_here (ForPeer k StoreEcho) can = (i.old.0, λ b up. absurd (up can.0))
    rule_here (ForPeer k StoreSecond) can = (i.old.0, λ b up. absurd (up can.0))
    rule_here (ForPeer k ClearEngagementBit) can = (i.old.0, λ b up. absurd (up can.0))
    rule_here (ForPeer k LookAtPage) can = (i.old.0, λ b up. absurd (up can.0))
    rule_here (ForPeer k CheckBeat) can = (i.old.0, λ b up. absurd (up can.0))
    rule_here (ForPeer k ClearDeactivationBit) can = (i.old.0, λ b up. absurd (up can.0))
    rule_here (ForPeer k TellPartner) can = (i.old.0, λ b up. absurd (up can.0))
    rule_here (Own ReadEngaged) can = (i.old.0, λ b up. absurd (up can.0))
    rule_here (Own TakeDeactivation) can = (i.old.0, λ b up. absurd (up can.0))
    rule_here (Own StoreMask) can = (i.old.0, λ b up. absurd (up can.0))
    rule_here (Own TakeActivation) can = (i.old.0, λ b up. absurd (up can.0))
    rule_here (Own StoreBeat) can = (i.old.0, λ b up. absurd (up can.0))
    rule_here (Own StoreOffline) can = (i.old.0, λ b up. absurd (up can.0))
    rule_here (Own WriteStamp) can = (i.old.0, λ b up. absurd (up refl))
    rule_here (Own ReadStamp) can = (i.old.0, λ b up. i.old.1 b (λ f. (let t : Up ≡ Booting = sym f ∙ can.0 in absurd (cc))))
    rule_here (Own ZeroMask) can = i.old
    rule_here (Own ZeroOffline) can = i.old

    failed_said : (turn : ℕ) (mark : Option CopyMark) (x : Peer) (bit : ℕ) → Said x.engage.cleared bit → Said (peer_failed turn mark x).engage.cleared bit
    failed_said turn None x bit h = h
    failed_said turn (Some mark) x bit h = h

    failed_here : (r : Rule) → OldAt w (part_ruled su (σ p) r Failed)
    failed_here (Link k c m) = (i.old.0, λ b up. at_peer (λ (x : Peer). Said x.engage.cleared (bit_at (w q (Open ENGAGED)) p)) st.peers k _ q (λ e. subst (λ (j : ℕ). Said (peer_of st j).engage.cleared (bit_at (w q (Open ENGAGED)) p)) e (i.old.1 b up)) (i.old.1 b up))
    failed_here (ForPeer k m) = (i.old.0, λ b up. at_peer (λ (x : Peer). Said x.engage.cleared (bit_at (w q (Open ENGAGED)) p)) st.peers k _ q (λ e. failed_said (here_of su st k).turn (mark_of su st (ForPeer k m)) (peer_of st k) (bit_at (w q (Open ENGAGED)) p) (subst (λ (j : ℕ). Said (peer_of st j).engage.cleared (bit_at (w q (Open ENGAGED)) p)) e (i.old.1 b up))) (i.old.1 b up))
    failed_here (Own m) = i.old

    moment_by_here : (turns : ℕ) (b stops : Bool) → (let y = moment_by su b stops (turned turns st) in Old n v y.life y.clock.boots (peer_of y q).engage.cleared (bit_at (w q (Open ENGAGED)) p))
    moment_by_here turns true stops = (omega (arith, i.old.0), λ b up. absurd (omega (arith, b, i.old.0)))
    moment_by_here turns false true = i.old
    moment_by_here turns false false = i.old

    moment_here : (earlier turns : ℕ) → OldAt w (part_moment su earlier turns (σ p))
    moment_here earlier turns =
        let now = turned turns st in
        moment_by_here turns (restart_comes su earlier now && not (is_over now)) (stop_comes su earlier now && not (is_over now))

  pub old_act : (w : Words) (σ : ℕ → Part) (a : ℕ) (x : Act) → a < s.count → Kept w σ → MayAct (part_of s a) (σ a).state x → Kept w (at_one σ a (part_act (part_of s a) (σ a) x))
  old_act w σ a x la i may = record {
    standing = stands_act s law w σ a la i.standing x;
    old = moved w w σ a (part_act (part_of s a) (σ a) x) i.old (λ o. refl) (λ e. subst (λ (j : ℕ). MayAct (part_of s j) (σ j).state x → OldAt w (part_act (part_of s j) (σ j) x)) (sym e) (act_here w σ i x) may);
  }

  pub old_rule : (w : Words) (σ : ℕ → Part) (a : ℕ) (r : Rule) → a < s.count → Kept w σ → Can (part_of s a) (σ a).state r → Kept (does_rule (part_of s a) (σ a).state r w) (at_one σ a (part_ruled (part_of s a) (σ a) r (Word (answer_word (part_of s a) (σ a).state r w))))
  old_rule w σ a r la i can = record {
    standing = stands_rule s law w σ a la i.standing r can;
    old = moved w (does_rule (part_of s a) (σ a).state r w) σ a (part_ruled (part_of s a) (σ a) r (Word (answer_word (part_of s a) (σ a).state r w))) i.old (λ o. bits_kept (part_of s a) (σ a).state r w q p (part_low a la) (part_low p lp) o)
        (λ e. subst (λ (j : ℕ). Can (part_of s j) (σ j).state r → OldAt (does_rule (part_of s j) (σ j).state r w) (part_ruled (part_of s j) (σ j) r (Word (answer_word (part_of s j) (σ j).state r w)))) (sym e) (rule_here w σ i r) can);
  }

  pub old_failed : (w : Words) (σ : ℕ → Part) (a : ℕ) (r : Rule) → a < s.count → Kept w σ → Can (part_of s a) (σ a).state r → Kept w (at_one σ a (part_ruled (part_of s a) (σ a) r Failed))
  old_failed w σ a r la i can = record {
    standing = stands_failed s law w σ a la i.standing r can;
    old = moved w w σ a (part_ruled (part_of s a) (σ a) r Failed) i.old (λ o. refl) (λ e. subst (λ (j : ℕ). OldAt w (part_ruled (part_of s j) (σ j) r Failed)) (sym e) (failed_here w σ i r));
  }

  pub old_moment : (w : Words) (σ : ℕ → Part) (a earlier turns : ℕ) → a < s.count → Kept w σ → Kept w (at_one σ a (part_moment (part_of s a) earlier turns (σ a)))
  old_moment w σ a earlier turns la i = record {
    standing = stands_moment s law w σ a la i.standing earlier turns;
    old = moved w w σ a (part_moment (part_of s a) earlier turns (σ a)) i.old (λ o. refl) (λ e. subst (λ (j : ℕ). OldAt w (part_moment (part_of s j) earlier turns (σ j))) (sym e) (moment_here w σ i earlier turns));
  }
