-- No partition halts: the word of its stamp is never above the number of its boots, of which few are
-- planned.
use Rattle.std.proofs.Common.{◌≡◌, ℕ, ◌+◌, ◌<◌, ◌≤◌, Bool, true, false, not, ◌&&◌, cond, eqb, ltb, List, [], ◌∷◌, refl, ap, sym, ◌∙◌, subst, arith, Option, Some, None, inl, inr, ◌⊎◌}
use Rattle.std.specs.Prelude.{IsSome}
use Rattle.std.proofs.lemmas.Bool.{cases_eq, ne_eqb, eq-eqb, ltb-true}
use Rattle.xp_base.specs.declared.layout.TheConstants.{STAMP}
use Rattle.xp_base.specs.declared.step.Answer.{Answer}
use Rattle.xp_base.specs.declared.step.Answer.TheVariants.{Word, Failed}
use Rattle.xp_base.specs.Memory.{Memory}
use Rattle.xp_base.specs.History.{Act, Turn, Event, turns_of}
use Rattle.xp_base.specs.Places.{Open}
use Rattle.xp_script.specs.declared.part.Link.{Link as SetupLink}
use Rattle.xp_script.specs.declared.limits.TheConstants.{RESTART_LIMIT}
use Rattle.xp_script.specs.declared.part.ScenarioPart.{ScenarioPart}
use Rattle.xp_script.specs.declared.scenario.Scenario.{Scenario}
use Rattle.xp_script.specs.Lawful.{IsLawful}
use Rattle.xp_script.specs.Parts.{part_of, links_of}
use Rattle.xp_protocol.specs.declared.rule.OwnRule.TheVariants.{ReadEngaged, TakeDeactivation, ReadStamp, ZeroMask, ZeroOffline, WriteStamp, StoreMask, TakeActivation, StoreBeat, StoreOffline}
use Rattle.xp_protocol.specs.declared.rule.Rule.{Rule}
use Rattle.xp_protocol.specs.declared.rule.Rule.TheVariants.{Link, Peer as ForPeer, Own}
use Rattle.xp_protocol.specs.Acts.{MayAct, Aim, aimed, with_aim, after_act}
use Rattle.xp_protocol.specs.Parts.{IsLawfulPart}
use Rattle.xp_protocol.specs.Peering.{or_zero}
use Rattle.xp_protocol.specs.Rules.{Can, after_answer}
use Rattle.xp_protocol.specs.Runs.{turned, restart_comes, stop_comes, moment_by, is_over, start, Runs, state_after}
use Rattle.xp_protocol.specs.State.{State, Life, Booting, Up, Halted, opened_state, opening_life, opening_stamp}
use Rattle.xp_protocol.specs.Reached.{ReachedWords, state_at}
use Rattle.xp_protocol.proofs.LawfulParts.{lawful_part}
use Rattle.xp_meetings.proofs.Always.{at_one, one_here, does_rule, answer_word}
use Rattle.xp_meetings.proofs.Firsts.{met_start}
use Rattle.xp_meetings.proofs.Meets.{Met, still, own_stamp, keeps_act, keeps_rule, keeps_failed, keeps_moment}
use Rattle.xp_meetings.proofs.Opening.{opening_words, opening_stamped}
use Rattle.xp_meetings.proofs.Parts.{Part, part_start, part_act, part_ruled, part_moment, from_state}
use Rattle.xp_meetings.proofs.Six.{stamp_at}
use Rattle.xp_meetings.proofs.Words.{Words, Agrees}
use Rattle.xp_promises.proofs.Before.{whole, part_at}
use Rattle.xp_records.specs.Clean.{NoneHalts}

-- a partition boots once, and once more for each planned restart at most
abbrev pub BootsFew : Scenario → Type 0
BootsFew s = (p : ℕ) → p < s.count → (ts : List Turn) → Runs (part_of s p) ts → (state_after (part_of s p) (start (part_of s p)) ts).clock.boots ≤ RESTART_LIMIT + 1

-- the stamp of the boot that is on, or that comes
abbrev stamp_of : Life → ℕ → ℕ
stamp_of Booting word = word + 1
stamp_of Up word = word
stamp_of Halted word = word

record Young (word : ℕ) (st : State) : Type 0 where
  low : stamp_of st.life word ≤ st.clock.boots
  halted : st.life ≡ Halted → 4294967295 ≤ st.clock.boots

word_low : (life : Life) (word boots : ℕ) → stamp_of life word ≤ boots → word ≤ boots
word_low Booting word boots h = omega (arith, h)
word_low Up word boots h = h
word_low Halted word boots h = h

-- what doesn't touch the life, nor the number of boots
young_same : (word : ℕ) (st x : State) → x.life ≡ st.life → x.clock.boots ≡ st.clock.boots → Young word st → Young word x
young_same word st x e f h = record {
  low = subst (λ (n : ℕ). stamp_of x.life word ≤ n) (sym f) (subst (λ (y : Life). stamp_of y word ≤ st.clock.boots) (sym e) h.low);
  halted = λ i. subst (λ (n : ℕ). 4294967295 ≤ n) (sym f) (h.halted (sym e ∙ i));
}

aimed_same : (o : Option Aim) (st : State) → ((with_aim o st).life ≡ st.life) × ((with_aim o st).clock.boots ≡ st.clock.boots)
aimed_same None st = (refl, refl)
aimed_same (Some x) st = (refl, refl)

act_young : (su : ScenarioPart) (word : ℕ) (st : State) (x : Act) → Young word st → Young word (after_act su st x)
act_young su word st x h = let e = aimed_same (aimed su st x) st in young_same word st (after_act su st x) e.0 e.1 h

-- a boot begins
moment_young : (su : ScenarioPart) (word turns : ℕ) (b stops : Bool) (st : State) → Young word st → Young word (moment_by su b stops (turned turns st))
moment_young su word turns true stops st h = let l = word_low st.life word st.clock.boots h.low in record { low = omega (arith, l); halted = λ i. absurd (cc) }
moment_young su word turns false true st h = record { low = h.low; halted = h.halted }
moment_young su word turns false false st h = record { low = h.low; halted = h.halted }

module _ (s : Scenario) (law : IsLawful s) where
  lawful : (p : ℕ) → p < s.count → IsLawfulPart (part_of s p)
  lawful p l = lawful_part s p law l

  record Inv (w : Words) (σ : ℕ → Part) : Type 0 where
    met : Met s.count w σ
    young : (p : ℕ) → p < s.count → Young (w p (Open STAMP)) (σ p).state

  -- one partition moves, and leaves the stamps of the others
  moved : (w w' : Words) (σ : ℕ → Part) (a : ℕ) (k : Part) → Inv w σ → ((p : ℕ) → (p ≡ a → ⊥) → w' p (Open STAMP) ≡ w p (Open STAMP)) → (a < s.count → Young (w' a (Open STAMP)) k.state) → (p : ℕ) → p < s.count → Young (w' p (Open STAMP)) (at_one σ a k p).state
  moved w w' σ a k i far here p l = by (cases_eq p a) where
    by : (p ≡ a) ⊎ (p ≡ a → ⊥) → Young (w' p (Open STAMP)) (at_one σ a k p).state
    by (inl e) = let P : ℕ → Type 0 = λ j. Young (w' j (Open STAMP)) (at_one σ a k j).state in subst P (sym e) (subst (λ (y : Part). Young (w' a (Open STAMP)) y.state) (sym (one_here σ a k)) (here (subst (λ (j : ℕ). j < s.count) e l)))
    by (inr n) =
        let same : at_one σ a k p ≡ σ p = rw (ne_eqb a p (λ e. n (sym e))) refl in
        subst (λ (y : Part). Young (w' p (Open STAMP)) y.state) (sym same) (subst (λ (v : ℕ). Young v (σ p).state) (sym (far p n)) (i.young p l))

  -- a rule of the partition itself
  module _ (w : Words) (σ : ℕ → Part) (a : ℕ) (la : a < s.count) (i : Inv w σ) where
    abbrev su : ScenarioPart
    su = part_of s a

    abbrev st : State
    st = (σ a).state

    abbrev word : ℕ
    word = w a (Open STAMP)

    old : Young word st
    old = i.young a la

    abbrev Here : Rule → Type 0
    Here r = Young (does_rule su st r w a (Open STAMP)) (after_answer su st r (Word (answer_word su st r w)))

    calm : (r : Rule) → (r ≡ Own WriteStamp → ⊥) → Young word (after_answer su st r (Word (answer_word su st r w))) → Here r
    calm r n h = subst (λ (v : ℕ). Young v (after_answer su st r (Word (answer_word su st r w)))) (sym (own_stamp s lawful w σ a la i.met r n)) h

    read_word : (o : Option ℕ) → st.boot.read ≡ o → IsSome o → st.life ≡ Booting → or_zero o ≡ word
    read_word None e d b = absurd (cc)
    read_word (Some v) e d b = (i.met.stamps a la).read b v e

    rule_young : (r : Rule) → Can su st r → Here r
    rule_young (Link k c m) can = calm (Link k c m) (λ e. absurd (cc)) (record { low = old.low; halted = old.halted })
    rule_young (ForPeer k m) can = calm (ForPeer k m) (λ e. absurd (cc)) (record { low = old.low; halted = old.halted })
    rule_young (Own ReadEngaged) can = calm (Own ReadEngaged) (λ e. absurd (cc)) (record { low = old.low; halted = old.halted })
    rule_young (Own TakeDeactivation) can = calm (Own TakeDeactivation) (λ e. absurd (cc)) (record { low = old.low; halted = old.halted })
    rule_young (Own ZeroMask) can = calm (Own ZeroMask) (λ e. absurd (cc)) (record { low = old.low; halted = old.halted })
    rule_young (Own ZeroOffline) can = calm (Own ZeroOffline) (λ e. absurd (cc)) (record { low = old.low; halted = old.halted })
    rule_young (Own StoreMask) can = calm (Own StoreMask) (λ e. absurd (cc)) (record { low = old.low; halted = old.halted })
    rule_young (Own TakeActivation) can = calm (Own TakeActivation) (λ e. absurd (cc)) (record { low = old.low; halted = old.halted })
    rule_young (Own StoreBeat) can = calm (Own StoreBeat) (λ e. absurd (cc)) (record { low = old.low; halted = old.halted })
    rule_young (Own StoreOffline) can = calm (Own StoreOffline) (λ e. absurd (cc)) (record { low = old.low; halted = old.halted })
    rule_young (Own ReadStamp) can = calm (Own ReadStamp) (λ e. absurd (cc)) (record { low = lows (ltb word 4294967295); halted = halts (ltb word 4294967295) (λ f. high f) }) where
      booting : word + 1 ≤ st.clock.boots
      booting = subst (λ (y : Life). stamp_of y word ≤ st.clock.boots) can.0 old.low

      lows : (b : Bool) → stamp_of (cond b st.life Halted) word ≤ st.clock.boots
      lows true = old.low
      lows false = let l = booting in omega (arith, l)

      high : ltb word 4294967295 ≡ false → 4294967295 ≤ word
      high f = by (ltb word 4294967295) refl where
        by : (b : Bool) → ltb word 4294967295 ≡ b → 4294967295 ≤ word
        by true t = absurd (let z : true ≡ false = sym t ∙ f in cc)
        by false t = grind (arith, t)

      halts : (b : Bool) → (b ≡ false → 4294967295 ≤ word) → cond b st.life Halted ≡ Halted → 4294967295 ≤ st.clock.boots
      halts true n e = absurd (let z : Booting ≡ Halted = sym can.0 ∙ e in cc)
      halts false n e = let l = booting in let m = n refl in omega (arith, l, m)
    rule_young (Own WriteStamp) can =
        let read = read_word st.boot.read refl can.1.0 can.0 in
        let booting : word + 1 ≤ st.clock.boots = subst (λ (y : Life). stamp_of y word ≤ st.clock.boots) can.0 old.low in
        let new : or_zero st.boot.read + 1 ≤ st.clock.boots = subst (λ (v : ℕ). v + 1 ≤ st.clock.boots) (sym read) booting in
        subst (λ (v : ℕ). Young v (after_answer su st (Own WriteStamp) (Word (answer_word su st (Own WriteStamp) w)))) (sym (stamp_at w a (or_zero st.boot.read + 1))) (record { low = new; halted = λ e. absurd (cc) })

    failed_young : (r : Rule) → Young word (after_answer su st r Failed)
    failed_young (Link k c m) = record { low = old.low; halted = old.halted }
    failed_young (ForPeer k m) = record { low = old.low; halted = old.halted }
    failed_young (Own m) = record { low = old.low; halted = old.halted }

  inv_act : (w : Words) (σ : ℕ → Part) (a : ℕ) (x : Act) → a < s.count → Inv w σ → MayAct (part_of s a) (σ a).state x → Inv w (at_one σ a (part_act (part_of s a) (σ a) x))
  inv_act w σ a x la i may = record { met = keeps_act s lawful w σ a la i.met x; young = moved w w σ a (part_act (part_of s a) (σ a) x) i (λ p n. refl) (λ l. act_young (part_of s a) (w a (Open STAMP)) (σ a).state x (i.young a la)) }

  inv_rule : (w : Words) (σ : ℕ → Part) (a : ℕ) (r : Rule) → a < s.count → Inv w σ → Can (part_of s a) (σ a).state r → Inv (does_rule (part_of s a) (σ a).state r w) (at_one σ a (part_ruled (part_of s a) (σ a) r (Word (answer_word (part_of s a) (σ a).state r w))))
  inv_rule w σ a r la i can = record {
    met = keeps_rule s lawful w σ a la i.met r can;
    young = moved w (does_rule (part_of s a) (σ a).state r w) σ a (part_ruled (part_of s a) (σ a) r (Word (answer_word (part_of s a) (σ a).state r w))) i (λ p n. still s lawful w σ a la i.met r p n) (λ l. rule_young w σ a la i r can);
  }

  inv_failed : (w : Words) (σ : ℕ → Part) (a : ℕ) (r : Rule) → a < s.count → Inv w σ → Can (part_of s a) (σ a).state r → Inv w (at_one σ a (part_ruled (part_of s a) (σ a) r Failed))
  inv_failed w σ a r la i can = record { met = keeps_failed s lawful w σ a la i.met r can; young = moved w w σ a (part_ruled (part_of s a) (σ a) r Failed) i (λ p n. refl) (λ l. failed_young w σ a la i r) }

  inv_moment : (w : Words) (σ : ℕ → Part) (a earlier turns : ℕ) → a < s.count → Inv w σ → Inv w (at_one σ a (part_moment (part_of s a) earlier turns (σ a)))
  inv_moment w σ a earlier turns la i =
      let su = part_of s a in
      let now = turned turns (σ a).state in
      record { met = keeps_moment s lawful w σ a la i.met earlier turns; young = moved w w σ a (part_moment su earlier turns (σ a)) i (λ p n. refl) (λ l. moment_young su (w a (Open STAMP)) turns (restart_comes su earlier now && not (is_over now)) (stop_comes su earlier now && not (is_over now)) (σ a).state (i.young a la)) }

  opened_young : (p : ℕ) → p < s.count → Young (opening_words s p (Open STAMP)) (opened_state (part_of s p))
  opened_young p l = subst (λ (v : ℕ). Young v (opened_state (part_of s p))) (sym (opening_stamped s p l)) (record { low = lows (links_of s p); halted = halts (links_of s p) }) where
    lows : (ls : List SetupLink) → stamp_of (opening_life ls) (opening_stamp ls) ≤ 1
    lows [] = omega arith
    lows (x ∷ ls) = omega arith

    halts : (ls : List SetupLink) → opening_life ls ≡ Halted → 4294967295 ≤ 1
    halts [] e = absurd (cc)
    halts (x ∷ ls) e = absurd (cc)

  inv_first : Inv (opening_words s) (λ p. part_start (part_of s p))
  inv_first = record {
    met = met_start s law;
    young = λ p l.
        let su = part_of s p in
        let now = opened_state su in
        moment_young su (opening_words s p (Open STAMP)) 0 (restart_comes su 0 now && not (is_over now)) (stop_comes su 0 now && not (is_over now)) now (opened_young p l);
  }

  whole_inv : (h : List Event) (m : Memory) → ReachedWords s h m → (w : Words) × Agrees s.count m w × Inv w (part_at s h)
  whole_inv = whole s law Inv inv_act inv_rule inv_failed inv_moment inv_first

  pub none_halts : BootsFew s → (h : List Event) (m : Memory) → ReachedWords s h m → NoneHalts s h
  none_halts few h m r p l e =
      let su = part_of s p in
      let state = from_state su (part_start su) (turns_of p h) in
      let young = (whole_inv h m r).2.young p l in
      let high : 4294967295 ≤ (state_at s h p).clock.boots = subst (λ (st : State). st.life ≡ Halted → 4294967295 ≤ st.clock.boots) state young.halted e in
      omega (arith, high, few p l (turns_of p h) (r.runs p l))
