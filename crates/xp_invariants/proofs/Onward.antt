-- How a history goes on: by one turn, and by any events from a point where a fact is known.
use Rattle.std.proofs.Common.{◌≡◌, ℕ, ◌<◌, eqb, Bool, true, cond, List, [], ◌∷◌, ◌++◌, refl, ap, sym, ◌∙◌, subst}
use Rattle.std.proofs.lemmas.Bool.{eq-eqb, ne_eqb, eqb-true}
use Rattle.xp_base.specs.declared.step.Answer.TheVariants.{Word, Failed}
use Rattle.xp_base.specs.Memory.{Memory}
use Rattle.xp_base.specs.History.{Act, Turn, Event, Turned, IsAnswered, turns_of}
use Rattle.xp_base.proofs.HistoryLemmas.{turns_of-append}
use Rattle.xp_script.specs.declared.part.ScenarioPart.{ScenarioPart}
use Rattle.xp_script.specs.declared.scenario.Scenario.{Scenario}
use Rattle.xp_script.specs.Lawful.{IsLawful}
use Rattle.xp_script.specs.Opening.{opening}
use Rattle.xp_script.specs.Parts.{part_of}
use Rattle.xp_protocol.specs.declared.rule.Rule.{Rule}
use Rattle.xp_protocol.specs.Acts.{MayAct, MayActs, after_acts}
use Rattle.xp_protocol.specs.Promised.{known_acted, memory_by}
use Rattle.xp_protocol.specs.Reached.{ReachedWords, state_at}
use Rattle.xp_protocol.specs.Rules.{Can}
use Rattle.xp_protocol.specs.Runs.{May, RunsFrom, after_step, after_turn, start, state_after}
use Rattle.xp_protocol.specs.State.{State}
use Rattle.xp_meetings.proofs.Always.{at_one, acts_at, after_by, always, may_by, moment_at, one_kept, does_rule, answer_word}
use Rattle.xp_meetings.proofs.Parts.{Part, part_start, part_act, part_acts, part_from, part_moment, part_ruled, part_step, part_turn, acts_state, from_state}
use Rattle.xp_meetings.proofs.Words.{Words, Agrees}
use Rattle.xp_promises.proofs.Before.{Legal-prefix, is_part, part_at, at_step, split}

-- what a partition knows after one turn more
state_more : (su : ScenarioPart) (st : State) (ts us : List Turn) → state_after su st (ts ++ us) ≡ state_after su (state_after su st ts) us
state_more su st [] us = refl
state_more su st (t ∷ ts) us = state_more su (after_turn su st t) ts us

part_more : (su : ScenarioPart) (k : Part) (ts us : List Turn) → part_from su k (ts ++ us) ≡ part_from su (part_from su k ts) us
part_more su k [] us = refl
part_more su k (t ∷ ts) us = part_more su (part_turn su k t) ts us

module _ (s : Scenario) where
  after_more : (es fs : List Event) (p : ℕ) → state_at s (es ++ fs) p ≡ state_after (part_of s p) (state_at s es p) (turns_of p fs)
  after_more es fs p = ap (λ (ts : List Turn). state_after (part_of s p) (start (part_of s p)) ts) (turns_of-append p es fs) ∙ state_more (part_of s p) (start (part_of s p)) (turns_of p es) (turns_of p fs)

  pub own_turn : (es : List Event) (p : ℕ) (t : Turn) → state_at s (es ++ Turned p t ∷ []) p ≡ after_turn (part_of s p) (state_at s es p) t
  own_turn es p t = after_more es (Turned p t ∷ []) p ∙ ap (λ (b : Bool). state_after (part_of s p) (state_at s es p) (cond b (t ∷ []) [])) (eq-eqb p p refl)

  pub other_turn : (es : List Event) (a p : ℕ) (t : Turn) → (a ≡ p → ⊥) → state_at s (es ++ Turned a t ∷ []) p ≡ state_at s es p
  other_turn es a p t d = after_more es (Turned a t ∷ []) p ∙ ap (λ (b : Bool). state_after (part_of s p) (state_at s es p) (cond b (t ∷ []) [])) (ne_eqb a p d)

  -- the next turn of a history that is reached
  pub record Next (es : List Event) (p : ℕ) (t : Turn) : Type 0 where
    pub low : p < s.count
    pub may : May (part_of s p) (state_at s es p) t
    pub answered : IsAnswered (memory_by (opening s) es) t.made

  pub next : (es fs : List Event) (p : ℕ) (t : Turn) (m : Memory) → ReachedWords s (es ++ Turned p t ∷ fs) m → Next es p t
  next es fs p t m r =
      let k = split s es (Turned p t ∷ fs) m r in
      let low : p < s.count = k.parts.0 in
      record {
        low = low;
        may = may_by (part_of s p) (state_at s es p) (eqb p p) t (turns_of p fs) (eq-eqb p p refl) (k.runs p low);
        answered = (Legal-prefix es (Turned p t ∷ fs) (opening s) m r.legal).1.0;
      }

  -- the state in which a step is made
  pub step_state : (before : List Event) (p : ℕ) (t : Turn) → (at_step s before p t).state ≡ known_acted s before p t.before
  step_state before p t = acts_state (part_of s p) (part_at s before p) t.before ∙ ap (λ (st : State). after_acts (part_of s p) st t.before) (from_state (part_of s p) (part_start (part_of s p)) (turns_of p before))

  part_at_more : (es fs : List Event) (p : ℕ) → part_from (part_of s p) (part_at s es p) (turns_of p fs) ≡ part_at s (es ++ fs) p
  part_at_more es fs p = sym (ap (λ (ts : List Turn). part_from (part_of s p) (part_start (part_of s p)) ts) (turns_of-append p es fs) ∙ part_more (part_of s p) (part_start (part_of s p)) (turns_of p es) (turns_of p fs))

  module _ (law : IsLawful s) (Inv : Words → (ℕ → Part) → Type 0)
      (keeps_act : (w : Words) (σ : ℕ → Part) (q : ℕ) (a : Act) → q < s.count → Inv w σ → MayAct (part_of s q) (σ q).state a → Inv w (at_one σ q (part_act (part_of s q) (σ q) a)))
      (keeps_rule : (w : Words) (σ : ℕ → Part) (q : ℕ) (r : Rule) → q < s.count → Inv w σ → Can (part_of s q) (σ q).state r → Inv (does_rule (part_of s q) (σ q).state r w) (at_one σ q (part_ruled (part_of s q) (σ q) r (Word (answer_word (part_of s q) (σ q).state r w)))))
      (keeps_failed : (w : Words) (σ : ℕ → Part) (q : ℕ) (r : Rule) → q < s.count → Inv w σ → Can (part_of s q) (σ q).state r → Inv w (at_one σ q (part_ruled (part_of s q) (σ q) r Failed)))
      (keeps_moment : (w : Words) (σ : ℕ → Part) (q earlier turns : ℕ) → q < s.count → Inv w σ → Inv w (at_one σ q (part_moment (part_of s q) earlier turns (σ q)))) where
    -- a fact that holds at a point of a history holds at its end
    pub onward : (es fs : List Event) (m : Memory) → ReachedWords s (es ++ fs) m → (w : Words) → Agrees s.count (memory_by (opening s) es) w → Inv w (part_at s es) → (v : Words) × Agrees s.count m v × Inv v (part_at s (es ++ fs))
    onward es fs m r w g i =
        let k = split s es fs m r in
        let runs : (p : ℕ) → p < s.count → RunsFrom (part_of s p) (part_at s es p).state (turns_of p fs) = λ p l. subst (λ (st : State). RunsFrom (part_of s p) st (turns_of p fs)) (sym (from_state (part_of s p) (part_start (part_of s p)) (turns_of p es))) (k.runs p l) in
        let z = always (part_of s) s.count (is_part s law) Inv keeps_act keeps_rule keeps_failed keeps_moment fs (memory_by (opening s) es) m w (part_at s es) k.parts (Legal-prefix es fs (opening s) m r.legal).1 runs g i in
        let P : (ℕ → Part) → Type 0 = λ σ. Inv z.0 σ in
        (z.0, z.1, subst P (λ j p. part_at_more es fs p j) z.2)

    -- the same from the middle of a turn, when its step is made
    pub turn_done : (before after : List Event) (p : ℕ) (t : Turn) (m : Memory) → ReachedWords s (before ++ Turned p t ∷ after) m → (v : Words) → Inv v (at_one (part_at s before) p (part_step (part_of s p) (at_step s before p t) t.made)) → Inv v (part_at s (before ++ Turned p t ∷ []))
    turn_done before after p t m r v i =
        let su = part_of s p in
        let σ = part_at s before in
        let k = next before after p t m r in
        let x = part_step su (at_step s before p t) t.made in
        let may : MayActs su x.state t.after = subst (λ (st : State). MayActs su (after_step su st t.made) t.after) (sym (step_state before p t)) k.may.after in
        let a = acts_at (part_of s) s.count (is_part s law) Inv keeps_act keeps_rule keeps_failed keeps_moment v σ p x t.after k.low i may in
        let b = moment_at (part_of s) s.count (is_part s law) Inv keeps_act keeps_rule keeps_failed keeps_moment v σ p (σ p).state.clock.puts (part_acts su x t.after) k.low a in
        let new = part_turn su (σ p) t in
        let here : (j : ℕ) → eqb p j ≡ true → new ≡ part_turn (part_of s j) (σ j) t = λ j e. ap (λ (y : ℕ). part_turn (part_of s y) (σ y) t) (eqb-true p j e) in
        let P : (ℕ → Part) → Type 0 = λ τ. Inv v τ in
        subst P (λ n j. (after_by (part_of s j) (σ j) new (eqb p j) t [] (here j) ∙ part_at_more before (Turned p t ∷ []) j) n) b

    -- and up to a step of the next turn
    pub acts_done : (es fs : List Event) (p : ℕ) (t : Turn) (m : Memory) → ReachedWords s (es ++ Turned p t ∷ fs) m → (v : Words) → Inv v (part_at s es) → Inv v (at_one (part_at s es) p (at_step s es p t))
    acts_done es fs p t m r v i =
        let k = next es fs p t m r in
        let σ = part_at s es in
        let P : (ℕ → Part) → Type 0 = λ τ. Inv v τ in
        let may : MayActs (part_of s p) (σ p).state t.before = subst (λ (st : State). MayActs (part_of s p) st t.before) (sym (from_state (part_of s p) (part_start (part_of s p)) (turns_of p es))) k.may.before in
        acts_at (part_of s) s.count (is_part s law) Inv keeps_act keeps_rule keeps_failed keeps_moment v σ p (σ p) t.before k.low (subst P (sym (one_kept σ p)) i) may
