-- Right before each step of a history that is reached: the words, what each partition knows, and what is permitted there.
use Rattle.std.proofs.Common.{◌≡◌, ℕ, ◌<◌, eqb, List, [], ◌∷◌, ◌++◌, refl, sym, subst}
use Rattle.std.proofs.lemmas.Bool.{eq-eqb}
use Rattle.xp_base.specs.declared.step.Answer.TheVariants.{Word, Failed}
use Rattle.xp_base.specs.Memory.{Memory}
use Rattle.xp_base.specs.History.{Act, Turn, Event, Poked, Turned, Legal, happens, turns_of}
use Rattle.xp_base.proofs.HistoryLemmas.{turns_of-append}
use Rattle.xp_protocol.specs.declared.rule.Rule.{Rule}
use Rattle.xp_script.specs.declared.part.ScenarioPart.{ScenarioPart}
use Rattle.xp_script.specs.declared.scenario.Scenario.{Scenario}
use Rattle.xp_script.specs.Parts.{part_of}
use Rattle.xp_script.specs.Opening.{opening}
use Rattle.xp_script.specs.Lawful.{IsLawful}
use Rattle.xp_protocol.specs.State.{State}
use Rattle.xp_protocol.specs.Rules.{Can}
use Rattle.xp_protocol.specs.Acts.{MayAct}
use Rattle.xp_protocol.specs.Runs.{MayMake, May, RunsFrom, after_turn, state_after, start}
use Rattle.xp_protocol.specs.Reached.{AreTurnsOf, ReachedWords}
use Rattle.xp_protocol.specs.Promised.{memory_by}
use Rattle.xp_protocol.proofs.LawfulParts.{lawful_part}
use Rattle.xp_meetings.proofs.Words.{Words, Agrees}
use Rattle.xp_meetings.proofs.Parts.{Part, part_start, part_act, part_acts, part_ruled, part_moment, part_from, acts_state, from_state}
use Rattle.xp_meetings.proofs.Always.{IsPart, at_one, one_kept, does_rule, answer_word, may_by, acts_at, always}
use Rattle.xp_meetings.proofs.Opening.{opening_words, agrees_opening}

-- prefixes
pub Legal-prefix : (es fs : List Event) (a c : Memory) → Legal a (es ++ fs) c → Legal a es (memory_by a es) × Legal (memory_by a es) fs c
Legal-prefix [] fs a c h = (refl, h)
Legal-prefix (e ∷ es) fs a c h = let r = Legal-prefix es fs (happens a e) c h.1 in ((h.0, r.0), r.1)

RunsFrom-prefix : (su : ScenarioPart) (st : State) (ts us : List Turn) → RunsFrom su st (ts ++ us) → RunsFrom su st ts × RunsFrom su (state_after su st ts) us
RunsFrom-prefix su st [] us r = (tt, r)
RunsFrom-prefix su st (t ∷ ts) us r = let k = RunsFrom-prefix su (after_turn su st t) ts us r.1 in ((r.0, k.0), k.1)

parts-prefix : (n : ℕ) (es fs : List Event) → AreTurnsOf n (es ++ fs) → AreTurnsOf n es × AreTurnsOf n fs
parts-prefix n [] fs h = (tt, h)
parts-prefix n (Poked owner index word ∷ es) fs h = absurd h
parts-prefix n (Turned q t ∷ es) fs h = let k = parts-prefix n es fs h.1 in ((h.0, k.0), k.1)

pub memory-append : (m : Memory) (es fs : List Event) → memory_by m (es ++ fs) ≡ memory_by (memory_by m es) fs
memory-append m [] fs = refl
memory-append m (e ∷ es) fs = memory-append (happens m e) es fs

-- a history that was reached on the way, and the rest
pub record Split (s : Scenario) (es fs : List Event) (m : Memory) : Type 0 where
  pub reached : ReachedWords s es (memory_by (opening s) es)
  pub parts : AreTurnsOf s.count fs
  pub runs : (p : ℕ) → p < s.count → RunsFrom (part_of s p) (state_after (part_of s p) (start (part_of s p)) (turns_of p es)) (turns_of p fs)

pub split : (s : Scenario) (es fs : List Event) (m : Memory) → ReachedWords s (es ++ fs) m → Split s es fs m
split s es fs m r =
    let l = Legal-prefix es fs (opening s) m r.legal in
    let a = parts-prefix s.count es fs r.parts in
    let k : (p : ℕ) → p < s.count → RunsFrom (part_of s p) (start (part_of s p)) (turns_of p es) × RunsFrom (part_of s p) (state_after (part_of s p) (start (part_of s p)) (turns_of p es)) (turns_of p fs) = λ p h. RunsFrom-prefix (part_of s p) (start (part_of s p)) (turns_of p es) (turns_of p fs) (subst (λ (ts : List Turn). RunsFrom (part_of s p) (start (part_of s p)) ts) (turns_of-append p es fs) (r.runs p h)) in
    record { reached = record { parts = a.0; legal = l.0; runs = λ p h. (k p h).0 }; parts = a.1; runs = λ p h. (k p h).1 }

-- what partition p is after a history, and right before the step of its next turn: the acts before the step are done
abbrev pub part_at : Scenario → List Event → ℕ → Part
part_at s h p = part_from (part_of s p) (part_start (part_of s p)) (turns_of p h)

abbrev pub at_step : Scenario → List Event → ℕ → Turn → Part
at_step s before p t = part_acts (part_of s p) (part_at s before p) t.before

-- what holds there of a fact that each act and each rule keeps
pub record Before (s : Scenario) (Inv : Words → (ℕ → Part) → Type 0) (before : List Event) (p : ℕ) (t : Turn) : Type 0 where
  pub low : p < s.count
  pub words : Words
  pub agrees : Agrees s.count (memory_by (opening s) before) words
  pub now : Inv words (part_at s before)
  pub holds : Inv words (at_one (part_at s before) p (at_step s before p t))
  pub may : May (part_of s p) (part_at s before p).state t
  pub made : MayMake (part_of s p) (at_step s before p t).state t.made

pub is_part : (s : Scenario) → IsLawful s → (p : ℕ) → p < s.count → IsPart (part_of s p) s.count p
is_part s law p l = record { lawful = lawful_part s p law l; part = refl; count = refl }

module _ (s : Scenario) (law : IsLawful s) (Inv : Words → (ℕ → Part) → Type 0)
    (keeps_act : (w : Words) (σ : ℕ → Part) (q : ℕ) (a : Act) → q < s.count → Inv w σ → MayAct (part_of s q) (σ q).state a → Inv w (at_one σ q (part_act (part_of s q) (σ q) a)))
    (keeps_rule : (w : Words) (σ : ℕ → Part) (q : ℕ) (r : Rule) → q < s.count → Inv w σ → Can (part_of s q) (σ q).state r → Inv (does_rule (part_of s q) (σ q).state r w) (at_one σ q (part_ruled (part_of s q) (σ q) r (Word (answer_word (part_of s q) (σ q).state r w)))))
    (keeps_failed : (w : Words) (σ : ℕ → Part) (q : ℕ) (r : Rule) → q < s.count → Inv w σ → Can (part_of s q) (σ q).state r → Inv w (at_one σ q (part_ruled (part_of s q) (σ q) r Failed)))
    (keeps_moment : (w : Words) (σ : ℕ → Part) (q earlier turns : ℕ) → q < s.count → Inv w σ → Inv w (at_one σ q (part_moment (part_of s q) earlier turns (σ q))))
    (first : Inv (opening_words s) (λ p. part_start (part_of s p))) where
  pub whole : (h : List Event) (m : Memory) → ReachedWords s h m → (w : Words) × Agrees s.count m w × Inv w (part_at s h)
  whole h m r = always (part_of s) s.count (is_part s law) Inv keeps_act keeps_rule keeps_failed keeps_moment h (opening s) m (opening_words s) (λ p. part_start (part_of s p)) r.parts r.legal r.runs (agrees_opening s law) first

  pub before_step : (before after : List Event) (p : ℕ) (t : Turn) (m : Memory) → ReachedWords s (before ++ Turned p t ∷ after) m → Before s Inv before p t
  before_step before after p t m r =
      let k = split s before (Turned p t ∷ after) m r in
      let low : p < s.count = k.parts.0 in
      let σ = part_at s before in
      let here = always (part_of s) s.count (is_part s law) Inv keeps_act keeps_rule keeps_failed keeps_moment before (opening s) (memory_by (opening s) before) (opening_words s) (λ p. part_start (part_of s p)) k.reached.parts k.reached.legal k.reached.runs (agrees_opening s law) first in
      let runs : RunsFrom (part_of s p) (σ p).state (turns_of p (Turned p t ∷ after)) = subst (λ (st : State). RunsFrom (part_of s p) st (turns_of p (Turned p t ∷ after))) (sym (from_state (part_of s p) (part_start (part_of s p)) (turns_of p before))) (k.runs p low) in
      let may = may_by (part_of s p) (σ p).state (eqb p p) t (turns_of p after) (eq-eqb p p refl) runs in
      let Q : (ℕ → Part) → Type 0 = λ τ. Inv here.0 τ in
      let acted = acts_at (part_of s) s.count (is_part s law) Inv keeps_act keeps_rule keeps_failed keeps_moment here.0 σ p (σ p) t.before low (subst Q (sym (one_kept σ p)) here.2) may.before in
      record { low = low; words = here.0; agrees = here.1; now = here.2; holds = acted; may = may; made = subst (λ (st : State). MayMake (part_of s p) st t.made) (sym (acts_state (part_of s p) (σ p) t.before)) may.made }
