-- The order of each end after every history, and so that the sides of each are as new before its open complete.
use Rattle.std.proofs.Common.{ℕ, ◌+◌, ◌<◌, List, [], ◌∷◌, sym, subst, Option, Some, None}
use Rattle.xp_base.specs.Memory.{Memory}
use Rattle.xp_base.specs.History.{Act, Marked, Turn, Event, turns_of}
use Rattle.xp_protocol.specs.declared.rule.Rule.{Rule}
use Rattle.xp_script.specs.declared.scenario.Scenario.{Scenario}
use Rattle.xp_script.specs.declared.part.ScenarioPart.{ScenarioPart}
use Rattle.xp_script.specs.Parts.{part_of}
use Rattle.xp_script.specs.Lawful.{IsLawful}
use Rattle.xp_protocol.specs.Parts.{IsLawfulPart}
use Rattle.xp_protocol.specs.State.{State, End, end_of, opened_state}
use Rattle.xp_protocol.specs.Acts.{MayActs, after_act, after_acts}
use Rattle.xp_protocol.specs.Runs.{MayMake, May, RunsFrom, start, after_ruled, after_step, after_turn, state_after, acted}
use Rattle.xp_protocol.specs.Reached.{ReachedWords, state_at}
use Rattle.xp_protocol.specs.Promised.{known_acted}
use Rattle.xp_protocol.proofs.LawfulParts.{lawful_part}
use Rattle.xp_records.specs.Anew.{IsAnew, SidesAnew}
use Rattle.xp_records.proofs.Flow.{FlowAt}
use Rattle.xp_records.proofs.Parts.{Ordered, ordered_rule, ordered_act, ordered_moment, ordered_first}

module _ (su : ScenarioPart) (law : IsLawfulPart su) where
  pub ordered_acts : (st : State) (acts : List Act) → MayActs su st acts → Ordered su.count st → Ordered su.count (after_acts su st acts)
  ordered_acts st [] may h = h
  ordered_acts st (a ∷ more) may h = ordered_acts (after_act su st a) more may.1 (ordered_act su law st h a may.0)

  pub ordered_step : (st : State) (o : Option Marked) → MayMake su st o → Ordered su.count st → Ordered su.count (after_step su st o)
  ordered_step st None may h = h
  ordered_step st (Some x) may h = subst (λ (o : Option Rule). Ordered su.count (after_ruled su st o x.step.answer)) (sym may.decoded) (ordered_rule su law st h may.rule x.step.answer may.can)

  pub ordered_turn : (st : State) (t : Turn) → May su st t → Ordered su.count st → Ordered su.count (after_turn su st t)
  ordered_turn st t may h =
      let first = ordered_acts st t.before may.before h in
      let second = ordered_step (after_acts su st t.before) t.made may.made first in
      let third = ordered_acts (after_step su (after_acts su st t.before) t.made) t.after may.after second in
      ordered_moment su law (acted su st t) third st.clock.puts ((acted su st t).clock.turns + 1)

  pub ordered_turns : (st : State) (ts : List Turn) → RunsFrom su st ts → Ordered su.count st → Ordered su.count (state_after su st ts)
  ordered_turns st [] runs h = h
  ordered_turns st (t ∷ ts) runs h = ordered_turns (after_turn su st t) ts runs.1 (ordered_turn st t runs.0 h)

  pub ordered_start : Ordered su.count (start su)
  ordered_start = ordered_moment su law (opened_state su) (ordered_first su) 0 0

-- after a history that is reached, and after the first acts of the next turn
pub ordered_at : (s : Scenario) → IsLawful s → (h : List Event) (m : Memory) → ReachedWords s h m → (p : ℕ) → p < s.count → Ordered s.count (state_at s h p)
ordered_at s law h m r p l = ordered_turns (part_of s p) (lawful_part s p law l) (start (part_of s p)) (turns_of p h) (r.runs p l) (ordered_start (part_of s p) (lawful_part s p law l))

anew_at : (e : End) → FlowAt e → IsAnew e
anew_at e w = record { sending = w.fresh_send; receiving = w.fresh_pull; requested = λ t. (w.sent_request (w.sent_reply t), w.agreed (w.sent_reply t)) }

pub sides_new : (s : Scenario) → IsLawful s → (h : List Event) (m : Memory) → ReachedWords s h m → SidesAnew s h
sides_new s law h m r p q c l acts may = anew_at (end_of (known_acted s h p acts) q c) ((ordered_acts (part_of s p) (lawful_part s p law l.first) (state_at s h p) acts may (ordered_at s law h m r p l.first)).flows q c l.second l.channel)
