-- All that is followed of a partition: what it knows, and the records of its ends.
use Rattle.std.proofs.Common.{◌≡◌, ℕ, List, [], ◌∷◌, ◌++◌, Option, Some, refl, ap, sym, ◌∙◌, ◌+◌}
use Rattle.xp_base.specs.declared.step.Answer.{Answer}
use Rattle.xp_base.specs.History.{Act, Marked, Turn}
use Rattle.xp_script.specs.declared.part.ScenarioPart.{ScenarioPart}
use Rattle.xp_protocol.specs.declared.rule.Rule.{Rule}
use Rattle.xp_protocol.specs.Records.{Recorded}
use Rattle.xp_protocol.specs.Effects.{Note, with_note, with_notes}
use Rattle.xp_protocol.specs.State.{State, opened_state}
use Rattle.xp_protocol.specs.Rules.{after_answer, noted_rule}
use Rattle.xp_protocol.specs.Decode.{rule_of}
use Rattle.xp_protocol.specs.Acts.{noted_act, after_act, after_acts}
use Rattle.xp_protocol.specs.Runs.{after_ruled, after_step, after_turn, moment, turn_counted, state_after, turned, start}
use Rattle.xp_protocol.specs.Logged.{noted_ruled, noted_step, noted_acts, noted_turn, noted_from, opened_records}

pub record Part : Type 0 where
  pub state : State
  pub books : ℕ → ℕ → List Recorded

abbrev pub book : (ℕ → ℕ → List Note) → (ℕ → ℕ → List Recorded) → ℕ → ℕ → List Recorded
book ns books = λ q c. with_notes q c (ns q c) (books q c)

abbrev pub part_act : ScenarioPart → Part → Act → Part
part_act s k a = record { state = after_act s k.state a; books = book (noted_act s k.state a) k.books }

abbrev pub part_acts : ScenarioPart → Part → List Act → Part
part_acts s k [] = k
part_acts s k (a ∷ more) = part_acts s (part_act s k a) more

abbrev pub part_step : ScenarioPart → Part → Option Marked → Part
part_step s k o = record { state = after_step s k.state o; books = book (noted_step s k.state o) k.books }

-- after so many turns, before the last of which `earlier` messages were put
abbrev pub part_moment : ScenarioPart → ℕ → ℕ → Part → Part
part_moment s earlier turns k = record k { state = moment s earlier (turned turns k.state) }

abbrev pub part_counted : ScenarioPart → ℕ → Part → Part
part_counted s earlier k = part_moment s earlier (k.state.clock.turns + 1) k

abbrev pub part_turn : ScenarioPart → Part → Turn → Part
part_turn s k t = part_counted s k.state.clock.puts (part_acts s (part_step s (part_acts s k t.before) t.made) t.after)

abbrev pub part_from : ScenarioPart → Part → List Turn → Part
part_from s k [] = k
part_from s k (t ∷ ts) = part_from s (part_turn s k t) ts

abbrev pub part_ruled : ScenarioPart → Part → Rule → Answer → Part
part_ruled s k r a = record { state = after_answer s k.state r a; books = book (noted_rule s k.state r a) k.books }

pub step_same : (s : ScenarioPart) (k : Part) (x : Marked) (r : Rule) → rule_of s k.state x.step.op x.mark ≡ Some r → part_step s k (Some x) ≡ part_ruled s k r x.step.answer
step_same s k x r e = λ i. record { state = after_ruled s k.state (e i) x.step.answer; books = book (noted_ruled s k.state (e i) x.step.answer) k.books }

-- what is followed is what the definitions say
pub notes_more : (q c : ℕ) (xs ys : List Note) (rs : List Recorded) → with_notes q c (xs ++ ys) rs ≡ with_notes q c ys (with_notes q c xs rs)
notes_more q c [] ys rs = refl
notes_more q c (x ∷ xs) ys rs = notes_more q c xs ys (with_note q c x rs)

pub acts_state : (s : ScenarioPart) (k : Part) (more : List Act) → (part_acts s k more).state ≡ after_acts s k.state more
acts_state s k [] = refl
acts_state s k (a ∷ more) = acts_state s (part_act s k a) more

pub acts_books : (s : ScenarioPart) (k : Part) (more : List Act) (q c : ℕ) → (part_acts s k more).books q c ≡ with_notes q c (noted_acts s k.state more q c) (k.books q c)
acts_books s k [] q c = refl
acts_books s k (a ∷ more) q c = acts_books s (part_act s k a) more q c ∙ sym (notes_more q c (noted_act s k.state a q c) (noted_acts s (after_act s k.state a) more q c) (k.books q c))

pub turn_state : (s : ScenarioPart) (k : Part) (t : Turn) → (part_turn s k t).state ≡ after_turn s k.state t
turn_state s k t =
    let e = acts_state s k t.before in
    ap (λ (st : State). moment s k.state.clock.puts (turn_counted st)) (acts_state s (part_step s (part_acts s k t.before) t.made) t.after ∙ ap (λ (st : State). after_acts s (after_step s st t.made) t.after) e)

turn_books : (s : ScenarioPart) (k : Part) (t : Turn) (q c : ℕ) → (part_turn s k t).books q c ≡ with_notes q c (noted_turn s k.state t q c) (k.books q c)
turn_books s k t q c =
    let x = part_acts s k t.before in
    let e = acts_state s k t.before in
    let first = noted_acts s k.state t.before q c in
    let st = after_acts s k.state t.before in
    let second = noted_step s st t.made q c in
    let third = noted_acts s (after_step s st t.made) t.after q c in
    acts_books s (part_step s x t.made) t.after q c
    ∙ (λ i. with_notes q c (noted_acts s (after_step s (e i) t.made) t.after q c) (with_notes q c (noted_step s (e i) t.made q c) (acts_books s k t.before q c i)))
    ∙ sym (notes_more q c second third (with_notes q c first (k.books q c)))
    ∙ sym (notes_more q c first (second ++ third) (k.books q c))

pub from_state : (s : ScenarioPart) (k : Part) (ts : List Turn) → (part_from s k ts).state ≡ state_after s k.state ts
from_state s k [] = refl
from_state s k (t ∷ ts) = from_state s (part_turn s k t) ts ∙ ap (λ (st : State). state_after s st ts) (turn_state s k t)

pub from_books : (s : ScenarioPart) (k : Part) (ts : List Turn) (q c : ℕ) → (part_from s k ts).books q c ≡ with_notes q c (noted_from s k.state ts q c) (k.books q c)
from_books s k [] q c = refl
from_books s k (t ∷ ts) q c =
    from_books s (part_turn s k t) ts q c
    ∙ (λ i. with_notes q c (noted_from s (turn_state s k t i) ts q c) (turn_books s k t q c i))
    ∙ sym (notes_more q c (noted_turn s k.state t q c) (noted_from s (after_turn s k.state t) ts q c) (k.books q c))

-- at the opening, before any moment, and after that of turn 0
abbrev pub part_opened : ScenarioPart → Part
part_opened s = record { state = opened_state s; books = opened_records s.links }

abbrev pub part_start : ScenarioPart → Part
part_start s = record { state = start s; books = opened_records s.links }
