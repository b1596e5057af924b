-- A node that has made some turns and makes one more has made these and it.
use Rattle.std.proofs.Common.{◌≡◌, ℕ, ◌<◌, List, [], ◌∷◌, ◌++◌, refl, ap, sym, ◌∙◌, subst, Option, append_assoc, append-nil}
use Rattle.xp_base.specs.declared.layout.TheConstants.{CHANNELS}
use Rattle.xp_base.specs.History.{Marked, Turn}
use Rattle.xp_rounds.specs.Visit.{Visit, planned}
use Rattle.xp_script.specs.declared.log.Entry.{Entry}
use Rattle.xp_script.specs.declared.part.ScenarioPart.{ScenarioPart}
use Rattle.xp_protocol.specs.Effects.{Note, with_note, with_notes}
use Rattle.xp_protocol.specs.Records.{Recorded}
use Rattle.xp_protocol.specs.State.{State}
use Rattle.xp_protocol.specs.Runs.{start, state_after, after_turn, May, RunsFrom, Runs}
use Rattle.xp_protocol.specs.Logged.{entries_turn, entries_from, noted_turn, noted_from, records_after, opened_records}
use Rattle.xp_plan.specs.declared.errand.Errand.{Errand}
use Rattle.xp_plan.specs.Plan.{plan_of, first_visit}
use Rattle.xp_windows.specs.Windows.{middle}
use Rattle.xp_windows.specs.Visited.{IsPrompt, ArePrompt, rule_made, visit_after, FollowsFrom, Visited}
use Rattle.xp_node.specs.Node.{NodeView, records_at, steps_made, steps_of, MakesTurn, visit_from, HasMade}

runs_more : (s : ScenarioPart) (st : State) (ts : List Turn) (t : Turn) → RunsFrom s st ts → May s (state_after s st ts) t → RunsFrom s st (ts ++ t ∷ [])
runs_more s st [] t runs may = (may, tt)
runs_more s st (u ∷ ts) t runs may = (runs.0, runs_more s (after_turn s st u) ts t runs.1 may)

state_more : (s : ScenarioPart) (st : State) (ts : List Turn) (t : Turn) → state_after s st (ts ++ t ∷ []) ≡ after_turn s (state_after s st ts) t
state_more s st [] t = refl
state_more s st (u ∷ ts) t = state_more s (after_turn s st u) ts t

visit_more : (s : ScenarioPart) (v : Visit Errand) (st : State) (ts : List Turn) (t : Turn) → visit_from s v st (ts ++ t ∷ []) ≡ visit_after s (visit_from s v st ts) (state_after s st ts) t
visit_more s v st [] t = refl
visit_more s v st (u ∷ ts) t = visit_more s (visit_after s v st u) (after_turn s st u) ts t

-- the turn makes the planned step
IsPlanned : ScenarioPart → Visit Errand → State → Turn → Type 0
IsPlanned s v st t = rule_made s (middle s st t) t ≡ (planned (plan_of s) v (middle s st t)).rule

follows_more : (s : ScenarioPart) (v : Visit Errand) (st : State) (ts : List Turn) (t : Turn) → FollowsFrom s v st ts → IsPlanned s (visit_from s v st ts) (state_after s st ts) t → FollowsFrom s v st (ts ++ t ∷ [])
unfolding IsPlanned
follows_more s v st [] t follows one = (one, tt)
follows_more s v st (u ∷ ts) t follows one = (follows.0, follows_more s (visit_after s v st u) (after_turn s st u) ts t follows.1 one)

prompt_more : (s : ScenarioPart) (st : State) (ts : List Turn) (t : Turn) → ArePrompt s st ts → IsPrompt s (state_after s st ts) t → ArePrompt s st (ts ++ t ∷ [])
prompt_more s st [] t prompt one = (one, tt)
prompt_more s st (u ∷ ts) t prompt one = (prompt.0, prompt_more s (after_turn s st u) ts t prompt.1 one)

entries_more : (s : ScenarioPart) (st : State) (ts : List Turn) (t : Turn) (xs : List Entry) → entries_from s st (ts ++ t ∷ []) xs ≡ entries_turn s (state_after s st ts) t (entries_from s st ts xs)
entries_more s st [] t xs = refl
entries_more s st (u ∷ ts) t xs = entries_more s (after_turn s st u) ts t (entries_turn s st u xs)

noted_more : (s : ScenarioPart) (st : State) (ts : List Turn) (t : Turn) (q c : ℕ) → noted_from s st (ts ++ t ∷ []) q c ≡ noted_from s st ts q c ++ noted_turn s (state_after s st ts) t q c
noted_more s st [] t q c = append-nil (noted_turn s st t q c)
noted_more s st (u ∷ ts) t q c =
    ap (λ (ns : List Note). noted_turn s st u q c ++ ns) (noted_more s (after_turn s st u) ts t q c)
    ∙ sym (append_assoc (noted_turn s st u q c) (noted_from s (after_turn s st u) ts q c) (noted_turn s (state_after s (after_turn s st u) ts) t q c))

pub notes_more : (q c : ℕ) (ns ms : List Note) (rs : List Recorded) → with_notes q c (ns ++ ms) rs ≡ with_notes q c ms (with_notes q c ns rs)
notes_more q c [] ms rs = refl
notes_more q c (n ∷ ns) ms rs = notes_more q c ns ms (with_note q c n rs)

records_more : (s : ScenarioPart) (ts : List Turn) (t : Turn) (q c : ℕ) → records_after s (ts ++ t ∷ []) q c ≡ with_notes q c (noted_turn s (state_after s (start s) ts) t q c) (records_after s ts q c)
records_more s ts t q c =
    ap (λ (ns : List Note). with_notes q c ns (opened_records s.links q c)) (noted_more s (start s) ts t q c)
    ∙ notes_more q c (noted_from s (start s) ts q c) (noted_turn s (state_after s (start s) ts) t q c) (opened_records s.links q c)

steps_more : (ts : List Turn) (t : Turn) → steps_of (ts ++ t ∷ []) ≡ steps_of ts ++ steps_made t.made
steps_more [] t = append-nil (steps_made t.made)
steps_more (u ∷ ts) t = ap (λ xs. steps_made u.made ++ xs) (steps_more ts t) ∙ sym (append_assoc (steps_made u.made) (steps_of ts) (steps_made t.made))

-- a node that has made some turns and makes one more, with the names of its parts
pub made_more : (old new : NodeView) (made : Option Marked) (x : MakesTurn old new made) (ts : List Turn) → HasMade old ts → HasMade new (ts ++ x.turn ∷ [])
unfolding IsPlanned
made_more old new made x ts h =
    let s = old.part in
    let t = x.turn in
    let st = state_after s (start s) ts in
    let v = visit_from s (first_visit s) (start s) ts in
    let us = ts ++ t ∷ [] in
    let may : May s st t = subst (λ (y : State). May s y t) h.state x.may in
    let prompt : IsPrompt s st t = subst (λ (y : State). IsPrompt s y t) h.state x.prompt in
    let here : IsPlanned s old.visit st t = subst (λ (y : State). IsPlanned s old.visit y t) h.state x.follows in
    let planned : IsPlanned s v st t = subst (λ (w : Visit Errand). IsPlanned s w st t) h.visit here in
    let runs : Runs s us = runs_more s (start s) ts t h.runs may in
    let visited : Visited s us = record {
      follows = follows_more s (first_visit s) (start s) ts t h.visited.follows planned;
      prompt = prompt_more s (start s) ts t h.visited.prompt prompt;
    } in
    let state : new.state ≡ state_after s (start s) us =
    x.state ∙ ap (λ (y : State). after_turn s y t) h.state ∙ sym (state_more s (start s) ts t) in
    let visit : new.visit ≡ visit_from s (first_visit s) (start s) us =
    x.visit ∙ ap (λ (y : State). visit_after s old.visit y t) h.state
    ∙ ap (λ (w : Visit Errand). visit_after s w st t) h.visit ∙ sym (visit_more s (first_visit s) (start s) ts t) in
    let entries : new.entries ≡ entries_from s (start s) us [] =
    x.entries ∙ ap (λ (y : State). entries_turn s y t old.entries) h.state
    ∙ ap (λ (xs : List Entry). entries_turn s st t xs) h.entries ∙ sym (entries_more s (start s) ts t []) in
    let noted : (q c : ℕ) → q < s.count → c < CHANNELS → records_at new q c ≡ records_after s us q c =
    λ q c low lower.
    x.records q c low lower ∙ ap (λ (y : State). with_notes q c (noted_turn s y t q c) (records_at old q c)) h.state
    ∙ ap (λ (rs : List Recorded). with_notes q c (noted_turn s st t q c) rs) (h.records q c low lower)
    ∙ sym (records_more s ts t q c) in
    let steps : new.steps ≡ steps_of us =
    x.steps ∙ ap (λ xs. xs ++ steps_made made) h.steps ∙ ap (λ m. steps_of ts ++ steps_made m) (sym x.step) ∙ sym (steps_more ts t) in
    let e = sym x.part in
    record {
      runs = subst (λ (a : ScenarioPart). Runs a us) e runs;
      visited = subst (λ (a : ScenarioPart). Visited a us) e visited;
      state = subst (λ (a : ScenarioPart). new.state ≡ state_after a (start a) us) e state;
      visit = subst (λ (a : ScenarioPart). new.visit ≡ visit_from a (first_visit a) (start a) us) e visit;
      entries = subst (λ (a : ScenarioPart). new.entries ≡ entries_from a (start a) us []) e entries;
      records = subst (λ (a : ScenarioPart). (q c : ℕ) → q < a.count → c < CHANNELS → records_at new q c ≡ records_after a us q c) e noted;
      steps = steps;
    }
