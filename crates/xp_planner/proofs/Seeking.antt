-- What is found among the errands of an agenda from one of them on, and where the places of a ring
-- are.
use Rattle.std.proofs.Common.{◌≡◌, ℕ, suc, ◌+◌, ◌<◌, ◌≤◌, Bool, true, false, List, [], ◌∷◌, length, get_or, drop, refl, ap, sym, ◌∙◌, subst, arith, add-one, inl, inr, ◌⊎◌, Option, Some, None}
use Rattle.std.specs.Prelude.{nat_lt, slice_get, is_some}
use Rattle.std.proofs.Math.Seq.{drop-cons}
use Rattle.std.proofs.Math.ListN.{drop_of_length-le}
use Rattle.std.proofs.lemmas.Option.{slice_get_within, get_or_from_slice_get, slice_get-get_or}
use Rattle.std.proofs.lemmas.Bool.{cases_lt}
use Rattle.std.proofs.lemmas.Bool.Decides.{nat_tests}
use Rattle.xp_rounds.specs.declared.rounds.Place.{Place}
use Rattle.xp_rounds.specs.Ring.{place_at}
use Rattle.xp_script.specs.declared.part.ScenarioPart.{ScenarioPart}
use Rattle.xp_rounds.specs.Visit.{Plan, Found, pick, seek}
use Rattle.xp_protocol.specs.declared.rule.Rule.{Rule}
use Rattle.xp_protocol.specs.State.{State}
use Rattle.xp_plan.specs.declared.errand.Agenda.{Agenda}
use Rattle.xp_plan.specs.declared.errand.Errand.{Errand}
use Rattle.xp_plan.specs.declared.errand.Errand.TheVariants as errands
use Rattle.xp_plan.specs.Plan.{errands_of, quota, asked, ask_by, plan_of}

cut : (es : List Errand) (at : ℕ) (e : Errand) → slice_get es at ≡ Some e → drop at es ≡ e ∷ drop (at + 1) es
cut es at e h = drop-cons es at e (slice_get_within es at e h) ∙ ap (λ (x : Errand). x ∷ drop (suc at) es) (get_or_from_slice_get es at e e h) ∙ ap (λ (n : ℕ). e ∷ drop n es) (sym (add-one at))

past : (es : List Errand) (at : ℕ) → slice_get es at ≡ None → length es ≤ at
past es at h = by (cases_lt at (length es)) where
  by : (at < length es) ⊎ (length es ≤ at) → length es ≤ at
  by (inr l) = l
  by (inl l) = let e : Some (get_or es at errands.Look) ≡ None = sym (slice_get-get_or es at errands.Look l) ∙ h in absurd (cc)

pub nothing_left : (x : Agenda) (at : ℕ) → slice_get (errands_of x) at ≡ None → drop at (errands_of x) ≡ []
nothing_left x at h = drop_of_length-le (errands_of x) (past (errands_of x) at h)

none_here : (b : Bool) (a : Option (Option Rule)) (es : List Errand) (used : ℕ) (later : Found Errand Rule) → (b ≡ false) ⊎ (a ≡ None) → pick b a es used later ≡ later
none_here false a es used later h = refl
none_here true None es used later h = refl
none_here true (Some x) es used later (inl e) = absurd (cc)
none_here true (Some x) es used later (inr e) = absurd (cc)

-- an errand that has no turn left, or asks for none, is passed
pub passed_on : (p : Plan State Errand Rule) (k : ℕ) (st : State) (es : List Errand) (at used : ℕ) (e : Errand) → slice_get es at ≡ Some e → (nat_lt used (p.quota e) ≡ false) ⊎ (p.ask k e used st ≡ None) → seek p k st (drop at es) used ≡ seek p k st (drop (at + 1) es) 0
passed_on p k st es at used e h none =
    ap (λ (xs : List Errand). seek p k st xs used) (cut es at e h)
    ∙ none_here (nat_lt used (p.quota e)) (p.ask k e used st) (e ∷ drop (at + 1) es) used (seek p k st (drop (at + 1) es) 0) none

here : (b : Bool) (a : Option (Option Rule)) (es : List Errand) (used : ℕ) (later : Found Errand Rule) (rule : Rule) → b ≡ true → a ≡ Some (Some rule) → pick b a es used later ≡ record { rest = es; used = used; turn = Some (Some rule) }
here true (Some (Some x)) es used later rule h k = cc
here true (Some None) es used later rule h k = absurd (cc)
here true None es used later rule h k = absurd (cc)
here false a es used later rule h k = absurd (cc)

-- an errand that asks for a step within its quota has the turn
pub found_here : (p : Plan State Errand Rule) (k : ℕ) (st : State) (es : List Errand) (at used : ℕ) (e : Errand) (rule : Rule) → slice_get es at ≡ Some e → used < p.quota e → p.ask k e used st ≡ Some (Some rule) → seek p k st (drop at es) used ≡ record { rest = drop at es; used = used; turn = Some (Some rule) }
found_here p k st es at used e rule h l is =
    let t : nat_lt used (p.quota e) ≡ true = grind (arith, nat_tests) in
    ap (λ (xs : List Errand). seek p k st xs used) (cut es at e h)
    ∙ here (nat_lt used (p.quota e)) (p.ask k e used st) (e ∷ drop (at + 1) es) used (seek p k st (drop (at + 1) es) 0) rule t is
    ∙ ap (λ (xs : List Errand). record { rest = xs; used = used; turn = Some (Some rule) }) (sym (cut es at e h))

pub above : (a b : ℕ) → b ≤ a → nat_lt a b ≡ false
above a b h = grind (arith, nat_tests)

-- the same of the plan of a partition, whose place is known
none_asked : (a : Option Rule) → is_some a ≡ false → asked a ≡ None
none_asked None h = refl
none_asked (Some rule) h = absurd (cc)

pub step_asked : (s : ScenarioPart) (k : ℕ) (place : Place) (st : State) (x : Agenda) (at used : ℕ) (e : Errand) (a : Option Rule) → place ≡ place_at s.part k → slice_get (errands_of x) at ≡ Some e → used < quota e → a ≡ ask_by st.life s place e used st → is_some a ≡ true → record { rest = drop at (errands_of x); used = used; turn = asked a } ≡ seek (plan_of s) k st (drop at (errands_of x)) used
step_asked s k place st x at used e None p h l is some = absurd (cc)
step_asked s k place st x at used e (Some rule) p h l is some = sym (found_here (plan_of s) k st (errands_of x) at used e rule h l (subst (λ (y : Place). asked (ask_by st.life s y e used st) ≡ Some (Some rule)) p (sym (ap asked is))))

pub none_asked_here : (s : ScenarioPart) (k : ℕ) (place : Place) (st : State) (x : Agenda) (at used : ℕ) (e : Errand) (a : Option Rule) → place ≡ place_at s.part k → slice_get (errands_of x) at ≡ Some e → a ≡ ask_by st.life s place e used st → is_some a ≡ false → seek (plan_of s) k st (drop at (errands_of x)) used ≡ seek (plan_of s) k st (drop (at + 1) (errands_of x)) 0
none_asked_here s k place st x at used e a p h is none = passed_on (plan_of s) k st (errands_of x) at used e h (inr (subst (λ (y : Place). asked (ask_by st.life s y e used st) ≡ None) p (sym (ap asked is) ∙ none_asked a none)))

pub quota_used : (s : ScenarioPart) (k : ℕ) (st : State) (x : Agenda) (at used : ℕ) (e : Errand) → slice_get (errands_of x) at ≡ Some e → quota e ≤ used → seek (plan_of s) k st (drop at (errands_of x)) used ≡ seek (plan_of s) k st (drop (at + 1) (errands_of x)) 0
quota_used s k st x at used e h l = passed_on (plan_of s) k st (errands_of x) at used e h (inl (above used (quota e) l))
