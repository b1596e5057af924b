-- How a partition spends its turns on its rounds. What is to be done at a place is a list of
-- errands, which is fixed when the place is come to. They are done in their order, and each has so
-- many turns of a visit at most: its quota. An errand that asks for no turn is passed, and so is a
-- place at which none asks for one.
use Rattle.std.specs.Prelude.{◌≡◌, ℕ, ◌+◌, Bool, true, false, if◌then◌else◌, nat_lt, nat_eq, List, [], ◌∷◌, Option, Some, None}
use Rattle.xp_rounds.specs.Ring.{Ring, passed, after_turn}

-- the errands of a place, by its number on the ring, the quota of an errand, and what an errand
-- asks for that has had so many turns in this visit: no turn (None), a turn without a step
-- (Some None), or a step by a rule
pub record Plan (State Errand Rule : Type 0) : Type 0 where
  pub errands : ℕ → State → List Errand
  pub quota : Errand → ℕ
  pub ask : ℕ → Errand → ℕ → State → Option (Option Rule)

-- where on the ring the partition is, the errands that are left there, and how many turns the first
-- of them has had
pub record Visit (Errand : Type 0) : Type 0 where
  pub ring : Ring
  pub rest : List Errand
  pub used : ℕ

-- the errands from the first one on that asks for a turn, the turns that it has had, and what it
-- asks for
pub record Found (Errand Rule : Type 0) : Type 0 where
  pub rest : List Errand
  pub used : ℕ
  pub turn : Option (Option Rule)

-- the rule of the next turn, where it makes a step, and the visit after it
pub record Planned (Errand Rule : Type 0) : Type 0 where
  pub visit : Visit Errand
  pub rule : Option Rule

-- the first errand has the turn where it may have another one and asks for it, and else a later one
abbrev pub pick : {Errand Rule : Type 0} → Bool → Option (Option Rule) → List Errand → ℕ →
    Found Errand Rule → Found Errand Rule
pick true (Some x) es used later = record { rest = es; used = used; turn = Some x }
pick true None es used later = later
pick false a es used later = later

-- the first of some errands of place k that asks for a turn
abbrev pub seek : {State Errand Rule : Type 0} → Plan State Errand Rule → ℕ → State →
    List Errand → ℕ → Found Errand Rule
seek p k st [] used = record { rest = []; used = 0; turn = None }
seek p k st (e ∷ es) used =
    pick (nat_lt used (p.quota e)) (p.ask k e used st) (e ∷ es) used (seek p k st es 0)

-- the errand that asks for a turn at a place that was come to just now, whose errands are given
-- then, and at the place of a visit
abbrev pub seek_anew : {State Errand Rule : Type 0} → Plan State Errand Rule → Ring → State →
    Found Errand Rule
seek_anew p r st = seek p r.at st (p.errands r.at st) 0

abbrev pub seek_on : {State Errand Rule : Type 0} → Plan State Errand Rule → Visit Errand →
    State → Found Errand Rule
seek_on p v st =
    if nat_eq v.ring.made 0 then seek_anew p v.ring st else seek p v.ring.at st v.rest v.used

-- the visit after the turn of the errand that was found
abbrev pub turn_spent : {Errand Rule : Type 0} → Ring → Found Errand Rule → Visit Errand
turn_spent r f = record { ring = after_turn true r; rest = f.rest; used = f.used + 1 }

-- what is planned at a place that was passed on to: where no errand asks for a turn there either,
-- the turn makes no step
abbrev pub planned_next : {Errand Rule : Type 0} → Ring → Found Errand Rule →
    Option (Option Rule) → Planned Errand Rule
planned_next r f None = record { visit = record { ring = r; rest = []; used = 0 }; rule = None }
planned_next r f (Some x) = record { visit = turn_spent r f; rule = x }

-- what is planned at the place of a visit: where no errand asks for a turn, the next place is
-- passed on to
abbrev pub planned_here : {State Errand Rule : Type 0} → Plan State Errand Rule → Ring → State →
    Found Errand Rule → Option (Option Rule) → Planned Errand Rule
planned_here p r st f (Some x) = record { visit = turn_spent r f; rule = x }
planned_here p r st f None =
    planned_next (passed r) (seek_anew p (passed r) st) (seek_anew p (passed r) st).turn

-- the rule of the next turn, and the visit after it
abbrev pub planned : {State Errand Rule : Type 0} → Plan State Errand Rule → Visit Errand →
    State → Planned Errand Rule
planned p v st = planned_here p v.ring st (seek_on p v st) (seek_on p v st).turn

-- how many turns of a visit some errands take at most
abbrev pub cost : {State Errand Rule : Type 0} → Plan State Errand Rule → List Errand → ℕ
cost p [] = 0
cost p (e ∷ es) = p.quota e + cost p es

-- some turns follow a plan. `mid` is the state in which a turn makes its step, `after` the state
-- after it, and `did` the rule that it followed there
abbrev pub Follows : {State Errand Rule T : Type 0} → Plan State Errand Rule →
    (State → T → State) → (State → T → State) → (State → T → Option Rule) → Visit Errand →
    State → List T → Type 0
Follows p mid after did v st [] = Unit {0}
Follows p mid after did v st (t ∷ ts) =
    let x = planned p v (mid st t) in
    (did (mid st t) t ≡ x.rule) × Follows p mid after did x.visit (after st t) ts
