-- The ring of the places that a partition goes round: its own place is 0, and those of its partners
-- are 1, 2 and so on, ascending.
use Rattle.std.specs.Prelude.{◌≡◌, ℕ, ◌+◌, ◌-◌, ◌<◌, ◌≤◌, Bool, ◌&&◌, ◌⊎◌, if◌then◌else◌, nat_lt, nat_eq, List, [], ◌∷◌}
use Rattle.xp_base.specs.declared.layout.TheConstants.{PARTS}
use Rattle.xp_rounds.specs.declared.rounds.TheConstants.{VISIT_TURNS}
use Rattle.xp_rounds.specs.declared.rounds.Place.{Place}
use Rattle.xp_rounds.specs.declared.rounds.Place.TheVariants.{Own, Partner}

-- the own number, how many places there are, which one was come to, and how many turns were made
-- there since
pub record Ring : Type 0 where
  pub own : ℕ
  pub count : ℕ
  pub at : ℕ
  pub made : ℕ

pub record IsRing (r : Ring) : Type 0 where
  pub own : r.own < r.count
  pub count : r.count ≤ PARTS
  pub at : r.at < r.count
  pub made : r.made < VISIT_TURNS

abbrev pub at_start : ℕ → ℕ → Ring
at_start own count = record { own = own; count = count; at = 0; made = 0 }

-- the place of a number: the partners above the own partition stand at their own numbers, those
-- below it one further on
abbrev pub place_at : ℕ → ℕ → Place
place_at own at =
    if nat_eq at 0 then Own else (if nat_lt own at then Partner at else Partner (at - 1))

-- the next place is come to
abbrev pub passed : Ring → Ring
passed r = record r { at = if nat_lt (r.at + 1) r.count then r.at + 1 else 0; made = 0 }

-- a turn was made at the place; `more` says whether another one is to be made there
abbrev pub after_turn : Bool → Ring → Ring
after_turn more r =
    if more && nat_lt (r.made + 1) VISIT_TURNS then record r { made = r.made + 1 } else passed r

-- the two calls by which a partition moves on its rounds
pub data Call : Type 0 where
  Made : Bool → Call
  Pass : Call

abbrev pub after_call : Call → Ring → Ring
after_call (Made more) r = after_turn more r
after_call Pass r = passed r

abbrev pub turns_in : List Call → ℕ
turns_in [] = 0
turns_in (Made more ∷ calls) = turns_in calls + 1
turns_in (Pass ∷ calls) = turns_in calls

-- place k was come to just now
abbrev pub IsCome : ℕ → Ring → Type 0
IsCome k r = (r.at ≡ k) × (r.made ≡ 0)

-- one of some calls comes to place k
abbrev pub ComesTo : ℕ → Ring → List Call → Type 0
ComesTo k r [] = ⊥
ComesTo k r (c ∷ calls) = IsCome k (after_call c r) ⊎ ComesTo k (after_call c r) calls
