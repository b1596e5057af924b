-- The messages that an end has taken and not released, and how far all are released.
use Rattle.std.specs.Prelude.{ℕ, ◌+◌, ◌-◌, Bool, true, false, ◌&&◌, nat_lt, not, List, [], ◌∷◌, ◌++◌, slice_get, slice_set, Option, Some, None}
use Rattle.xp_base.specs.declared.answer.ReleaseAnswer.{ReleaseAnswer}
use Rattle.xp_base.specs.declared.answer.ReleaseAnswer.TheVariants.{NotHeld, NotConnected}
use Rattle.xp_base.specs.declared.link.LinkState.{LinkState}
use Rattle.xp_base.specs.declared.link.LinkState.TheVariants.{Idle, Opening, Connected, Closing}

pub record Releasing : Type 0 where
  pub front : ℕ  -- all numbers below were released
  -- for each number that was taken, from the front on, whether it was released
  pub released_from_front : List Bool

abbrev pub new_releasing : Releasing
new_releasing = record { front = 0; released_from_front = [] }

-- a message is held from when it is taken until it is released
abbrev pub is_unreleased : Option Bool → Bool
is_unreleased None = false
is_unreleased (Some released) = not released

abbrev pub is_held : ℕ → Releasing → Bool
is_held number x =
    not (nat_lt number x.front)
    && is_unreleased (slice_get x.released_from_front (number - x.front))

-- the next message is taken
abbrev pub message_held : Releasing → Releasing
message_held x = record x { released_from_front = x.released_from_front ++ false ∷ [] }

-- the front moves past all that were released in a row
abbrev pub fronted : ℕ → List Bool → Releasing
fronted front [] = record { front = front; released_from_front = [] }
fronted front (false ∷ more) = record { front = front; released_from_front = false ∷ more }
fronted front (true ∷ more) = fronted (front + 1) more

-- the message of a number is released
abbrev pub message_released : ℕ → Releasing → Releasing
message_released number x =
    fronted x.front (slice_set x.released_from_front (number - x.front) true)

-- why a release is refused: there is no connection, or the message isn't held
abbrev pub unless_held : Bool → Option ReleaseAnswer
unless_held true = None
unless_held false = Some NotHeld

abbrev pub release_refusal : LinkState → ℕ → Releasing → Option ReleaseAnswer
release_refusal Connected number x = unless_held (is_held number x)
release_refusal Idle number x = Some NotConnected
release_refusal Opening number x = Some NotConnected
release_refusal (Closing reason) number x = Some NotConnected

-- a release that isn't refused takes place at its beginning
abbrev pub released_unless : Option ReleaseAnswer → ℕ → Releasing → Releasing
released_unless None number x = message_released number x
released_unless (Some refusal) number x = x

abbrev pub release_begun : LinkState → ℕ → Releasing → Releasing
release_begun state number x = released_unless (release_refusal state number x) number x
