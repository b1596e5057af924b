-- The sides of an end before the open complete, with which they are made anew in the limit that is
-- agreed.
use Rattle.std.specs.Prelude.{◌≡◌, ℕ, true, false, List}
use Rattle.xp_base.specs.History.{Act, Event}
use Rattle.xp_script.specs.declared.scenario.Scenario.{Scenario}
use Rattle.xp_script.specs.Parts.{part_of}
use Rattle.xp_protocol.specs.State.{End, end_of}
use Rattle.xp_protocol.specs.Sending.{new_sending}
use Rattle.xp_protocol.specs.Pulling.{new_pulling}
use Rattle.xp_protocol.specs.Acts.{MayActs}
use Rattle.xp_protocol.specs.Reached.{state_at}
use Rattle.xp_protocol.specs.Promised.{IsLine, known_acted}

-- as long as the open complete of the epoch wasn't sent, no send is in progress and none was, no
-- copy goes on and nothing was copied; and the open complete is sent after both open requests
pub record IsAnew (e : End) : Type 0 where
  pub sending : e.shake.sent.open_complete ≡ false → e.sides.send
      ≡ new_sending e.sides.send.entries e.sides.send.limit
  pub receiving : e.shake.sent.open_complete ≡ false → e.sides.pull
      ≡ new_pulling e.sides.pull.entries e.sides.pull.limit
  pub requested : e.shake.sent.open_complete ≡ true → (e.shake.sent.open_request ≡ true)
      × (e.shake.got.open_request ≡ true)

-- each end, in contact or not, is anew after each turn and after the first acts of the next one
abbrev pub SidesAnew : Scenario → List Event → Type 0
SidesAnew s h =
    (p q c : ℕ) → IsLine s p q c → (acts : List Act) →
    MayActs (part_of s p) (state_at s h p) acts → IsAnew (end_of (known_acted s h p acts) q c)
