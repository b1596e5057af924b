-- The sides of an end as they are seen: whether they are there or not, each has a value.
use Rattle.std.specs.Prelude.{◌≡◌, ◌+◌, ◌≤◌, Bool, false, length, Option, Some}
use Rattle.xp_base.specs.declared.answer.TakeAnswer.{TakeAnswer}
use Rattle.xp_base.specs.declared.answer.TakeAnswer.TheVariants.{Taken}
use Rattle.xp_protocol.specs.declared.contact.Size.{Size}
use Rattle.xp_protocol.specs.Pulling.{Pulling}
use Rattle.xp_protocol.specs.Releasing.{Releasing, message_held}
use Rattle.xp_protocol.specs.State.{Sides, new_sides, fresh_sides}

pub record SidesView : Type 0 where
  pub sides : Sides
  pub ready : Bool  -- whether there is room for them

-- sides at which nothing was begun
abbrev pub new_view : Size → Size → Bool → SidesView
new_view own theirs ready = record { sides = new_sides own theirs; ready = ready }

abbrev pub renewed : SidesView → SidesView
renewed x = record { sides = fresh_sides x.sides; ready = false }

-- a message that was taken is held
abbrev pub held_after : Option TakeAnswer → Releasing → Releasing
held_after (Some (Taken number body)) x = message_held x
held_after a x = x

-- what was taken is released or held, and what was put by the partner and not released fits the
-- largest queue
pub record Fits (p : Pulling) (r : Releasing) : Type 0 where
  pub held : p.taken ≡ r.front + length r.released_from_front
  pub few : p.entries ≤ 8
  pub put : p.pulled_put ≤ r.front + 8
