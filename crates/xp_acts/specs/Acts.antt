-- What acts make of what a partition keeps.
use Rattle.std.specs.Prelude.{◌≡◌, ℕ, ◌<◌, List}
use Rattle.std.specs.List.{AllByRecursion}
use Rattle.xp_base.specs.declared.layout.TheConstants.{CHANNELS}
use Rattle.xp_base.specs.History.{Act, Begun, Answered, Noticed}
use Rattle.xp_protocol.specs.Effects.{with_notes}
use Rattle.xp_protocol.specs.Acts.{after_acts, MayActs}
use Rattle.xp_protocol.specs.Logged.{noted_acts}
use Rattle.xp_partition.specs.declared.keeping.Keeping.{Keeping}
use Rattle.xp_partition.specs.Keeping.{state_of, records_at, IsKept}

-- acts are permitted one after the other, what is known after them is what the definitions say, and
-- each end has recorded what it notes
pub record Acts (old new : Keeping) (acts : List Act) : Type 0 where
  pub may : MayActs old.part (state_of old) acts
  pub state : state_of new ≡ after_acts old.part (state_of old) acts
  pub records : (q c : ℕ) → q < old.part.count → c < CHANNELS
      → records_at new q c
      ≡ with_notes q c (noted_acts old.part (state_of old) acts q c) (records_at old q c)
  pub part : new.part ≡ old.part
  pub kept : IsKept new

-- an act that gives a notice
abbrev pub IsNotice : Act → Type 0
IsNotice Begun = ⊥
IsNotice Answered = ⊥
IsNotice (Noticed q c number how) = Unit {0}

-- some notices are given, and nothing is begun or answered
pub record Gives (old new : Keeping) : Type 0 where
  pub notices : List Act
  pub only : AllByRecursion IsNotice notices
  pub acts : Acts old new notices
