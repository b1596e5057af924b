-- What the parts of the top call say to each other: what was read and made before anything is
-- written, and what the writing of it gives.
use Rattle.std.specs.Prelude.{◌≡◌, ℕ, ◌⊎◌, List, take, Option, None, IsSome, IsSomeAnd, Result, MatchResult}
use Rattle.std.specs.Io.KnownBytes.{Appends}
use Rattle.xp_outside.specs.Causes.{Rose}
use Rattle.xp_world.specs.declared.world.World.{World}
use Rattle.xp_tool.specs.declared.command.ToolCommand.{ToolCommand}
use Rattle.xp_tool.specs.declared.product.Product.{Product}
use Rattle.xp_tool.specs.declared.product.Made.{Made}
use Rattle.xp_scenario.specs.declared.fault.ScenarioFault.{ScenarioFault}
use Rattle.xp_scenario.specs.declared.fault.ScenarioFault.TheVariants as faults
use Rattle.xp_tool.specs.declared.status.InputFault.{InputFault}
use Rattle.xp_tool.specs.declared.status.InputFault.TheVariants.{BadLine, TooMany}
use Rattle.xp_tool.specs.declared.status.Status.{Status}
use Rattle.xp_tool.specs.declared.status.Status.TheVariants.{Ok, Usage, ReadFault, WriteFault, BadInput, TooLong, NoMemory}
use Rattle.xp_tool.specs.Command.{Does, text_of, IsRefused, end_of}
use Rattle.xp_tool.specs.Plain.{Reads, Headline, Cut, WritesFront, IsBad, IsTooLong}

-- what was made of the input, with its text
pub record IsMade (command : ToolCommand) (input : List ℕ) (made : Made) : Type 0 where
  pub done : Does command input made.product
  pub text : made.text.items ≡ text_of command made.product

-- the status of a text that spells no scenario
abbrev pub refusal_of : ScenarioFault → Status
refusal_of (faults.BadLine line column cause) = BadInput (BadLine line column cause)
refusal_of (faults.TooMany what limit) = BadInput (TooMany what limit)
refusal_of faults.Memory = NoMemory

-- why nothing was made of an input that these faults refuse
abbrev pub IsUnmadeBy : (InputFault → Type 0) → Status → Type 0
IsUnmadeBy Refuses Ok = ⊥
IsUnmadeBy Refuses Usage = ⊥
IsUnmadeBy Refuses ReadFault = ⊥
IsUnmadeBy Refuses WriteFault = ⊥
IsUnmadeBy Refuses (BadInput fault) = Refuses fault
IsUnmadeBy Refuses (TooLong limit) = ⊥
IsUnmadeBy Refuses NoMemory = Unit {0}

-- why nothing was made of the input
abbrev pub IsUnmade : ToolCommand → List ℕ → Status → Type 0
IsUnmade command input status = IsUnmadeBy (IsRefused command input) status

-- what the command made of a source: what it read, and what it made of that
pub record HasMade (command : ToolCommand) (left left' : Option (List ℕ)) (made : Made)
    : Type 0 where
  pub input : List ℕ
  pub read : Reads command left left' input
  pub is : IsMade command input made

-- why the command made nothing of a source; the numbers count its faults
abbrev pub MakesNothing : ToolCommand → Option (List ℕ) → Option (List ℕ) → ℕ → ℕ → Status → Type 0
MakesNothing command left left' faults faults' Ok = ⊥
MakesNothing command left left' faults faults' Usage = ⊥
MakesNothing command left left' faults faults' ReadFault = Rose faults faults'
MakesNothing command left left' faults faults' WriteFault = ⊥
MakesNothing command left left' faults faults' (BadInput fault) =
    IsBad command left left' fault × (faults' ≡ faults)
MakesNothing command left left' faults faults' (TooLong limit) =
    IsTooLong command left left' limit × (faults' ≡ faults)
MakesNothing command left left' faults faults' NoMemory = faults' ≡ faults

-- what the command made of a source, or why it made nothing
abbrev pub Makes : ToolCommand → Option (List ℕ) → Option (List ℕ) → ℕ → ℕ → Result Made Status
    → Type 0
Makes command left left' faults faults' result = MatchResult result
    (λ made. HasMade command left left' made × (faults' ≡ faults))
    (λ status. MakesNothing command left left' faults faults' status)

-- how the writing of a text ended; the numbers count the sink's faults
abbrev pub Wrote : Product → List ℕ → Option (List ℕ) → Option (List ℕ) → ℕ → ℕ → Option World
    → Status → Type 0
Wrote made text held held' faults faults' end Ok =
    Appends held held' text × (faults' ≡ faults) × (end ≡ end_of made)
Wrote made text held held' faults faults' end Usage = ⊥
Wrote made text held held' faults faults' end ReadFault = ⊥
Wrote made text held held' faults faults' end WriteFault =
    ((n : ℕ) × Appends held held' (take n text)) × Rose faults faults' × (end ≡ end_of made)
Wrote made text held held' faults faults' end (BadInput fault) = ⊥
Wrote made text held held' faults faults' end (TooLong limit) = ⊥
Wrote made text held held' faults faults' end NoMemory =
    ((n : ℕ) × Appends held held' (take n text)) × (faults' ≡ faults) × (end ≡ None)

-- when a status comes, and what it says of source, sink and end. `left` and `held` tell their
-- bytes, `reads` and `writes` count their faults.
abbrev pub Outcome : {A B : Type 0} → (A → Option (List ℕ)) → (A → ℕ) → (B → Option (List ℕ))
    → (B → ℕ) → Option ToolCommand → A → A → B → B → Option World → Status → Type 0
Outcome left reads held writes command source source' sink sink' end Ok =
    IsSomeAnd command (λ c. Headline c (left source) (left source') (held sink) (held sink') end)
    × (reads source' ≡ reads source) × (writes sink' ≡ writes sink)
Outcome left reads held writes command source source' sink sink' end Usage =
    (command ≡ None) × (source' ≡ source) × (sink' ≡ sink) × (end ≡ None)
Outcome left reads held writes command source source' sink sink' end ReadFault =
    IsSome command × Rose (reads source) (reads source') × (sink' ≡ sink) × (end ≡ None)
Outcome left reads held writes command source source' sink sink' end WriteFault =
    IsSomeAnd command (λ c. Cut c (left source) (left source') (held sink) (held sink') end)
    × (reads source' ≡ reads source) × Rose (writes sink) (writes sink')
Outcome left reads held writes command source source' sink sink' end (BadInput fault) =
    IsSomeAnd command (λ c. IsBad c (left source) (left source') fault)
    × (reads source' ≡ reads source) × (sink' ≡ sink) × (end ≡ None)
Outcome left reads held writes command source source' sink sink' end (TooLong limit) =
    IsSomeAnd command (λ c. IsTooLong c (left source) (left source') limit)
    × (reads source' ≡ reads source) × (sink' ≡ sink) × (end ≡ None)
Outcome left reads held writes command source source' sink sink' end NoMemory =
    ((sink' ≡ sink) ⊎ IsSomeAnd command
    (λ c. WritesFront c (left source) (left source') (held sink) (held sink')))
    × (reads source' ≡ reads source) × (writes sink' ≡ writes sink) × (end ≡ None)
