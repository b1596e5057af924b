-- What the top call promises of any command: what it reads, when each status comes, and what is
-- written.
use Rattle.std.specs.Prelude.{◌≡◌, ℕ, ◌+◌, ◌<◌, ◌≤◌, if◌then◌else◌, List, [], length, take, Option, Some, None, IsSomeAnd}
use Rattle.std.specs.Io.KnownBytes.{Appends, Consumes, IsAtEnd}
use Rattle.std.specs.declared.string.String.{String}
use Rattle.std.specs.declared.alloc.Global.{Global}
use Rattle.xp_world.specs.declared.world.World.{World}
use Rattle.xp_tool.specs.declared.command.ToolCommand.{ToolCommand}
use Rattle.xp_tool.specs.declared.product.Product.{Product}
use Rattle.xp_tool.specs.declared.status.InputFault.{InputFault}
use Rattle.xp_tool.specs.Words.{command_of}
use Rattle.xp_tool.specs.Command.{is_plain, limit_of, IsRefused, Does, text_of, end_of}

-- the command, where it needs no threads
abbrev pub only_plain : Option ToolCommand → Option ToolCommand
only_plain None = None
only_plain (Some command) = if is_plain command then Some command else None

-- the command without threads that some words are
abbrev pub plain_command_of : List (String Global) → Option ToolCommand
plain_command_of words = only_plain (command_of words)

-- the command reads nothing
abbrev pub ReadsNothing : ToolCommand → Type 0
ReadsNothing command = limit_of command ≡ None

-- within its limit a command reads all bytes to their end; without one it reads nothing
abbrev pub ReadsWithin : Option ℕ → Option (List ℕ) → Option (List ℕ) → List ℕ → Type 0
ReadsWithin (Some limit) left left' input =
    Consumes left left' input × IsAtEnd left' × (length input ≤ limit)
ReadsWithin None left left' input = (input ≡ []) × (left' ≡ left)

-- the command read this input
abbrev pub Reads : ToolCommand → Option (List ℕ) → Option (List ℕ) → List ℕ → Type 0
Reads command left left' input = ReadsWithin (limit_of command) left left' input

-- the command read its input and made this of it
pub record Ran (command : ToolCommand) (left left' : Option (List ℕ)) (made : Product)
    : Type 0 where
  pub input : List ℕ
  pub read : Reads command left left' input
  pub done : Does command input made

-- the command was done, all of its text was written, and `end` is the world that is left
pub record Headline (command : ToolCommand) (left left' held held' : Option (List ℕ))
    (end : Option World) : Type 0 where
  pub made : Product
  pub ran : Ran command left left' made
  pub written : Appends held held' (text_of command made)
  pub is : end ≡ end_of made

-- the command was done, a front of its text was written, and `end` is the world that is left
pub record Cut (command : ToolCommand) (left left' held held' : Option (List ℕ))
    (end : Option World) : Type 0 where
  pub made : Product
  pub ran : Ran command left left' made
  pub count : ℕ
  pub written : Appends held held' (take count (text_of command made))
  pub is : end ≡ end_of made

-- the command was done, and a front of its text was written
abbrev pub WritesFront : ToolCommand → Option (List ℕ) → Option (List ℕ) → Option (List ℕ)
    → Option (List ℕ) → Type 0
WritesFront command left left' held held' =
    (end : Option World) × Cut command left left' held held' end

-- the command read its input, which has this fault
pub record IsBad (command : ToolCommand) (left left' : Option (List ℕ)) (fault : InputFault)
    : Type 0 where
  pub input : List ℕ
  pub read : Reads command left left' input
  pub refused : IsRefused command input fault

-- the command has this limit, and one byte more than it was read
pub record IsTooLong (command : ToolCommand) (left left' : Option (List ℕ)) (limit : ℕ)
    : Type 0 where
  pub is : limit_of command ≡ Some limit
  pub bytes : List ℕ
  pub read : Consumes left left' bytes
  pub long : length bytes ≡ limit + 1

-- what a source that has these bytes left tells of the input
abbrev pub told_within : Option ℕ → Option (List ℕ) → Option (List ℕ)
told_within (Some limit) left = left
told_within None left = Some []

abbrev pub IsWithin : Option ℕ → List ℕ → Type 0
IsWithin (Some limit) input = length input ≤ limit
IsWithin None input = Unit {0}

-- the input is told and within the limit, and this holds of it
abbrev pub IsToldAnd : ToolCommand → Option (List ℕ) → (List ℕ → Type 0) → Type 0
IsToldAnd command left P = IsSomeAnd (told_within (limit_of command) left)
    (λ input. IsWithin (limit_of command) input × P input)

-- the input is in the command's grammar, and in its limit
abbrev pub IsGood : ToolCommand → Option (List ℕ) → Type 0
IsGood command left = IsToldAnd command left
    (λ input. (fault : InputFault) → IsRefused command input fault → ⊥)

-- the input isn't in the command's grammar, and is in its limit
abbrev pub IsWrong : ToolCommand → Option (List ℕ) → Type 0
IsWrong command left = IsToldAnd command left
    (λ input. (fault : InputFault) × IsRefused command input fault)

-- more bytes than the command's limit are left
abbrev pub IsPastLimit : ToolCommand → Option (List ℕ) → Type 0
IsPastLimit command left = IsSomeAnd (limit_of command)
    (λ limit. IsSomeAnd left (λ input. limit < length input))
