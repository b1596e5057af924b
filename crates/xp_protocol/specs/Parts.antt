-- A partition's part of a scenario, as the rules read it: the script of a boot, which loads fail,
-- what is planned for a moment, and the ranges of all numbers in it.
use Rattle.std.specs.Prelude.{◌≡◌, ℕ, ◌*◌, ◌-◌, ◌<◌, ◌≤◌, Bool, false, ◌&&◌, List, [], ◌∷◌, length, slice_index_or, nat_eq, nat_lt, Option, Some, None, ⊤}
use Rattle.std.specs.List.{list_any, AllByRecursion}
use Rattle.xp_base.specs.declared.body.TheConstants.{BODY_BYTES, SEND_BYTES}
use Rattle.xp_base.specs.declared.layout.TheConstants.{PARTS, CHANNELS, LINES}
use Rattle.xp_base.specs.declared.step.CopyMark.{CopyMark}
use Rattle.xp_base.specs.Entries.{lines}
use Rattle.xp_script.specs.declared.command.Command.{Command}
use Rattle.xp_script.specs.declared.command.Command.TheVariants as commands
use Rattle.xp_script.specs.declared.part.Link.{Link}
use Rattle.xp_script.specs.declared.part.ScenarioPart.{ScenarioPart}
use Rattle.xp_script.specs.declared.setting.Fault.{Fault}
use Rattle.xp_script.specs.declared.setting.Moment.{Moment}
use Rattle.xp_script.specs.declared.setting.Moment.TheVariants.{Put, Turn}
use Rattle.xp_script.specs.Lawful.{AreBytes}
use Rattle.xp_script.specs.Settings.{names}

-- the script of a boot, which counts from 1; a boot without one has nothing to do
abbrev pub script_in : ScenarioPart → ℕ → List Command
script_in s boot = slice_index_or s.scripts (boot - 1) []

-- one of the lines says that the load of this mark fails
abbrev pub is_among : CopyMark → List Fault → Bool
is_among mark faults = list_any (names mark) faults

-- a step fails exactly where it has a mark that a line names
abbrev pub fails_at : ScenarioPart → Option CopyMark → Bool
fails_at s None = false
fails_at s (Some mark) = is_among mark s.faults

-- a moment comes after a turn: when so many turns were made, or when the message of this number was
-- put in the turn. `earlier` messages were put before it, and `puts` with it
abbrev pub comes_at : ℕ → ℕ → ℕ → Moment → Bool
comes_at turns earlier puts (Turn t) = nat_eq turns t
comes_at turns earlier puts (Put k) = nat_eq puts k && nat_lt earlier puts

abbrev pub any_comes : ℕ → ℕ → ℕ → List Moment → Bool
any_comes turns earlier puts moments = list_any (comes_at turns earlier puts) moments

abbrev pub some_comes : ℕ → ℕ → ℕ → Option Moment → Bool
some_comes turns earlier puts None = false
some_comes turns earlier puts (Some moment) = comes_at turns earlier puts moment

-- a size that a request may have: some entries, payloads that an entry can carry, and no more lines
-- than a queue has
abbrev pub IsRequestSize : ℕ → ℕ → Type 0
IsRequestSize entries limit =
    (0 < entries) × (entries ≤ LINES) × (limit ≤ BODY_BYTES) × (entries * lines limit ≤ LINES)

-- a partner of partition `part` among `count`, and a channel
abbrev pub IsEndOf : ℕ → ℕ → ℕ → ℕ → Type 0
IsEndOf part count q c = (q < count) × (q ≡ part → ⊥) × (c < CHANNELS)

abbrev pub IsLawfulLink : ScenarioPart → Link → Type 0
IsLawfulLink s l = IsEndOf s.part s.count l.partner l.channel × IsRequestSize l.entries l.limit

abbrev pub AreLawfulLinks : ScenarioPart → List Link → Type 0
AreLawfulLinks s [] = Unit {0}
AreLawfulLinks s (l ∷ ls) = IsLawfulLink s l × AreLawfulLinks s ls

-- what the rules use of a lawful command: whom it names, and what it sends
abbrev pub IsLawfulCommand : ScenarioPart → Command → Type 0
IsLawfulCommand s (commands.Register q c entries limit) =
    IsEndOf s.part s.count q c × IsRequestSize entries limit
IsLawfulCommand s (commands.Unregister q c) = IsEndOf s.part s.count q c
IsLawfulCommand s (commands.Connected q c) = IsEndOf s.part s.count q c
IsLawfulCommand s (commands.Closed q c) = IsEndOf s.part s.count q c
IsLawfulCommand s (commands.Send q c payload wait notify) =
    IsEndOf s.part s.count q c × (length payload ≤ SEND_BYTES) × AreBytes payload
IsLawfulCommand s (commands.Take q c wait) = IsEndOf s.part s.count q c
IsLawfulCommand s (commands.Release q c number) = IsEndOf s.part s.count q c
IsLawfulCommand s (commands.Drain q c) = IsEndOf s.part s.count q c
IsLawfulCommand s x = ⊤

abbrev pub AreLawfulCommands : ScenarioPart → List Command → Type 0
AreLawfulCommands s xs = AllByRecursion (IsLawfulCommand s) xs

pub record IsLawfulPart (s : ScenarioPart) : Type 0 where
  pub count : s.count ≤ PARTS
  pub part : s.part < s.count
  pub links : AreLawfulLinks s s.links
  pub few : length s.links ≤ CHANNELS * s.count
  pub scripts : AllByRecursion (AreLawfulCommands s) s.scripts
