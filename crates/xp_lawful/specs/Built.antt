-- Which lawful scenarios the rules of today can run: those that use neither the network device nor
-- its channel, and poke no word.
use Rattle.std.specs.Prelude.{◌≡◌, ◌≢◌, ℕ, ◌<◌, [], ⊤}
use Rattle.std.specs.List.{AllByRecursion}
use Rattle.xp_script.specs.declared.limits.TheConstants.{DEVICE_CHANNEL}
use Rattle.xp_script.specs.declared.setting.Warm.{Warm}
use Rattle.xp_script.specs.declared.command.Command.{Command}
use Rattle.xp_script.specs.declared.command.Command.TheVariants as commands
use Rattle.xp_script.specs.declared.scenario.Scenario.{Scenario}
use Rattle.xp_script.specs.Lawful.{boots_of}

-- the network device isn't built
abbrev pub IsBuiltWarm : Warm → Type 0
IsBuiltWarm w = w.channel ≢ DEVICE_CHANNEL

-- a lawful send, take or release is on another channel than the device's
abbrev pub IsBuiltCommand : Command → Type 0
IsBuiltCommand (commands.Register q c entries limit) = c ≢ DEVICE_CHANNEL
IsBuiltCommand (commands.Unregister q c) = c ≢ DEVICE_CHANNEL
IsBuiltCommand (commands.Connected q c) = c ≢ DEVICE_CHANNEL
IsBuiltCommand (commands.Closed q c) = c ≢ DEVICE_CHANNEL
IsBuiltCommand (commands.Drain q c) = c ≢ DEVICE_CHANNEL
IsBuiltCommand (commands.Net frame) = ⊥
IsBuiltCommand (commands.Frames frames) = ⊥
IsBuiltCommand _ = ⊤

-- nothing writes the words from outside
abbrev pub HasNoPokes : Scenario → Type 0
HasNoPokes s = s.pokes ≡ []

pub record HasBuiltSettings (s : Scenario) : Type 0 where
  pub warms : AllByRecursion IsBuiltWarm s.warms
  pub pokes : HasNoPokes s

-- the scripts of partition p
abbrev pub IsBuiltPart : Scenario → ℕ → Type 0
IsBuiltPart s p = AllByRecursion (AllByRecursion IsBuiltCommand) (boots_of s p)

pub record IsBuilt (s : Scenario) : Type 0 where
  pub settings : HasBuiltSettings s
  pub parts : (p : ℕ) → p < s.count → IsBuiltPart s p
