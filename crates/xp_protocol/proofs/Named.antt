-- The end that a lawful command names is one of a peer.
use Rattle.std.proofs.Common.{ℕ, ◌<◌, Option, Some, None}
use Rattle.xp_script.specs.declared.command.Command.{Command}
use Rattle.xp_script.specs.declared.command.Command.TheVariants as commands
use Rattle.xp_script.specs.declared.part.ScenarioPart.{ScenarioPart}
use Rattle.xp_protocol.specs.Parts.{IsLawfulCommand}
use Rattle.xp_protocol.specs.Acts.{EndName, named_end}

-- the end is of one of so many partners and of a channel
abbrev pub IsNamed : ℕ → Option EndName → Type 0
IsNamed count None = Unit {0}
IsNamed count (Some n) = (n.partner < count) × (n.channel < 4)

pub named_low : (s : ScenarioPart) (x : Command) → IsLawfulCommand s x → IsNamed s.count (named_end x)
named_low s (commands.Register q c entries limit) h = (h.0.0, h.0.2)
named_low s (commands.Unregister q c) h = (h.0, h.2)
named_low s (commands.Connected q c) h = (h.0, h.2)
named_low s (commands.Closed q c) h = (h.0, h.2)
named_low s (commands.Send q c payload wait notify) h = (h.0.0, h.0.2)
named_low s (commands.Take q c wait) h = (h.0, h.2)
named_low s (commands.Release q c number) h = (h.0, h.2)
named_low s (commands.Drain q c) h = (h.0, h.2)
named_low s (commands.Net frame) h = tt
named_low s (commands.Frames count) h = tt
named_low s (commands.Deactivate q) h = tt
named_low s (commands.Activate q) h = tt
named_low s commands.Leave h = tt
named_low s (commands.Idle turns) h = tt
named_low s commands.Offline h = tt
named_low s commands.Online h = tt
