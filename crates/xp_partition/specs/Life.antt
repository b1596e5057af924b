-- Where a partition is in its boot, and what was done of it, as the definitions have it.
use Rattle.std.specs.Prelude.{Some}
use Rattle.xp_protocol.specs.State.{Life, Booting, Up, Halted, Boot}
use Rattle.xp_partition.specs.declared.life.Life.{Life as KeptLife}
use Rattle.xp_partition.specs.declared.life.Life.TheVariants as lives

abbrev pub life_seen : KeptLife → Life
life_seen lives.Booting = Booting
life_seen lives.Up = Up
life_seen (lives.Halted word) = Halted

-- a partition that halted has read its stamp
abbrev pub boot_seen : KeptLife → Boot → Boot
boot_seen (lives.Halted word) x = record x { read = Some word }
boot_seen life x = x
