-- What a command that is begun makes of the partners, by the end that it names; and when one can be
-- begun, or answered.
use Rattle.std.specs.Prelude.{◌≡◌, ℕ, ◌-◌, ◌^◌, ◌<◌, true, false, List, [], Option, Some, None}
use Rattle.xp_script.specs.declared.command.Command.{Command}
use Rattle.xp_protocol.specs.Effects.{Note}
use Rattle.xp_protocol.specs.State.{Peer, end_at}
use Rattle.xp_protocol.specs.Acts.{EndName, end_begun, peers_wanted}
use Rattle.xp_partition.specs.declared.keeping.Keeping.{Keeping}
use Rattle.xp_partition.specs.declared.life.Life.TheVariants.{Up}
use Rattle.xp_acts.specs.Ends.{peers_at, notes_at}

-- what the beginning of a command makes of the partners
abbrev pub peers_begun : Command → Option EndName → List Peer → List Peer
peers_begun x None peers = peers_wanted (Some x) peers
peers_begun x (Some n) peers =
    peers_at n.partner n.channel (end_begun (end_at peers n.partner n.channel) x) peers

abbrev pub notes_begun : Command → Option EndName → List Peer → ℕ → ℕ → List Note
notes_begun x None peers q c = []
notes_begun x (Some n) peers q c =
    notes_at n.partner n.channel (end_begun (end_at peers n.partner n.channel) x) q c

-- the boot and the number of the next command are those that an entry of the log can have
pub record CanLog (x : Keeping) : Type 0 where
  pub boots : x.clock.boots < 2 ^ 8
  pub begun : x.script.begun < 2 ^ 32 - 1

-- the partition is up, and no command is in progress
pub record CanBegin (x : Keeping) : Type 0 where
  pub up : x.life ≡ Up
  pub doing : x.script.doing ≡ false

pub record CanAnswer (x : Keeping) : Type 0 where
  pub up : x.life ≡ Up
  pub doing : x.script.doing ≡ true
