-- Each end of a partner is that of its channel, between the partition and the partner.
use Rattle.std.specs.Prelude.{◌≡◌, ℕ, ◌<◌, List, length}
use Rattle.xp_base.specs.declared.layout.TheConstants.{CHANNELS}
use Rattle.xp_channel.specs.Channel.{Channel}
use Rattle.xp_partner.specs.Partner.{channel_at}

pub record IsNamed (own partner channel : ℕ) (x : Channel) : Type 0 where
  pub own_number : x.own ≡ own
  pub partner_number : x.partner ≡ partner
  pub channel_number : x.channel ≡ channel

pub record AreNamed (own partner : ℕ) (xs : List Channel) : Type 0 where
  pub four : length xs ≡ CHANNELS
  pub each : (c : ℕ) → c < CHANNELS → IsNamed own partner c (channel_at xs c)
