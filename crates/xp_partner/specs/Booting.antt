-- A partner in a boot that has just begun.
use Rattle.std.specs.Prelude.{List, [], ◌∷◌}
use Rattle.xp_protocol.specs.Linking.{booted_end}
use Rattle.xp_engage.specs.Partner.{booted_partner as booted_standing}
use Rattle.xp_channel.specs.Channel.{Channel, no_waiting}
use Rattle.xp_partner.specs.Partner.{Partner, of_standing}

abbrev pub each_booted : List Channel → List Channel
each_booted [] = []
each_booted (x ∷ xs) =
    record x { end = booted_end x.end; waiting = no_waiting } ∷ each_booted xs

abbrev pub booted : Partner → Partner
booted x = record (of_standing (booted_standing x.standing)) { channels = each_booted x.channels }
