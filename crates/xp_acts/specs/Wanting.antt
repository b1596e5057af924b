-- A partner that is wanted, or isn't any more, or has left.
use Rattle.std.specs.Prelude.{Bool, true, false, not, ◌&&◌}
use Rattle.xp_protocol.specs.Acts.{unwanted, wanted_again, is_gone}
use Rattle.xp_protocol.specs.State.{Peer}
use Rattle.xp_engage.specs.Learning.{wanted_as}
use Rattle.xp_partner.specs.Partner.{Partner}

abbrev pub wanting : Bool → Partner → Partner
wanting wanted x = record x { standing = wanted_as wanted x.standing }

-- what is known of a partner that is wanted, or isn't any more
abbrev pub peer_wanted : Bool → Peer → Peer
peer_wanted true p = wanted_again p
peer_wanted false p = unwanted p

-- a partner has left: it isn't wanted, isn't active any more, and the own memory isn't open to it
abbrev pub has_left : Peer → Bool
has_left p = not p.wanted && is_gone p.engage.area p.engage.state
