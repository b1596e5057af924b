-- A partner that is in contact from the opening, with one more of its channels connected.
use Rattle.std.specs.Prelude.{ℕ, Bool, true, false, List, slice_set, is_some}
use Rattle.xp_protocol.specs.Linking.{link_joined, joined_end}
use Rattle.xp_protocol.specs.State.{Size, first_contact, idle_end}
use Rattle.xp_engage.specs.Partner.{Partner as Standing, warm_partner as warm_standing}
use Rattle.xp_channel.specs.Channel.{Channel, new_channel}
use Rattle.xp_channel.specs.Opening.{warm_in}
use Rattle.xp_partner.specs.Partner.{Partner, each_kept}

-- the ends come into contact, unless they are
abbrev pub first_met : Bool → Bool → List Channel → List Channel
first_met false new xs = each_kept (λ c e. link_joined new first_contact e) 0 xs
first_met true new xs = xs

-- an end that is connected from the opening
abbrev pub warm_channel : ℕ → ℕ → ℕ → Size → Bool → Channel
warm_channel own partner c z new =
    warm_in z.entries z.limit
    (record (new_channel own partner c) { end = joined_end new first_contact idle_end })

abbrev pub warmed_by : Standing → ℕ → Size → Partner → Partner
warmed_by s c z x = record x {
  standing = s;
  channels = slice_set (first_met (is_some x.standing.contact) s.both_new x.channels) c
      (warm_channel s.own s.partner c z s.both_new);
}

abbrev pub warmed : ℕ → ℕ → ℕ → Size → Partner → Partner
warmed theirs window c z x =
    warmed_by
    (warm_standing x.standing.own x.standing.partner x.standing.version theirs window
    x.standing.check) c z x
