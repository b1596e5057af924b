-- One partner of a partition as it is kept, and how it stands for what the definitions say that is
-- known of a partner: how the partition stands to it, the words so far of a look at its page that
-- goes on, the numbers of the copies that go on, and the ends of their channels with their records
-- and the room that they have.
use Rattle.std.specs.Prelude.{ℕ, ◌+◌, List, [], ◌∷◌, map, slice_set, slice_index_or}
use Rattle.xp_protocol.specs.Effects.{Effect, Note}
use Rattle.xp_protocol.specs.State.{End, Peer, PeerGoing, Going, no_numbers}
use Rattle.xp_protocol.specs.Rules.{no_going}
use Rattle.xp_engage.specs.Partner.{Partner as Standing}
use Rattle.xp_channel.specs.Channel.{Channel, new_channel, kept, roomed}

pub record Partner : Type 0 where
  pub standing : Standing
  pub paging : List ℕ
  pub numbers : PeerGoing
  pub going : List Going
  pub channels : List Channel

abbrev pub channel_at : List Channel → ℕ → Channel
channel_at channels c = slice_index_or channels c (new_channel 0 0 0)

abbrev pub channel_of : Partner → ℕ → Channel
channel_of x c = channel_at x.channels c

abbrev pub going_at : Partner → ℕ → Going
going_at x c = slice_index_or x.going c no_going

-- what is known of an end, and of a partner with all its ends
abbrev pub end_seen : Channel → End
end_seen x = x.end

abbrev pub peer_seen : Partner → Peer
peer_seen x = record {
  wanted = x.standing.wanted;
  look = x.standing.look;
  paging = x.paging;
  both_new = x.standing.both_new;
  flags_seen = x.standing.flags_seen;
  numbers = x.numbers;
  engage = x.standing.engage;
  contact = x.standing.contact;
  watch = x.standing.watch;
  links = map end_seen x.channels;
  going = x.going;
}

-- a partner of which nothing is known
abbrev pub four_channels : ℕ → ℕ → List Channel
four_channels own partner =
    new_channel own partner 0 ∷ new_channel own partner 1 ∷ new_channel own partner 2
    ∷ new_channel own partner 3 ∷ []

abbrev pub four_going : List Going
four_going = no_going ∷ no_going ∷ no_going ∷ no_going ∷ []

abbrev pub of_standing : Standing → Partner
of_standing x = record {
  standing = x;
  paging = [];
  numbers = no_numbers;
  going = four_going;
  channels = four_channels x.own x.partner;
}

-- the partner with another end of a channel
abbrev pub with_channel : ℕ → Channel → Partner → Partner
with_channel c ch x = record x { channels = slice_set x.channels c ch }

-- each end changes by an effect, which is recorded
abbrev pub each_kept : (ℕ → End → Effect End (List Note)) → ℕ → List Channel → List Channel
each_kept f c [] = []
each_kept f c (x ∷ xs) = kept (f c x.end) x ∷ each_kept f (c + 1) xs

-- all of the ends but their room, which is that of others
abbrev pub each_roomed : List Channel → List Channel → List Channel
each_roomed [] ys = []
each_roomed (x ∷ xs) [] = x ∷ xs
each_roomed (x ∷ xs) (y ∷ ys) = roomed x y ∷ each_roomed xs ys

abbrev pub rooms_of : Partner → Partner → Partner
rooms_of x y = record x { channels = each_roomed x.channels y.channels }
