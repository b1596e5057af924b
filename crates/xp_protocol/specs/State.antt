-- What a partition knows, as a product by what its rules may change: itself, each partner, and each
-- end of a channel.
use Rattle.std.specs.Prelude.{ℕ, Bool, true, false, ◌||◌, ◌&&◌, not, nat_lt, if◌then◌else◌, ◌+◌, ◌^◌, bit_or, List, [], ◌∷◌, slice_index_or, slice_set, replicate, Option, Some, None, is_some, ◌*◌, ◌/◌, ◌%◌}
use Rattle.xp_base.specs.declared.layout.TheConstants.{CHANNELS, LINES, LINES_VERSION}
use Rattle.xp_base.specs.declared.body.TheConstants.{LINE_BYTES}
use Rattle.xp_base.specs.declared.link.LinkState.{LinkState}
use Rattle.xp_base.specs.declared.link.LinkState.TheVariants.{Idle, Opening, Connected, Closing}
use Rattle.xp_base.specs.declared.answer.SendAnswer.{SendAnswer}
use Rattle.xp_protocol.specs.declared.refusal.TakeRefusal.{TakeRefusal}
use Rattle.xp_base.specs.declared.answer.ReleaseAnswer.{ReleaseAnswer}
use Rattle.xp_base.specs.declared.answer.DrainAnswer.{DrainAnswer}
use Rattle.xp_base.specs.declared.answer.RegisterAnswer.{RegisterAnswer}
use Rattle.xp_base.specs.declared.answer.UnregisterAnswer.{UnregisterAnswer}
use Rattle.xp_base.specs.declared.reason.Reason.{Reason}
use Rattle.xp_base.specs.Kinds.{Kinds, no_kinds}
use Rattle.xp_protocol.specs.declared.contact.Size.{Size as RegisteredSize}
use Rattle.xp_protocol.specs.declared.contact.Replied.{Replied as LoadedReply}
use Rattle.xp_protocol.specs.declared.contact.Contact.{Contact as MetContact}
use Rattle.xp_protocol.specs.declared.contact.Look.{Look}
use Rattle.xp_protocol.specs.declared.contact.Look.TheVariants.{Unseen}
use Rattle.xp_protocol.specs.declared.contact.PartnerState.{PartnerState}
use Rattle.xp_protocol.specs.declared.contact.PartnerState.TheVariants.{Inactive, Active}
use Rattle.xp_script.specs.declared.part.Link.{Link}
use Rattle.xp_script.specs.declared.part.ScenarioPart.{ScenarioPart}
use Rattle.xp_script.specs.Settings.{minor_of}
use Rattle.xp_script.specs.Opening.{version_word}
use Rattle.xp_protocol.specs.Records.{first_session}
use Rattle.xp_protocol.specs.Sending.{Sending, new_sending}
use Rattle.xp_protocol.specs.Pulling.{Pulling, new_pulling}
use Rattle.xp_protocol.specs.Releasing.{Releasing, new_releasing}

-- the size for which a channel is registered, and the sessions of a contact
abbrev pub Size : Type 0
Size = RegisteredSize

abbrev pub Contact : Type 0
Contact = MetContact

-- a reply word that was loaded, and whether it is the place where the partner's entries for this
-- end begin
abbrev pub Replied : Type 0
Replied = LoadedReply

-- the handshake of one epoch: the contact that it is of, whether both versions know entries of
-- several lines, which control flags were sent and got, why it closes, the sizes that both ends ask
-- for, the own one from the open request that is sent and the partner's from the one that is
-- handled, which flags were taken and not handled, and the arguments that were loaded for them,
-- whether a message request is owed, and what was stored for this epoch: which counters as 0, and
-- which arguments
pub record Shake : Type 0 where
  pub meet : Option Contact
  pub both_new : Bool
  pub sent : Kinds
  pub got : Kinds
  pub reason : Option Reason
  pub own_size : Option Size
  pub their_size : Option Size
  pub taken : Kinds
  pub request : Option ℕ
  pub reply : Option Replied
  pub code : Option ℕ
  pub owes_message : Bool
  pub get_zero : Bool
  pub put_zero : Bool
  pub request_put : Option ℕ
  pub reply_put : Bool
  pub code_put : Bool

-- the answers that are decided and not given
pub record Decided : Type 0 where
  pub send : Option SendAnswer
  pub take : Option TakeRefusal  -- a message is found when the answer is given
  pub release : Option ReleaseAnswer
  pub drain : Option DrainAnswer
  pub register : Option RegisterAnswer
  pub unregister : Option UnregisterAnswer

-- the numbers of the copies that go on
pub record Going : Type 0 where
  pub counters : ℕ
  pub entries : ℕ

-- all that an epoch's end forgets: what was sent, received and released in it, and what waits
pub record Sides : Type 0 where
  pub send : Sending
  pub pull : Pulling
  pub ack : Releasing
  pub pending_notices : List ℕ  -- asked for and not yet told as delivered, the lowest first
  pub local_get : ℕ  -- the last get that this end stored
  pub releasing : Bool  -- whether a release waits for the store of get
  pub draining : Bool  -- whether a drain waits

-- one end of a channel
pub record End : Type 0 where
  pub registration : Option Size
  pub epoch : ℕ
  pub shake : Shake
  pub sides : Sides
  pub ended : List ℕ  -- whose connection ended, which is still to be told, the lowest first
  pub closed : List Reason  -- why the connections of this boot ended, the first one first
  pub closed_asked : ℕ  -- how many times this boot's script waited, or waits, for the end of one
  pub decided : Decided

-- the own memory for a partner: not written since the boot, free to be written, open to it, or
-- being left
pub data Area : Type 0 where
  Old : Area
  Off : Area
  Ready : Area
  Leaving : Area

-- a copy of the partner's record that goes on: how many words were loaded, whether it was begun
-- after the own echo was stored, its magic and its echo
pub record Reading : Type 0 where
  pub done : ℕ
  pub after_echo : Bool
  pub magic : ℕ
  pub echo : ℕ

-- how a partition stands to a partner: the own memory, its bit in the partner's engagement word,
-- and why it is to be deactivated. The first reason is kept
pub record Engage : Type 0 where
  pub area : Area
  pub bit : Bool
  pub state : PartnerState
  pub reason : Option Reason
  pub count : ℕ  -- how many times the own memory was opened in this boot
  pub session_put : Bool  -- which words were stored since the memory is free
  pub echo_put : Bool
  pub flags_put : Bool
  pub places_put : ℕ  -- a bit for each, as for the argument words and the counters
  pub args_put : ℕ
  pub counters_put : ℕ
  pub read : Option ℕ  -- the partner's session that was read since the bit was set
  pub echo : Option ℕ  -- the echo that was stored
  pub second : Bool  -- whether the second magic was stored
  pub shown : Bool  -- whether the partner has shown its second magic and the own session
  pub reading : Option Reading
  pub back_off : Bool  -- whether the own bit goes, since the partner's memory isn't open
  pub cleared_at : Option ℕ  -- in which turn of this boot the own bit was cleared last
  pub told : Bool  -- whether the partner was told that the own memory was closed
  pub deactivation_cleared : Bool  -- the partner's bit there, since the memory is free
  pub zeroed : Bool  -- whether the magic was stored as 0 in this boot, and the own bit cleared
  pub cleared : Bool

-- the numbers of the copies for a partner that go on
pub record PeerGoing : Type 0 where
  pub pages : ℕ
  pub records : ℕ
  pub beats : ℕ

abbrev pub no_numbers : PeerGoing
no_numbers = record { pages = 0; records = 0; beats = 0 }

-- how the heartbeat of a partner in contact is watched
pub record Watch : Type 0 where
  pub since : ℕ  -- the turn of the contact, and then that of the last check's last load
  pub last : Option ℕ  -- the count that the last check of this contact read
  pub words : List ℕ  -- the words so far of a check that goes on

abbrev pub new_watch : ℕ → Watch
new_watch turn = record { since = turn; last = None; words = [] }

pub record Peer : Type 0 where
  pub wanted : Bool
  pub look : Look  -- what the last whole look showed
  pub paging : List ℕ  -- the words so far of a look that goes on
  pub both_new : Bool  -- whether the last good look and the own page show versions that know lines
  pub flags_seen : ℕ  -- the flag words that were taken since no flag waited to be handled
  pub numbers : PeerGoing
  pub engage : Engage
  pub contact : Option Contact
  pub watch : Watch
  pub links : List End
  pub going : List Going  -- by channel: an end knows no numbers of copies

-- a partition that halted makes no turn any more: its stamp couldn't be raised
pub data Life : Type 0 where
  Booting : Life
  Up : Life
  Halted : Life

-- a boot: the own stamp that was read, and which own words were stored as 0; which magics and bits,
-- the partners tell
pub record Boot : Type 0 where
  pub read : Option ℕ
  pub mask : Bool
  pub offline : Bool

abbrev pub no_boot : Boot
no_boot = record { read = None; mask = false; offline = false }

-- the own heartbeat, as it was stored last: the mask, the count of this boot, and the offline
-- count, with the number of the command for which it was stored, 0 where it was for none
pub record Beats : Type 0 where
  pub mask : ℕ
  pub count : ℕ
  pub offline : ℕ
  pub stored_for : ℕ

abbrev pub masked_beats : ℕ → Beats
masked_beats mask = record { mask = mask; count = 0; offline = 0; stored_for = 0 }

-- how many copies of each kind were begun, over all boots
pub record Copies : Type 0 where
  pub pages : ℕ
  pub beats : ℕ
  pub records : ℕ
  pub args : ℕ
  pub counters : ℕ
  pub get : ℕ
  pub entries : ℕ

-- what counts over all boots: boots, turns, messages that were put, and copies
pub record Clock : Type 0 where
  pub boots : ℕ
  pub turns : ℕ
  pub puts : ℕ
  pub copies : Copies

-- the script of this boot: how many commands were begun, whether the last of them is in progress,
-- and after how many turns it was begun
pub record Script : Type 0 where
  pub begun : ℕ
  pub doing : Bool
  pub since : ℕ

pub record State : Type 0 where
  pub stopped : Bool  -- whether it stopped as planned: then it makes no turn any more
  pub life : Life
  pub boot : Boot
  pub stamp : ℕ  -- that of the boot, once it is over
  pub clock : Clock
  pub beats : Beats
  pub script : Script
  pub peers : List Peer

-- the state of the link, and whether the partner's words may be copied
abbrev pub state_by : Option Reason → Bool → Bool → LinkState
state_by (Some reason) opening connected = Closing reason
state_by None opening connected =
    if connected then Connected else (if opening then Opening else Idle)

abbrev pub both_complete : Shake → Bool
both_complete x = is_some x.meet && (x.sent.open_complete && x.got.open_complete)

abbrev pub shake_state : Shake → LinkState
shake_state x = state_by x.reason x.sent.open_request (both_complete x)

abbrev pub shake_connected : Shake → Bool
shake_connected x = both_complete x && not (is_some x.reason)

abbrev pub shake_copies : Shake → Bool
shake_copies x = both_complete x && not x.sent.close_reply

abbrev pub link_of : End → LinkState
link_of e = shake_state e.shake

abbrev pub is_connected : End → Bool
is_connected e = shake_connected e.shake

abbrev pub may_copy : End → Bool
may_copy e = shake_copies e.shake

-- the epoch is begun, and its connection has a record
abbrev pub any_kind : Kinds → Bool
any_kind x =
    x.open_complete || (x.open_request || (x.open_reply || (x.close_request || x.close_reply)))

abbrev pub shake_begun : Shake → Bool
shake_begun x = any_kind x.sent || is_some x.reason

abbrev pub is_begun : End → Bool
is_begun e = shake_begun e.shake

abbrev pub no_shake : Shake
no_shake =
    record {
      meet = None;
      both_new = false;
      sent = no_kinds;
      got = no_kinds;
      reason = None;
      own_size = None;
      their_size = None;
      taken = no_kinds;
      request = None;
      reply = None;
      code = None;
      owes_message = false;
      get_zero = false;
      put_zero = false;
      request_put = None;
      reply_put = false;
      code_put = false;
    }

abbrev pub nothing_decided : Decided
nothing_decided =
    record {
      send = None;
      take = None;
      release = None;
      drain = None;
      register = None;
      unregister = None;
    }

-- sides at which nothing was begun, for queues of these sizes: the own one, and the partner's
abbrev pub new_sides : Size → Size → Sides
new_sides own theirs =
    record {
      send = new_sending own.entries own.limit;
      pull = new_pulling theirs.entries theirs.limit;
      ack = new_releasing;
      pending_notices = [];
      local_get = 0;
      releasing = false;
      draining = false;
    }

-- sides at which nothing was begun, for queues of the sizes of those that are over
abbrev pub fresh_sides : Sides → Sides
fresh_sides x =
    new_sides (record {
      entries = x.send.entries;
      limit = x.send.limit;
    }) (record { entries = x.pull.entries; limit = x.pull.limit })

abbrev pub largest_size : Size
largest_size = record { entries = LINES; limit = LINE_BYTES }

-- an end at which nothing was begun: its channel isn't registered
abbrev pub idle_end : End
idle_end =
    record {
      registration = None;
      epoch = 0;
      shake = no_shake;
      sides = new_sides largest_size largest_size;
      ended = [];
      closed = [];
      closed_asked = 0;
      decided = nothing_decided;
    }

-- an end that is connected from the opening
abbrev pub first_contact : Contact
first_contact = record { own = first_session; theirs = first_session }

abbrev pub opening_kinds : Kinds
opening_kinds = record no_kinds { open_request = true; open_reply = true; open_complete = true }

abbrev pub size_of : Link → Size
size_of l = record { entries = l.entries; limit = l.limit }

-- the word of a size, and the size of a word
abbrev pub request_word : Size → ℕ
request_word z = z.limit + 65536 * z.entries

abbrev pub size_in : ℕ → Size
size_in w = record { entries = w / 65536; limit = w % 65536 }

abbrev pub warm_shake : Bool → Link → Shake
warm_shake new l =
    record no_shake {
      meet = Some first_contact;
      both_new = new;
      sent = opening_kinds;
      got = opening_kinds;
      own_size = Some (size_of l);
      their_size = Some (size_of l);
      get_zero = true;
      put_zero = true;
      request_put = Some (request_word (size_of l));
      reply_put = true;
    }

abbrev pub warm_end : Bool → Link → End
warm_end new l =
    record idle_end {
      registration = Some (size_of l);
      shake = warm_shake new l;
      sides = new_sides (size_of l) (size_of l);
    }

-- an end of the same partner whose channel isn't connected from the opening
abbrev pub first_met : Bool → End → End
first_met new e = record e { shake = record e.shake { meet = Some first_contact; both_new = new } }

unfoldable pub idle_links : List End
idle_links = replicate CHANNELS idle_end

unfoldable pub none_going : List Going
none_going = replicate CHANNELS (record { counters = 0; entries = 0 })

-- a partner that isn't in contact
abbrev pub cold_engage : Area → Engage
cold_engage area =
    record {
      area = area;
      bit = false;
      state = Inactive;
      reason = None;
      count = 0;
      session_put = false;
      echo_put = false;
      flags_put = false;
      places_put = 0;
      args_put = 0;
      counters_put = 0;
      read = None;
      echo = None;
      second = false;
      shown = false;
      reading = None;
      back_off = false;
      cleared_at = None;
      told = false;
      deactivation_cleared = false;
      zeroed = true;
      cleared = true;
    }

abbrev pub warm_engage : Engage
warm_engage =
    record (cold_engage Ready) {
      bit = true;
      state = Active;
      count = 1;
      read = Some 4294967297;
      echo = Some 4294967297;
      second = true;
      shown = true;
    }

abbrev pub cold_peer : Area → Peer
cold_peer area =
    record {
      wanted = true;
      look = Unseen;
      paging = [];
      both_new = false;
      flags_seen = 0;
      numbers = no_numbers;
      engage = cold_engage area;
      contact = None;
      watch = new_watch 0;
      links = idle_links;
      going = none_going;
    }

abbrev pub link_at : List End → ℕ → End
link_at links c = slice_index_or links c idle_end

abbrev pub peer_at : List Peer → ℕ → Peer
peer_at peers q = slice_index_or peers q (cold_peer Old)

abbrev pub end_at : List Peer → ℕ → ℕ → End
end_at peers q c = link_at (peer_at peers q).links c

abbrev pub peer_of : State → ℕ → Peer
peer_of st q = peer_at st.peers q

abbrev pub end_of : State → ℕ → ℕ → End
end_of st q c = end_at st.peers q c

-- one end of a partner's channels is replaced
abbrev pub set_link : Peer → ℕ → End → Peer
set_link p c x = record p { links = slice_set p.links c x }

abbrev pub set_end : List Peer → ℕ → ℕ → End → List Peer
set_end peers q c x = slice_set peers q (set_link (peer_at peers q) c x)

-- each item changes, by its number
abbrev pub each : {A : Type 0} → (ℕ → A → A) → ℕ → List A → List A
each f n [] = []
each f n (x ∷ xs) = f n x ∷ each f (n + 1) xs

-- the partner of a link that is connected from the opening is in contact from the opening, with all
-- its ends
abbrev pub warm_peer : Bool → Link → Peer → Peer
warm_peer new l p =
    record p {
      both_new = new;
      engage = warm_engage;
      contact = Some first_contact;
      links = slice_set (each (λ c e. first_met new e) 0 p.links) l.channel (warm_end new l);
    }

-- `new` says of each partner whether its version and the own one know entries of several lines
abbrev pub opened_peers : (ℕ → Bool) → List Link → List Peer → List Peer
opened_peers new [] peers = peers
opened_peers new (l ∷ ls) peers =
    opened_peers new ls
    (slice_set peers l.partner (warm_peer (new l.partner) l (peer_at peers l.partner)))

-- a partition with a link opens booted, with the own memory for each partner free; one without
-- boots first
abbrev pub booted_engage : Engage
booted_engage = record (cold_engage Old) { zeroed = false; cleared = false }

abbrev pub base_engage : List Link → Engage
base_engage [] = booted_engage
base_engage (l ∷ ls) = cold_engage Off

abbrev pub base_peer : List Link → Peer
base_peer ls = record (cold_peer Old) { engage = base_engage ls }

-- as many partners as there are partitions
unfoldable pub first_peers : ℕ → List Link → List Peer
first_peers count ls = replicate count (base_peer ls)

abbrev pub opening_life : List Link → Life
opening_life [] = Booting
opening_life (l ∷ ls) = Up

-- the partners of links
abbrev pub link_mask : List Link → ℕ
link_mask [] = 0
link_mask (l ∷ ls) = bit_or (2 ^ l.partner) (link_mask ls)

-- the stamp that the own word says at the opening
abbrev pub opening_stamp : List Link → ℕ
opening_stamp [] = 0
opening_stamp (l ∷ ls) = 1

-- the version word of the own page, or of a warm partner's, and whether two versions both know
-- entries of several lines
abbrev pub version_of : ScenarioPart → ℕ → ℕ
version_of s q = version_word (minor_of q s.minors)

abbrev pub are_new : ℕ → ℕ → Bool
are_new own theirs = not (nat_lt own LINES_VERSION) && not (nat_lt theirs LINES_VERSION)

abbrev pub opened_new : ScenarioPart → ℕ → Bool
opened_new s q = are_new (version_of s s.part) (version_of s q)

-- what is known at the opening, before any moment
abbrev pub opened_state : ScenarioPart → State
opened_state s = record {
  stopped = false;
  life = opening_life s.links;
  boot = no_boot;
  stamp = opening_stamp s.links;
  clock =
      record {
        boots = 1;
        turns = 0;
        puts = 0;
        copies = record {
          pages = 0;
          beats = 0;
          records = 0;
          args = 0;
          counters = 0;
          get = 0;
          entries = 0;
        };
      };
  beats = masked_beats (link_mask s.links);
  script = record { begun = 0; doing = false; since = 0 };
  peers = opened_peers (opened_new s) s.links (first_peers s.count s.links);
}
