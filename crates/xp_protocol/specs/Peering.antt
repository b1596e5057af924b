-- The steps for one partner, and those of the partition as a whole, each by three clauses: when it
-- is permitted, its word, and what becomes of the partner and its ends, or of all partners.
use Rattle.std.specs.Prelude.{◌≡◌, ℕ, ◌^◌, ◌+◌, ◌*◌, ◌%◌, ◌<◌, ◌≤◌, ◌⊎◌, ◌||◌, bit_or, Bool, true, false, ◌&&◌, not, if◌then◌else◌, nat_eq, List, [], ◌∷◌, ◌++◌, length, slice_index, Option, Some, None, IsSome, is_some, nat_lt}
use Rattle.xp_base.specs.declared.layout.TheConstants.{CHANNELS, RECORD_WORDS, ARGS_WORDS, COUNTER_WORDS, STAMP, BEAT, MASK, OFFLINE, ACTIVATION, ENGAGED, DEACTIVATION, SIGNATURE, FIRST, SECOND, VARIABLES_AT, RECORDS_AT}
use Rattle.std.specs.Int.{bit_at}
use Rattle.xp_base.specs.declared.reason.Reason.{Reason}
use Rattle.xp_base.specs.declared.reason.Reason.TheVariants.{BadFlags, BadMagic, OtherGoingDown, CopyError, NoHeartbeat, BadArgs, Reactivating, BadVersion as BadVersionRead}
use Rattle.xp_base.specs.declared.session.Session.{Session}
use Rattle.xp_base.specs.declared.step.CopyKind.{CopyKind}
use Rattle.xp_base.specs.declared.step.CopyKind.TheVariants.{Page as PageCopy, Beat as BeatCopy, Record as RecordCopy}
use Rattle.xp_base.specs.declared.step.CopyMark.{CopyMark}
use Rattle.xp_protocol.specs.declared.contact.Look.{Look}
use Rattle.xp_protocol.specs.declared.contact.Look.TheVariants.{Unseen, Good, Absent, BadVersion}
use Rattle.xp_protocol.specs.declared.contact.PartnerState.TheVariants.{Inactive, Requested, Activating, Active, Deactivating}
use Rattle.xp_base.specs.Sessions.{session_word, session_of}
use Rattle.xp_protocol.specs.declared.rule.AreaWord.{AreaWord}
use Rattle.xp_protocol.specs.declared.rule.AreaWord.TheVariants.{SessionWord, EchoWord, PlaceWord, ArgsWord, FlagWord, CounterWord}
use Rattle.xp_protocol.specs.declared.rule.RecordField.{RecordField}
use Rattle.xp_protocol.specs.declared.rule.RecordField.TheVariants.{ArgsPlace, CountersPlace, FlagPlace, ChannelCount, Spare}
use Rattle.xp_base.specs.Kinds.{kinds_in, spare_in}
use Rattle.xp_base.specs.Places.{Place, Open, Record, Flag, Args, Counter, index_of}
use Rattle.xp_protocol.specs.declared.rule.PeerRule.{PeerRule}
use Rattle.xp_protocol.specs.declared.rule.PeerRule.TheVariants.{AskActivation, TakeFlags, CloseArea, ZeroMagic, ClearOldBit, Prepare, OpenArea, SetEngagementBit, ReadRecord, StoreEcho, StoreSecond, ClearEngagementBit, LookAtPage, CheckBeat, ClearDeactivationBit, TellPartner}
use Rattle.xp_protocol.specs.declared.rule.OwnRule.{OwnRule}
use Rattle.xp_protocol.specs.declared.rule.OwnRule.TheVariants.{ReadEngaged, TakeDeactivation, ReadStamp, ZeroMask, ZeroOffline, WriteStamp, StoreMask, TakeActivation, StoreBeat, StoreOffline}
use Rattle.xp_protocol.specs.Effects.{Effect, first_reason, Row, store, load_own, take_own, set_theirs, clear_theirs, clear_own, load_copy, Note}
use Rattle.xp_protocol.specs.Pulling.{is_copying}
use Rattle.xp_protocol.specs.State.{End, Boot, no_boot, Beats, PeerGoing, Watch, new_watch, Area, Old, Off, Ready, Leaving, Engage, Reading, Contact, Peer, cold_peer, booted_engage, link_at, peer_at, each, any_kind, are_new}
use Rattle.xp_protocol.specs.Linking.{flags_got, link_down, link_finished, link_joined, booted_end}

-- each end of a partner changes, by its channel
abbrev pub links_reason : (ℕ → End → Effect End (List Note)) → Peer → Option Reason
links_reason f p =
    first_reason (f 0 (link_at p.links 0)).reason
    (first_reason (f 1 (link_at p.links 1)).reason
    (first_reason (f 2 (link_at p.links 2)).reason (f 3 (link_at p.links 3)).reason))

abbrev pub all_links : (ℕ → End → Effect End (List Note)) → Peer → Effect Peer (ℕ → List Note)
all_links f p =
    record {
      local = record p { links = each (λ c e. (f c e).local) 0 p.links };
      reason = links_reason f p;
      notes = λ c. (f c (link_at p.links c)).notes;
    }

abbrev pub or_zero : Option ℕ → ℕ
or_zero None = 0
or_zero (Some v) = v

abbrev pub is_ready : Area → Bool
is_ready Old = false
is_ready Off = false
is_ready Ready = true
is_ready Leaving = false

-- a reason to deactivate a partner is given: the first one is kept, and one that comes while the
-- own memory isn't open is dropped
abbrev pub with_reason : Option Reason → Peer → Peer
with_reason reason p = record p {
  engage = record p.engage {
    reason = first_reason p.engage.reason (if is_ready p.engage.area then reason else None);
  };
}

-- what a step for a partner reads besides: the own number and version, the present turn, for how
-- many turns backing off lasts, how many lie between two checks of a heartbeat, 0 for no checks,
-- whether the mask that was stored has the partner's bit, the stamp of the boot, and in a boot
-- whether the last one was read
pub record Here : Type 0 where
  pub part : ℕ
  pub version : ℕ
  pub turn : ℕ
  pub wait : ℕ
  pub check : ℕ
  pub masked : Bool
  pub stamp : ℕ
  pub read : Bool

-- no step for a partner is made from a reason on until the own memory is closed
abbrev pub IsFree : Engage → Type 0
IsFree x = x.area ≡ Ready → x.reason ≡ None

abbrev pub same_peer : Peer → Effect Peer (ℕ → List Note)
same_peer p = record { local = p; reason = None; notes = λ c. [] }

-- a flag word has the flags of four channels alone
abbrev pub is_unspared : ℕ → ℕ → Bool
is_unspared w c = nat_eq (spare_in w c) 0

abbrev pub is_bad_flags : ℕ → Bool
is_bad_flags w =
    not (nat_lt w (2 ^ 32)
    && (is_unspared w 0 && (is_unspared w 1 && (is_unspared w 2 && is_unspared w 3))))

abbrev pub is_flagged : ℕ → ℕ → Bool
is_flagged w bit = nat_eq (bit_at w bit) 1

-- a flag waits to be handled, at an end or at any of a partner's
abbrev pub waits : End → Bool
waits e = any_kind e.shake.taken || e.shake.taken.msg_request

abbrev pub any_waits : List End → Bool
any_waits [] = false
any_waits (e ∷ es) = waits e || any_waits es

-- the flag words that were taken since no flag waited, with another one
abbrev pub with_flags : ℕ → Peer → Peer
with_flags w p = record p { flags_seen = if any_waits p.links then bit_or p.flags_seen w else w }

-- a reason to deactivate that an end gives: where it refuses a flag, with the flag words
abbrev pub end_reason : ℕ → Option Reason → Option Reason
end_reason seen (Some (BadFlags w)) = Some (BadFlags seen)
end_reason seen reason = reason

abbrev pub for_partner : Effect Peer (ℕ → List Note) → Effect Peer (ℕ → List Note)
for_partner f = record f { reason = end_reason f.local.flags_seen f.reason }

abbrev pub flags_taken : ℕ → Peer → Effect Peer (ℕ → List Note)
flags_taken w p = for_partner (all_links (λ c e. flags_got (kinds_in w c) e) (with_flags w p))

-- the connections to a partner go down, and a check of its heartbeat is over
abbrev pub left_engage : Engage → Engage
left_engage x =
    record x {
      area = Leaving;
      state = Deactivating;
      reading = None;
      back_off = false;
      told = false;
    }

abbrev pub area_left : Reason → Peer → Effect Peer (ℕ → List Note)
area_left reason p =
    all_links (λ c e. link_down reason e) (record p {
      contact = None;
      engage = left_engage p.engage;
      watch = record p.watch { words = [] };
    })

abbrev pub area_left_for : Option Reason → Peer → Effect Peer (ℕ → List Note)
area_left_for None p = same_peer p
area_left_for (Some reason) p = area_left reason p

-- the words that are stored before the own memory is open
abbrev pub IsAreaWord : AreaWord → Type 0
IsAreaWord (CounterWord c f) = (c < CHANNELS) × (f < COUNTER_WORDS)
IsAreaWord (ArgsWord c f) = (c < CHANNELS) × (f < ARGS_WORDS)
IsAreaWord x = Unit {0}

-- the words of a record that say where the words of the memory for partner q are
abbrev pub field_number : RecordField → ℕ
field_number ArgsPlace = 3
field_number CountersPlace = 4
field_number FlagPlace = 5
field_number ChannelCount = 6
field_number Spare = 7

abbrev pub field_word : ℕ → RecordField → ℕ
field_word q ArgsPlace = index_of (Args q 0 0)
field_word q CountersPlace = index_of (Counter q 0 0)
field_word q FlagPlace = index_of (Flag q)
field_word q ChannelCount = CHANNELS
field_word q Spare = 0

abbrev pub area_place : ℕ → AreaWord → Place
area_place q SessionWord = Record q 1
area_place q EchoWord = Record q 2
area_place q (PlaceWord x) = Record q (field_number x)
area_place q (ArgsWord c f) = Args q c f
area_place q FlagWord = Flag q
area_place q (CounterWord c f) = Counter q c f

-- the session under which the own memory is open, and the one under which it will be opened next
abbrev pub session_now : ℕ → Engage → Session
session_now stamp x = record { stamp = stamp; count = x.count }

abbrev pub session_next : ℕ → Engage → Session
session_next stamp x = record { stamp = stamp; count = x.count + 1 }

abbrev pub area_word : ℕ → ℕ → Engage → AreaWord → ℕ
area_word q stamp x SessionWord = session_word (session_next stamp x)
area_word q stamp x EchoWord = 0
area_word q stamp x (PlaceWord y) = field_word q y
area_word q stamp x (ArgsWord c f) = 0
area_word q stamp x FlagWord = 0
area_word q stamp x (CounterWord c f) = 0

abbrev pub prepared : AreaWord → Engage → Engage
prepared SessionWord x = record x { session_put = true; echo = None }
prepared EchoWord x = record x { echo_put = true; echo = None }
prepared FlagWord x = record x { flags_put = true; echo = None }
prepared (PlaceWord y) x =
    record x { places_put = bit_or x.places_put (2 ^ field_number y); echo = None }
prepared (ArgsWord c f) x = record x { args_put = bit_or x.args_put (2 ^ (4 * c + f)); echo = None }
prepared (CounterWord c f) x =
    record x { counters_put = bit_or x.counters_put (2 ^ (2 * c + f)); echo = None }

abbrev pub is_prepared : Engage → Bool
is_prepared x =
    x.session_put && (x.echo_put
    && (x.flags_put
    && (nat_eq x.counters_put 255
    && (nat_lt x.count 4294967295
    && (x.deactivation_cleared && (nat_eq x.places_put 248 && nat_eq x.args_put 65535))))))

-- all that opening the own memory asks, but the bit of the mask
abbrev pub is_off : Area → Bool
is_off Old = false
is_off Off = true
is_off Ready = false
is_off Leaving = false

abbrev pub may_open : Peer → Bool
may_open p = is_off p.engage.area && (p.wanted && is_prepared p.engage)

-- the partners for which the own memory is open, or about to be
abbrev pub is_open : Area → Bool
is_open Old = false
is_open Off = false
is_open Ready = true
is_open Leaving = true

abbrev pub is_masked : Peer → Bool
is_masked p = is_open p.engage.area || may_open p

abbrev pub mask_from : ℕ → List Peer → ℕ
mask_from q [] = 0
mask_from q (p ∷ peers) = bit_or (if is_masked p then 2 ^ q else 0) (mask_from (q + 1) peers)

-- a look: the words of the partner's page that say what it is and which boot it is in, in their
-- order
abbrev pub page_word : ℕ → ℕ
page_word n =
    if nat_eq n 0 then 0 else (if nat_eq n 1 then 1
    else (if nat_eq n 2 then 3 else (if nat_eq n 3 then 14 else 4)))

abbrev pub is_absent : List ℕ → Bool
is_absent words =
    not (nat_eq (slice_index words 0) SIGNATURE)
    || (not (nat_eq (slice_index words 2) VARIABLES_AT)
    || (not (nat_eq (slice_index words 3) RECORDS_AT)
    || (nat_eq (slice_index words 4) 0 || nat_lt 4294967295 (slice_index words 4))))

abbrev pub judged : List ℕ → Look
judged words =
    if is_absent words then Absent
    else (if nat_lt (slice_index words 1) 48 || nat_lt 63 (slice_index words 1)
    then BadVersion (slice_index words 1) else Good (slice_index words 1))

-- what a whole look says of a partner whose session stands as the own echo
abbrev pub booted_again : ℕ → ℕ → Option Reason
booted_again echo stamp =
    if nat_eq (session_of echo).stamp stamp then None
    else Some (Reactivating (session_of echo).stamp stamp)

abbrev pub look_reason : Option ℕ → Look → ℕ → Option Reason
look_reason None look stamp = None
look_reason (Some echo) Unseen stamp = None
look_reason (Some echo) Absent stamp = None
look_reason (Some echo) (BadVersion word) stamp = Some (BadVersionRead word)
look_reason (Some echo) (Good version) stamp = booted_again echo stamp

-- the partner's version counts from a good look on
abbrev pub both_new_by : ℕ → Look → Bool → Bool
both_new_by own (Good theirs) before = are_new own theirs
both_new_by own look before = before

abbrev pub page_read : ℕ → List ℕ → ℕ → Peer → Effect Peer (ℕ → List Note)
page_read own words w p =
    if nat_eq (length words) 5
    then record {
      local =
          record p {
            look = judged words;
            paging = [];
            both_new = both_new_by own (judged words) p.both_new;
          };
      reason = look_reason p.engage.echo (judged words) w;
      notes = λ c. [];
    }
    else record { local = record p { paging = words }; reason = None; notes = λ c. [] }

abbrev pub is_good : Look → Bool
is_good (Good version) = true
is_good look = false

-- a check of a partner's heartbeat: its count, its mask and its offline count, in their order
abbrev pub CHECK_WORDS : ℕ
CHECK_WORDS = 3

-- a check begins so many turns after the last one, or after contact; one that goes on is made to
-- its end
abbrev pub IsCheckDue : ℕ → ℕ → Watch → Type 0
IsCheckDue check turn x = x.words ≡ [] → x.since + check ≤ turn

-- the heartbeat isn't for the own partition, or the count is that of the last check though the
-- partner isn't offline
abbrev pub is_count : ℕ → Option ℕ → Bool
is_count count None = false
is_count count (Some last) = nat_eq last count

abbrev pub is_still : ℕ → Option ℕ → List ℕ → Bool
is_still part last words =
    not (is_flagged (slice_index words 1) part)
    || (nat_eq (slice_index words 2) 0 && is_count (slice_index words 0) last)

abbrev pub beat_reason : ℕ → Option ℕ → List ℕ → Option Reason
beat_reason part last words =
    if is_still part last words
    then Some (NoHeartbeat (or_zero last) (slice_index words 0) (slice_index words 1)) else None

-- what a check makes of the watch, of its words so far: the count of a check that found a heartbeat
-- is what the next one compares with
abbrev pub last_after : Option Reason → ℕ → Option ℕ → Option ℕ
last_after None count last = Some count
last_after (Some reason) count last = last

abbrev pub check_over : ℕ → ℕ → List ℕ → Watch → Watch
check_over part turn words x =
    record x {
      since = turn;
      last = last_after (beat_reason part x.last words) (slice_index words 0) x.last;
      words = [];
    }

abbrev pub watch_read : ℕ → ℕ → List ℕ → Watch → Watch
watch_read part turn words x =
    if nat_eq (length words) CHECK_WORDS then check_over part turn words x
    else record x { words = words }

abbrev pub watch_reason : ℕ → List ℕ → Watch → Option Reason
watch_reason part words x =
    if nat_eq (length words) CHECK_WORDS then beat_reason part x.last words else None

abbrev pub beat_read : Here → List ℕ → Peer → Effect Peer (ℕ → List Note)
beat_read x words p =
    record {
      local = record p { watch = watch_read x.part x.turn words p.watch };
      reason = watch_reason x.part words p.watch;
      notes = λ c. [];
    }

-- so many turns have passed since the own bit was cleared last
abbrev pub HasWaited : ℕ → ℕ → Option ℕ → Type 0
HasWaited wait turn None = Unit {0}
HasWaited wait turn (Some cleared) = cleared + wait ≤ turn

-- a copy of the partner's words goes on, of any kind but that of its heartbeat, which is over with
-- the contact
abbrev pub is_copied : End → Bool
is_copied e = is_copying e.sides.pull

abbrev pub any_copied : List End → Bool
any_copied [] = false
any_copied (e ∷ es) = is_copied e || any_copied es

abbrev pub copies_go_on : Peer → Bool
copies_go_on p = is_some p.engage.reading || (nat_lt 0 (length p.paging) || any_copied p.links)

-- contact is made where the own second magic is stored and the partner has shown its own; its
-- heartbeat is watched from then on
abbrev pub contact_of : ℕ → Engage → Contact
contact_of stamp x = record { own = session_now stamp x; theirs = session_of (or_zero x.echo) }

abbrev pub contact_made : ℕ → ℕ → Peer → Effect Peer (ℕ → List Note)
contact_made turn stamp p =
    all_links (λ c e. link_joined p.both_new (contact_of stamp p.engage) e)
    (record p {
      contact = Some (contact_of stamp p.engage);
      engage = record p.engage { state = Active };
      watch = new_watch turn;
    })

abbrev pub try_contact : ℕ → ℕ → Peer → Effect Peer (ℕ → List Note)
try_contact turn stamp p =
    if p.engage.second && (p.engage.shown && not (is_some p.contact))
    then contact_made turn stamp p else same_peer p

-- the partner's record: its magic, its session, its echo, the places of its words and the number of
-- its channels
abbrev pub first_magic : ℕ
first_magic = FIRST

abbrev pub second_magic : ℕ
second_magic = SECOND

abbrev pub is_magic : ℕ → Bool
is_magic w = nat_eq w first_magic || nat_eq w second_magic

abbrev pub read_place : Option Reading → ℕ
read_place None = 0
read_place (Some r) = r.done

abbrev pub say_reason : Option Reason → Peer → Effect Peer (ℕ → List Note)
say_reason o p = record { local = p; reason = o; notes = λ c. [] }

abbrev pub magic_read : Peer → ℕ → Effect Peer (ℕ → List Note)
magic_read p w =
    if nat_eq w 0 then say_reason (if is_some p.engage.echo then Some (OtherGoingDown 0)
    else None) (record p {
      engage = record p.engage {
        back_off = p.engage.back_off
            || not (is_some p.engage.echo);
      };
    })
    else (if is_magic w
    then same_peer (record p {
      engage = record p.engage {
        reading = Some (record {
          done = 1;
          after_echo = is_some p.engage.echo;
          magic = w;
          echo = 0;
        });
      };
    })
    else say_reason (Some (BadMagic w)) p)

abbrev pub session_read : Peer → Reading → ℕ → Effect Peer (ℕ → List Note)
session_read p r w =
    same_peer (record p {
      engage = record p.engage {
        read = Some w;
        reading = Some (record r { done = 2 });
      };
    })

abbrev pub echo_read : Peer → Reading → ℕ → Effect Peer (ℕ → List Note)
echo_read p r w =
    same_peer (record p {
      engage = record p.engage {
        reading = Some (record r {
          done = 3;
          echo = w;
        });
      };
    })

-- the words of the record that say where the partner's memory is must be right
abbrev pub is_wrong : ℕ → ℕ → ℕ → Bool
is_wrong part n w =
    (nat_eq n 3 && not (nat_eq w (field_word part ArgsPlace)))
    || ((nat_eq n 4 && not (nat_eq w (field_word part CountersPlace)))
    || ((nat_eq n 5 && not (nat_eq w (field_word part FlagPlace)))
    || (nat_eq n 6 && not (nat_eq w (field_word part ChannelCount)))))

abbrev pub place_read : ℕ → Peer → Reading → ℕ → Effect Peer (ℕ → List Note)
place_read part p r w =
    if is_wrong part r.done w
    then say_reason (Some (BadArgs w)) (record p { engage = record p.engage { reading = None } })
    else same_peer (record p {
      engage = record p.engage { reading = Some (record r { done = r.done + 1 }) };
    })

-- the last word: the partner has shown its second magic with the own session as its echo, in a copy
-- begun after the own echo was stored
abbrev pub has_shown : ℕ → Engage → Reading → Bool
has_shown stamp x r =
    r.after_echo && (nat_eq r.magic second_magic
    && nat_eq r.echo (session_word (session_now stamp x)))

abbrev pub last_read : ℕ → ℕ → Peer → Reading → Effect Peer (ℕ → List Note)
last_read turn stamp p r =
    if has_shown stamp p.engage r
    then try_contact turn stamp (record p {
      engage = record p.engage {
        shown = true;
        reading = None;
      };
    })
    else same_peer (record p { engage = record p.engage { reading = None } })

abbrev pub record_read : Here → Peer → Option Reading → ℕ → Effect Peer (ℕ → List Note)
record_read x p None w = magic_read p w
record_read x p (Some r) w =
    if nat_eq r.done 1 then session_read p r w
    else (if nat_eq r.done 2 then echo_read p r w
    else (if nat_eq r.done 7 then last_read x.turn x.stamp p r else place_read x.part p r w))

-- a copy goes on under its number, until a load of it fails
abbrev pub numbers_after : CopyKind → ℕ → PeerGoing → PeerGoing
numbers_after PageCopy number x = record x { pages = number }
numbers_after BeatCopy number x = record x { beats = number }
numbers_after RecordCopy number x = record x { records = number }
numbers_after kind number x = x

abbrev pub with_copy : CopyKind → ℕ → Peer → Peer
with_copy kind number p = record p { numbers = numbers_after kind number p.numbers }

abbrev pub reading_failed : CopyKind → Option Reading → Option Reading
reading_failed RecordCopy reading = None
reading_failed kind reading = reading

abbrev pub paging_failed : CopyKind → List ℕ → List ℕ
paging_failed PageCopy words = []
paging_failed kind words = words

-- a check that fails counts as the last one
abbrev pub watch_failed : ℕ → CopyKind → Watch → Watch
watch_failed turn BeatCopy x = record x { since = turn; words = [] }
watch_failed turn kind x = x

abbrev pub copy_ended : ℕ → CopyKind → Peer → Peer
copy_ended turn kind p =
    record p {
      paging = paging_failed kind p.paging;
      engage = record p.engage { reading = reading_failed kind p.engage.reading };
      watch = watch_failed turn kind p.watch;
    }

abbrev pub peer_failed : ℕ → Option CopyMark → Peer → Peer
peer_failed turn None p = p
peer_failed turn (Some mark) p = copy_ended turn mark.kind p

-- a look that fails deactivates no partner whose session doesn't stand as the own echo
abbrev pub fails_for : CopyKind → Option ℕ → Bool
fails_for PageCopy echo = is_some echo
fails_for kind echo = true

abbrev pub failed_reason : Option CopyMark → Peer → Option Reason
failed_reason None p = None
failed_reason (Some mark) p =
    if fails_for mark.kind p.engage.echo then Some (CopyError mark.kind mark.number) else None

-- a boot begins
abbrev pub booted_peer : Peer → Peer
booted_peer p =
    record (cold_peer Old) { engage = booted_engage; links = each (λ c e. booted_end e) 0 p.links }

abbrev pub peer_can : Here → Peer → PeerRule → Type 0
peer_can x p AskActivation =
    (p.wanted ≡ true) × (p.engage.state ≡ Inactive) × (is_good p.look ≡ true) × IsFree p.engage
peer_can x p TakeFlags = IsSome p.contact × (p.engage.reason ≡ None)
peer_can x p CloseArea = (p.engage.area ≡ Ready) × IsSome p.engage.reason
peer_can x p ZeroMagic = x.read ≡ true
peer_can x p ClearOldBit = x.read ≡ true
peer_can x p (Prepare y) = (p.engage.area ≡ Off) × IsAreaWord y
peer_can x p OpenArea =
    (p.engage.area ≡ Off) × (is_prepared p.engage ≡ true) × (p.wanted ≡ true) × (x.masked ≡ true)
peer_can x p SetEngagementBit =
    (p.engage.area ≡ Ready) × (p.engage.reason ≡ None) × (p.engage.bit ≡ false)
    × (is_good p.look ≡ true) × (p.engage.state ≡ Requested)
    × HasWaited x.wait x.turn p.engage.cleared_at
peer_can x p ReadRecord =
    (p.engage.area ≡ Ready) × (p.engage.reason ≡ None) × (p.engage.bit ≡ true) × (p.contact ≡ None)
    × (p.engage.state ≡ Activating) × (read_place p.engage.reading < RECORD_WORDS)
peer_can x p StoreEcho =
    (p.engage.area ≡ Ready) × (p.engage.reason ≡ None) × (p.engage.bit ≡ true)
    × (p.engage.echo ≡ None) × (is_some p.engage.read ≡ true)
peer_can x p StoreSecond =
    (p.engage.area ≡ Ready) × (p.engage.reason ≡ None) × (is_some p.engage.echo ≡ true)
peer_can x p ClearEngagementBit =
    (p.engage.bit ≡ true) × (copies_go_on p ≡ false)
    × (((p.engage.area ≡ Ready) × (p.engage.reason ≡ None) × (p.engage.echo ≡ None)
    × (p.engage.back_off ≡ true)) ⊎ ((p.engage.area ≡ Leaving) × (p.engage.told ≡ true)))
peer_can x p LookAtPage = length p.paging < 5
peer_can x p CheckBeat =
    (p.engage.state ≡ Active) × (0 < x.check) × (length p.watch.words < CHECK_WORDS)
    × IsCheckDue x.check x.turn p.watch
peer_can x p ClearDeactivationBit = p.engage.area ≡ Off
peer_can x p TellPartner = (p.engage.area ≡ Leaving) × (p.engage.bit ≡ true)

abbrev pub peer_row : ℕ → ℕ → ℕ → Peer → PeerRule → Row
peer_row part stamp q p AskActivation = set_theirs (Open ACTIVATION) (2 ^ part)
peer_row part stamp q p TakeFlags = take_own (Flag q)
peer_row part stamp q p CloseArea = store (Record q 0) 0
peer_row part stamp q p ZeroMagic = store (Record q 0) 0
peer_row part stamp q p ClearOldBit = clear_theirs (Open ENGAGED) part
peer_row part stamp q p (Prepare x) = store (area_place q x) (area_word q stamp p.engage x)
peer_row part stamp q p OpenArea = store (Record q 0) first_magic
peer_row part stamp q p SetEngagementBit = set_theirs (Open ENGAGED) (2 ^ part)
peer_row part stamp q p ReadRecord =
    load_copy (Record part (read_place p.engage.reading)) RecordCopy (read_place p.engage.reading)
peer_row part stamp q p StoreEcho = store (Record q 2) (or_zero p.engage.read)
peer_row part stamp q p StoreSecond = store (Record q 0) second_magic
peer_row part stamp q p ClearEngagementBit = clear_theirs (Open ENGAGED) part
peer_row part stamp q p LookAtPage =
    load_copy (Open (page_word (length p.paging))) PageCopy (length p.paging)
peer_row part stamp q p CheckBeat =
    load_copy (Open (BEAT + length p.watch.words)) BeatCopy (length p.watch.words)
peer_row part stamp q p ClearDeactivationBit = clear_own (Open DEACTIVATION) q
peer_row part stamp q p TellPartner = set_theirs (Open DEACTIVATION) (2 ^ part)

abbrev pub peer_effect : Here → Peer → PeerRule → ℕ → Effect Peer (ℕ → List Note)
peer_effect x p AskActivation w =
    same_peer (record p { engage = record p.engage { state = Requested } })
peer_effect x p TakeFlags w =
    if is_bad_flags w then record { local = p; reason = Some (BadFlags w); notes = λ c. [] }
    else flags_taken w p
peer_effect x p CloseArea w = area_left_for p.engage.reason p
peer_effect x p ZeroMagic w = same_peer (record p { engage = record p.engage { zeroed = true } })
peer_effect x p ClearOldBit w = same_peer (record p { engage = record p.engage { cleared = true } })
peer_effect x p (Prepare y) w = same_peer (record p { engage = prepared y p.engage })
peer_effect x p OpenArea w =
    same_peer (record p {
      engage = record p.engage {
        area = Ready;
        count = p.engage.count + 1;
        second = false;
        shown = false;
        back_off = false;
      };
    })
peer_effect x p SetEngagementBit w =
    same_peer (record p {
      engage = record p.engage {
        bit = true;
        state = Activating;
        read = None;
        reading = None;
        back_off = false;
      };
    })
peer_effect x p ReadRecord w = record_read x p p.engage.reading w
peer_effect x p StoreEcho w =
    same_peer (record p { engage = record p.engage { echo = p.engage.read; back_off = false } })
peer_effect x p StoreSecond w =
    try_contact x.turn x.stamp (record p { engage = record p.engage { second = true } })
peer_effect x p ClearEngagementBit w =
    same_peer (record p {
      engage = record p.engage {
        bit = false;
        read = None;
        back_off = false;
        cleared_at = Some x.turn;
        state = if is_ready p.engage.area then Requested
            else p.engage.state;
      };
    })
peer_effect x p LookAtPage w = page_read x.version (p.paging ++ w ∷ []) w p
peer_effect x p CheckBeat w = beat_read x (p.watch.words ++ w ∷ []) p
peer_effect x p ClearDeactivationBit w =
    same_peer (record p { engage = record p.engage { deactivation_cleared = true } })
peer_effect x p TellPartner w = same_peer (record p { engage = record p.engage { told = true } })

-- each partner changes, by its number
abbrev pub all_peers : (ℕ → Peer → Effect Peer (ℕ → List Note)) → List Peer →
    Effect (List Peer) (ℕ → ℕ → List Note)
all_peers f peers =
    record {
      local = each (λ q p. (f q p).local) 0 peers;
      reason = None;
      notes = λ q. (f q (peer_at peers q)).notes;
    }

-- the own memory for a partner is free once the partner has left it: its connections are over
abbrev pub is_left : Engage → Bool
is_left x = is_left_by x.area x.bit where
  is_left_by : Area → Bool → Bool
  is_left_by Old bit = true
  is_left_by Off bit = false
  is_left_by Ready bit = false
  is_left_by Leaving bit = not bit

abbrev pub freed_engage : Engage → Engage
freed_engage x =
    record x {
      area = Off;
      state = Inactive;
      reason = None;
      session_put = false;
      echo_put = false;
      flags_put = false;
      places_put = 0;
      args_put = 0;
      counters_put = 0;
      deactivation_cleared = false;
      told = false;
      read = None;
      second = false;
      shown = false;
      back_off = false;
    }

abbrev pub area_off : Peer → Effect Peer (ℕ → List Note)
area_off p =
    all_links (λ c e. link_finished e) (record p { contact = None; engage = freed_engage p.engage })

abbrev pub peer_read : ℕ → ℕ → Peer → Effect Peer (ℕ → List Note)
peer_read w q p = if is_left p.engage && not (is_flagged w q) then area_off p else same_peer p

-- a partner whose session stands as the own echo said that it goes down
abbrev pub deactivation_heard : ℕ → ℕ → Peer → Effect Peer (ℕ → List Note)
deactivation_heard w q p =
    same_peer (if is_some p.engage.echo && is_flagged w q
    then with_reason (Some (OtherGoingDown w)) p else p)

-- what a step of the partition as a whole reads besides its partners: its boot, its heartbeat, and
-- of the script how many commands were begun, and what the one in progress makes of the offline
-- count, where it still has to store it
pub record Mine : Type 0 where
  pub boot : Boot
  pub beats : Beats
  pub begun : ℕ
  pub offline : Option ℕ

-- the next heartbeat, by a count of 64 bits
abbrev pub next_beat : ℕ → ℕ
next_beat count = (count + 1) % 2 ^ 64

abbrev pub own_can : ℕ → ℕ → Mine → List Peer → OwnRule → Type 0
own_can part count x peers ReadStamp = x.boot.read ≡ None
own_can part count x peers ZeroMask = IsSome x.boot.read
own_can part count x peers ZeroOffline = IsSome x.boot.read
own_can part count x peers WriteStamp =
    IsSome x.boot.read × (x.boot.mask ≡ true) × (x.boot.offline ≡ true)
    × ((q : ℕ) → q < count → (q ≡ part → ⊥) → ((peer_at peers q).engage.zeroed ≡ true)
    × ((peer_at peers q).engage.cleared ≡ true))
own_can part count x peers StoreBeat = x.beats.offline ≡ 0
own_can part count x peers StoreOffline = IsSome x.offline
own_can part count x peers m = Unit {0}

-- the stamp is the one that was read, plus 1
abbrev pub own_row : Mine → List Peer → OwnRule → Row
own_row x peers ReadEngaged = load_own (Open ENGAGED)
own_row x peers TakeDeactivation = take_own (Open DEACTIVATION)
own_row x peers ReadStamp = load_own (Open STAMP)
own_row x peers ZeroMask = store (Open MASK) 0
own_row x peers ZeroOffline = store (Open OFFLINE) 0
own_row x peers WriteStamp = store (Open STAMP) (or_zero x.boot.read + 1)
own_row x peers StoreMask = store (Open MASK) (mask_from 0 peers)
own_row x peers TakeActivation = take_own (Open ACTIVATION)
own_row x peers StoreBeat = store (Open BEAT) (next_beat x.beats.count)
own_row x peers StoreOffline = store (Open OFFLINE) (or_zero x.offline)

abbrev pub boot_after : Boot → OwnRule → ℕ → Boot
boot_after b ReadStamp w = record b { read = Some w }
boot_after b ZeroMask w = record b { mask = true }
boot_after b ZeroOffline w = record b { offline = true }
boot_after b WriteStamp w = no_boot
boot_after b m w = b

abbrev pub stamp_after : Boot → OwnRule → ℕ → ℕ
stamp_after b WriteStamp stamp = or_zero b.read + 1
stamp_after b m stamp = stamp

-- what becomes of the partners, and of the own heartbeat
abbrev pub none_changed : List Peer → Effect (List Peer) (ℕ → ℕ → List Note)
none_changed peers = record { local = peers; reason = None; notes = λ q c. [] }

abbrev pub own_effect : List Peer → OwnRule → ℕ → Effect (List Peer) (ℕ → ℕ → List Note)
own_effect peers ReadEngaged w = all_peers (peer_read w) peers
own_effect peers TakeDeactivation w = all_peers (deactivation_heard w) peers
own_effect peers m w = none_changed peers

abbrev pub beats_by : Mine → List Peer → OwnRule → Beats
beats_by x peers StoreMask = record x.beats { mask = mask_from 0 peers }
beats_by x peers StoreBeat = record x.beats { count = next_beat x.beats.count }
beats_by x peers StoreOffline = record x.beats { offline = or_zero x.offline; stored_for = x.begun }
beats_by x peers m = x.beats
