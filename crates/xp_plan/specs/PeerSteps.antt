-- The step for a partner that comes next, for each errand at its place, and those of the partition
-- as a whole.
use Rattle.std.specs.Prelude.{ℕ, zero, suc, ◌+◌, ◌*◌, ◌/◌, ◌%◌, Bool, true, false, not, ◌&&◌, ◌||◌, if◌then◌else◌, nat_lt, nat_le, nat_eq, List, [], ◌∷◌, length, Option, Some, None, is_some}
use Rattle.std.specs.Int.{bit_at}
use Rattle.xp_base.specs.declared.layout.TheConstants.{CHANNELS, ARGS_WORDS, COUNTER_WORDS, RECORD_WORDS}
use Rattle.xp_protocol.specs.declared.contact.PartnerState.{PartnerState}
use Rattle.xp_protocol.specs.declared.contact.PartnerState.TheVariants.{Inactive, Requested, Activating, Active}
use Rattle.xp_protocol.specs.declared.rule.AreaWord.{AreaWord}
use Rattle.xp_protocol.specs.declared.rule.AreaWord.TheVariants.{SessionWord, EchoWord, PlaceWord, ArgsWord, FlagWord, CounterWord}
use Rattle.xp_protocol.specs.declared.rule.RecordField.{RecordField}
use Rattle.xp_protocol.specs.declared.rule.RecordField.TheVariants.{ArgsPlace, CountersPlace, FlagPlace, ChannelCount, Spare}
use Rattle.xp_protocol.specs.declared.rule.PeerRule.{PeerRule}
use Rattle.xp_protocol.specs.declared.rule.PeerRule.TheVariants.{AskActivation, CloseArea, ZeroMagic, ClearOldBit, Prepare, OpenArea, SetEngagementBit, ReadRecord, StoreEcho, StoreSecond, ClearEngagementBit, LookAtPage, CheckBeat, ClearDeactivationBit, TellPartner}
use Rattle.xp_protocol.specs.declared.rule.OwnRule.TheVariants.{ReadEngaged, ReadStamp, ZeroMask, ZeroOffline, WriteStamp, StoreMask, StoreBeat}
use Rattle.xp_protocol.specs.declared.rule.Rule.{Rule}
use Rattle.xp_protocol.specs.declared.rule.Rule.TheVariants.{Peer as ForPeer, Own}
use Rattle.xp_protocol.specs.State.{State, Engage, Peer, Area, Old, Off, Ready, Leaving}
use Rattle.xp_protocol.specs.Peering.{Here, field_number, is_off, is_ready, is_prepared, is_good, is_left, copies_go_on, mask_from}
use Rattle.xp_plan.specs.EndSteps.{step_if, or_else}

-- a look is begun by the first step of its errand, and made to its end
abbrev pub look_at : ℕ → Peer → Option PeerRule
look_at used p = step_if (nat_eq used 0 || nat_lt 0 (length p.paging)) LookAtPage

-- the first of n bits from bit k on that isn't set
abbrev pub unset_from : ℕ → ℕ → ℕ → Option ℕ
unset_from k zero mask = None
unset_from k (suc n) mask = if nat_eq (bit_at mask k) 0 then Some k else unset_from (k + 1) n mask

abbrev pub field_of : ℕ → RecordField
field_of n =
    if nat_eq n (field_number ArgsPlace) then ArgsPlace
    else (if nat_eq n (field_number CountersPlace) then CountersPlace
    else (if nat_eq n (field_number FlagPlace) then FlagPlace
    else (if nat_eq n (field_number ChannelCount) then ChannelCount else Spare)))

abbrev pub place_word : Option ℕ → Option AreaWord
place_word None = None
place_word (Some n) = Some (PlaceWord (field_of n))

abbrev pub args_word : Option ℕ → Option AreaWord
args_word None = None
args_word (Some n) = Some (ArgsWord (n / ARGS_WORDS) (n % ARGS_WORDS))

abbrev pub counter_word : Option ℕ → Option AreaWord
counter_word None = None
counter_word (Some n) = Some (CounterWord (n / COUNTER_WORDS) (n % COUNTER_WORDS))

-- the words of the own memory for a partner that are still to be stored before it is opened, in
-- their order
abbrev pub words_missing : Engage → Option AreaWord
words_missing x =
    or_else (place_word (unset_from 3 5 x.places_put))
    (or_else (args_word (unset_from 0 (CHANNELS * ARGS_WORDS) x.args_put))
    (counter_word (unset_from 0 (CHANNELS * COUNTER_WORDS) x.counters_put)))

abbrev pub word_missing : Engage → Option AreaWord
word_missing x =
    if not x.session_put then Some SessionWord
    else (if not x.echo_put then Some EchoWord
    else (if not x.flags_put then Some FlagWord else words_missing x))

-- a prepared memory is opened once the stored mask has the partner's bit
abbrev pub open_step : Bool → ℕ → Rule
open_step masked q = if masked then ForPeer q OpenArea else Own StoreMask

abbrev pub prepare_by : Option AreaWord → Bool → ℕ → Engage → Option Rule
prepare_by None masked q x = step_if (is_prepared x) (open_step masked q)
prepare_by (Some w) masked q x = Some (ForPeer q (Prepare w))

abbrev pub prepare_free : Bool → ℕ → Engage → Option Rule
prepare_free masked q x =
    if x.deactivation_cleared then prepare_by (word_missing x) masked q x
    else Some (ForPeer q ClearDeactivationBit)

-- the own memory for a partner that is wanted is prepared where it is free
abbrev pub prepare_at : Bool → ℕ → Peer → Option Rule
prepare_at masked q p =
    if is_off p.engage.area && (p.wanted && nat_lt p.engage.count 4294967295)
    then prepare_free masked q p.engage else None

-- the own memory is open, and no reason to deactivate the partner stands
abbrev pub is_open_to : Engage → Bool
is_open_to x = is_ready x.area && not (is_some x.reason)

abbrev pub has_waited : ℕ → ℕ → Option ℕ → Bool
has_waited wait turn None = true
has_waited wait turn (Some cleared) = nat_le (cleared + wait) turn

-- a partner whose page is good is asked to be activated, and then the own bit is set at it
abbrev pub engage_by : PartnerState → Bool → Bool → Option PeerRule
engage_by Inactive wanted waited = step_if wanted AskActivation
engage_by Requested wanted waited = step_if waited SetEngagementBit
engage_by state wanted waited = None

abbrev pub engage_at : Here → Peer → Option PeerRule
engage_at x p =
    if is_open_to p.engage && (not p.engage.bit && is_good p.look)
    then engage_by p.engage.state p.wanted (has_waited x.wait x.turn p.engage.cleared_at) else None

-- where a copy of the partner's record found no magic the own bit is cleared; where one read the
-- partner's session it is stored as echo, and then the second magic
abbrev pub echo_step : Engage → Option PeerRule
echo_step x =
    if is_some x.echo then step_if (not x.second) StoreSecond
    else step_if (x.bit && is_some x.read) StoreEcho

abbrev pub is_backing_off : Peer → Bool
is_backing_off p =
    (p.engage.bit && p.engage.back_off) && (not (is_some p.engage.echo) && not (copies_go_on p))

abbrev pub answer_at : Peer → Option PeerRule
answer_at p =
    if is_open_to p.engage then
    (if is_backing_off p then Some ClearEngagementBit else echo_step p.engage) else None

-- a copy of the partner's record that goes on is made to its end. Another one is begun by the first
-- eight steps of an errand of fifteen: so it is over with the errand
abbrev pub is_activating : PartnerState → Bool
is_activating Activating = true
is_activating state = false

abbrev pub may_read : Peer → Bool
may_read p =
    is_open_to p.engage && (p.engage.bit && (is_activating p.engage.state
    && (not (is_some p.contact) && not p.engage.back_off)))

abbrev pub record_at : ℕ → Peer → Option PeerRule
record_at used p =
    step_if (may_read p && (is_some p.engage.reading || nat_lt used RECORD_WORDS)) ReadRecord

-- the heartbeat of a partner in contact is checked, where checks are planned. A check that goes on
-- is made to its end; another one is begun where it is due, by the first step of an errand
abbrev pub is_active : PartnerState → Bool
is_active Active = true
is_active state = false

abbrev pub may_check : Here → Peer → Bool
may_check x p = is_open_to p.engage && (is_active p.engage.state && nat_lt 0 x.check)

abbrev pub is_due : Here → ℕ → Bool
is_due x since = nat_le (since + x.check) x.turn

abbrev pub check_at : Here → ℕ → Peer → Option PeerRule
check_at x used p =
    step_if (may_check x p && (nat_lt 0 (length p.watch.words)
    || (nat_eq used 0 && is_due x p.watch.since))) CheckBeat

-- the own memory is closed to a partner that is to be deactivated. Where the own bit stands at the
-- partner it is told, and then the bit is cleared
abbrev pub leave_bit : Peer → Option PeerRule
leave_bit p =
    if p.engage.told then step_if (not (copies_go_on p)) ClearEngagementBit else Some TellPartner

abbrev pub leave_by : Area → Peer → Option PeerRule
leave_by Old p = None
leave_by Off p = None
leave_by Ready p = step_if (is_some p.engage.reason) CloseArea
leave_by Leaving p = if p.engage.bit then leave_bit p else None

abbrev pub leave_at : Peer → Option PeerRule
leave_at p = leave_by p.engage.area p

-- a boot: the own stamp is read, what stands of the last boot is cleared, partner by partner, and
-- the stamp is stored
abbrev pub clear_old : Engage → Option PeerRule
clear_old x =
    if not x.zeroed then Some ZeroMagic else step_if (not x.cleared) ClearOldBit

abbrev pub for_peer : ℕ → Option PeerRule → Option Rule
for_peer q None = None
for_peer q (Some m) = Some (ForPeer q m)

abbrev pub boot_peers : ℕ → ℕ → List Peer → Option Rule
boot_peers part q [] = None
boot_peers part q (p ∷ peers) =
    or_else (if nat_eq q part then None else for_peer q (clear_old p.engage))
    (boot_peers part (q + 1) peers)

abbrev pub boot_own : Bool → Bool → Option Rule
boot_own mask offline =
    if not mask then Some (Own ZeroMask) else step_if (not offline) (Own ZeroOffline)

abbrev pub boot_after_read : ℕ → State → Option Rule
boot_after_read part st =
    or_else (boot_own st.boot.mask st.boot.offline)
    (or_else (boot_peers part 0 st.peers) (Some (Own WriteStamp)))

abbrev pub boot_at : ℕ → State → Option Rule
boot_at part st =
    if is_some st.boot.read then boot_after_read part st else Some (Own ReadStamp)

-- the own heartbeat is stored, unless the partition is offline
abbrev pub beat_at : State → Option Rule
beat_at st = step_if (nat_eq st.beats.offline 0) (Own StoreBeat)

-- the own mask isn't as the own memory stands for the partners
abbrev pub mask_at : State → Option Rule
mask_at st = step_if (not (nat_eq st.beats.mask (mask_from 0 st.peers))) (Own StoreMask)

-- the own memory for a partner waits to be free
abbrev pub any_left : ℕ → ℕ → List Peer → Bool
any_left part q [] = false
any_left part q (p ∷ peers) =
    (not (nat_eq q part) && is_left p.engage) || any_left part (q + 1) peers

abbrev pub engagements_at : ℕ → State → Option Rule
engagements_at part st = step_if (any_left part 0 st.peers) (Own ReadEngaged)
