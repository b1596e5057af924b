-- The step for a partner that comes next is permitted, and belongs to the life of a booted partition,
-- or to a boot.
use Rattle.std.proofs.Common.{◌≡◌, ℕ, zero, suc, ◌+◌, ◌*◌, ◌/◌, ◌%◌, ◌<◌, ◌≤◌, Bool, true, false, ◌&&◌, refl, ◌∷◌, subst, arith, ◌⊎◌, inl, inr, Option, Some, None, length, List, []}
use Rattle.std.specs.Prelude.{if◌then◌else◌, ◌||◌, not, is_some, nat_lt, nat_le, nat_eq}
use Rattle.std.specs.Int.{bit_at}
use Rattle.std.proofs.lemmas.Bool.{and_parts}
use Rattle.xp_base.specs.declared.layout.TheConstants.{CHANNELS, ARGS_WORDS, COUNTER_WORDS, RECORD_WORDS}
use Rattle.xp_protocol.specs.declared.contact.PartnerState.{PartnerState}
use Rattle.xp_protocol.specs.declared.contact.PartnerState.TheVariants.{Inactive, Requested, Activating, Active, Deactivating}
use Rattle.xp_protocol.specs.declared.rule.AreaWord.{AreaWord}
use Rattle.xp_protocol.specs.declared.rule.AreaWord.TheVariants.{SessionWord, EchoWord, PlaceWord, ArgsWord, FlagWord, CounterWord}
use Rattle.xp_protocol.specs.declared.rule.PeerRule.{PeerRule}
use Rattle.xp_protocol.specs.declared.rule.PeerRule.TheVariants.{AskActivation, CloseArea, SetEngagementBit, ReadRecord, StoreEcho, StoreSecond, ClearEngagementBit, LookAtPage, CheckBeat, TellPartner}
use Rattle.xp_protocol.specs.State.{Engage, Peer, Area, Old, Off, Ready, Leaving, Up}
use Rattle.xp_protocol.specs.Peering.{Here, HasWaited, IsCheckDue, IsAreaWord, is_off, is_ready, is_good, copies_go_on, peer_can}
use Rattle.xp_protocol.specs.Rules.{peer_life}
use Rattle.xp_plan.specs.EndSteps.{step_if, or_else}
use Rattle.xp_plan.specs.PeerSteps.{look_at, unset_from, field_of, place_word, args_word, counter_word, words_missing, word_missing, is_open_to, has_waited, engage_by, engage_at, echo_step, is_backing_off, answer_at, is_activating, may_read, record_at, is_active, may_check, is_due, check_at, leave_bit, leave_by, leave_at}
use Rattle.xp_plan.specs.Sound.{IsSoundPeer}
use Rattle.xp_plan.proofs.Choices.{step_is, choice, first_is, some_is, not_false, there, none_there, lt_is, le_is}

-- a step of a booted partition
abbrev pub MayUp : Here → Peer → PeerRule → Type 0
MayUp x p m = (peer_life m ≡ Up) × peer_can x p m

pub look_can : (x : Here) (used : ℕ) (p : Peer) (m : PeerRule) → IsSoundPeer p → look_at used p ≡ Some m → MayUp x p m
look_can x used p m h is = subst (λ (r : PeerRule). MayUp x p r) (step_is (nat_eq used 0 || nat_lt 0 (length p.paging)) LookAtPage m is).1 (refl, h.page)

-- an area by its tests
pub off_is : (a : Area) → is_off a ≡ true → a ≡ Off
off_is Old e = absurd (cc)
off_is Off e = refl
off_is Ready e = absurd (cc)
off_is Leaving e = absurd (cc)

pub ready_is : (a : Area) → is_ready a ≡ true → a ≡ Ready
ready_is Old e = absurd (cc)
ready_is Off e = absurd (cc)
ready_is Ready e = refl
ready_is Leaving e = absurd (cc)

pub open_is : (x : Engage) → is_open_to x ≡ true → (x.area ≡ Ready) × (x.reason ≡ None)
open_is x e = let b = and_parts (is_ready x.area) (not (is_some x.reason)) e in (ready_is x.area b.0, none_there x.reason (not_false (is_some x.reason) b.1))

-- the words of the own memory for a partner
unset_low : (k n mask m : ℕ) → unset_from k n mask ≡ Some m → m < k + n
unset_low k zero mask m e = absurd (cc)
unset_low k (suc n) mask m e = by (choice (nat_eq (bit_at mask k) 0) (Some k) (unset_from (k + 1) n mask) m e) (unset_low (k + 1) n mask m) where
  by : ((nat_eq (bit_at mask k) 0 ≡ true) × (Some k ≡ Some m)) ⊎ ((nat_eq (bit_at mask k) 0 ≡ false) × (unset_from (k + 1) n mask ≡ Some m)) → (unset_from (k + 1) n mask ≡ Some m → m < k + 1 + n) → m < k + suc n
  by (inl y) later = let i = some_is k m y.1 in omega (arith, i)
  by (inr y) later = let l = later y.1 in omega (arith, l)

place_of : (o : Option ℕ) (w : AreaWord) → place_word o ≡ Some w → IsAreaWord w
place_of None w e = absurd (cc)
place_of (Some n) w e = subst (λ (y : AreaWord). IsAreaWord y) (some_is (PlaceWord (field_of n)) w e) tt

args_of : (o : Option ℕ) (w : AreaWord) → ((m : ℕ) → o ≡ Some m → m < 16) → args_word o ≡ Some w → IsAreaWord w
args_of None w low e = absurd (cc)
args_of (Some n) w low e = let l = low n refl in subst (λ (y : AreaWord). IsAreaWord y) (some_is (ArgsWord (n / 4) (n % 4)) w e) (omega (arith, l), omega arith)

counter_of : (o : Option ℕ) (w : AreaWord) → ((m : ℕ) → o ≡ Some m → m < 8) → counter_word o ≡ Some w → IsAreaWord w
counter_of None w low e = absurd (cc)
counter_of (Some n) w low e = let l = low n refl in subst (λ (y : AreaWord). IsAreaWord y) (some_is (CounterWord (n / 2) (n % 2)) w e) (omega (arith, l), omega arith)

words_are : (x : Engage) (w : AreaWord) → words_missing x ≡ Some w → IsAreaWord w
words_are x w e = by (first_is (place_word (unset_from 3 5 x.places_put)) _ w e) where
  later : (args_word (unset_from 0 (CHANNELS * ARGS_WORDS) x.args_put) ≡ Some w) ⊎ (counter_word (unset_from 0 (CHANNELS * COUNTER_WORDS) x.counters_put) ≡ Some w) → IsAreaWord w
  later (inl i) = args_of (unset_from 0 (CHANNELS * ARGS_WORDS) x.args_put) w (λ m j. unset_low 0 16 x.args_put m j) i
  later (inr i) = counter_of (unset_from 0 (CHANNELS * COUNTER_WORDS) x.counters_put) w (λ m j. unset_low 0 8 x.counters_put m j) i

  by : (place_word (unset_from 3 5 x.places_put) ≡ Some w) ⊎ (or_else (args_word (unset_from 0 (CHANNELS * ARGS_WORDS) x.args_put)) (counter_word (unset_from 0 (CHANNELS * COUNTER_WORDS) x.counters_put)) ≡ Some w) → IsAreaWord w
  by (inl i) = place_of (unset_from 3 5 x.places_put) w i
  by (inr i) = later (first_is (args_word (unset_from 0 (CHANNELS * ARGS_WORDS) x.args_put)) (counter_word (unset_from 0 (CHANNELS * COUNTER_WORDS) x.counters_put)) w i)

pub word_is : (x : Engage) (w : AreaWord) → word_missing x ≡ Some w → IsAreaWord w
word_is x w e = session x.session_put e where
  flags : (b : Bool) → (if not b then Some FlagWord else words_missing x) ≡ Some w → IsAreaWord w
  flags true i = words_are x w i
  flags false i = subst (λ (y : AreaWord). IsAreaWord y) (some_is FlagWord w i) tt

  echo : (b : Bool) → (if not b then Some EchoWord else (if not x.flags_put then Some FlagWord else words_missing x)) ≡ Some w → IsAreaWord w
  echo true i = flags x.flags_put i
  echo false i = subst (λ (y : AreaWord). IsAreaWord y) (some_is EchoWord w i) tt

  session : (b : Bool) → (if not b then Some SessionWord else (if not x.echo_put then Some EchoWord else (if not x.flags_put then Some FlagWord else words_missing x))) ≡ Some w → IsAreaWord w
  session true i = echo x.echo_put i
  session false i = subst (λ (y : AreaWord). IsAreaWord y) (some_is SessionWord w i) tt

-- engaging
waited_is : (wait turn : ℕ) (o : Option ℕ) → has_waited wait turn o ≡ true → HasWaited wait turn o
waited_is wait turn None e = tt
waited_is wait turn (Some c) e = le_is (c + wait) turn e

engage_is : (x : Here) (p : Peer) (state : PartnerState) (m : PeerRule) → p.engage.state ≡ state → is_open_to p.engage ≡ true → p.engage.bit ≡ false → is_good p.look ≡ true → engage_by state p.wanted (has_waited x.wait x.turn p.engage.cleared_at) ≡ Some m → MayUp x p m
engage_is x p Inactive m i o b g e =
    let y = step_is p.wanted AskActivation m e in
    subst (λ (r : PeerRule). MayUp x p r) y.1 (refl, (y.0, i, g, λ ready. (open_is p.engage o).1))
engage_is x p Requested m i o b g e =
    let y = step_is (has_waited x.wait x.turn p.engage.cleared_at) SetEngagementBit m e in
    let f = open_is p.engage o in
    subst (λ (r : PeerRule). MayUp x p r) y.1 (refl, (f.0, f.1, b, g, i, waited_is x.wait x.turn p.engage.cleared_at y.0))
engage_is x p Activating m i o b g e = absurd (cc)
engage_is x p Active m i o b g e = absurd (cc)
engage_is x p Deactivating m i o b g e = absurd (cc)

pub engage_can : (x : Here) (p : Peer) (m : PeerRule) → engage_at x p ≡ Some m → MayUp x p m
engage_can x p m is = by (choice (is_open_to p.engage && (not p.engage.bit && is_good p.look)) _ None m is) where
  by : (((is_open_to p.engage && (not p.engage.bit && is_good p.look)) ≡ true) × (engage_by p.engage.state p.wanted (has_waited x.wait x.turn p.engage.cleared_at) ≡ Some m)) ⊎ (((is_open_to p.engage && (not p.engage.bit && is_good p.look)) ≡ false) × (None ≡ Some m)) → MayUp x p m
  by (inl y) =
      let a = and_parts (is_open_to p.engage) (not p.engage.bit && is_good p.look) y.0 in
      let b = and_parts (not p.engage.bit) (is_good p.look) a.1 in
      engage_is x p p.engage.state m refl a.0 (not_false p.engage.bit b.0) b.1 y.1
  by (inr y) = absurd (cc)

echo_can : (x : Here) (p : Peer) (m : PeerRule) → is_open_to p.engage ≡ true → echo_step p.engage ≡ Some m → MayUp x p m
echo_can x p m o is = by (choice (is_some p.engage.echo) _ _ m is) where
  by : ((is_some p.engage.echo ≡ true) × (step_if (not p.engage.second) StoreSecond ≡ Some m)) ⊎ ((is_some p.engage.echo ≡ false) × (step_if (p.engage.bit && is_some p.engage.read) StoreEcho ≡ Some m)) → MayUp x p m
  by (inl y) =
      let f = open_is p.engage o in
      subst (λ (r : PeerRule). MayUp x p r) (step_is (not p.engage.second) StoreSecond m y.1).1 (refl, (f.0, f.1, y.0))
  by (inr y) =
      let f = open_is p.engage o in
      let s = step_is (p.engage.bit && is_some p.engage.read) StoreEcho m y.1 in
      let b = and_parts p.engage.bit (is_some p.engage.read) s.0 in
      subst (λ (r : PeerRule). MayUp x p r) s.1 (refl, (f.0, f.1, b.0, none_there p.engage.echo y.0, b.1))

pub answer_can : (x : Here) (p : Peer) (m : PeerRule) → answer_at p ≡ Some m → MayUp x p m
answer_can x p m is = by (choice (is_open_to p.engage) _ None m is) where
  back : is_open_to p.engage ≡ true → ((is_backing_off p ≡ true) × (Some ClearEngagementBit ≡ Some m)) ⊎ ((is_backing_off p ≡ false) × (echo_step p.engage ≡ Some m)) → MayUp x p m
  back o (inl y) =
      let f = open_is p.engage o in
      let a = and_parts (p.engage.bit && p.engage.back_off) (not (is_some p.engage.echo) && not (copies_go_on p)) y.0 in
      let b = and_parts p.engage.bit p.engage.back_off a.0 in
      let c = and_parts (not (is_some p.engage.echo)) (not (copies_go_on p)) a.1 in
      subst (λ (r : PeerRule). MayUp x p r) (some_is ClearEngagementBit m y.1) (refl, (b.0, not_false (copies_go_on p) c.1, inl (f.0, f.1, none_there p.engage.echo (not_false (is_some p.engage.echo) c.0), b.1)))
  back o (inr y) = echo_can x p m o y.1

  by : ((is_open_to p.engage ≡ true) × ((if is_backing_off p then Some ClearEngagementBit else echo_step p.engage) ≡ Some m)) ⊎ ((is_open_to p.engage ≡ false) × (None ≡ Some m)) → MayUp x p m
  by (inl y) = back y.0 (choice (is_backing_off p) (Some ClearEngagementBit) (echo_step p.engage) m y.1)
  by (inr y) = absurd (cc)

-- reading the record
activating_is : (state : PartnerState) → is_activating state ≡ true → state ≡ Activating
activating_is Inactive e = absurd (cc)
activating_is Requested e = absurd (cc)
activating_is Activating e = refl
activating_is Active e = absurd (cc)
activating_is Deactivating e = absurd (cc)

pub record_can : (x : Here) (used : ℕ) (p : Peer) (m : PeerRule) → IsSoundPeer p → record_at used p ≡ Some m → MayUp x p m
record_can x used p m h is =
    let y = step_is (may_read p && (is_some p.engage.reading || nat_lt used RECORD_WORDS)) ReadRecord m is in
    let a = and_parts (may_read p) (is_some p.engage.reading || nat_lt used RECORD_WORDS) y.0 in
    let b = and_parts (is_open_to p.engage) (p.engage.bit && (is_activating p.engage.state && (not (is_some p.contact) && not p.engage.back_off))) a.0 in
    let c = and_parts p.engage.bit (is_activating p.engage.state && (not (is_some p.contact) && not p.engage.back_off)) b.1 in
    let d = and_parts (is_activating p.engage.state) (not (is_some p.contact) && not p.engage.back_off) c.1 in
    let e = and_parts (not (is_some p.contact)) (not p.engage.back_off) d.1 in
    let f = open_is p.engage b.0 in
    subst (λ (r : PeerRule). MayUp x p r) y.1 (refl, (f.0, f.1, c.0, none_there p.contact (not_false (is_some p.contact) e.0), activating_is p.engage.state d.0, h.words))

-- checking the heartbeat
active_is : (state : PartnerState) → is_active state ≡ true → state ≡ Active
active_is Inactive e = absurd (cc)
active_is Requested e = absurd (cc)
active_is Activating e = absurd (cc)
active_is Active e = refl
active_is Deactivating e = absurd (cc)

due_is : (x : Here) (since : ℕ) (words : List ℕ) (b : Bool) → (nat_lt 0 (length words) || (b && is_due x since)) ≡ true → words ≡ [] → since + x.check ≤ x.turn
due_is x since [] b e none = le_is (since + x.check) x.turn (and_parts b (is_due x since) e).1
due_is x since (w ∷ words) b e none = absurd (cc)

pub check_can : (x : Here) (used : ℕ) (p : Peer) (m : PeerRule) → IsSoundPeer p → check_at x used p ≡ Some m → MayUp x p m
check_can x used p m h is =
    let y = step_is (may_check x p && (nat_lt 0 (length p.watch.words) || (nat_eq used 0 && is_due x p.watch.since))) CheckBeat m is in
    let a = and_parts (may_check x p) (nat_lt 0 (length p.watch.words) || (nat_eq used 0 && is_due x p.watch.since)) y.0 in
    let b = and_parts (is_open_to p.engage) (is_active p.engage.state && nat_lt 0 x.check) a.0 in
    let c = and_parts (is_active p.engage.state) (nat_lt 0 x.check) b.1 in
    subst (λ (r : PeerRule). MayUp x p r) y.1 (refl, (active_is p.engage.state c.0, lt_is 0 x.check c.1, h.beat, λ none. due_is x p.watch.since p.watch.words (nat_eq used 0) a.1 none))

-- leaving
pub leave_can : (x : Here) (p : Peer) (m : PeerRule) → leave_at p ≡ Some m → MayUp x p m
leave_can x p m is = by p.engage.area refl is where
  told : p.engage.area ≡ Leaving → p.engage.bit ≡ true → ((p.engage.told ≡ true) × (step_if (not (copies_go_on p)) ClearEngagementBit ≡ Some m)) ⊎ ((p.engage.told ≡ false) × (Some TellPartner ≡ Some m)) → MayUp x p m
  told a b (inl y) =
      let s = step_is (not (copies_go_on p)) ClearEngagementBit m y.1 in
      subst (λ (r : PeerRule). MayUp x p r) s.1 (refl, (b, not_false (copies_go_on p) s.0, inr (a, y.0)))
  told a b (inr y) = subst (λ (r : PeerRule). MayUp x p r) (some_is TellPartner m y.1) (refl, (a, b))

  left : p.engage.area ≡ Leaving → ((p.engage.bit ≡ true) × (leave_bit p ≡ Some m)) ⊎ ((p.engage.bit ≡ false) × (None ≡ Some m)) → MayUp x p m
  left a (inl y) = told a y.0 (choice p.engage.told _ _ m y.1)
  left a (inr y) = absurd (cc)

  by : (a : Area) → p.engage.area ≡ a → leave_by a p ≡ Some m → MayUp x p m
  by Old i e = absurd (cc)
  by Off i e = absurd (cc)
  by Ready i e =
      let s = step_is (is_some p.engage.reason) CloseArea m e in
      subst (λ (r : PeerRule). MayUp x p r) s.1 (refl, (i, there p.engage.reason s.0))
  by Leaving i e = left i (choice p.engage.bit (leave_bit p) None m e)
