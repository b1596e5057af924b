-- The flags of all channels of a partner are taken.
use Rattle.std.proofs.Common.{◌≡◌, ℕ, ◌<◌, ◌^◌, Bool, true, false, List, [], length, set, get_or, Option, Some, None, refl, ap, sym, ◌∙◌, arith}
use Rattle.xp_base.specs.declared.layout.TheConstants.{CHANNELS}
use Rattle.std.specs.Prelude.{if◌then◌else◌, ◌&&◌, not, nat_lt}
use Rattle.std.proofs.lemmas.Bool.{and_parts}
use Rattle.xp_base.specs.declared.reason.Reason.{Reason}
use Rattle.xp_base.specs.declared.reason.Reason.TheVariants.{BadFlags}
use Rattle.xp_base.specs.declared.step.Answer.TheVariants.{Word}
use Rattle.xp_protocol.specs.declared.rule.PeerRule.TheVariants.{TakeFlags}
use Rattle.xp_protocol.specs.Effects.{Effect, Note, first_reason}
use Rattle.xp_protocol.specs.State.{End}
use Rattle.xp_protocol.specs.Peering.{is_bad_flags, is_unspared, flags_taken, any_waits, end_reason}
use Rattle.xp_channel.specs.Channel.{Channel}
use Rattle.xp_engage.specs.Learning.{faulted, flags_noted}
use Rattle.xp_engage.specs.Partner.{Partner as Standing}
use Rattle.xp_partner.specs.Partner.{Partner, peer_seen, channel_at, each_kept, each_roomed, rooms_of}
use Rattle.xp_partner.specs.Making.{after_effect, peer_made, flags_by, ends_reason, MayTake}
use Rattle.xp_partner.proofs.Four.{four_of, rooms_put, four_roomed}
use Rattle.xp_partner.proofs.Leaving.{left_four, left_settled}
use Rattle.xp_partner.proofs.Making.{own_rooms}

abbrev noted : ℕ → Partner → Standing
noted w x = flags_noted w (any_waits (peer_seen x).links) x.standing

abbrev flags_reason : ℕ → Partner → Option Reason
flags_reason w x = end_reason (noted w x).flags_seen (ends_reason (flags_by w) x.channels)

good_flags : (x : Partner) (w : ℕ) → length x.channels ≡ 4 →
    record x { standing = faulted (flags_reason w x) (noted w x); channels = each_kept (flags_by w) 0 x.channels } ≡ after_effect (flags_taken w (peer_seen x)) x
good_flags x w h = four_of (λ (xs : List Channel).
    record x { standing = faulted (flags_reason w (record x { channels = xs })) (noted w (record x { channels = xs })); channels = each_kept (flags_by w) 0 xs } ≡ after_effect (flags_taken w (peer_seen (record x { channels = xs }))) (record x { channels = xs }))
    (λ a b c d. refl) x.channels h

abbrev flags_made : Bool → ℕ → Partner → Partner
flags_made b w x = after_effect (if b then record { local = peer_seen x; reason = Some (BadFlags w); notes = λ c. [] } else flags_taken w (peer_seen x)) x

pub good_made : (turn w : ℕ) (x z : Partner) (ys : List Channel) → is_bad_flags w ≡ false → length x.channels ≡ 4 →
    ys ≡ each_roomed (each_kept (flags_by w) 0 x.channels) ys →
    z ≡ record x { standing = faulted (flags_reason w x) (noted w x); channels = ys } →
    z ≡ rooms_of (peer_made turn None TakeFlags (Word w) x) z
good_made turn w x z ys b l h e =
    rooms_put (record x { standing = faulted (flags_reason w x) (noted w x) }) z (each_kept (flags_by w) 0 x.channels) ys h e
    ∙ ap (λ (v : Partner). rooms_of v z) (good_flags x w l ∙ ap (λ (c : Bool). flags_made c w x) (sym b))

bad_flags : (x : Partner) (w : ℕ) → length x.channels ≡ 4 → record x { standing = faulted (Some (BadFlags w)) x.standing } ≡ flags_made true w x
bad_flags x w h = four_of (λ (xs : List Channel). record x { standing = faulted (Some (BadFlags w)) x.standing; channels = xs } ≡ flags_made true w (record x { channels = xs })) (λ a b c d. refl) x.channels h

pub bad_made : (turn w : ℕ) (x z : Partner) → is_bad_flags w ≡ true → length x.channels ≡ 4 →
    z ≡ record x { standing = faulted (Some (BadFlags w)) x.standing } →
    z ≡ rooms_of (peer_made turn None TakeFlags (Word w) x) z
bad_made turn w x z b l e = own_rooms z (peer_made turn None TakeFlags (Word w) x) (e ∙ bad_flags x w l ∙ ap (λ (c : Bool). flags_made c w x) (sym b))

pub ruleset taking = (good_made, bad_made)

-- the word has the flags of each channel alone
granted : (b : Bool) → not b ≡ false → b ≡ true
granted true h = refl
granted false h = absurd (cc)

bits_of : (w : ℕ) → is_bad_flags w ≡ false → (is_unspared w 0 && (is_unspared w 1 && (is_unspared w 2 && is_unspared w 3))) ≡ true
bits_of w h = (and_parts (nat_lt w (2 ^ 32)) _ (granted (nat_lt w (2 ^ 32) && (is_unspared w 0 && (is_unspared w 1 && (is_unspared w 2 && is_unspared w 3)))) h)).1

pub spared_0 : (w : ℕ) → is_bad_flags w ≡ false → is_unspared w 0 ≡ true
spared_0 w h = (and_parts (is_unspared w 0) _ (bits_of w h)).0

rest_1 : (w : ℕ) → is_bad_flags w ≡ false → (is_unspared w 1 && (is_unspared w 2 && is_unspared w 3)) ≡ true
rest_1 w h = (and_parts (is_unspared w 0) _ (bits_of w h)).1

pub spared_1 : (w : ℕ) → is_bad_flags w ≡ false → is_unspared w 1 ≡ true
spared_1 w h = (and_parts (is_unspared w 1) _ (rest_1 w h)).0

rest_2 : (w : ℕ) → is_bad_flags w ≡ false → (is_unspared w 2 && is_unspared w 3) ≡ true
rest_2 w h = (and_parts (is_unspared w 1) _ (rest_1 w h)).1

pub spared_2 : (w : ℕ) → is_bad_flags w ≡ false → is_unspared w 2 ≡ true
spared_2 w h = (and_parts (is_unspared w 2) _ (rest_2 w h)).0

pub spared_3 : (w : ℕ) → is_bad_flags w ≡ false → is_unspared w 3 ≡ true
spared_3 w h = (and_parts (is_unspared w 2) _ (rest_2 w h)).1

-- the first reason of the four
abbrev reason_at : (ℕ → End → Effect End (List Note)) → List Channel → ℕ → Option Reason
reason_at f xs c = (f c (channel_at xs c).end).reason

first_four : (o p q r a b c d : Option Reason) → o ≡ a → p ≡ b → q ≡ c → r ≡ d → first_reason o (first_reason p (first_reason q r)) ≡ first_reason a (first_reason b (first_reason c d))
first_four o p q r a b c d h k m n =
    ap (λ (v : Option Reason). first_reason v (first_reason p (first_reason q r))) h
    ∙ ap (λ (v : Option Reason). first_reason a (first_reason v (first_reason q r))) k
    ∙ ap (λ (v : Option Reason). first_reason a (first_reason b (first_reason v r))) m
    ∙ ap (λ (v : Option Reason). first_reason a (first_reason b (first_reason c v))) n

pub four_reasons : (f : ℕ → End → Effect End (List Note)) (xs : List Channel) (a b c : Channel) (o p q r : Option Reason) → length xs ≡ 4
    → o ≡ reason_at f xs 0
    → p ≡ reason_at f (set xs 0 a) 1
    → q ≡ reason_at f (set (set xs 0 a) 1 b) 2
    → r ≡ reason_at f (set (set (set xs 0 a) 1 b) 2 c) 3
    → first_reason o (first_reason p (first_reason q r)) ≡ ends_reason f xs
four_reasons f xs a b c o p q r h = four_of (λ (ys : List Channel). o ≡ reason_at f ys 0
    → p ≡ reason_at f (set ys 0 a) 1
    → q ≡ reason_at f (set (set ys 0 a) 1 b) 2
    → r ≡ reason_at f (set (set (set ys 0 a) 1 b) 2 c) 3
    → first_reason o (first_reason p (first_reason q r)) ≡ ends_reason f ys)
    (λ x y z w i j k l. first_four o p q r _ _ _ _ i j k l) xs h

-- each of the others is as it was
pub may_1 : (xs : List Channel) (a d : Channel) → length xs ≡ 4 → ((c : ℕ) → c < CHANNELS → MayTake (channel_at xs c)) → MayTake (get_or (set xs 0 a) 1 d)
may_1 xs a d h = four_of (λ (ys : List Channel). ((c : ℕ) → c < CHANNELS → MayTake (channel_at ys c)) → MayTake (get_or (set ys 0 a) 1 d)) (λ x y z w m. m 1 (omega arith)) xs h

pub may_2 : (xs : List Channel) (a b d : Channel) → length xs ≡ 4 → ((c : ℕ) → c < CHANNELS → MayTake (channel_at xs c)) → MayTake (get_or (set (set xs 0 a) 1 b) 2 d)
may_2 xs a b d h = four_of (λ (ys : List Channel). ((c : ℕ) → c < CHANNELS → MayTake (channel_at ys c)) → MayTake (get_or (set (set ys 0 a) 1 b) 2 d)) (λ x y z w m. m 2 (omega arith)) xs h

pub may_3 : (xs : List Channel) (a b c d : Channel) → length xs ≡ 4 → ((i : ℕ) → i < CHANNELS → MayTake (channel_at xs i)) → MayTake (get_or (set (set (set xs 0 a) 1 b) 2 c) 3 d)
may_3 xs a b c d h = four_of (λ (ys : List Channel). ((i : ℕ) → i < CHANNELS → MayTake (channel_at ys i)) → MayTake (get_or (set (set (set ys 0 a) 1 b) 2 c) 3 d)) (λ x y z w m. m 3 (omega arith)) xs h

pub ruleset each_taken = (four_roomed, four_reasons, spared_0, spared_1, spared_2, spared_3, may_1, may_2, may_3, left_four, left_settled)
