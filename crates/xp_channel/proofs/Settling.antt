-- What the handling of flags gives besides: no reason comes of an epoch's end, and one effect after
-- the other is kept as both.
use Rattle.std.proofs.Common.{◌≡◌, ℕ, ◌+◌, ◌<◌, ◌≤◌, Bool, true, false, List, Option, Some, None, refl, ap, ◌∙◌, arith, sym, zero, suc, subst}
use Rattle.std.specs.Prelude.{if◌then◌else◌, ◌&&◌, ◌||◌, not}
use Rattle.xp_base.specs.declared.link.Kind.{Kind}
use Rattle.xp_base.specs.declared.reason.Reason.{Reason}
use Rattle.xp_base.specs.declared.reason.Reason.TheVariants.{UnequalSizes}
use Rattle.xp_base.specs.Kinds.{Kinds, next_of}
use Rattle.xp_protocol.specs.Effects.{Effect, Note, first_reason, just, and_then}
use Rattle.xp_protocol.specs.Records.{Recorded}
use Rattle.xp_protocol.specs.State.{End, is_begun}
use Rattle.xp_channel.proofs.Silent.{with_notes_append}
use Rattle.xp_channel.specs.Channel.{Channel, Room, kept, called}
use Rattle.xp_channel.specs.Room.{HasRoom, Settles, Pays, needs_sides, may_begin}
use Rattle.xp_channel.proofs.Beginning.{complete_needs}
use Rattle.xp_protocol.specs.Linking.{changed, unequal, are_unequal, channel_closed, is_ended, epoch_over, handled_next, settle, close_now, limit_in}

closed_none : (o : Option Reason) (reason : Reason) (e : End) → (close_now o reason e).reason ≡ None
closed_none None reason e = refl
closed_none (Some first) reason e = refl

channel_none : (reason : Reason) (e : End) → (channel_closed reason e).reason ≡ None
channel_none reason e = closed_none e.shake.reason reason e

unequal_none : (e : End) → (unequal e).reason ≡ None
unequal_none e = by (are_unequal e) where
  by : (b : Bool) → (if b then channel_closed (UnequalSizes (limit_in e.shake.own_size) (limit_in e.shake.their_size)) e else just e).reason ≡ None
  by true = channel_none (UnequalSizes (limit_in e.shake.own_size) (limit_in e.shake.their_size)) e
  by false = refl

changed_none : (e : End) → (changed e).reason ≡ None
changed_none e = by (is_ended e) where
  by : (b : Bool) → (if b then epoch_over e else unequal e).reason ≡ None
  by true = refl
  by false = unequal_none e

pub changed_reason : (e : End) (r : Option Reason) → first_reason r (changed e).reason ≡ r
changed_reason e None = changed_none e
changed_reason e (Some x) = refl

-- where nothing was taken, nothing is handled
pub settle_none : (n : ℕ) (e : End) → next_of e.shake.got.close_request e.shake.taken ≡ None → settle n e ≡ just e
settle_none zero e h = refl
settle_none (suc n) e h = ap (λ (o : Option Kind). and_then (handled_next o e) (settle n)) h ∙ settle_none n e h

-- what one part of the handling leaves and then another
pub settles_then : (x y z : Channel) → Settles x y → Settles y z → Settles x z
settles_then x y z h k = record {
  meet = k.meet ∙ h.meet;
  needs = λ n. h.needs (k.needs n);
  complete = λ n. h.complete (k.complete n);
  epoch = omega (arith, h.epoch, k.epoch);
  next = omega (arith, h.next, k.next);
  ready = λ n. k.ready n ∙ h.ready (k.needs n);
  calls = λ n. k.calls n ∙ h.calls (k.needs n);
  ends = λ n. k.ends n ∙ h.ends (k.needs n);
}

-- what is kept of one effect after the other is what is kept of both
pub kept_then : (f : Effect End (List Note)) (g : End → Effect End (List Note)) (x y z : Channel) → y ≡ record (kept f x) { room = y.room } → z ≡ record (kept (g y.end) y) { room = z.room } → z ≡ record (kept (and_then f g) x) { room = z.room }
kept_then f g x y z d e =
    e ∙ ap (λ (w : Channel). record (kept (g w.end) w) { room = z.room }) d
    ∙ ap (λ (rs : List Recorded). record x { end = (g f.local).local; records = rs; room = z.room }) (sym (with_notes_append x.partner x.channel f.notes (g f.local).notes x.records))

pub reason_then : (f : Effect End (List Note)) (g : End → Effect End (List Note)) (x y : Channel) (r s : Option Reason) → y ≡ record (kept f x) { room = y.room } → r ≡ f.reason → s ≡ (g y.end).reason → first_reason r s ≡ (and_then f g).reason
reason_then f g x y r s d e h = ap (λ (o : Option Reason). first_reason o s) e ∙ ap (first_reason f.reason) (h ∙ ap (λ (w : Channel). (g w.end).reason) d)

-- and a call that leaves the room as it is
pub kept_plain : (f : Effect End (List Note)) (x y : Channel) → y ≡ kept f x → y ≡ record (kept f x) { room = y.room }
kept_plain f x y e = e ∙ ap (λ (w : Channel). record (kept f x) { room = w.room }) (sym e)

abbrev pub first_handled : Channel → Effect End (List Note)
first_handled x = handled_next (next_of x.end.shake.got.close_request x.end.shake.taken) x.end

pub settle_end : (n m : ℕ) (x y z : Channel) → n ≡ suc m → y ≡ record (kept (first_handled x) x) { room = y.room } → z ≡ record (kept (settle m y.end) y) { room = z.room } → z ≡ record (kept (settle n x.end) x) { room = z.room }
settle_end n m x y z h d e = subst (λ (k : ℕ). z ≡ record (kept (settle k x.end) x) { room = z.room }) (sym h) (kept_then (first_handled x) (settle m) x y z d e)

pub settle_reason : (n m : ℕ) (x y : Channel) (r s : Option Reason) → n ≡ suc m → y ≡ record (kept (first_handled x) x) { room = y.room } → r ≡ (first_handled x).reason → s ≡ (settle m y.end).reason → first_reason r s ≡ (settle n x.end).reason
settle_reason n m x y r s h d e k = subst (λ (i : ℕ). first_reason r s ≡ (settle i x.end).reason) (sym h) (reason_then (first_handled x) (settle m) x y r s d e k)

pub reason_alone : (r : Option Reason) → first_reason r None ≡ r
reason_alone None = refl
reason_alone (Some r) = refl

pub last_reason : (f : Effect End (List Note)) (k : End → Effect End (List Note)) (x y z : Channel) (r : Option Reason) → f.reason ≡ None → y ≡ record (kept f x) { room = y.room } → z ≡ record (kept (changed y.end) y) { room = z.room } → r ≡ (k z.end).reason → r ≡ (and_then (and_then f changed) k).reason
last_reason f k x y z r h a b c =
    let n : (and_then f changed).reason ≡ None = ap (λ (o : Option Reason). first_reason o (changed f.local).reason) h ∙ changed_none f.local in
    reason_then (and_then f changed) k x z None r (kept_then f changed x y z a b) (sym n) c

-- and after three
pub kept_thrice : (f : Effect End (List Note)) (g k : End → Effect End (List Note)) (x y z w : Channel) → y ≡ record (kept f x) { room = y.room } → z ≡ record (kept (g y.end) y) { room = z.room } → w ≡ record (kept (k z.end) z) { room = w.room } → w ≡ record (kept (and_then (and_then f g) k) x) { room = w.room }
kept_thrice f g k x y z w a b c = kept_then (and_then f g) k x z w (kept_then f g x y z a b) c

-- what a flag that is sent leaves of the room, and then the handling of those that were taken
by_reply : (b c : Bool) → (if b && not c then 0 else 1) ≤ 1
by_reply true true = omega arith
by_reply true false = omega arith
by_reply false c = omega arith

pub begins_one : (e : End) → may_begin e ≤ 1
begins_one e = by_reply (is_begun e) e.shake.sent.close_reply

pub ready_after : (x y z : Channel) → (needs_sides x.end ≡ true → x.room.ready ≡ true) → (y.end.shake.sent.open_complete ≡ true → needs_sides x.end ≡ true) → (needs_sides y.end ≡ true → y.room ≡ x.room) → Settles y z → z.end.shake.sent.open_complete ≡ true → z.room.ready ≡ true
ready_after x y z r c o h k =
    let d = h.complete k in
    h.ready (complete_needs z.end k) ∙ ap (λ (m : Room). m.ready) (o (complete_needs y.end d)) ∙ r (c d)

pub place_after : (x y z : Channel) → 2 ≤ x.room.next → x.room.next ≤ y.room.next + 1 → Settles y z → may_begin z.end ≤ z.room.next
place_after x y z t n h = let a = begins_one y.end in let b = begins_one z.end in omega (arith, t, n, h.next, a, b)

pub pays_after : (x y z : Channel) → (y.end.shake.sent.open_complete ≡ true → needs_sides x.end ≡ true) → (needs_sides y.end ≡ true → y.room ≡ x.room) → x.room.next ≤ y.room.next + 1 → Settles y z → Pays 0 2 x z
pays_after x y z c o n h = record {
  complete = λ k. c (h.complete k);
  ready = λ k r. h.ready k ∙ ap (λ (m : Room). m.ready) (o (h.needs k)) ∙ r;
  calls = λ k. omega (arith, h.calls k, ap (λ (m : Room). m.calls) (o (h.needs k)));
  ends = λ k. omega (arith, h.ends k, ap (λ (m : Room). m.ends) (o (h.needs k)));
  next = let a = begins_one y.end in omega (arith, n, h.next, a);
}

-- there is room after a call that makes one note, where there was room for two
pub room_after : (f : Effect End (List Note)) (x y : Channel) → y ≡ called (kept f x) y → y.end.shake.sent ≡ x.end.shake.sent → (x.end.shake.sent.open_complete ≡ true → 1 < x.room.calls) → x.room.calls ≤ y.room.calls + 1 → HasRoom x → HasRoom y
room_after f x y e s m c h =
    let needs : y.end.shake.sent.open_complete ≡ true → x.end.shake.sent.open_complete ≡ true = λ n. ap (λ (k : Kinds). k.open_complete) (sym s) ∙ n in
    record {
      ready = λ n. ap (λ (w : Channel). w.room.ready) e ∙ h.ready (needs n);
      calls = λ n. omega (arith, m (needs n), c);
      ends = λ n. omega (arith, ap (λ (w : Channel). w.room.ends) e, h.ends (needs n));
    }

-- what the handling of flags leaves
pub ruleset handling = (changed_reason, settles_then, with_notes_append)

pub ruleset settling = (settle_none, settles_then)

pub ruleset sending = (ready_after, settles_then)
