-- The ends of a partner as a list: one of them is replaced, and what is known of each is known of
-- the others still.
use Rattle.std.proofs.Common.{◌≡◌, ℕ, ◌+◌, ◌<◌, ◌≤◌, Bool, true, false, List, length, Option, None, refl, ap, sym, ◌∙◌, subst, arith, set, zero, suc, ◌⊎◌, inl, inr, ◌≢◌}
use Rattle.std.proofs.lemmas.Bool.Decides.{eqb_tells}
use Rattle.std.proofs.Math.Dec.{eqb}
use Rattle.std.proofs.lemmas.Grind.{get_or-set_at}
use Rattle.std.proofs.lemmas.List.{get_or-set_same, get_or-set_other, length-set}
use Rattle.xp_base.specs.declared.layout.TheConstants.{CHANNELS}
use Rattle.xp_protocol.specs.Effects.{Effect, Note}
use Rattle.xp_protocol.specs.State.{End, Contact}
use Rattle.xp_channel.specs.Channel.{Channel, new_channel, kept, roomed, called}
use Rattle.xp_base.specs.Kinds.{Kinds}
use Rattle.std.specs.Prelude.{◌||◌, IsSome}
use Rattle.xp_connections.specs.declared.record.TheConstants.{TURN_ROOM}
use Rattle.xp_channel.specs.Room.{HasRoom, Pays, needs_sides}
use Rattle.xp_engage.specs.Partner.{Partner as Standing}
use Rattle.xp_engage.specs.Learning.{faulted}
use Rattle.xp_engage.proofs.Stepping.{faulted_none as without_reason}
use Rattle.xp_partner.specs.Partner.{Partner, channel_at, channel_of, four_channels, with_channel}
use Rattle.xp_partner.specs.Named.{IsNamed, AreNamed}
use Rattle.xp_partner.specs.Room.{HasNotes, HasNotesLeft, HaveTurnRoom, HaveNotes, HaveNotesLeft}

abbrev no_channel : Channel
no_channel = new_channel 0 0 0

pub faulted_none : (x : Standing) → faulted None x ≡ x
faulted_none x = without_reason x

-- by number
pub by_four : (P : ℕ → Type 0) → P 0 → P 1 → P 2 → P 3 → (c : ℕ) → c < 4 → P c
by_four P a b d e zero h = a
by_four P a b d e (suc zero) h = b
by_four P a b d e (suc (suc zero)) h = d
by_four P a b d e (suc (suc (suc zero))) h = e
by_four P a b d e (suc (suc (suc (suc n)))) h = absurd (omega (arith, h))

pub four_named : (own partner : ℕ) → AreNamed own partner (four_channels own partner)
four_named own partner = record {
  four = refl;
  each = by_four (λ c. IsNamed own partner c (channel_at (four_channels own partner) c))
      (record { own_number = refl; partner_number = refl; channel_number = refl })
      (record { own_number = refl; partner_number = refl; channel_number = refl })
      (record { own_number = refl; partner_number = refl; channel_number = refl })
      (record { own_number = refl; partner_number = refl; channel_number = refl });
}

-- what is known of each end, where one is replaced
pub each_set : (P : ℕ → Channel → Type 0) (xs : List Channel) (i : ℕ) (y : Channel) → i < length xs → ((c : ℕ) → c < CHANNELS → P c (channel_at xs c)) → P i y → (c : ℕ) → c < CHANNELS → P c (channel_at (set xs i y) c)
each_set P xs i y l h p c k = from (eqb_tells c i) where
  from : ((eqb c i ≡ true) × (c ≡ i)) ⊎ ((eqb c i ≡ false) × (c ≢ i)) → P c (channel_at (set xs i y) c)
  from (inl e) = subst (P c) (sym (get_or-set_at xs i c y no_channel e.1 l)) (subst (λ (j : ℕ). P j y) (sym e.1) p)
  from (inr e) = subst (P c) (sym (get_or-set_other xs i c y no_channel e.1)) (h c k)

pub same_set : (xs : List Channel) (i : ℕ) (y : Channel) → i < length xs → channel_at (set xs i y) i ≡ y
same_set xs i y l = get_or-set_same xs i y no_channel l

pub named_set : (own partner : ℕ) (xs : List Channel) (i : ℕ) (y : Channel) → i < CHANNELS → AreNamed own partner xs → y.own ≡ (channel_at xs i).own → y.partner ≡ (channel_at xs i).partner → y.channel ≡ (channel_at xs i).channel → AreNamed own partner (set xs i y)
named_set own partner xs i y l h a b d = record {
  four = length-set xs i y ∙ h.four;
  each = each_set (λ c x. IsNamed own partner c x) xs i y (subst (λ (n : ℕ). i < n) (sym h.four) l) h.each
      (let k = h.each i l in record { own_number = a ∙ k.own_number; partner_number = b ∙ k.partner_number; channel_number = d ∙ k.channel_number });
}

-- an end that changed by an effect keeps its names
pub named_kept : (own partner : ℕ) (xs : List Channel) (i : ℕ) (f : Effect End (List Note)) (y : Channel) → i < CHANNELS → AreNamed own partner xs → y ≡ roomed (kept f (channel_at xs i)) y → AreNamed own partner (set xs i y)
named_kept own partner xs i f y l h e = named_set own partner xs i y l h (ap (λ (z : Channel). z.own) e) (ap (λ (z : Channel). z.partner) e) (ap (λ (z : Channel). z.channel) e)

pub named_called : (own partner : ℕ) (xs : List Channel) (i : ℕ) (f : Effect End (List Note)) (y : Channel) → i < CHANNELS → AreNamed own partner xs → y ≡ called (kept f (channel_at xs i)) y → AreNamed own partner (set xs i y)
named_called own partner xs i f y l h e = named_set own partner xs i y l h (ap (λ (z : Channel). z.own) e) (ap (λ (z : Channel). z.partner) e) (ap (λ (z : Channel). z.channel) e)

pub named_kept_plain : (own partner : ℕ) (xs : List Channel) (i : ℕ) (f : Effect End (List Note)) (y : Channel) → i < CHANNELS → AreNamed own partner xs → y ≡ kept f (channel_at xs i) → AreNamed own partner (set xs i y)
named_kept_plain own partner xs i f y l h e = named_set own partner xs i y l h (ap (λ (z : Channel). z.own) e) (ap (λ (z : Channel). z.partner) e) (ap (λ (z : Channel). z.channel) e)

-- the room at each end, where one of them paid
left_of : (e : End) → e.shake.sent.open_complete ≡ true → needs_sides e ≡ true
left_of e h = ap (λ (b : Bool). b || e.shake.sent.open_reply) h

pub notes_left : (n : ℕ) (x : Channel) → HasNotes (n + 1) x → HasNotesLeft n x
notes_left n x h = record {
  ready = λ k. h.ready (left_of x.end k);
  calls = λ k. omega (arith, h.calls (left_of x.end k));
  ends = λ k. h.ends (left_of x.end k);
}

pub fewer_notes : (n : ℕ) (x : Channel) → HasNotes (n + 1) x → HasNotes n x
fewer_notes n x h = record { ready = h.ready; calls = λ k. omega (arith, h.calls k); ends = h.ends; next = h.next }

pub fewer_left : (n : ℕ) (x : Channel) → HasNotesLeft (n + 1) x → HasNotesLeft n x
fewer_left n x h = record { ready = h.ready; calls = λ k. omega (arith, h.calls k); ends = h.ends }

pub paid_left : (n : ℕ) (x y : Channel) → Pays 1 2 x y → HasNotes (n + 1) x → HasNotesLeft n y
paid_left n x y p h = record {
  ready = λ k. p.ready (left_of y.end k) (h.ready (p.complete k));
  calls = λ k. omega (arith, p.calls (left_of y.end k), h.calls (p.complete k));
  ends = λ k. omega (arith, p.ends (left_of y.end k), h.ends (p.complete k));
}

-- room for the step is room for one note
pub room_one : (x : Channel) → HasNotes 1 x → HasRoom x
room_one x h = record {
  ready = λ k. h.ready (left_of x.end k);
  calls = λ k. omega (arith, h.calls (left_of x.end k));
  ends = λ k. h.ends (left_of x.end k);
}

-- a call of a command or a notice makes one note at most
pub called_notes : (n : ℕ) (f : Effect End (List Note)) (x y : Channel) → y ≡ called (kept f x) y → x.room.calls ≤ y.room.calls + 1 → y.end.shake.sent ≡ x.end.shake.sent → y.end.shake.meet ≡ x.end.shake.meet → HasNotes (n + 1) x → HasNotes n y
called_notes n f x y e c s m h =
    let needs : needs_sides y.end ≡ true → needs_sides x.end ≡ true = λ k. ap (λ (z : Kinds). z.open_complete || z.open_reply) (sym s) ∙ k in
    record {
      ready = λ k. ap (λ (z : Channel). z.room.ready) e ∙ h.ready (needs k);
      calls = λ k. omega (arith, c, h.calls (needs k));
      ends = λ k. omega (arith, ap (λ (z : Channel). z.room.ends) e, h.ends (needs k));
      next = λ k. omega (arith, ap (λ (z : Channel). z.room.next) e, h.next (subst (λ (o : Option Contact). IsSome o) m k));
    }

pub called_left : (n : ℕ) (f : Effect End (List Note)) (x y : Channel) → y ≡ called (kept f x) y → x.room.calls ≤ y.room.calls + 1 → y.end.shake.sent ≡ x.end.shake.sent → HasNotesLeft (n + 1) x → HasNotesLeft n y
called_left n f x y e c s h =
    let sent : y.end.shake.sent.open_complete ≡ true → x.end.shake.sent.open_complete ≡ true = λ k. ap (λ (z : Kinds). z.open_complete) (sym s) ∙ k in
    record {
      ready = λ k. ap (λ (z : Channel). z.room.ready) e ∙ h.ready (sent k);
      calls = λ k. omega (arith, c, h.calls (sent k));
      ends = λ k. omega (arith, ap (λ (z : Channel). z.room.ends) e, h.ends (sent k));
    }

-- from one end to all
all_put : (P Q : Channel → Type 0) (x y : Partner) (c : ℕ) → ((z : Channel) → P z → Q z) → c < length x.channels → y ≡ with_channel c (channel_of y c) x → (P (channel_of x c) → Q (channel_of y c)) → ((d : ℕ) → d < CHANNELS → P (channel_of x d)) → c < CHANNELS → (d : ℕ) → d < CHANNELS → Q (channel_of y d)
all_put P Q x y c f l e g h k =
    subst (λ (z : Partner). (d : ℕ) → d < CHANNELS → Q (channel_of z d)) (sym e)
    (each_set (λ d z. Q z) x.channels c (channel_of y c) l (λ d i. f (channel_of x d) (h d i)) (g (h c k)))

pub notes_called : (x y : Partner) (c : ℕ) (f : Effect End (List Note)) → c < CHANNELS → length x.channels ≡ CHANNELS → y ≡ with_channel c (channel_of y c) x → channel_of y c ≡ called (kept f (channel_of x c)) (channel_of y c) → (channel_of x c).room.calls ≤ (channel_of y c).room.calls + 1 → (channel_of y c).end.shake.sent ≡ (channel_of x c).end.shake.sent → (channel_of y c).end.shake.meet ≡ (channel_of x c).end.shake.meet → (n : ℕ) → HaveNotes (n + 1) x → HaveNotes n y
notes_called x y c f k l e d calls s m n h =
    all_put (HasNotes (n + 1)) (HasNotes n) x y c (fewer_notes n) (subst (λ (i : ℕ). c < i) (sym l) k) e (called_notes n f (channel_of x c) (channel_of y c) d calls s m) h k

pub left_called : (x y : Partner) (c : ℕ) (f : Effect End (List Note)) → c < CHANNELS → length x.channels ≡ CHANNELS → y ≡ with_channel c (channel_of y c) x → channel_of y c ≡ called (kept f (channel_of x c)) (channel_of y c) → (channel_of x c).room.calls ≤ (channel_of y c).room.calls + 1 → (channel_of y c).end.shake.sent ≡ (channel_of x c).end.shake.sent → (n : ℕ) → HaveNotesLeft (n + 1) x → HaveNotesLeft n y
left_called x y c f k l e d calls s n h =
    all_put (HasNotesLeft (n + 1)) (HasNotesLeft n) x y c (fewer_left n) (subst (λ (i : ℕ). c < i) (sym l) k) e (called_left n f (channel_of x c) (channel_of y c) d calls s) h k

-- a notice that takes no room
pub kept_notes : (n : ℕ) (f : Effect End (List Note)) (x y : Channel) → y ≡ kept f x → y.end.shake.sent ≡ x.end.shake.sent → y.end.shake.meet ≡ x.end.shake.meet → HasNotes n x → HasNotes n y
kept_notes n f x y e s m h =
    let needs : needs_sides y.end ≡ true → needs_sides x.end ≡ true = λ k. ap (λ (z : Kinds). z.open_complete || z.open_reply) (sym s) ∙ k in
    record {
      ready = λ k. ap (λ (z : Channel). z.room.ready) e ∙ h.ready (needs k);
      calls = λ k. omega (arith, ap (λ (z : Channel). z.room.calls) e, h.calls (needs k));
      ends = λ k. omega (arith, ap (λ (z : Channel). z.room.ends) e, h.ends (needs k));
      next = λ k. omega (arith, ap (λ (z : Channel). z.room.next) e, h.next (subst (λ (o : Option Contact). IsSome o) m k));
    }

pub kept_left : (n : ℕ) (f : Effect End (List Note)) (x y : Channel) → y ≡ kept f x → y.end.shake.sent ≡ x.end.shake.sent → HasNotesLeft n x → HasNotesLeft n y
kept_left n f x y e s h =
    let sent : y.end.shake.sent.open_complete ≡ true → x.end.shake.sent.open_complete ≡ true = λ k. ap (λ (z : Kinds). z.open_complete) (sym s) ∙ k in
    record {
      ready = λ k. ap (λ (z : Channel). z.room.ready) e ∙ h.ready (sent k);
      calls = λ k. omega (arith, ap (λ (z : Channel). z.room.calls) e, h.calls (sent k));
      ends = λ k. omega (arith, ap (λ (z : Channel). z.room.ends) e, h.ends (sent k));
    }

pub notes_kept : (x y : Partner) (c : ℕ) (f : Effect End (List Note)) → c < CHANNELS → length x.channels ≡ CHANNELS → y ≡ with_channel c (channel_of y c) x → channel_of y c ≡ kept f (channel_of x c) → (channel_of y c).end.shake.sent ≡ (channel_of x c).end.shake.sent → (channel_of y c).end.shake.meet ≡ (channel_of x c).end.shake.meet → (n : ℕ) → HaveNotes n x → HaveNotes n y
notes_kept x y c f k l e d s m n h =
    all_put (HasNotes n) (HasNotes n) x y c (λ z i. i) (subst (λ (i : ℕ). c < i) (sym l) k) e (kept_notes n f (channel_of x c) (channel_of y c) d s m) h k

pub left_noticed : (x y : Partner) (c : ℕ) (f : Effect End (List Note)) → c < CHANNELS → length x.channels ≡ CHANNELS → y ≡ with_channel c (channel_of y c) x → channel_of y c ≡ kept f (channel_of x c) → (channel_of y c).end.shake.sent ≡ (channel_of x c).end.shake.sent → (n : ℕ) → HaveNotesLeft n x → HaveNotesLeft n y
left_noticed x y c f k l e d s n h =
    all_put (HasNotesLeft n) (HasNotesLeft n) x y c (λ z i. i) (subst (λ (i : ℕ). c < i) (sym l) k) e (kept_left n f (channel_of x c) (channel_of y c) d s) h k

pub left_stepped : (x y : Partner) (c : ℕ) → c < CHANNELS → length x.channels ≡ CHANNELS → y.channels ≡ set x.channels c (channel_of y c) → Pays 1 2 (channel_of x c) (channel_of y c) → (n : ℕ) → HaveNotes (n + 1) x → HaveNotesLeft n y
left_stepped x y c k l e p n h =
    subst (λ (zs : List Channel). (d : ℕ) → d < CHANNELS → HasNotesLeft n (channel_at zs d)) (sym e)
    (each_set (λ d z. HasNotesLeft n z) x.channels c (channel_of y c) (subst (λ (i : ℕ). c < i) (sym l) k) (λ d i. notes_left n (channel_of x d) (h d i)) (paid_left n (channel_of x c) (channel_of y c) p (h c k)))

pub ruleset putting = (named_kept, named_called, same_set, notes_called, left_called)

pub ruleset stepping = (named_kept, same_set, room_one)

pub turn_notes : (x : Partner) → HaveTurnRoom x → HaveNotes TURN_ROOM x
turn_notes x h = λ c l. let k = h c l in record { ready = k.ready; calls = k.calls; ends = k.ends; next = k.next }

pub all_left : (n : ℕ) (x : Partner) → HaveNotes n x → HaveNotesLeft n x
all_left n x h = λ c l. let k = h c l in let e = (channel_of x c).end in record {
  ready = λ m. k.ready (left_of e m);
  calls = λ m. k.calls (left_of e m);
  ends = λ m. k.ends (left_of e m);
}

pub room_some : (n : ℕ) (x : Channel) → HasNotes (n + 1) x → HasRoom x
room_some n x h = record {
  ready = λ k. h.ready (left_of x.end k);
  calls = λ k. omega (arith, h.calls (left_of x.end k));
  ends = λ k. h.ends (left_of x.end k);
}

pub room_left : (n : ℕ) (x : Channel) → HasNotesLeft (n + 1) x → HasRoom x
room_left n x h = record { ready = h.ready; calls = λ k. omega (arith, h.calls k); ends = h.ends }

pub ruleset noticing = (named_kept_plain, same_set, notes_kept, left_noticed)
