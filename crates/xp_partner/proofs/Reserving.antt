-- The room of four ends.
use Rattle.std.proofs.Common.{◌≡◌, ℕ, ◌<◌, Bool, true, false, List, [], ◌∷◌, length, refl, ap, sym, ◌∙◌, subst, arith, set, get_or}
use Rattle.std.specs.Prelude.{◌&&◌}
use Rattle.std.proofs.lemmas.Bool.{and_parts}
use Rattle.xp_base.specs.declared.layout.TheConstants.{CHANNELS}
use Rattle.xp_channel.specs.Channel.{Channel, Room, new_channel, roomed}
use Rattle.std.proofs.lemmas.List.{get_or_default}
use Rattle.xp_channel.specs.Room.{HasTurnRoom, IsNoLess}
use Rattle.xp_partner.specs.Partner.{Partner, channel_at, each_roomed, rooms_of}
use Rattle.xp_partner.proofs.Four.{four_of, four_same, same_rooms, put_four, rooms_put}
use Rattle.xp_partner.proofs.Channels.{by_four, each_set}

pub four_roomy : (xs : List Channel) → HasTurnRoom (channel_at xs 0) → HasTurnRoom (channel_at xs 1) → HasTurnRoom (channel_at xs 2) → HasTurnRoom (channel_at xs 3) → (c : ℕ) → c < CHANNELS → HasTurnRoom (channel_at xs c)
four_roomy xs p q r s c h = by_four (λ n. HasTurnRoom (channel_at xs n)) p q r s c h

pub same_room : (x : Channel) → IsNoLess x.room x.room
same_room x = record { ready = λ h. h; calls = omega arith; ends = omega arith; next = omega arith; ongoing = refl }

more_room : (x y z : Room) → IsNoLess x y → IsNoLess y z → IsNoLess x z
more_room x y z h k = record {
  ready = λ r. k.ready (h.ready r);
  calls = omega (arith, h.calls, k.calls);
  ends = omega (arith, h.ends, k.ends);
  next = omega (arith, h.next, k.next);
  ongoing = k.ongoing ∙ h.ongoing;
}

-- one more end has made room
pub length_roomed : (xs ys : List Channel) → length xs ≡ 4 → length (each_roomed xs ys) ≡ 4
length_roomed xs ys h = four_of (λ (zs : List Channel). length (each_roomed zs ys) ≡ 4) (λ a b c d. by a b c d ys) xs h where
  by : (a b c d : Channel) (ys : List Channel) → length (each_roomed (a ∷ b ∷ c ∷ d ∷ []) ys) ≡ 4
  by a b c d [] = refl
  by a b c d (x ∷ []) = refl
  by a b c d (x ∷ y ∷ []) = refl
  by a b c d (x ∷ y ∷ z ∷ []) = refl
  by a b c d (x ∷ y ∷ z ∷ w ∷ more) = refl

pub length_same : (xs ys : List Channel) → length xs ≡ 4 → ys ≡ each_roomed xs ys → length ys ≡ 4
length_same xs ys h e = ap (λ (zs : List Channel). length zs) e ∙ length_roomed xs ys h

abbrev put_same : List Channel → List Channel → Channel → ℕ → Type 0
put_same xs ys a i = ys ≡ each_roomed xs ys → a ≡ roomed (channel_at ys i) a → set ys i a ≡ each_roomed xs (set ys i a)

pub room_put : (xs ys : List Channel) (i : ℕ) (a : Channel) → i < 4 → length xs ≡ 4 → ys ≡ each_roomed xs ys → a ≡ roomed (channel_at ys i) a → set ys i a ≡ each_roomed xs (set ys i a)
room_put xs ys i a l h e =
    four_of (λ (vs : List Channel). put_same vs ys a i)
    (λ x0 x1 x2 x3. four_of (λ (ws : List Channel). put_same (x0 ∷ x1 ∷ x2 ∷ x3 ∷ []) ws a i)
    (λ y0 y1 y2 y3. by_four (λ n. put_same (x0 ∷ x1 ∷ x2 ∷ x3 ∷ []) (y0 ∷ y1 ∷ y2 ∷ y3 ∷ []) a n)
    (λ f k. four_same a y1 y2 y3 _ _ _ _ (k ∙ ap (λ (v : Channel). roomed v a) (at f 0)) (at f 1) (at f 2) (at f 3))
    (λ f k. four_same y0 a y2 y3 _ _ _ _ (at f 0) (k ∙ ap (λ (v : Channel). roomed v a) (at f 1)) (at f 2) (at f 3))
    (λ f k. four_same y0 y1 a y3 _ _ _ _ (at f 0) (at f 1) (k ∙ ap (λ (v : Channel). roomed v a) (at f 2)) (at f 3))
    (λ f k. four_same y0 y1 y2 a _ _ _ _ (at f 0) (at f 1) (at f 2) (k ∙ ap (λ (v : Channel). roomed v a) (at f 3)))
    i l)
    ys (length_same xs ys h e))
    xs h e
  where
    at : {us vs : List Channel} → us ≡ vs → (n : ℕ) → channel_at us n ≡ channel_at vs n
    at f n = ap (λ (zs : List Channel). channel_at zs n) f

pub kept_put : (xs ys : List Channel) (i : ℕ) (a : Channel) → i < 4 → length xs ≡ 4 → ys ≡ each_roomed xs ys → ((c : ℕ) → c < CHANNELS → IsNoLess (channel_at xs c).room (channel_at ys c).room) → IsNoLess (channel_at ys i).room a.room → (c : ℕ) → c < CHANNELS → IsNoLess (channel_at xs c).room (channel_at (set ys i a) c).room
kept_put xs ys i a l h e k n =
    each_set (λ c z. IsNoLess (channel_at xs c).room z.room) ys i a (subst (λ (m : ℕ). i < m) (sym (length_same xs ys h e)) l) k
    (more_room (channel_at xs i).room (channel_at ys i).room a.room (k i l) n)

pub none_lost : (xs : List Channel) (c : ℕ) → c < CHANNELS → IsNoLess (channel_at xs c).room (channel_at xs c).room
none_lost xs c h = same_room (channel_at xs c)

pub none_moved : (xs : List Channel) → xs ≡ each_roomed xs xs
none_moved xs = sym (same_rooms xs)

-- all four have
pub four_turn : (xs : List Channel) (a b c d : Channel) → length xs ≡ 4 → HasTurnRoom a → HasTurnRoom b → HasTurnRoom c → HasTurnRoom d → (n : ℕ) → n < CHANNELS → HasTurnRoom (channel_at (put_four xs a b c d) n)
four_turn xs a b c d h p q r s = four_of (λ (ys : List Channel). (n : ℕ) → n < CHANNELS → HasTurnRoom (channel_at (put_four ys a b c d) n)) (λ x y z w n l. by_four (λ m. HasTurnRoom (channel_at (a ∷ b ∷ c ∷ d ∷ []) m)) p q r s n l) xs h

pub rooms_moved : (x z : Partner) (ys : List Channel) → ys ≡ each_roomed x.channels ys → z ≡ record x { channels = ys } → z ≡ rooms_of x z
rooms_moved x z ys h e = rooms_put x z x.channels ys h e

pub ruleset four_reserved = (room_put, kept_put, none_lost, none_moved, four_turn)

pub ruleset reserved = (rooms_moved)

pub rooms_yes : (xs : List Channel) (a b c d r : Bool) → r ≡ (a && (b && (c && d))) → (a ≡ true → HasTurnRoom (channel_at xs 0)) → (b ≡ true → HasTurnRoom (channel_at xs 1)) → (c ≡ true → HasTurnRoom (channel_at xs 2)) → (d ≡ true → HasTurnRoom (channel_at xs 3)) → r ≡ true → (n : ℕ) → n < CHANNELS → HasTurnRoom (channel_at xs n)
rooms_yes xs a b c d r e p q s t h =
    let k = and_parts a (b && (c && d)) (sym e ∙ h) in
    let l = and_parts b (c && d) k.1 in
    let m = and_parts c d l.1 in
    four_roomy xs (p k.0) (q l.0) (s m.0) (t m.1)

all_true : (a b c d : Bool) → a ≡ true → b ≡ true → c ≡ true → d ≡ true → (a && (b && (c && d))) ≡ true
all_true true true true true p q r s = refl
all_true false b c d p q r s = absurd (cc)
all_true true false c d p q r s = absurd (cc)
all_true true true false d p q r s = absurd (cc)
all_true true true true false p q r s = absurd (cc)

pub rooms_no : (xs : List Channel) (a b c d r : Bool) → r ≡ (a && (b && (c && d))) → (HasTurnRoom (channel_at xs 0) → a ≡ true) → (HasTurnRoom (channel_at xs 1) → b ≡ true) → (HasTurnRoom (channel_at xs 2) → c ≡ true) → (HasTurnRoom (channel_at xs 3) → d ≡ true) → ((n : ℕ) → n < CHANNELS → HasTurnRoom (channel_at xs n)) → r ≡ true
rooms_no xs a b c d r e p q s t h = e ∙ all_true a b c d (p (h 0 (omega arith))) (q (h 1 (omega arith))) (s (h 2 (omega arith))) (t (h 3 (omega arith)))

pub rooms_none : (xs : List Channel) (u v w z : Channel) (a b c d r : Bool) → length xs ≡ 4 → r ≡ (a && (b && (c && d))) → (HasTurnRoom (get_or xs 0 u) → a ≡ true) → (HasTurnRoom (get_or xs 1 v) → b ≡ true) → (HasTurnRoom (get_or xs 2 w) → c ≡ true) → (HasTurnRoom (get_or xs 3 z) → d ≡ true) → ((n : ℕ) → n < CHANNELS → HasTurnRoom (channel_at xs n)) → r ≡ true
rooms_none xs u v w z a b c d r l e p q s t h = rooms_no xs a b c d r e (λ k. p (at 0 u (omega (arith, l)) k)) (λ k. q (at 1 v (omega (arith, l)) k)) (λ k. s (at 2 w (omega (arith, l)) k)) (λ k. t (at 3 z (omega (arith, l)) k)) h where
  at : (i : ℕ) (x : Channel) → i < length xs → HasTurnRoom (channel_at xs i) → HasTurnRoom (get_or xs i x)
  at i x m k = subst HasTurnRoom (get_or_default xs i (new_channel 0 0 0) x m) k

pub ruleset have_room = (rooms_yes)
