-- The room that is left at the ends of a partner by what becomes of all of them.
use Rattle.std.proofs.Common.{◌≡◌, ℕ, ◌<◌, Bool, true, false, true≢false, List, [], ◌∷◌, length, refl, ap, sym, ◌∙◌, subst, arith, set}
use Rattle.std.specs.Prelude.{◌||◌}
use Rattle.xp_base.specs.declared.layout.TheConstants.{CHANNELS}
use Rattle.xp_base.specs.Kinds.{Kinds}
use Rattle.xp_protocol.specs.Effects.{Effect, Note}
use Rattle.xp_protocol.specs.State.{End, Contact}
use Rattle.xp_protocol.specs.Linking.{link_finished, link_joined}
use Rattle.xp_channel.specs.Channel.{Channel, kept}
use Rattle.xp_channel.specs.Room.{Settles, needs_sides}
use Rattle.xp_partner.specs.Partner.{channel_at, each_kept, each_roomed}
use Rattle.xp_partner.specs.Booting.{each_booted}
use Rattle.xp_partner.specs.Room.{HasNotesLeft, KeepLeft}
use Rattle.xp_partner.proofs.Four.{four_of, four_kept, four_roomed, four_booted}
use Rattle.xp_partner.proofs.Channels.{by_four}

-- an end carries messages once it has sent its open complete
abbrev carries : End → Bool
carries e = e.shake.sent.open_complete

needs_of : (e : End) → carries e ≡ true → needs_sides e ≡ true
needs_of e h = ap (λ (b : Bool). b || e.shake.sent.open_reply) h

-- one that doesn't needs no room
left_fresh : (n : ℕ) (y : Channel) → carries y.end ≡ false → HasNotesLeft n y
left_fresh n y h = record {
  ready = λ k. absurd (true≢false (sym k ∙ h));
  calls = λ k. absurd (true≢false (sym k ∙ h));
  ends = λ k. absurd (true≢false (sym k ∙ h));
}

ended_left : (xs ys : List Channel) → ((c : ℕ) → c < CHANNELS → carries (channel_at ys c).end ≡ false) → KeepLeft xs ys
ended_left xs ys h n c l k = left_fresh n (channel_at ys c) (h c l)

-- each end of a list is one of the same list
abbrev need_none : List Channel → Type 0
need_none ys = (c : ℕ) → c < CHANNELS → carries (channel_at ys c).end ≡ false

same_need : (ys zs : List Channel) → ys ≡ zs → need_none zs → need_none ys
same_need ys zs e h = subst need_none (sym e) h

roomed_none : (ks ys : List Channel) → length ks ≡ 4 → length ys ≡ 4 → need_none ks → need_none (each_roomed ks ys)
roomed_none ks ys h l = four_of (λ (zs : List Channel). need_none zs → need_none (each_roomed zs ys)) (λ a b c d.
    four_of (λ (ws : List Channel). need_none (a ∷ b ∷ c ∷ d ∷ []) → need_none (each_roomed (a ∷ b ∷ c ∷ d ∷ []) ws))
    (λ x y z w k. by_four (λ n. carries (channel_at (each_roomed (a ∷ b ∷ c ∷ d ∷ []) (x ∷ y ∷ z ∷ w ∷ [])) n).end ≡ false) (k 0 (omega arith)) (k 1 (omega arith)) (k 2 (omega arith)) (k 3 (omega arith))) ys l) ks h

finished_none : (xs : List Channel) → length xs ≡ 4 → need_none (each_kept (λ c e. link_finished e) 0 xs)
finished_none xs h = four_of (λ (zs : List Channel). need_none (each_kept (λ c e. link_finished e) 0 zs)) (λ a b c d.
    by_four (λ n. carries (channel_at (each_kept (λ c e. link_finished e) 0 (a ∷ b ∷ c ∷ d ∷ [])) n).end ≡ false) refl refl refl refl) xs h

joined_none : (new : Bool) (m : Contact) (xs : List Channel) → length xs ≡ 4 → need_none (each_kept (λ c e. link_joined new m e) 0 xs)
joined_none new m xs h = four_of (λ (zs : List Channel). need_none (each_kept (λ c e. link_joined new m e) 0 zs)) (λ a b c d.
    by_four (λ n. carries (channel_at (each_kept (λ c e. link_joined new m e) 0 (a ∷ b ∷ c ∷ d ∷ [])) n).end ≡ false) refl refl refl refl) xs h

booted_none : (xs : List Channel) → length xs ≡ 4 → need_none (each_booted xs)
booted_none xs h = four_of (λ (zs : List Channel). need_none (each_booted zs)) (λ a b c d.
    by_four (λ n. carries (channel_at (each_booted (a ∷ b ∷ c ∷ d ∷ [])) n).end ≡ false) refl refl refl refl) xs h

kept_length : (f : ℕ → End → Effect End (List Note)) (xs : List Channel) → length xs ≡ 4 → length (each_kept f 0 xs) ≡ 4
kept_length f xs h = four_of (λ (zs : List Channel). length (each_kept f 0 zs) ≡ 4) (λ a b c d. refl) xs h

booted_length : (xs : List Channel) → length xs ≡ 4 → length (each_booted xs) ≡ 4
booted_length xs h = four_of (λ (zs : List Channel). length (each_booted zs) ≡ 4) (λ a b c d. refl) xs h

pub left_finished : (xs ys : List Channel) → length xs ≡ 4 → length ys ≡ 4 → ys ≡ each_roomed (each_kept (λ c e. link_finished e) 0 xs) ys → KeepLeft xs ys
left_finished xs ys h l e =
    let ks : List Channel = each_kept (λ c e. link_finished e) 0 xs in
    ended_left xs ys (same_need ys (each_roomed ks ys) e (roomed_none ks ys (kept_length (λ c e. link_finished e) xs h) l (finished_none xs h)))

pub left_joined : (new : Bool) (m : Contact) (xs ys : List Channel) → length xs ≡ 4 → length ys ≡ 4 → ys ≡ each_roomed (each_kept (λ c e. link_joined new m e) 0 xs) ys → KeepLeft xs ys
left_joined new m xs ys h l e =
    let ks : List Channel = each_kept (λ c e. link_joined new m e) 0 xs in
    ended_left xs ys (same_need ys (each_roomed ks ys) e (roomed_none ks ys (kept_length (λ c e. link_joined new m e) xs h) l (joined_none new m xs h)))

pub left_booted : (xs ys : List Channel) → length xs ≡ 4 → length ys ≡ 4 → ys ≡ each_roomed (each_booted xs) ys → KeepLeft xs ys
left_booted xs ys h l e = ended_left xs ys (same_need ys (each_roomed (each_booted xs) ys) e (roomed_none (each_booted xs) ys (booted_length xs h) l (booted_none xs h)))

-- an end that goes down, and one that takes flags
pub left_kept : (n : ℕ) (f : Effect End (List Note)) (x y : Channel) → y ≡ kept f x → y.end.shake.sent ≡ x.end.shake.sent → HasNotesLeft n x → HasNotesLeft n y
left_kept n f x y e s h =
    let sent : carries y.end ≡ true → carries x.end ≡ true = λ k. ap (λ (z : Kinds). z.open_complete) (sym s) ∙ k in
    record {
      ready = λ k. ap (λ (z : Channel). z.room.ready) e ∙ h.ready (sent k);
      calls = λ k. omega (arith, ap (λ (z : Channel). z.room.calls) e, h.calls (sent k));
      ends = λ k. omega (arith, ap (λ (z : Channel). z.room.ends) e, h.ends (sent k));
    }

pub left_settled : (n : ℕ) (x y : Channel) → Settles x y → HasNotesLeft n x → HasNotesLeft n y
left_settled n x y s h = record {
  ready = λ k. s.ready (needs_of y.end k) ∙ h.ready (s.complete k);
  calls = λ k. omega (arith, s.calls (needs_of y.end k), h.calls (s.complete k));
  ends = λ k. omega (arith, s.ends (needs_of y.end k), h.ends (s.complete k));
}

-- one of four after the other
pub left_four : (xs : List Channel) (a b c d : Channel) → length xs ≡ 4
    → ((n : ℕ) → HasNotesLeft n (channel_at xs 0) → HasNotesLeft n a)
    → ((n : ℕ) → HasNotesLeft n (channel_at (set xs 0 a) 1) → HasNotesLeft n b)
    → ((n : ℕ) → HasNotesLeft n (channel_at (set (set xs 0 a) 1 b) 2) → HasNotesLeft n c)
    → ((n : ℕ) → HasNotesLeft n (channel_at (set (set (set xs 0 a) 1 b) 2 c) 3) → HasNotesLeft n d)
    → KeepLeft xs (set (set (set (set xs 0 a) 1 b) 2 c) 3 d)
left_four xs a b c d h = four_of (λ (ys : List Channel).
    ((n : ℕ) → HasNotesLeft n (channel_at ys 0) → HasNotesLeft n a)
    → ((n : ℕ) → HasNotesLeft n (channel_at (set ys 0 a) 1) → HasNotesLeft n b)
    → ((n : ℕ) → HasNotesLeft n (channel_at (set (set ys 0 a) 1 b) 2) → HasNotesLeft n c)
    → ((n : ℕ) → HasNotesLeft n (channel_at (set (set (set ys 0 a) 1 b) 2 c) 3) → HasNotesLeft n d)
    → KeepLeft ys (set (set (set (set ys 0 a) 1 b) 2 c) 3 d))
    (λ x y z w p q r s n. by_four (λ i. HasNotesLeft n (channel_at (x ∷ y ∷ z ∷ w ∷ []) i) → HasNotesLeft n (channel_at (a ∷ b ∷ c ∷ d ∷ []) i)) (p n) (q n) (r n) (s n)) xs h

pub ruleset finishing = (four_roomed, left_finished, left_joined)

pub ruleset booting = (four_booted, left_booted)

pub ruleset going_down = (four_kept, left_four, left_kept)
