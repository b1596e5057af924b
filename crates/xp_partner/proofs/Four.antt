-- Four ends, one by one.
use Rattle.std.proofs.Common.{◌≡◌, ℕ, List, [], ◌∷◌, length, refl, ap, sym, ◌∙◌, arith, set}
use Rattle.xp_protocol.specs.Effects.{Effect, Note}
use Rattle.xp_protocol.specs.State.{End}
use Rattle.xp_protocol.specs.Linking.{booted_end}
use Rattle.xp_channel.specs.Channel.{Channel, kept, roomed, no_waiting}
use Rattle.xp_partner.specs.Booting.{each_booted}
use Rattle.xp_partner.specs.Partner.{channel_at, each_kept, each_roomed, rooms_of, Partner}

pub four_of : (P : List Channel → Type 0) → ((a b c d : Channel) → P (a ∷ b ∷ c ∷ d ∷ [])) → (xs : List Channel) → length xs ≡ 4 → P xs
four_of P f [] h = absurd (omega (arith, h))
four_of P f (a ∷ []) h = absurd (omega (arith, h))
four_of P f (a ∷ b ∷ []) h = absurd (omega (arith, h))
four_of P f (a ∷ b ∷ c ∷ []) h = absurd (omega (arith, h))
four_of P f (a ∷ b ∷ c ∷ d ∷ []) h = f a b c d
four_of P f (a ∷ b ∷ c ∷ d ∷ e ∷ more) h = absurd (omega (arith, h))

-- a list has its own rooms
pub same_rooms : (xs : List Channel) → each_roomed xs xs ≡ xs
same_rooms [] = refl
same_rooms (x ∷ xs) = ap (λ (ys : List Channel). x ∷ ys) (same_rooms xs)

-- each is replaced in turn
abbrev pub put_four : List Channel → Channel → Channel → Channel → Channel → List Channel
put_four xs a b c d = set (set (set (set xs 0 a) 1 b) 2 c) 3 d

pub four_put : (xs : List Channel) (a b c d : Channel) → length xs ≡ 4 → put_four xs a b c d ≡ a ∷ b ∷ c ∷ d ∷ []
four_put xs a b c d h = four_of (λ (ys : List Channel). put_four ys a b c d ≡ a ∷ b ∷ c ∷ d ∷ []) (λ x y z w. refl) xs h

pub four_same : (a b c d x y z w : Channel) → a ≡ x → b ≡ y → c ≡ z → d ≡ w → a ∷ b ∷ c ∷ d ∷ [] ≡ x ∷ y ∷ z ∷ w ∷ []
four_same a b c d x y z w h k m n =
    ap (λ (v : Channel). v ∷ b ∷ c ∷ d ∷ []) h ∙ ap (λ (v : Channel). x ∷ v ∷ c ∷ d ∷ []) k
    ∙ ap (λ (v : Channel). x ∷ y ∷ v ∷ d ∷ []) m ∙ ap (λ (v : Channel). x ∷ y ∷ z ∷ v ∷ []) n

-- each changes by an effect that is kept, and keeps its room or not
abbrev changed_at : (ℕ → End → Effect End (List Note)) → List Channel → ℕ → Channel
changed_at f xs c = kept (f c (channel_at xs c).end) (channel_at xs c)

pub four_kept : (f : ℕ → End → Effect End (List Note)) (xs : List Channel) (a b c d : Channel) → length xs ≡ 4
    → a ≡ changed_at f xs 0
    → b ≡ changed_at f (set xs 0 a) 1
    → c ≡ changed_at f (set (set xs 0 a) 1 b) 2
    → d ≡ changed_at f (set (set (set xs 0 a) 1 b) 2 c) 3
    → put_four xs a b c d ≡ each_kept f 0 xs
four_kept f xs a b c d h = four_of (λ (ys : List Channel). a ≡ changed_at f ys 0
    → b ≡ changed_at f (set ys 0 a) 1
    → c ≡ changed_at f (set (set ys 0 a) 1 b) 2
    → d ≡ changed_at f (set (set (set ys 0 a) 1 b) 2 c) 3
    → put_four ys a b c d ≡ each_kept f 0 ys)
    (λ x y z w p q r s. four_same a b c d _ _ _ _ p q r s) xs h

pub four_roomed : (f : ℕ → End → Effect End (List Note)) (xs : List Channel) (a b c d : Channel) → length xs ≡ 4
    → a ≡ roomed (changed_at f xs 0) a
    → b ≡ roomed (changed_at f (set xs 0 a) 1) b
    → c ≡ roomed (changed_at f (set (set xs 0 a) 1 b) 2) c
    → d ≡ roomed (changed_at f (set (set (set xs 0 a) 1 b) 2 c) 3) d
    → put_four xs a b c d ≡ each_roomed (each_kept f 0 xs) (put_four xs a b c d)
four_roomed f xs a b c d h = four_of (λ (ys : List Channel). a ≡ roomed (changed_at f ys 0) a
    → b ≡ roomed (changed_at f (set ys 0 a) 1) b
    → c ≡ roomed (changed_at f (set (set ys 0 a) 1 b) 2) c
    → d ≡ roomed (changed_at f (set (set (set ys 0 a) 1 b) 2 c) 3) d
    → put_four ys a b c d ≡ each_roomed (each_kept f 0 ys) (put_four ys a b c d))
    (λ x y z w p q r s. four_same a b c d _ _ _ _ p q r s) xs h

-- a partner whose ends changed, but for their room
pub rooms_put : (x z : Partner) (ks ys : List Channel) → ys ≡ each_roomed ks ys → z ≡ record x { channels = ys } → z ≡ rooms_of (record x { channels = ks }) z
rooms_put x z ks ys h e =
    e ∙ ap (λ (zs : List Channel). record x { channels = zs }) h
    ∙ ap (λ (v : Partner). record x { channels = each_roomed ks v.channels }) (sym e)

-- each boots
abbrev booted_at : List Channel → ℕ → Channel
booted_at xs c = record (channel_at xs c) { end = booted_end (channel_at xs c).end; waiting = no_waiting }

pub four_booted : (xs : List Channel) (a b c d : Channel) → length xs ≡ 4
    → a ≡ roomed (booted_at xs 0) a
    → b ≡ roomed (booted_at (set xs 0 a) 1) b
    → c ≡ roomed (booted_at (set (set xs 0 a) 1 b) 2) c
    → d ≡ roomed (booted_at (set (set (set xs 0 a) 1 b) 2 c) 3) d
    → put_four xs a b c d ≡ each_roomed (each_booted xs) (put_four xs a b c d)
four_booted xs a b c d h = four_of (λ (ys : List Channel). a ≡ roomed (booted_at ys 0) a
    → b ≡ roomed (booted_at (set ys 0 a) 1) b
    → c ≡ roomed (booted_at (set (set ys 0 a) 1 b) 2) c
    → d ≡ roomed (booted_at (set (set (set ys 0 a) 1 b) 2 c) 3) d
    → put_four ys a b c d ≡ each_roomed (each_booted ys) (put_four ys a b c d))
    (λ x y z w p q r s. four_same a b c d _ _ _ _ p q r s) xs h
