-- A partner that is in contact from the opening.
use Rattle.std.proofs.Common.{◌≡◌, ℕ, ◌<◌, Bool, true, false, List, [], ◌∷◌, length, refl, ap, sym, ◌∙◌, set}
use Rattle.xp_protocol.specs.Linking.{link_joined}
use Rattle.xp_protocol.specs.State.{Contact, Size, first_contact}
use Rattle.xp_channel.specs.Channel.{Channel, roomed}
use Rattle.xp_engage.specs.Partner.{Partner as Standing}
use Rattle.xp_partner.specs.Partner.{Partner, channel_at, each_kept, each_roomed, rooms_of}
use Rattle.xp_partner.specs.Named.{AreNamed}
use Rattle.xp_partner.specs.Opening.{first_met, warm_channel}
use Rattle.xp_partner.proofs.Four.{four_of, four_same, same_rooms, rooms_put}
use Rattle.xp_partner.proofs.Channels.{by_four, named_set}
use Rattle.xp_partner.proofs.Naming.{named_each, named_roomed}
use Rattle.xp_partner.proofs.Reserving.{length_same}

-- the ends come into contact, or are in it
met_rooms : (new : Bool) (m : Contact) (xs ys : List Channel) → m ≡ first_contact → ys ≡ each_roomed (each_kept (λ c e. link_joined new m e) 0 xs) ys → ys ≡ each_roomed (first_met false new xs) ys
met_rooms new m xs ys h e = e ∙ ap (λ (n : Contact). each_roomed (each_kept (λ c e. link_joined new n e) 0 xs) ys) h

pub started : (met new : Bool) (m : Contact) (xs ys : List Channel) → met ≡ false → m ≡ first_contact → ys ≡ each_roomed (each_kept (λ c e. link_joined new m e) 0 xs) ys → ys ≡ each_roomed (first_met met new xs) ys
started met new m xs ys b h e = met_rooms new m xs ys h e ∙ ap (λ (c : Bool). each_roomed (first_met c new xs) ys) (sym b)

pub unstarted : (met new : Bool) (xs : List Channel) → met ≡ true → xs ≡ each_roomed (first_met met new xs) xs
unstarted met new xs b = sym (same_rooms xs) ∙ ap (λ (c : Bool). each_roomed (first_met c new xs) xs) (sym b)

pub ruleset first_rooms = (started, unstarted)

-- one of them is replaced
abbrev set_same : List Channel → List Channel → Channel → Channel → ℕ → Type 0
set_same ks ys a w i = ys ≡ each_roomed ks ys → a ≡ roomed w a → set ys i a ≡ each_roomed (set ks i w) (set ys i a)

pub room_set : (ks ys : List Channel) (i : ℕ) (a w : Channel) → i < 4 → length ks ≡ 4 → ys ≡ each_roomed ks ys → a ≡ roomed w a → set ys i a ≡ each_roomed (set ks i w) (set ys i a)
room_set ks ys i a w l h e =
    four_of (λ (vs : List Channel). set_same vs ys a w i)
    (λ x0 x1 x2 x3. four_of (λ (ws : List Channel). set_same (x0 ∷ x1 ∷ x2 ∷ x3 ∷ []) ws a w i)
    (λ y0 y1 y2 y3. by_four (λ n. set_same (x0 ∷ x1 ∷ x2 ∷ x3 ∷ []) (y0 ∷ y1 ∷ y2 ∷ y3 ∷ []) a w n)
    (λ f k. four_same a y1 y2 y3 _ _ _ _ k (at f 1) (at f 2) (at f 3))
    (λ f k. four_same y0 a y2 y3 _ _ _ _ (at f 0) k (at f 2) (at f 3))
    (λ f k. four_same y0 y1 a y3 _ _ _ _ (at f 0) (at f 1) k (at f 3))
    (λ f k. four_same y0 y1 y2 a _ _ _ _ (at f 0) (at f 1) (at f 2) k)
    i l)
    ys (length_same ks ys h e))
    ks h e
  where
    at : {us vs : List Channel} → us ≡ vs → (n : ℕ) → channel_at us n ≡ channel_at vs n
    at f n = ap (λ (zs : List Channel). channel_at zs n) f

met_length : (met new : Bool) (xs : List Channel) → length xs ≡ 4 → length (first_met met new xs) ≡ 4
met_length true new xs h = h
met_length false new xs h = four_of (λ (ys : List Channel). length (first_met false new ys) ≡ 4) (λ a b c d. refl) xs h

named_met : (own partner : ℕ) (met new : Bool) (xs : List Channel) → AreNamed own partner xs → AreNamed own partner (first_met met new xs)
named_met own partner true new xs h = h
named_met own partner false new xs h = named_each own partner (λ c e. link_joined new first_contact e) xs h

-- the ends with the one that is connected
pub warm_rooms : (x z : Partner) (s : Standing) (met : Bool) (c i : ℕ) (size : Size) (ys : List Channel) (a : Channel) → i ≡ c → i < 4 → length x.channels ≡ 4
    → ys ≡ each_roomed (first_met met s.both_new x.channels) ys
    → a ≡ roomed (warm_channel s.own s.partner c size s.both_new) a
    → z ≡ record x { standing = s; channels = set ys i a }
    → z ≡ rooms_of (record x { standing = s; channels = set (first_met met s.both_new x.channels) c (warm_channel s.own s.partner c size s.both_new) }) z
warm_rooms x z s met c i size ys a j l h e f g =
    let w : Channel = warm_channel s.own s.partner c size s.both_new in
    let ks : List Channel = first_met met s.both_new x.channels in
    rooms_put (record x { standing = s }) z (set ks i w) (set ys i a) (room_set ks ys i a w l (met_length met s.both_new x.channels h) e f) g
    ∙ ap (λ (n : ℕ). rooms_of (record x { standing = s; channels = set ks n w }) z) j

pub warm_named : (s : Standing) (met : Bool) (c i : ℕ) (size : Size) (xs ys : List Channel) (a : Channel) → i ≡ c → i < 4 → AreNamed s.own s.partner xs
    → ys ≡ each_roomed (first_met met s.both_new xs) ys
    → a ≡ roomed (warm_channel s.own s.partner c size s.both_new) a
    → AreNamed s.own s.partner (set ys i a)
warm_named s met c i size xs ys a j l h e f =
    let all = named_roomed s.own s.partner (first_met met s.both_new xs) ys (named_met s.own s.partner met s.both_new xs h) e in
    let here = all.each i l in
    named_set s.own s.partner ys i a l all
    (ap (λ (v : Channel). v.own) f ∙ sym here.own_number)
    (ap (λ (v : Channel). v.partner) f ∙ sym here.partner_number)
    (ap (λ (v : Channel). v.channel) f ∙ sym j ∙ sym here.channel_number)

-- the end as the other calls give it
pub warm_as : (s : Standing) (o p : ℕ) (b : Bool) (c : ℕ) (size : Size) (a : Channel) → s.own ≡ o → s.partner ≡ p → b ≡ s.both_new → a ≡ roomed (warm_channel o p c size b) a → a ≡ roomed (warm_channel s.own s.partner c size s.both_new) a
warm_as s o p b c size a h k m e =
    e ∙ ap (λ (n : ℕ). roomed (warm_channel n p c size b) a) (sym h)
    ∙ ap (λ (n : ℕ). roomed (warm_channel s.own n c size b) a) (sym k)
    ∙ ap (λ (d : Bool). roomed (warm_channel s.own s.partner c size d) a) m
