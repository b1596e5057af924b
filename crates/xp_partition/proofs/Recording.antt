-- The records of the connections of a partition's ends: at the opening each link begins one, and a
-- restart and more room leave them.
use Rattle.std.proofs.Common.{◌≡◌, ℕ, zero, suc, ◌+◌, ◌<◌, ◌≢◌, Bool, true, false, List, [], ◌∷◌, length, set, refl, ap, sym, ◌∙◌, subst, arith, ◌⊎◌, inl, inr}
use Rattle.std.specs.Prelude.{nat_eq, is_some, ◌&&◌, if◌then◌else◌}
use Rattle.std.proofs.lemmas.Bool.{and_parts}
use Rattle.std.proofs.lemmas.Bool.Decides.{eqb_tells, nat_tests}
use Rattle.std.proofs.Math.Dec.{eqb}
use Rattle.std.proofs.lemmas.List.{get_or-set_same, get_or-set_other, length-set}
use Rattle.xp_script.specs.declared.part.Link.{Link}
use Rattle.xp_script.specs.declared.part.ScenarioPart.{ScenarioPart}
use Rattle.xp_base.specs.Windows.{window_of}
use Rattle.xp_protocol.specs.Records.{Recorded, opened_record}
use Rattle.xp_protocol.specs.Logged.{is_at, opened_records}
use Rattle.xp_protocol.specs.State.{first_contact, size_of, version_of}
use Rattle.xp_protocol.specs.Linking.{link_joined}
use Rattle.xp_channel.specs.Channel.{Channel, new_channel}
use Rattle.xp_partner.specs.Partner.{Partner, rooms_of, each_roomed, each_kept, channel_at, channel_of}
use Rattle.xp_partner.specs.Opening.{warmed, first_met as ends_met, warm_channel}
use Rattle.xp_partner.specs.Booting.{each_booted}
use Rattle.xp_partition.specs.Partners.{partner_at, booted_anew}
use Rattle.xp_partition.specs.Opening.{linked_records}

-- room is no record, and neither is what a boot forgets
roomed_records : (xs ys : List Channel) (c : ℕ) → (channel_at (each_roomed xs ys) c).records ≡ (channel_at xs c).records
roomed_records [] ys c = refl
roomed_records (x ∷ xs) [] c = refl
roomed_records (x ∷ xs) (y ∷ ys) zero = refl
roomed_records (x ∷ xs) (y ∷ ys) (suc c) = roomed_records xs ys c

booted_records : (xs : List Channel) (c : ℕ) → (channel_at (each_booted xs) c).records ≡ (channel_at xs c).records
booted_records [] c = refl
booted_records (x ∷ xs) zero = refl
booted_records (x ∷ xs) (suc c) = booted_records xs c

pub rooms_records : (x y : Partner) (c : ℕ) → y ≡ rooms_of x y → (channel_of y c).records ≡ (channel_of x c).records
rooms_records x y c e = ap (λ (p : Partner). (channel_of p c).records) e ∙ roomed_records x.channels y.channels c

pub records_booted : (x y : Partner) (c : ℕ) → y ≡ rooms_of (booted_anew x) y → (channel_of y c).records ≡ (channel_of x c).records
records_booted x y c e = rooms_records (booted_anew x) y c e ∙ booted_records x.channels c

pub all_records_booted : (xs ys : List Partner) (n : ℕ) → length xs ≡ n → ((q : ℕ) → q < length xs → partner_at ys q ≡ rooms_of (booted_anew (partner_at xs q)) (partner_at ys q))
    → (q c : ℕ) → q < n → (channel_of (partner_at ys q) c).records ≡ (channel_of (partner_at xs q) c).records
all_records_booted xs ys n l h q c k = records_booted (partner_at xs q) (partner_at ys q) c (h q (subst (λ (m : ℕ). q < m) (sym l) k))

-- the record of the end of a channel that is connected from the opening
abbrev opened_at : ℕ → ℕ → Recorded
opened_at q c = opened_record (record { partner = q; channel = c; entries = 0; limit = 0 })

link_record : (l : Link) (q c : ℕ) → is_at l q c ≡ true → opened_record l ≡ opened_at q c
link_record l q c h =
    let k = and_parts (nat_eq l.partner q) (nat_eq l.channel c) h in
    ap (λ (n : ℕ). opened_at n l.channel) (grind (arith, nat_tests, k.0)) ∙ ap (opened_at q) (grind (arith, nat_tests, k.1))

once_linked : (ls : List Link) (q c : ℕ) → linked_records ls q c (opened_at q c ∷ []) ≡ opened_at q c ∷ []
once_linked [] q c = refl
once_linked (l ∷ ls) q c = by (is_at l q c) refl (once_linked ls q c) where
  by : (b : Bool) → is_at l q c ≡ b → linked_records ls q c (opened_at q c ∷ []) ≡ opened_at q c ∷ [] → linked_records ls q c (if b then opened_record l ∷ [] else opened_at q c ∷ []) ≡ opened_at q c ∷ []
  by true h k = ap (λ (r : Recorded). linked_records ls q c (r ∷ [])) (link_record l q c h) ∙ k
  by false h k = k

pub all_linked : (ls : List Link) (q c : ℕ) → linked_records ls q c [] ≡ opened_records ls q c
all_linked [] q c = refl
all_linked (l ∷ ls) q c = by (is_at l q c) refl (all_linked ls q c) where
  by : (b : Bool) → is_at l q c ≡ b → linked_records ls q c [] ≡ opened_records ls q c → linked_records ls q c (if b then opened_record l ∷ [] else []) ≡ (if b then opened_record l ∷ [] else opened_records ls q c)
  by true h k =
      ap (λ (r : Recorded). linked_records ls q c (r ∷ [])) (link_record l q c h) ∙ once_linked ls q c
      ∙ ap (λ (r : Recorded). r ∷ []) (sym (link_record l q c h))
  by false h k = k

-- how many ends a partner has stays
pub length_roomed : (xs ys : List Channel) → length (each_roomed xs ys) ≡ length xs
length_roomed [] ys = refl
length_roomed (x ∷ xs) [] = refl
length_roomed (x ∷ xs) (y ∷ ys) = ap (λ (n : ℕ). suc n) (length_roomed xs ys)

abbrev joined : Bool → ℕ → List Channel → List Channel
joined new n xs = each_kept (λ c e. link_joined new first_contact e) n xs

length_joined : (new : Bool) (n : ℕ) (xs : List Channel) → length (joined new n xs) ≡ length xs
length_joined new n [] = refl
length_joined new n (x ∷ xs) = ap (λ (m : ℕ). suc m) (length_joined new (n + 1) xs)

length_met : (met new : Bool) (xs : List Channel) → length (ends_met met new xs) ≡ length xs
length_met true new xs = refl
length_met false new xs = length_joined new 0 xs

pub length_warmed : (s : ScenarioPart) (l : Link) (x y : Partner) → y ≡ rooms_of (warmed (version_of s l.partner) (window_of s.count) l.channel (size_of l) x) y → length y.channels ≡ length x.channels
length_warmed s l x y e =
    let z = warmed (version_of s l.partner) (window_of s.count) l.channel (size_of l) x in
    ap (λ (p : Partner). length p.channels) e ∙ length_roomed z.channels y.channels
    ∙ length-set (ends_met (is_some x.standing.contact) z.standing.both_new x.channels) l.channel _
    ∙ length_met (is_some x.standing.contact) z.standing.both_new x.channels

-- contact takes no record, and the end of a link begins its own
joined_records : (new : Bool) (n : ℕ) (xs : List Channel) (c : ℕ) → (channel_at (joined new n xs) c).records ≡ (channel_at xs c).records
joined_records new n [] c = refl
joined_records new n (x ∷ xs) zero = refl
joined_records new n (x ∷ xs) (suc c) = joined_records new (n + 1) xs c

met_records : (met new : Bool) (xs : List Channel) (c : ℕ) → (channel_at (ends_met met new xs) c).records ≡ (channel_at xs c).records
met_records true new xs c = refl
met_records false new xs c = joined_records new 0 xs c

set_records : (xs : List Channel) (i c : ℕ) (a : Channel) → i < length xs → (channel_at (set xs i a) c).records ≡ (if nat_eq i c then a.records else (channel_at xs c).records)
set_records xs i c a l = by (eqb_tells i c) where
  by : ((eqb i c ≡ true) × (i ≡ c)) ⊎ ((eqb i c ≡ false) × (i ≢ c)) → (channel_at (set xs i a) c).records ≡ (if nat_eq i c then a.records else (channel_at xs c).records)
  by (inl e) =
      ap (λ (j : ℕ). (channel_at (set xs i a) j).records) (sym e.1)
      ∙ ap (λ (z : Channel). z.records) (get_or-set_same xs i a (new_channel 0 0 0) l)
      ∙ sym (ap (λ (b : Bool). if b then a.records else (channel_at xs c).records) e.0)
  by (inr e) =
      ap (λ (z : Channel). z.records) (get_or-set_other xs i c a (new_channel 0 0 0) (λ z. e.1 (sym z)))
      ∙ sym (ap (λ (b : Bool). if b then a.records else (channel_at xs c).records) e.0)

link_begins : (own : ℕ) (l : Link) (new : Bool) → (warm_channel own l.partner l.channel (size_of l) new).records ≡ opened_record l ∷ []
link_begins own l new = refl

pub warmed_records : (s : ScenarioPart) (l : Link) (x y : Partner) (c : ℕ) → x.standing.partner ≡ l.partner → l.channel < length x.channels
    → y ≡ rooms_of (warmed (version_of s l.partner) (window_of s.count) l.channel (size_of l) x) y
    → (channel_of y c).records ≡ (if nat_eq l.channel c then opened_record l ∷ [] else (channel_of x c).records)
warmed_records s l x y c partner low e =
    let z = warmed (version_of s l.partner) (window_of s.count) l.channel (size_of l) x in
    let met = is_some x.standing.contact in
    let new = z.standing.both_new in
    let first = ends_met met new x.channels in
    let own = x.standing.own in
    rooms_records z y c e
    ∙ set_records first l.channel c (warm_channel own x.standing.partner l.channel (size_of l) new) (subst (λ (n : ℕ). l.channel < n) (sym (length_met met new x.channels)) low)
    ∙ ap (λ (q : ℕ). if nat_eq l.channel c then (warm_channel own q l.channel (size_of l) new).records else (channel_at first c).records) partner
    ∙ ap (λ (rs : List Recorded). if nat_eq l.channel c then rs else (channel_at first c).records) (link_begins own l new)
    ∙ ap (λ (rs : List Recorded). if nat_eq l.channel c then opened_record l ∷ [] else rs) (met_records met new x.channels c)

-- as the records of all links say
abbrev pub WillBe : ScenarioPart → List Link → ℕ → Partner → Type 0
WillBe s more q x = (c : ℕ) → c < 4 → linked_records more q c (channel_of x c).records ≡ opened_records s.links q c

eq_same : (q : ℕ) → nat_eq q q ≡ true
eq_same q = grind (arith, nat_tests)

eq_other : (p q : ℕ) → q ≢ p → nat_eq p q ≡ false
eq_other p q h = grind (arith, nat_tests, h)

pub linked_here : (s : ScenarioPart) (l : Link) (more : List Link) (x y : Partner) → x.standing.partner ≡ l.partner → l.channel < length x.channels
    → y ≡ rooms_of (warmed (version_of s l.partner) (window_of s.count) l.channel (size_of l) x) y → WillBe s (l ∷ more) l.partner x → WillBe s more l.partner y
linked_here s l more x y partner low e h = λ c k.
    ap (linked_records more l.partner c) (warmed_records s l x y c partner low e
    ∙ sym (ap (λ (b : Bool). if b && nat_eq l.channel c then opened_record l ∷ [] else (channel_of x c).records) (eq_same l.partner))) ∙ h c k

pub linked_elsewhere : (s : ScenarioPart) (l : Link) (more : List Link) (q : ℕ) (x : Partner) → q ≢ l.partner → WillBe s (l ∷ more) q x → WillBe s more q x
linked_elsewhere s l more q x d h = λ c k.
    ap (linked_records more q c) (sym (ap (λ (b : Bool). if b && nat_eq l.channel c then opened_record l ∷ [] else (channel_of x c).records) (eq_other l.partner q d))) ∙ h c k
