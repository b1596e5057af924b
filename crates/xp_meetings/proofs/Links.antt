-- The links of the partitions: one for each partner and channel at most, and each has its mirror at the partner.
use Rattle.std.proofs.Common.{◌≡◌, ℕ, zero, suc, ◌+◌, ◌-◌, ◌*◌, ◌<◌, ◌≤◌, Bool, true, false, ◌&&◌, ◌||◌, cond, eqb, List, [], ◌∷◌, ◌++◌, length, refl, ap, sym, ◌∙◌, subst, arith, Some, inl, inr, ◌⊎◌}
use Rattle.std.specs.List.{slice_get}
use Rattle.std.proofs.lemmas.Bool.{cases_eq, eqb-true, and_parts}
use Rattle.xp_script.specs.declared.part.Link.{Link}
use Rattle.xp_script.specs.declared.setting.Minor.{Minor}
use Rattle.xp_script.specs.declared.setting.Warm.{Warm}
use Rattle.xp_script.specs.Settings.{minor_of}
use Rattle.xp_protocol.proofs.LawfulParts.{AreLawfulLines, request_size}
use Rattle.xp_script.specs.declared.scenario.Scenario.{Scenario}
use Rattle.xp_protocol.specs.Parts.{IsRequestSize}
use Rattle.xp_script.specs.Settings.{joins}
use Rattle.xp_script.specs.Parts.{link_in, links_to, links_from, links_of, part_of}
use Rattle.xp_script.specs.Lawful.{IsLawfulWarm, IsLawful}
use Rattle.xp_protocol.specs.State.{opened_state, opened_new, end_of, warm_end}
use Rattle.xp_protocol.proofs.Opened.{LinkAt, AreLow, link_opened, records_opened}
use Rattle.xp_meetings.proofs.Gets.{get_left, get_right, get_both}
use Rattle.xp_protocol.specs.Logged.{opened_records}
use Rattle.xp_protocol.specs.Records.{opened_record}

abbrev key : Link → ℕ
key l = 4 * l.partner + l.channel

-- links whose keys are of a range, each once
pub record Keyed (low high : ℕ) (ls : List Link) : Type 0 where
  pub above : (i : ℕ) (l : Link) → slice_get ls i ≡ Some l → low ≤ key l
  pub below : (i : ℕ) (l : Link) → slice_get ls i ≡ Some l → key l < high
  pub once : (i j : ℕ) (l k : Link) → slice_get ls i ≡ Some l → slice_get ls j ≡ Some k → key l ≡ key k → i ≡ j

keyed_none : (n : ℕ) → Keyed n n []
keyed_none n = record { above = λ i l e. absurd (cc); below = λ i l e. absurd (cc); once = λ i j l k e f g. absurd (cc) }

keyed_append : (a b c : ℕ) (xs ys : List Link) → a ≤ b → b ≤ c → Keyed a b xs → Keyed b c ys → Keyed a c (xs ++ ys)
keyed_append a b c xs ys ab bc h k = record {
  above = λ i l e. elim (get_both xs ys i l e) [ inl x ↦ h.above i l x | inr y ↦ omega (arith, k.above _ l y.1) ];
  below = λ i l e. elim (get_both xs ys i l e) [ inl x ↦ omega (arith, h.below i l x) | inr y ↦ k.below _ l y.1 ];
  once = λ i j l m e f g. both i j l m g (get_both xs ys i l e) (get_both xs ys j m f);
}
  where
    both : (i j : ℕ) (l m : Link) → key l ≡ key m → (slice_get xs i ≡ Some l) ⊎ ((length xs ≤ i) × (slice_get ys (i - length xs) ≡ Some l)) → (slice_get xs j ≡ Some m) ⊎ ((length xs ≤ j) × (slice_get ys (j - length xs) ≡ Some m)) → i ≡ j
    both i j l m g (inl x) (inl y) = h.once i j l m x y g
    both i j l m g (inl x) (inr y) = absurd (omega (arith, h.below i l x, k.above _ m y.1, g))
    both i j l m g (inr x) (inl y) = absurd (omega (arith, h.below j m y, k.above _ l x.1, g))
    both i j l m g (inr x) (inr y) = omega (arith, x.0, y.0, k.once _ _ l m x.1 y.1 g)

-- what is known of a link of p: it is the one of its partner and channel
pub record Found (p : ℕ) (ws : List Warm) (q c : ℕ) (l : Link) : Type 0 where
  pub partner : l.partner ≡ q
  pub channel : l.channel ≡ c
  pub only : link_in p q c ws ≡ l ∷ []

abbrev seen_as : ℕ → ℕ → Warm → Link
seen_as q c w = record { partner = q; channel = c; entries = w.entries; limit = w.limit }

one_link : (l k : Link) (i : ℕ) → slice_get (l ∷ []) i ≡ Some k → (i ≡ 0) × (l ≡ k)
one_link l k zero e = (refl, cc)
one_link l k (suc i) e = absurd (cc)

found_by : (p q c : ℕ) (w : Warm) (ws : List Warm) (i : ℕ) (l : Link) (b : Bool) → joins p q c w ≡ b → (slice_get (link_in p q c ws) i ≡ Some l → (i ≡ 0) × Found p ws q c l) → slice_get (cond b (seen_as q c w ∷ []) (link_in p q c ws)) i ≡ Some l → (i ≡ 0) × Found p (w ∷ ws) q c l
found_by p q c w ws i l true t more f =
    let o = one_link (seen_as q c w) l i f in
    (o.0, record { partner = ap (λ (x : Link). x.partner) (sym o.1); channel = ap (λ (x : Link). x.channel) (sym o.1); only = rw t (ap (λ (x : Link). x ∷ []) o.1) })
found_by p q c w ws i l false t more f =
    let o = more f in
    (o.0, record { partner = o.1.partner; channel = o.1.channel; only = rw t o.1.only })

found_in : (p q c : ℕ) (ws : List Warm) (i : ℕ) (l : Link) → slice_get (link_in p q c ws) i ≡ Some l → (i ≡ 0) × Found p ws q c l
found_in p q c [] i l e = absurd (cc)
found_in p q c (w ∷ ws) i l e = found_by p q c w ws i l (joins p q c w) refl (found_in p q c ws i l) e

keyed_in : (p q c : ℕ) (ws : List Warm) → Keyed (4 * q + c) (4 * q + (c + 1)) (link_in p q c ws)
keyed_in p q c ws = record {
  above = λ i l e. let f = found_in p q c ws i l e in omega (arith, f.1.partner, f.1.channel);
  below = λ i l e. let f = found_in p q c ws i l e in omega (arith, f.1.partner, f.1.channel);
  once = λ i j l k e f g. let a = found_in p q c ws i l e in let b = found_in p q c ws j k f in a.0 ∙ sym b.0;
}

keyed_to : (p q c n : ℕ) (ws : List Warm) → Keyed (4 * q + c) (4 * q + (c + n)) (links_to p q c n ws)
keyed_to p q c zero ws = let e : 4 * q + c ≡ 4 * q + (c + 0) = omega arith in subst (λ (k : ℕ). Keyed (4 * q + c) k []) e (keyed_none (4 * q + c))
keyed_to p q c (suc n) ws =
    let e : 4 * q + (c + 1 + n) ≡ 4 * q + (c + suc n) = omega arith in
    let k = keyed_append (4 * q + c) (4 * q + (c + 1)) (4 * q + (c + 1 + n)) (link_in p q c ws) (links_to p q (c + 1) n ws) (omega arith) (omega arith) (keyed_in p q c ws) (keyed_to p q (c + 1) n ws) in
    subst (λ (x : ℕ). Keyed (4 * q + c) x (links_to p q c (suc n) ws)) e k

keyed_from : (p q n : ℕ) (ws : List Warm) → Keyed (4 * q) (4 * (q + n)) (links_from p q n ws)
unfolding links_from
keyed_from p q zero ws = let e : 4 * q ≡ 4 * (q + 0) = omega arith in subst (λ (k : ℕ). Keyed (4 * q) k []) e (keyed_none (4 * q))
keyed_from p q (suc n) ws =
    let e : 4 * (q + 1 + n) ≡ 4 * (q + suc n) = omega arith in
    let f : 4 * q + 0 ≡ 4 * q = omega arith in
    let g : 4 * q + (0 + 4) ≡ 4 * (q + 1) = omega arith in
    let here = subst (λ (x : ℕ). Keyed x (4 * q + (0 + 4)) (links_to p q 0 4 ws)) f (keyed_to p q 0 4 ws) in
    let here' = subst (λ (x : ℕ). Keyed (4 * q) x (links_to p q 0 4 ws)) g here in
    let k = keyed_append (4 * q) (4 * (q + 1)) (4 * (q + 1 + n)) (links_to p q 0 4 ws) (links_from p (q + 1) n ws) (omega arith) (omega arith) here' (keyed_from p (q + 1) n ws) in
    subst (λ (x : ℕ). Keyed (4 * q) x (links_from p q (suc n) ws)) e k

-- a partition has at most one link for each partner and channel
pub once : (s : Scenario) (p i j : ℕ) (l k : Link) → slice_get (links_of s p) i ≡ Some l → slice_get (links_of s p) j ≡ Some k → l.partner ≡ k.partner → l.channel ≡ k.channel → i ≡ j
once s p i j l k e f g h = (keyed_from p 0 s.count s.warms).once i j l k e f (omega (arith, g, h))

-- each link was found for its partner and channel
found_to : (p q c n : ℕ) (ws : List Warm) (i : ℕ) (l : Link) → slice_get (links_to p q c n ws) i ≡ Some l → Found p ws q l.channel l × (l.channel < c + n)
found_to p q c zero ws i l e = absurd (cc)
found_to p q c (suc n) ws i l e = elim (get_both (link_in p q c ws) (links_to p q (c + 1) n ws) i l e) [
  | inl h ↦ let f = (found_in p q c ws i l h).1 in (record { partner = f.partner; channel = refl; only = ap (λ (x : ℕ). link_in p q x ws) f.channel ∙ f.only }, omega (arith, f.channel))
  | inr h ↦ let f = found_to p q (c + 1) n ws (i - length (link_in p q c ws)) l h.1 in (f.0, omega (arith, f.1))
]

found_from : (p q n : ℕ) (ws : List Warm) (i : ℕ) (l : Link) → slice_get (links_from p q n ws) i ≡ Some l → Found p ws l.partner l.channel l × (l.partner < q + n) × (l.channel < 4)
unfolding links_from
found_from p q zero ws i l e = absurd (cc)
found_from p q (suc n) ws i l e = elim (get_both (links_to p q 0 4 ws) (links_from p (q + 1) n ws) i l e) [
  | inl h ↦ let f = found_to p q 0 4 ws i l h in (record { partner = refl; channel = refl; only = ap (λ (x : ℕ). link_in p x l.channel ws) f.0.partner ∙ f.0.only }, omega (arith, f.0.partner), omega (arith, f.1))
  | inr h ↦ let f = found_from p (q + 1) n ws (i - length (links_to p q 0 4 ws)) l h.1 in (f.0, omega (arith, f.1), f.2)
]

pub found : (s : Scenario) (p i : ℕ) (l : Link) → slice_get (links_of s p) i ≡ Some l → Found p s.warms l.partner l.channel l × (l.partner < s.count) × (l.channel < 4)
found s p i l e = let f = found_from p 0 s.count s.warms i l e in (f.0, omega (arith, f.1), f.2)

-- and what is found stands among them
listed_to : (p q c n x : ℕ) (ws : List Warm) (l : Link) → link_in p q x ws ≡ l ∷ [] → c ≤ x → x < c + n → (i : ℕ) × (slice_get (links_to p q c n ws) i ≡ Some l)
listed_to p q c zero x ws l e h k = absurd (omega arith)
listed_to p q c (suc n) x ws l e h k = elim (cases_eq x c) [
  | inl d ↦ (0, get_left (link_in p q c ws) (links_to p q (c + 1) n ws) 0 l (ap (λ (y : ℕ). slice_get (link_in p q y ws) 0) (sym d) ∙ ap (λ (ls : List Link). slice_get ls 0) e))
  | inr d ↦ let r = listed_to p q (c + 1) n x ws l e (omega (arith, d, h)) (omega arith) in (length (link_in p q c ws) + r.0, get_right (link_in p q c ws) (links_to p q (c + 1) n ws) r.0 ∙ r.1)
]

listed_from : (p q n x c : ℕ) (ws : List Warm) (l : Link) → link_in p x c ws ≡ l ∷ [] → q ≤ x → x < q + n → c < 4 → (i : ℕ) × (slice_get (links_from p q n ws) i ≡ Some l)
unfolding links_from
listed_from p q zero x c ws l e h k j = absurd (omega arith)
listed_from p q (suc n) x c ws l e h k j = elim (cases_eq x q) [
  | inl d ↦ let r = listed_to p q 0 4 c ws l (ap (λ (y : ℕ). link_in p y c ws) (sym d) ∙ e) (omega arith) (omega arith) in (r.0, get_left (links_to p q 0 4 ws) (links_from p (q + 1) n ws) r.0 l r.1)
  | inr d ↦ let r = listed_from p (q + 1) n x c ws l e (omega (arith, d, h)) (omega arith) j in (length (links_to p q 0 4 ws) + r.0, get_right (links_to p q 0 4 ws) (links_from p (q + 1) n ws) r.0 ∙ r.1)
]

pub listed : (s : Scenario) (p q c : ℕ) (l : Link) → link_in p q c s.warms ≡ l ∷ [] → q < s.count → c < 4 → (i : ℕ) × (slice_get (links_of s p) i ≡ Some l)
listed s p q c l e h k = listed_from p 0 s.count q c s.warms l e (omega arith) (omega arith) k

-- a link as its partner sees it
abbrev pub mirror : ℕ → Link → Link
mirror p l = record l { partner = p }

or_other : (a b c : Bool) → ((a || b) && c) ≡ ((b || a) && c)
or_other true true c = refl
or_other true false c = refl
or_other false true c = refl
or_other false false c = refl

joins_other : (p q c : ℕ) (w : Warm) → joins p q c w ≡ joins q p c w
joins_other p q c w = or_other (eqb w.first p && eqb w.second q) (eqb w.first q && eqb w.second p) (eqb w.channel c)

mirror_by : (p q c : ℕ) (w : Warm) (ws : List Warm) (l : Link) (b : Bool) → joins p q c w ≡ b → (link_in p q c ws ≡ l ∷ [] → link_in q p c ws ≡ mirror p l ∷ []) → cond b (seen_as q c w ∷ []) (link_in p q c ws) ≡ l ∷ [] → link_in q p c (w ∷ ws) ≡ mirror p l ∷ []
mirror_by p q c w ws l true t more f =
    let same : seen_as q c w ≡ l = cc in
    rw (sym (joins_other p q c w) ∙ t) (ap (λ (x : Link). mirror p x ∷ []) same)
mirror_by p q c w ws l false t more f = rw (sym (joins_other p q c w) ∙ t) (more f)

mirror_in : (p q c : ℕ) (ws : List Warm) (l : Link) → link_in p q c ws ≡ l ∷ [] → link_in q p c ws ≡ mirror p l ∷ []
mirror_in p q c [] l e = absurd (cc)
mirror_in p q c (w ∷ ws) l e = mirror_by p q c w ws l (joins p q c w) refl (mirror_in p q c ws l) e

-- the lines of a lawful scenario
or_cases : (a b c : Bool) → ((a || b) && c) ≡ true → ((a ≡ true) ⊎ (b ≡ true)) × (c ≡ true)
or_cases true b true e = (inl refl, refl)
or_cases false true true e = (inr refl, refl)
or_cases true b false e = absurd (cc)
or_cases false true false e = absurd (cc)
or_cases false false c e = absurd (cc)

pub record IsLine (n p q c : ℕ) (l : Link) : Type 0 where
  pub first : p < n
  pub second : q < n
  pub apart : p ≡ q → ⊥
  pub channel : c < 4
  pub size : IsRequestSize l.entries l.limit

line_of : (n : ℕ) (minors : List Minor) (p q c : ℕ) (w : Warm) → IsLawfulWarm n minors w → joins p q c w ≡ true → IsLine n p q c (seen_as q c w)
line_of n minors p q c w h e = let o = or_cases (eqb w.first p && eqb w.second q) (eqb w.first q && eqb w.second p) (eqb w.channel c) e in by o.0 (eqb-true w.channel c o.1)
  where
    by : ((eqb w.first p && eqb w.second q) ≡ true) ⊎ ((eqb w.first q && eqb w.second p) ≡ true) → w.channel ≡ c → IsLine n p q c (seen_as q c w)
    by (inl x) d =
        let a = and_parts _ _ x in let f = eqb-true w.first p a.0 in let g = eqb-true w.second q a.1 in
        record { first = omega (arith, f, h.first); second = omega (arith, g, h.second); apart = λ r. h.different (f ∙ r ∙ sym g); channel = omega (arith, d, h.channel); size = request_size (minor_of w.first minors) w.entries w.limit h.first_size }
    by (inr x) d =
        let a = and_parts _ _ x in let f = eqb-true w.first q a.0 in let g = eqb-true w.second p a.1 in
        record { first = omega (arith, g, h.second); second = omega (arith, f, h.first); apart = λ r. h.different (f ∙ sym r ∙ sym g); channel = omega (arith, d, h.channel); size = request_size (minor_of w.first minors) w.entries w.limit h.first_size }

line_by : (n : ℕ) (minors : List Minor) (p q c : ℕ) (w : Warm) (ws : List Warm) (l : Link) (b : Bool) → IsLawfulWarm n minors w → joins p q c w ≡ b → (link_in p q c ws ≡ l ∷ [] → IsLine n p q c l) → cond b (seen_as q c w ∷ []) (link_in p q c ws) ≡ l ∷ [] → IsLine n p q c l
line_by n minors p q c w ws l true h t more f = let same : seen_as q c w ≡ l = cc in subst (λ (x : Link). IsLine n p q c x) same (line_of n minors p q c w h t)
line_by n minors p q c w ws l false h t more f = more f

line_in : (n : ℕ) (minors : List Minor) (p q c : ℕ) (ws : List Warm) (l : Link) → AreLawfulLines n minors ws → link_in p q c ws ≡ l ∷ [] → IsLine n p q c l
line_in n minors p q c [] l h e = absurd (cc)
line_in n minors p q c (w ∷ ws) l h e = line_by n minors p q c w ws l (joins p q c w) h.0 refl (line_in n minors p q c ws l h.1) e

-- a link of p, with its number among them
abbrev pub HasLink : Scenario → ℕ → ℕ → ℕ → Link → Type 0
HasLink s p q c l = LinkAt (part_of s p) q c l

pub line : (s : Scenario) (p q c : ℕ) (l : Link) → IsLawful s → HasLink s p q c l → IsLine s.count p q c l
line s p q c l h k =
    let f = (found s p k.number l k.listed).0 in
    let e : link_in p q c s.warms ≡ l ∷ [] = rw (sym k.partner, sym k.channel) f.only in
    line_in s.count s.minors p q c s.warms l h.settings.warms.each e

-- each link has its mirror
pub mirrored : (s : Scenario) (p q c : ℕ) (l : Link) → IsLawful s → HasLink s p q c l → HasLink s q p c (mirror p l)
mirrored s p q c l h k =
    let f = (found s p k.number l k.listed).0 in
    let e : link_in p q c s.warms ≡ l ∷ [] = rw (sym k.partner, sym k.channel) f.only in
    let i = line_in s.count s.minors p q c s.warms l h.settings.warms.each e in
    let r = listed s q p c (mirror p l) (mirror_in p q c s.warms l e) i.first i.channel in
    record { number = r.0; listed = r.1; partner = refl; channel = k.channel }

-- at the opening, the end of each link is connected, and has a record
one_link_of : (s : Scenario) (p i j : ℕ) (l m : Link) → slice_get (links_of s p) i ≡ Some l → slice_get (links_of s p) j ≡ Some m → l.partner ≡ m.partner → l.channel ≡ m.channel → l ≡ m
one_link_of s p i j l m e f g h =
    let same = once s p i j l m e f g h in
    let both : Some l ≡ Some m = sym e ∙ ap (slice_get (links_of s p)) same ∙ f in
    cc

pub start_end : (s : Scenario) (p q c : ℕ) (l : Link) → IsLawful s → (k : HasLink s p q c l) → end_of (opened_state (part_of s p)) q c ≡ warm_end (opened_new (part_of s p) q) l
start_end s p q c l h k =
    let low : AreLow s.count (links_of s p) = λ i m e. let d = found s p i m e in (d.1, d.2) in
    let o = link_opened (part_of s p) q c l low k in
    o.is ∙ ap (λ (x : Link). warm_end (opened_new (part_of s p) q) x) (one_link_of s p o.at.number k.number o.link l o.at.listed k.listed (o.at.partner ∙ sym k.partner) (o.at.channel ∙ sym k.channel))

pub start_records : (s : Scenario) (p q c : ℕ) (l : Link) → (k : HasLink s p q c l) → opened_records (links_of s p) q c ≡ opened_record l ∷ []
start_records s p q c l k = records_opened (links_of s p) q c k.number l k.listed k.partner k.channel (λ j m e f g. one_link_of s p j k.number m l e k.listed (f ∙ sym k.partner) (g ∙ sym k.channel))
