-- What an end has stored as get only grows in its records, by their names; and what is known of it stands under the numbers that the partner's records have as delivered.
use Rattle.std.proofs.Common.{◌≡◌, ℕ, ◌<◌, ◌≤◌, arith, Bool, true, false, ◌||◌, cond, List, [], ◌∷◌, ◌++◌, refl, ap, sym, ◌∙◌, subst, Some, inl, inr, ◌⊎◌}
use Rattle.std.specs.Prelude.{slice_get}
use Rattle.std.specs.List.{All}
use Rattle.std.proofs.lemmas.List.Elements.{All-nil, All-push, All-weaker}
use Rattle.xp_protocol.specs.Records.{Recorded, blank_record}
use Rattle.xp_protocol.specs.Effects.{Accepted, Note, BySend, Began, Acked, Told, with_note, with_notes, in_record}
use Rattle.xp_protocol.specs.State.{End, is_begun}
use Rattle.xp_protocol.specs.Promised.{Name, name_of, exchanged, is_name, by_name, first_named, acked_of}
use Rattle.xp_promises.proofs.Books.{names, Missing, Apart, name_is}
use Rattle.xp_promises.proofs.Steps.{silent_notes}
use Rattle.xp_promises.proofs.Own.{LiveIn, facts}
use Rattle.xp_promises.proofs.Owns.{LocalAt}
use Rattle.xp_promises.proofs.Reuses.{other_acked}
use Rattle.xp_records.proofs.Flow.{told_by, told_in, acks_by, acks_in}
use Rattle.xp_records.proofs.Commands.{begins_by, begins_in}
use Rattle.xp_records.proofs.Changes.{Orders, Acks}

abbrev pub acked_by : List Recorded → Name → ℕ
acked_by rs k = (by_name k rs).acked

abbrev pub Grows : List Recorded → List Recorded → Type 0
Grows rs ss = (k : Name) → acked_by rs k ≤ acked_by ss k

missing_acked : (j k : Name) (rs : List Recorded) → is_name j k ≡ true → Missing j (names rs) → acked_by rs k ≡ 0
missing_acked j k [] t m = refl
missing_acked j k (r ∷ rs) t m =
    let nay : is_name (name_of r) k ≡ false = subst (λ (n : Name). is_name (name_of r) n ≡ false) (name_is j k t) m.0 in
    ap (λ (b : Bool). (cond b r (by_name k rs)).acked) nay ∙ missing_acked j k rs t m.1

keep : (r x : Recorded) (b : Bool) (z : Recorded) → x.acked ≡ r.acked → (cond b r z).acked ≤ (cond b x z).acked
keep r x true z e = omega (arith, e)
keep r x false z e = omega arith

note_grows : (q c : ℕ) (x : Note) (rs : List Recorded) → acks_by x ≡ [] → Apart (names (with_note q c x rs)) → Grows rs (with_note q c x rs)
note_grows q c (Began epoch own theirs) rs z a k = by (is_name (record { epoch = epoch; own = own; theirs = theirs }) k) refl where
  by : (b : Bool) → is_name (record { epoch = epoch; own = own; theirs = theirs }) k ≡ b → acked_by rs k ≤ (cond b (record (blank_record q c) { epoch = epoch; own = own; theirs = theirs; connected = false }) (by_name k rs)).acked
  by true t = let e = missing_acked (record { epoch = epoch; own = own; theirs = theirs }) k rs t a.0 in omega (arith, e)
  by false t = omega arith
note_grows q c (Acked get) rs z a k = absurd (cc)
note_grows q c (BySend (Accepted n body true)) [] z a k = omega arith
note_grows q c (BySend (Accepted n body true)) (r ∷ rs) z a k = keep r (in_record (BySend (Accepted n body true)) r) (is_name (name_of r) k) (by_name k rs) refl
note_grows q c (BySend (Accepted n body false)) [] z a k = omega arith
note_grows q c (BySend (Accepted n body false)) (r ∷ rs) z a k = keep r (in_record (BySend (Accepted n body false)) r) (is_name (name_of r) k) (by_name k rs) refl
note_grows q c x [] z a k = omega arith
note_grows q c x (r ∷ rs) z a k = keep r (in_record x r) (is_name (name_of r) k) (by_name k rs) refl

apart_back : (q c : ℕ) (x : Note) (rs : List Recorded) → Apart (names (with_note q c x rs)) → Apart (names rs)
apart_back q c (Began epoch own theirs) rs h = h.1
apart_back q c (BySend (Accepted n body true)) [] h = tt
apart_back q c (BySend (Accepted n body true)) (r ∷ rs) h = h
apart_back q c (BySend (Accepted n body false)) [] h = tt
apart_back q c (BySend (Accepted n body false)) (r ∷ rs) h = h
apart_back q c x [] h = tt
apart_back q c x (r ∷ rs) h = h

notes_apart : (q c : ℕ) (xs : List Note) (rs : List Recorded) → Apart (names (with_notes q c xs rs)) → Apart (names rs)
notes_apart q c [] rs h = h
notes_apart q c (x ∷ xs) rs h = apart_back q c x rs (notes_apart q c xs (with_note q c x rs) h)

none_parts : (xs ys : List ℕ) → xs ++ ys ≡ [] → (xs ≡ []) × (ys ≡ [])
none_parts [] ys h = (refl, h)
none_parts (x ∷ xs) ys h = absurd (cc)

pub notes_grow : (q c : ℕ) (xs : List Note) (rs : List Recorded) → acks_in xs ≡ [] → Apart (names (with_notes q c xs rs)) → Grows rs (with_notes q c xs rs)
notes_grow q c [] rs z a k = omega arith
notes_grow q c (x ∷ xs) rs z a k =
    let p = none_parts (acks_by x) (acks_in xs) z in
    let one = note_grows q c x rs p.0 (notes_apart q c xs (with_note q c x rs) a) k in
    let rest = notes_grow q c xs (with_note q c x rs) p.1 a k in
    omega (arith, one, rest)

acks_grow : (q c : ℕ) (e : End) (ns : List Note) (rs : List Recorded) → LiveIn (facts e) rs → Acks e ns → Grows rs (with_notes q c ns rs)
acks_grow q c e ns [] l a k = absurd l
acks_grow q c e ns (r ∷ rs) l a k =
    let same : with_notes q c ns (r ∷ rs) ≡ record r { acked = a.get } ∷ rs = ap (λ (xs : List Note). with_notes q c xs (r ∷ rs)) a.notes ∙ silent_notes q c a.more (record r { acked = a.get } ∷ rs) a.silent in
    subst (λ (zs : List Recorded). acked_by (r ∷ rs) k ≤ acked_by zs k) (sym same) (by (is_name (name_of r) k))
  where
    by : (b : Bool) → (cond b r (by_name k rs)).acked ≤ (cond b (record r { acked = a.get }) (by_name k rs)).acked
    by true = let e = l.0.acked in omega (arith, e, a.above)
    by false = omega arith

-- whatever keeps the order
pub orders_grow : (q c : ℕ) (e x : End) (ns : List Note) (rs : List Recorded) → LocalAt e rs → Orders q c e x ns → Apart (names (with_notes q c ns rs)) → Grows rs (with_notes q c ns rs)
orders_grow q c e x ns rs l o a = by o.acked where
  by : (acks_in ns ≡ []) ⊎ Acks e ns → Grows rs (with_notes q c ns rs)
  by (inl z) = notes_grow q c ns rs z a
  by (inr k) = acks_grow q c e ns rs (l.live k.begun) k

-- the numbers that records have as delivered lie below what the partner has acknowledged, by their names
abbrev pub AreBacked : (Name → ℕ) → List Recorded → Type 0
AreBacked b [] = Unit {0}
AreBacked b (r ∷ rs) = All (λ (n : ℕ). n < b (name_of r)) r.delivered × AreBacked b rs

pub backed_more : (b b' : Name → ℕ) (rs : List Recorded) → ((k : Name) → b k ≤ b' k) → AreBacked b rs → AreBacked b' rs
backed_more b b' [] le h = tt
backed_more b b' (r ∷ rs) le h = (All-weaker (λ (n : ℕ). n < b (name_of r)) (λ (n : ℕ). n < b' (name_of r)) (λ n l. let m = le (name_of r) in omega (arith, l, m)) r.delivered h.0, backed_more b b' rs le h.1)

backed_note : (b : Name → ℕ) (q c : ℕ) (x : Note) (rs : List Recorded) → told_by x ≡ [] → AreBacked b rs → AreBacked b (with_note q c x rs)
backed_note b q c (Began epoch own theirs) rs z h = (All-nil (λ (n : ℕ). n < b (record { epoch = epoch; own = own; theirs = theirs })), h)
backed_note b q c (Told n) rs z h = absurd (cc)
backed_note b q c (BySend (Accepted n body true)) [] z h = tt
backed_note b q c (BySend (Accepted n body true)) (r ∷ rs) z h = h
backed_note b q c (BySend (Accepted n body false)) [] z h = tt
backed_note b q c (BySend (Accepted n body false)) (r ∷ rs) z h = h
backed_note b q c x [] z h = tt
backed_note b q c x (r ∷ rs) z h = h

pub backed_notes : (b : Name → ℕ) (q c : ℕ) (xs : List Note) (rs : List Recorded) → told_in xs ≡ [] → AreBacked b rs → AreBacked b (with_notes q c xs rs)
backed_notes b q c [] rs z h = h
backed_notes b q c (x ∷ xs) rs z h = let p = none_parts (told_by x) (told_in xs) z in backed_notes b q c xs (with_note q c x rs) p.1 (backed_note b q c x rs p.0 h)

-- a number is known to lie below what the partner has acknowledged in the newest connection
abbrev pub IsKnown : (Name → ℕ) → ℕ → List Recorded → Type 0
IsKnown b n [] = Unit {0}
IsKnown b n (r ∷ rs) = n ≤ b (name_of r)

pub known_more : (b b' : Name → ℕ) (n : ℕ) (rs : List Recorded) → ((k : Name) → b k ≤ b' k) → IsKnown b n rs → IsKnown b' n rs
known_more b b' n [] le h = tt
known_more b b' n (r ∷ rs) le h = let m = le (name_of r) in omega (arith, h, m)

known_note : (b : Name → ℕ) (n q c : ℕ) (x : Note) (rs : List Recorded) → begins_by x ≡ false → IsKnown b n rs → IsKnown b n (with_note q c x rs)
known_note b n q c (Began epoch own theirs) rs z h = absurd (cc)
known_note b n q c (BySend (Accepted m body true)) [] z h = tt
known_note b n q c (BySend (Accepted m body true)) (r ∷ rs) z h = h
known_note b n q c (BySend (Accepted m body false)) [] z h = tt
known_note b n q c (BySend (Accepted m body false)) (r ∷ rs) z h = h
known_note b n q c x [] z h = tt
known_note b n q c x (r ∷ rs) z h = h

or_parts : (x y : Bool) → (x || y) ≡ false → (x ≡ false) × (y ≡ false)
or_parts false y h = (refl, h)
or_parts true y h = absurd (cc)

pub known_notes : (b : Name → ℕ) (n q c : ℕ) (xs : List Note) (rs : List Recorded) → begins_in xs ≡ false → IsKnown b n rs → IsKnown b n (with_notes q c xs rs)
known_notes b n q c [] rs z h = h
known_notes b n q c (x ∷ xs) rs z h = let p = or_parts (begins_by x) (begins_in xs) z in known_notes b n q c xs (with_note q c x rs) p.1 (known_note b n q c x rs p.0 h)

-- what the records of one end say against those of the other
abbrev pub theirs_of : List Recorded → Name → ℕ
theirs_of ss k = acked_by ss (exchanged k)

pub record Backs (e : End) (rs ss : List Recorded) : Type 0 where
  pub backed : AreBacked (theirs_of ss) rs
  pub known : is_begun e ≡ true → IsKnown (theirs_of ss) e.sides.send.remote_get rs

pub backs_grown : (e : End) (rs ss zs : List Recorded) → Grows ss zs → Backs e rs ss → Backs e rs zs
backs_grown e rs ss zs g h = record {
  backed = backed_more (theirs_of ss) (theirs_of zs) rs (λ k. g (exchanged k)) h.backed;
  known = λ b. known_more (theirs_of ss) (theirs_of zs) e.sides.send.remote_get rs (λ k. g (exchanged k)) (h.known b);
}

pub known_first : (n : ℕ) (rs ss : List Recorded) → ((own : Recorded) × (slice_get rs 0 ≡ Some own) × (n ≤ acked_of (first_named own ss))) → IsKnown (theirs_of ss) n rs
known_first n [] ss h = tt
known_first n (r ∷ rs) ss h =
    let same : r ≡ h.0 = cc in
    let le : n ≤ acked_of (first_named r ss) = subst (λ (z : Recorded). n ≤ acked_of (first_named z ss)) (sym same) h.2 in
    let e = other_acked r ss in
    omega (arith, le, e)

-- a number is told
pub backed_told : (b : Name → ℕ) (q c n m : ℕ) (rs : List Recorded) → n < m → IsKnown b m rs → AreBacked b rs → AreBacked b (with_notes q c (Told n ∷ []) rs)
backed_told b q c n m [] l k h = tt
backed_told b q c n m (r ∷ rs) l k h = (All-push (λ (j : ℕ). j < b (name_of r)) r.delivered n h.0 (omega (arith, l, k)), h.1)
