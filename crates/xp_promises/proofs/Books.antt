-- The records of an end by their names: what notes leave of them.
use Rattle.std.proofs.Common.{◌≡◌, ℕ, ◌<◌, ◌≤◌, arith, Bool, true, false, ◌&&◌, ◌||◌, cond, eqb, List, [], ◌∷◌, ◌++◌, refl, ap, sym, ◌∙◌, subst, Some, inl, inr, ◌⊎◌}
use Rattle.std.proofs.lemmas.Bool.{eq-eqb, ne_eqb, eqb-true, and_parts}
use Rattle.std.proofs.Common.{zero, suc}
use Rattle.std.specs.Prelude.{slice_get}
use Rattle.xp_base.specs.declared.session.Session.{Session}
use Rattle.xp_protocol.specs.Records.{Recorded, blank_record}
use Rattle.xp_protocol.specs.Effects.{Note, BySend, Began, Accepted, Taken, Acked, Sent, with_note, with_notes, in_record}
use Rattle.xp_protocol.specs.Promised.{Name, name_of, is_session, is_meeting, is_name, by_name}

-- what directions read of a record
pub record Core : Type 0 where
  pub accepted : List (List ℕ)
  pub taken : List (List ℕ)
  pub acked : ℕ

abbrev pub core : Recorded → Core
core r = record { accepted = r.accepted; taken = r.taken; acked = r.acked }

-- the record of an epoch under two sessions
abbrev pub at : Session → Session → ℕ → Name
at u v e = record { epoch = e; own = u; theirs = v }

abbrev pub named : Session → Session → ℕ → List Recorded → Recorded
named u v e rs = by_name (at u v e) rs

-- the newest record has the name
abbrev pub HasFirst : Name → List Recorded → Type 0
HasFirst k [] = ⊥
HasFirst k (r ∷ rs) = name_of r ≡ k

-- the names of an end's records: those under two sessions lie below an epoch, a name isn't among them, each is there once
abbrev pub names : List Recorded → List Name
names [] = []
names (r ∷ rs) = name_of r ∷ names rs

abbrev pub Below : Session → Session → ℕ → List Name → Type 0
Below u v b [] = Unit {0}
Below u v b (k ∷ ks) = (is_meeting u v k ≡ true → k.epoch < b) × Below u v b ks

abbrev pub Missing : Name → List Name → Type 0
Missing k [] = Unit {0}
Missing k (j ∷ js) = (is_name j k ≡ false) × Missing k js

abbrev pub Apart : List Name → Type 0
Apart [] = Unit {0}
Apart (k ∷ ks) = Missing k ks × Apart ks

-- a name under two sessions is among them
abbrev pub has : Session → Session → List Name → Bool
has u v [] = false
has u v (k ∷ ks) = is_meeting u v k || has u v ks

pub below_more : (u v : Session) (b b' : ℕ) (ks : List Name) → b ≤ b' → Below u v b ks → Below u v b' ks
below_more u v b b' [] le h = tt
below_more u v b b' (k ∷ ks) le h = (λ d. omega (arith, h.0 d, le), below_more u v b b' ks le h.1)

-- nothing changes in what directions read
pub record Same (rs rs' : List Recorded) : Type 0 where
  pub first : (k : Name) → HasFirst k rs → HasFirst k rs'
  pub core : (k : Name) → core (by_name k rs') ≡ core (by_name k rs)
  pub names : names rs' ≡ names rs

-- nothing changes in the records under other sessions
abbrev pub Others : Session → Session → List Recorded → List Recorded → Type 0
Others u v rs rs' = (k : Name) → is_meeting u v k ≡ false → core (by_name k rs') ≡ core (by_name k rs)

pub same_all : (rs : List Recorded) → Same rs rs
same_all rs = record { first = λ k h. h; core = λ k. refl; names = refl }

same_then : (rs rs' rs'' : List Recorded) → Same rs rs' → Same rs' rs'' → Same rs rs''
same_then rs rs' rs'' h k = record { first = λ n x. k.first n (h.first n x); core = λ n. k.core n ∙ h.core n; names = k.names ∙ h.names }

same_newest : (r r' : Recorded) (rs : List Recorded) → name_of r' ≡ name_of r → core r' ≡ core r → Same (r ∷ rs) (r' ∷ rs)
same_newest r r' rs name same = record { first = λ k h. name ∙ h; core = λ k. subst (λ (n : Name). core (cond (is_name n k) r' (by_name k rs)) ≡ core (cond (is_name (name_of r) k) r (by_name k rs))) (sym name) (by (is_name (name_of r) k) (by_name k rs)); names = ap (λ (n : Name). n ∷ names rs) name } where
  by : (b : Bool) (z : Recorded) → core (cond b r' z) ≡ core (cond b r z)
  by true z = same
  by false z = refl

-- notes that directions don't read
abbrev pub Plain : Note → Type 0
Plain (BySend (Accepted number body asks)) = ⊥
Plain (Began epoch own theirs) = ⊥
Plain (Taken body) = ⊥
Plain (Acked get) = ⊥
Plain note = Unit {0}

abbrev pub ArePlain : List Note → Type 0
ArePlain [] = Unit {0}
ArePlain (x ∷ xs) = Plain x × ArePlain xs

plain_note : (q c : ℕ) (x : Note) (rs : List Recorded) → Plain x → Same rs (with_note q c x rs)
plain_note q c (BySend (Accepted number body asks)) rs h = absurd h
plain_note q c (Began epoch own theirs) rs h = absurd h
plain_note q c (Taken body) rs h = absurd h
plain_note q c (Acked get) rs h = absurd h
plain_note q c (BySend (Sent a)) [] h = same_all []
plain_note q c (BySend (Sent a)) (r ∷ rs) h = same_all (r ∷ rs)
plain_note q c x [] h = same_all []
plain_note q c x (r ∷ rs) h = same_newest r (in_record x r) rs refl refl

pub plain_notes : (q c : ℕ) (xs : List Note) (rs : List Recorded) → ArePlain xs → Same rs (with_notes q c xs rs)
plain_notes q c [] rs h = same_all rs
plain_notes q c (x ∷ xs) rs h = same_then rs (with_note q c x rs) (with_notes q c (x ∷ xs) rs) (plain_note q c x rs h.0) (plain_notes q c xs (with_note q c x rs) h.1)

pub plain_both : (xs ys : List Note) → ArePlain xs → ArePlain ys → ArePlain (xs ++ ys)
plain_both [] ys h k = k
plain_both (x ∷ xs) ys h k = (h.0, plain_both xs ys h.1 k)

-- the newest record by its name, and the others
self_session : (u : Session) → is_session u u ≡ true
self_session u = rw (eq-eqb u.stamp u.stamp refl, eq-eqb u.count u.count refl) refl

self_name : (k : Name) → is_name k k ≡ true
self_name k = rw (eq-eqb k.epoch k.epoch refl, self_session k.own, self_session k.theirs) refl

pub name_here : (k : Name) (r : Recorded) (rs : List Recorded) → name_of r ≡ k → by_name k (r ∷ rs) ≡ r
name_here k r rs h = let e : is_name (name_of r) k ≡ true = ap (λ (n : Name). is_name n k) h ∙ self_name k in rw e refl

pub name_else : (u v : Session) (e : ℕ) (r : Recorded) (rs : List Recorded) → (r.epoch ≡ e → ⊥) → named u v e (r ∷ rs) ≡ named u v e rs
name_else u v e r rs h = rw (ne_eqb r.epoch e h) refl

-- a record under some sessions is none under others
pub name_other : (u v : Session) (e : ℕ) (r : Recorded) (rs : List Recorded) → name_of r ≡ at u v e → (k : Name) → is_meeting u v k ≡ false → by_name k (r ∷ rs) ≡ by_name k rs
name_other u v e r rs name k other =
    let f : is_name (name_of r) k ≡ false = ap (λ (n : Name). is_name n k) name ∙ rw other (and_no (eqb e k.epoch)) in
    rw f refl
  where
    and_no : (b : Bool) → (b && false) ≡ false
    and_no true = refl
    and_no false = refl

-- names are told apart by their sessions and epochs
pub session_is : (u k : Session) → is_session u k ≡ true → u ≡ k
session_is u k h = let p = and_parts (eqb u.stamp k.stamp) (eqb u.count k.count) h in λ i. record { stamp = eqb-true u.stamp k.stamp p.0 i; count = eqb-true u.count k.count p.1 i }

meeting_back : (u v : Session) (k : Name) → is_meeting k.own k.theirs (at u v 0) ≡ true → is_meeting u v k ≡ true
meeting_back u v k h =
    let p = and_parts (is_session k.own u) (is_session k.theirs v) h in
    let a : is_session u k.own ≡ true = subst (λ (z : Session). is_session z k.own ≡ true) (session_is k.own u p.0) (self_session k.own) in
    let b : is_session v k.theirs ≡ true = subst (λ (z : Session). is_session z k.theirs ≡ true) (session_is k.theirs v p.1) (self_session k.theirs) in
    rw (a, b) refl

pub below_missing : (u v : Session) (e : ℕ) (ks : List Name) → Below u v e ks → Missing (at u v e) ks
below_missing u v e [] h = tt
below_missing u v e (k ∷ ks) h = (by (is_meeting k.own k.theirs (at u v 0)) refl, below_missing u v e ks h.1) where
  and_no : (b : Bool) → (b && false) ≡ false
  and_no true = refl
  and_no false = refl

  by : (b : Bool) → is_meeting k.own k.theirs (at u v 0) ≡ b → is_name k (at u v e) ≡ false
  by true m = let l = h.0 (meeting_back u v k m) in rw (ne_eqb k.epoch e (λ d. absurd (omega (arith, l, d)))) refl
  by false m = rw m (and_no (eqb k.epoch e))

-- a record that stands among them is the one of its name
missing_else : (k : Name) (rs : List Recorded) (i : ℕ) (r : Recorded) → Missing k (names rs) → slice_get rs i ≡ Some r → name_of r ≡ k → ⊥
missing_else k [] i r m e n = absurd (cc)
missing_else k (z ∷ rs) zero r m e n = let same : z ≡ r = cc in let f : is_name (name_of z) k ≡ true = ap (λ (x : Recorded). is_name (name_of x) k) same ∙ ap (λ (j : Name). is_name j k) n ∙ self_name k in let g = m.0 in absurd (cc)
missing_else k (z ∷ rs) (suc i) r m e n = missing_else k rs i r m.1 e n

pub name_is : (j k : Name) → is_name j k ≡ true → j ≡ k
name_is j k h =
    let p = and_parts (eqb j.epoch k.epoch) (is_meeting j.own j.theirs k) h in
    let q = and_parts (is_session j.own k.own) (is_session j.theirs k.theirs) p.1 in
    λ i. record { epoch = eqb-true j.epoch k.epoch p.0 i; own = session_is j.own k.own q.0 i; theirs = session_is j.theirs k.theirs q.1 i }

pub found_self : (rs : List Recorded) (i : ℕ) (r : Recorded) → Apart (names rs) → slice_get rs i ≡ Some r → by_name (name_of r) rs ≡ r
found_self [] i r a e = absurd (cc)
found_self (z ∷ rs) zero r a e = let same : z ≡ r = cc in name_here (name_of r) z rs (ap name_of same) ∙ same
found_self (z ∷ rs) (suc i) r a e = by (is_name (name_of z) (name_of r)) refl (found_self rs i r a.1 e) where
  by : (b : Bool) → is_name (name_of z) (name_of r) ≡ b → by_name (name_of r) rs ≡ r → cond b z (by_name (name_of r) rs) ≡ r
  by true h f = absurd (missing_else (name_of z) rs i r a.0 e (sym (name_is (name_of z) (name_of r) h)))
  by false h f = f

-- more names, all under two sessions
pub record Grown (u v : Session) (ks ks' : List Name) : Type 0 where
  pub apart : Apart ks → Apart ks'
  pub old : (a b : Session) → has a b ks ≡ true → has a b ks' ≡ true
  pub new : (a b : Session) → has a b ks' ≡ true → (has a b ks ≡ true) ⊎ ((a ≡ u) × (b ≡ v))

pub grown_none : (u v : Session) (ks : List Name) → Grown u v ks ks
grown_none u v ks = record { apart = λ a. a; old = λ a b h. h; new = λ a b h. inl h }

pub grown_by : (u v : Session) (ks ks' : List Name) → ks' ≡ ks → Grown u v ks ks'
grown_by u v ks ks' e = subst (λ (zs : List Name). Grown u v ks zs) (sym e) (grown_none u v ks)

pub grown_then : (u v : Session) (ks ks' ks'' : List Name) → Grown u v ks ks' → Grown u v ks' ks'' → Grown u v ks ks''
grown_then u v ks ks' ks'' h k = record { apart = λ a. k.apart (h.apart a); old = λ a b z. k.old a b (h.old a b z); new = λ a b z. by a b (k.new a b z) } where
  by : (a b : Session) → (has a b ks' ≡ true) ⊎ ((a ≡ u) × (b ≡ v)) → (has a b ks ≡ true) ⊎ ((a ≡ u) × (b ≡ v))
  by a b (inl z) = h.new a b z
  by a b (inr z) = inr z

pub meeting_at : (a b u v : Session) (e : ℕ) → is_meeting a b (at u v e) ≡ true → (a ≡ u) × (b ≡ v)
meeting_at a b u v e h = let p = and_parts (is_session a u) (is_session b v) h in (session_is a u p.0, session_is b v p.1)

or_true : (a b : Bool) → b ≡ true → (a || b) ≡ true
or_true true b h = refl
or_true false b h = h

pub grown_one : (u v : Session) (e : ℕ) (ks : List Name) → Missing (at u v e) ks → Grown u v ks (at u v e ∷ ks)
grown_one u v e ks m = record { apart = λ a. (m, a); old = λ a b h. or_true (is_meeting a b (at u v e)) (has a b ks) h; new = λ a b h. by a b (is_meeting a b (at u v e)) refl h } where
  by : (a b : Session) (t : Bool) → is_meeting a b (at u v e) ≡ t → (t || has a b ks) ≡ true → (has a b ks ≡ true) ⊎ ((a ≡ u) × (b ≡ v))
  by a b true t h = inr (meeting_at a b u v e t)
  by a b false t h = inl h

-- the newest record has the name
pub first_has : (u v : Session) (e : ℕ) (rs : List Recorded) → HasFirst (at u v e) rs → has u v (names rs) ≡ true
first_has u v e [] h = absurd h
first_has u v e (r ∷ rs) h = let t : is_meeting u v (name_of r) ≡ true = subst (λ (k : Name). is_meeting u v k ≡ true) (sym h) (rw (self_session u, self_session v) refl) in rw t refl

-- no name under two sessions: no record, and nothing in it
pub has_none : (u v : Session) (ks : List Name) → has u v ks ≡ false → Below u v 0 ks
has_none u v [] h = tt
has_none u v (k ∷ ks) h = by (is_meeting u v k) refl h (λ z. has_none u v ks z) where
  by : (t : Bool) → is_meeting u v k ≡ t → (t || has u v ks) ≡ false → (has u v ks ≡ false → Below u v 0 ks) → (is_meeting u v k ≡ true → k.epoch < 0) × Below u v 0 ks
  by true t z more = absurd (cc)
  by false t z more = (λ d. absurd (cc), more z)

pub named_none : (u v : Session) (e : ℕ) (rs : List Recorded) → has u v (names rs) ≡ false → named u v e rs ≡ blank_record 0 0
named_none u v e [] h = refl
named_none u v e (r ∷ rs) h = by (is_meeting u v (name_of r)) refl h (λ z. named_none u v e rs z) where
  other : (t : Bool) → is_meeting u v (name_of r) ≡ t → t ≡ false → is_name (name_of r) (at u v e) ≡ false
  other t m f = no (is_meeting r.own r.theirs (at u v e)) refl (m ∙ f)
    where
      no : (b : Bool) → is_meeting r.own r.theirs (at u v e) ≡ b → is_meeting u v (name_of r) ≡ false → (eqb r.epoch e && is_meeting r.own r.theirs (at u v e)) ≡ false
      no true b z = let q = meeting_back u v (name_of r) b in absurd (cc)
      no false b z = rw b (and_no (eqb r.epoch e)) where
        and_no : (x : Bool) → (x && false) ≡ false
        and_no true = refl
        and_no false = refl

  by : (t : Bool) → is_meeting u v (name_of r) ≡ t → (t || has u v (names rs)) ≡ false → (has u v (names rs) ≡ false → named u v e rs ≡ blank_record 0 0) → named u v e (r ∷ rs) ≡ blank_record 0 0
  by true t z more = absurd (cc)
  by false t z more = rw (other false t refl) (more z)

-- notes leave all names
with_more : (q c : ℕ) (x : Note) (rs : List Recorded) (a b : Session) → has a b (names rs) ≡ true → has a b (names (with_note q c x rs)) ≡ true
with_more q c (Began epoch own theirs) rs a b h = or_true _ (has a b (names rs)) h
with_more q c (BySend (Accepted number body asks)) [] a b h = h
with_more q c (BySend (Accepted number body true)) (r ∷ rs) a b h = h
with_more q c (BySend (Accepted number body false)) (r ∷ rs) a b h = h
with_more q c (BySend (Sent answer)) [] a b h = h
with_more q c (BySend (Sent answer)) (r ∷ rs) a b h = h
with_more q c x [] a b h = h
with_more q c x (r ∷ rs) a b h = h

pub names_more : (q c : ℕ) (xs : List Note) (rs : List Recorded) (a b : Session) → has a b (names rs) ≡ true → has a b (names (with_notes q c xs rs)) ≡ true
names_more q c [] rs a b h = h
names_more q c (x ∷ xs) rs a b h = names_more q c xs (with_note q c x rs) a b (with_more q c x rs a b h)
