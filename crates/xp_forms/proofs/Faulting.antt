-- A line is refused at a column for a cause exactly where the first word that doesn't fit stands there, for that cause.
use Rattle.std.proofs.Common.{◌≡◌, ◌≢◌, ℕ, Bool, true, false, cond, ltb, ◌⊎◌, inl, inr, List, [], ◌∷◌, refl, sym, ap, ◌∙◌, Some, None, Result, Ok, Err}
use Rattle.std.specs.Prelude.{bytes_eq}
use Rattle.std.specs.List.{list_all}
use Rattle.std.proofs.lemmas.Slice.Eq.{bytes_eq-Decides}
use Rattle.xp_text.specs.Lines.{Word, Line, accepted}
use Rattle.xp_text.specs.Numbers.{digits_of}
use Rattle.xp_text.specs.Payloads.{payload_of, at_most}
use Rattle.xp_forms.specs.declared.fault.LineCause.{LineCause}
use Rattle.xp_forms.specs.declared.fault.LineCause.TheVariants as causes
use Rattle.xp_forms.specs.declared.fault.WordFault.{WordFault}
use Rattle.xp_forms.specs.Forms.{◌>>=◌, Form, field, kind_of, sized, bad, next_word, next_field, next_kind, next_bytes, at_last, end_of, refused, chosen, peeked, number_from, reads}
use Rattle.xp_forms.specs.Forms.Form.{End, Never, Field, Kind, Bytes, Choice, Unless, Peek}
use Rattle.xp_forms.specs.Fits.{IsRefused, IsMissing, Faults}
use Rattle.xp_forms.proofs.Fitting.{left, is_word, isnt_word}

abbrev first_word : Bool → List ℕ → Line → ℕ → Result (List ℕ × Line) WordFault
first_word b bytes l column = cond b (Ok (bytes, l)) (bad column causes.Word)

same_bad : {A : Type 0} (c d : ℕ) (j k : LineCause) → c ≡ d → j ≡ k → bad {A = A} c j ≡ bad d k
same_bad c d j k e f = ap (λ x. bad x j) e ∙ ap (λ x. bad d x) f

abbrev err : (A : Type 0) → WordFault → Result A WordFault
err A f = Err f

same_err : (A : Type 0) (x y : WordFault) → err A x ≡ err A y → x ≡ y
same_err A x y e = cc

bad_parts : {A : Type 0} (c d : ℕ) (j k : LineCause) → bad {A = A} c j ≡ bad d k → (c ≡ d) × (j ≡ k)
bad_parts {A} c d j k e =
    let f = same_err A (record { column = c; cause = j }) (record { column = d; cause = k }) e in
    (ap (λ (x : WordFault). x.column) f, ap (λ (x : WordFault). x.cause) f)

-- ---- from the relation

refused_bad : (A : Type 0) (w : Word) (ws : List Word) (end last : ℕ) (cause : LineCause) (column : ℕ) (k : LineCause) → IsRefused cause w column k → err A (refused cause (left (w ∷ ws) end last)) ≡ bad column k
unfolding refused
refused_bad A w ws end last cause column k (c, inl (p, e)) = rw p (same_bad w.column column cause k (sym c) (sym e))
refused_bad A w ws end last cause column k (c, inr (p, e)) = rw p (same_bad w.column column causes.Word k (sym c) (sym e))

faulty_bad : {A B : Type 0} (b : Bool) (w : Word) (l : Line) (read : List ℕ → Result B LineCause) (f : B × Line → Result A WordFault) (column : ℕ) (k : LineCause) → l.last ≡ w.column → (column ≡ w.column) × (((b ≡ true) × (read w.bytes ≡ Err k)) ⊎ ((b ≡ false) × (k ≡ causes.Word))) → ((first_word b w.bytes l w.column >>= λ x. at_last x.1 (read x.0)) >>= f) ≡ bad column k
faulty_bad b w l read f column k at (c, inl (p, e)) = rw (p, e) (same_bad l.last column k k (at ∙ sym c) refl)
faulty_bad b w l read f column k at (c, inr (p, e)) = rw p (same_bad w.column column causes.Word k (sym c) (sym e))

pub faults_read : {A : Type 0} (form : Form A) (ws : List Word) (end last column : ℕ) (k : LineCause) → Faults form last end ws column k → reads form (left ws end last) ≡ bad column k
unfolding peeked next_word next_field next_kind next_bytes end_of refused accepted
faults_read (End cause x) [] end last column k h = absurd h
faults_read (End cause x) (w ∷ ws) end last column k h = refused_bad _ w ws end last cause column k h
faults_read (Never cause) [] end last column k h = same_bad end column causes.Missing k (sym h.0) (sym h.1)
faults_read (Never cause) (w ∷ ws) end last column k h = refused_bad _ w ws end last cause column k h
faults_read (Field s f) [] end last column k h = same_bad end column causes.Missing k (sym h.0) (sym h.1)
faults_read (Field s f) (w ∷ ws) end last column k (inl h) = faulty_bad (list_all (λ b. ltb b 128) w.bytes) w (left ws end w.column) (λ z. field s (digits_of z)) (λ x. reads (f x.0) x.1) column k refl h
faults_read (Field s f) (w ∷ ws) end last column k (inr (p, n, e, h)) = rw (p, e) (faults_read (f n) ws end w.column column k h)
faults_read (Kind f) [] end last column k h = same_bad end column causes.Missing k (sym h.0) (sym h.1)
faults_read (Kind f) (w ∷ ws) end last column k (inl h) = faulty_bad (list_all (λ b. ltb b 128) w.bytes) w (left ws end w.column) kind_of (λ x. reads (f x.0) x.1) column k refl h
faults_read (Kind f) (w ∷ ws) end last column k (inr (p, n, e, h)) = rw (p, e) (faults_read (f n) ws end w.column column k h)
faults_read (Bytes keep least most f) [] end last column k h = same_bad end column causes.Missing k (sym h.0) (sym h.1)
faults_read (Bytes keep least most f) (w ∷ ws) end last column k (inl h) = faulty_bad (list_all (λ b. ltb b 128) w.bytes) w (left ws end w.column) (λ z. sized keep least (at_most most (payload_of z))) (λ x. reads (f x.0) x.1) column k refl h
faults_read (Bytes keep least most f) (w ∷ ws) end last column k (inr (p, n, e, h)) = rw (p, e) (faults_read (f n) ws end w.column column k h)
faults_read (Choice word f g) [] end last column k h = faults_read g [] end last column k h
faults_read (Choice word f g) (w ∷ ws) end last column k (inl (e, h)) = rw (is_word w.bytes word e) (faults_read f ws end w.column column k h)
faults_read (Choice word f g) (w ∷ ws) end last column k (inr (n, h)) = rw (isnt_word w.bytes word n) (faults_read g (w ∷ ws) end last column k h)
faults_read (Unless wrong cause f) ws end last column k (inl (e, c, j)) = rw e (same_bad last column cause k (sym c) (sym j))
faults_read (Unless wrong cause f) ws end last column k (inr (e, h)) = rw e (faults_read f ws end last column k h)
faults_read (Peek f) ws end last column k h = faults_read (f (number_from ws)) ws end last column k h

-- ---- from the matcher

bad_refused : (A : Type 0) (w : Word) (ws : List Word) (end last : ℕ) (cause : LineCause) (column : ℕ) (k : LineCause) → err A (refused cause (left (w ∷ ws) end last)) ≡ bad column k → IsRefused cause w column k
unfolding refused
bad_refused A w ws end last cause column k h = go (list_all (λ b. ltb b 128) w.bytes) refl h
  where
    go : (b : Bool) → list_all (λ b. ltb b 128) w.bytes ≡ b → bad {A = A} w.column (cond b cause causes.Word) ≡ bad column k → IsRefused cause w column k
    go true p e = let q = bad_parts w.column column cause k e in (sym q.0, inl (p, sym q.1))
    go false p e = let q = bad_parts w.column column causes.Word k e in (sym q.0, inr (p, sym q.1))

abbrev Goes : {A B : Type 0} → Bool → Word → Line → (List ℕ → Result B LineCause) → (B × Line → Result A WordFault) → ℕ → LineCause → Type 0
Goes {A} {B} b w l read f column k =
    ((column ≡ w.column) × (((b ≡ true) × (read w.bytes ≡ Err k)) ⊎ ((b ≡ false) × (k ≡ causes.Word)))) ⊎ ((b ≡ true) × (v : B) × (read w.bytes ≡ Ok v) × (f (v, l) ≡ bad column k))

bad_faulty : {A B : Type 0} (b : Bool) (w : Word) (l : Line) (read : List ℕ → Result B LineCause) (f : B × Line → Result A WordFault) (column : ℕ) (k : LineCause) → l.last ≡ w.column → ((first_word b w.bytes l w.column >>= λ x. at_last x.1 (read x.0)) >>= f) ≡ bad column k → Goes b w l read f column k
bad_faulty {A} {B} true w l read f column k at h = go (read w.bytes) refl h
  where
    go : (r : Result B LineCause) → read w.bytes ≡ r → (at_last l r >>= f) ≡ bad column k → Goes true w l read f column k
    go (Ok v) e g = inr (refl, v, e, g)
    go (Err c) e g = let q = bad_parts l.last column c k g in inl (sym q.0 ∙ at, inl (refl, e ∙ ap (λ x. Err x) q.1))
bad_faulty false w l read f column k at h = let q = bad_parts w.column column causes.Word k h in inl (sym q.0, inr (refl, sym q.1))

by_word : {A : Type 0} (b : Bool) (xs ys : List ℕ) (l : Line) (f : Line → Result A WordFault) (g : Result A WordFault) (y : WordFault) (P Q : Type 0) → ((b ≡ true → xs ≡ ys) × (xs ≡ ys → b ≡ true)) → (f l ≡ Err y → P) → (g ≡ Err y → Q) → chosen (cond b (Some l) None) f g ≡ Err y → ((xs ≡ ys) × P) ⊎ ((xs ≢ ys) × Q)
by_word true xs ys l f g y P Q d p q h = inl (d.0 refl, p h)
by_word false xs ys l f g y P Q d p q h = inr ((λ e. absurd (let c = d.1 e in cc)), q h)

by_test : {A : Type 0} (b : Bool) (last column : ℕ) (cause k : LineCause) (s : Result A WordFault) (P : Type 0) → (s ≡ bad column k → P) → cond b (bad last cause) s ≡ bad column k → ((b ≡ true) × (column ≡ last) × (k ≡ cause)) ⊎ ((b ≡ false) × P)
by_test true last column cause k s P p h = let q = bad_parts last column cause k h in inl (refl, sym q.0, sym q.1)
by_test false last column cause k s P p h = inr (refl, p h)

missing : {A : Type 0} (end column : ℕ) (k : LineCause) → bad {A = A} end causes.Missing ≡ bad column k → IsMissing end column k
missing end column k h = let q = bad_parts end column causes.Missing k h in (sym q.0, sym q.1)

pub read_faults : {A : Type 0} (form : Form A) (ws : List Word) (end last column : ℕ) (k : LineCause) → reads form (left ws end last) ≡ bad column k → Faults form last end ws column k
unfolding peeked next_word next_field next_kind next_bytes end_of refused accepted
read_faults (End cause x) [] end last column k h = absurd cc
read_faults (End cause x) (w ∷ ws) end last column k h = bad_refused _ w ws end last cause column k h
read_faults (Never cause) [] end last column k h = missing end column k h
read_faults (Never cause) (w ∷ ws) end last column k h = bad_refused _ w ws end last cause column k h
read_faults (Field s f) [] end last column k h = missing end column k h
read_faults (Field s f) (w ∷ ws) end last column k h =
    elim (bad_faulty (list_all (λ b. ltb b 128) w.bytes) w (left ws end w.column) (λ z. field s (digits_of z)) (λ x. reads (f x.0) x.1) column k refl h) [
      | inl a ↦ inl a
      | inr a ↦ inr (a.0, a.1, a.2, read_faults (f a.1) ws end w.column column k a.3)
    ]
read_faults (Kind f) [] end last column k h = missing end column k h
read_faults (Kind f) (w ∷ ws) end last column k h =
    elim (bad_faulty (list_all (λ b. ltb b 128) w.bytes) w (left ws end w.column) kind_of (λ x. reads (f x.0) x.1) column k refl h) [
      | inl a ↦ inl a
      | inr a ↦ inr (a.0, a.1, a.2, read_faults (f a.1) ws end w.column column k a.3)
    ]
read_faults (Bytes keep least most f) [] end last column k h = missing end column k h
read_faults (Bytes keep least most f) (w ∷ ws) end last column k h =
    elim (bad_faulty (list_all (λ b. ltb b 128) w.bytes) w (left ws end w.column) (λ z. sized keep least (at_most most (payload_of z))) (λ x. reads (f x.0) x.1) column k refl h) [
      | inl a ↦ inl a
      | inr a ↦ inr (a.0, a.1, a.2, read_faults (f a.1) ws end w.column column k a.3)
    ]
read_faults (Choice word f g) [] end last column k h = read_faults g [] end last column k h
read_faults (Choice word f g) (w ∷ ws) end last column k h =
    by_word (bytes_eq w.bytes word) w.bytes word (left ws end w.column) (reads f) (reads g (left (w ∷ ws) end last)) (record { column = column; cause = k }) (Faults f w.column end ws column k) (Faults g last end (w ∷ ws) column k) (bytes_eq-Decides w.bytes word) (read_faults f ws end w.column column k) (read_faults g (w ∷ ws) end last column k) h
read_faults (Unless wrong cause f) ws end last column k h = by_test wrong last column cause k (reads f (left ws end last)) (Faults f last end ws column k) (read_faults f ws end last column k) h
read_faults (Peek f) ws end last column k h = read_faults (f (number_from ws)) ws end last column k h
