-- A line is read as a form says exactly where its words fit the form.
use Rattle.std.proofs.Common.{◌≡◌, ◌≢◌, ℕ, Bool, true, false, cond, ltb, ◌⊎◌, inl, inr, List, [], ◌∷◌, refl, sym, ap, ◌∙◌, Some, None, Result, Ok, Err}
use Rattle.std.specs.Prelude.{bytes_eq}
use Rattle.std.specs.List.{list_all}
use Rattle.std.proofs.lemmas.Slice.Eq.{bytes_eq-Decides}
use Rattle.std.proofs.lemmas.Bool.{false_from_ne_true}
use Rattle.xp_text.specs.Lines.{Word, Line, accepted}
use Rattle.xp_text.specs.Numbers.{digits_of}
use Rattle.xp_text.specs.Payloads.{payload_of, at_most}
use Rattle.xp_forms.specs.declared.fault.LineCause.{LineCause}
use Rattle.xp_forms.specs.declared.fault.LineCause.TheVariants as causes
use Rattle.xp_forms.specs.declared.fault.WordFault.{WordFault}
use Rattle.xp_forms.specs.Forms.{◌>>=◌, Form, field, kind_of, sized, bad, next_word, next_field, next_kind, next_bytes, at_last, end_of, chosen, peeked, number_from, reads}
use Rattle.xp_forms.specs.Forms.Form.{End, Never, Field, Kind, Bytes, Choice, Unless, Peek}
use Rattle.xp_forms.specs.Fits.{Fits}

abbrev pub left : List Word → ℕ → ℕ → Line
left ws end last = record { words = ws; end = end; last = last }

pub is_word : (xs ys : List ℕ) → xs ≡ ys → bytes_eq xs ys ≡ true
is_word xs ys e = (bytes_eq-Decides xs ys).1 e

pub isnt_word : (xs ys : List ℕ) → xs ≢ ys → bytes_eq xs ys ≡ false
isnt_word xs ys e = false_from_ne_true (bytes_eq xs ys) (λ b. e ((bytes_eq-Decides xs ys).0 b))

pub fits_read : {A : Type 0} (form : Form A) (ws : List Word) (end last : ℕ) (y : A) → Fits form ws y → reads form (left ws end last) ≡ Ok y
unfolding peeked next_word next_field next_kind next_bytes end_of accepted
fits_read (End cause x) [] end last y h = ap (λ z. Ok z) h
fits_read (End cause x) (w ∷ ws) end last y h = absurd h
fits_read (Never cause) ws end last y h = absurd h
fits_read (Field s f) [] end last y h = absurd h
fits_read (Field s f) (w ∷ ws) end last y (p, n, e, h) = rw (p, e) (fits_read (f n) ws end w.column y h)
fits_read (Kind f) [] end last y h = absurd h
fits_read (Kind f) (w ∷ ws) end last y (p, k, e, h) = rw (p, e) (fits_read (f k) ws end w.column y h)
fits_read (Bytes keep least most f) [] end last y h = absurd h
fits_read (Bytes keep least most f) (w ∷ ws) end last y (p, bs, e, h) = rw (p, e) (fits_read (f bs) ws end w.column y h)
fits_read (Choice word f g) [] end last y h = fits_read g [] end last y h
fits_read (Choice word f g) (w ∷ ws) end last y (inl (e, h)) = rw (is_word w.bytes word e) (fits_read f ws end w.column y h)
fits_read (Choice word f g) (w ∷ ws) end last y (inr (n, h)) = rw (isnt_word w.bytes word n) (fits_read g (w ∷ ws) end last y h)
fits_read (Unless wrong cause f) ws end last y (e, h) = rw e (fits_read f ws end last y h)
fits_read (Peek f) ws end last y h = fits_read (f (number_from ws)) ws end last y h

abbrev first_word : Bool → List ℕ → Line → ℕ → Result (List ℕ × Line) WordFault
first_word b bytes l column = cond b (Ok (bytes, l)) (bad column causes.Word)

-- a word that is read is plain, and says something
step : {A B : Type 0} (b : Bool) (bytes : List ℕ) (l : Line) (column : ℕ) (read : List ℕ → Result B LineCause) (k : B × Line → Result A WordFault) (y : A) → ((first_word b bytes l column >>= λ x. at_last x.1 (read x.0)) >>= k) ≡ Ok y → (b ≡ true) × (v : B) × (read bytes ≡ Ok v) × (k (v, l) ≡ Ok y)
step true bytes l column read k y h = go (read bytes) refl h
  where
    go : (r : Result _ LineCause) → read bytes ≡ r → (at_last l r >>= k) ≡ Ok y → (true ≡ true) × (v : _) × (read bytes ≡ Ok v) × (k (v, l) ≡ Ok y)
    go (Ok v) e h = (refl, v, e, h)
    go (Err c) e h = absurd cc
step false bytes l column read k y h = absurd cc

by_word : {A : Type 0} (b : Bool) (xs ys : List ℕ) (l : Line) (f : Line → Result A WordFault) (g : Result A WordFault) (y : A) (P Q : Type 0) → ((b ≡ true → xs ≡ ys) × (xs ≡ ys → b ≡ true)) → (f l ≡ Ok y → P) → (g ≡ Ok y → Q) → chosen (cond b (Some l) None) f g ≡ Ok y → ((xs ≡ ys) × P) ⊎ ((xs ≢ ys) × Q)
by_word true xs ys l f g y P Q d p q h = inl (d.0 refl, p h)
by_word false xs ys l f g y P Q d p q h = inr ((λ e. absurd (let c = d.1 e in cc)), q h)

by_test : {A : Type 0} (b : Bool) (r s : Result A WordFault) (y : A) (P : Type 0) → (f : WordFault) → r ≡ Err f → (s ≡ Ok y → P) → cond b r s ≡ Ok y → (b ≡ false) × P
by_test true r s y P f e p h = absurd (let c = sym e ∙ h in cc)
by_test false r s y P f e p h = (refl, p h)

pub read_fits : {A : Type 0} (form : Form A) (ws : List Word) (end last : ℕ) (y : A) → reads form (left ws end last) ≡ Ok y → Fits form ws y
unfolding peeked next_word next_field next_kind next_bytes end_of accepted
read_fits (End cause x) [] end last y h = cc
read_fits (End cause x) (w ∷ ws) end last y h = cc
read_fits (Never cause) ws end last y h = cc
read_fits (Field s f) [] end last y h = cc
read_fits (Field s f) (w ∷ ws) end last y h =
    let a = step (list_all (λ b. ltb b 128) w.bytes) w.bytes (left ws end w.column) w.column (λ z. field s (digits_of z)) (λ x. reads (f x.0) x.1) y h in
    (a.0, a.1, a.2, read_fits (f a.1) ws end w.column y a.3)
read_fits (Kind f) [] end last y h = cc
read_fits (Kind f) (w ∷ ws) end last y h =
    let a = step (list_all (λ b. ltb b 128) w.bytes) w.bytes (left ws end w.column) w.column kind_of (λ x. reads (f x.0) x.1) y h in
    (a.0, a.1, a.2, read_fits (f a.1) ws end w.column y a.3)
read_fits (Bytes keep least most f) [] end last y h = cc
read_fits (Bytes keep least most f) (w ∷ ws) end last y h =
    let a = step (list_all (λ b. ltb b 128) w.bytes) w.bytes (left ws end w.column) w.column (λ z. sized keep least (at_most most (payload_of z))) (λ x. reads (f x.0) x.1) y h in
    (a.0, a.1, a.2, read_fits (f a.1) ws end w.column y a.3)
read_fits (Choice word f g) [] end last y h = read_fits g [] end last y h
read_fits (Choice word f g) (w ∷ ws) end last y h =
    by_word (bytes_eq w.bytes word) w.bytes word (left ws end w.column) (reads f) (reads g (left (w ∷ ws) end last)) y (Fits f ws y) (Fits g (w ∷ ws) y) (bytes_eq-Decides w.bytes word) (read_fits f ws end w.column y) (read_fits g (w ∷ ws) end last y) h
read_fits (Unless wrong cause f) ws end last y h = by_test wrong (bad last cause) (reads f (left ws end last)) y (Fits f ws y) (record { column = last; cause = cause }) refl (read_fits f ws end last y) h
read_fits (Peek f) ws end last y h = read_fits (f (number_from ws)) ws end last y h
