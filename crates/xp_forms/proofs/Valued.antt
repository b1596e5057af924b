-- A line of a form says only what the form can say.
use Rattle.std.proofs.Common.{◌≡◌, ◌≢◌, ℕ, ◌*◌, ◌≤◌, Bool, true, false, cond, ltb, leb, eqb, not, ◌&&◌, ◌||◌, inl, inr, List, [], ◌∷◌, length, refl, sym, ap, subst, ◌∙◌, Option, Some, None, Ok, Err}
use Rattle.std.proofs.lemmas.Bool.{and_parts, leb-true, ltb-true, eqb-true, eq-eqb}
use Rattle.xp_base.specs.declared.layout.TheConstants.{CHANNELS, LINES}
use Rattle.xp_base.specs.Entries.{lines}
use Rattle.xp_script.specs.declared.limits.TheConstants.{DEVICE_CHANNEL}
use Rattle.xp_text.specs.Lines.{Word}
use Rattle.xp_text.specs.Numbers.{digits_of}
use Rattle.xp_text.specs.Payloads.{payload_of, at_most}
use Rattle.xp_text.proofs.ByteLemmas.{payload_bytes}
use Rattle.xp_forms.specs.declared.fault.LineCause.{LineCause}
use Rattle.xp_forms.specs.declared.fault.LineCause.TheVariants as causes
use Rattle.xp_forms.specs.Forms.{Slot, Form, within, field, kept, sized, small, number_from, reads}
use Rattle.xp_forms.specs.Forms.Slot.{Number, Interval, Part, Other, AnyChannel, MessageChannel, Limit}
use Rattle.xp_forms.specs.Forms.Form.{End, Never, Field, Kind, Bytes, Choice, Unless, Peek}
use Rattle.xp_forms.specs.Fits.{Fits}
use Rattle.xp_forms.specs.Values.{IsIn, IsPayload, Agrees, SaysOnly}
use Rattle.xp_forms.proofs.Fitting.{left, read_fits}

-- a test that passed
passed : (b : Bool) (n m : ℕ) (cause : LineCause) → within b n cause ≡ Ok m → (b ≡ true) × (n ≡ m)
passed true n m cause h = (refl, cc)
passed false n m cause h = absurd cc

differs : (n m : ℕ) → not (eqb n m) ≡ true → n ≢ m
differs n m h e = absurd (let t : eqb n m ≡ true = eq-eqb n m e in let f : not (eqb n m) ≡ false = ap not t in cc)

-- the test of a slot that passed: the word's number is the slot's
is_in : (s : Slot) (o : Option ℕ) (m : ℕ) → field s o ≡ Ok m → (o ≡ Some m) × IsIn s m
is_in (Number low high) (Some n) m h =
    let p = passed (leb low n && leb n high) n m causes.Number h in
    let q = and_parts (leb low n) (leb n high) p.0 in
    subst (λ (k : ℕ). (Some n ≡ Some k) × IsIn (Number low high) k) p.1 (refl, (leb-true low n q.0, leb-true n high q.1))
is_in (Interval low high) (Some n) m h =
    let p = passed (eqb n 0 || (leb low n && leb n high)) n m causes.Number h in
    subst (λ (k : ℕ). (Some n ≡ Some k) × IsIn (Interval low high) k) p.1 (refl, go (eqb n 0) refl p.0)
  where
    go : (b : Bool) → eqb n 0 ≡ b → (b || (leb low n && leb n high)) ≡ true → IsIn (Interval low high) n
    go true e t = inl (eqb-true n 0 e)
    go false e t = let q = and_parts (leb low n) (leb n high) t in inr (leb-true low n q.0, leb-true n high q.1)
is_in (Part count) (Some n) m h =
    let p = passed (ltb n count) n m causes.Partition h in
    subst (λ (k : ℕ). (Some n ≡ Some k) × IsIn (Part count) k) p.1 (refl, ltb-true n count p.0)
is_in (Other count own) (Some n) m h =
    let p = passed (ltb n count && not (eqb n own)) n m causes.Partition h in
    let q = and_parts (ltb n count) (not (eqb n own)) p.0 in
    subst (λ (k : ℕ). (Some n ≡ Some k) × IsIn (Other count own) k) p.1 (refl, (ltb-true n count q.0, differs n own q.1))
is_in AnyChannel (Some n) m h =
    let p = passed (ltb n CHANNELS) n m causes.Channel h in
    subst (λ (k : ℕ). (Some n ≡ Some k) × IsIn AnyChannel k) p.1 (refl, ltb-true n CHANNELS p.0)
is_in MessageChannel (Some n) m h =
    let p = passed (ltb n CHANNELS && not (eqb n DEVICE_CHANNEL)) n m causes.Channel h in
    let q = and_parts (ltb n CHANNELS) (not (eqb n DEVICE_CHANNEL)) p.0 in
    subst (λ (k : ℕ). (Some n ≡ Some k) × IsIn MessageChannel k) p.1 (refl, (ltb-true n CHANNELS q.0, differs n DEVICE_CHANNEL q.1))
is_in (Limit longest entries) (Some n) m h =
    let p = passed (leb n longest && leb (entries * lines n) LINES) n m causes.Number h in
    let q = and_parts (leb n longest) (leb (entries * lines n) LINES) p.0 in
    subst (λ (k : ℕ). (Some n ≡ Some k) × IsIn (Limit longest entries) k) p.1 (refl, (leb-true n longest q.0, leb-true (entries * lines n) LINES q.1))
is_in s None m h = absurd cc

-- a payload that a word says
is_payload : (keep : Bool) (least most : ℕ) (w out : List ℕ) → sized keep least (at_most most (payload_of w)) ≡ Ok out → (bytes : List ℕ) × IsPayload least most bytes × (kept keep bytes ≡ out)
is_payload keep least most w out h = go (payload_of w) refl h
  where
    low : (bytes : List ℕ) (b : Bool) → leb least (length bytes) ≡ b → cond b (Ok (kept keep bytes)) (Err causes.Payload) ≡ Ok out → (least ≤ length bytes) × (kept keep bytes ≡ out)
    low bytes true e t = (leb-true least (length bytes) e, cc)
    low bytes false e t = absurd cc

    high : (bytes : List ℕ) (b : Bool) → leb (length bytes) most ≡ b → payload_of w ≡ Some bytes → sized keep least (cond b (Some bytes) None) ≡ Ok out → (bs : List ℕ) × IsPayload least most bs × (kept keep bs ≡ out)
    high bytes true e p t =
        let l = low bytes (leb least (length bytes)) refl t in
        (bytes, record { low = l.0; high = leb-true (length bytes) most e; each = payload_bytes w bytes p }, l.1)
    high bytes false e p t = absurd cc

    go : (o : Option (List ℕ)) → payload_of w ≡ o → sized keep least (at_most most o) ≡ Ok out → (bs : List ℕ) × IsPayload least most bs × (kept keep bs ≡ out)
    go None p t = absurd cc
    go (Some bytes) p t = high bytes (leb (length bytes) most) refl p t

-- what is known of the words
abbrev Known : Option (Option ℕ) → List Word → Type 0
Known None ws = Unit {0}
Known (Some seen) ws = number_from ws ≡ seen

agrees : (known : Option (Option ℕ)) (w : Word) (ws : List Word) (n : ℕ) → digits_of w.bytes ≡ Some n → Known known (w ∷ ws) → Agrees known n
agrees None w ws n e k = tt
agrees (Some seen) w ws n e k = sym (ap small e) ∙ k

fits_only : {A : Type 0} (P : A → Type 0) (form : Form A) (ws : List Word) (y : A) (known : Option (Option ℕ)) → Known known ws → SaysOnly known P form → Fits form ws y → P y
fits_only P (End cause x) [] y known k only h = subst P h only
fits_only P (End cause x) (w ∷ ws) y known k only h = absurd h
fits_only P (Never cause) ws y known k only h = absurd h
fits_only P (Field s f) [] y known k only h = absurd h
fits_only P (Field s f) (w ∷ ws) y known k only (p, n, e, h) =
    let i = is_in s (digits_of w.bytes) n e in
    fits_only P (f n) ws y None tt (only n i.1 (agrees known w ws n i.0 k)) h
fits_only P (Kind f) [] y known k only h = absurd h
fits_only P (Kind f) (w ∷ ws) y known k only (p, kind, e, h) = fits_only P (f kind) ws y None tt (only kind) h
fits_only P (Bytes keep least most f) [] y known k only h = absurd h
fits_only P (Bytes keep least most f) (w ∷ ws) y known k only (p, bs, e, h) =
    let i = is_payload keep least most w.bytes bs e in
    fits_only P (f bs) ws y None tt (subst (λ (x : List ℕ). SaysOnly None P (f x)) i.2 (only i.0 i.1)) h
fits_only P (Choice word f g) [] y known k only h = fits_only P g [] y known k only.1 h
fits_only P (Choice word f g) (w ∷ ws) y known k only (inl (e, h)) = fits_only P f ws y None tt only.0 h
fits_only P (Choice word f g) (w ∷ ws) y known k only (inr (n, h)) = fits_only P g (w ∷ ws) y known k only.1 h
fits_only P (Unless wrong cause f) ws y known k only (e, h) = fits_only P f ws y known k (only e) h
fits_only P (Peek f) ws y known k only h = fits_only P (f (number_from ws)) ws y (Some (number_from ws)) refl (only (number_from ws)) h

pub reads_only : {A : Type 0} (P : A → Type 0) (form : Form A) (ws : List Word) (end last : ℕ) (y : A) → SaysOnly None P form → reads form (left ws end last) ≡ Ok y → P y
reads_only P form ws end last y only h = fits_only P form ws y None tt only (read_fits form ws end last y h)
