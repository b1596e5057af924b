-- Which words fit a form, and which is the first that doesn't, as relations.
use Rattle.std.specs.Prelude.{◌≡◌, ◌≢◌, ℕ, true, false, ◌⊎◌, List, [], ◌∷◌, Result, Ok, Err}
use Rattle.xp_base.specs.declared.step.CopyKind.{CopyKind}
use Rattle.xp_text.specs.Lines.{Word}
use Rattle.xp_text.specs.Numbers.{digits_of}
use Rattle.xp_text.specs.Payloads.{payload_of, at_most}
use Rattle.xp_forms.specs.declared.fault.LineCause.{LineCause}
use Rattle.xp_forms.specs.declared.fault.LineCause.TheVariants as causes
use Rattle.xp_forms.specs.Forms.{Form, field, kind_of, sized, is_ascii, number_from}
use Rattle.xp_forms.specs.Forms.Form.{End, Never, Field, Kind, Bytes, Choice, Unless, Peek}

-- ---- words and forms

-- no byte above 127
abbrev pub IsPlain : Word → Type 0
IsPlain w = is_ascii w.bytes ≡ true

-- the words fit the form, and say y; it doesn't matter where they stand
abbrev pub Fits : {A : Type 0} → Form A → List Word → A → Type 0
Fits (End cause x) [] y = x ≡ y
Fits (End cause x) (w ∷ ws) y = ⊥
Fits (Never cause) ws y = ⊥
Fits (Field s f) [] y = ⊥
Fits (Field s f) (w ∷ ws) y =
    IsPlain w × (n : ℕ) × (field s (digits_of w.bytes) ≡ Ok n) × Fits (f n) ws y
Fits (Kind f) [] y = ⊥
Fits (Kind f) (w ∷ ws) y =
    IsPlain w × (k : CopyKind) × (kind_of w.bytes ≡ Ok k) × Fits (f k) ws y
Fits (Bytes keep least most f) [] y = ⊥
Fits (Bytes keep least most f) (w ∷ ws) y =
    IsPlain w × (bs : List ℕ)
    × (sized keep least (at_most most (payload_of w.bytes)) ≡ Ok bs) × Fits (f bs) ws y
Fits (Choice word f g) [] y = Fits g [] y
Fits (Choice word f g) (w ∷ ws) y =
    ((w.bytes ≡ word) × Fits f ws y) ⊎ ((w.bytes ≢ word) × Fits g (w ∷ ws) y)
Fits (Unless wrong cause f) ws y = (wrong ≡ false) × Fits f ws y
Fits (Peek f) ws y = Fits (f (number_from ws)) ws y

-- ---- the first word that doesn't fit

abbrev pub IsHigh : Word → Type 0
IsHigh w = is_ascii w.bytes ≡ false

-- the word may not stand here: it has this cause, or cause `word` where it has a byte above 127
abbrev pub IsRefused : LineCause → Word → ℕ → LineCause → Type 0
IsRefused cause w column k =
    (column ≡ w.column) × ((IsPlain w × (k ≡ cause)) ⊎ (IsHigh w × (k ≡ causes.Word)))

-- what the word says is refused
abbrev pub IsFaulty : {B : Type 0} → Result B LineCause → Word → ℕ → LineCause → Type 0
IsFaulty said w column k =
    (column ≡ w.column) × ((IsPlain w × (said ≡ Err k)) ⊎ (IsHigh w × (k ≡ causes.Word)))

abbrev pub IsMissing : ℕ → ℕ → LineCause → Type 0
IsMissing end column k = (column ≡ end) × (k ≡ causes.Missing)

-- Words of a form, from the left: the first that doesn't fit stands at this column, for this cause.
-- The word before them stands at `last`, and the line ends before `end`.
abbrev pub Faults : {A : Type 0} → Form A → ℕ → ℕ → List Word → ℕ → LineCause → Type 0
Faults (End cause x) last end [] column k = ⊥
Faults (End cause x) last end (w ∷ ws) column k = IsRefused cause w column k
Faults (Never cause) last end [] column k = IsMissing end column k
Faults (Never cause) last end (w ∷ ws) column k = IsRefused cause w column k
Faults (Field s f) last end [] column k = IsMissing end column k
Faults (Field s f) last end (w ∷ ws) column k =
    IsFaulty (field s (digits_of w.bytes)) w column k
    ⊎ (IsPlain w × (n : ℕ) × (field s (digits_of w.bytes) ≡ Ok n)
    × Faults (f n) w.column end ws column k)
Faults (Kind f) last end [] column k = IsMissing end column k
Faults (Kind f) last end (w ∷ ws) column k =
    IsFaulty (kind_of w.bytes) w column k
    ⊎ (IsPlain w × (n : CopyKind) × (kind_of w.bytes ≡ Ok n)
    × Faults (f n) w.column end ws column k)
Faults (Bytes keep least most f) last end [] column k = IsMissing end column k
Faults (Bytes keep least most f) last end (w ∷ ws) column k =
    IsFaulty (sized keep least (at_most most (payload_of w.bytes))) w column k
    ⊎ (IsPlain w × (bs : List ℕ)
    × (sized keep least (at_most most (payload_of w.bytes)) ≡ Ok bs)
    × Faults (f bs) w.column end ws column k)
Faults (Choice word f g) last end [] column k = Faults g last end [] column k
Faults (Choice word f g) last end (w ∷ ws) column k =
    ((w.bytes ≡ word) × Faults f w.column end ws column k)
    ⊎ ((w.bytes ≢ word) × Faults g last end (w ∷ ws) column k)
Faults (Unless wrong cause f) last end ws column k =
    ((wrong ≡ true) × (column ≡ last) × (k ≡ cause))
    ⊎ ((wrong ≡ false) × Faults f last end ws column k)
Faults (Peek f) last end ws column k = Faults (f (number_from ws)) last end ws column k
