-- Forms of lines: a form says which words may stand, one after the other, and what the line says.
use Rattle.std.specs.Prelude.{◌≡◌, ℕ, ◌*◌, Bool, ◌&&◌, ◌||◌, not, ◌==◌, if◌then◌else◌, nat_lt, nat_le, List, [], ◌∷◌, length, bytes_eq, Option, Some, None, Result, Ok, Err}
use Rattle.std.specs.List.{list_all}
use Rattle.xp_base.specs.declared.layout.TheConstants.{CHANNELS, LINES}
use Rattle.xp_base.specs.declared.step.CopyKind.{CopyKind}
use Rattle.xp_base.specs.declared.step.CopyKind.TheVariants as kinds
use Rattle.xp_base.specs.Entries.{lines}
use Rattle.xp_base.specs.Reasons.{copy_text}
use Rattle.xp_script.specs.declared.limits.TheConstants.{DEVICE_CHANNEL}
use Rattle.xp_text.specs.Lines.{Word, Line, after_word, accepted}
use Rattle.xp_text.specs.Numbers.{digits_of}
use Rattle.xp_text.specs.Payloads.{payload_of, at_most}
use Rattle.xp_forms.specs.declared.fault.LineCause.{LineCause}
use Rattle.xp_forms.specs.declared.fault.LineCause.TheVariants as causes
use Rattle.xp_forms.specs.declared.fault.WordFault.{WordFault}
use Rattle.xp_forms.specs.declared.fault.LineError.{LineError}
use Rattle.xp_forms.specs.declared.fault.LineError.TheVariants as errors

infixl 10 ◌>>=◌
abbrev pub ◌>>=◌ : {A B : Type 0}
    → Result A WordFault → (A → Result B WordFault) → Result B WordFault
(Ok x) >>= f = f x
(Err e) >>= f = Err e

-- what a word of digits may say
pub data Slot : Type 0 where
  -- a number of a range
  Number : ℕ → ℕ → Slot
  -- 0, or a number of a range
  Interval : ℕ → ℕ → Slot
  -- a partition below the count
  Part : ℕ → Slot
  -- a partition below the count, but not this one
  Other : ℕ → ℕ → Slot
  AnyChannel : Slot
  -- a channel on which scripts send and take messages
  MessageChannel : Slot
  -- a limit of payloads up to the longest, where a queue has room for so many entries of it
  Limit : ℕ → ℕ → Slot

-- the number of a word that may stand here, or else the cause
abbrev pub within : Bool → ℕ → LineCause → Result ℕ LineCause
within b n cause = if b then Ok n else Err cause

abbrev pub field : Slot → Option ℕ → Result ℕ LineCause
field s None = Err causes.Number
field (Number low high) (Some n) = within (nat_le low n && nat_le n high) n causes.Number
field (Interval low high) (Some n) =
    within (n == 0 || (nat_le low n && nat_le n high)) n causes.Number
field (Part count) (Some n) = within (nat_lt n count) n causes.Partition
field (Other count own) (Some n) = within (nat_lt n count && not (n == own)) n causes.Partition
field AnyChannel (Some n) = within (nat_lt n CHANNELS) n causes.Channel
field MessageChannel (Some n) =
    within (nat_lt n CHANNELS && not (n == DEVICE_CHANNEL)) n causes.Channel
field (Limit longest entries) (Some n) =
    within (nat_le n longest && nat_le (entries * lines n) LINES) n causes.Number

-- the kind of copies that a word names
abbrev pub kind_of : List ℕ → Result CopyKind LineCause
kind_of w =
    if bytes_eq w (copy_text kinds.Page) then Ok kinds.Page
    else if bytes_eq w (copy_text kinds.Beat) then Ok kinds.Beat
    else if bytes_eq w (copy_text kinds.Record) then Ok kinds.Record
    else if bytes_eq w (copy_text kinds.Args) then Ok kinds.Args
    else if bytes_eq w (copy_text kinds.Counters) then Ok kinds.Counters
    else if bytes_eq w (copy_text kinds.Get) then Ok kinds.Get
    else if bytes_eq w (copy_text kinds.Entries) then Ok kinds.Entries
    else if bytes_eq w (copy_text kinds.Buffer) then Ok kinds.Buffer
    else Err causes.Word

-- bytes that are kept, or else only looked at
abbrev pub kept : Bool → List ℕ → List ℕ
kept keep bytes = if keep then bytes else []

-- the payload of a word that spells at least so many bytes; it is [] where it isn't to be kept
abbrev pub sized : Bool → ℕ → Option (List ℕ) → Result (List ℕ) LineCause
sized keep least None = Err causes.Payload
sized keep least (Some bytes) =
    if nat_le least (length bytes) then Ok (kept keep bytes) else Err causes.Payload

pub data Form (A : Type 0) : Type 0 where
  -- the line ends, and says this; another word has the cause
  End : LineCause → A → Form A
  -- the line may not end; a word here has the cause
  Never : LineCause → Form A
  -- a word of digits, and the form after it
  Field : Slot → (ℕ → Form A) → Form A
  -- the name of a kind of copies
  Kind : (CopyKind → Form A) → Form A
  -- a payload, kept or not, from so many bytes to so many
  Bytes : Bool → ℕ → ℕ → (List ℕ → Form A) → Form A
  -- this word and the form after it, or else the other form
  Choice : List ℕ → Form A → Form A → Form A
  -- what is wrong with the word before, where the test passes
  Unless : Bool → LineCause → Form A → Form A
  -- the number of the next word, where it is one, which isn't read yet
  Peek : (Option ℕ → Form A) → Form A

-- ---- reading

abbrev pub bad : {A : Type 0} → ℕ → LineCause → Result A WordFault
bad column cause = Err (record { column = column; cause = cause })

abbrev pub is_ascii : List ℕ → Bool
is_ascii bytes = list_all (λ b. nat_lt b 128) bytes

-- the next word; a byte above 127 makes it unknown, whatever else holds of it
abbrev pub word_from : List Word → Line → Result (List ℕ × Line) WordFault
word_from [] line = bad line.end causes.Missing
word_from (w ∷ ws) line =
    if is_ascii w.bytes then Ok (w.bytes, after_word line ws w.column) else bad w.column causes.Word

unfoldable pub next_word : Line → Result (List ℕ × Line) WordFault
next_word line = word_from line.words line

-- what the last word says
abbrev pub at_last : {A : Type 0} → Line → Result A LineCause → Result (A × Line) WordFault
at_last line (Ok x) = Ok (x, line)
at_last line (Err cause) = bad line.last cause

unfoldable pub next_field : Slot → Line → Result (ℕ × Line) WordFault
next_field s line = next_word line >>= λ x. at_last x.1 (field s (digits_of x.0))

unfoldable pub next_kind : Line → Result (CopyKind × Line) WordFault
next_kind line = next_word line >>= λ x. at_last x.1 (kind_of x.0)

unfoldable pub next_bytes : Bool → ℕ → ℕ → Line → Result (List ℕ × Line) WordFault
next_bytes keep least most line =
    next_word line >>= λ x. at_last x.1 (sized keep least (at_most most (payload_of x.0)))

-- what is wrong where a word stands that may not, or where the line may not end
abbrev pub refused_from : List Word → LineCause → Line → WordFault
refused_from [] cause line = record { column = line.end; cause = causes.Missing }
refused_from (w ∷ ws) cause line =
    record { column = w.column; cause = if is_ascii w.bytes then cause else causes.Word }

unfoldable pub refused : LineCause → Line → WordFault
refused cause line = refused_from line.words cause line

-- the line ends here; another word has the cause
abbrev pub end_from : List Word → LineCause → Line → Result LineCause WordFault
end_from [] cause line = Ok cause
end_from (w ∷ ws) cause line = Err (refused cause line)

unfoldable pub end_of : LineCause → Line → Result LineCause WordFault
end_of cause line = end_from line.words cause line

abbrev pub chosen : {A : Type 0}
    → Option Line → (Line → Result A WordFault) → Result A WordFault → Result A WordFault
chosen (Some line) f other = f line
chosen None f other = other

-- the number, where it has 64 bits
abbrev pub small : Option ℕ → Option ℕ
small None = None
small (Some n) = if nat_lt n 18446744073709551616 then Some n else None

abbrev pub number_from : List Word → Option ℕ
number_from [] = None
number_from (w ∷ ws) = small (digits_of w.bytes)

-- the number of the next word, where it is one of 64 bits
unfoldable pub peeked : Line → Option ℕ
peeked line = number_from line.words

-- what a line of this form says
abbrev pub reads : {A : Type 0} → Form A → Line → Result A WordFault
reads (End cause x) line = end_of cause line >>= λ _. Ok x
reads (Never cause) line = Err (refused cause line)
reads (Field s f) line = next_field s line >>= λ x. reads (f x.0) x.1
reads (Kind f) line = next_kind line >>= λ x. reads (f x.0) x.1
reads (Bytes keep least most f) line =
    next_bytes keep least most line >>= λ x. reads (f x.0) x.1
reads (Choice word f g) line = chosen (accepted word line) (reads f) (reads g line)
reads (Unless wrong cause f) line = if wrong then bad line.last cause else reads f line
reads (Peek f) line = reads (f (peeked line)) line

-- ---- short forms

abbrev pub ends : {A : Type 0} → A → Form A
ends x = End causes.Extra x

-- the line may end here, where an optional word could stand too
abbrev pub may_end : {A : Type 0} → A → Form A
may_end x = End causes.Word x

-- this word, and the form after it
abbrev pub word : {A : Type 0} → List ℕ → Form A → Form A
word w f = Choice w f (Never causes.Word)

-- any number of 64 bits
abbrev pub any : Slot
any = Number 0 18446744073709551615

-- any number of 64 bits but 0
abbrev pub positive : Slot
positive = Number 1 18446744073709551615

-- ---- what a reader of the program gives

-- a fault is that of the definition; want of memory may stand in its place
abbrev pub Fails : {Y : Type 0} → LineError → Result Y WordFault → Type 0
Fails errors.Memory read = Unit {0}
Fails (errors.Fault f) read = read ≡ Err f

abbrev pub Gives : {X Y : Type 0} → (X → Y) → Result X LineError → Result Y WordFault → Type 0
Gives view (Ok x) read = read ≡ Ok (view x)
Gives view (Err e) read = Fails e read

-- a reader gives what a line of this form says
abbrev pub Says : {A : Type 0} → Result A LineError → Form A → Line → Type 0
Says result form line = Gives (λ x. x) result (reads form line)
