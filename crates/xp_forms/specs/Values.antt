-- What the lines of a form can say, whatever their words are.
use Rattle.std.specs.Prelude.{◌≡◌, ◌≢◌, ℕ, ◌*◌, ◌<◌, ◌≤◌, ◌^◌, false, ◌⊎◌, List, length, slice_index, Option, Some, None}
use Rattle.xp_base.specs.declared.layout.TheConstants.{CHANNELS, LINES}
use Rattle.xp_base.specs.declared.step.CopyKind.{CopyKind}
use Rattle.xp_base.specs.Entries.{lines}
use Rattle.xp_script.specs.declared.limits.TheConstants.{DEVICE_CHANNEL}
use Rattle.xp_forms.specs.Forms.{Slot, Form, kept, small}
use Rattle.xp_forms.specs.Forms.Slot.{Number, Interval, Part, Other, AnyChannel, MessageChannel, Limit}
use Rattle.xp_forms.specs.Forms.Form.{End, Never, Field, Kind, Bytes, Choice, Unless, Peek}

-- a number that a word may say
abbrev pub IsIn : Slot → ℕ → Type 0
IsIn (Number low high) n = (low ≤ n) × (n ≤ high)
IsIn (Interval low high) n = (n ≡ 0) ⊎ ((low ≤ n) × (n ≤ high))
IsIn (Part count) n = n < count
IsIn (Other count own) n = (n < count) × (n ≢ own)
IsIn AnyChannel n = n < CHANNELS
IsIn MessageChannel n = (n < CHANNELS) × (n ≢ DEVICE_CHANNEL)
IsIn (Limit longest entries) n = (n ≤ longest) × (entries * lines n ≤ LINES)

-- a payload that a word may say
pub record IsPayload (least most : ℕ) (bytes : List ℕ) : Type 0 where
  pub low : least ≤ length bytes
  pub high : length bytes ≤ most
  pub each : (i : ℕ) → slice_index bytes i < 2 ^ 8

-- what is known of the number of the next word: nothing, or what was seen of it before it is read
abbrev pub Agrees : Option (Option ℕ) → ℕ → Type 0
Agrees None n = Unit {0}
Agrees (Some seen) n = small (Some n) ≡ seen

-- each value that a line of the form says has P
abbrev pub SaysOnly : {A : Type 0} → Option (Option ℕ) → (A → Type 0) → Form A → Type 0
SaysOnly known P (End cause x) = P x
SaysOnly known P (Never cause) = Unit {0}
SaysOnly known P (Field s f) = (n : ℕ) → IsIn s n → Agrees known n → SaysOnly None P (f n)
SaysOnly known P (Kind f) = (k : CopyKind) → SaysOnly None P (f k)
SaysOnly known P (Bytes keep least most f) =
    (bytes : List ℕ) → IsPayload least most bytes → SaysOnly None P (f (kept keep bytes))
SaysOnly known P (Choice word f g) = SaysOnly None P f × SaysOnly known P g
SaysOnly known P (Unless wrong cause f) = wrong ≡ false → SaysOnly known P f
SaysOnly known P (Peek f) = (seen : Option ℕ) → SaysOnly (Some seen) P (f seen)
