-- What it is to read an image: its words stand in the bytes, the lowest byte of each first, and
-- either all are there and allowed, or there is a first one that isn't.
use Rattle.std.specs.Prelude.{◌≡◌, ℕ, zero, suc, ◌+◌, ◌*◌, ◌<◌, ◌≤◌, true, false, List, [], ◌∷◌, length, get_or, Result, Ok, Err, ◌⊎◌}
use Rattle.std.specs.List.{flat_map}
use Rattle.byteorder.specs.Endian.{little_from, little_bytes}
use Rattle.xp_page.specs.declared.grammar.Row.{Row}
use Rattle.xp_page.specs.declared.grammar.PageFault.{PageFault}
use Rattle.xp_page.specs.declared.grammar.PageCause.TheVariants.{Truncated}
use Rattle.xp_page.specs.Grammar.{allows, any}

-- word k of some bytes
unfoldable pub word_in : List ℕ → ℕ → ℕ
word_in bytes k = little_from (8 * k) 8 bytes

-- n words from word k on
abbrev pub words_in : List ℕ → ℕ → ℕ → List ℕ
words_in bytes k zero = []
words_in bytes k (suc n) = word_in bytes k ∷ words_in bytes (k + 1) n

-- the bytes of some words
unfoldable pub bytes_of_words : List ℕ → List ℕ
bytes_of_words words = flat_map (little_bytes 8) words

abbrev pub row_at : List Row → ℕ → Row
row_at rows k = get_or rows k any

-- the first n words are there, and each is allowed
abbrev pub AllowedTo : List Row → List ℕ → ℕ → Type 0
AllowedTo rows bytes n = (k : ℕ) → k < n → (8 * k + 8 ≤ length bytes)
    × (allows (row_at rows k).allowed (word_in bytes k) ≡ true)

-- word k is there and isn't allowed: the fault stands at its first byte, and has its cause
abbrev pub IsRefused : List Row → ℕ → List ℕ → ℕ → PageFault → Type 0
IsRefused rows offset bytes k fault =
    (8 * k + 8 ≤ length bytes) × (allows (row_at rows k).allowed (word_in bytes k) ≡ false)
    × (fault ≡ record { offset = offset + 8 * k; cause = (row_at rows k).cause })

-- word k isn't whole: the fault stands at the end
abbrev pub IsCut : ℕ → List ℕ → ℕ → PageFault → Type 0
IsCut offset bytes k fault = (length bytes < 8 * k + 8)
    × (fault ≡ record { offset = offset + length bytes; cause = Truncated })

-- the first fault of bytes that stand from an offset on
pub record IsFirstFault (rows : List Row) (offset : ℕ) (bytes : List ℕ)
    (fault : PageFault) : Type 0 where
  pub word : ℕ
  pub within : word < length rows
  pub before : AllowedTo rows bytes word
  pub here : IsRefused rows offset bytes word fault ⊎ IsCut offset bytes word fault

-- what a read of these bytes answers: the image of their words where all are allowed, else the
-- first fault
abbrev pub IsReadOf : {X : Type 0} → (X → List ℕ) → List Row → ℕ → List ℕ → Result X PageFault
    → Type 0
IsReadOf words rows offset bytes (Ok x) = AllowedTo rows bytes (length rows)
    × (words x ≡ words_in bytes 0 (length rows))
IsReadOf words rows offset bytes (Err fault) = IsFirstFault rows offset bytes fault

-- the words are an image of the table
abbrev pub IsOf : List Row → List ℕ → Type 0
IsOf rows words = (k : ℕ) → k < length rows
    → allows (row_at rows k).allowed (get_or words k 0) ≡ true
