-- Which bytes are a dump, word by word: a header, the number of partitions, and the words of each
-- partition. What a word may be depends on the words before it alone. Words are counted from 0.
use Rattle.std.specs.Prelude.{◌≡◌, ℕ, ◌+◌, ◌-◌, ◌*◌, ◌/◌, ◌%◌, ◌^◌, ◌<◌, ◌≤◌, Bool, true, false, ◌||◌, ◌&&◌, ◌==◌, nat_le, nat_lt, if◌then◌else◌, List, [], ◌∷◌, length, slice_index_or}
use Rattle.std.specs.List.{concat}
use Rattle.xp_base.specs.declared.layout.TheConstants.{VERSION_AT, PART_WORDS, PARTS}
use Rattle.xp_base.specs.Memory.{Memory, word_at}
use Rattle.xp_page.specs.declared.grammar.Row.{Row}
use Rattle.xp_page.specs.declared.grammar.PageFault.{PageFault}
use Rattle.xp_page.specs.declared.grammar.PageCause.{PageCause}
use Rattle.xp_page.specs.declared.grammar.PageCause.TheVariants.{Truncated, Signature, Value}
use Rattle.xp_page.specs.Grammar.{allows}
use Rattle.xp_page.specs.Reading.{word_in, bytes_of_words}
use Rattle.xp_dump_table.specs.declared.layout.Layout.{Layout}
use Rattle.xp_dump_table.specs.declared.layout.Layout.TheVariants.{Older, Newer}
use Rattle.xp_dump_table.specs.Layouts.{room, words_of, field_of}
use Rattle.xp_dump_table.specs.Table.{row_of, memory_word}
use Rattle.xp_dump.specs.declared.writer.TheConstants.{OLDER_HEADER, NEWER_HEADER}
use Rattle.xp_dump.specs.declared.fault.DumpFault.{DumpFault}
use Rattle.xp_dump.specs.declared.fault.DumpFault.TheVariants.{Page, Trailing, Memory as NoMemory}

-- the bytes of the dump of a memory
abbrev pub dump_bytes : Memory → List ℕ
dump_bytes m = bytes_of_words (NEWER_HEADER ∷ length m ∷ concat m)

-- the words of a dump, by their number
abbrev pub Numbered : Type 0
Numbered = ℕ → ℕ

abbrev pub is_header : ℕ → Bool
is_header w = (w == OLDER_HEADER) || (w == NEWER_HEADER)

abbrev pub layout_of : ℕ → Layout
layout_of header = if header == OLDER_HEADER then Older else Newer

abbrev pub is_count : Layout → ℕ → Bool
is_count l n = nat_le 2 n && nat_le n (room l)

-- how many words a dump has by its first two
abbrev pub total : Numbered → ℕ
total f = 2 + words_of (layout_of (f 0)) * f 1

-- the number of a word of a partition
abbrev pub number_of : Layout → ℕ → ℕ → ℕ
number_of l owner index = 2 + words_of l * owner + index

-- whose word k is, and which of its words
abbrev pub owner_at : Layout → ℕ → ℕ
owner_at l k = (k - 2) / words_of l

abbrev pub index_at : Layout → ℕ → ℕ
index_at l k = (k - 2) % words_of l

-- the version word of the partition, once it came
abbrev pub version_before : Numbered → Layout → ℕ → ℕ → ℕ
version_before f l owner index =
    if nat_lt VERSION_AT index then f (number_of l owner VERSION_AT) else 0

-- what word `index` of a partition may be, of a dump with this layout and count
abbrev pub part_row : Layout → ℕ → ℕ → ℕ → ℕ → Row
part_row l count version owner index =
    row_of (record { layout = l; owner = owner; count = count; version = version })
    (field_of l index)

-- what word k of a partition may be
unfoldable pub row_at_word : Numbered → ℕ → Row
row_at_word f k =
    let l = layout_of (f 0) in
    part_row l (f 1) (version_before f l (owner_at l k) (index_at l k))
    (owner_at l k) (index_at l k)

abbrev pub word_allowed : Numbered → ℕ → Bool
word_allowed f k =
    if k == 0 then is_header (f 0)
    else (if k == 1 then is_count (layout_of (f 0)) (f 1)
    else allows (row_at_word f k).allowed (f k))

abbrev pub cause_at : Numbered → ℕ → PageCause
cause_at f k = if k == 0 then Signature else (if k == 1 then Value else (row_at_word f k).cause)

-- the first n words are allowed
abbrev pub AreAllowed : Numbered → ℕ → Type 0
AreAllowed f n = (k : ℕ) → k < n → word_allowed f k ≡ true

-- the first word that isn't allowed, and is one of the dump
pub record IsRefused (bytes : List ℕ) (fault : PageFault) : Type 0 where
  pub word : ℕ
  pub whole : 8 * word + 8 ≤ length bytes
  pub within : word < total (word_in bytes)
  pub before : AreAllowed (word_in bytes) word
  pub refused : word_allowed (word_in bytes) word ≡ false
  pub is : fault ≡ record { offset = 8 * word; cause = cause_at (word_in bytes) word }

-- the first byte behind a whole dump
pub record IsPast (bytes : List ℕ) (offset : ℕ) : Type 0 where
  pub before : AreAllowed (word_in bytes) (total (word_in bytes))
  pub past : 8 * total (word_in bytes) < length bytes
  pub is : offset ≡ 8 * total (word_in bytes)

-- the first fault of these bytes; want of memory may stand in place of any
abbrev pub IsFault : List ℕ → DumpFault → Type 0
IsFault bytes (Page fault) = IsRefused bytes fault
IsFault bytes (Trailing offset) = IsPast bytes offset
IsFault bytes NoMemory = Unit {0}

-- these bytes are a dump, or the first bytes of one
pub record IsFine (bytes : List ℕ) : Type 0 where
  pub allowed : (k : ℕ) → 8 * k + 8 ≤ length bytes → word_allowed (word_in bytes) k ≡ true
  pub within : length bytes ≤ 8 * total (word_in bytes)

-- bytes without a fault end too soon, and the fault says where
pub record IsCut (bytes : List ℕ) (fault : PageFault) : Type 0 where
  pub fine : IsFine bytes
  pub short : length bytes < 8 * total (word_in bytes)
  pub is : fault ≡ record { offset = length bytes; cause = Truncated }

-- the memory has the words of the dump: in the newer layout each at its place, in the older one
-- each where it stands in memory now
pub record AreWordsOf (f : Numbered) (m : Memory) : Type 0 where
  pub count : length m ≡ f 1
  pub sized : (o : ℕ) → o < length m → length (slice_index_or m o []) ≡ PART_WORDS
  pub words : (o i : ℕ) → o < length m → i < PART_WORDS
      → word_at m o i ≡ memory_word (layout_of (f 0)) (λ j. f (number_of (layout_of (f 0)) o j)) i

-- these bytes are a dump, and tell this memory
pub record IsDump (bytes : List ℕ) (m : Memory) : Type 0 where
  pub fine : IsFine bytes
  pub whole : length bytes ≡ 8 * total (word_in bytes)
  pub told : AreWordsOf (word_in bytes) m

-- the fault of bytes that end too soon
abbrev pub IsMissing : List ℕ → DumpFault → Type 0
IsMissing bytes (Page fault) = IsCut bytes fault
IsMissing bytes (Trailing offset) = ⊥
IsMissing bytes NoMemory = ⊥

-- a memory whose dump is in the grammar: words of 64 bits, 2 to 64 partitions, and each word
-- allowed in the newer layout
pub record IsInGrammar (m : Memory) : Type 0 where
  pub least : 2 ≤ length m
  pub most : length m ≤ PARTS
  pub sized : (o : ℕ) → o < length m → length (slice_index_or m o []) ≡ PART_WORDS
  pub small : (o i : ℕ) → word_at m o i < 2 ^ 64
  pub words : (o i : ℕ) → o < length m → i < PART_WORDS
      → allows (part_row Newer (length m) (word_at m o VERSION_AT) o i).allowed (word_at m o i)
      ≡ true
