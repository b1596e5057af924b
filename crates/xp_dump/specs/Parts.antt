-- What a reader keeps of the partitions' words, and what the next word makes of it.
use Rattle.std.specs.Prelude.{◌≡◌, ℕ, ◌+◌, ◌<◌, ◌≤◌, true, ◌==◌, nat_lt, if◌then◌else◌, [], length, slice_index_or}
use Rattle.xp_base.specs.declared.layout.TheConstants.{VERSION_AT, PART_WORDS}
use Rattle.xp_base.specs.Memory.{Memory, word_at, put_at}
use Rattle.xp_page.specs.declared.grammar.Row.{Row}
use Rattle.xp_dump_table.specs.declared.layout.Layout.{Layout}
use Rattle.xp_dump_table.specs.declared.layout.Layout.TheVariants.{Older, Newer}
use Rattle.xp_dump_table.specs.Layouts.{room, words_of, field_of, place_of}
use Rattle.xp_dump_table.specs.Table.{memory_word, moved_word}
use Rattle.xp_dump.specs.declared.parts.Parts.{Parts}
use Rattle.xp_dump.specs.Grammar.{Numbered, is_header, is_count, layout_of, number_of, version_before, part_row, AreAllowed}

-- a word of some partition comes next
pub record IsOpen (p : Parts) : Type 0 where
  pub owner : p.owner < length p.words
  pub count : length p.words ≤ room p.layout
  pub index : p.index < words_of p.layout

-- what the next word may be
abbrev pub row_next : Parts → Row
row_next p = part_row p.layout (length p.words) p.version p.owner p.index

-- a word of the dump in memory: of the older layout it moves
abbrev pub stored : Layout → Memory → ℕ → ℕ → ℕ → Memory
stored Older m owner index word = put_at m owner (place_of Newer (field_of Older index))
    (moved_word (field_of Older index) word)
stored Newer m owner index word = put_at m owner index word

abbrev pub kept : Parts → ℕ → Parts
kept p word = record p { words = stored p.layout p.words p.owner p.index word }

-- the next word of the partition, or the first one of the next partition
abbrev pub advanced : Parts → ℕ → Parts
advanced p word =
    if p.index + 1 == words_of p.layout
    then record p { owner = p.owner + 1; index = 0; version = 0 }
    else record p {
      index = p.index + 1;
      version = if p.index == VERSION_AT then word
          else p.version;
    }

abbrev pub after_word : Parts → ℕ → Parts
after_word p word = advanced (kept p word) word

-- how many words of the dump came before
abbrev pub taken_in : Parts → ℕ
taken_in p = number_of p.layout p.owner p.index

-- word k where it came, else 0
abbrev pub known : Numbered → ℕ → ℕ → ℕ
known f n k = if nat_lt k n then f k else 0

-- the words that came are those of a dump
pub record AreKept (f : Numbered) (p : Parts) : Type 0 where
  pub header : is_header (f 0) ≡ true
  pub layout : p.layout ≡ layout_of (f 0)
  pub count : length p.words ≡ f 1
  pub counted : is_count (layout_of (f 0)) (f 1) ≡ true
  pub owner : p.owner ≤ length p.words
  pub index : p.index < words_of p.layout
  pub last : p.owner ≡ length p.words → p.index ≡ 0
  pub allowed : AreAllowed f (taken_in p)
  pub version : p.version ≡ version_before f p.layout p.owner p.index
  pub sized : (o : ℕ) → o < length p.words → length (slice_index_or p.words o []) ≡ PART_WORDS
  pub words : (o i : ℕ) → o < length p.words → i < PART_WORDS
      → word_at p.words o i ≡ memory_word p.layout
      (λ j. known f (taken_in p) (number_of p.layout o j)) i
