-- Which words stand in memory after a history that partitions make by the rules: of each kind those
-- that a dump may hold, as the table of dumps says.
use Rattle.std.specs.Prelude.{◌≡◌, ℕ, ◌*◌, ◌^◌, ◌<◌, ◌≤◌, true, [], length, slice_index_or}
use Rattle.xp_base.specs.declared.layout.TheConstants.{PARTS, CHANNELS, BUFFERS, OPEN_WORDS, VARIABLES_AT, ACTIVATION, RECORD_WORDS, ARGS_WORDS, COUNTER_WORDS, QUEUE_WORDS, BUFFER_WORDS, VERSION_AT, PART_WORDS}
use Rattle.xp_base.specs.Memory.{Memory, word_at}
use Rattle.xp_page.specs.Grammar.{allows}
use Rattle.xp_dump_table.specs.declared.layout.Layout.TheVariants.{Newer}
use Rattle.xp_dump_table.specs.declared.layout.Field.{Field}
use Rattle.xp_dump_table.specs.declared.layout.Field.TheVariants.{Open, Record, Flag, Args, Counter, Entry, Pool}
use Rattle.xp_dump_table.specs.declared.table.Part.{Part}
use Rattle.xp_dump_table.specs.Layouts.{place_of}
use Rattle.xp_dump_table.specs.Table.{row_of}

-- partition p in a dump of this memory
abbrev pub dumped_part : Memory → ℕ → Part
dumped_part m p =
    record { layout = Newer; owner = p; count = length m; version = word_at m p VERSION_AT }

-- the word of a field is one of 64 bits, and the field's row of the table allows it
pub record IsAllowed (m : Memory) (p : ℕ) (field : Field) : Type 0 where
  pub small : word_at m p (place_of Newer field) < 2 ^ 64
  pub allowed :
      allows (row_of (dumped_part m p) field).allowed (word_at m p (place_of Newer field)) ≡ true

-- the words of all partitions, kind by kind: those of the reserved page; the heartbeat count, the
-- heartbeat mask and the offline count; the activation, engagement and deactivation words with what
-- stands behind them; the records for partners, the flag words, the arguments, the counters, the
-- entries, and the pool of buffers
pub record AreAllAllowed (m : Memory) : Type 0 where
  pub least : 2 ≤ length m
  pub most : length m ≤ PARTS
  pub sized : (p : ℕ) → p < length m → length (slice_index_or m p []) ≡ PART_WORDS
  pub page : (p n : ℕ) → p < length m → n < VARIABLES_AT → IsAllowed m p (Open n)
  pub beats : (p n : ℕ) → p < length m → VARIABLES_AT ≤ n → n < ACTIVATION →
      IsAllowed m p (Open n)
  pub signals : (p n : ℕ) → p < length m → ACTIVATION ≤ n → n < OPEN_WORDS →
      IsAllowed m p (Open n)
  pub records : (p q f : ℕ) → p < length m → q < PARTS → f < RECORD_WORDS →
      IsAllowed m p (Record q f)
  pub flags : (p q : ℕ) → p < length m → q < PARTS → IsAllowed m p (Flag q)
  pub arguments : (p q c f : ℕ) → p < length m → q < PARTS → c < CHANNELS → f < ARGS_WORDS →
      IsAllowed m p (Args q c f)
  pub counters : (p q c f : ℕ) → p < length m → q < PARTS → c < CHANNELS → f < COUNTER_WORDS →
      IsAllowed m p (Counter q c f)
  pub entries : (p q c w : ℕ) → p < length m → q < PARTS → c < CHANNELS → w < QUEUE_WORDS →
      IsAllowed m p (Entry q c w)
  pub buffers : (p w : ℕ) → p < length m → w < BUFFER_WORDS * BUFFERS → IsAllowed m p (Pool w)
