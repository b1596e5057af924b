-- Where the words of a partition stand in a dump, in the layout that has room for eight partners
-- and in that for 64.
use Rattle.std.specs.Prelude.{ℕ, ◌+◌, ◌-◌, ◌*◌, ◌/◌, ◌%◌, ◌<◌, if◌then◌else◌, nat_lt}
use Rattle.xp_base.specs.declared.layout.TheConstants.{PARTS, CHANNELS, BUFFERS, OPEN_WORDS, RECORD_WORDS, ARGS_WORDS, COUNTER_WORDS, QUEUE_WORDS, BUFFER_WORDS, RECORDS_AT}
use Rattle.xp_dump_table.specs.declared.layout.TheConstants.{OLDER_PARTS}
use Rattle.xp_dump_table.specs.declared.layout.Layout.{Layout}
use Rattle.xp_dump_table.specs.declared.layout.Layout.TheVariants.{Older, Newer}
use Rattle.xp_dump_table.specs.declared.layout.Field.{Field}
use Rattle.xp_dump_table.specs.declared.layout.Field.TheVariants.{Open, Record, Flag, Args, Counter, Entry, Pool}

-- for how many partners there is room
abbrev pub room : Layout → ℕ
room Older = OLDER_PARTS
room Newer = PARTS

-- where each kind of words begins
abbrev pub flags_at : Layout → ℕ
flags_at l = RECORDS_AT + RECORD_WORDS * room l

abbrev pub args_at : Layout → ℕ
args_at l = flags_at l + room l

abbrev pub counters_at : Layout → ℕ
counters_at l = args_at l + ARGS_WORDS * CHANNELS * room l

abbrev pub entries_at : Layout → ℕ
entries_at l = counters_at l + COUNTER_WORDS * CHANNELS * room l

abbrev pub pool_at : Layout → ℕ
pool_at l = entries_at l + QUEUE_WORDS * CHANNELS * room l

-- how many words a partition has
abbrev pub words_of : Layout → ℕ
words_of l = pool_at l + BUFFER_WORDS * BUFFERS

-- the field is one of the layout
abbrev pub IsField : Layout → Field → Type 0
IsField l (Open n) = n < OPEN_WORDS
IsField l (Record q f) = (q < room l) × (f < RECORD_WORDS)
IsField l (Flag q) = q < room l
IsField l (Args q c f) = (q < room l) × (c < CHANNELS) × (f < ARGS_WORDS)
IsField l (Counter q c f) = (q < room l) × (c < CHANNELS) × (f < COUNTER_WORDS)
IsField l (Entry q c w) = (q < room l) × (c < CHANNELS) × (w < QUEUE_WORDS)
IsField l (Pool w) = w < BUFFER_WORDS * BUFFERS

-- where a field stands
abbrev pub place_of : Layout → Field → ℕ
place_of l (Open n) = n
place_of l (Record q f) = RECORDS_AT + RECORD_WORDS * q + f
place_of l (Flag q) = flags_at l + q
place_of l (Args q c f) = args_at l + ARGS_WORDS * (CHANNELS * q + c) + f
place_of l (Counter q c f) = counters_at l + COUNTER_WORDS * (CHANNELS * q + c) + f
place_of l (Entry q c w) = entries_at l + QUEUE_WORDS * (CHANNELS * q + c) + w
place_of l (Pool w) = pool_at l + w

-- the field of word n from where its kind begins
abbrev record_at : ℕ → Field
record_at n = Record (n / RECORD_WORDS) (n % RECORD_WORDS)

abbrev arguments_at : ℕ → Field
arguments_at n = Args (n / ARGS_WORDS / CHANNELS) (n / ARGS_WORDS % CHANNELS) (n % ARGS_WORDS)

abbrev counter_at : ℕ → Field
counter_at n = Counter (n / COUNTER_WORDS / CHANNELS) (n / COUNTER_WORDS % CHANNELS)
    (n % COUNTER_WORDS)

abbrev entry_at : ℕ → Field
entry_at n = Entry (n / QUEUE_WORDS / CHANNELS) (n / QUEUE_WORDS % CHANNELS) (n % QUEUE_WORDS)

abbrev high_of : Layout → ℕ → Field
high_of l i = if nat_lt i (pool_at l) then entry_at (i - entries_at l) else Pool (i - pool_at l)

abbrev middle_of : Layout → ℕ → Field
middle_of l i = if nat_lt i (counters_at l) then arguments_at (i - args_at l)
    else (if nat_lt i (entries_at l) then counter_at (i - counters_at l) else high_of l i)

-- what the word at a place belongs to
unfoldable pub field_of : Layout → ℕ → Field
field_of l i =
    if nat_lt i OPEN_WORDS then Open i
    else (if nat_lt i (flags_at l) then record_at (i - RECORDS_AT)
    else (if nat_lt i (args_at l) then Flag (i - flags_at l) else middle_of l i))
