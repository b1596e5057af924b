-- What each word of a partition in a dump may be: its field decides, and for some fields its
-- partition. And what stands in memory for the words of the older layout.
use Rattle.std.specs.Prelude.{ℕ, ◌-◌, ◌%◌, Bool, true, ◌&&◌, ◌==◌, nat_lt, if◌then◌else◌, List, [], ◌∷◌}
use Rattle.xp_base.specs.declared.layout.TheConstants.{CHANNELS, VARIABLES_AT, LINE_WORDS, LINES_VERSION}
use Rattle.xp_page.specs.declared.image.At.{At}
use Rattle.xp_page.specs.declared.grammar.Row.{Row}
use Rattle.xp_page.specs.declared.grammar.TheConstants.{GREATEST_REASON}
use Rattle.xp_page.specs.declared.grammar.Allowed.{Allowed}
use Rattle.xp_page.specs.declared.grammar.Allowed.TheVariants.{Only, ZeroOr, Between, Magic as OneMagic, Request, LineRequest, Length as LengthWord, FlagBits as Flags}
use Rattle.xp_page.specs.declared.grammar.PageCause.TheVariants.{Magic, FlagBits, Length, Address, Reason, Value}
use Rattle.xp_page.specs.Grammar.{row, any, page_table, vars_table}
use Rattle.xp_page.specs.Reading.{row_at}
use Rattle.xp_dump_table.specs.declared.layout.TheConstants.{OLDER_PARTS}
use Rattle.xp_dump_table.specs.declared.layout.Layout.{Layout}
use Rattle.xp_dump_table.specs.declared.layout.Layout.TheVariants.{Older, Newer}
use Rattle.xp_dump_table.specs.declared.layout.Field.{Field}
use Rattle.xp_dump_table.specs.declared.layout.Field.TheVariants.{Open, Record, Flag, Args, Counter, Entry, Pool}
use Rattle.xp_dump_table.specs.declared.table.Part.{Part}
use Rattle.xp_dump_table.specs.Layouts.{place_of, field_of}

-- the open words name no partner and no channel
abbrev pub at_of : Part → At
at_of p = record { offset = 0; owner = p.owner; count = p.count; partner = p.owner; channel = 0 }

abbrev pub open_row : Part → ℕ → Row
open_row p n = if nat_lt n VARIABLES_AT then row_at (page_table (at_of p)) n
    else row_at (vars_table (at_of p)) (n - VARIABLES_AT)

-- the place of a field, or 0
abbrev pub place_row : Layout → Field → Row
place_row l field = row (ZeroOr (place_of l field)) Address

-- the record for a partner: magic, session, echo, the places of the arguments, of the counters and
-- of the flag word, the number of channels, and a zero
abbrev pub record_table : Layout → ℕ → List Row
record_table l q =
    row OneMagic Magic ∷ any ∷ any ∷ place_row l (Args q 0 0) ∷ place_row l (Counter q 0 0)
    ∷ place_row l (Flag q) ∷ row (ZeroOr CHANNELS) Value ∷ row (Only 0) Value ∷ []

-- in the older layout entries have one line
abbrev pub request_of : Layout → Allowed
request_of Older = LineRequest
request_of Newer = Request

-- the arguments of a channel: the request to open, the reply, the reason to close, and a zero
abbrev pub args_table : Layout → ℕ → ℕ → List Row
args_table l q c = row (request_of l) Length ∷ place_row l (Entry q c 0)
    ∷ row (Between 0 GREATEST_REASON) Reason ∷ row (Only 0) Value ∷ []

-- whether each entry of the partition is known to have one line
abbrev pub has_lines : Layout → ℕ → Bool
has_lines Older version = true
has_lines Newer version = nat_lt version LINES_VERSION

-- the first word of an entry of one line tells a length
abbrev pub entry_row : Part → ℕ → Row
entry_row p w = if has_lines p.layout p.version && (w % LINE_WORDS == 0) then row LengthWord Length
    else any

abbrev pub row_of : Part → Field → Row
row_of p (Open n) = open_row p n
row_of p (Record q f) = row_at (record_table p.layout q) f
row_of p (Flag q) = row Flags FlagBits
row_of p (Args q c f) = row_at (args_table p.layout q c) f
row_of p (Counter q c f) = any
row_of p (Entry q c w) = entry_row p w
row_of p (Pool w) = any

-- the place that a word of this field names in memory; a word that names no place stays
abbrev pub named : Field → ℕ → ℕ
named (Record q f) w = if f == 3 then place_of Newer (Args q 0 0)
    else (if f == 4 then place_of Newer (Counter q 0 0)
    else (if f == 5 then place_of Newer (Flag q) else w))
named (Args q c f) w = if f == 1 then place_of Newer (Entry q c 0) else w
named (Open n) w = w
named (Flag q) w = w
named (Counter q c f) w = w
named (Entry q c f) w = w
named (Pool f) w = w

-- what stands in memory for a word of the older layout
abbrev pub moved_word : Field → ℕ → ℕ
moved_word field w = if w == 0 then 0 else named field w

-- whether the older layout has room for a field
abbrev pub has_room : Field → Bool
has_room (Open n) = true
has_room (Record q f) = nat_lt q OLDER_PARTS
has_room (Flag q) = nat_lt q OLDER_PARTS
has_room (Args q c f) = nat_lt q OLDER_PARTS
has_room (Counter q c f) = nat_lt q OLDER_PARTS
has_room (Entry q c w) = nat_lt q OLDER_PARTS
has_room (Pool w) = true

abbrev pub older_word : (ℕ → ℕ) → Field → ℕ
older_word words field = if has_room field then moved_word field (words (place_of Older field))
    else 0

-- the word at a place of memory, of a partition with these words in the dump
abbrev pub memory_word : Layout → (ℕ → ℕ) → ℕ → ℕ
memory_word Newer words i = words i
memory_word Older words i = older_word words (field_of Newer i)
