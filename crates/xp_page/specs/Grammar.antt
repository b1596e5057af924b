-- Which words an image may hold: for each of its words, in order, what is allowed, and the cause
-- where it isn't. Words are counted from the image's first.
use Rattle.std.specs.Prelude.{ℕ, ◌+◌, ◌-◌, ◌*◌, ◌/◌, ◌%◌, ◌^◌, Bool, true, ◌&&◌, ◌||◌, ◌==◌, nat_le, nat_lt, List, [], ◌∷◌, replicate}
use Rattle.std.specs.Int.{bit_at}
use Rattle.xp_base.specs.Kinds.{spare_in}
use Rattle.xp_base.specs.Entries.{lines}
use Rattle.xp_base.specs.Places.{index_of, Flag, Args, Counter, Entry}
use Rattle.xp_base.specs.declared.body.TheConstants.{BODY_BYTES, LINE_BYTES}
use Rattle.xp_base.specs.declared.layout.TheConstants.{CHANNELS, LINES, VARIABLES_AT, RECORDS_AT, SIGNATURE, VERSION_BASE, VERSION_END, FIRST, SECOND}
use Rattle.xp_base.specs.declared.layout.TheConstants.{REQUEST_ENTRY, LENGTH_MARK}
use Rattle.xp_page.specs.declared.grammar.TheConstants.{GREATEST_REASON}
use Rattle.xp_page.specs.declared.entry.TheConstants.{PAYLOAD_WORDS}
use Rattle.xp_page.specs.declared.grammar.Allowed.{Allowed}
use Rattle.xp_page.specs.declared.grammar.Allowed.TheVariants.{Any, Only, ZeroOr, Between, Magic as OneMagic, AllOf, Others, Request, LineRequest, Length as LengthWord, FlagBits as Flags}
use Rattle.xp_page.specs.declared.grammar.PageCause.{PageCause}
use Rattle.xp_page.specs.declared.grammar.PageCause.TheVariants.{Signature, Version, Magic, Mask, Length, Address, Reason, Value}
use Rattle.xp_page.specs.declared.grammar.Row.{Row}
use Rattle.xp_page.specs.declared.image.At.{At}

-- entries of a limit that a body may have: 1 to 8, and their lines fit the queue
abbrev pub are_entries : ℕ → ℕ → Bool
are_entries entries limit = nat_le limit BODY_BYTES
    && (nat_le 1 entries && (nat_le entries LINES && nat_le (entries * lines limit) LINES))

-- a request to open: 0, or a limit and above it the entries
abbrev pub is_request : ℕ → Bool
is_request w = (w == 0) || are_entries (w / REQUEST_ENTRY) (w % REQUEST_ENTRY)

-- a request to open of the older layout, in which an entry had one line
abbrev pub is_line_request : ℕ → Bool
is_line_request w = (w == 0)
    || (nat_le (w % REQUEST_ENTRY) LINE_BYTES
    && (nat_le 1 (w / REQUEST_ENTRY) && nat_le (w / REQUEST_ENTRY) LINES))

-- no spare bit of the four channels' bytes is set
abbrev pub no_spare : ℕ → Bool
no_spare w = (spare_in w 0 == 0)
    && ((spare_in w 1 == 0) && ((spare_in w 2 == 0) && (spare_in w 3 == 0)))

abbrev pub allows : Allowed → ℕ → Bool
allows Any w = true
allows (Only x) w = w == x
allows (ZeroOr x) w = (w == 0) || (w == x)
allows (Between low high) w = nat_le low w && nat_le w high
allows OneMagic w = (w == 0) || ((w == FIRST) || (w == SECOND))
allows (AllOf count) w = w == 2 ^ count - 1
allows (Others count owner) w = (w / 2 ^ count == 0) && (bit_at w owner == 0)
allows Request w = is_request w
allows LineRequest w = is_line_request w
allows LengthWord w = (w == 0) || (nat_le LENGTH_MARK w && nat_le w (LENGTH_MARK + LINE_BYTES))
allows Flags w = nat_lt w (256 ^ CHANNELS) && no_spare w

abbrev pub row : Allowed → PageCause → Row
row allowed cause = record { allowed = allowed; cause = cause }

-- a word that may be any
abbrev pub any : Row
any = row Any Value

-- the reserved page, words 0 to 7: the signature, the version, the owner, the place of the
-- variables, the boot stamp, the mask of all partitions, and two zeros
abbrev pub page_table : At → List Row
page_table at =
    row (Only SIGNATURE) Signature ∷ row (Between VERSION_BASE (VERSION_END - 1)) Version
    ∷ row (Only at.owner) Value ∷ row (Only VARIABLES_AT) Address
    ∷ row (Between 0 (2 ^ 32 - 1)) Value ∷ row (AllOf at.count) Mask ∷ row (Only 0) Value
    ∷ row (Only 0) Value ∷ []

-- the bits of other partitions
abbrev pub others : At → Row
others at = row (Others at.count at.owner) Mask

-- the variables, words 8 to 15: the heartbeat count and mask, the offline count, the activation,
-- engagement and deactivation words, the place of the records, and a zero
abbrev pub vars_table : At → List Row
vars_table at = any ∷ others at ∷ any ∷ others at ∷ others at ∷ others at
    ∷ row (Only RECORDS_AT) Address ∷ row (Only 0) Value ∷ []

-- the record for a partner: magic, session, echo, the places of the arguments, of the counters and
-- of the flag word, the number of channels, and a zero
abbrev pub record_table : At → List Row
record_table at =
    row OneMagic Magic ∷ any ∷ any ∷ row (ZeroOr (index_of (Args at.partner 0 0))) Address
    ∷ row (ZeroOr (index_of (Counter at.partner 0 0))) Address
    ∷ row (ZeroOr (index_of (Flag at.partner))) Address ∷ row (ZeroOr CHANNELS) Value
    ∷ row (Only 0) Value ∷ []

-- the arguments of a channel: the request to open, the reply, the reason to close, and a zero
abbrev pub args_table : At → List Row
args_table at =
    row Request Length ∷ row (ZeroOr (index_of (Entry at.partner at.channel 0))) Address
    ∷ row (Between 0 GREATEST_REASON) Reason ∷ row (Only 0) Value ∷ []

-- the counters of a channel: get and put
abbrev pub rows_of_counters : List Row
rows_of_counters = any ∷ any ∷ []

abbrev pub counters_table : At → List Row
counters_table at = rows_of_counters

-- an entry of one line: its length, its number, and the words of its payload
abbrev pub rows_of_entry : List Row
rows_of_entry = row LengthWord Length ∷ any ∷ replicate PAYLOAD_WORDS any

abbrev pub entry_table : At → List Row
entry_table at = rows_of_entry
