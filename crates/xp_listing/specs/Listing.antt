-- The listing of words, a definition for each kind of line. Words that aren't 0 have lines; masks
-- print in hexadecimal, all else in decimal. A partner's channels, and their entries, are counted
-- through all partners.
use Rattle.std.specs.Prelude.{ℕ, zero, suc, ◌+◌, ◌*◌, ◌/◌, ◌%◌, false, ◌&&◌, ◌==◌, nat_lt, nat_le, is_some, if◌then◌else◌, List, [], ◌∷◌, length, slice_index, codes, map}
use Rattle.std.specs.Fmt.{decimal, digits}
use Rattle.std.specs.List.{range_with_len}
use Rattle.xp_base.specs.declared.layout.TheConstants.{PARTS, CHANNELS, LINES, LINE_WORDS, LINES_VERSION, VERSION_AT, STAMP, PARTS_MASK_AT, BEAT, MASK, OFFLINE, ACTIVATION, ENGAGED, DEACTIVATION, FIRST}
use Rattle.xp_base.specs.declared.body.TheConstants.{LINE_BYTES}
use Rattle.xp_base.specs.declared.session.Session.{Session}
use Rattle.xp_base.specs.declared.link.Kind.{Kind}
use Rattle.xp_base.specs.declared.link.Kind.TheVariants.{CloseRequest, CloseReply, OpenRequest, OpenReply, OpenComplete, MsgRequest}
use Rattle.xp_base.specs.Memory.{Memory, word_at}
use Rattle.xp_base.specs.Places.{index_of, Record, Flag, Args as ArgsAt, Counter, Entry}
use Rattle.xp_base.specs.Sessions.{session_of}
use Rattle.xp_base.specs.Kinds.{Kinds, has, kinds_in, spare_in, next_of, kind_text}
use Rattle.xp_base.specs.Entries.{body_of}
use Rattle.xp_base.specs.Show.{◌⧺◌, payload_text}
use Rattle.xp_base.specs.declared.layout.TheConstants.{REQUEST_ENTRY, LENGTH_MARK}
use Rattle.xp_listing.specs.declared.area.Args.{Args}
use Rattle.xp_listing.specs.declared.area.TheConstants.{AREA_CHANNELS}
use Rattle.xp_listing.specs.declared.entries.TheConstants.{AREA_ENTRIES}
use Rattle.xp_listing.specs.declared.open.Vars.{Vars}

abbrev pub line_end : List ℕ
line_end = 10 ∷ []

abbrev pub hexadecimal : ℕ → List ℕ
hexadecimal n = digits 16 false n

-- n lines, from line k on
unfoldable pub each : (ℕ → List ℕ) → ℕ → ℕ → List ℕ
each line k zero = []
each line k (suc n) = line k ⧺ each line (k + 1) n

-- the reserved page: the version's major and minor number, the boot stamp and the mask of all
-- partitions
unfoldable pub page_text : ℕ → ℕ → ℕ → ℕ → List ℕ
page_text owner version stamp partitions =
    codes "partition " ⧺ decimal owner
    ⧺ codes " version " ⧺ decimal (version / 16) ⧺ codes "." ⧺ decimal (version % 16)
    ⧺ codes " stamp " ⧺ decimal stamp ⧺ codes " partitions " ⧺ hexadecimal partitions ⧺ line_end

abbrev pub partition_line : Memory → ℕ → List ℕ
partition_line m o =
    page_text o (word_at m o VERSION_AT) (word_at m o STAMP) (word_at m o PARTS_MASK_AT)

-- the variables
unfoldable pub beat_text : Vars → List ℕ
beat_text v =
    codes "  vars beat " ⧺ decimal v.beat
    ⧺ codes " mask " ⧺ hexadecimal v.mask ⧺ codes " offline " ⧺ decimal v.offline

unfoldable pub masks_text : Vars → List ℕ
masks_text v =
    codes " activation " ⧺ hexadecimal v.activation
    ⧺ codes " engaged " ⧺ hexadecimal v.engaged
    ⧺ codes " deactivate " ⧺ hexadecimal v.deactivation ⧺ line_end

abbrev pub vars_text : Vars → List ℕ
vars_text v = beat_text v ⧺ masks_text v

abbrev pub vars_line : Memory → ℕ → List ℕ
vars_line m o =
    vars_text (record {
      beat = word_at m o BEAT;
      mask = word_at m o MASK;
      offline = word_at m o OFFLINE;
      activation = word_at m o ACTIVATION;
      engaged = word_at m o ENGAGED;
      deactivation = word_at m o DEACTIVATION;
    })

-- a record: its magic's name, its session and its echo, each by stamp and count
abbrev pub magic_text : ℕ → List ℕ
magic_text magic = if magic == FIRST then codes "first" else codes "second"

unfoldable pub record_text : ℕ → List ℕ → Session → Session → List ℕ
record_text q name session echo =
    codes "  record " ⧺ decimal q ⧺ codes " " ⧺ name
    ⧺ codes " session " ⧺ decimal session.stamp ⧺ codes "." ⧺ decimal session.count
    ⧺ codes " echo " ⧺ decimal echo.stamp ⧺ codes "." ⧺ decimal echo.count ⧺ line_end

abbrev pub record_word : Memory → ℕ → ℕ → ℕ → ℕ
record_word m o q f = word_at m o (index_of (Record q f))

abbrev pub record_line : Memory → ℕ → ℕ → List ℕ
record_line m o q =
    if record_word m o q 0 == 0 then []
    else record_text q (magic_text (record_word m o q 0))
    (session_of (record_word m o q 1)) (session_of (record_word m o q 2))

abbrev pub records_text : Memory → ℕ → List ℕ
records_text m o = each (record_line m o) 0 PARTS

-- the partner of a channel, and which of its channels that is
abbrev pub partner_at : ℕ → ℕ
partner_at i = i / CHANNELS

abbrev pub channel_at : ℕ → ℕ
channel_at i = i % CHANNELS

-- the flags of a channel, by their names in the order of their bits
abbrev pub all_kinds : List Kind
all_kinds = CloseRequest ∷ CloseReply ∷ OpenRequest ∷ OpenReply ∷ OpenComplete ∷ MsgRequest ∷ []

abbrev pub kind_name : Kinds → Kind → List ℕ
kind_name set kind = if has kind set then codes " " ⧺ kind_text kind else []

abbrev pub kind_names : Kinds → List Kind → List ℕ
kind_names set [] = []
kind_names set (kind ∷ kinds) = kind_name set kind ⧺ kind_names set kinds

unfoldable pub flags_start : ℕ → ℕ → List ℕ
flags_start q c = codes "  flags " ⧺ decimal q ⧺ codes " " ⧺ decimal c

abbrev pub flags_text : ℕ → ℕ → Kinds → List ℕ
flags_text q c set = flags_start q c ⧺ kind_names set all_kinds ⧺ line_end

abbrev pub set_line : ℕ → ℕ → ℕ → List ℕ
set_line q c word =
    if (spare_in word c == 0) && is_some (next_of false (kinds_in word c))
    then flags_text q c (kinds_in word c)
    else []

abbrev pub flags_line : Memory → ℕ → ℕ → List ℕ
flags_line m o i =
    set_line (partner_at i) (channel_at i) (word_at m o (index_of (Flag (partner_at i))))

abbrev pub all_flags_text : Memory → ℕ → List ℕ
all_flags_text m o = each (flags_line m o) 0 AREA_CHANNELS

-- the arguments of a channel: the entries and the limit of the request, the place of the reply and
-- the reason's code
unfoldable pub args_text : ℕ → ℕ → Args → List ℕ
args_text q c args =
    codes "  args " ⧺ decimal q ⧺ codes " " ⧺ decimal c
    ⧺ codes " entries " ⧺ decimal (args.request / REQUEST_ENTRY)
    ⧺ codes " limit " ⧺ decimal (args.request % REQUEST_ENTRY)
    ⧺ codes " queue " ⧺ decimal args.reply ⧺ codes " reason " ⧺ decimal args.reason ⧺ line_end

abbrev pub args_at : Memory → ℕ → ℕ → Args
args_at m o i =
    record {
      request = word_at m o (index_of (ArgsAt (partner_at i) (channel_at i) 0));
      reply = word_at m o (index_of (ArgsAt (partner_at i) (channel_at i) 1));
      reason = word_at m o (index_of (ArgsAt (partner_at i) (channel_at i) 2));
    }

abbrev pub arguments_line : ℕ → Args → List ℕ
arguments_line i args =
    if (args.request == 0) && ((args.reply == 0) && (args.reason == 0)) then []
    else args_text (partner_at i) (channel_at i) args

abbrev pub args_line : Memory → ℕ → ℕ → List ℕ
args_line m o i = arguments_line i (args_at m o i)

abbrev pub all_args_text : Memory → ℕ → List ℕ
all_args_text m o = each (args_line m o) 0 AREA_CHANNELS

-- the counters of a channel
unfoldable pub counters_text : ℕ → ℕ → ℕ → ℕ → List ℕ
counters_text q c get put =
    codes "  counters " ⧺ decimal q ⧺ codes " " ⧺ decimal c
    ⧺ codes " get " ⧺ decimal get ⧺ codes " put " ⧺ decimal put ⧺ line_end

abbrev pub counter_word : Memory → ℕ → ℕ → ℕ → ℕ
counter_word m o i f = word_at m o (index_of (Counter (partner_at i) (channel_at i) f))

abbrev pub counters_line : Memory → ℕ → ℕ → List ℕ
counters_line m o i =
    if (counter_word m o i 0 == 0) && (counter_word m o i 1 == 0) then []
    else counters_text (partner_at i) (channel_at i)
    (counter_word m o i 0) (counter_word m o i 1)

abbrev pub all_counters_text : Memory → ℕ → List ℕ
all_counters_text m o = each (counters_line m o) 0 AREA_CHANNELS

-- the words of an entry of one line
abbrev pub entry_words : Memory → ℕ → ℕ → List ℕ
entry_words m o i =
    map
    (λ f. word_at m o (index_of
    (Entry (partner_at (i / LINES)) (channel_at (i / LINES)) (LINE_WORDS * (i % LINES) + f))))
    (range_with_len 0 LINE_WORDS)

unfoldable pub entry_start : ℕ → ℕ → List ℕ
entry_start i number =
    codes "  entry " ⧺ decimal (partner_at (i / LINES))
    ⧺ codes " " ⧺ decimal (channel_at (i / LINES)) ⧺ codes " " ⧺ decimal (i % LINES)
    ⧺ codes " number " ⧺ decimal number ⧺ codes " "

-- an entry: its message's number, and its payload
abbrev pub entry_text : ℕ → List ℕ → List ℕ
entry_text i words = entry_start i (slice_index words 1) ⧺ payload_text (body_of words) ⧺ line_end

-- the first word tells a length, where it isn't 0
abbrev pub used_line : ℕ → List ℕ → List ℕ
used_line i words =
    if nat_le LENGTH_MARK (slice_index words 0)
    && nat_le (slice_index words 0) (LENGTH_MARK + LINE_BYTES)
    then entry_text i words
    else []

abbrev pub entry_line : Memory → ℕ → ℕ → List ℕ
entry_line m o i = used_line i (entry_words m o i)

-- entries of several lines aren't listed: the words don't tell how many lines they have
abbrev pub entries_text : Memory → ℕ → List ℕ
entries_text m o =
    if nat_lt (word_at m o VERSION_AT) LINES_VERSION
    then each (entry_line m o) 0 AREA_ENTRIES
    else []

-- the lines of a partition
abbrev pub part_text : Memory → ℕ → List ℕ
part_text m o =
    partition_line m o ⧺ vars_line m o ⧺ records_text m o
    ⧺ all_flags_text m o ⧺ all_args_text m o ⧺ all_counters_text m o ⧺ entries_text m o

abbrev pub listing_of : Memory → List ℕ
listing_of m = codes "listing 1" ⧺ line_end ⧺ each (part_text m) 0 (length m)
