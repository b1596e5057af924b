-- Network messages: which there are, their bytes, and which message or fault some bytes are. A
-- message carries a short frame itself, and names the buffer in which a longer one stands.
use Rattle.std.specs.Prelude.{◌≡◌, ℕ, ◌+◌, ◌-◌, ◌%◌, ◌<◌, ◌≤◌, Bool, ◌&&◌, ◌==◌, nat_le, nat_lt, List, [], ◌++◌, length, drop, Result, Ok, Err, if◌then◌else◌}
use Rattle.xp_base.specs.declared.frame.TheConstants.{HEADER_BYTES, FRAME_BYTES}
use Rattle.xp_base.specs.declared.layout.TheConstants.{BUFFERS, BUFFER_WORDS, POOL_AT, PART_WORDS}
use Rattle.xp_base.specs.Places.{index_of, Pool}
use Rattle.xpnet_frame.specs.declared.header.Header.{Header}
use Rattle.xpnet_frame.specs.declared.header.TheConstants.{MESSAGE_HEADER_BYTES, MESSAGE_VERSION, MESSAGE_MAGIC}
use Rattle.xpnet_frame.specs.declared.message.TheConstants.{EMBEDDED_FRAME, LEAD_IN, MOST_TAIL_OUT}
use Rattle.xpnet_frame.specs.declared.message.NetMessage.{NetMessage}
use Rattle.xpnet_frame.specs.declared.message.NetMessage.TheVariants.{Embedded, Buffered}
use Rattle.xpnet_frame.specs.declared.message.NetFault.{NetFault}
use Rattle.xpnet_frame.specs.declared.message.NetFault.TheVariants.{Version, Magic, Size, Embedded as NotEmbedded, Address}
use Rattle.xpnet_frame.specs.Header.{header_of, header_bytes}

-- the place is that of a buffer's first word
abbrev pub IsBuffer : ℕ → Type 0
IsBuffer place = (b : ℕ) × ((b < BUFFERS) × (place ≡ index_of (Pool b 0)))

-- a frame that fits a message stands in it; a longer one stands in a buffer
abbrev pub IsMessage : NetMessage → Type 0
IsMessage (Embedded frame) = (HEADER_BYTES ≤ length frame) × (length frame ≤ EMBEDDED_FRAME)
IsMessage (Buffered place n) = IsBuffer place × ((EMBEDDED_FRAME < n) × (n ≤ FRAME_BYTES))

-- how many bytes of its last word stand behind a frame of n bytes in a buffer
abbrev pub tail_for : ℕ → ℕ
tail_for n = MOST_TAIL_OUT - (LEAD_IN + n - 1) % 8

abbrev pub header_for : NetMessage → Header
header_for (Embedded frame) =
    record {
      version = MESSAGE_VERSION;
      embedded = length frame;
      magic = MESSAGE_MAGIC;
      place = 0;
      size = length frame;
      lead_in = 0;
      tail_out = 0;
    }
header_for (Buffered place n) =
    record {
      version = MESSAGE_VERSION;
      embedded = 0;
      magic = MESSAGE_MAGIC;
      place = place;
      size = LEAD_IN + n + tail_for n;
      lead_in = LEAD_IN;
      tail_out = tail_for n;
    }

-- what stands behind the header
abbrev pub data_of : NetMessage → List ℕ
data_of (Embedded frame) = frame
data_of (Buffered place n) = []

abbrev pub message_bytes : NetMessage → List ℕ
message_bytes m = header_bytes (header_for m) ++ data_of m

-- the header of a message with embedded bytes, and n bytes behind it
abbrev pub is_embedded : Header → ℕ → Bool
is_embedded h n =
    nat_le HEADER_BYTES n
    && (nat_le n EMBEDDED_FRAME
    && ((h.embedded == n)
    && ((h.size == n) && ((h.place == 0) && ((h.lead_in == 0) && (h.tail_out == 0))))))

abbrev pub is_buffer : ℕ → Bool
is_buffer place =
    nat_le POOL_AT place
    && (nat_lt place PART_WORDS && ((place - POOL_AT) % BUFFER_WORDS == 0))

-- the sizes of a message that names a buffer, and n bytes behind it
abbrev pub is_buffered : Header → ℕ → Bool
is_buffered h n =
    (n == 0) && ((h.lead_in == LEAD_IN)
    && (nat_le h.tail_out MOST_TAIL_OUT
    && ((h.size % 8 == 0)
    && (nat_lt (LEAD_IN + h.tail_out + EMBEDDED_FRAME) h.size
    && nat_le h.size (LEAD_IN + h.tail_out + FRAME_BYTES)))))

abbrev pub embedded_message : Header → List ℕ → Result NetMessage NetFault
embedded_message h payload =
    if is_embedded h (length payload) then Ok (Embedded payload) else Err NotEmbedded

abbrev pub buffered_message : Header → ℕ → Result NetMessage NetFault
buffered_message h n =
    if is_buffer h.place
    then (if is_buffered h n then Ok (Buffered h.place (h.size - LEAD_IN - h.tail_out))
    else Err Size)
    else Err Address

-- the message of a header whose version and magic are right, with the payload behind it
abbrev pub formed : Header → List ℕ → Result NetMessage NetFault
formed h payload =
    if h.embedded == 0 then buffered_message h (length payload) else embedded_message h payload

abbrev pub message_of : Header → List ℕ → Result NetMessage NetFault
message_of h payload = if h.version == MESSAGE_VERSION
    then (if h.magic == MESSAGE_MAGIC then formed h payload else Err Magic) else Err Version

-- the message that some bytes are, or the first fault: the header is whole, version, magic, and
-- then the form
abbrev pub decoded : List ℕ → Result NetMessage NetFault
decoded body = if nat_lt (length body) MESSAGE_HEADER_BYTES then Err Size
    else message_of (header_of body) (drop MESSAGE_HEADER_BYTES body)
