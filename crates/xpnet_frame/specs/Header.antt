-- The header of a network message: where each number stands among its bytes, the lowest byte of
-- each first.
use Rattle.std.specs.Prelude.{ℕ, List, [], ◌∷◌, ◌++◌, slice_index}
use Rattle.byteorder.specs.Endian.{little_from, little_bytes}
use Rattle.xpnet_frame.specs.declared.header.Header.{Header}

-- the header in the first bytes of a message
abbrev pub header_of : List ℕ → Header
header_of bytes =
    record {
      version = little_from 0 2 bytes;
      embedded = little_from 2 2 bytes;
      magic = little_from 4 4 bytes;
      place = little_from 8 8 bytes;
      size = little_from 16 4 bytes;
      lead_in = slice_index bytes 20;
      tail_out = slice_index bytes 21;
    }

-- the bytes of a header
abbrev pub header_bytes : Header → List ℕ
header_bytes h =
    little_bytes 2 h.version
    ++ (little_bytes 2 h.embedded
    ++ (little_bytes 4 h.magic
    ++ (little_bytes 8 h.place ++ (little_bytes 4 h.size ++ (h.lead_in ∷ h.tail_out ∷ [])))))
