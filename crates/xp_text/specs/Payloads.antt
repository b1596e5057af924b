-- The payloads that words spell.
use Rattle.std.specs.Prelude.{◌≡◌, ℕ, Bool, ◌&&◌, if◌then◌else◌, nat_le, nat_lt, List, [], ◌∷◌, ◌++◌, length, replicate, codes, bytes_eq, Option, Some, None, Result, Ok}
use Rattle.std.specs.Result.{result_ok}
use Rattle.hex.specs.declared.error.FromHexError.{FromHexError}
use Rattle.hex.specs.Hex.{decode_of, decode_sized}
use Rattle.xp_text.specs.declared.payloads.TheConstants.{JOINER, TIMES, RUN_BYTES}
use Rattle.xp_text.specs.Lines.{parts_of}
use Rattle.xp_text.specs.Numbers.{digits_of}

infixl 10 ◌>>=◌
abbrev pub ◌>>=◌ : {A B : Type 0} → Option A → (A → Option B) → Option B
(Some x) >>= f = f x
None >>= f = None

-- two hexadecimal digits of either case a byte
abbrev pub hex_of : List ℕ → Option (List ℕ)
hex_of digits = result_ok (decode_of digits)

abbrev pub only : Result (List ℕ) FromHexError → Option ℕ
only (Ok (byte ∷ [])) = Some byte
only _ = None

-- the byte of two digits
abbrev pub one_byte : List ℕ → Option ℕ
one_byte digits = only (decode_sized digits 1)

-- a byte so many times, at least once
abbrev pub repeated : ℕ → ℕ → Option (List ℕ)
repeated n byte = if nat_le 1 n && nat_le n RUN_BYTES then Some (replicate n byte) else None

unfoldable pub run_of : List ℕ → List ℕ → Option (List ℕ)
run_of number digits = do
  n ← digits_of number
  byte ← one_byte digits
  repeated n byte

-- a piece: an even number of digits, at least 2, or `N*HH`
abbrev pub piece_in : List (List ℕ) → Option (List ℕ)
piece_in (digits ∷ []) = if nat_lt 0 (length digits) then hex_of digits else None
piece_in (number ∷ digits ∷ []) = run_of number digits
piece_in _ = None

unfoldable pub piece_of : List ℕ → Option (List ℕ)
piece_of piece = piece_in (parts_of TIMES piece)

abbrev pub pieces_in : List (List ℕ) → Option (List ℕ)
pieces_in [] = Some []
pieces_in (piece ∷ pieces) = do
  bytes ← piece_of piece
  more ← pieces_in pieces
  Some (bytes ++ more)

-- `-` for no byte, or pieces joined by `+`
unfoldable pub payload_of : List ℕ → Option (List ℕ)
payload_of word = if bytes_eq word (codes "-") then Some [] else pieces_in (parts_of JOINER word)

-- these bytes, where they are at most so many
abbrev pub at_most : ℕ → Option (List ℕ) → Option (List ℕ)
at_most most None = None
at_most most (Some bytes) = if nat_le (length bytes) most then Some bytes else None

-- these bytes after those at the front
abbrev pub behind_bytes : List ℕ → Option (List ℕ) → Option (List ℕ)
behind_bytes front None = None
behind_bytes front (Some bytes) = Some (front ++ bytes)

-- a reader appends the bytes that are spelled, or tells that none are
abbrev pub Appends : Bool → Option (List ℕ) → List ℕ → List ℕ → Type 0
Appends ok spelled old new = behind_bytes old spelled ≡ (if ok then Some new else None)
