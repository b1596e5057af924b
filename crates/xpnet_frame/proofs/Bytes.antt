-- The bytes of a header, and the header in some bytes.
use Rattle.std.proofs.Common.{◌≡◌, ℕ, zero, suc, ◌+◌, ◌*◌, ◌/◌, ◌%◌, ◌^◌, ◌<◌, ◌≤◌, List, ◌∷◌, ◌++◌, length, slice_index, drop, refl, ap, sym, ◌∙◌, arith}
use Rattle.std.proofs.Math.Nat.{div-div-eq-div-mul, pow-succ'}
use Rattle.std.proofs.lemmas.List.{drop_more}
use Rattle.std.specs.Int.{byte_at, bytes_low_first}
use Rattle.byteorder.specs.Endian.{little_from, little_bytes}
use Rattle.byteorder.specs.Numbers.{little_number-reads_back}
use Rattle.xp_base.proofs.BodyLemmas.{little_from-drop}
use Rattle.xpnet_frame.specs.declared.header.Header.{Header}
use Rattle.xpnet_frame.specs.declared.header.TheConstants.{MESSAGE_HEADER_BYTES}
use Rattle.xpnet_frame.specs.Header.{header_of, header_bytes}

-- the lowest byte and what stands above it
byte_above : (j b y : ℕ) → b < 256 → byte_at (suc j) (b + 256 * y) ≡ byte_at j y
byte_above zero b y h =
    let e : (b + 256 * y) / 256 ^ 1 ≡ y = omega arith in
    ap (λ (x : ℕ). x % 256) e
byte_above (suc j) b y h =
    let e : (b + 256 * y) / 256 ≡ y = omega arith in
    let f : (b + 256 * y) / 256 ^ suc (suc j) ≡ y / 256 ^ suc j =
    ap (λ (p : ℕ). (b + 256 * y) / p) (pow-succ' 256 (suc j))
    ∙ sym (div-div-eq-div-mul (b + 256 * y) 256 (256 ^ suc j))
    ∙ ap (λ (x : ℕ). x / 256 ^ suc j) e in
    ap (λ (x : ℕ). x % 256) f

bytes_above : (j n b y : ℕ) → b < 256
    → bytes_low_first (suc j) n (b + 256 * y) ≡ bytes_low_first j n y
bytes_above j zero b y h = refl
bytes_above j (suc n) b y h = rw (byte_above j b y h, bytes_above (suc j) n b y h) refl

-- the bytes of the number in n bytes are these bytes
pub number_bytes : (i n : ℕ) (xs : List ℕ) → ((k : ℕ) → slice_index xs k < 256) → i + n ≤ length xs
    → little_bytes n (little_from i n xs) ++ drop (i + n) xs ≡ drop i xs
number_bytes i zero xs h low = let e : i + 0 ≡ i = omega arith in ap (λ (k : ℕ). drop k xs) e
number_bytes i (suc n) xs h low =
    let here = drop_more xs i 0 (omega arith) in
    let first : byte_at 0 (slice_index xs i + 256 * little_from (suc i) n xs) ≡ slice_index xs i =
    let b = h i in omega arith in
    let more = bytes_above 0 n (slice_index xs i) (little_from (suc i) n xs) (h i) in
    let rest = number_bytes (suc i) n xs h (omega arith) in
    let e : i + suc n ≡ suc i + n = omega arith in
    let f : suc i ≡ i + 1 = omega arith in
    rw (first, more, e, rest, f, here) refl

pub bytes_of-header_of : (xs : List ℕ) → ((k : ℕ) → slice_index xs k < 256)
    → MESSAGE_HEADER_BYTES ≤ length xs → header_bytes (header_of xs)
    ++ drop MESSAGE_HEADER_BYTES xs ≡ xs
bytes_of-header_of xs h low =
    let last : slice_index xs 20 ∷ slice_index xs 21
    ∷ drop 22 xs ≡ drop 20 xs =
    sym (drop_more xs 20 0 (omega arith)
    ∙ ap (λ (r : List ℕ). slice_index xs 20 ∷ r) (drop_more xs 21 0 (omega arith))) in
    let size = ap (λ (r : List ℕ). little_bytes 4 (little_from 16 4 xs) ++ r) last
    ∙ number_bytes 16 4 xs h (omega arith) in
    let place = ap (λ (r : List ℕ). little_bytes 8 (little_from 8 8 xs) ++ r) size
    ∙ number_bytes 8 8 xs h (omega arith) in
    let magic = ap (λ (r : List ℕ). little_bytes 4 (little_from 4 4 xs) ++ r) place
    ∙ number_bytes 4 4 xs h (omega arith) in
    let embedded = ap (λ (r : List ℕ). little_bytes 2 (little_from 2 2 xs) ++ r) magic
    ∙ number_bytes 2 2 xs h (omega arith) in
    ap (λ (r : List ℕ). little_bytes 2 (little_from 0 2 xs) ++ r) embedded
    ∙ number_bytes 0 2 xs h (omega arith)

-- each number fits its bytes
pub record IsFit (h : Header) : Type 0 where
  pub version : h.version < 256 ^ 2
  pub embedded : h.embedded < 256 ^ 2
  pub magic : h.magic < 256 ^ 4
  pub place : h.place < 256 ^ 8
  pub size : h.size < 256 ^ 4

number_at : (i n x : ℕ) (xs rest : List ℕ) → drop i xs ≡ little_bytes n x ++ rest → x < 256 ^ n
    → little_from i n xs ≡ x
number_at i n x xs rest e h =
    let f : i + 0 ≡ i = omega arith in
    ap (λ (k : ℕ). little_from k n xs) (sym f) ∙ sym (little_from-drop i 0 n xs)
    ∙ ap (little_from 0 n) e ∙ little_number-reads_back n x rest h

pub header_of-bytes : (h : Header) (rest : List ℕ) → IsFit h
    → header_of (header_bytes h ++ rest) ≡ h
header_of-bytes h rest fit =
    let xs = header_bytes h ++ rest in
    let end : List ℕ = h.lead_in ∷ h.tail_out ∷ rest in
    let size = number_at 16 4 h.size xs end refl fit.size in
    let place = number_at 8 8 h.place xs (little_bytes 4 h.size ++ end) refl fit.place in
    let magic = number_at 4 4 h.magic xs
    (little_bytes 8 h.place ++ (little_bytes 4 h.size ++ end)) refl fit.magic in
    let embedded = number_at 2 2 h.embedded xs
    (little_bytes 4 h.magic
    ++ (little_bytes 8 h.place ++ (little_bytes 4 h.size ++ end))) refl fit.embedded in
    let version = number_at 0 2 h.version xs
    (little_bytes 2 h.embedded
    ++ (little_bytes 4 h.magic
    ++ (little_bytes 8 h.place ++ (little_bytes 4 h.size ++ end)))) refl fit.version in
    λ i. record {
      version = version i;
      embedded = embedded i;
      magic = magic i;
      place = place i;
      size = size i;
      lead_in = h.lead_in;
      tail_out = h.tail_out;
    }
