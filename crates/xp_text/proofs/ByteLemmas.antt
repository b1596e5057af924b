-- The bytes that a word spells are bytes.
use Rattle.std.proofs.Common.{◌≡◌, ℕ, zero, suc, ◌<◌, Bool, true, false, cond, leb, ltb, ◌&&◌, List, [], ◌∷◌, ◌++◌, length, refl, sym, subst, ◌∙◌, lit<, Option, Some, None, Result, Ok, Err}
use Rattle.std.specs.Prelude.{codes, bytes_eq, replicate}
use Rattle.std.specs.Result.{result_ok}
use Rattle.hex.specs.declared.error.FromHexError.{FromHexError}
use Rattle.hex.specs.Hex.{decode_of, decode_sized, IsBytes}
use Rattle.hex.proofs.HexLemmas.{decode_of-ok, decode_sized-ok, decode_sized-twice}
use Rattle.xp_text.specs.declared.payloads.TheConstants.{JOINER, TIMES, RUN_BYTES}
use Rattle.xp_text.specs.Lines.{parts_of}
use Rattle.xp_text.specs.Numbers.{digits_of}
use Rattle.xp_text.specs.Payloads.{◌>>=◌, hex_of, only, one_byte, repeated, run_of, piece_in, piece_of, pieces_in, payload_of}

bytes_none : IsBytes []
bytes_none i = lit< tt

bytes_append : (xs ys : List ℕ) → IsBytes xs → IsBytes ys → IsBytes (xs ++ ys)
bytes_append [] ys h k i = k i
bytes_append (x ∷ xs) ys h k zero = h 0
bytes_append (x ∷ xs) ys h k (suc i) = bytes_append xs ys (λ j. h (suc j)) k i

bytes_replicate : (n b : ℕ) → b < 256 → IsBytes (replicate n b)
bytes_replicate zero b h i = lit< tt
bytes_replicate (suc n) b h zero = h
bytes_replicate (suc n) b h (suc i) = bytes_replicate n b h i

hex_bytes : (digits bytes : List ℕ) → hex_of digits ≡ Some bytes → IsBytes bytes
hex_bytes digits bytes h = go (decode_of digits) refl h
  where
    go : (r : Result (List ℕ) FromHexError) → decode_of digits ≡ r → result_ok r ≡ Some bytes → IsBytes bytes
    go (Ok x) e t = let same : x ≡ bytes = cc in subst IsBytes same (decode_of-ok digits x e).3
    go (Err x) e t = absurd cc

byte_small : (digits : List ℕ) (b : ℕ) → one_byte digits ≡ Some b → b < 256
byte_small digits b h = go (decode_sized digits 1) refl h
  where
    go : (r : Result (List ℕ) FromHexError) → decode_sized digits 1 ≡ r → only r ≡ Some b → b < 256
    go (Ok []) e t = absurd cc
    go (Ok (x ∷ [])) e t =
        let same : x ≡ b = cc in
        let len = decode_sized-ok digits 1 (x ∷ []) e in
        let all = (decode_of-ok digits (x ∷ []) (sym (decode_sized-twice digits 1 len) ∙ e)).3 in
        subst (λ (n : ℕ). n < 256) same (all 0)
    go (Ok (x ∷ y ∷ more)) e t = absurd cc
    go (Err x) e t = absurd cc

repeated_bytes : (n b : ℕ) (bytes : List ℕ) → b < 256 → repeated n b ≡ Some bytes → IsBytes bytes
repeated_bytes n b bytes lt h = go (leb 1 n && leb n RUN_BYTES) h
  where
    go : (c : Bool) → cond c (Some (replicate n b)) None ≡ Some bytes → IsBytes bytes
    go true t = let same : replicate n b ≡ bytes = cc in subst IsBytes same (bytes_replicate n b lt)
    go false t = absurd cc

run_bytes : (number digits bytes : List ℕ) → run_of number digits ≡ Some bytes → IsBytes bytes
unfolding run_of
run_bytes number digits bytes h = go (digits_of number) (one_byte digits) refl h
  where
    go : (o b : Option ℕ) → one_byte digits ≡ b → (o >>= λ n. b >>= λ byte. repeated n byte) ≡ Some bytes → IsBytes bytes
    go None b e t = absurd cc
    go (Some n) None e t = absurd cc
    go (Some n) (Some byte) e t = repeated_bytes n byte bytes (byte_small digits byte e) t

piece_bytes : (piece bytes : List ℕ) → piece_of piece ≡ Some bytes → IsBytes bytes
unfolding piece_of
piece_bytes piece bytes h = go (parts_of TIMES piece) h
  where
    filled : (digits : List ℕ) (c : Bool) → cond c (hex_of digits) None ≡ Some bytes → IsBytes bytes
    filled digits true t = hex_bytes digits bytes t
    filled digits false t = absurd cc

    go : (ps : List (List ℕ)) → piece_in ps ≡ Some bytes → IsBytes bytes
    go [] t = absurd cc
    go (digits ∷ []) t = filled digits (ltb 0 (length digits)) t
    go (number ∷ digits ∷ []) t = run_bytes number digits bytes t
    go (a ∷ b ∷ c ∷ more) t = absurd cc

pieces_bytes : (ps : List (List ℕ)) (bytes : List ℕ) → pieces_in ps ≡ Some bytes → IsBytes bytes
pieces_bytes [] bytes h = let same : [] ≡ bytes = cc in subst IsBytes same bytes_none
pieces_bytes (p ∷ ps) bytes h = go (piece_of p) (pieces_in ps) refl refl (pieces_bytes ps) h
  where
    go : (o m : Option (List ℕ)) → piece_of p ≡ o → pieces_in ps ≡ m → ((more : List ℕ) → pieces_in ps ≡ Some more → IsBytes more) → (o >>= λ front. m >>= λ more. Some (front ++ more)) ≡ Some bytes → IsBytes bytes
    go None m e f all t = absurd cc
    go (Some front) None e f all t = absurd cc
    go (Some front) (Some more) e f all t =
        let same : front ++ more ≡ bytes = cc in
        subst IsBytes same (bytes_append front more (piece_bytes p front e) (all more f))

pub payload_bytes : (word bytes : List ℕ) → payload_of word ≡ Some bytes → IsBytes bytes
unfolding payload_of
payload_bytes word bytes h = go (bytes_eq word (codes "-")) h
  where
    go : (c : Bool) → cond c (Some []) (pieces_in (parts_of JOINER word)) ≡ Some bytes → IsBytes bytes
    go true t = let same : [] ≡ bytes = cc in subst IsBytes same bytes_none
    go false t = pieces_bytes (parts_of JOINER word) bytes t
