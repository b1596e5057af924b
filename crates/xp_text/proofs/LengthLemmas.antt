-- Measuring a payload piece by piece.
use Rattle.std.proofs.Common.{◌≡◌, ℕ, ◌+◌, ◌*◌, ◌/◌, ◌%◌, ◌<◌, ◌≤◌, cond, Bool, true, false, leb, List, [], ◌∷◌, ◌++◌, length, refl, ap, sym, ◌∙◌, arith, Option, Some, None, Result, Ok, Err}
use Rattle.std.specs.List.{list_all}
use Rattle.std.specs.Option.{option_map}
use Rattle.std.specs.Result.{result_ok}
use Rattle.std.proofs.lemmas.Bool.{lt-leb, le-leb}
use Rattle.std.proofs.lemmas.List.{length-append}
use Rattle.std.proofs.lemmas.List.Sums.{AllPass-from_list_all, list_all-from_AllPass}
use Rattle.hex.specs.declared.error.FromHexError.{FromHexError}
use Rattle.hex.specs.Hex.{decode_of, is_hex_digit}
use Rattle.hex.proofs.HexLemmas.{decode_of-ok, decode_of-odd, decode_of-digits}
use Rattle.xp_text.specs.Payloads.{◌>>=◌, hex_of, piece_of, pieces_in, at_most}

-- so many bytes before those of a payload
abbrev pub length_after : ℕ → Option (List ℕ) → Option ℕ
length_after n None = None
length_after n (Some bytes) = Some (n + length bytes)

pub hex_is : (digits : List ℕ) → length digits % 2 ≡ 0 → list_all is_hex_digit digits ≡ true → option_map length (hex_of digits) ≡ Some (length digits / 2)
hex_is digits even all =
    let d = decode_of-digits digits even (AllPass-from_list_all is_hex_digit digits all) in
    let k = (decode_of-ok digits d.0 d.1).2 in
    ap (λ (r : Result (List ℕ) FromHexError). option_map length (result_ok r)) d.1 ∙ ap (λ (j : ℕ). Some j) (omega (arith, k))

pub hex_isnt : (digits : List ℕ) → (length digits % 2 ≡ 0 → list_all is_hex_digit digits ≡ false) → option_map length (hex_of digits) ≡ None
hex_isnt digits wrong = go (decode_of digits) refl
  where
    go : (r : Result (List ℕ) FromHexError) → decode_of digits ≡ r → option_map length (result_ok r) ≡ None
    go (Err e) d = refl
    go (Ok bytes) d =
        let k = decode_of-ok digits bytes d in
        let all = list_all-from_AllPass is_hex_digit digits k.1 in
        absurd (let no = wrong k.0 in let x : true ≡ false = sym all ∙ no in cc)
