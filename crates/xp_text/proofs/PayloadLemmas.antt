-- Reading a payload piece by piece.
use Rattle.std.proofs.Common.{◌≡◌, ℕ, ◌<◌, cond, Bool, true, false, eqb, List, [], ◌∷◌, ◌++◌, length, refl, ap, sym, ◌∙◌, arith, append_assoc, Option, Some, None}
use Rattle.std.proofs.lemmas.List.{length-append}
use Rattle.std.proofs.lemmas.Bool.{lt-leb}
use Rattle.xp_text.specs.Lines.{parts_of, grown}
use Rattle.xp_text.specs.Payloads.{◌>>=◌, piece_of, piece_in, pieces_in, behind_bytes, at_most}

pub nothing_before : (o : Option (List ℕ)) → behind_bytes [] o ≡ o
nothing_before None = refl
nothing_before (Some bytes) = refl

pub some_part : (s : ℕ) (bs : List ℕ) → 0 < length (parts_of s bs)
unfolding parts_of
some_part s [] = omega arith
some_part s (b ∷ bs) = go (eqb b s) (parts_of s bs) (some_part s bs)
  where
    go : (c : Bool) (ps : List (List ℕ)) → 0 < length ps → 0 < length (cond c ([] ∷ ps) (grown b ps))
    go true ps h = omega arith
    go false [] h = absurd (omega arith)
    go false (p ∷ ps) h = omega arith

-- two separators
pub three_parts : (piece front byte rest : List ℕ) → parts_of 42 piece ≡ front ∷ byte ∷ parts_of 42 rest → piece_of piece ≡ None
unfolding piece_of
three_parts piece front byte rest e = ap piece_in e ∙ go (parts_of 42 rest) (some_part 42 rest)
  where
    go : (ps : List (List ℕ)) → 0 < length ps → piece_in (front ∷ byte ∷ ps) ≡ None
    go [] h = absurd (omega arith)
    go (p ∷ ps) h = refl

-- a piece at the front
pub piece_fails : (word out piece : List ℕ) (more : List (List ℕ)) (total : Option (List ℕ)) → behind_bytes out (piece_of piece) ≡ None → behind_bytes out (pieces_in (piece ∷ more)) ≡ total → total ≡ None
piece_fails word out piece more total e h = sym h ∙ go (piece_of piece) e
  where
    go : (o : Option (List ℕ)) → behind_bytes out o ≡ None → behind_bytes out (o >>= λ bytes. pieces_in more >>= λ rest. Some (bytes ++ rest)) ≡ None
    go None e = refl
    go (Some bytes) e = absurd cc

pub piece_goes_on : (out piece next : List ℕ) (more : List (List ℕ)) → behind_bytes out (piece_of piece) ≡ Some next → behind_bytes out (pieces_in (piece ∷ more)) ≡ behind_bytes next (pieces_in more)
piece_goes_on out piece next more e = go (piece_of piece) (pieces_in more) e
  where
    go : (o m : Option (List ℕ)) → behind_bytes out o ≡ Some next → behind_bytes out (o >>= λ bytes. m >>= λ rest. Some (bytes ++ rest)) ≡ behind_bytes next m
    go None m e = absurd cc
    go (Some bytes) None e = refl
    go (Some bytes) (Some rest) e =
        let same : out ++ bytes ≡ next = cc in
        ap (λ (xs : List ℕ). Some xs) (sym (append_assoc out bytes rest) ∙ ap (λ (xs : List ℕ). xs ++ rest) same)

-- too many bytes already
pub too_many : (most : ℕ) (out : List ℕ) (o : Option (List ℕ)) → most < length out → at_most most (behind_bytes out o) ≡ None
too_many most out None lt = refl
too_many most out (Some bytes) lt = ap (λ (c : Bool). cond c (Some (out ++ bytes)) None) (lt-leb (length (out ++ bytes)) most (omega (arith, length-append out bytes)))
