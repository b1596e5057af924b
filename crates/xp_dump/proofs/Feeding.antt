-- The fault that a piece shows, whichever of its bytes shows it.
use Rattle.std.proofs.Common.{◌≡◌, ℕ, ◌+◌, ◌-◌, ◌<◌, arith, List, [], ◌∷◌, ◌++◌, length, get_or, take, drop, refl, ap, sym, ◌∙◌, subst}
use Rattle.std.specs.Prelude.{Option, None, Err}
use Rattle.std.proofs.Math.Seq.{take-add}
use Rattle.std.proofs.lemmas.List.{append_assoc, take_more, take-append-drop}
use Rattle.xp_dump.specs.declared.fault.DumpFault.{DumpFault}
use Rattle.xp_dump.specs.declared.tape.Tape.{Tape}
use Rattle.xp_dump.specs.Grammar.{IsFault}
use Rattle.xp_dump.specs.Progress.{Progress, Reading, Faulted, progress_of, IsFed}
use Rattle.xp_dump.specs.Standing.{IsStanding}
use Rattle.xp_dump.specs.Tapes.{IsTape, IsRead}
use Rattle.xp_dump.proofs.Same.{fault_stays}

-- the next bytes of a piece stand behind those before them
next_bytes : (bytes piece more : List ℕ) (at end : ℕ) → take end piece ≡ take at piece ++ more
    → (bytes ++ take at piece) ++ more ≡ bytes ++ take end piece
next_bytes bytes piece more at end e = append_assoc bytes (take at piece) more
    ∙ ap (λ (xs : List ℕ). bytes ++ xs) (sym e)

pub read_on : (bytes piece more : List ℕ) (at end : ℕ) (t : Tape) → take end piece ≡ take at piece
    ++ more → IsRead ((bytes ++ take at piece) ++ more) t → IsRead (bytes ++ take end piece) t
read_on bytes piece more at end t e h = subst (λ (xs : List ℕ). IsRead xs t)
    (next_bytes bytes piece more at end e) h

pub piece_fault : (bytes piece more : List ℕ) (at end : ℕ) (fault : DumpFault)
    → take end piece ≡ take at piece ++ more → IsFault ((bytes ++ take at piece) ++ more) fault
    → IsFault (bytes ++ piece) fault
piece_fault bytes piece more at end fault e h =
    let all : ((bytes ++ take at piece) ++ more) ++ drop end piece ≡ bytes ++ piece =
    ap (λ (xs : List ℕ). xs ++ drop end piece) (next_bytes bytes piece more at end e)
    ∙ append_assoc bytes (take end piece) (drop end piece)
    ∙ ap (λ (xs : List ℕ). bytes ++ xs) (take-append-drop end piece) in
    subst (λ (xs : List ℕ). IsFault xs fault) all
    (fault_stays ((bytes ++ take at piece) ++ more) (drop end piece) fault h)

-- eight bytes of a piece, and one of them, stand behind those before
pub eight_more : (piece : List ℕ) (at : ℕ) → take (at + 8) piece ≡ take at piece
    ++ take (at + 8 - at) (drop at piece)
eight_more piece at =
    let e : at + 8 - at ≡ 8 = omega arith in
    take-add at 8 piece ∙ ap (λ (n : ℕ). take at piece ++ take n (drop at piece)) (sym e)

pub one_more : (piece : List ℕ) (at : ℕ) → at < length piece → take (at + 1) piece ≡ take at piece
    ++ get_or piece at 0 ∷ []
one_more piece at low = take_more piece at 0 low

-- without a fault the tape is that of the bytes that came
pub standing : (told : Option DumpFault) (bytes : List ℕ) (t : Tape) → told ≡ None
    → IsStanding told bytes t → IsTape t × IsRead bytes t
standing told bytes t none h = subst (λ (x : Option DumpFault). IsStanding x bytes t) none h

-- a reader without a fault is faulted by it
pub faulted : (old : Progress) (told : Option DumpFault) (bytes piece : List ℕ) (fault : DumpFault)
    → progress_of told bytes ≡ old → told ≡ None → IsFault (bytes ++ piece) fault
    → IsFed old piece (Err fault) (Faulted fault)
faulted old told bytes piece fault view none h =
    let e : Reading bytes ≡ old = sym (ap (λ (t : Option DumpFault). progress_of t bytes) none)
    ∙ view in
    subst (λ (p : Progress). IsFed p piece (Err fault) (Faulted fault)) e (refl, h)
