-- What passed from a source to a taker, and what was read after it.
use Rattle.std.proofs.Common.{◌≡◌, ℕ, ◌+◌, ◌≤◌, List, ◌++◌, length, take, Option, subst, arith, length-append, length-take}
use Rattle.std.specs.Io.KnownBytes.{Consumes}
use Rattle.std.proofs.KnownBytes.{Consumes-trans}
use Rattle.std.proofs.lemmas.List.{take-append-le}

-- some bytes, as many as are said, left a source, and a taker took them
pub record HasPassed {T : Type 0} (Takes : T → List ℕ → T → Type 0) (left left' : Option (List ℕ)) (old new : T) (count : ℕ) : Type 0 where
  pub bytes : List ℕ
  pub consumed : Consumes left left' bytes
  pub taken : Takes old bytes new
  pub size : length bytes ≡ count

-- what passed and one piece more are what was read
pub read_on : {T : Type 0} (Takes : T → List ℕ → T → Type 0) (a b c : Option (List ℕ)) (old new : T) (fed count : ℕ) (piece : List ℕ) → HasPassed Takes a b old new fed → Consumes b c (take count piece) → count ≤ length piece → (bytes : List ℕ) × Consumes a c bytes × (length bytes ≡ fed + count)
read_on Takes a b c old new fed count piece h came within =
    let size = h.size in (
      h.bytes ++ take count piece,
      Consumes-trans a b c h.bytes (take count piece) h.consumed came,
      omega (arith, size, within, length-append h.bytes (take count piece), length-take count piece),
    )

-- the taker took the piece too
pub passed_on : {T : Type 0} (Takes : T → List ℕ → T → Type 0) (a b c : Option (List ℕ)) (old new next : T) (fed count : ℕ) (piece rest : List ℕ) → ((x y z : T) (xs ys : List ℕ) → Takes x xs y → Takes y ys z → Takes x (xs ++ ys) z) → HasPassed Takes a b old new fed → Consumes b c (take count piece) → count ≤ length piece → Takes new (take count (piece ++ rest)) next → HasPassed Takes a c old next (fed + count)
unfolding read_on
passed_on Takes a b c old new next fed count piece rest joined h came within taken =
    let read = read_on Takes a b c old new fed count piece h came within in
    let front = subst (λ (bytes : List ℕ). Takes new bytes next) (take-append-le count piece rest within) taken in record {
      bytes = h.bytes ++ take count piece;
      consumed = read.1;
      taken = joined old new next h.bytes (take count piece) h.taken front;
      size = read.2;
    }
