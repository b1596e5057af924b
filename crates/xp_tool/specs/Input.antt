-- What is read for a command, and why it isn't: a text comes whole, a dump piece by piece.
use Rattle.std.specs.Prelude.{◌≡◌, ℕ, ◌+◌, List, [], ◌++◌, length, Option}
use Rattle.std.proofs.Common.{refl, sym, ap, subst, ◌∙◌, append_assoc, append-nil}
use Rattle.std.specs.Io.KnownBytes.{Consumes}
use Rattle.xp_outside.specs.Causes.{Rose}
use Rattle.xp_outside.specs.declared.source.ReadError.{ReadError}
use Rattle.xp_outside.specs.declared.source.ReadError.TheVariants as errors
use Rattle.xp_dump.specs.declared.fault.DumpFault.{DumpFault}
use Rattle.xp_dump.specs.declared.fault.DumpFault.TheVariants as dump_faults
use Rattle.xp_dump.specs.Grammar.{IsFault}
use Rattle.xp_dump.specs.Progress.{Progress, Reading, Faulted}
use Rattle.xp_dump.proofs.Same.{fault_stays}
use Rattle.xp_tool.specs.declared.status.InputFault.TheVariants.{Page, Trailing}
use Rattle.xp_tool.specs.declared.status.Status.{Status}
use Rattle.xp_tool.specs.declared.status.Status.TheVariants.{Ok, Usage, ReadFault, WriteFault, BadInput, TooLong, NoMemory}

-- the status of an input that wasn't read to its end
abbrev pub read_refusal_of : ReadError → ℕ → Status
read_refusal_of errors.Failed limit = ReadFault
read_refusal_of errors.TooLong limit = TooLong limit
read_refusal_of errors.Memory limit = NoMemory

-- the status of bytes that are no dump
abbrev pub dump_refusal_of : DumpFault → Status
dump_refusal_of (dump_faults.Page fault) = BadInput (Page fault)
dump_refusal_of (dump_faults.Trailing offset) = BadInput (Trailing offset)
dump_refusal_of dump_faults.Memory = NoMemory

-- a dump's reader before some bytes, these bytes, and the reader after them: where they brought a
-- fault, it is the first one of all bytes that came to it
abbrev pub Took : Progress → List ℕ → Progress → Type 0
Took (Reading before) bytes (Reading after) = after ≡ before ++ bytes
Took (Reading before) bytes (Faulted fault) = IsFault (before ++ bytes) fault
Took (Faulted fault) bytes new = new ≡ Faulted fault

-- no bytes leave the reader as it was
pub took_nothing : (a : Progress) → Took a [] a
took_nothing (Reading bytes) = sym (append-nil bytes)
took_nothing (Faulted fault) = refl

-- two pieces are as one that has the bytes of both
pub took_joined : (a b c : Progress) (xs ys : List ℕ) → Took a xs b → Took b ys c
    → Took a (xs ++ ys) c
took_joined (Reading before) (Reading between) (Reading after) xs ys first second =
    second ∙ ap (λ (l : List ℕ). l ++ ys) first ∙ append_assoc before xs ys
took_joined (Reading before) (Reading between) (Faulted fault) xs ys first second =
    let all : between ++ ys ≡ before ++ (xs ++ ys) =
    ap (λ (l : List ℕ). l ++ ys) first ∙ append_assoc before xs ys in
    subst (λ (l : List ℕ). IsFault l fault) all second
took_joined (Reading before) (Faulted fault) c xs ys first second =
    let stays : IsFault (before ++ (xs ++ ys)) fault = subst (λ (l : List ℕ). IsFault l fault)
    (append_assoc before xs ys) (fault_stays (before ++ xs) ys fault first) in
    subst (λ (p : Progress). Took (Reading before) (xs ++ ys) p) (sym second) stays
took_joined (Faulted fault) b c xs ys first second =
    subst (λ (p : Progress). Took p ys c) first second

-- why no input was read within this limit; the numbers count the source's faults
abbrev pub IsUnread : ℕ → Option (List ℕ) → Option (List ℕ) → ℕ → ℕ → Status → Type 0
IsUnread limit left left' faults faults' Ok = ⊥
IsUnread limit left left' faults faults' Usage = ⊥
IsUnread limit left left' faults faults' ReadFault = Rose faults faults'
IsUnread limit left left' faults faults' WriteFault = ⊥
IsUnread limit left left' faults faults' (BadInput fault) = ⊥
IsUnread limit left left' faults faults' (TooLong told) = (told ≡ limit)
    × ((bytes : List ℕ) × Consumes left left' bytes × (length bytes ≡ limit + 1))
    × (faults' ≡ faults)
IsUnread limit left left' faults faults' NoMemory = faults' ≡ faults
