-- The names of connections: a record of an end is told by its name.
use Rattle.std.specs.Prelude.{◌≡◌, ℕ, List, slice_get, Some}
use Rattle.xp_base.specs.History.{Event}
use Rattle.xp_script.specs.declared.scenario.Scenario.{Scenario}
use Rattle.xp_protocol.specs.Records.{Recorded}
use Rattle.xp_protocol.specs.Promised.{IsLine, name_of, records_of}

-- each name stands once among the records of an end: the first record of a name is its newest one
abbrev pub NamesOnce : Scenario → List Event → Type 0
NamesOnce s h =
    (p q c : ℕ) → IsLine s p q c → (i j : ℕ) (r x : Recorded) →
    slice_get (records_of s h p q c) i ≡ Some r → slice_get (records_of s h p q c) j ≡ Some x →
    name_of r ≡ name_of x → i ≡ j
