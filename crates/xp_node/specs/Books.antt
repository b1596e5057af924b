-- The records of all ends, by partner and channel, the newest of each end first.
use Rattle.std.specs.Prelude.{ℕ, ◌+◌, zero, suc, List, [], ◌∷◌}
use Rattle.xp_base.specs.declared.layout.TheConstants.{CHANNELS}
use Rattle.xp_protocol.specs.Records.{Recorded}
use Rattle.xp_partition.specs.declared.keeping.Keeping.{Keeping}
use Rattle.xp_partition.specs.Keeping.{records_at}

-- the items of some numbers, from one on
abbrev pub each_of : {A : Type 0} → (ℕ → A) → ℕ → ℕ → List A
each_of f n zero = []
each_of f n (suc count) = f n ∷ each_of f (n + 1) count

abbrev pub books_of : Keeping → List (List (List Recorded))
books_of x = each_of (λ q. each_of (λ c. records_at x q c) 0 CHANNELS) 0 x.part.count
