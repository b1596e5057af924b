-- A list in the order of a test that says which of two items comes first; items of which neither
-- comes first stay as they stand. And this order for the records of a partner.
use Rattle.std.specs.Prelude.{Bool, if◌then◌else◌, List, [], ◌∷◌}
use Rattle.std.specs.Ordering.{is_lt, nat_cmp, ordering_then}
use Rattle.std.specs.declared.cmp.Ordering.{Ordering}
use Rattle.xp_base.specs.Sessions.{session_word}
use Rattle.xp_protocol.specs.Records.{Recorded}

-- an item takes its place in an ordered list that it stood before: behind those that come first
unfoldable pub placed : {X : Type 0} → (X → X → Bool) → X → List X → List X
placed first x [] = x ∷ []
placed first x (y ∷ more) = if first y x then (y ∷ placed first x more) else (x ∷ (y ∷ more))

unfoldable pub in_order : {X : Type 0} → (X → X → Bool) → List X → List X
in_order first [] = []
in_order first (x ∷ more) = placed first x (in_order first more)

-- the order of records: by own session, partner session, channel and epoch. A session comes before
-- another by its stamp, and then by its count, and so does its word
unfoldable pub record_cmp : Recorded → Recorded → Ordering
record_cmp a b =
    ordering_then (nat_cmp (session_word a.own) (session_word b.own))
    (ordering_then (nat_cmp (session_word a.theirs) (session_word b.theirs))
    (ordering_then (nat_cmp a.channel b.channel) (nat_cmp a.epoch b.epoch)))

abbrev pub comes_first : Recorded → Recorded → Bool
comes_first a b = is_lt (record_cmp a b)

-- records as they print
abbrev pub as_printed : List Recorded → List Recorded
as_printed records = in_order comes_first records
