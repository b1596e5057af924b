-- The records of a node in the order in which their connections were begun.
use Rattle.std.specs.Prelude.{ℕ, zero, suc, ◌+◌, List, [], ◌++◌, reverse}
use Rattle.xp_base.specs.declared.layout.TheConstants.{CHANNELS}
use Rattle.xp_protocol.specs.Records.{Recorded}
use Rattle.xp_node.specs.Node.{NodeView, records_at}

-- the records of an end
abbrev pub begun_at : NodeView → ℕ → ℕ → List Recorded
begun_at n q c = reverse (records_at n q c)

-- the records of the ends of some channels to a partner, by channel: from one on, so many
unfoldable pub begun_from : NodeView → ℕ → ℕ → ℕ → List Recorded
begun_from n q c zero = []
begun_from n q c (suc more) = begun_at n q c ++ begun_from n q (c + 1) more

-- the records of all ends to a partner
unfoldable pub begun_with : NodeView → ℕ → List Recorded
begun_with n q = begun_from n q 0 CHANNELS
