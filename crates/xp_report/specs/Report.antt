-- The text of a report: for each partition a line that says how it stands, a line for each command
-- that was begun, one for the buffers in use, and the lines of its connections.
use Rattle.std.specs.Prelude.{◌≡◌, ℕ, zero, suc, ◌+◌, nat_lt, if◌then◌else◌, List, [], ◌∷◌, codes, slice_get, Option, Some, None}
use Rattle.std.specs.Fmt.{decimal}
use Rattle.xp_base.specs.Show.{◌⧺◌}
use Rattle.xp_node.specs.declared.ended.Ended.{Ended}
use Rattle.xp_node.specs.declared.ended.Ended.TheVariants.{Done, Stopped, Halted}
use Rattle.xp_node.specs.Node.{NodeView, ended_of}
use Rattle.xp_report.specs.Lines.{line_end}
use Rattle.xp_report.specs.Log.{entries_text}
use Rattle.xp_report.specs.Links.{records_text}
use Rattle.xp_report.specs.Order.{as_printed}
use Rattle.xp_report.specs.Begun.{begun_with}

abbrev pub state_text : Option Ended → List ℕ
state_text None = codes "running"
state_text (Some Done) = codes "done"
state_text (Some Stopped) = codes "stopped"
state_text (Some (Halted word)) = codes "halted"

-- the line of a partition
unfoldable pub head_text : ℕ → Option Ended → ℕ → List ℕ
head_text part ended boots =
    codes "partition " ⧺ decimal part ⧺ codes " " ⧺ state_text ended ⧺ codes " boots "
    ⧺ decimal boots ⧺ line_end

-- the line of the buffers of the network device that are in use, where any is
abbrev pub in_use_text : ℕ → List ℕ
in_use_text in_use = codes "  pool " ⧺ decimal in_use ⧺ line_end

unfoldable pub pool_text : ℕ → List ℕ
pool_text in_use = if nat_lt 0 in_use then (in_use_text in_use) else []

-- there is no network device
abbrev pub buffers_in_use : NodeView → ℕ
buffers_in_use n = 0

-- the lines of the connections to some partners, ascending: from one on, so many
unfoldable pub partners_text : NodeView → ℕ → ℕ → List ℕ
partners_text n q zero = []
partners_text n q (suc more) =
    records_text (as_printed (begun_with n q)) ⧺ partners_text n (q + 1) more

-- the lines of all connections: by partner, and by own session, partner session, channel and epoch;
-- where these are equal, in the order in which the connections were begun
abbrev pub links_text : NodeView → List ℕ
links_text n = partners_text n 0 n.part.count

-- the lines of a node
unfoldable pub node_text : NodeView → List ℕ
node_text n =
    head_text n.part.part (ended_of n) n.state.clock.boots
    ⧺ entries_text n.entries
    ⧺ pool_text (buffers_in_use n)
    ⧺ links_text n

abbrev pub nodes_text : List NodeView → List ℕ
nodes_text [] = []
nodes_text (n ∷ more) = node_text n ⧺ nodes_text more

abbrev pub title_text : List ℕ
title_text = codes "report 1" ⧺ line_end

abbrev pub report_of : List NodeView → List ℕ
report_of nodes = title_text ⧺ nodes_text nodes

-- a node is of partition k, and none of its steps waits
pub record IsNodeAt (k : ℕ) (n : NodeView) : Type 0 where
  pub part : n.part.part ≡ k
  pub idle : n.waiting ≡ None

-- the nodes are of the partitions, ascending
abbrev pub AreNodes : List NodeView → Type 0
AreNodes nodes = (k : ℕ) (n : NodeView) → slice_get nodes k ≡ Some n → IsNodeAt k n
