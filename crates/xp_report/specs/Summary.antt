-- The summary: one line that says what came of all connections of all partitions together.
use Rattle.std.specs.Prelude.{ℕ, zero, suc, ◌+◌, Bool, true, false, List, [], ◌∷◌, length, count_by, codes, Option, Some}
use Rattle.std.specs.Fmt.{decimal}
use Rattle.xp_base.specs.Show.{◌⧺◌}
use Rattle.xp_protocol.specs.Records.{Recorded}
use Rattle.xp_node.specs.declared.ended.Ended.{Ended}
use Rattle.xp_node.specs.declared.ended.Ended.TheVariants.{Done}
use Rattle.xp_node.specs.Node.{NodeView, ended_of}
use Rattle.xp_report.specs.declared.summary.Totals.{Totals}
use Rattle.xp_report.specs.Lines.{line_end}
use Rattle.xp_report.specs.Begun.{begun_with}

abbrev pub no_totals : Totals
no_totals = record { accepted = 0; taken = 0; acked = 0; delivered = 0 }

abbrev pub plus : Totals → Totals → Totals
plus t u = record {
  accepted = t.accepted + u.accepted;
  taken = t.taken + u.taken;
  acked = t.acked + u.acked;
  delivered = t.delivered + u.delivered;
}

-- what came of one connection
abbrev pub record_totals : Recorded → Totals
record_totals r = record {
  accepted = length r.accepted;
  taken = length r.taken;
  acked = r.acked;
  delivered = length r.delivered;
}

abbrev pub records_totals : List Recorded → Totals
records_totals [] = no_totals
records_totals (r ∷ more) = plus (record_totals r) (records_totals more)

-- what came of the connections of a node to some partners: from one on, so many
unfoldable pub partners_totals : NodeView → ℕ → ℕ → Totals
partners_totals n q zero = no_totals
partners_totals n q (suc more) =
    plus (records_totals (begun_with n q)) (partners_totals n (q + 1) more)

-- what came of all connections of a node, and of some nodes
abbrev pub node_totals : NodeView → Totals
node_totals n = partners_totals n 0 n.part.count

abbrev pub totals_of : List NodeView → Totals
totals_of [] = no_totals
totals_of (n ∷ more) = plus (node_totals n) (totals_of more)

abbrev pub is_done : Option Ended → Bool
is_done (Some Done) = true
is_done ended = false

-- how many nodes are done
abbrev pub done_of : List NodeView → ℕ
done_of nodes = count_by (λ n. is_done (ended_of n)) nodes

unfoldable pub totals_text : Totals → List ℕ
totals_text t =
    codes "accepted " ⧺ decimal t.accepted
    ⧺ codes " taken " ⧺ decimal t.taken
    ⧺ codes " acked " ⧺ decimal t.acked
    ⧺ codes " delivered " ⧺ decimal t.delivered

-- the line of a scenario's number, with how many partitions there are, what came of all their
-- connections, and how many are done
unfoldable pub summary_text : ℕ → ℕ → Totals → ℕ → List ℕ
summary_text n parts t done =
    codes "big " ⧺ decimal n ⧺ codes " partitions " ⧺ decimal parts
    ⧺ codes " " ⧺ totals_text t ⧺ codes " done " ⧺ decimal done ⧺ line_end

abbrev pub summary_of : ℕ → List NodeView → List ℕ
summary_of n nodes = summary_text n (length nodes) (totals_of nodes) (done_of nodes)
