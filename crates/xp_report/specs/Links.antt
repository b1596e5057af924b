-- The lines of the connections.
use Rattle.std.specs.Prelude.{ℕ, if◌then◌else◌, List, [], ◌∷◌, length, codes, Option, Some, None}
use Rattle.std.specs.Fmt.{decimal}
use Rattle.xp_base.specs.declared.reason.Reason.{Reason}
use Rattle.xp_base.specs.Reasons.{reason_text}
use Rattle.xp_base.specs.Show.{◌⧺◌}
use Rattle.xp_protocol.specs.Records.{Recorded}
use Rattle.xp_report.specs.Lines.{line_end}

-- which connection a record is of: the partner, the channel, the epoch, and the sessions of both
-- ends
unfoldable pub connection_text : Recorded → List ℕ
connection_text r =
    decimal r.partner ⧺ codes " " ⧺ decimal r.channel ⧺ codes " epoch " ⧺ decimal r.epoch
    ⧺ codes " own " ⧺ decimal r.own.stamp ⧺ codes "." ⧺ decimal r.own.count
    ⧺ codes " partner " ⧺ decimal r.theirs.stamp ⧺ codes "." ⧺ decimal r.theirs.count

-- what came of a connection: the messages accepted and taken, the last get, the messages whose
-- delivery was told, and those of which it was told that the connection ended first
unfoldable pub counts_text : Recorded → List ℕ
counts_text r =
    codes "accepted " ⧺ decimal (length r.accepted)
    ⧺ codes " taken " ⧺ decimal (length r.taken)
    ⧺ codes " acked " ⧺ decimal r.acked
    ⧺ codes " delivered " ⧺ decimal (length r.delivered)
    ⧺ codes " ended " ⧺ decimal (length r.ended)

-- the line of a connection that was connected
unfoldable pub link_text : Recorded → List ℕ
link_text r =
    codes "  link " ⧺ connection_text r ⧺ codes " " ⧺ counts_text r ⧺ line_end

-- the line of a connection that ended
unfoldable pub over_text : Recorded → Reason → List ℕ
over_text r reason =
    codes "  over " ⧺ connection_text r ⧺ codes " " ⧺ reason_text reason ⧺ line_end

-- the lines of the frames that were handed up: none, since there is no network device
abbrev pub frames_text : Recorded → List ℕ
frames_text r = []

-- the lines of a connection that was connected
abbrev pub connected_text : Recorded → List ℕ
connected_text r = if r.connected then (link_text r ⧺ frames_text r) else []

-- the line of a connection's end, where it has ended
abbrev pub end_text : Recorded → Option Reason → List ℕ
end_text r None = []
end_text r (Some reason) = over_text r reason

abbrev pub ended_text : Recorded → List ℕ
ended_text r = end_text r r.over

abbrev pub record_text : Recorded → List ℕ
record_text r = connected_text r ⧺ ended_text r

abbrev pub records_text : List Recorded → List ℕ
records_text [] = []
records_text (r ∷ more) = record_text r ⧺ records_text more
