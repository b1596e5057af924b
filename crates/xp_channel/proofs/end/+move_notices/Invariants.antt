use Rattle.std.proofs.Common.{length}
use Rattle.xp_channel.proofs.end.+move_notices.Given as goal

abbrev pub decreases-move_notices : goal.decreases-move_notices
decreases-move_notices l = length l.sides.now.sides.pending_notices
