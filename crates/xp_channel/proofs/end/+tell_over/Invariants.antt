use Rattle.std.proofs.Common.{length}
use Rattle.xp_channel.proofs.end.+tell_over.Given as goal

abbrev pub decreases-tell_over : goal.decreases-tell_over
decreases-tell_over l = length l.sides.now.sides.pending_notices
