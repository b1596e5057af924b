use Rattle.std.proofs.Common.{length}
use Rattle.xp_tests_bytes.proofs.dumps.read.Given as goal

abbrev pub decreases-loop-left : goal.decreases-loop-left
decreases-loop-left l = length l.left
