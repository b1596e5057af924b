use Rattle.std.proofs.Common.{length}
use Rattle.xp_threads.proofs.JobLemmas.{SomeParted}
use Rattle.xp_threads.proofs.jobs.parts_of.Given as goal

abbrev pub invariant-loop-job : goal.invariant-loop-job
invariant-loop-job l = SomeParted l.initial.jobs.items l.jobs.items l.nodes.items l.passes.items

abbrev pub decreases-loop-job : goal.decreases-loop-job
decreases-loop-job l = length l.jobs.items
