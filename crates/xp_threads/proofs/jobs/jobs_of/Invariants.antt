use Rattle.std.proofs.Common.{length}
use Rattle.xp_threads.proofs.JobLemmas.{SomeJobs}
use Rattle.xp_threads.proofs.jobs.jobs_of.Given as goal

abbrev pub invariant-loop-node : goal.invariant-loop-node
invariant-loop-node l = SomeJobs l.memory l.initial.nodes.items l.nodes.items l.passes.items l.jobs.items

abbrev pub decreases-loop-node : goal.decreases-loop-node
decreases-loop-node l = length l.nodes.items
