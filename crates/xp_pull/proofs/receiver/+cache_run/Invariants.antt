use Rattle.xp_pull.proofs.receiver.+cache_run.Given as goal

abbrev pub decreases-cache_run : goal.decreases-cache_run
decreases-cache_run l = l.run
