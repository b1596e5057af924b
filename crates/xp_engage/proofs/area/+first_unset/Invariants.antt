use Rattle.xp_engage.proofs.area.+first_unset.Given as goal

abbrev pub decreases-first_unset : goal.decreases-first_unset
decreases-first_unset l = l.count
