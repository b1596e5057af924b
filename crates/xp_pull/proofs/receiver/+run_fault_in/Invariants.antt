use Rattle.xp_pull.proofs.receiver.+run_fault_in.Given as goal

abbrev pub decreases-run_fault_in : goal.decreases-run_fault_in
decreases-run_fault_in l = l.run
