use denote.Param.Send.{sendable}
use Rattle.xp_threads.proofs.CrossingJobs.{job_send}
use Rattle.xp_threads.proofs.jobs.do_all.Goals as goal

pub for_each_mut-requires-send-T : goal.for_each_mut-requires-send-T
for_each_mut-requires-send-T g c κs within = search (job_send, sendable) depth 30 fits 20000
