-- A job may go to another thread.
use denote.Ref.{NamedLft}
use denote.Param.Send.{IsSend, sendable}
use denote.Param.SendFields.{declared_send}
use Rattle.std.proofs.Crossing.{crosses}
use Rattle.atomic_table.proofs.shared.Seat.TheSendSync.{the_send as seat_send}
use Rattle.xp_fabric.proofs.shared.SharedMemory.TheSendSync.{the_sync as memory_sync}
use Rattle.xp_fabric.specs.contracts.shared.Pass as Pass
use Rattle.xp_fabric.specs.contracts.shared.Port as Port
use Rattle.xp_threads.specs.contracts.jobs.Job as Job
use Rattle.xp_threads.proofs.CrossingNodes.{node_send}

pass_send : IsSend Pass.the_row
pass_send = search (seat_send, sendable, crosses) depth 30 fits 20000

port_send : (κ : NamedLft) → IsSend (Port.the_row κ)
port_send κ = declared_send (Port.the_type κ) (search (memory_sync, sendable) depth 30, (pass_send, tt))

pub job_send : (κ : NamedLft) → IsSend (Job.the_row κ)
job_send κ = declared_send (Job.the_type κ) (node_send, (port_send κ, (search sendable depth 30, tt)))
