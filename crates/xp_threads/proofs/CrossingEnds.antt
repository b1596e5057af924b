-- An end of a channel may go to another thread.
use denote.Param.Send.{IsSend, sendable, view_send}
use denote.Param.SendFields.{declared_send}
use Rattle.std.proofs.Crossing.{crosses}
use Rattle.xp_base.specs.contracts.answer.SendAnswer as SendAnswer
use Rattle.xp_base.specs.contracts.answer.ReleaseAnswer as ReleaseAnswer
use Rattle.xp_base.specs.contracts.answer.DrainAnswer as DrainAnswer
use Rattle.xp_protocol.specs.contracts.refusal.TakeRefusal as TakeRefusal
use Rattle.xp_connections.specs.contracts.record.Record as Record
use Rattle.xp_connections.specs.contracts.records.Records as Records
use Rattle.xp_sides.specs.contracts.sides.There as There
use Rattle.xp_sides.specs.contracts.sides.Sides as Sides
use Rattle.xp_openclose.specs.contracts.handshake.Handshake as Handshake
use Rattle.xp_channel.specs.contracts.end.Decided as Decided
use Rattle.xp_channel.specs.contracts.end.ChannelEnd as ChannelEnd
use Rattle.xp_channel.specs.contracts.end.ChannelEnd.TheInside as EndInside
use Rattle.xp_threads.proofs.CrossingWords.{reason_send, body_send, id_send, channel_send}

pub record_send : IsSend Record.the_row
record_send = search (reason_send, body_send, id_send, channel_send, sendable, crosses) depth 30 fits 20000

pub records_send : IsSend Records.the_row
records_send = search (record_send, reason_send, id_send, channel_send, sendable, crosses) depth 30 fits 20000

pub there_send : IsSend There.the_row
there_send = search (body_send, sendable, crosses) depth 30 fits 20000

pub sides_send : IsSend Sides.the_row
sides_send = search (there_send, sendable, crosses) depth 30

pub handshake_send : IsSend Handshake.the_row
handshake_send = search (reason_send, sendable, crosses) depth 30 fits 20000

pub send_answer_send : IsSend SendAnswer.the_row
send_answer_send = search (reason_send, sendable) depth 30 fits 20000

refusal_send : IsSend TakeRefusal.the_row
refusal_send = search (reason_send, sendable) depth 30 fits 20000

pub release_answer_send : IsSend ReleaseAnswer.the_row
release_answer_send = search sendable depth 30 fits 20000

pub drain_answer_send : IsSend DrainAnswer.the_row
drain_answer_send = search (reason_send, sendable) depth 30 fits 20000

decided_send : IsSend Decided.the_row
decided_send =
    declared_send Decided.the_type (search (send_answer_send, sendable, crosses) depth 30, (search (refusal_send, sendable, crosses) depth 30, (search (release_answer_send, sendable, crosses) depth 30, (search (drain_answer_send, sendable, crosses) depth 30, (search (sendable, crosses) depth 30, (search (sendable, crosses) depth 30, tt))))))

inside_send : IsSend EndInside.the_row
inside_send =
    declared_send EndInside.the_type (search (sendable, crosses) depth 30, (search (id_send, sendable, crosses) depth 30, (search (sendable, crosses) depth 30, (search (sendable, crosses) depth 30, (search (handshake_send, sendable, crosses) depth 30, (search (sides_send, sendable, crosses) depth 30, (search (sendable, crosses) depth 30, (search (sendable, crosses) depth 30, (search (decided_send, sendable, crosses) depth 30, (search (sendable, crosses) depth 30, (search (records_send, sendable, crosses) depth 30, tt)))))))))))

pub end_send : IsSend ChannelEnd.the_row
end_send = search (inside_send, view_send)
