-- A node may go to another thread.
use denote.Param.Send.{IsSend, sendable, view_send}
use denote.Param.SendFields.{declared_send}
use Rattle.std.proofs.Crossing.{crosses}
use Rattle.xp_engage.specs.contracts.partner.PartnerEnd as PartnerEnd
use Rattle.xp_engage.specs.contracts.partner.PartnerEnd.TheInside as StandingInside
use Rattle.xp_partner.specs.contracts.partner.Partner as Partner
use Rattle.xp_partition.specs.contracts.keeping.Keeping as Keeping
use Rattle.xp_partition.specs.contracts.partners.Partners as Partners
use Rattle.xp_partition.specs.contracts.partition.Partition as Partition
use Rattle.xp_planner.specs.contracts.planner.Planner as Planner
use Rattle.xp_script.specs.contracts.log.Entry as Entry
use Rattle.xp_node.specs.contracts.journal.Journal as Journal
use Rattle.xp_node.specs.contracts.turn.Waiting as Waiting
use Rattle.xp_node.specs.contracts.node.Node as Node
use Rattle.xp_node.specs.contracts.node.Node.TheInside as NodeInside
use Rattle.xp_script.specs.contracts.log.LogAnswer as LogAnswer
use Rattle.xp_script.specs.contracts.log.OnlineAnswer as OnlineAnswer
use Rattle.xp_base.specs.contracts.answer.RegisterAnswer as RegisterAnswer
use Rattle.xp_base.specs.contracts.answer.TakeAnswer as TakeAnswer
use Rattle.xp_base.specs.contracts.answer.TransmitAnswer as TransmitAnswer
use Rattle.xp_base.specs.contracts.answer.UnregisterAnswer as UnregisterAnswer
use Rattle.xp_threads.proofs.CrossingWords.{reason_send, body_send, id_send, part_send}
use Rattle.xp_threads.proofs.CrossingEnds.{send_answer_send, release_answer_send, drain_answer_send, end_send}

standing_inside : IsSend StandingInside.the_row
standing_inside =
    declared_send StandingInside.the_type (search (id_send, sendable, crosses) depth 30, (search (id_send, sendable, crosses) depth 30, (search (sendable, crosses) depth 30, (search (sendable, crosses) depth 30, (search (sendable, crosses) depth 30, (search (sendable, crosses) depth 30, (search (sendable, crosses) depth 30, (search (sendable, crosses) depth 30, (search (sendable, crosses) depth 30, (search (sendable, crosses) depth 30, (search (sendable, crosses) depth 30, (search (sendable, crosses) depth 30, (search (reason_send, sendable, crosses) depth 30, (search (sendable, crosses) depth 30, (search (sendable, crosses) depth 30, (search (sendable, crosses) depth 30, (search (sendable, crosses) depth 30, (search (sendable, crosses) depth 30, tt))))))))))))))))))

standing_send : IsSend PartnerEnd.the_row
standing_send = search (standing_inside, view_send)

partner_send : IsSend Partner.the_row
partner_send = search (standing_send, end_send, sendable, crosses) depth 30 fits 20000

partners_send : IsSend Partners.the_row
partners_send = search (partner_send, sendable, crosses) depth 30 fits 20000

keeping_send : IsSend Keeping.the_row
keeping_send =
    declared_send Keeping.the_type (search (part_send, sendable, crosses) depth 30, (search (sendable, crosses) depth 30, (search (sendable, crosses) depth 30, (search (sendable, crosses) depth 30, (search (sendable, crosses) depth 30, (search (sendable, crosses) depth 30, (search (sendable, crosses) depth 30, (search (sendable, crosses) depth 30, (search (partners_send, sendable, crosses) depth 30, tt)))))))))

planner_send : IsSend Planner.the_row
planner_send = search (sendable, crosses) depth 30

partition_send : IsSend Partition.the_row
partition_send = declared_send Partition.the_type (keeping_send, (planner_send, tt))

take_answer_send : IsSend TakeAnswer.the_row
take_answer_send = search (reason_send, body_send, sendable) depth 30 fits 20000

register_answer_send : IsSend RegisterAnswer.the_row
register_answer_send = search sendable depth 30

unregister_answer_send : IsSend UnregisterAnswer.the_row
unregister_answer_send = search sendable depth 30

transmit_answer_send : IsSend TransmitAnswer.the_row
transmit_answer_send = search sendable depth 30

online_answer_send : IsSend OnlineAnswer.the_row
online_answer_send = search sendable depth 30

log_answer_send : IsSend LogAnswer.the_row
log_answer_send = search (register_answer_send, unregister_answer_send, reason_send, send_answer_send, take_answer_send, release_answer_send, drain_answer_send, transmit_answer_send, online_answer_send, sendable) depth 60 fits 50000

entry_send : IsSend Entry.the_row
entry_send =
    declared_send Entry.the_type (search (sendable, crosses) depth 30, (search (sendable, crosses) depth 30, (search (sendable, crosses) depth 30, (search (log_answer_send, sendable, crosses) depth 30, tt))))

journal_send : IsSend Journal.the_row
journal_send = search (entry_send, sendable, crosses) depth 30 fits 20000

waiting_send : IsSend Waiting.the_row
waiting_send = search (entry_send, sendable, crosses) depth 30 fits 20000

inside_send : IsSend NodeInside.the_row
inside_send =
    declared_send NodeInside.the_type (partition_send, (journal_send, (search (waiting_send, sendable, crosses) depth 30, (search (partition_send, sendable, crosses) depth 30, (search (sendable, crosses) depth 30, (search (sendable, crosses) depth 30, tt))))))

pub node_send : IsSend Node.the_row
node_send = search (inside_send, view_send)
