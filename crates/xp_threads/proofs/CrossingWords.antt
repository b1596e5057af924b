-- Reasons, bodies and a partition's part of the scenario may go to another thread.
use denote.Param.Send.{IsSend, sendable}
use denote.Param.SendFields.{declared_send}
use Rattle.std.proofs.Crossing.{crosses}
use Rattle.xp_base.specs.contracts.body.Body as Body
use Rattle.xp_base.specs.contracts.ids.Channel as Channel
use Rattle.xp_base.specs.contracts.ids.PartId as PartId
use Rattle.xp_base.specs.contracts.reason.Reason as Reason
use Rattle.xp_script.specs.contracts.command.Command as Command
use Rattle.xp_script.specs.contracts.count.Count as Count
use Rattle.xp_script.specs.contracts.part.Links as Links
use Rattle.xp_script.specs.contracts.part.Moments as Moments
use Rattle.xp_script.specs.contracts.part.ScenarioPart as ScenarioPart
use Rattle.xp_script.specs.contracts.payload.Payload as Payload
use Rattle.xp_script.specs.contracts.script.Boots as Boots
use Rattle.xp_script.specs.contracts.script.Script as Script
use Rattle.xp_script.specs.contracts.setting.Faults as Faults
use Rattle.xp_script.specs.contracts.setting.Minors as Minors
use Rattle.xp_script.specs.contracts.setting.Moment as Moment

pub reason_send : IsSend Reason.the_row
reason_send = search (sendable, crosses) depth 30

pub body_send : IsSend Body.the_row
body_send = search (sendable, crosses) depth 30

pub id_send : IsSend PartId.the_row
id_send = search sendable depth 30

pub channel_send : IsSend Channel.the_row
channel_send = search sendable depth 30

payload_send : IsSend Payload.the_row
payload_send = search (sendable, crosses) depth 30

command_send : IsSend Command.the_row
command_send = search (payload_send, id_send, channel_send, sendable) depth 30 fits 20000

script_send : IsSend Script.the_row
script_send = search (command_send, sendable, crosses) depth 30

boots_send : IsSend Boots.the_row
boots_send = search (script_send, sendable, crosses) depth 30

links_send : IsSend Links.the_row
links_send = search (id_send, channel_send, sendable, crosses) depth 30

minors_send : IsSend Minors.the_row
minors_send = search (id_send, sendable, crosses) depth 30

faults_send : IsSend Faults.the_row
faults_send = search (id_send, sendable, crosses) depth 30

moment_send : IsSend Moment.the_row
moment_send = search sendable depth 30

moments_send : IsSend Moments.the_row
moments_send = search (moment_send, sendable, crosses) depth 30

count_send : IsSend Count.the_row
count_send = search sendable depth 30

pub part_send : IsSend ScenarioPart.the_row
part_send =
    declared_send ScenarioPart.the_type (search (id_send, sendable, crosses) depth 30, (search (count_send, sendable, crosses) depth 30, (search (sendable, crosses) depth 30, (search (sendable, crosses) depth 30, (search (minors_send, sendable, crosses) depth 30, (search (links_send, sendable, crosses) depth 30, (search (faults_send, sendable, crosses) depth 30, (search (moment_send, sendable, crosses) depth 30, (search (moments_send, sendable, crosses) depth 30, (search (boots_send, sendable, crosses) depth 30, tt))))))))))
