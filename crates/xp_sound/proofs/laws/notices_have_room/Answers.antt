use Rattle.xp_sound.proofs.States.{few_wait, has_room, history_room}
use Rattle.xp_sound.proofs.laws.notices_have_room.Goals as goal

pub returns-clause-few : goal.returns-clause-few
returns-clause-few c = few_wait

pub returns-clause-room : goal.returns-clause-room
returns-clause-room c = has_room

pub returns-clause-history : goal.returns-clause-history
returns-clause-history c = history_room
