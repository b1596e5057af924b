use Rattle.xp_partner.proofs.Reserving.{rooms_none}
use Rattle.xp_partner.proofs.ends.have_turn_room.Goals as goal

pub returns-clause-no : goal.returns-clause-no
returns-clause-no c =
    rooms_none c.args.ends.now _ _ _ _ c.has_turn_room-first.result c.has_turn_room-second.result c.has_turn_room-third.result c.has_turn_room-fourth.result c.are_all.result
    c.type_inv.ends c.are_all.ensures c.has_turn_room-first.ensures.no c.has_turn_room-second.ensures.no c.has_turn_room-third.ensures.no c.has_turn_room-fourth.ensures.no
