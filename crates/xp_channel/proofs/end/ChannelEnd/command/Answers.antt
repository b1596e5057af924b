use Rattle.xp_protocol.specs.Acts.{end_begun}
use Rattle.xp_channel.specs.Linked.{command_of}
use Rattle.xp_channel.proofs.Settling.{room_after}
use Rattle.xp_channel.proofs.end.ChannelEnd.command.Goals as goal

pub answer_of-answer-requires-clause-room : goal.answer_of-answer-requires-clause-room
answer_of-answer-requires-clause-room c =
    let x = c.args.self.now in
    room_after (end_begun x.end (command_of x.partner x.channel c.args.command)) x c.begin_link.new.self c.begin_link.ensures.end c.begin_link.ensures.sent c.requires.calls c.begin_link.ensures.calls c.requires.room
