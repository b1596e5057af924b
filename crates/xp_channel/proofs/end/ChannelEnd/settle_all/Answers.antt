use Rattle.std.proofs.Common.{sym, ◌∙◌}
use Rattle.xp_protocol.specs.Linking.{settle, settled, connection_noted}
use Rattle.xp_channel.proofs.Settling.{kept_then, kept_plain, reason_alone}
use Rattle.xp_channel.proofs.end.ChannelEnd.settle_all.Goals as goal

pub returns-clause-end : goal.returns-clause-end
unfolding settled
returns-clause-end c =
    let x = c.args.self.now in
    let y = c.settle-reason.new.self in
    let z = c.note_connection.new.self in
    kept_then (settle 6 x.end) connection_noted x y z c.settle-reason.ensures.end (kept_plain (connection_noted y.end) y z c.note_connection.ensures)

pub returns-clause-reason : goal.returns-clause-reason
unfolding settled
returns-clause-reason c = c.settle-reason.ensures.reason ∙ sym (reason_alone (settle 6 c.args.self.now.end).reason)
