use Rattle.std.proofs.Common.{refl}
use Rattle.xp_protocol.specs.Linking.{with_sent, changed, settled}
use Rattle.xp_channel.proofs.Settling.{kept_thrice, last_reason, place_after, pays_after, settles_then}
use Rattle.xp_channel.proofs.end.ChannelEnd.send_control.Goals as goal

pub returns-clause-end : goal.returns-clause-end
returns-clause-end c =
    let f = with_sent c.args.kind c.args.self.now.end in
    kept_thrice f changed settled c.args.self.now c.mark_sent.new.self c.change.new.self c.settle_all.new.self c.mark_sent.ensures.end c.change.ensures.end c.settle_all.ensures.end

pub returns-clause-reason : goal.returns-clause-reason
returns-clause-reason c =
    let f = with_sent c.args.kind c.args.self.now.end in
    last_reason f settled c.args.self.now c.mark_sent.new.self c.change.new.self c.settle_all.result refl c.mark_sent.ensures.end c.change.ensures.end c.settle_all.ensures.reason

pub settle_all-requires-clause-next : goal.settle_all-requires-clause-next
settle_all-requires-clause-next c = place_after c.args.self.now c.mark_sent.new.self c.change.new.self c.requires.next c.mark_sent.ensures.next c.change.ensures.settles

pub returns-clause-pays : goal.returns-clause-pays
returns-clause-pays c =
    let settles = settles_then c.mark_sent.new.self c.change.new.self c.settle_all.new.self c.change.ensures.settles c.settle_all.ensures.settles in
    pays_after c.args.self.now c.mark_sent.new.self c.settle_all.new.self c.mark_sent.ensures.complete c.mark_sent.ensures.room c.mark_sent.ensures.next settles
