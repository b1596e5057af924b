use Rattle.xp_protocol.specs.Acts.{end_begun}
use Rattle.xp_acts.proofs.AtEnds.{put_end}
use Rattle.xp_acts.proofs.ends.begin.Goals as goal

pub returns : goal.returns
returns c =
    put_end c.args.partners.now c.touch.new.self c.args.end.partner c.args.end.channel (λ e. end_begun e c.args.command.now) c.at_mut-partner.result.now c.begin.new.self
    c.requires.partner c.requires.channel c.requires.numbered c.touch.ensures.list (c.touch.ensures.here, c.touch.ensures.others) c.at_mut-partner.ensures.value c.names.ensures
    (record { whole = c.begin.ensures.whole; end = c.begin.ensures.end; room = c.begin.ensures.room; left = c.begin.ensures.left })
