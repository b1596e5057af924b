use Rattle.xp_acts.proofs.Giving.{ends, fewer_ended}
use Rattle.xp_acts.proofs.noticing.end.Goals as goal

pub returns-clause-some : goal.returns-clause-some
returns-clause-some c =
    ends c.end_notice.result c.args.keeping.now c.args.number c.args.channel c.at_mut-partner.result.now c.end_notice.new.self
    (record { can = c.requires.can; low = c.requires.channel; at = c.at_mut-partner.ensures.value; names = c.names.ensures }) c.end_notice.ensures.value
    (record { whole = c.end_notice.ensures.whole; end = c.end_notice.ensures.end; room = c.end_notice.ensures.room; left = c.end_notice.ensures.left })

pub returns-clause-fewer : goal.returns-clause-fewer
returns-clause-fewer c =
    fewer_ended c.end_notice.result c.args.keeping.now c.args.number c.args.channel c.at_mut-partner.result.now c.end_notice.new.self
    (record { can = c.requires.can; low = c.requires.channel; at = c.at_mut-partner.ensures.value; names = c.names.ensures }) c.end_notice.ensures.value
    (record { whole = c.end_notice.ensures.whole; end = c.end_notice.ensures.end; room = c.end_notice.ensures.room; left = c.end_notice.ensures.left })
