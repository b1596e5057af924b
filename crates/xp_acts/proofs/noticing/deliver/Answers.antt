use Rattle.xp_acts.proofs.Giving.{delivers, fewer_delivered}
use Rattle.xp_acts.proofs.noticing.deliver.Goals as goal

pub returns-clause-some : goal.returns-clause-some
returns-clause-some c =
    delivers c.deliver.result c.args.keeping.now c.args.number c.args.channel c.at_mut-partner.result.now c.deliver.new.self
    (record { can = c.requires.can; low = c.requires.channel; at = c.at_mut-partner.ensures.value; names = c.names.ensures }) c.deliver.ensures.value
    (record { whole = c.deliver.ensures.whole; end = c.deliver.ensures.end; room = c.deliver.ensures.room; left = c.deliver.ensures.left }) c.deliver.ensures.calls

pub returns-clause-fewer : goal.returns-clause-fewer
returns-clause-fewer c =
    fewer_delivered c.deliver.result c.args.keeping.now c.args.number c.args.channel c.at_mut-partner.result.now c.deliver.new.self
    (record { can = c.requires.can; low = c.requires.channel; at = c.at_mut-partner.ensures.value; names = c.names.ensures }) c.deliver.ensures.value
    (record { whole = c.deliver.ensures.whole; end = c.deliver.ensures.end; room = c.deliver.ensures.room; left = c.deliver.ensures.left })
