use Rattle.xp_acts.specs.Noticing.{Notices}
use Rattle.xp_acts.proofs.Given.{notices_then, given_some}
use Rattle.xp_acts.proofs.noticing.deliver_all.Goals as goal

pub deliveries-preserved : goal.deliveries-preserved
deliveries-preserved c =
    notices_then c.args.keeping.now c.deliveries.keeping c.deliver.new.keeping c.deliveries.invariant
    (given_some (Notices c.deliveries.keeping c.deliver.new.keeping) c.deliver.result c.is_none.result c.is_none.ensures c.if-is_none.false c.deliver.ensures.some)
