use Rattle.xp_acts.specs.Noticing.{Notices}
use Rattle.xp_acts.proofs.Given.{notices_then, given_some}
use Rattle.xp_acts.proofs.noticing.end_all.Goals as goal

pub ends-preserved : goal.ends-preserved
ends-preserved c =
    notices_then c.args.keeping.now c.ends.keeping c.end.new.keeping c.ends.invariant
    (given_some (Notices c.ends.keeping c.end.new.keeping) c.end.result c.is_none.result c.is_none.ensures c.if-is_none.false c.end.ensures.some)
