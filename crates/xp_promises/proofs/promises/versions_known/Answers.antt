use Rattle.xp_promises.proofs.Known.{versions_known, versions_agree}
use Rattle.xp_promises.proofs.promises.versions_known.Goals as goal

pub returns-clause-known : goal.returns-clause-known
returns-clause-known c = versions_known

pub returns-clause-agree : goal.returns-clause-agree
returns-clause-agree c = versions_agree
