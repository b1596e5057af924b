use Rattle.xp_steps.proofs.Wants.{boot_some}
use Rattle.xp_steps.proofs.booting.wanted.Goals as goal

pub returns : goal.returns
returns c = boot_some c.args.keeping.now c.args.rule c.next.result c.in-Some.wanted c.requires.can c.requires.boots c.next.ensures.permitted c.in-Some.is
