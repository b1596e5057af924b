use Rattle.std.proofs.Common.{rules}
use Rattle.xp_planner.proofs.Going.{goes_on}
use Rattle.xp_planner.proofs.planner.Planner.next.Goals as goal

pub returns-then-is_some-clause-goes_on : goal.returns-then-is_some-clause-goes_on
returns-then-is_some-clause-goes_on g c = goes_on (g.A.Affairs.part c.args.affairs.now) (g.A.Affairs.state c.args.affairs.now) c.args.self.now _ c.requires.visit (search rules)

pub returns-then-is_some-2-clause-goes_on : goal.returns-then-is_some-2-clause-goes_on
returns-then-is_some-2-clause-goes_on g c = goes_on (g.A.Affairs.part c.args.affairs.now) (g.A.Affairs.state c.args.affairs.now) c.args.self.now _ c.requires.visit (search rules)

pub returns-else-is_some-2-clause-goes_on : goal.returns-else-is_some-2-clause-goes_on
returns-else-is_some-2-clause-goes_on g c = goes_on (g.A.Affairs.part c.args.affairs.now) (g.A.Affairs.state c.args.affairs.now) c.args.self.now _ c.requires.visit (search rules)
