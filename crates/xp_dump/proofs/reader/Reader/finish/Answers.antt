use Rattle.xp_dump.proofs.Back.{finished, read_back}
use Rattle.xp_dump.proofs.reader.Reader.finish.Goals as goal

pub returns-clause-back : goal.returns-clause-back
returns-clause-back c m e g =
    read_back m c.args.self c.finish.result
    (finished c.args.self c.self.inside.fault c.self.inside.read c.self.inside.tape c.finish.result
    c.self.view_is c.in-None.is c.self.invariant c.finish.ensures) e g
