use Rattle.xp_dump.proofs.Back.{fed_back}
use Rattle.xp_dump.proofs.Feeding.{faulted, standing}
use Rattle.xp_dump.proofs.reader.Reader.feed.Goals as goal

pub returns-in-Err-clause-fed : goal.returns-in-Err-clause-fed
returns-in-Err-clause-fed c =
    let came = standing c.self.inside.fault c.self.inside.read c.self.inside.tape c.in_default.is
    c.self.invariant in
    faulted c.args.self.now c.self.inside.fault c.self.inside.read c.args.piece.now c.in-Err.fault
    c.self.view_is c.in_default.is
    (c.in-Err.ensures.step c.self.inside.read came.1)

pub returns-in-Err-clause-dumped : goal.returns-in-Err-clause-dumped
returns-in-Err-clause-dumped c m rest g e = fed_back m c.args.self.now _ c.args.piece.now rest _
    (returns-in-Err-clause-fed c) g e
