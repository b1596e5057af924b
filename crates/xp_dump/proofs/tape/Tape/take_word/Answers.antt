use Rattle.std.proofs.Common.{arith}
use Rattle.xp_dump.proofs.Taking.{still_going, taken_past, read_eight}
use Rattle.xp_dump.proofs.tape.Tape.take_word.Goals as goal

pub returns-in-Some-clause-step : goal.returns-in-Some-clause-step
returns-in-Some-clause-step c came r =
    taken_past came c.args.bytes.now c.args.self.now c.args.self.now c.in-Some.fault r
    (omega arith) c.in-Some.ensures

pub returns-clause-step : goal.returns-clause-step
returns-clause-step c came r =
    read_eight came c.args.bytes.now c.args.self.now c.read_u64-word.result c.put.new.self
    c.put.result c.requires.whole
    c.requires.none r (still_going c.fault_past.result c.args.self.now c.fault_past.ensures
    c.in_default.is) c.read_u64-word.ensures c.put.ensures.step
