use Rattle.std.proofs.Common.{arith}
use Rattle.xp_dump.proofs.Taking.{still_going, taken_past, read_more, read_word}
use Rattle.xp_dump.proofs.tape.Tape.take_byte.Goals as goal

pub returns-in-Some-clause-step : goal.returns-in-Some-clause-step
returns-in-Some-clause-step c came r =
    taken_past came _ c.args.self.now c.args.self.now c.in-Some.fault r
    (omega arith) c.in-Some.ensures

pub returns-then-self-lt-WORD_BYTES-clause-step : goal.returns-then-self-lt-WORD_BYTES-clause-step
returns-then-self-lt-WORD_BYTES-clause-step c came r =
    read_more came c.args.self.now c.args.byte (omega arith) r
    (still_going c.fault_past.result c.args.self.now c.fault_past.ensures c.in_default.is)
    c.if-self-lt-WORD_BYTES.true

pub returns-clause-step : goal.returns-clause-step
returns-clause-step c came r =
    read_word came c.args.self.now c.args.byte c.read_u64-word.result c.put.new.self c.put.result
    (omega arith) r
    (still_going c.fault_past.result c.args.self.now c.fault_past.ensures c.in_default.is)
    (omega arith) c.read_u64-word.ensures c.put.ensures.step
