use Rattle.std.proofs.Common.{drop, rules}
use Rattle.xp_outside.proofs.Passing.{read_on, passed_on}
use Rattle.xp_outside.proofs.source.feed_all.Goals as goal

pub returns-then-fed-limit-clause-long : goal.returns-then-fed-limit-clause-long
returns-then-fed-limit-clause-long g c _ =
    let left = g.S.Source.left in
    let read = read_on g.T.Taker.takes (left c.args.source.now) (left c.loop-turn.source) (left c.read.new.self) c.args.taker.now c.loop-turn.taker c.loop-turn.fed c.in-Ok.count c.read.new.into c.loop-turn.invariant.passed c.in-Ok.ensures.bytes.0 c.in-Ok.ensures.bound.0 in
    (read.0, read.1, search rules)

pub returns-then-fed-limit-clause-front : goal.returns-then-fed-limit-clause-front
returns-then-fed-limit-clause-front g c =
    let left = g.S.Source.left in
    let read = read_on g.T.Taker.takes (left c.args.source.now) (left c.loop-turn.source) (left c.read.new.self) c.args.taker.now c.loop-turn.taker c.loop-turn.fed c.in-Ok.count c.read.new.into c.loop-turn.invariant.passed c.in-Ok.ensures.bytes.0 c.in-Ok.ensures.bound.0 in
    (read.0, read.1, search rules)

pub returns-in-Err-take-clause-front : goal.returns-in-Err-take-clause-front
returns-in-Err-take-clause-front g c =
    let left = g.S.Source.left in
    let read = read_on g.T.Taker.takes (left c.args.source.now) (left c.loop-turn.source) (left c.read.new.self) c.args.taker.now c.loop-turn.taker c.loop-turn.fed c.in-Ok.count c.read.new.into c.loop-turn.invariant.passed c.in-Ok.ensures.bytes.0 c.in-Ok.ensures.bound.0 in
    (read.0, read.1, search rules)

pub loop-turn-preserved : goal.loop-turn-preserved
loop-turn-preserved g c =
    let left = g.S.Source.left in
    record {
      passed = passed_on g.T.Taker.takes (left c.args.source.now) (left c.loop-turn.source) (left c.read.new.self) c.args.taker.now c.loop-turn.taker c.take.new.self c.loop-turn.fed c.in-Ok.count c.read.new.into (drop c.min-most.result c.loop-turn.piece) g.met.T.Taker.joined c.loop-turn.invariant.passed c.in-Ok.ensures.bytes.0 c.in-Ok.ensures.bound.0 c.in-Ok-take.ensures;
      count = search rules;
      within = search rules;
      piece = search rules;
      faults = search rules;
    }
