use Rattle.std.proofs.Common.{arith}
use Rattle.xp_scenario.proofs.LineByLine.{goes_on}
use Rattle.xp_scenario.proofs.text.draft_of.Goals as goal

pub loop-error-preserved : goal.loop-error-preserved
loop-error-preserved c =
    let parts = rw c.in-Some.is at c.first_part.ensures.parts in
    let shorter = rw c.in-Some.is at c.first_part.ensures.shorter in
    record {
      lines = goes_on c.loop-error.number c.loop-error.draft c.read_line.new.draft c.first_part.result.0.now c.loop-error.rest.now c.in-Some.more.now _ parts c.in-Ok.ensures c.loop-error.invariant.lines;
      fits = omega arith;
    }
