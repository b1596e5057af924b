use Rattle.std.proofs.Common.{◌-◌, ℕ, List, length, take, drop, arith, subst, ◌∙◌}
use Rattle.std.specs.Io.KnownBytes.{Appends}
use Rattle.std.proofs.KnownBytes.{Appends-trans}
use Rattle.xp_outside.proofs.Lists.{take-written, fits_written}
use Rattle.xp_outside.proofs.sink.write_all.Goals as goal

pub loop-turn-preserved : goal.loop-turn-preserved
loop-turn-preserved g c =
    let bytes = c.args.bytes.now in
    let held = g.K.Sink.held in
    let part = take (length bytes - c.loop-turn.done) (drop c.loop-turn.done bytes) in
    let joined = take-written c.loop-turn.done c.in-Ok.count bytes in
    let both = Appends-trans (held c.args.sink.now) (held c.loop-turn.sink) (held c.write.new.self) (take c.loop-turn.done bytes) (take c.in-Ok.count part) c.loop-turn.invariant.appended c.in-Ok.ensures.bytes in
    record {
      appended = subst (λ (xs : List ℕ). Appends (held c.args.sink.now) (held c.write.new.self) xs) joined both;
      count = omega (arith, c.loop-turn.invariant.count, c.in-Ok.count-test);
      within = fits_written c.loop-turn.done c.in-Ok.count bytes c.loop-turn.invariant.within c.in-Ok.ensures.bound;
      faults = c.in-Ok.ensures.cause.some (omega (arith, c.in-Ok.count-test)) ∙ c.loop-turn.invariant.faults;
    }
