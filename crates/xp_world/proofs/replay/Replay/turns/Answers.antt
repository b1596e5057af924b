use Rattle.std.proofs.Common.{ℕ, List, replicate, sym, ◌∙◌, subst}
use Rattle.xp_world.specs.Replay.{ReplayTakes}
use Rattle.xp_world.proofs.Schedules.{turns-more}
use Rattle.xp_world.proofs.Replays.{ReplayTakes-push}
use Rattle.xp_world.proofs.replay.Replay.turns.Goals as goal

pub loop-turn-preserved : goal.loop-turn-preserved
loop-turn-preserved c =
    let old = c.args.self.now in
    let mid = c.loop-turn.self in
    let new = c.turn.new.self in
    let p = c.args.part in
    let n = c.loop-turn._turn in
    let turns = ReplayTakes-push (replicate n p) p old mid new c.loop-turn.invariant.turns c.in_ok-turn.ensures.ok in record {
      turns = subst (λ (ps : List ℕ). ReplayTakes ps old new) (sym (turns-more p n)) turns;
      ready = c.in_ok-turn.ensures.ready;
      count = c.turn.ensures.count ∙ c.loop-turn.invariant.count;
    }
