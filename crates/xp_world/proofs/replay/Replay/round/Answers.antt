use Rattle.std.proofs.Common.{ℕ, List, refl, sym, ◌∙◌, subst}
use Rattle.xp_script.specs.Turns.{one_round}
use Rattle.xp_world.specs.Replay.{ReplayTurns, ReplayTakes}
use Rattle.xp_world.proofs.Schedules.{one_round-zero, one_round-more}
use Rattle.xp_world.proofs.Replays.{ReplayTakes-push}
use Rattle.xp_world.proofs.replay.Replay.round.Goals as goal

pub loop-number-init : goal.loop-number-init
loop-number-init c =
    let w = c.args.self.now in record {
      turns = subst (λ (ps : List ℕ). ReplayTakes ps w w) (sym (one_round-zero 0)) refl;
      ready = c.requires;
      count = refl;
    }

pub loop-number-preserved : goal.loop-number-preserved
loop-number-preserved c =
    let old = c.args.self.now in
    let new = c.turn.new.self in
    let n = c.loop-number.number in
    let turn = subst (λ (p : ℕ). ReplayTurns c.loop-number.self new p) c.known.ensures c.in_ok-turn.ensures.ok in
    let turns = ReplayTakes-push (one_round 0 n) n old c.loop-number.self new c.loop-number.invariant.turns turn in record {
      turns = subst (λ (ps : List ℕ). ReplayTakes ps old new) (sym (one_round-more n)) turns;
      ready = c.in_ok-turn.ensures.ready;
      count = c.turn.ensures.count ∙ c.loop-number.invariant.count;
    }
