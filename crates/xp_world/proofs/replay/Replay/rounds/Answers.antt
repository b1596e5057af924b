use Rattle.std.proofs.Common.{ℕ, List, length, refl, sym, ◌∙◌, subst}
use Rattle.xp_script.specs.Turns.{one_round, some_rounds}
use Rattle.xp_world.specs.Replay.{ReplayTakes}
use Rattle.xp_world.proofs.Schedules.{some_rounds-zero, some_rounds-more}
use Rattle.xp_world.proofs.Replays.{ReplayTakes-append}
use Rattle.xp_world.proofs.replay.Replay.rounds.Goals as goal

pub loop-round-init : goal.loop-round-init
loop-round-init c =
    let w = c.args.self.now in record {
      turns = subst (λ (ps : List ℕ). ReplayTakes ps w w) (sym (some_rounds-zero (length w.nodes.items))) refl;
      ready = c.requires;
      count = refl;
    }

pub loop-round-preserved : goal.loop-round-preserved
loop-round-preserved c =
    let old = c.args.self.now in
    let mid = c.loop-round.self in
    let new = c.round.new.self in
    let count = length old.nodes.items in
    let n = c.loop-round._round in
    let round = subst (λ (k : ℕ). ReplayTakes (one_round 0 k) mid new) c.loop-round.invariant.count c.in_ok-round.ensures.ok in
    let turns = ReplayTakes-append (some_rounds count n) (one_round 0 count) old mid new c.loop-round.invariant.turns round in record {
      turns = subst (λ (ps : List ℕ). ReplayTakes ps old new) (sym (some_rounds-more count n)) turns;
      ready = c.in_ok-round.ensures.ready;
      count = c.round.ensures.count ∙ c.loop-round.invariant.count;
    }
