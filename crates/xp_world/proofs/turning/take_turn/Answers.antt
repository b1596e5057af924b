use Rattle.std.proofs.Common.{◌≡◌, List, false, ap, sym, ◌∙◌, subst}
use Rattle.std.specs.Prelude.{is_some}
use Rattle.xp_fabric.specs.Steps.{PartStep}
use Rattle.xp_fabric.specs.Views.{PlainView}
use Rattle.xp_node.specs.Node.{ended_of}
use Rattle.xp_world.specs.Turning.{TurnsPlain}
use Rattle.xp_world.proofs.Turned.{took_turn}
use Rattle.xp_world.proofs.turning.take_turn.Goals as goal

pub returns-clause-ok : goal.returns-clause-ok
returns-clause-ok c =
    let p = c.args.part in
    let old = c.args.node.now in
    let mid = c.reserve_turn.new.self in
    let new = c.turn_plain.new.node in
    let after = c.turn_plain.new.memory.history in
    let none : is_some (ended_of old) ≡ false = sym (c.is_some.ensures ∙ ap is_some c.ended.ensures) ∙ c.if-is_some.false in
    let kept = ap (λ (m : PlainView). m.history) c.in_ok-reserve.ensures.same in
    let turns = subst (λ (xs : List PartStep). TurnsPlain p mid xs new after) kept c.turn_plain.ensures.turns in
    took_turn p c.args.memory.now.history after old mid new none c.in_ok-reserve_turn.ensures.same c.in_ok-reserve_turn.ensures.room turns
