use Rattle.std.proofs.Common.{◌≡◌, refl, subst, true}
use Rattle.xp_node.specs.declared.node.Node.TheInside.{Inside}
use Rattle.xp_node.specs.Node.{NodeView}
use Rattle.xp_node.specs.NodeInside.{view_of}
use Rattle.xp_node.proofs.Shown.{not_ready, reserved_view}
use Rattle.xp_node.proofs.node.Node.reserve_turn.Goals as goal

pub returns-in_err-reserve-clause-same : goal.returns-in_err-reserve-clause-same
returns-in_err-reserve-clause-same c =
    let n = c.self.inside in
    let m : Inside = record n { partition = c.reserve.new.self } in
    let s = not_ready n c.self.invariant c.if-self.false in
    let x = c.reserve.ensures in
    subst (λ (v : NodeView). view_of m ≡ record v { room = (view_of m).room }) c.self.view_is
    (reserved_view n m s.0 refl s.1.idle.partition.kept x.state x.visit x.part x.same refl refl)

pub returns-in_err-reserve-2-clause-same : goal.returns-in_err-reserve-2-clause-same
returns-in_err-reserve-2-clause-same c =
    let n = c.self.inside in
    let m : Inside = record n { partition = c.reserve.new.self; journal = c.reserve-2.new.self } in
    let s = not_ready n c.self.invariant c.if-self.false in
    let x = c.reserve.ensures in
    subst (λ (v : NodeView). view_of m ≡ record v { room = (view_of m).room }) c.self.view_is
    (reserved_view n m s.0 refl s.1.idle.partition.kept x.state x.visit x.part x.same c.reserve-2.ensures.entries c.reserve-2.ensures.steps)

pub returns-clause-same : goal.returns-clause-same
returns-clause-same c =
    let n = c.self.inside in
    let m : Inside = record n { partition = c.reserve.new.self; journal = c.reserve-2.new.self; ready = true } in
    let s = not_ready n c.self.invariant c.if-self.false in
    let x = c.reserve.ensures in
    subst (λ (v : NodeView). view_of m ≡ record v { room = (view_of m).room }) c.self.view_is
    (reserved_view n m s.0 refl s.1.idle.partition.kept x.state x.visit x.part x.same c.reserve-2.ensures.entries c.reserve-2.ensures.steps)
