use Rattle.std.proofs.Common.{refl, sym, ◌∙◌, false, Some}
use Rattle.xp_node.specs.declared.node.Node.TheInside.{Inside}
use Rattle.xp_node.specs.Node.{answered_by}
use Rattle.xp_node.proofs.Closing.{can_end_made}
use Rattle.xp_node.proofs.Shown.{waits, fed, fed_shown, stands_then}
use Rattle.xp_node.proofs.node.Node.feed.Goals as goal

pub end_turn-answered-requires-clause-can : goal.end_turn-answered-requires-clause-can
end_turn-answered-requires-clause-can c =
    let n = c.self.inside in
    let w = c.in-Some.waiting in
    let h = waits n w (sym c.take.ensures.value ∙ c.in-Some.is) c.self.invariant in
    let x = c.make_step.ensures in
    can_end_made n.before.value n.partition c.make_step.new.partition w.entry w.rule (answered_by w.wanted c.args.answer) h.turn h.begins x.makes x.left x.untouched

pub invariant_of-self-2 : goal.invariant_of-self-2
invariant_of-self-2 c =
    let n = c.self.inside in
    let w = c.in-Some.waiting in
    let e = sym c.take.ensures.value ∙ c.in-Some.is in
    let m : Inside = record { partition = c.end_turn-answered.new.partition; journal = c.write.new.self; waiting = c.take.new.self; before = n.before; ended = c.has_ended-self-inside.result; ready = false } in
    let t = fed n m w c.make_step.new.partition c.args.answer c.end_turn-answered.result (waits n w e c.self.invariant) e c.make_step.ensures.makes c.end_turn-answered.ensures in
    stands_then m n.before.value w.entry (Some (answered_by w.wanted c.args.answer)) c.end_turn-answered.result t c.take.ensures.after c.has_ended-self-inside.ensures refl

pub returns : goal.returns
returns c =
    let n = c.self.inside in
    let w = c.in-Some.waiting in
    let e = sym c.take.ensures.value ∙ c.in-Some.is in
    let m : Inside = record { partition = c.end_turn-answered.new.partition; journal = c.write.new.self; waiting = c.take.new.self; before = n.before; ended = c.has_ended-self-inside.result; ready = false } in
    record {
      made = fed_shown n m c.args.self.now w c.make_step.new.partition c.args.answer c.end_turn-answered.result c.self.view_is (waits n w e c.self.invariant) e
          c.make_step.ensures.makes c.end_turn-answered.ensures c.take.ensures.after c.write.ensures.entries c.write.ensures.steps;
    }
