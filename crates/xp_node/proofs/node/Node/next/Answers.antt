use Rattle.std.proofs.Common.{◌≡◌, ℕ, refl, sym, ◌∙◌, ap, subst, false, Option, Some, None}
use Rattle.xp_base.specs.declared.step.Wanted.{Wanted}
use Rattle.xp_protocol.specs.declared.rule.Rule.{Rule}
use Rattle.xp_partition.specs.Keeping.{state_of}
use Rattle.xp_node.specs.declared.node.Node.TheInside.{Inside}
use Rattle.xp_node.specs.declared.turn.Waiting.{Waiting}
use Rattle.xp_node.specs.Node.{NodeView, MakesTurn}
use Rattle.xp_node.specs.NodeInside.{view_of}
use Rattle.xp_node.specs.Turning.{Begins, Ends}
use Rattle.xp_node.proofs.Closing.{can_end_begun}
use Rattle.xp_node.proofs.Shown.{ready_of, waits_then, step_wanted, waiting_view, passed, passed_made, stands_then}
use Rattle.xp_node.proofs.node.Node.next.Goals as goal

pub invariant_of-self : goal.invariant_of-self
invariant_of-self c =
    let n = c.self.inside in
    let h = ready_of n c.args.self.now c.self.view_is c.self.invariant c.requires.room c.requires.running c.requires.idle in
    let w : Waiting = record { rule = c.in-Some.rule; wanted = c.wanted.result; entry = c.begin_turn-begun.result.entry; earlier = c.puts-earlier.result } in
    let m : Inside = record { partition = c.begin_turn-begun.new.partition; journal = n.journal; waiting = Some w; before = c.of-before.result; ended = n.ended; ready = n.ready } in
    let x = c.begin_turn-begun in
    waits_then n m w x.result.rule h c.of-before.ensures c.in-Some.is x.ensures.begins x.ensures.can x.ensures.room c.wanted.ensures c.puts-earlier.ensures refl refl refl

pub end_turn-answer-requires-clause-can : goal.end_turn-answer-requires-clause-can
end_turn-answer-requires-clause-can c =
    let n = c.self.inside in
    let h = ready_of n c.args.self.now c.self.view_is c.self.invariant c.requires.room c.requires.running c.requires.idle in
    let x = c.begin_turn-begun in
    can_end_begun n.partition x.new.partition x.result.entry x.result.rule h.room.turn x.ensures.begins x.ensures.room

pub invariant_of-self-in-None-1 : goal.invariant_of-self-in-None-1
invariant_of-self-in-None-1 c =
    let n = c.self.inside in
    let h = ready_of n c.args.self.now c.self.view_is c.self.invariant c.requires.room c.requires.running c.requires.idle in
    let m : Inside = record { partition = c.end_turn-answer.new.partition; journal = c.write.new.self; waiting = n.waiting; before = n.before; ended = c.has_ended-self-inside.result; ready = false } in
    let x = c.begin_turn-begun in
    let b = subst (λ (o : Option Rule). Begins n.partition.keeping.part (state_of n.partition.keeping) n.partition x.new.partition x.result.entry o) c.in-None.is x.ensures.begins in
    let t = passed n m x.new.partition x.result.entry c.end_turn-answer.result h.stands h.running b
    (subst (λ (k : ℕ). Ends x.new.partition.keeping.part (state_of x.new.partition.keeping) k x.new.partition m.partition c.end_turn-answer.result) c.puts-earlier.ensures c.end_turn-answer.ensures) in
    stands_then m n.partition x.result.entry None c.end_turn-answer.result t h.waiting c.has_ended-self-inside.ensures refl

pub returns-in-Some-clause-some : goal.returns-in-Some-clause-some
returns-in-Some-clause-some c =
    let n = c.self.inside in
    let h = ready_of n c.args.self.now c.self.view_is c.self.invariant c.requires.room c.requires.running c.requires.idle in
    let w : Waiting = record { rule = c.in-Some.rule; wanted = c.wanted.result; entry = c.begin_turn-begun.result.entry; earlier = c.puts-earlier.result } in
    let m : Inside = record { partition = c.begin_turn-begun.new.partition; journal = n.journal; waiting = Some w; before = c.of-before.result; ended = n.ended; ready = n.ready } in
    subst (λ (v : NodeView). view_of m ≡ record v { waiting = Some c.wanted-wanted.result }) c.self.view_is
    (waiting_view n m w h.waiting refl c.of-before.ensures refl refl ∙ ap (λ (x : Wanted). record (view_of n) { waiting = Some x }) (sym c.wanted-wanted.ensures))

pub returns-in-Some-clause-step : goal.returns-in-Some-clause-step
returns-in-Some-clause-step c =
    let n = c.self.inside in
    let h = ready_of n c.args.self.now c.self.view_is c.self.invariant c.requires.room c.requires.running c.requires.idle in
    let x = c.begin_turn-begun in
    step_wanted n c.args.self.now x.new.partition c.in-Some.rule c.wanted-wanted.result x.result.entry x.result.rule c.self.view_is h c.in-Some.is x.ensures.begins x.ensures.can (c.wanted-wanted.ensures ∙ c.wanted.ensures)

pub returns-in-None-clause-none : goal.returns-in-None-clause-none
returns-in-None-clause-none c =
    let n = c.self.inside in
    let h = ready_of n c.args.self.now c.self.view_is c.self.invariant c.requires.room c.requires.running c.requires.idle in
    let m : Inside = record { partition = c.end_turn-answer.new.partition; journal = c.write.new.self; waiting = n.waiting; before = n.before; ended = c.has_ended-self-inside.result; ready = false } in
    let x = c.begin_turn-begun in
    let b = subst (λ (o : Option Rule). Begins n.partition.keeping.part (state_of n.partition.keeping) n.partition x.new.partition x.result.entry o) c.in-None.is x.ensures.begins in
    subst (λ (v : NodeView). MakesTurn v (view_of m) None) c.self.view_is
    (passed_made n m x.new.partition x.result.entry c.end_turn-answer.result h.stands h.waiting h.running b
    (subst (λ (k : ℕ). Ends x.new.partition.keeping.part (state_of x.new.partition.keeping) k x.new.partition m.partition c.end_turn-answer.result) c.puts-earlier.ensures c.end_turn-answer.ensures)
    h.waiting c.write.ensures.entries c.write.ensures.steps)
