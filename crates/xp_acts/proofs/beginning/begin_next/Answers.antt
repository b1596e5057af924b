use Rattle.std.proofs.Common.{ℕ, ap, ◌∙◌}
use Rattle.xp_base.specs.History.{Begun}
use Rattle.xp_protocol.specs.Acts.{script_acted}
use Rattle.xp_acts.proofs.Begun.{next_is, next_formed, next_named, countable, begun_acts}
use Rattle.xp_acts.proofs.beginning.begin_next.Goals as goal

pub begin_command-requires-clause-formed : goal.begin_command-requires-clause-formed
begin_command-requires-clause-formed c =
    let x = c.args.keeping.now in
    next_formed x x.script.begun c.in-Some.command.now c.requires.kept (next_is x c.in-Some.command.now c.boots-boot.result c.begun.result c.in-Some.ensures c.boots-boot.ensures c.begun.ensures)

pub begin_command-requires-clause-end : goal.begin_command-requires-clause-end
begin_command-requires-clause-end c =
    let x = c.args.keeping.now in
    λ n h. next_named x x.script.begun c.in-Some.command.now n c.requires.kept (next_is x c.in-Some.command.now c.boots-boot.result c.begun.result c.in-Some.ensures c.boots-boot.ensures c.begun.ensures) h

pub begin_command-requires-clause-counts : goal.begin_command-requires-clause-counts
begin_command-requires-clause-counts c = λ q d. countable c.args.keeping.now q d c.requires.counts

pub returns-clause-acts : goal.returns-clause-acts
returns-clause-acts c =
    let x = c.args.keeping.now in
    begun_acts x c.in-Some.command.now c.begin_command.new.partners c.begin.new.self c.requires.kept c.requires.may
    (next_is x c.in-Some.command.now c.boots-boot.result c.begun.result c.in-Some.ensures c.boots-boot.ensures c.begun.ensures)
    (c.begin.ensures ∙ ap (λ (turns : ℕ). script_acted Begun turns x.script) c.turns.ensures)
    c.begin_command.ensures
