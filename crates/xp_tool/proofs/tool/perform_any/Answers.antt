use Rattle.std.proofs.Common.{rules, ◌≡◌, ◌∙◌, sym, true, Option, Some, subst}
use Rattle.xp_tool.specs.declared.command.ToolCommand.{ToolCommand}
use Rattle.xp_tool.specs.declared.command.ToolCommand.TheVariants.{Run}
use Rattle.xp_tool.specs.Command.{needs_threads}
use Rattle.xp_tool.specs.Words.{command_of}
use Rattle.xp_tool.specs.Made.{Outcome}
use Rattle.xp_tool.proofs.Outcomes.{wrote}
use Rattle.xp_tool.proofs.Commands.{is_run}
use Rattle.xp_tool.proofs.tool.perform_any.Goals as goal

pub returns-in-Ok-make_run-clause-outcome : goal.returns-in-Ok-make_run-clause-outcome
returns-in-Ok-make_run-clause-outcome g c =
    let l = g.S.Source.left in
    let r = g.S.Source.faults in
    let h = g.K.Sink.held in
    let w = g.K.Sink.faults in
    let s = c.args.source.now in
    let s' = c.make_run.new.source in
    let k = c.args.sink.now in
    let k' = c.write_out.new.sink in
    let done = c.write_out.result in
    let made = c.in-Ok-make_run.made in
    let told : c.in-Ok.command ≡ command_of c.args.words.now = search rules in
    let threads : needs_threads c.in-Ok.command ≡ true = search rules in
    let is : Some Run ≡ command_of c.args.words.now = sym (is_run c.in-Ok.command threads) ∙ told in
    let from = c.in-Ok-make_run.ensures.0 in
    let ended = wrote l r h w Run s s' k k' from.input made done.end done.status from.read c.in-Ok-make_run.ensures.1 from.is c.write_out.ensures in
    subst (λ (o : Option ToolCommand). Outcome l r h w o s s' k k' done.end done.status) is ended
