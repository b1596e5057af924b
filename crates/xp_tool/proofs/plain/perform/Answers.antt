use Rattle.std.proofs.Common.{rules, ◌≡◌, Option, Some, subst}
use Rattle.xp_tool.specs.declared.command.ToolCommand.{ToolCommand}
use Rattle.xp_tool.specs.Plain.{plain_command_of}
use Rattle.xp_tool.specs.Made.{Outcome}
use Rattle.xp_tool.proofs.Outcomes.{wrote, command_reads_nothing}
use Rattle.xp_tool.proofs.plain.perform.Goals as goal

pub returns-in-Ok : goal.returns-in-Ok
returns-in-Ok g c =
    let l = g.S.Source.left in
    let r = g.S.Source.faults in
    let h = g.K.Sink.held in
    let w = g.K.Sink.faults in
    let s = c.args.source.now in
    let s' = c.make.new.source in
    let k = c.args.sink.now in
    let k' = c.write_out.new.sink in
    let done = c.write_out.result in
    let command = c.in-Ok-Some.command in
    let made = c.in-Ok.made in
    let is : Some command ≡ plain_command_of c.args.words.now = search rules in
    let from = c.in-Ok.ensures.made.0 in
    let ended = wrote l r h w command s s' k k' from.input made done.end done.status from.read c.in-Ok.ensures.made.1 from.is c.write_out.ensures in
    record {
      outcome = subst (λ (o : Option ToolCommand). Outcome l r h w o s s' k k' done.end done.status) is ended;
      unread = λ nothing. c.in-Ok.ensures.unread (command_reads_nothing (plain_command_of c.args.words.now) command is nothing);
    }
