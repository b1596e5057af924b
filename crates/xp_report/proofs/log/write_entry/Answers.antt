use Rattle.std.proofs.Common.{refl, string_bytes}
use Rattle.xp_report.specs.Lines.{line_end}
use Rattle.xp_report.specs.Answers.{answer_text}
use Rattle.xp_report.specs.Log.{command_text, entry_text}
use Rattle.xp_report.proofs.Texts.{joined3}
use Rattle.xp_report.proofs.log.write_entry.Goals as goal

pub returns : goal.returns
unfolding entry_text
returns c =
    let e = c.args.entry.now in
    joined3 c.writeln.result (string_bytes c.writeln.new.self) (string_bytes c.write_answer.new.out) (string_bytes c.write_command.new.out) (string_bytes c.args.out.now)
    (command_text e) (answer_text e.answer) line_end (entry_text e)
    c.in_ok-write_command.ensures c.in_ok-write_answer.ensures c.writeln.ensures.bytes refl
