-- The lines of the commands that were begun.
use Rattle.std.specs.Prelude.{ℕ, List, [], ◌∷◌, codes}
use Rattle.std.specs.Fmt.{decimal}
use Rattle.xp_base.specs.Show.{◌⧺◌}
use Rattle.xp_script.specs.declared.log.Entry.{Entry}
use Rattle.xp_script.specs.Commands.{verb_text}
use Rattle.xp_report.specs.Lines.{line_end}
use Rattle.xp_report.specs.Answers.{answer_text}

-- the boot, the number in the script of that boot, and the word of a command
unfoldable pub command_text : Entry → List ℕ
command_text e =
    codes "  " ⧺ decimal e.boot ⧺ codes " " ⧺ decimal e.number ⧺ codes " " ⧺ verb_text e.verb
    ⧺ codes " "

-- the line of a command: which it is, and its answer
unfoldable pub entry_text : Entry → List ℕ
entry_text e = command_text e ⧺ answer_text e.answer ⧺ line_end

abbrev pub entries_text : List Entry → List ℕ
entries_text [] = []
entries_text (e ∷ more) = entry_text e ⧺ entries_text more
