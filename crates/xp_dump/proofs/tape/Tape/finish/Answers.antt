use Rattle.std.proofs.Common.{sym, ◌∙◌}
use Rattle.xp_dump.proofs.Whole.{whole_dump}
use Rattle.xp_dump.proofs.tape.Tape.finish.Goals as goal

pub returns-in-Words : goal.returns-in-Words
returns-in-Words c bytes r =
    whole_dump bytes c.args.self c.in-Words.parts c.words_of.result c.requires.filled r
    c.in-Words.is (sym c.is_whole-is_whole.ensures ∙ c.if-is_whole.true) c.words_of.ensures
