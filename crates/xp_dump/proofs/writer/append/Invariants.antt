use Rattle.std.proofs.Common.{◌≡◌, ◌++◌, drop}
use Rattle.xp_page.specs.Reading.{bytes_of_words}
use Rattle.xp_dump.proofs.writer.append.Given as goal

abbrev pub invariant-loop-word : goal.invariant-loop-word
invariant-loop-word l = l.out.items
    ++ bytes_of_words (drop l.word-index l.words) ≡ l.initial.out.items ++ bytes_of_words l.words
