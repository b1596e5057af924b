use Rattle.xp_written_words.proofs.Dumps.{kinds_allowed, reached_grammar, reached_dump}
use Rattle.xp_written_words.proofs.words_in_grammar.Goals as goal

pub returns : goal.returns
returns c = record { kinds = kinds_allowed; grammar = reached_grammar; dump = reached_dump }
