use Rattle.std.proofs.Common.{◌≡◌, drop}
use Rattle.xp_tool.proofs.WordLemmas.{has_flag_in}
use Rattle.xp_tool.proofs.words.has_flag.Given as goal

abbrev pub invariant-loop-word : goal.invariant-loop-word
invariant-loop-word l = record {
  rest : has_flag_in l.words ≡ has_flag_in (drop l.word-index l.words);
}
