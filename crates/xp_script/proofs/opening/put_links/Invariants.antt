use Rattle.std.proofs.Common.{◌≡◌, length, drop}
use Rattle.xp_script.specs.Opening.{all_link_words, put_words}
use Rattle.xp_script.proofs.opening.put_links.Given as goal

abbrev pub invariant-loop-link : goal.invariant-loop-link
invariant-loop-link l = record {
  words : put_words l.words l.part (all_link_words (drop l.link-index l.links)) ≡ put_words l.initial.words l.part (all_link_words l.links);
  count : length l.words ≡ length l.initial.words;
}
