use Rattle.std.proofs.Common.{◌<◌, ap, sym, ◌∙◌, drop, length, arith}
use Rattle.std.proofs.lemmas.Bool.{eqb-true}
use Rattle.std.proofs.lemmas.Bool.Decides.{nat_tests}
use Rattle.xp_text.proofs.WordLemmas.{no_words, no_words_left, word_cut}
use Rattle.xp_text.proofs.line.first_word.Goals as goal

pub returns-then-is_empty-clause-word : goal.returns-then-is_empty-clause-word
returns-then-is_empty-clause-word c = λ k. no_words c.args.bytes.now c.split_at.result.1.now k (c.split_at.ensures.back ∙ ap (λ n. drop n c.args.bytes.now) c.blank_len-blanks.ensures.len) (eqb-true _ _ (sym c.is_empty.ensures ∙ c.if-is_empty.true))

pub returns-then-from-eq-COMMENT-clause-word : goal.returns-then-from-eq-COMMENT-clause-word
returns-then-from-eq-COMMENT-clause-word c = λ k. no_words_left c.args.bytes.now c.split_at.result.1.now k (c.split_at.ensures.back ∙ ap (λ n. drop n c.args.bytes.now) c.blank_len-blanks.ensures.len) (grind (arith, nat_tests)) c.if-from-eq-COMMENT.true

pub returns-clause-word : goal.returns-clause-word
returns-clause-word c = λ k.
    let lt : 0 < length c.split_at.result.1.now = grind (arith, nat_tests) in
    word_cut c.args.bytes.now c.split_at.result.1.now c.split_at-2.result.0.now c.split_at-2.result.1.now k c.blank_len-blanks.result c.word_len.result c.blank_len-blanks.ensures.len c.split_at.ensures.back c.word_len.ensures.len c.word_len.ensures.within c.split_at-2.ensures.front c.split_at-2.ensures.back lt c.if-from-eq-COMMENT.false
