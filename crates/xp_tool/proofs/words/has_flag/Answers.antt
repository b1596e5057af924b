use Rattle.std.proofs.Common.{refl, sym, ap, ◌∙◌}
use Rattle.xp_tool.specs.Words.{is_flag}
use Rattle.xp_tool.proofs.WordLemmas.{flag_here, flag_later, no_flag_left}
use Rattle.xp_tool.proofs.words.has_flag.Goals as goal

pub loop-word-init : goal.loop-word-init
loop-word-init c = record { rest = refl }

pub returns-then-is_flag : goal.returns-then-is_flag
returns-then-is_flag c =
    let here = ap is_flag (sym c.deref.ensures) ∙ sym c.is_flag.ensures ∙ c.if-is_flag.true in
    sym (c.loop-word.invariant.rest ∙ flag_here c.args.words.now c.loop-word.word-index c.word-item.result c.loop-word-test.true c.word-item.is here)

pub loop-word-preserved : goal.loop-word-preserved
loop-word-preserved c =
    let here = ap is_flag (sym c.deref.ensures) ∙ sym c.is_flag.ensures ∙ c.if-is_flag.false in
    record { rest = c.loop-word.invariant.rest ∙ flag_later c.args.words.now c.loop-word.word-index c.word-item.result c.loop-word-test.true c.word-item.is here }

pub returns : goal.returns
returns c = sym (c.loop-word.invariant.rest ∙ no_flag_left c.args.words.now c.loop-word.word-index c.loop-word-test.false)
