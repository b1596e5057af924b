use Rattle.std.proofs.Common.{◌≡◌, ap, sym, ◌∙◌, Some, None, option_and_then}
use Rattle.xp_tool.specs.Words.{numbered_of, number_of}
use Rattle.xp_tool.proofs.WordLemmas.{met}
use Rattle.xp_tool.proofs.words.met.Goals as goal

pub returns-in_err-number-in-Some : goal.returns-in_err-number-in-Some
returns-in_err-number-in-Some c =
    let name = c.in_ok-name.name.now in
    let word = c.in-Some.word.now in
    let found = met c.args.matches.now c.in_ok-name.own.now name (Some word) c.in_ok-name.ensures.name c.in_ok-name.ensures.rows c.in-Some.ensures in
    let spelled : None ≡ number_of word = c.in_err-number-in-Some.ensures in
    c.from_residual-in_err-number-in-Some.ensures ∙ ap (option_and_then (numbered_of name)) spelled ∙ sym found

pub returns-in_ok-number-in-Some : goal.returns-in_ok-number-in-Some
returns-in_ok-number-in-Some c =
    let name = c.in_ok-name.name.now in
    let word = c.in-Some.word.now in
    let found = met c.args.matches.now c.in_ok-name.own.now name (Some word) c.in_ok-name.ensures.name c.in_ok-name.ensures.rows c.in-Some.ensures in
    c.numbered.ensures ∙ ap (option_and_then (numbered_of name)) c.in_ok-number-in-Some.ensures ∙ sym found

pub returns-in-None : goal.returns-in-None
returns-in-None c =
    let name = c.in_ok-name.name.now in
    let found = met c.args.matches.now c.in_ok-name.own.now name None c.in_ok-name.ensures.name c.in_ok-name.ensures.rows c.in-None.ensures in
    c.named.ensures ∙ sym found
