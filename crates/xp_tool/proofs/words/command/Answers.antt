use Rattle.std.proofs.Common.{rules, ◌≢◌, sym, ◌∙◌, map, string_bytes}
use Rattle.clap.specs.Simple.{app_of}
use Rattle.clap.specs.Values.{kind_of}
use Rattle.clap.specs.declared.error.kind.ErrorKind.TheVariants as kind
use Rattle.xp_tool.proofs.WordLemmas.{flagged, parsed, failed}
use Rattle.xp_tool.proofs.words.command.Goals as goal

pub returns-then-has_flag : goal.returns-then-has_flag
returns-then-has_flag c = sym (flagged (map string_bytes c.args.words.now) (sym c.has_flag.ensures ∙ c.if-has_flag.true))

pub returns-in-Ok : goal.returns-in-Ok
returns-in-Ok c = c.met.ensures ∙ parsed (app_of c.in_ok-grammar.field-0) (map string_bytes c.args.words.now) c.in-Ok.matches c.in_ok-grammar.ensures (sym c.has_flag.ensures ∙ c.if-has_flag.false) c.in-Ok.ensures.kinds c.in-Ok.ensures.matches

pub returns-in-Err-2 : goal.returns-in-Err-2
returns-in-Err-2 c =
    let no : kind_of c.in-Err-2.field-0 ≢ kind.OutOfMemory = search rules in
    sym (failed (app_of c.in_ok-grammar.field-0) (map string_bytes c.args.words.now) c.in-Err-2.field-0 c.in_ok-grammar.ensures (sym c.has_flag.ensures ∙ c.if-has_flag.false) c.in-Err-2.ensures.kinds no)
