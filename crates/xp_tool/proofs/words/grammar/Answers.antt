use Rattle.std.proofs.Common.{rules, ◌≡◌, ap, ap₂, ◌∙◌, codes, true, []}
use Rattle.std.proofs.lemmas.Result.{IfOk-weaker}
use Rattle.clap.specs.Simple.{App, app_of, new_shape, with_subcommand}
use Rattle.xp_tool.proofs.words.grammar.Goals as goal

-- the program without its commands
abbrev bare : App
bare = record {
  top = record (new_shape (codes "xpsim")) {
    no_binary_name = true;
    disable_help_flag = true;
    disable_help_subcommand = true;
    subcommand_required = true;
  };
  subs = [];
}

pub returns : goal.returns
returns c =
    let top = λ (a : App). a.top in
    let program : app_of c.subcommand_required-program.result ≡ bare = search rules in
    let one = c.in_ok-subcommand.ensures.shape c.new-2.ensures.local ∙ ap₂ with_subcommand program (ap top c.new-2.ensures.app) in
    let two = c.in_ok-subcommand-2.ensures.shape c.new-3.ensures.local ∙ ap₂ with_subcommand one (ap top c.new-3.ensures.app) in
    let three = c.in_ok-subcommand-3.ensures.shape c.new-4.ensures.local ∙ ap₂ with_subcommand two (ap top c.new-4.ensures.app) in
    let four = c.in_ok-subcommand-4.ensures.shape c.new-5.ensures.local ∙ ap₂ with_subcommand three (ap top c.new-5.ensures.app) in
    let five = c.in_ok-subcommand-5.ensures.shape c.in_ok-numbered_grammar.ensures.local ∙ ap₂ with_subcommand four (ap top c.in_ok-numbered_grammar.ensures.app) in
    IfOk-weaker c.subcommand-6.result _ _ (λ r h. h.shape c.in_ok-numbered_grammar-2.ensures.local ∙ ap₂ with_subcommand five (ap top c.in_ok-numbered_grammar-2.ensures.app)) c.subcommand-6.ensures
