use Rattle.std.proofs.Common.{◌≡◌, ◌-◌, Bool, true, false, nat_lt, List, ap, ◌∙◌, sym, refl, arith}
use Rattle.std.proofs.lemmas.Bool.Decides.{nat_tests}
use Rattle.std.specs.Prelude.{if◌then◌else◌}
use Rattle.xp_base.specs.declared.layout.TheConstants.{VARIABLES_AT}
use Rattle.xp_page.specs.declared.image.At.{At}
use Rattle.xp_page.specs.declared.grammar.Row.{Row}
use Rattle.xp_page.specs.Grammar.{page_table, vars_table}
use Rattle.xp_page.specs.Reading.{row_at}
use Rattle.xp_dump_table.proofs.table.Part.open_row.Goals as goal

if_true : (b : Bool) (x y : Row) → b ≡ true → (if b then x else y) ≡ x
if_true true x y h = refl
if_true false x y h = absurd (cc)

if_false : (b : Bool) (x y : Row) → b ≡ false → (if b then x else y) ≡ y
if_false true x y h = absurd (cc)
if_false false x y h = refl

pub returns-then-number-lt-VARIABLES_AT : goal.returns-then-number-lt-VARIABLES_AT
returns-then-number-lt-VARIABLES_AT c =
    let low : nat_lt c.args.number VARIABLES_AT ≡ true = grind (arith, nat_tests) in
    c.nth.ensures ∙ ap (λ (rows : List Row). row_at rows c.args.number) c.page_rows.ensures
    ∙ ap (λ (at : At). row_at (page_table at) c.args.number) c.at.ensures
    ∙ sym (if_true (nat_lt c.args.number VARIABLES_AT) _ _ low)

pub returns-else-number-lt-VARIABLES_AT : goal.returns-else-number-lt-VARIABLES_AT
returns-else-number-lt-VARIABLES_AT c =
    let high : nat_lt c.args.number VARIABLES_AT ≡ false = grind (arith, nat_tests) in
    c.nth-else-number-lt-VARIABLES_AT.ensures
    ∙ ap (λ (rows : List Row). row_at rows (c.args.number - VARIABLES_AT)) c.vars_rows.ensures
    ∙ ap (λ (at : At). row_at (vars_table at)
    (c.args.number - VARIABLES_AT)) c.at-else-number-lt-VARIABLES_AT.ensures
    ∙ sym (if_false (nat_lt c.args.number VARIABLES_AT) _ _ high)
