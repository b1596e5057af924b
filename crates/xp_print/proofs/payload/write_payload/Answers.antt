use Rattle.std.proofs.Common.{ℕ, ◌<◌, ◌++◌, List, length, sym, ap, ◌∙◌, arith, rules, string_bytes}
use Rattle.std.proofs.lemmas.Bool.{eqb-true}
use Rattle.std.proofs.lemmas.Bool.Decides.{nat_tests}
use Rattle.xp_print.proofs.PayloadWords.{no_bytes, first_byte}
use Rattle.xp_print.proofs.payload.write_payload.Goals as goal

pub returns-then-is_empty : goal.returns-then-is_empty
returns-then-is_empty c =
    rw (no_bytes c.args.bytes.now (eqb-true _ _ (sym c.is_empty.ensures ∙ c.if-is_empty.true))) (search rules)

pub loop-next-init : goal.loop-next-init
loop-next-init c =
    let some : 0 < length c.args.bytes.now = grind (arith, nat_tests) in
    record {
      text = ap (λ (text : List ℕ). string_bytes c.args.out.now ++ text) (first_byte c.args.bytes.now some);
      count = omega arith;
    }
