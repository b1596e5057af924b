use Rattle.std.proofs.Common.{ap, ◌∙◌, ◌∷◌, List, ℕ}
use Rattle.xp_text.specs.Payloads.{behind_bytes}
use Rattle.xp_text.proofs.PayloadLemmas.{three_parts}
use Rattle.xp_text.proofs.payloads.push_piece.Goals as goal

pub returns-in-Some-more : goal.returns-in-Some-more
returns-in-Some-more c =
    let first = rw c.in-Some.is at c.first_part.ensures.parts in
    let second = rw c.in-Some-more.is at c.first_part-2.ensures.parts in
    ap (behind_bytes c.args.out.now.items) (three_parts c.args.piece.now c.first_part.result.0.now c.first_part-2.result.0.now c.in-Some-more.field-0.now (first ∙ ap (λ (ps : List (List ℕ)). c.first_part.result.0.now ∷ ps) second))
