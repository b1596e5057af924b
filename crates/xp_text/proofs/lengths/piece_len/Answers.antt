use Rattle.std.proofs.Common.{◌≡◌, ap, sym, ◌∙◌, ◌∷◌, List, ℕ, length, Option}
use Rattle.std.specs.Option.{option_map}
use Rattle.xp_text.proofs.PayloadLemmas.{three_parts}
use Rattle.xp_text.proofs.lengths.piece_len.Goals as goal

pub returns-in-Some-more : goal.returns-in-Some-more
returns-in-Some-more c =
    let first = rw c.in-Some.is at c.first_part.ensures.parts in
    let second = rw c.in-Some-more.is at c.first_part-2.ensures.parts in
    sym (ap (λ (o : Option (List ℕ)). option_map length o) (three_parts c.args.piece.now c.first_part.result.0.now c.first_part-2.result.0.now c.in-Some-more.field-0.now (first ∙ ap (λ (ps : List (List ℕ)). c.first_part.result.0.now ∷ ps) second)))
