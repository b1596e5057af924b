use Rattle.std.proofs.Common.{◌≡◌, ℕ, ◌*◌, length, sym, ap, ◌∙◌}
use Rattle.xp_base.specs.declared.layout.TheConstants.{PART_WORDS}
use Rattle.xp_base.specs.Rows.{rows}
use Rattle.xp_base.proofs.RowLemmas.{length-rows}
use Rattle.xp_base.proofs.words.Words.flat.Goals as goal

pub returns-clause-length : goal.returns-clause-length
returns-clause-length c =
    let n : length c.args.self.now ≡ c.self.inside.count = ap length (sym c.self.view_is) ∙ length-rows PART_WORDS c.self.inside.count c.self.inside.words.items in
    ap length c.as_slice.ensures.value ∙ (c.self.invariant.1 ∙ ap (λ (k : ℕ). PART_WORDS * k) (sym n))

pub returns-clause-rows : goal.returns-clause-rows
returns-clause-rows c =
    let n : length c.args.self.now ≡ c.self.inside.count = ap length (sym c.self.view_is) ∙ length-rows PART_WORDS c.self.inside.count c.self.inside.words.items in
    ap (λ (k : ℕ). rows PART_WORDS k c.as_slice.result.now) n ∙ (ap (rows PART_WORDS c.self.inside.count) c.as_slice.ensures.value ∙ c.self.view_is)
