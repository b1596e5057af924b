use Rattle.std.proofs.Common.{◌≡◌, ℕ, ◌*◌, length, sym, ap, ◌∙◌}
use Rattle.xp_base.specs.declared.layout.TheConstants.{PART_WORDS}
use Rattle.xp_base.proofs.RowLemmas.{length-rows}
use Rattle.xp_base.proofs.words.Words.put_all.Goals as goal

pub copy_from_slice-requires : goal.copy_from_slice-requires
copy_from_slice-requires c =
    let n : length c.args.self.now ≡ c.self.inside.count = ap length (sym c.self.view_is) ∙ length-rows PART_WORDS c.self.inside.count c.self.inside.words.items in
    let k : length c.args.from.now ≡ c.from.inside.count = ap length (sym c.from.view_is) ∙ length-rows PART_WORDS c.from.inside.count c.from.inside.words.items in
    let same : c.self.inside.count ≡ c.from.inside.count = sym n ∙ (c.requires ∙ k) in
    ap length c.as_mut_slice.ensures.value ∙ (c.self.invariant.1 ∙ (ap (λ (j : ℕ). PART_WORDS * j) same ∙ (sym c.from.invariant.1 ∙ ap length (sym c.as_slice.ensures.value))))
