use Rattle.std.proofs.Common.{◌≡◌, ℕ, ◌^◌, ◌<◌, List, [], ◌∷◌, get_or, refl, subst}
use Rattle.xp_page.specs.declared.page.PageImage.{PageImage}
use Rattle.xp_page.specs.Grammar.{page_table}
use Rattle.xp_page.proofs.ReadLemmas.{read_back}
use Rattle.xp_page.proofs.page.PageImageImage.write.Goals as goal

abbrev words_of : PageImage → List ℕ
words_of x = x.signature ∷ x.version ∷ x.owner ∷ x.variables ∷ x.stamp ∷ x.partitions
    ∷ x.padding_six ∷ x.padding_seven ∷ []

same : (x y : PageImage) → words_of y ≡ words_of x → y ≡ x
same x y e = λ i. record {
  signature = get_or (e i) 0 0;
  version = get_or (e i) 1 0;
  owner = get_or (e i) 2 0;
  variables = get_or (e i) 3 0;
  stamp = get_or (e i) 4 0;
  partitions = get_or (e i) 5 0;
  padding_six = get_or (e i) 6 0;
  padding_seven = get_or (e i) 7 0;
}

pub returns-clause-back : goal.returns-clause-back
returns-clause-back c at rest r h q =
    let small = subst (λ (ws : List ℕ). (i : ℕ)
    → get_or ws i 0 < 2 ^ 64) c.to_words.ensures c.append.ensures.range in
    read_back words_of (page_table at) at.offset c.args.self.now rest r
    (same c.args.self.now) refl small h q
