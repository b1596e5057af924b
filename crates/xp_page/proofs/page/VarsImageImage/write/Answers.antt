use Rattle.std.proofs.Common.{◌≡◌, ℕ, ◌^◌, ◌<◌, List, [], ◌∷◌, get_or, refl, subst}
use Rattle.xp_page.specs.declared.page.VarsImage.{VarsImage}
use Rattle.xp_page.specs.Grammar.{vars_table}
use Rattle.xp_page.proofs.ReadLemmas.{read_back}
use Rattle.xp_page.proofs.page.VarsImageImage.write.Goals as goal

abbrev words_of : VarsImage → List ℕ
words_of x = x.beat ∷ x.mask ∷ x.offline ∷ x.activation ∷ x.engaged ∷ x.deactivation ∷ x.records
    ∷ x.padding ∷ []

same : (x y : VarsImage) → words_of y ≡ words_of x → y ≡ x
same x y e = λ i. record {
  beat = get_or (e i) 0 0;
  mask = get_or (e i) 1 0;
  offline = get_or (e i) 2 0;
  activation = get_or (e i) 3 0;
  engaged = get_or (e i) 4 0;
  deactivation = get_or (e i) 5 0;
  records = get_or (e i) 6 0;
  padding = get_or (e i) 7 0;
}

pub returns-clause-back : goal.returns-clause-back
returns-clause-back c at rest r h q =
    let small = subst (λ (ws : List ℕ). (i : ℕ)
    → get_or ws i 0 < 2 ^ 64) c.to_words.ensures c.append.ensures.range in
    read_back words_of (vars_table at) at.offset c.args.self.now rest r
    (same c.args.self.now) refl small h q
