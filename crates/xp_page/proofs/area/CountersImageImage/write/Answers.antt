use Rattle.std.proofs.Common.{◌≡◌, ℕ, ◌^◌, ◌<◌, List, [], ◌∷◌, get_or, refl, subst}
use Rattle.xp_page.specs.declared.area.CountersImage.{CountersImage}
use Rattle.xp_page.specs.Grammar.{counters_table}
use Rattle.xp_page.proofs.ReadLemmas.{read_back}
use Rattle.xp_page.proofs.area.CountersImageImage.write.Goals as goal

abbrev words_of : CountersImage → List ℕ
words_of x = x.get ∷ x.put ∷ []

same : (x y : CountersImage) → words_of y ≡ words_of x → y ≡ x
same x y e = λ i. record { get = get_or (e i) 0 0; put = get_or (e i) 1 0 }

pub returns-clause-back : goal.returns-clause-back
returns-clause-back c at rest r h q =
    let small = subst (λ (ws : List ℕ). (i : ℕ)
    → get_or ws i 0 < 2 ^ 64) c.to_words.ensures c.append.ensures.range in
    read_back words_of (counters_table at) at.offset c.args.self.now rest r
    (same c.args.self.now) refl small h q
