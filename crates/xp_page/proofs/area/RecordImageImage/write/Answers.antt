use Rattle.std.proofs.Common.{◌≡◌, ℕ, ◌^◌, ◌<◌, List, [], ◌∷◌, get_or, refl, subst}
use Rattle.xp_page.specs.declared.area.RecordImage.{RecordImage}
use Rattle.xp_page.specs.Grammar.{record_table}
use Rattle.xp_page.proofs.ReadLemmas.{read_back}
use Rattle.xp_page.proofs.area.RecordImageImage.write.Goals as goal

abbrev words_of : RecordImage → List ℕ
words_of x = x.magic ∷ x.session ∷ x.echo ∷ x.args ∷ x.counters ∷ x.flags ∷ x.channels ∷ x.padding
    ∷ []

same : (x y : RecordImage) → words_of y ≡ words_of x → y ≡ x
same x y e = λ i. record {
  magic = get_or (e i) 0 0;
  session = get_or (e i) 1 0;
  echo = get_or (e i) 2 0;
  args = get_or (e i) 3 0;
  counters = get_or (e i) 4 0;
  flags = get_or (e i) 5 0;
  channels = get_or (e i) 6 0;
  padding = get_or (e i) 7 0;
}

pub returns-clause-back : goal.returns-clause-back
returns-clause-back c at rest r h q =
    let small = subst (λ (ws : List ℕ). (i : ℕ)
    → get_or ws i 0 < 2 ^ 64) c.to_words.ensures c.append.ensures.range in
    read_back words_of (record_table at) at.offset c.args.self.now rest r
    (same c.args.self.now) refl small h q
