use Rattle.std.proofs.Common.{◌≡◌, ℕ, ◌^◌, ◌<◌, List, ◌∷◌, get_or, drop, subst, arith}
use Rattle.xp_page.specs.declared.entry.EntryImage.{EntryImage}
use Rattle.xp_page.specs.Grammar.{entry_table}
use Rattle.xp_page.proofs.ReadLemmas.{read_back}
use Rattle.xp_page.proofs.entry.EntryImageImage.write.Goals as goal

abbrev words_of : EntryImage → List ℕ
words_of x = x.length ∷ x.number ∷ x.payload

same : (x y : EntryImage) → words_of y ≡ words_of x → y ≡ x
same x y e = λ i. record {
  length = get_or (e i) 0 0;
  number = get_or (e i) 1 0;
  payload = drop 2 (e i);
}

pub returns-clause-back : goal.returns-clause-back
returns-clause-back c at rest r h q =
    let small = subst (λ (ws : List ℕ). (i : ℕ)
    → get_or ws i 0 < 2 ^ 64) c.to_words.ensures.value c.append.ensures.range in
    read_back words_of (entry_table at) at.offset c.args.self.now rest r (same c.args.self.now)
    (omega (arith, c.to_words.ensures.size)) small h q
