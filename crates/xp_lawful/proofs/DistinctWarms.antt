-- Lines of warm channels one after the other: no later line is of the pair and channel of an
-- earlier one.
use Rattle.std.proofs.Common.{◌≡◌, ℕ, ◌+◌, ◌<◌, ◌↔◌, true, false, List, ◌∷◌, length, drop, get_or, ap, sym, ◌∙◌, subst}
use Rattle.std.specs.List.{list_any}
use Rattle.std.proofs.lemmas.List.{drop_more}
use Rattle.xp_script.specs.declared.setting.Warm.{Warm}
use Rattle.xp_script.specs.Lawful.{join_the_same, AreDistinctWarms}

split : (ws : List Warm) (i : ℕ) (w : Warm) → i < length ws → w ≡ get_or ws i w → drop i ws ≡ w ∷ drop (i + 1) ws
split ws i w low is = drop_more ws i w low ∙ ap (λ (x : Warm). x ∷ drop (i + 1) ws) (sym is)

-- a line more that is another than all behind it
pub distinct_more : (ws : List Warm) (i : ℕ) (w : Warm) → i < length ws → w ≡ get_or ws i w → list_any (join_the_same w) (drop (i + 1) ws) ≡ false → AreDistinctWarms (drop i ws) ↔ AreDistinctWarms ws → AreDistinctWarms (drop (i + 1) ws) ↔ AreDistinctWarms ws
distinct_more ws i w low is none t = (
  (λ h. t.0 (subst AreDistinctWarms (sym (split ws i w low is)) (none, h))),
  (λ all. (subst AreDistinctWarms (split ws i w low is) (t.1 all)).1),
)

-- one that isn't
pub not_distinct : (ws : List Warm) (i : ℕ) (w : Warm) → i < length ws → w ≡ get_or ws i w → list_any (join_the_same w) (drop (i + 1) ws) ≡ true → AreDistinctWarms (drop i ws) ↔ AreDistinctWarms ws → AreDistinctWarms ws → true ≡ false
not_distinct ws i w low is some t all = sym some ∙ (subst AreDistinctWarms (split ws i w low is) (t.1 all)).0
