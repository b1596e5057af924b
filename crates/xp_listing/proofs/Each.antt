-- Lines that are written one after the other.
use Rattle.std.proofs.Common.{◌≡◌, ℕ, suc, ◌+◌, ◌-◌, ◌<◌, List, [], ◌++◌, append_assoc, refl, ap, sym, ◌∙◌, subst, arith}
use Rattle.std.proofs.lemmas.List.{append-nil}
use Rattle.std.specs.Prelude.{Bool, true, false, if◌then◌else◌, Result, OnOk}
use Rattle.std.proofs.lemmas.Result.{on_ok_weaker}
use Rattle.xp_listing.specs.Listing.{each}

each_more : (line : ℕ → List ℕ) (k n : ℕ) → k < n → each line k (n - k) ≡ line k
    ++ each line (k + 1) (n - (k + 1))
unfolding each
each_more line k n h =
    let e : n - k ≡ suc (n - (k + 1)) = omega arith in
    ap (each line k) e

each_none : (line : ℕ → List ℕ) (n : ℕ) → each line n (n - n) ≡ []
unfolding each
each_none line n = let e : n - n ≡ 0 = omega arith in ap (each line n) e

pub next_line : (line : ℕ → List ℕ) (k n : ℕ) (old new whole : List ℕ) → k < n → old
    ++ each line k (n - k) ≡ whole → new ≡ old ++ line k → new
    ++ each line (k + 1) (n - (k + 1)) ≡ whole
next_line line k n old new whole h e f =
    ap (λ (s : List ℕ). s ++ each line (k + 1) (n - (k + 1))) f
    ∙ append_assoc old (line k) (each line (k + 1) (n - (k + 1)))
    ∙ ap (λ (s : List ℕ). old ++ s) (sym (each_more line k n h)) ∙ e

pub last_line : (line : ℕ → List ℕ) (n : ℕ) (out whole : List ℕ) → out
    ++ each line n (n - n) ≡ whole → out ≡ whole
last_line line n out whole e = sym (append-nil out)
    ∙ ap (λ (s : List ℕ). out ++ s) (sym (each_none line n)) ∙ e

pub all_lines : (line : ℕ → List ℕ) (k n : ℕ) (out whole : List ℕ) → k ≡ n → out
    ++ each line k (n - k) ≡ whole → out ≡ whole
all_lines line k n out whole e h =
    last_line line n out whole (subst (λ (j : ℕ). out ++ each line j (n - j) ≡ whole) e h)

pub if_true : (b : Bool) (x y : List ℕ) → b ≡ true → (if b then x else y) ≡ x
if_true true x y h = refl
if_true false x y h = absurd (cc)

-- a text, and then one that may fail
pub finally : {T E : Type 0} (r : Result T E) (new mid old x y : List ℕ) → mid ≡ old ++ x
    → OnOk r (new ≡ mid ++ y) → OnOk r (new ≡ old ++ (x ++ y))
finally r new mid old x y e h =
    on_ok_weaker r (λ g. g ∙ ap (λ (m : List ℕ). m ++ y) e ∙ append_assoc old x y) h
