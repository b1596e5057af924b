-- Texts that are written one after the other.
use Rattle.std.proofs.Common.{◌≡◌, ℕ, List, ◌++◌, ap, ◌∙◌, append_assoc, Result, OnOk}
use Rattle.std.proofs.lemmas.Result.{on_ok_weaker}

-- two texts, the second of which may fail
pub joined : {T E : Type 0} (r : Result T E) (new mid old x y z : List ℕ) → mid ≡ old ++ x → OnOk r (new ≡ mid ++ y) → x ++ y ≡ z → OnOk r (new ≡ old ++ z)
joined r new mid old x y z e h f = on_ok_weaker r (λ g. g ∙ ap (λ (m : List ℕ). m ++ y) e ∙ append_assoc old x y ∙ ap (λ (w : List ℕ). old ++ w) f) h

pub after : (mid old x : List ℕ) (new y : List ℕ) → mid ≡ old ++ x → new ≡ mid ++ y → new ≡ old ++ (x ++ y)
after mid old x new y e h = h ∙ ap (λ (m : List ℕ). m ++ y) e ∙ append_assoc old x y

-- three texts
pub joined3 : {T E : Type 0} (r : Result T E) (new m2 m1 old x y w z : List ℕ) → m1 ≡ old ++ x → m2 ≡ m1 ++ y → OnOk r (new ≡ m2 ++ w) → x ++ (y ++ w) ≡ z → OnOk r (new ≡ old ++ z)
joined3 r new m2 m1 old x y w z e f h g = joined r new m2 old (x ++ y) w z (after m1 old x m2 y e f) h (append_assoc x y w ∙ g)

-- four texts
pub joined4 : {T E : Type 0} (r : Result T E) (new m3 m2 m1 old x y w v z : List ℕ) → m1 ≡ old ++ x → m2 ≡ m1 ++ y → m3 ≡ m2 ++ w → OnOk r (new ≡ m3 ++ v) → x ++ (y ++ (w ++ v)) ≡ z → OnOk r (new ≡ old ++ z)
joined4 r new m3 m2 m1 old x y w v z e f g h i =
    joined3 r new m3 m1 old x (y ++ w) v z e (after m2 m1 y m3 w f g) h
    (ap (λ t. x ++ t) (append_assoc y w v) ∙ i)
